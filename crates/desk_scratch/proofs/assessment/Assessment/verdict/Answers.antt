-- The terms are those of the tables' exemption rows, which stand in order.
use Rattle.std.proofs.Common.{sym, subst}
use Rattle.std.specs.List.Sorted.{IsSortedByKey}
use Rattle.desk_text.specs.Code.{code_cmp}
use Rattle.desk_scratch.proofs.TermsInOrder.{terms_in_order}
use Rattle.desk_scratch.proofs.assessment.Assessment.verdict.Goals as goal

pub judge-requires-clause-in_order : goal.judge-requires-clause-in_order
judge-requires-clause-in_order c =
    subst (IsSortedByKey (λ row. row.row) code_cmp) (sym c.self.invariant.1)
    (terms_in_order c.self.inside.tables.now.lists.exemptions c.self.invariant.0.consistent.ordered.exemptions)
