use Rattle.std.proofs.Common.{◌≡◌, true, MatchOption, subst}
use Rattle.desk_findings.specs.Bill.{is_acyclic}
use Rattle.desk_findings.proofs.Children.{parents_kept}
use Rattle.desk_totals.specs.Cycles.{IsOnCycle}
use Rattle.desk_totals.specs.Linked.{IsLinkedOf}
use Rattle.desk_tables.proofs.tables.Tables.acyclic_bill.Goals as goal

pub cycle_fault_at-requires : goal.cycle_fault_at-requires
cycle_fault_at-requires c =
    let t = c.args.self.now.lists in
    subst (λ found. MatchOption found (is_acyclic t ≡ true) (IsOnCycle t)) c.in-Some.is
    (c.in_ok-place.ensures t (subst (IsLinkedOf c.in_ok-bill.bill) c.lists.ensures c.in_ok-bill.ensures) (parents_kept t c.requires.children))

pub returns-in-None-clause-acyclic : goal.returns-in-None-clause-acyclic
returns-in-None-clause-acyclic c =
    let t = c.args.self.now.lists in
    subst (λ found. MatchOption found (is_acyclic t ≡ true) (IsOnCycle t)) c.in-None.is
    (c.in_ok-place.ensures t (subst (IsLinkedOf c.in_ok-bill.bill) c.lists.ensures c.in_ok-bill.ensures) (parents_kept t c.requires.children))
