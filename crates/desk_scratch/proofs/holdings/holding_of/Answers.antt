-- The members of a substance are one run of the table.
use Rattle.std.proofs.Common.{sym, subst, ap}
use Rattle.desk_text.specs.Code.{code_cmp}
use Rattle.desk_rows.specs.Runs.{IsOneRun}
use Rattle.desk_findings.specs.Share.{members_of}
use Rattle.desk_findings.proofs.Groups.{members_together}
use Rattle.desk_scratch.proofs.holdings.holding_of.Goals as goal

pub returns : goal.returns
returns c =
    let t = c.args.tables.now.lists in
    let substance = c.args.held.now.substance in
    let members = c.run_of.ensures (members_of t substance)
    (subst (λ rows. IsOneRun (λ member. member.substance) code_cmp substance rows (members_of t substance)) (sym c.members.ensures) (members_together t c.requires.consistent.ordered substance)) in
    ap (λ members. record { mass = c.args.held.now.mass; members = members }) members
