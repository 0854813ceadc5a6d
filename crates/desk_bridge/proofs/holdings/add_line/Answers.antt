use Rattle.std.proofs.Common.{◌≡◌, ◌+◌, ◌*◌, ◌<◌, ◌^◌, ◌∙◌, ap, arith, subst, sym}
use Rattle.std.specs.Option.{option_map_or}
use Rattle.desk_findings.specs.Above.{held_mass}
use Rattle.desk_bridge.specs.Own.{amount_held}
use Rattle.desk_bridge.proofs.HeldAmounts.{held_once}
use Rattle.desk_bridge.proofs.OwnRows.{when_ok}
use Rattle.desk_bridge.proofs.holdings.add_line.Goals as goal

pub add_substances-requires-clause-distinct : goal.add_substances-requires-clause-distinct
add_substances-requires-clause-distinct c =
    rw c.as_slice.ensures (held_once c.args.lists.now c.requires.consistent c.args.line.now.child c.in-Some.row.now (sym c.in-Some.ensures))

pub add_substances-requires-clause-fits : goal.add_substances-requires-clause-fits
add_substances-requires-clause-fits c = λ substance.
    rw c.as_slice.ensures
    (subst (λ found. amount_held c.args.held.now.rows substance + c.args.line.now.count * option_map_or (λ material. held_mass substance material.substances) found 0 < 2 ^ 128) (sym c.in-Some.ensures)
    (c.requires.fits substance))

pub returns-in-Some : goal.returns-in-Some
returns-in-Some c =
    when_ok c.add_substances.result c.add_substances.ensures
    (λ added substance.
    added substance
    ∙ ap (λ held. amount_held c.args.held.now.rows substance + c.args.line.now.count * held_mass substance held) c.as_slice.ensures
    ∙ ap (λ found. amount_held c.args.held.now.rows substance + c.args.line.now.count * option_map_or (λ material. held_mass substance material.substances) found 0) c.in-Some.ensures)

pub returns-in-None : goal.returns-in-None
returns-in-None c = λ substance.
    subst (λ found. amount_held c.args.held.now.rows substance ≡ amount_held c.args.held.now.rows substance + c.args.line.now.count * option_map_or (λ material. held_mass substance material.substances) found 0) c.in-None.ensures
    (omega arith)
