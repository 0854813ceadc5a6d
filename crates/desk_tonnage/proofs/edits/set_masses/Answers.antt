use Rattle.std.proofs.Common.{get_or, set, ap, ◌∙◌}
use Rattle.desk_tonnage.specs.Masses.{with_mass}
use Rattle.desk_tonnage.proofs.Lowered.{changed_more}
use Rattle.desk_tonnage.proofs.edits.set_masses.Goals as goal

pub loop-entry-preserved : goal.loop-entry-preserved
loop-entry-preserved c =
    let entries = c.loop-entry.entries in
    let at = c.loop-entry.entry-index in
    let entry = get_or entries at c.entry-item.result in
    ap (λ m. set entries at (record entry { mass = m })) c.mass_after-entry.ensures ∙ changed_more (with_mass c.args.masses.now) c.args.entries.now entries at c.entry-item.result c.loop-entry-test.true c.loop-entry.invariant
