use Rattle.std.proofs.Common.{◌∙◌, ap, sym, map, drop, length}
use Rattle.desk_findings.specs.Mass.{own_mass}
use Rattle.desk_history.proofs.SoundClauses.{bill_of}
use Rattle.desk_tables.proofs.HeavyParts.{masses_of_parts, slice_to_end}
use Rattle.desk_tables.proofs.Taken.{take_whole}
use Rattle.desk_tables.proofs.table_lists.TableLists.masses.Goals as goal

pub returns : goal.returns
returns c =
    let t = c.args.self.now in
    let own = c.as_slice.ensures.value ∙ c.in_ok-own.ensures ∙ ap (map (own_mass t)) (sym c.requires.bill.nodes) in
    let amounts = c.in_ok-of_nodes.ensures.amounts t (own_mass t) c.requires.bill (bill_of t c.requires.consistent) own in
    c.loop-mass.invariant
    ∙ take_whole _ c.loop-mass.mass-index c.loop-mass-test.false
    ∙ slice_to_end (length c.materials.result.now) c.as_slice-2.result.now
    ∙ ap (λ n. drop n c.as_slice-2.result.now) (ap length c.materials.ensures)
    ∙ ap (drop (length t.materials)) c.as_slice-2.ensures.value
    ∙ masses_of_parts c.args.bill.now t c.in_ok-of_nodes.of_nodes.items c.requires.bill amounts
