use Rattle.std.proofs.Common.{◌≤◌, ◌++◌, ◌∙◌, [], ap, length, map, subst, sym}
use Rattle.std.specs.Prelude.{if◌then◌else◌}
use Rattle.std.specs.List.{All, flat_map}
use Rattle.desk_model.specs.declared.limits.TheConstants.{CONTENT_LIMIT}
use Rattle.desk_model.specs.declared.rows.material.MaterialRow.{MaterialRow}
use Rattle.desk_findings.specs.Findings.{findings_on}
use Rattle.desk_findings.specs.Reaches.{reaches}
use Rattle.desk_tables.proofs.HeldMasses.{few_held}
use Rattle.desk_tables.proofs.Taken.{take_whole}
use Rattle.desk_scratch.specs.LookUps.{finding_of}
use Rattle.desk_scratch.proofs.Lines.{flat_map-filter}
use Rattle.desk_scratch.proofs.bill.Bill.push_on_materials.Goals as goal

pub push_if_reached-requires : goal.push_if_reached-requires
push_if_reached-requires c =
    let few = subst (All (λ material. length material.substances ≤ CONTENT_LIMIT)) (sym c.loop-material.invariant.same) (few_held c.args.self.now c.tables.ensures.sound.consistent) in
    subst (λ material. length material.substances ≤ CONTENT_LIMIT) (sym c.material-item.is) (few c.loop-material.material-index c.material-item.result c.loop-material-test.true)

pub returns : goal.returns
returns c =
    let t = c.args.self.now in
    let test = λ (material : MaterialRow). reaches t c.args.part.now material.code in
    let old = map finding_of c.args.list.now.items in
    c.loop-material.invariant.list
    ∙ ap (λ materials. old ++ flat_map (λ material. if test material then findings_on t material else []) materials) (take_whole _ c.loop-material.material-index c.loop-material-test.false ∙ c.loop-material.invariant.same)
    ∙ ap (λ list. old ++ list) (sym (flat_map-filter (findings_on t) test t.materials))
