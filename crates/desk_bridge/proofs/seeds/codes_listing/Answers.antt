use Rattle.std.proofs.Common.{◌∙◌, ◌++◌, ◌∷◌, [], ap, arith}
use Rattle.std.specs.Prelude.{if◌then◌else◌}
use Rattle.desk_history.specs.Affected.{lists_substance}
use Rattle.desk_model.specs.declared.rows.material.MaterialRow.{MaterialRow}
use Rattle.desk_bridge.proofs.Loops.{kept_more}
use Rattle.desk_bridge.proofs.seeds.codes_listing.Goals as goal

pub loop-material-preserved : goal.loop-material-preserved
loop-material-preserved c =
    kept_more (lists_substance c.args.substance.now) (λ (row : MaterialRow). row.code) c.args.materials.now c.loop-material.material-index c.material-item.result c.loop-material.codes.items c.push_if.new.list.items _ (omega arith) c.material-item.is
    c.loop-material.invariant
    (c.in_ok-push_if.ensures ∙ ap (λ b. c.loop-material.codes.items ++ (if b then c.material-item.result.code ∷ [] else [])) c.lists_substance-is_listing.ensures)
