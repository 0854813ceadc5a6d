-- What was appended so far are the blocks of the first materials, of which some verdict was a breach or none.
use Rattle.std.proofs.Common.{◌≡◌, ◌++◌, string_bytes, take}
use Rattle.std.specs.List.{flat_map, list_any}
use Rattle.desk_model.specs.Effect.{declared_row}
use Rattle.desk_scratch.specs.Judgement.{has_breach}
use Rattle.desk_scratch.specs.MaterialBlock.{material_block}
use Rattle.desk_scratch.proofs.check.push_blocks.Given as goal

abbrev pub invariant-loop-material : goal.invariant-loop-material
invariant-loop-material l = record {
  blocks : string_bytes l.out
      ≡ string_bytes l.fn.out ++ flat_map (λ m. material_block l.by.lists l.by.kind l.by.day (declared_row l.declaration m)) (take l.material-index l.declaration.materials);
  breach : l.breach ≡ list_any (λ m. has_breach l.by.lists l.by.kind l.by.day (declared_row l.declaration m)) (take l.material-index l.declaration.materials);
}
