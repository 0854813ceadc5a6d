-- What was appended so far are the lines on the first products.
use Rattle.std.proofs.Common.{◌≡◌, ◌++◌, string_bytes, take}
use Rattle.std.specs.List.{flat_map}
use Rattle.desk_scratch.specs.Summary.{standing_line}
use Rattle.desk_scratch.proofs.summary.push_standings.Given as goal

abbrev pub invariant-loop-product : goal.invariant-loop-product
invariant-loop-product g l = record {
  same : l.product-items ≡ (g.S.AnswerSource.lists l.source).products;
  lines : string_bytes l.out ≡ string_bytes l.fn.out ++ flat_map (standing_line (g.S.AnswerSource.lists l.source) l.day) (take l.product-index l.product-items);
}
