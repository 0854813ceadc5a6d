-- What was appended so far are the lines on the first products.
use Rattle.std.proofs.Common.{◌≡◌, ◌++◌, string_bytes, take}
use Rattle.std.specs.List.{flat_map}
use Rattle.desk_scratch.specs.Uses.{product_line}
use Rattle.desk_scratch.proofs.uses.push_product_lines.Given as goal

abbrev pub invariant-loop-product : goal.invariant-loop-product
invariant-loop-product l = string_bytes l.out ≡ string_bytes l.fn.out ++ flat_map product_line (take l.product-index l.products)
