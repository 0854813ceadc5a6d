-- The products so far are those of the first products that hold the code.
use Rattle.std.proofs.Common.{◌≡◌, ◌∷◌, [], take}
use Rattle.std.specs.Prelude.{if◌then◌else◌}
use Rattle.std.specs.List.{flat_map}
use Rattle.desk_findings.specs.Reaches.{is_or_reaches}
use Rattle.desk_engine.proofs.stored_uses.products_by_row.Given as goal

abbrev pub invariant-loop-product : goal.invariant-loop-product
invariant-loop-product l = record {
  same : l.product-items ≡ l.tables.lists.products;
  products : l.products.items ≡ flat_map (λ product. if is_or_reaches l.tables.lists product.part l.code then product ∷ [] else []) (take l.product-index l.product-items);
}
