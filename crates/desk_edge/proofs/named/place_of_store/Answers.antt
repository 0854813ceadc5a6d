use Rattle.std.proofs.Common.{ap, sym, ◌∙◌, is_eq}
use Rattle.desk_edge.specs.Shelves.{name_cmp}
use Rattle.desk_edge.proofs.FirstNamed.{first_has, none_has}
use Rattle.desk_edge.proofs.named.place_of_store.Goals as goal

pub returns-then-is_name : goal.returns-then-is_name
returns-then-is_name c =
    first_has (λ store. store.0) c.args.name.now c.args.stores.now c.loop-place.place c.index-stores-place.result c.loop-place-test.true c.loop-place.invariant
    (ap (λ store. is_eq (name_cmp store.0 c.args.name.now)) (sym c.index-stores-place.is) ∙ sym c.if-is_name.ensures)

pub returns : goal.returns
returns c = none_has (λ store. store.0) c.args.name.now c.args.stores.now c.loop-place.place c.loop-place-test.false c.loop-place.invariant
