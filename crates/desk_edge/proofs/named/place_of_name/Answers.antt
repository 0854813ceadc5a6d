use Rattle.std.proofs.Common.{ap, sym, ◌∙◌, is_eq}
use Rattle.desk_edge.specs.Shelves.{name_cmp}
use Rattle.desk_edge.proofs.FirstNamed.{first_has, none_has}
use Rattle.desk_edge.proofs.named.place_of_name.Goals as goal

pub returns-then-is_name : goal.returns-then-is_name
returns-then-is_name c =
    first_has (λ own. own) c.args.name.now c.args.names.now c.loop-place.place c.index-names-place.result c.loop-place-test.true c.loop-place.invariant
    (ap (λ own. is_eq (name_cmp own c.args.name.now)) (sym c.index-names-place.is) ∙ sym c.if-is_name.ensures)

pub returns : goal.returns
returns c = none_has (λ own. own) c.args.name.now c.args.names.now c.loop-place.place c.loop-place-test.false c.loop-place.invariant
