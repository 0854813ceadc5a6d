-- Where neither a node nor a child of it has a mark, it has none.
use Rattle.std.proofs.Common.{◌≡◌, ◌∙◌, ℕ, [], ap, inl, sym}
use Rattle.std.proofs.lemmas.Bool.{eqb-true}
use Rattle.std.proofs.lemmas.List.{nil_from_length}
use Rattle.desk_rollup.specs.Gathered.{all_hops}
use Rattle.desk_rollup.specs.Places.{known, place_at}
use Rattle.desk_rollup.specs.Values.{RolledValues}
use Rattle.desk_rollup.proofs.roller.Roller.roll.Goals as goal

pub returns-then-is_empty-2-clause-hops : goal.returns-then-is_empty-2-clause-hops
returns-then-is_empty-2-clause-hops c =
    let below : ℕ → RolledValues = λ child. known (place_at c.args.values.now.places.now child) c.args.values.now.kept.now c.args.values.now.new.now child in
    let own = c.own.inside in
    let no_marks : own.marks.items ≡ [] = nil_from_length own.marks.items (sym own.marks.ok.0 ∙ eqb-true own.marks.len 0 (sym c.if-is_empty.ensures)) in
    inl
    (c.in_ok-hops.ensures.hops
    ∙ c.clear.ensures
    ∙ sym (c.in-Some.ensures.none c.if-sum.true).0
    ∙ ap (λ marks. all_hops below marks c.args.lines.now) (sym no_marks ∙ ap (λ o. o.marks) c.own.view_is))
