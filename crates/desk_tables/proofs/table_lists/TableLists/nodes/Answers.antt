-- The codes of the rows so far, material by material and then part by part.
use Rattle.std.proofs.Common.{◌≡◌, ◌∙◌, ℕ, ◌+◌, ◌<◌, [], ◌∷◌, ◌++◌, List, ap, append_assoc, get_or, length, map, sym, take}
use Rattle.std.proofs.lemmas.List.{append-nil, map_more}
use Rattle.desk_model.specs.declared.rows.material.MaterialRow.{MaterialRow}
use Rattle.desk_model.specs.declared.rows.part.PartRow.{PartRow}
use Rattle.desk_tables.proofs.Taken.{take_whole}
use Rattle.desk_tables.proofs.table_lists.TableLists.nodes.Goals as goal

-- one more is pushed behind those of the first rows
pushed : {X Y : Type 0} (f : X → Y) (xs : List X) (i : ℕ) (x : X) → i < length xs → x ≡ get_or xs i x → map f (take i xs) ++ f x ∷ [] ≡ map f (take (i + 1) xs)
pushed f xs i x low is = ap (λ y. map f (take i xs) ++ f y ∷ []) is ∙ sym (map_more f xs i x low)

pub loop-material-preserved : goal.loop-material-preserved
loop-material-preserved c =
    let (done, same) = c.loop-material.invariant in
    let more = pushed (λ (row : MaterialRow). row.code) _ c.loop-material.material-index c.material-item.result c.loop-material-test.true c.material-item.is in
    (c.in_ok-push.ensures.items ∙ ap (λ l. l ++ c.material-item.result.code ∷ []) done ∙ more, same)

pub loop-part-init : goal.loop-part-init
loop-part-init c =
    let (done, same) = c.loop-material.invariant in
    let all = done ∙ ap (map (λ (row : MaterialRow). row.code)) (take_whole _ c.loop-material.material-index c.loop-material-test.false ∙ same) in
    (all ∙ sym (append-nil _), c.parts-part-items.ensures)

pub loop-part-preserved : goal.loop-part-preserved
loop-part-preserved c =
    let (done, same) = c.loop-part.invariant in
    let front = map (λ (row : MaterialRow). row.code) c.args.self.now.materials in
    let before = map (λ (row : PartRow). row.code) (take c.loop-part.part-index c.parts-part-items.result.now) in
    let more = pushed (λ (row : PartRow). row.code) _ c.loop-part.part-index c.part-item.result c.loop-part-test.true c.part-item.is in (
      c.in_ok-push-2.ensures.items ∙ ap (λ l. l ++ c.part-item.result.code ∷ []) done ∙ append_assoc front before (c.part-item.result.code ∷ []) ∙ ap (λ l. front ++ l) more,
      same,
    )

pub returns : goal.returns
returns c =
    let (done, same) = c.loop-part.invariant in
    let front = map (λ (row : MaterialRow). row.code) c.args.self.now.materials in
    done ∙ ap (λ parts. front ++ map (λ (row : PartRow). row.code) parts) (take_whole _ c.loop-part.part-index c.loop-part-test.false ∙ same)
