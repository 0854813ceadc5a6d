use Rattle.std.proofs.Common.{◌≡◌, ◌++◌, ◌∙◌, ◌+◌, ◌<◌, ℕ, List, [], ◌∷◌, Some, ap, append_assoc, get_or, length, map, sym, subst, take}
use Rattle.std.specs.List.{AllByRecursion}
use Rattle.std.proofs.lemmas.List.{append-nil, map_more}
use Rattle.desk_model.specs.declared.rows.material.MaterialRow.{MaterialRow}
use Rattle.desk_model.specs.declared.rows.part.PartRow.{PartRow}
use Rattle.desk_model.specs.Lists.{Lists, part_row}
use Rattle.desk_model.proofs.Kept.{code_cmp_total}
use Rattle.desk_text.specs.Code.{code_cmp}
use Rattle.desk_findings.specs.Carried.{own_load}
use Rattle.desk_tables.proofs.HeavyYears.{at_each}
use Rattle.desk_tables.proofs.OwnMasses.{each_found}
use Rattle.desk_tables.proofs.Taken.{take_whole}
use Rattle.desk_history.specs.Sound.{Sound}
use Rattle.desk_scratch.proofs.Light.{own_loads}
use Rattle.desk_scratch.proofs.bill.Bill.own_loads.Goals as goal

pushed : {X Y : Type 0} (f : X → Y) (xs : List X) (i : ℕ) (x : X) → i < length xs → x ≡ get_or xs i x → map f (take i xs) ++ f x ∷ [] ≡ map f (take (i + 1) xs)
pushed f xs i x low is = ap (λ y. map f (take i xs) ++ f y ∷ []) is ∙ sym (map_more f xs i x low)

pub loop-material-preserved : goal.loop-material-preserved
loop-material-preserved c =
    let (done, same) = c.loop-material.invariant in
    let more = pushed (λ (row : MaterialRow). 0) _ c.loop-material._material-index c._material-item.result c.loop-material-test.true c._material-item.is in
    (c.in_ok-push.ensures.items ∙ ap (λ l. l ++ 0 ∷ []) done ∙ more, same)

pub loop-part-init : goal.loop-part-init
loop-part-init c =
    let (done, same) = c.loop-material.invariant in
    let all = done ∙ ap (map (λ (row : MaterialRow). 0)) (take_whole _ c.loop-material._material-index c.loop-material-test.false ∙ same) in
    (all ∙ sym (append-nil _), c.parts-part-items.ensures ∙ ap (λ (t : Lists). t.parts) c.self.view_is)

pub loop-part-preserved : goal.loop-part-preserved
loop-part-preserved c =
    let (done, same) = c.loop-part.invariant in
    let front = map (λ (row : MaterialRow). 0) c.args.self.now.materials in
    let load = λ (row : PartRow). own_load c.args.self.now c.args.substance.now row.code in
    let before = map load (take c.loop-part.part-index c.parts-part-items.result.now) in
    let more = pushed load _ c.loop-part.part-index c.part-item.result c.loop-part-test.true c.part-item.is in (
      c.in_ok-push-2.ensures.items ∙ ap (λ l. l ++ c.own_load.result ∷ []) done ∙ ap (λ n. (front ++ before) ++ n ∷ []) c.own_load.ensures
          ∙ append_assoc front before (load c.part-item.result ∷ []) ∙ ap (λ l. front ++ l) more,
      same,
    )

pub own_load-requires : goal.own_load-requires
own_load-requires c =
    let t = c.args.self.now in
    let s = subst Sound c.self.view_is c.self.invariant.0 in
    subst (λ row. part_row t row.code ≡ Some row) (sym c.part-item.is)
    (at_each (λ row. part_row t row.code ≡ Some row) c.parts-part-items.result.now c.loop-part.part-index c.part-item.result
    (subst (AllByRecursion (λ row. part_row t row.code ≡ Some row)) (sym c.loop-part.invariant.1) (each_found (λ row. row.code) code_cmp code_cmp_total t.parts s.consistent.ordered.parts))
    c.loop-part-test.true)

pub returns : goal.returns
returns c =
    let t = c.args.self.now in
    let substance = c.args.substance.now in
    c.loop-part.invariant.0
    ∙ ap (λ parts. map (λ row. 0) t.materials ++ map (λ row. own_load t substance row.code) parts) (take_whole _ c.loop-part.part-index c.loop-part-test.false ∙ c.loop-part.invariant.1)
    ∙ own_loads t (subst Sound c.self.view_is c.self.invariant.0) substance
