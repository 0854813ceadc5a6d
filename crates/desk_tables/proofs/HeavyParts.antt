-- The masses of parts, by the masses of all nodes, and the first that is too heavy.
use Rattle.std.proofs.Common.{◌≡◌, ◌^◌, Bool, true, false, List, [], ◌∷◌, ◌++◌, Option, Some, None, ℕ, map, take, drop, ◌-◌, length, refl, sym, ap, ◌∙◌, suc, nat_lt, if◌then◌else◌, arith}
use Rattle.std.specs.Prelude.{nat_le}
use Rattle.std.proofs.lemmas.List.{length-drop}
use Rattle.desk_tables.proofs.Taken.{take_whole}
use Rattle.std.proofs.Math.Seq.{drop-append_seam}
use Rattle.std.proofs.lemmas.Bool.{le-leb, lt-leb, ltb-false, ltb-true}
use Rattle.desk_model.specs.Lists.{Lists}
use Rattle.desk_findings.specs.Mass.{mass}
use Rattle.desk_totals.specs.Fit.{fit}
use Rattle.desk_totals.specs.Linked.{IsLinkedOf, Linked}

below_bound : (n : ℕ) → nat_lt n (2 ^ 128) ≡ true → nat_le (2 ^ 128) n ≡ false
below_bound n t = lt-leb (2 ^ 128) n (ltb-true n (2 ^ 128) t)

-- a number that fits isn't told as too great, and one that doesn't is
pub none_is_great : (n : ℕ) → fit n ≡ None → nat_le (2 ^ 128) n ≡ true
none_is_great n e = by_test (nat_lt n (2 ^ 128)) refl e
  where
    by_test : (b : Bool) → nat_lt n (2 ^ 128) ≡ b → (if b then Some n else None) ≡ None → nat_le (2 ^ 128) n ≡ true
    by_test true t e = cc
    by_test false t e = le-leb (2 ^ 128) n (ltb-false n (2 ^ 128) t)

pub some_is_small : (n m : ℕ) → fit n ≡ Some m → nat_le (2 ^ 128) n ≡ false
some_is_small n m e = by_test (nat_lt n (2 ^ 128)) refl e
  where
    by_test : (b : Bool) → nat_lt n (2 ^ 128) ≡ b → (if b then Some n else None) ≡ Some m → nat_le (2 ^ 128) n ≡ false
    by_test true t e = below_bound n t
    by_test false t e = cc

map_append : {X Y : Type 0} (f : X → Y) (xs ys : List X) → map f (xs ++ ys) ≡ map f xs ++ map f ys
map_append f [] ys = refl
map_append f (x ∷ xs) ys = ap (λ rest. f x ∷ rest) (map_append f xs ys)

length_map : {X Y : Type 0} (f : X → Y) (xs : List X) → length (map f xs) ≡ length xs
length_map f [] = refl
length_map f (x ∷ xs) = ap suc (length_map f xs)

map_map : {X Y Z : Type 0} (f : Y → Z) (g : X → Y) (xs : List X) → map f (map g xs) ≡ map (λ x. f (g x)) xs
map_map f g [] = refl
map_map f g (x ∷ xs) = ap (λ rest. f (g x) ∷ rest) (map_map f g xs)

-- what is left of the values of all nodes behind those of the materials
pub behind_materials : {X Z Y V : Type 0} (f : Y → V) (g : X → Y) (h : Z → Y) (xs : List X) (zs : List Z) → drop (length xs) (map f (map g xs ++ map h zs)) ≡ map (λ z. f (h z)) zs
behind_materials f g h xs zs =
    ap (drop (length xs)) (map_append f (map g xs) (map h zs))
    ∙ ap (λ n. drop n (map f (map g xs) ++ map f (map h zs))) (sym (length_map f (map g xs) ∙ length_map g xs))
    ∙ drop-append_seam (map f (map g xs)) (map f (map h zs))
    ∙ map_map f h zs

-- the masses of the parts are what is left of the masses of all nodes
pub masses_of_parts : (bill : Linked) (t : Lists) (masses : List (Option ℕ)) → IsLinkedOf bill t → masses ≡ map (λ code. fit (mass t code)) bill.nodes → drop (length t.materials) masses ≡ map (λ part. fit (mass t part.code)) t.parts
masses_of_parts bill t masses of e =
    ap (drop (length t.materials)) (e ∙ ap (map (λ code. fit (mass t code))) of.nodes)
    ∙ behind_materials (λ code. fit (mass t code)) (λ row. row.code) (λ row. row.code) t.materials t.parts

-- a slice that ends with its list
pub slice_to_end : {X : Type 0} (n : ℕ) (xs : List X) → take (length xs - n) (drop n xs) ≡ drop n xs
slice_to_end n xs = take_whole (drop n xs) (length xs - n) (omega (arith, length-drop n xs))
