-- What was written of several pieces in a row.
use Rattle.std.proofs.Common.{◌≡◌, ℕ, zero, suc, ◌<◌, List, [], ◌∷◌, ◌++◌, refl, sym, ap, ◌∙◌, subst, arith, Option, Result, Ok, Err, OnErr, length, take, drop, get_or, append_assoc}
use Rattle.std.specs.Io.KnownBytes.{Appends}
use Rattle.std.specs.List.{flat_map}
use Rattle.std.proofs.KnownBytes.{Appends-trans}
use Rattle.std.proofs.Math.Seq.{take-append_seam}
use Rattle.std.proofs.lemmas.List.{take-append-drop}
use Rattle.desk_edge.specs.Transfer.{AppendsBeginning}

-- what holds anyway holds of an error
pub on_error : {T E : Type 0} (P : Type 0) (r : Result T E) → P → OnErr r P
on_error P (Ok value) holds = tt
on_error P (Err error) holds = holds

-- a beginning behind whole bytes is a beginning of them with more
pub begun : (old mid new : Option (List ℕ)) (front piece behind : List ℕ) → Appends old mid front → AppendsBeginning mid new piece
    → AppendsBeginning old new (front ++ piece ++ behind)
begun old mid new front piece behind whole part =
    let done = front ++ take part.0 piece in
    let rest = drop part.0 piece ++ behind in
    let parts : front ++ piece ++ behind ≡ done ++ rest =
    ap (λ (l : List ℕ). front ++ l ++ behind) (sym (take-append-drop part.0 piece))
    ∙ ap (λ (l : List ℕ). l ++ behind) (sym (append_assoc front (take part.0 piece) (drop part.0 piece)))
    ∙ append_assoc done (drop part.0 piece) behind in (
      length done,
      subst (Appends old new) (sym (ap (take (length done)) parts ∙ take-append_seam done rest)) (Appends-trans _ _ _ front (take part.0 piece) whole part.1),
    )

-- what is made of a list, before a place, at it and behind it
pub parts_at : {X A : Type 0} (f : X → List A) (xs : List X) (i : ℕ) (d : X) → i < length xs → flat_map f xs ≡ flat_map f (take i xs) ++ f (get_or xs i d) ++ flat_map f (drop (suc i) xs)
parts_at f [] i d l = absurd (omega (arith, l))
parts_at f (x ∷ xs) zero d l = refl
parts_at f (x ∷ xs) (suc i) d l =
    let front = flat_map f (take i xs) in
    let piece = f (get_or xs i d) in
    let behind = flat_map f (drop (suc i) xs) in
    ap (λ t. f x ++ t) (parts_at f xs i d (omega (arith, l)))
    ∙ sym (append_assoc (f x) (front ++ piece) behind)
    ∙ ap (λ t. t ++ behind) (sym (append_assoc (f x) front piece))
