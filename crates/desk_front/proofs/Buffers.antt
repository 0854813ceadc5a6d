-- The bytes that are held at the front of a buffer.
use Rattle.std.proofs.Common.{◌≡◌, ℕ, ◌+◌, ◌-◌, ◌≤◌, List, ◌++◌, take, drop, length, refl, ap, ◌∙◌, subst, arith, rules, length-append}
use Rattle.std.proofs.lemmas.List.{length-drop, length-take, take-append-le, take_at}
use Rattle.std.proofs.lemmas.Slice.{between_is}
use borrow.Rule.Slice.PartMut.{put_mid}
use Rattle.std.specs.List.{copy_within}
use Rattle.desk_front.proofs.Sending.{beginning_behind}

-- the first of them are taken out, and what is behind is moved to the front
pub moved : (xs : List ℕ) (len count : ℕ) → count ≤ len → len ≤ length xs → take (len - count) (copy_within xs count len 0) ≡ drop count (take len xs)
moved xs len count a b = front xs len count a b ∙ inner xs count len
  where
    inner : (s : List ℕ) (i j : ℕ) → take (j - i) (drop i s) ≡ drop i (take j s)
    inner s i j = search (rules, between_is)

    front : (xs : List ℕ) (len count : ℕ) → count ≤ len → len ≤ length xs → take (len - count) (copy_within xs count len 0) ≡ take (len - count) (drop count xs)
    front xs len count a b = take_at (take (len - count) (drop count xs)) (drop (0 + (len - count)) xs) (len - count) (part xs len count a b)
      where
        part : (xs : List ℕ) (len count : ℕ) → count ≤ len → len ≤ length xs → length (take (len - count) (drop count xs)) ≡ len - count
        part xs len count a b = omega (arith, length-take {A = ℕ}, length-drop {A = ℕ})

-- bytes that are read stand behind them
pub came_behind : (xs into rest : List ℕ) (len count : ℕ) → len ≤ length xs → count ≤ length into
    → take (len + count) (take len xs ++ (into ++ rest)) ≡ take len xs ++ take count into
came_behind xs into rest len count a b =
    subst (λ n. take (n + count) (take len xs ++ (into ++ rest)) ≡ take len xs ++ take count into) (held a)
    (beginning_behind (take len xs) (into ++ rest) count ∙ ap (λ l. take len xs ++ l) (rw take-append-le refl))
  where
    held : len ≤ length xs → length (take len xs) ≡ len
    held a = omega (arith, length-take {A = ℕ})

-- a buffer keeps its length where a part of it is filled
pub filled_len : (xs into : List ℕ) (len most : ℕ) → len + most ≤ length xs → length into ≡ most
    → length (put_mid len (len + most - len) xs into) ≡ length xs
filled_len xs into len most room same =
    simp length-append (omega (arith, length-take len xs, length-drop len xs, length-drop (len + most - len) (drop len xs)))
