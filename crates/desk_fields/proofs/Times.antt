-- Values that are read one after the other, and whether they rise.
use Rattle.std.proofs.Common.{◌≡◌, ℕ, zero, suc, ◌+◌, ◌-◌, ◌<◌, ◌≤◌, true, List, [], ◌∷◌, ◌++◌, length, drop, get_or, Option, Some, None, option_map, refl, sym, ap, ◌∙◌, append_assoc, arith}
use Rattle.std.specs.Prelude.{◌&&◌}
use Rattle.std.specs.Ordering.{is_lt}
use Rattle.std.specs.declared.cmp.Ordering.{Ordering}
use Rattle.std.proofs.lemmas.List.{append-nil, drop_more}
use Rattle.desk_fields.specs.Reading.{Reader, in_turn, times}

-- what is read behind values that were read before
abbrev pub behind : {A : Type 0} → List A → Option (List A × List (List ℕ)) → Option (List A × List (List ℕ))
behind front read = option_map (λ y. (front ++ y.0, y.1)) read

module _ {A : Type 0} (read : Reader A) where
  count_down : (n i : ℕ) → i < n → n - i ≡ suc (n - (i + 1))
  count_down n i h = omega (arith, h)

  -- one value more is read
  pub times_more : (n i : ℕ) (front : List A) (fields rest : List (List ℕ)) (a : A) → i < n → read fields ≡ Some (a, rest)
      → behind (front ++ (a ∷ [])) (times (n - (i + 1)) read rest) ≡ behind front (times (n - i) read fields)
  times_more n i front fields rest a h e =
      rw (count_down n i h, e) (regroup (times (n - (i + 1)) read rest))
    where
      regroup : (o : Option (List A × List (List ℕ))) → behind (front ++ (a ∷ [])) o ≡ behind front (option_map (λ y. (a ∷ y.0, y.1)) o)
      regroup None = refl
      regroup (Some y) = ap (λ (xs : List A). Some (xs, y.1)) (append_assoc front (a ∷ []) y.0)

  -- or none is
  pub times_bad : (n i : ℕ) (front : List A) (fields : List (List ℕ)) → i < n → read fields ≡ None → behind front (times (n - i) read fields) ≡ None
  times_bad n i front fields h e = rw (count_down n i h, e) refl

  -- and all are read
  pub times_end : (n i : ℕ) (front : List A) (fields : List (List ℕ)) → n ≤ i → behind front (times (n - i) read fields) ≡ Some (front, fields)
  times_end n i front fields h = let none : n - i ≡ 0 = omega (arith, h) in rw none (ap (λ (xs : List A). Some (xs, fields)) (append-nil front))

  pub times_start : (n : ℕ) (fields : List (List ℕ)) → behind [] (times n read fields) ≡ times n read fields
  times_start n fields = by (times n read fields)
    where
      by : (o : Option (List A × List (List ℕ))) → behind [] o ≡ o
      by None = refl
      by (Some y) = refl

module _ {A : Type 0} (order : A → A → Ordering) where
  -- a value and the one behind it
  pub turn_more : (xs : List A) (i : ℕ) (d : A) → i + 1 < length xs
      → in_turn order (drop i xs) ≡ (is_lt (order (get_or xs i d) (get_or xs (i + 1) d)) && in_turn order (drop (i + 1) xs))
  turn_more xs i d h =
      let here = drop_more xs i d (omega (arith, h)) in
      let next = drop_more xs (i + 1) d h in
      ap (in_turn order) (here ∙ ap (λ (rest : List A). get_or xs i d ∷ rest) next)
      ∙ ap (λ (rest : List A). is_lt (order (get_or xs i d) (get_or xs (i + 1) d)) && in_turn order rest) (sym next)

  -- the last value has none behind it
  pub turn_end : (xs : List A) (i : ℕ) → length xs ≤ i + 1 → in_turn order (drop i xs) ≡ true
  turn_end [] zero h = refl
  turn_end [] (suc i) h = refl
  turn_end (x ∷ []) zero h = refl
  turn_end (x ∷ y ∷ xs) zero h = absurd (omega (arith, h))
  turn_end (x ∷ xs) (suc i) h = turn_end xs i (omega (arith, h))
