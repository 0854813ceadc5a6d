-- What each step of merging two lists does.
use Rattle.std.proofs.Common.{◌≡◌, ℕ, ◌+◌, ◌<◌, true, false, ◌==◌, List, [], ◌∷◌, ◌++◌, arith, drop, length, get_or, nat_lt, refl, sym, ap, ◌∙◌}
use Rattle.std.proofs.lemmas.List.{append_assoc, drop_more}
use Rattle.desk_rollup.specs.Merge.{merged_in, merged}

module _ {X : Type 0} (number : X → ℕ) (join : X → X → X) (go : List X → List X) (entry : X) where
  abbrev here : List X → List X
  here = merged_in number join entry go

  entered_less : (held : X) (rest : List X) → nat_lt (number held) (number entry) ≡ true → here (held ∷ rest) ≡ held ∷ here rest
  entered_less held rest e = rw e refl

  entered_same : (held : X) (rest : List X) → nat_lt (number held) (number entry) ≡ false → (number held == number entry) ≡ true → here (held ∷ rest) ≡ join held entry ∷ go rest
  entered_same held rest e s = rw (e, s) refl

  entered_more : (held : X) (rest : List X) → nat_lt (number held) (number entry) ≡ false → (number held == number entry) ≡ false → here (held ∷ rest) ≡ entry ∷ go (held ∷ rest)
  entered_more held rest e s = rw (e, s) refl

  module _ (into held : List X) (i : ℕ) (d : X) (low : i < length held) where
    pub goes_by : nat_lt (number (get_or held i d)) (number entry) ≡ true → into ++ here (drop i held) ≡ (into ++ get_or held i d ∷ []) ++ here (drop (i + 1) held)
    goes_by e =
        ap (λ l. into ++ here l) (drop_more held i d low) ∙ ap (λ l. into ++ l) (entered_less (get_or held i d) (drop (i + 1) held) e)
        ∙ sym (append_assoc into (get_or held i d ∷ []) (here (drop (i + 1) held)))

    pub joins : nat_lt (number (get_or held i d)) (number entry) ≡ false → (number (get_or held i d) == number entry) ≡ true →
        into ++ here (drop i held) ≡ (into ++ join (get_or held i d) entry ∷ []) ++ go (drop (i + 1) held)
    joins e s =
        ap (λ l. into ++ here l) (drop_more held i d low) ∙ ap (λ l. into ++ l) (entered_same (get_or held i d) (drop (i + 1) held) e s)
        ∙ sym (append_assoc into (join (get_or held i d) entry ∷ []) (go (drop (i + 1) held)))

    pub goes_before : nat_lt (number (get_or held i d)) (number entry) ≡ false → (number (get_or held i d) == number entry) ≡ false →
        into ++ here (drop i held) ≡ (into ++ entry ∷ []) ++ go (drop i held)
    goes_before e s =
        ap (λ l. into ++ here l) (drop_more held i d low) ∙ ap (λ l. into ++ l) (entered_more (get_or held i d) (drop (i + 1) held) e s)
        ∙ ap (λ l. into ++ entry ∷ go l) (sym (drop_more held i d low))
        ∙ sym (append_assoc into (entry ∷ []) (go (drop i held)))

pub merged_into_none : {X : Type 0} (number : X → ℕ) (join : X → X → X) (held entries : List X) → length held ≡ 0 →
    merged number join entries held ≡ held ++ entries
merged_into_none number join [] [] none = refl
merged_into_none number join [] (entry ∷ entries) none = ap (λ rest. entry ∷ rest) (merged_into_none number join [] entries none)
merged_into_none number join (first ∷ held) entries none = absurd (omega (arith, none))
