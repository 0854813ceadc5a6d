-- The entries of a year are those between two places of the entries in their order.
use Rattle.std.proofs.Common.{◌≡◌, ℕ, zero, suc, ◌+◌, ◌<◌, ◌≤◌, true, false, List, [], ◌∷◌, length, get_or, take, drop, refl, ap, ◌∙◌, subst, inl, inr, arith}
use Rattle.std.specs.Prelude.{nat_le, nat_lt}
use Rattle.std.specs.List.Sorted.{IsPartitionPoint, IsPartitionedBy}
use Rattle.std.proofs.lemmas.Bool.{cases_lt, eq-eqb, le-leb, leb-false, leb-true, lt-ltb, ltb-false, ltb-true, ne_eqb}
use Rattle.desk_rows.specs.Rows.{IsByKey}
use Rattle.desk_tonnage.specs.declared.entry.Entry.{Entry}
use Rattle.desk_tonnage.specs.Entries.{entries_in, entry_key, entry_key_cmp}
use Rattle.desk_tonnage.proofs.HeavyYears.{FromYear, YearsRise, years_rise}

-- the place behind the entries of earlier years
abbrev pub IsStart : ℕ → List Entry → ℕ → Type 0
IsStart year entries i = IsPartitionPoint (λ entry. nat_lt entry.year year ≡ true) (λ entry. nat_lt entry.year year ≡ false) entries i

-- the place before the entries of later years
abbrev pub IsEnd : ℕ → List Entry → ℕ → Type 0
IsEnd year entries i = IsPartitionPoint (λ entry. nat_le entry.year year ≡ true) (λ entry. nat_le entry.year year ≡ false) entries i

start_rest : (year : ℕ) (entry : Entry) (entries : List Entry) (i : ℕ) → IsStart year (entry ∷ entries) (suc i) → IsStart year entries i
start_rest year entry entries i h = (λ k d low high. h.0 (suc k) d (omega arith) (omega arith), λ k d low high. h.1 (suc k) d (omega arith) (omega arith))

start_none : (year : ℕ) (entry : Entry) (entries : List Entry) → IsStart year (entry ∷ entries) 0 → IsStart year entries 0
start_none year entry entries h = (λ k d low high. absurd (omega arith), λ k d low high. h.1 (suc k) d (omega arith) (omega arith))

end_rest : (year : ℕ) (entry : Entry) (entries : List Entry) (i : ℕ) → IsEnd year (entry ∷ entries) (suc i) → IsEnd year entries i
end_rest year entry entries i h = (λ k d low high. h.0 (suc k) d (omega arith) (omega arith), λ k d low high. h.1 (suc k) d (omega arith) (omega arith))

end_none : (year : ℕ) (entry : Entry) (entries : List Entry) → IsEnd year (entry ∷ entries) 0 → IsEnd year entries 0
end_none year entry entries h = (λ k d low high. absurd (omega arith), λ k d low high. h.1 (suc k) d (omega arith) (omega arith))

kept_in : (year : ℕ) (entry : Entry) (entries : List Entry) → entry.year ≡ year → entries_in year (entry ∷ entries) ≡ entry ∷ entries_in year entries
kept_in year entry entries e = rw (eq-eqb entry.year year e) refl

left_out : (year : ℕ) (entry : Entry) (entries : List Entry) → (entry.year ≡ year → ⊥) → entries_in year (entry ∷ entries) ≡ entries_in year entries
left_out year entry entries e = rw (ne_eqb entry.year year e) refl

pub between : (year : ℕ) (entries : List Entry) (start count : ℕ) → start ≤ length entries → IsStart year entries start → IsEnd year entries (start + count) → entries_in year entries ≡ take count (drop start entries)
between year [] zero zero b s e = refl
between year [] zero (suc count) b s e = refl
between year [] (suc start) count b s e = absurd (omega arith)
between year (entry ∷ entries) (suc start) count b s e =
    let before = ltb-true entry.year year (s.0 0 entry (omega arith) (omega arith)) in
    left_out year entry entries (λ same. absurd (omega (arith, before, same))) ∙ between year entries start count (omega arith) (start_rest year entry entries start s) (end_rest year entry entries (start + count) (subst (IsEnd year (entry ∷ entries)) (omega arith) e))
between year (entry ∷ entries) zero (suc count) b s h =
    let e : IsEnd year (entry ∷ entries) (suc count) = subst (IsEnd year (entry ∷ entries)) (omega arith) h in
    let not_before = ltb-false entry.year year (s.1 0 entry (omega arith) (omega arith)) in
    let not_behind = leb-true entry.year year (e.0 0 entry (omega arith) (omega arith)) in
    kept_in year entry entries (omega (arith, not_before, not_behind)) ∙ ap (λ rest. entry ∷ rest) (between year entries zero count (omega arith) (start_none year entry entries s) (subst (IsEnd year entries) (omega arith) (end_rest year entry entries count e)))
between year (entry ∷ entries) zero zero b s e =
    let behind = leb-false entry.year year (e.1 0 entry (omega arith) (omega arith)) in
    left_out year entry entries (λ same. absurd (omega (arith, behind, same))) ∙ between year entries zero zero (omega arith) (start_none year entry entries s) (end_none year entry entries e)

some_entry : Entry
some_entry = record { year = 0; product = []; units = 0; mass = 0 }

pub start-le-end : (year : ℕ) (entries : List Entry) (start end : ℕ) → start ≤ length entries → IsStart year entries start → IsEnd year entries end → start ≤ end
start-le-end year entries start end b s e =
    elim (cases_lt end start) [
      | inl less ↦
          let before = ltb-true (get_or entries end some_entry).year year (s.0 end some_entry (omega arith) less) in
          let behind = leb-false (get_or entries end some_entry).year year (e.1 end some_entry (omega arith) (omega arith)) in
          absurd (omega (arith, before, behind))
      | inr fine ↦ fine
    ]

from_at : (year : ℕ) (entries : List Entry) (i : ℕ) (d : Entry) → FromYear year entries → i < length entries → year ≤ (get_or entries i d).year
from_at year [] i d a b = absurd (omega arith)
from_at year (entry ∷ entries) zero d a b = a.0
from_at year (entry ∷ entries) (suc i) d a b = from_at year entries i d a.1 (omega arith)

rising : (entries : List Entry) (i j : ℕ) (d : Entry) → YearsRise entries → i ≤ j → j < length entries → (get_or entries i d).year ≤ (get_or entries j d).year
rising [] i j d h le b = absurd (omega arith)
rising (entry ∷ entries) zero zero d h le b = omega arith
rising (entry ∷ entries) zero (suc j) d h le b = from_at entry.year entries j d h.0 (omega arith)
rising (entry ∷ entries) (suc i) zero d h le b = absurd (omega arith)
rising (entry ∷ entries) (suc i) (suc j) d h le b = rising entries i j d h.1 (omega arith) (omega arith)

-- earlier years come first
pub parted_lt : (year : ℕ) (entries : List Entry) → IsByKey entry_key entry_key_cmp entries → IsPartitionedBy (λ entry. nat_lt entry.year year) entries
parted_lt year entries h i j d le b later =
    let less = ltb-true (get_or entries j d).year year later in
    lt-ltb (get_or entries i d).year year (omega (arith, rising entries i j d (years_rise entries h) le b, less))

pub parted_le : (year : ℕ) (entries : List Entry) → IsByKey entry_key entry_key_cmp entries → IsPartitionedBy (λ entry. nat_le entry.year year) entries
parted_le year entries h i j d le b later =
    let less = leb-true (get_or entries j d).year year later in
    le-leb (get_or entries i d).year year (omega (arith, rising entries i j d (years_rise entries h) le b, less))
