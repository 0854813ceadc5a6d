-- The keys of entries: that they are ordered, and that an entry that is found has the key that was sought.
use Rattle.std.proofs.Common.{◌≡◌, ℕ, true, false, cond, List, [], ◌∷◌, Some, None, is_eq, refl, sym, ap, ◌∙◌}
use Rattle.std.specs.Cmp.{IsTotalOrder}
use Rattle.std.specs.Ordering.{nat_cmp, ordering_then}
use Rattle.std.specs.declared.cmp.Ordering.{Ordering}
use Rattle.std.specs.declared.cmp.Ordering.TheVariants.{Less, Equal, Greater}
use Rattle.std.proofs.lemmas.Bool.{true≢false}
use Rattle.std.proofs.lemmas.Cmp.{nat_cmp_total, nat_list_cmp_total, on_total, then_total}
use Rattle.std.proofs.lemmas.Bool.Decides.{nat_tests}
use Rattle.std.proofs.Common.{arith}
use Rattle.desk_text.specs.Code.{code_cmp}
use Rattle.desk_text.proofs.CodeLemmas.{same_code-Decides}
use Rattle.desk_tonnage.specs.declared.entry.Entry.{Entry}
use Rattle.desk_tonnage.specs.Entries.{entry_key, entry_key_cmp, entry_of}

pub entry_key_cmp_total : IsTotalOrder entry_key_cmp
entry_key_cmp_total = then_total (on_total (λ key. key.0) nat_cmp_total) (on_total (λ key. key.1) nat_list_cmp_total)

both_equal : (first second : Ordering) → is_eq (ordering_then first second) ≡ true → (is_eq first ≡ true) × (is_eq second ≡ true)
both_equal Less second e = absurd (true≢false (sym e))
both_equal Equal second e = (refl, e)
both_equal Greater second e = absurd (true≢false (sym e))

same_number : (a b : ℕ) → is_eq (nat_cmp a b) ≡ true → a ≡ b
same_number a b e = grind (arith, nat_tests)

some_inside : (x y : Entry) → Some x ≡ Some y → x ≡ y
some_inside x y e = cc

none_some : (x : Entry) {G : Type 0} → None ≡ Some x → G
none_some x e = cc

-- an entry that is found is of the year and product that were sought
pub found_key : (year : ℕ) (product : List ℕ) (entries : List Entry) (entry : Entry) → entry_of year product entries ≡ Some entry → (entry.year ≡ year) × (entry.product ≡ product)
found_key year product [] entry e = none_some entry e
found_key year product (first ∷ entries) entry e =
    elim (is_eq (entry_key_cmp (entry_key first) (year, product))) as (λ b. is_eq (entry_key_cmp (entry_key first) (year, product)) ≡ b → cond b (Some first) (entry_of year product entries) ≡ Some entry → (entry.year ≡ year) × (entry.product ≡ product)) [
      | true ↦
          λ here found.
          let parts = both_equal (nat_cmp first.year year) (code_cmp first.product product) here in
          let same : first ≡ entry = some_inside first entry found in
          (sym (ap (λ r. r.year) same) ∙ same_number first.year year parts.0, sym (ap (λ r. r.product) same) ∙ (same_code-Decides first.product product).0 parts.1)
      | false ↦ λ other found. found_key year product entries entry found
    ] refl e
