-- The row that an exemption names.
use Rattle.std.proofs.Common.{◌≡◌, ℕ, ◌<◌, ◌≤◌, Bool, true, false, List, [], ◌∷◌, Some, get_or, ⊎_elim, sym, ◌∙◌}
use Rattle.std.specs.Prelude.{position}
use Rattle.std.specs.Ordering.{is_lt}
use Rattle.std.specs.List.Sorted.{IsSortedByKey}
use Rattle.std.proofs.lemmas.Bool.{cases_lt, true≢false}
use Rattle.std.proofs.lemmas.Cmp.{nat_list_cmp_total}
use Rattle.std.proofs.lemmas.List.Elements.{All-from_get_or}
use Rattle.std.proofs.lemmas.List.Quantifiers.{position-Some}
use Rattle.std.proofs.lemmas.List.Sorted.{ranks_by, sorted_far}
use Rattle.desk_text.specs.Code.{code_cmp}
use Rattle.desk_law.specs.declared.terms.Terms.{Terms}
use Rattle.desk_law.specs.declared.verdict.Verdict.TheVariants.{Exempt}
use Rattle.desk_law.specs.Verdict.{IsLeast, NamesLeast}

-- of rows in order of code the first that passes has the least code
least_at : (passes : Terms → Bool) (rows : List Terms) (place : ℕ) (d : Terms) → IsSortedByKey (λ row. row.row) code_cmp rows → position passes rows ≡ Some place → IsLeast passes rows (get_or rows place d)
least_at passes rows place d sorted found =
    let first = position-Some passes rows place d found in
    let P : Terms → Type 0 = λ row. passes row ≡ true → is_lt (code_cmp row.row (get_or rows place d).row) ≡ false in (
      first.1,
      All-from_get_or P rows d (λ other inside covered.
          ⊎_elim
          (λ (before : other < place). absurd (true≢false (sym covered ∙ first.2 other before)))
          (λ (after : place ≤ other). sorted_far _ (ranks_by nat_list_cmp_total (λ (row : Terms). row.row)) rows sorted place other d after inside)
          (cases_lt other place)),
    )

pub names_least : (passes : Terms → Bool) (rows : List Terms) (place : ℕ) → IsSortedByKey (λ row. row.row) code_cmp rows → position passes rows ≡ Some place → NamesLeast passes rows (Exempt place)
names_least passes [] place sorted found = cc
names_least passes (row ∷ rows) place sorted found =
    ((position-Some passes (row ∷ rows) place row found).0, λ d. least_at passes (row ∷ rows) place d sorted found)
