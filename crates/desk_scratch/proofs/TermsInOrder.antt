-- The terms of exemption rows stand in the order of the rows' codes.
use Rattle.std.proofs.Common.{◌≡◌, ℕ, zero, suc, ◌<◌, false, List, [], ◌∷◌, length, get_or, map, ap, add-one, arith}
use Rattle.std.specs.Ordering.{is_lt}
use Rattle.std.specs.List.Sorted.{IsSortedByKey}
use Rattle.desk_text.specs.Code.{code_cmp}
use Rattle.desk_rows.specs.Rows.{IsByKey}
use Rattle.desk_rows.proofs.Order.{first_above, greater_back, rest_by_key}
use Rattle.desk_law.specs.declared.terms.Terms.{Terms}
use Rattle.desk_model.specs.declared.rows.exemption.ExemptionRow.{ExemptionRow}
use Rattle.desk_model.proofs.Kept.{code_cmp_total}

rising : (rows : List ExemptionRow) → IsByKey (λ row. row.terms.row) code_cmp rows → (k : ℕ) (d : Terms) → suc k < length (map (λ row. row.terms) rows)
    → is_lt (code_cmp (get_or (map (λ row. row.terms) rows) (suc k) d).row (get_or (map (λ row. row.terms) rows) k d).row) ≡ false
rising [] h k d inside = absurd (omega arith)
rising (row ∷ []) h k d inside = absurd (omega arith)
rising (row ∷ next ∷ rows) h zero d inside =
    let above = first_above (λ row. row.terms.row) code_cmp code_cmp_total row (next ∷ rows) h in
    ap is_lt (greater_back {R = ExemptionRow} (λ row. row.terms.row) code_cmp code_cmp_total row.terms.row next.terms.row above.0)
rising (row ∷ next ∷ rows) h (suc k) d inside = rising (next ∷ rows) (rest_by_key (λ row. row.terms.row) code_cmp code_cmp_total row (next ∷ rows) h) k d (omega arith)

pub terms_in_order : (rows : List ExemptionRow) → IsByKey (λ row. row.terms.row) code_cmp rows → IsSortedByKey (λ row. row.row) code_cmp (map (λ row. row.terms) rows)
terms_in_order rows h k d low inside = rw add-one (rising rows h k d (omega (arith, inside)))
