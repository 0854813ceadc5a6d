-- Fields that are joined by TAB, and more fields behind them.
use Rattle.std.proofs.Common.{◌≡◌, ℕ, List, [], ◌∷◌, ◌++◌, append_assoc, sym, ap, ◌∙◌}
use Rattle.std.proofs.lemmas.List.{append-nil}
use Rattle.std.proofs.lemmas.List.Concat.{flat_map-append}
use Rattle.desk_model.specs.EditText.{joined, tabbed}

-- joined fields are the first, and the others behind TABs
joined-cons : (first : List ℕ) (fields : List (List ℕ)) → joined (first ∷ fields) ≡ first ++ tabbed fields
joined-cons first [] = sym (append-nil first)
joined-cons first (next ∷ fields) = ap (λ rest. first ++ (9 ∷ rest)) (joined-cons next fields)

-- more fields behind TABs
pub joined_more : (first : List ℕ) (fields more : List (List ℕ)) → joined (first ∷ fields) ++ tabbed more ≡ joined (first ∷ (fields ++ more))
joined_more first fields more =
    ap (λ (front : List ℕ). front ++ tabbed more) (joined-cons first fields)
    ∙ append_assoc first (tabbed fields) (tabbed more)
    ∙ ap (λ (rest : List ℕ). first ++ rest) (sym (flat_map-append (λ field. 9 ∷ field) fields more))
    ∙ sym (joined-cons first (fields ++ more))
