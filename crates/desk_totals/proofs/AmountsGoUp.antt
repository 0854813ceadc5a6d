-- Settled amounts are what rolls up, where it fits.
use Rattle.std.proofs.Common.{◌≡◌, ℕ, ◌^◌, ◌<◌, true, List, [], ◌∷◌, Option, Some, None, length, map, get_or, refl, sym, ap, ◌∙◌, arith}
use Rattle.std.specs.List.{AllByRecursion}
use Rattle.std.proofs.lemmas.List.{get_or-map}
use Rattle.desk_model.specs.Lists.{Lists}
use Rattle.desk_model.proofs.Elements.{each_map}
use Rattle.desk_findings.specs.Bill.{IsBill}
use Rattle.desk_findings.specs.Reaches.{lines_of}
use Rattle.desk_findings.specs.Rolled.{rolled}
use Rattle.desk_findings.proofs.Bill.{has_parents, rolled-step}
use Rattle.desk_totals.proofs.Distinct.{each_among, map_same, place_of_among}
use Rattle.desk_totals.proofs.Fits.{fit-below, fits_lines}
use Rattle.desk_totals.proofs.Scatter.{map-value_of, value_of-map}
use Rattle.desk_totals.proofs.Settle.{settled_right}
use Rattle.desk_totals.specs.Fit.{fit, fit_with}
use Rattle.desk_totals.specs.Linked.{IsLinkedOf, Linked, are_codes_distinct, is_among}
use Rattle.desk_totals.specs.Rounds.{IsSettled, value_of, with_lines}

map_map : (amount : List ℕ → ℕ) (codes : List (List ℕ)) → map Some (map amount codes) ≡ map (λ code. Some (amount code)) codes
map_map amount [] = refl
map_map amount (code ∷ codes) = ap (λ l. Some (amount code) ∷ l) (map_map amount codes)

module _ (t : Lists) (is_bill : IsBill t) (bill : Linked) (of : IsLinkedOf bill t) (distinct : are_codes_distinct bill.nodes ≡ true) (children : AllByRecursion (λ line. is_among line.child bill.nodes ≡ true) t.lines) where
  small_at : (own : List ℕ) → ((i : ℕ) → get_or own i 0 < 2 ^ 128) → (amount : List ℕ → ℕ) → own ≡ map amount bill.nodes → (code : List ℕ) → is_among code bill.nodes ≡ true → amount code < 2 ^ 128
  small_at own small amount its_own code there =
      let found = place_of_among bill.nodes code there in
      let read : get_or own found.0 0 ≡ amount code = ap (λ l. get_or l found.0 0) its_own ∙ get_or-map amount bill.nodes found.0 [] 0 found.1 ∙ ap amount found.2 in
      omega (arith, small found.0, read)

  own_fits : (own : List ℕ) → ((i : ℕ) → get_or own i 0 < 2 ^ 128) → (amount : List ℕ → ℕ) → own ≡ map amount bill.nodes → (code : List ℕ) → is_among code bill.nodes ≡ true → value_of None bill.nodes (map Some own) code ≡ fit (amount code)
  own_fits own small amount its_own code there =
      ap (λ l. value_of None bill.nodes l code) (ap (map Some) its_own ∙ map_map amount bill.nodes)
      ∙ value_of-map None (λ c. Some (amount c)) bill.nodes code there ∙ sym (fit-below (2 ^ 128) (amount code) (small_at own small amount its_own code there))

  pub amounts_are : (own : List ℕ) → ((i : ℕ) → get_or own i 0 < 2 ^ 128) → (amount : List ℕ → ℕ) → own ≡ map amount bill.nodes → (amounts : List (Option ℕ)) → length amounts ≡ length bill.nodes → IsSettled fit_with None bill (map Some own) amounts →
      amounts ≡ map (λ code. fit (rolled t amount code)) bill.nodes
  amounts_are own small amount its_own amounts size settled =
      sym (map-value_of None bill.nodes amounts distinct size)
      ∙ map_same (value_of None bill.nodes amounts) (λ code. fit (rolled t amount code)) bill.nodes
      (each_map (λ code. is_among code bill.nodes ≡ true) (λ code. value_of None bill.nodes amounts code ≡ fit (rolled t amount code))
      (settled_right t is_bill fit_with None bill of (map Some own) children (λ code value. value ≡ fit (rolled t amount code))
      (λ f code there right.
      ap (λ value. with_lines fit_with f value (lines_of t.lines code)) (own_fits own small amount its_own code there)
      ∙ fits_lines f (rolled t amount) (lines_of t.lines code) right (amount code)
      ∙ ap fit (sym (rolled-step t (has_parents t is_bill.parents) is_bill.acyclic amount code)))
      amounts settled)
      bill.nodes (each_among bill.nodes))
