-- The clause on names, table by table.
use Rattle.std.proofs.Common.{◌≡◌, Bool, true, false, ◌&&◌, refl}
use Rattle.std.specs.List.{list_all}
use Rattle.std.proofs.lemmas.Bool.{false≢true}
use Rattle.desk_model.specs.Lists.{Lists, is_part, is_product, is_substance}
use Rattle.desk_findings.specs.Bill.{are_children_right}
use Rattle.desk_history.specs.Sound.{are_names_kept}

-- the names that rows of each table name
pub record NamesKept (t : Lists) : Type 0 where
  pub members : list_all (λ member. is_substance t member.substance) t.members ≡ true
  pub materials : list_all (λ material. list_all (λ held. is_substance t held.substance) material.substances) t.materials ≡ true
  pub lines : are_children_right t ≡ true
  pub products : list_all (λ product. is_part t product.part) t.products ≡ true
  pub candidates : list_all (λ candidate. is_substance t candidate.substance) t.candidates ≡ true
  pub shipments : list_all (λ shipment. is_product t shipment.product) t.shipments ≡ true

six_true : (a b c d e f : Bool) → (a && b && c && d && e && f) ≡ true → (a ≡ true) × (b ≡ true) × (c ≡ true) × (d ≡ true) × (e ≡ true) × (f ≡ true)
six_true true true true true true true h = (refl, refl, refl, refl, refl, refl)
six_true true true true true true false h = absurd (false≢true h)
six_true true true true true false f h = absurd (false≢true h)
six_true true true true false e f h = absurd (false≢true h)
six_true true true false d e f h = absurd (false≢true h)
six_true true false c d e f h = absurd (false≢true h)
six_true false b c d e f h = absurd (false≢true h)

pub names_of : (t : Lists) → are_names_kept t ≡ true → NamesKept t
unfolding are_names_kept
names_of t e =
    let parts =
    six_true
    (list_all (λ member. is_substance t member.substance) t.members)
    (list_all (λ material. list_all (λ held. is_substance t held.substance) material.substances) t.materials)
    (are_children_right t)
    (list_all (λ product. is_part t product.part) t.products)
    (list_all (λ candidate. is_substance t candidate.substance) t.candidates)
    (list_all (λ shipment. is_product t shipment.product) t.shipments) e in
    record { members = parts.0; materials = parts.1; lines = parts.2; products = parts.3; candidates = parts.4; shipments = parts.5 }
