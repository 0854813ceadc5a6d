-- A bill with a line set, put in or taken out at a place.
use Rattle.std.proofs.Common.{◌≡◌, ◌<◌, ℕ, suc, List, [], ◌∷◌, ◌++◌, drop, get_or, length, map, take, refl, subst, sym, ap, ◌∙◌, arith}
use Rattle.std.specs.Prelude.{insert, remove}
use Rattle.std.proofs.lemmas.List.{drop-map, get_or-map, length-map, map-append, take-map}
use Rattle.desk_model.specs.declared.rows.line.LineRow.{LineRow}
use Rattle.desk_totals.specs.declared.link.Link.{Link}
use Rattle.desk_totals.specs.Linked.{Linked, single}
use Rattle.desk_totals.specs.Places.{ArePlaces, line_at, single_link}

module _ {X Y : Type 0} (f : X → Y) where
  pub map-insert : (xs : List X) (place : ℕ) (x : X) → map f (insert xs place x) ≡ insert (map f xs) place (f x)
  map-insert xs place x =
      map-append f (take place xs) (x ∷ drop place xs)
      ∙ ap (λ l. l ++ f x ∷ map f (drop place xs)) (sym (take-map f place xs)) ∙ ap (λ l. take place (map f xs) ++ f x ∷ l) (sym (drop-map f place xs))

  pub map-remove : (xs : List X) (place : ℕ) → map f (remove xs place) ≡ remove (map f xs) place
  map-remove xs place =
      map-append f (take place xs) (drop (suc place) xs)
      ∙ ap (λ l. l ++ map f (drop (suc place) xs)) (sym (take-map f place xs)) ∙ ap (λ l. take place (map f xs) ++ l) (sym (drop-map f (suc place) xs))

abbrev pub bill_of : List (List ℕ) → ℕ → List LineRow → Linked
bill_of nodes count lines = record { nodes = nodes; material_count = count; lines = lines }

-- other links make a bill with other lines
pub with_other_lines : (nodes : List (List ℕ)) (count : ℕ) (links others : List Link) (bill : Linked) (change : List LineRow → List LineRow) → bill_of nodes count (map (line_at nodes) links) ≡ bill → map (line_at nodes) others ≡ change (map (line_at nodes) links) →
    bill_of nodes count (map (line_at nodes) others) ≡ bill_of bill.nodes bill.material_count (change bill.lines)
with_other_lines nodes count links others bill change view e =
    ap (bill_of nodes count) e ∙ ap (λ (b : Linked). bill_of b.nodes b.material_count (change b.lines)) view

-- links with the count 1 stand for lines with the count 1, between the same places
pub map-single : (nodes : List (List ℕ)) (links : List Link) → map (line_at nodes) (map single_link links) ≡ map single (map (line_at nodes) links)
map-single nodes [] = refl
map-single nodes (link ∷ links) = ap (λ l. single (line_at nodes link) ∷ l) (map-single nodes links)

pub places-single : (count : ℕ) (links : List Link) → ArePlaces count links → ArePlaces count (map single_link links)
places-single count links places i d h =
    let within : i < length links = omega (arith, h, length-map links single_link) in
    let read : get_or (map single_link links) i d ≡ single_link (get_or links i d) = get_or-map single_link links i d d within in
    let there = places i d within in (
      subst (λ (link : Link). link.parent < count) (sym read) there.0,
      subst (λ (link : Link). link.child < count) (sym read) there.1,
    )
