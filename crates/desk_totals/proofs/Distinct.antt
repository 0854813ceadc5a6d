-- Codes of which none stands twice: the values of such nodes, read and written at a place.
use Rattle.std.proofs.Common.{◌≡◌, ℕ, zero, suc, ◌+◌, ◌<◌, Bool, true, false, not, cond, ◌||◌, List, [], ◌∷◌, length, map, get_or, set, drop, refl, sym, ap, ◌∙◌, inl, inr, arith}
use Rattle.std.specs.List.{AllByRecursion, list_all, list_any}
use Rattle.std.proofs.lemmas.Bool.{and_from, and_parts, false≢true, not-true, or_cases}
use Rattle.std.proofs.lemmas.List.{at_drop_more}
use Rattle.desk_text.specs.Code.{same_code}
use Rattle.desk_text.proofs.CodeLemmas.{same_code_itself}
use Rattle.desk_model.proofs.Elements.{any_of_all, each_from_all, each_map, none_from_any}
use Rattle.desk_model.proofs.Kept.{same_code-true}
use Rattle.desk_findings.proofs.FindingRolls.{same_code_back}
use Rattle.desk_model.specs.Lists.{Lists}
use Rattle.desk_totals.specs.declared.link.Link.{Link}
use Rattle.desk_totals.specs.Linked.{IsLinkedOf, IsLinked, Linked, are_codes_distinct, has_ends_in, is_among}
use Rattle.desk_totals.specs.Places.{ArePlaces, IsKeptRight, line_at, node_at}
use Rattle.std.proofs.lemmas.List.Elements.{All-tail}

-- a code that isn't the next one is among these where it is among the later ones
pub among_later : (code : List ℕ) (codes : List (List ℕ)) (i : ℕ) → i < length codes → same_code (get_or codes i []) code ≡ false → is_among code (drop i codes) ≡ is_among code (drop (i + 1) codes)
among_later code codes i h other =
    at_drop_more (is_among code) codes i [] h ∙ ap (λ b. b || is_among code (drop (i + 1) codes)) (same_code_back code (get_or codes i []) ∙ other)

-- the code at a place is one of the codes
pub among_at : (codes : List (List ℕ)) (i : ℕ) → i < length codes → is_among (node_at codes i) codes ≡ true
among_at [] i h = absurd (omega arith)
among_at (code ∷ codes) zero h = ap (λ b. b || is_among code codes) (same_code_itself code)
among_at (code ∷ codes) (suc i) h = Rattle.std.proofs.lemmas.Bool.or_right (same_code (node_at codes i) code) (is_among (node_at codes i) codes) (among_at codes i (omega arith))

-- none of the later codes is the first
pub others : (code : List ℕ) (codes : List (List ℕ)) → are_codes_distinct (code ∷ codes) ≡ true → AllByRecursion (λ other. same_code code other ≡ false) codes
others code codes e = none_from_any (same_code code) codes (not-true (is_among code codes) (and_parts (not (is_among code codes)) (are_codes_distinct codes) e).0)

pub later_distinct : (code : List ℕ) (codes : List (List ℕ)) → are_codes_distinct (code ∷ codes) ≡ true → are_codes_distinct codes ≡ true
later_distinct code codes e = (and_parts (not (is_among code codes)) (are_codes_distinct codes) e).1

pub each_at : (P : List ℕ → Type 0) (codes : List (List ℕ)) (i : ℕ) → i < length codes → AllByRecursion P codes → P (node_at codes i)
each_at P [] i h a = absurd (omega arith)
each_at P (code ∷ codes) zero h a = a.0
each_at P (code ∷ codes) (suc i) h a = each_at P codes i (omega arith) a.1

-- two lists of values are the same where they are so at each code
pub map_same : {V : Type 0} (f g : List ℕ → V) (codes : List (List ℕ)) → AllByRecursion (λ code. f code ≡ g code) codes → map f codes ≡ map g codes
map_same f g [] a = refl
map_same f g (code ∷ codes) a = rw (a.0, map_same f g codes a.1) refl

module _ {V : Type 0} where
  -- the values of codes with another value at one of them
  pub but_at : (List ℕ → V) → List ℕ → V → List ℕ → V
  but_at f here value code = cond (same_code here code) value (f code)

  pub but_at-same : (f : List ℕ → V) (here : List ℕ) (value : V) (code : List ℕ) → same_code here code ≡ true → but_at f here value code ≡ value
  unfolding but_at
  but_at-same f here value code e = rw e refl

  pub but_at-other : (f : List ℕ → V) (here : List ℕ) (value : V) (code : List ℕ) → same_code here code ≡ false → but_at f here value code ≡ f code
  unfolding but_at
  but_at-other f here value code e = rw e refl

  -- a value written at a place is another value of the code there, and of no other
  pub written : (f : List ℕ → V) (codes : List (List ℕ)) (i : ℕ) (value : V) → are_codes_distinct codes ≡ true → i < length codes → set (map f codes) i value ≡ map (but_at f (node_at codes i) value) codes
  written f [] i value e h = refl
  written f (code ∷ codes) zero value e h =
      rw (but_at-same f code value code (same_code_itself code))
      (ap (λ vs. value ∷ vs)
      (map_same f (but_at f code value) codes
      (each_map (λ other. same_code code other ≡ false) (λ other. f other ≡ but_at f code value other) (λ other apart. sym (but_at-other f code value other apart)) codes (others code codes e))))
  written f (code ∷ codes) (suc i) value e h =
      let apart : same_code (node_at codes i) code ≡ false = same_code_back (node_at codes i) code ∙ each_at (λ other. same_code code other ≡ false) codes i (omega arith) (others code codes e) in
      rw (but_at-other f (node_at codes i) value code apart) (ap (λ vs. f code ∷ vs) (written f codes i value (later_distinct code codes e) (omega arith)))

-- each code is among them
pub each_among : (codes : List (List ℕ)) → AllByRecursion (λ code. is_among code codes ≡ true) codes
each_among codes =
    each_map (λ code. (p : List ℕ → Bool) → p code ≡ true → list_any p codes ≡ true) (λ code. is_among code codes ≡ true) (λ code f. f (same_code code) (same_code_itself code)) codes (any_of_all codes)

-- links between places stand for lines between the nodes
pub ends_from_places : (nodes : List (List ℕ)) (links : List Link) → ArePlaces (length nodes) links → list_all (has_ends_in nodes) (map (line_at nodes) links) ≡ true
ends_from_places nodes [] places = refl
ends_from_places nodes (link ∷ links) places =
    let here = places 0 link (omega arith) in
    and_from (has_ends_in nodes (line_at nodes link)) (list_all (has_ends_in nodes) (map (line_at nodes) links))
    (and_from (is_among (node_at nodes link.parent) nodes) (is_among (node_at nodes link.child) nodes) (among_at nodes link.parent here.0) (among_at nodes link.child here.1))
    (ends_from_places nodes links (All-tail (λ l. (l.parent < length nodes) × (l.child < length nodes)) link links places))

-- a bill that is kept right is right
pub linked_from_kept : (nodes : List (List ℕ)) (count : ℕ) (links : List Link) → IsKeptRight nodes count links → IsLinked (record { nodes = nodes; material_count = count; lines = map (line_at nodes) links })
linked_from_kept nodes count links kept = record { distinct = kept.distinct; materials = kept.materials; ends = ends_from_places nodes links kept.places }

-- so the children of the lines of tables are among the nodes of their bill
pub children_among : (bill : Linked) (t : Lists) → IsLinkedOf bill t → list_all (has_ends_in bill.nodes) bill.lines ≡ true → AllByRecursion (λ line. is_among line.child bill.nodes ≡ true) t.lines
children_among bill t of ends =
    each_map (λ line. has_ends_in bill.nodes line ≡ true) (λ line. is_among line.child bill.nodes ≡ true) (λ line e. (and_parts (is_among line.parent bill.nodes) (is_among line.child bill.nodes) e).1) t.lines
    (each_from_all (has_ends_in bill.nodes) t.lines (ap (list_all (has_ends_in bill.nodes)) (sym of.lines) ∙ ends))

-- a code that is among others has a place there
pub place_of_among : (codes : List (List ℕ)) (code : List ℕ) → is_among code codes ≡ true → (place : ℕ) × (place < length codes) × (node_at codes place ≡ code)
place_of_among [] code e = absurd (false≢true e)
place_of_among (first ∷ codes) code e =
    elim (or_cases (same_code code first) (is_among code codes) e) [
      | inl here ↦ (0, omega arith, sym (same_code-true code first here))
      | inr there ↦ let found = place_of_among codes code there in (suc found.0, omega (arith, found.1), found.2)
    ]
