-- A set made of a list, one kind after another, and a set without kinds.
use Rattle.std.proofs.Common.{◌≡◌, ◌↔◌, ℕ, ◌+◌, ◌<◌, Bool, true, false, cond, IsTrue, List, [], ◌∷◌, length, take, get_or, refl, sym, ◌∙◌, ap}
use Rattle.std.specs.Prelude.{◌&&◌, ◌||◌, not, filter, map, replicate}
use Rattle.std.specs.Bool.{beq}
use Rattle.std.specs.Cmp.{booleans_Decides}
use Rattle.std.specs.Cmp.Lexicographic.{pointwise}
use Rattle.std.specs.List.{list_all, list_any}
use Rattle.std.proofs.Math.Bool.{or_comm, or-false}
use Rattle.std.proofs.lemmas.List.{take_more}
use Rattle.std.proofs.lemmas.List.Folds.{list_any-append}
use Rattle.std.proofs.lemmas.Slice.Eq.{slice_eq-Decides}
use Rattle.desk_law.specs.declared.kind.Kind.{Kind}
use Rattle.desk_law.specs.Kind.{all_kinds, same_kind}
use Rattle.desk_law.specs.KindSet.{has_kind, is_subset, set_of}
use Rattle.desk_law.specs.KindMarks.{marked_kinds, marks-marked_kinds}
use Rattle.desk_law.proofs.KindMarks.{has_kind-set_of, marked_kinds-none, same_filter}

has_kind-more : (kinds : List Kind) (i : ℕ) (d other : Kind) → i < length kinds → has_kind (get_or kinds i d ∷ set_of (take i kinds)) other ≡ has_kind (take (i + 1) kinds) other
unfolding has_kind
has_kind-more kinds i d other h =
    ap (λ b. same_kind other (get_or kinds i d) || b) (has_kind-set_of (take i kinds) other)
    ∙ or_comm (same_kind other (get_or kinds i d)) (list_any (same_kind other) (take i kinds))
    ∙ ap (λ b. list_any (same_kind other) (take i kinds) || b) (sym (or-false (same_kind other (get_or kinds i d))))
    ∙ sym (list_any-append (same_kind other) (take i kinds) (get_or kinds i d ∷ []))
    ∙ ap (list_any (same_kind other)) (sym (take_more kinds i d h))

-- one kind of the list more
pub set_of-more : (kinds : List Kind) (i : ℕ) (d : Kind) → i < length kinds → set_of (get_or kinds i d ∷ set_of (take i kinds)) ≡ set_of (take (i + 1) kinds)
unfolding set_of
set_of-more kinds i d h = same_filter _ _ (λ other. has_kind-more kinds i d other h)

-- no kinds, no set
pub set_of-none : set_of [] ≡ []
unfolding set_of has_kind
set_of-none = refl

no_marks : (marks : List Bool) → length marks ≡ 14 → marked_kinds marks ≡ [] → marks ≡ replicate 14 false
unfolding has_kind
no_marks marks h e = sym (marks-marked_kinds marks h) ∙ ap (λ kinds. map (has_kind kinds) all_kinds) e

-- a set has no kind exactly where nothing is marked
pub is_empty-marks : (marks : List Bool) (kinds : List Kind) (r : Bool) → length marks ≡ 14 → marked_kinds marks ≡ kinds → r ≡ pointwise beq marks (replicate 14 false) → IsTrue r ↔ (kinds ≡ [])
is_empty-marks marks kinds r h e is =
    let decides = slice_eq-Decides booleans_Decides marks (replicate 14 false) r is in
    (λ t. sym e ∙ ap marked_kinds (decides.0 t) ∙ marked_kinds-none, λ none. decides.1 (no_marks marks h (e ∙ none)))

test_or_pass : (b p : Bool) (rest : Bool) (kind : Kind) (kinds : List Kind) (passes : Kind → Bool) → p ≡ passes kind → rest ≡ list_all passes kinds → ((not b || p) && rest) ≡ list_all passes (cond b (kind ∷ kinds) kinds)
test_or_pass true p rest kind kinds passes e f = ap (λ q. q && rest) e ∙ ap (λ q. passes kind && q) f
test_or_pass false p rest kind kinds passes e f = f

-- each kind passes that is tested: each kind of those that are tested passes
list_all-filter : (test passes : Kind → Bool) (kinds : List Kind) → list_all (λ kind. not (test kind) || passes kind) kinds ≡ list_all passes (filter test kinds)
list_all-filter test passes [] = refl
list_all-filter test passes (kind ∷ kinds) =
    test_or_pass (test kind) (passes kind) (list_all (λ k. not (test k) || passes k) kinds) kind (filter test kinds) passes refl (list_all-filter test passes kinds)

-- a set is within the others where each of its kinds is among them
pub is_subset-set_of : (kinds others : List Kind) → kinds ≡ set_of kinds → is_subset kinds others ≡ list_all (has_kind others) kinds
unfolding is_subset set_of
is_subset-set_of kinds others in_order =
    list_all-filter (has_kind kinds) (has_kind others) all_kinds ∙ ap (list_all (has_kind others)) (sym in_order)
