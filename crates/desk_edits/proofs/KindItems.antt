-- The kinds of an array, put into a set one by one, are the set of the kinds where none stands twice.
use Rattle.std.proofs.Common.{◌≡◌, true≢false, ℕ, ◌+◌, ◌<◌, ◌≤◌, ◌==◌, ◌||◌, ◌&&◌, Bool, true, false, not, cond, List, [], ◌∷◌, ◌++◌, length, drop, get_or, Option, None, Some, option_map, option_and_then, refl, sym, ap, ◌∙◌, append_assoc, arith}
use Rattle.std.specs.Prelude.{nat_lt, if◌then◌else◌}
use Rattle.std.specs.List.{list_all}
use Rattle.std.proofs.lemmas.Bool.Decides.{nat_tests}
use Rattle.std.proofs.lemmas.List.Folds.{list_any-append}
use Rattle.std.proofs.Math.Bool.{or_comm, or-false}
use Rattle.std.proofs.lemmas.Bool.{false≢true}
use Rattle.std.proofs.lemmas.List.{append-nil, drop_all, drop_more}
use Rattle.serde_json.specs.Data.{Data, Items, no_items, item}
use Rattle.serde_json.specs.View.{items_view, view}
use Rattle.serde_json.specs.declared.value.Value.{Value}
use Rattle.desk_law.specs.declared.kind.Kind.{Kind}
use Rattle.desk_law.specs.Kind.{same_kind}
use Rattle.desk_law.specs.KindSet.{has_kind, set_of}
use Rattle.desk_law.proofs.KindMarks.{has_kind-set_of, same_filter}
use Rattle.desk_law.proofs.KindSets.{set_of-none}
use Rattle.desk_edits.specs.Values.{a_kind, are_kinds_distinct, distinct_set, kinds_of}

-- the set with the kinds of the items, each of which is new to it
abbrev pub set_with : List Kind → Items → Option (List Kind)
set_with set no_items = Some set
set_with set (item d ds) = option_and_then (λ kind. if has_kind set kind then None else set_with (set_of (kind ∷ set)) ds) (a_kind d)

-- none of the kinds is among those before
abbrev are_new : List Kind → List Kind → Bool
are_new before kinds = list_all (λ kind. not (has_kind before kind)) kinds

-- the set of kinds with those before, where none is among them or stands twice
abbrev new_set : List Kind → List Kind → Option (List Kind)
new_set before kinds = if are_new before kinds && are_kinds_distinct kinds then Some (set_of (before ++ kinds)) else None

has_kind-push : (before : List Kind) (kind asked : Kind) → has_kind (before ++ kind ∷ []) asked ≡ has_kind before asked || (same_kind asked kind || false)
unfolding has_kind
has_kind-push before kind asked = list_any-append (same_kind asked) before (kind ∷ [])

has_kind-more : (kinds : List Kind) (kind asked : Kind) → has_kind (kind ∷ kinds) asked ≡ same_kind asked kind || has_kind kinds asked
unfolding has_kind
has_kind-more kinds kind asked = refl

has_kind-none : (asked : Kind) → has_kind [] asked ≡ false
unfolding has_kind
has_kind-none asked = refl

same_kind-sym : (a b : Kind) → same_kind a b ≡ same_kind b a
same_kind-sym a b = grind (arith, nat_tests)

-- one kind more
set_of-push : (before : List Kind) (kind : Kind) → set_of (kind ∷ set_of before) ≡ set_of (before ++ kind ∷ [])
unfolding set_of
set_of-push before kind = same_filter _ _ (λ asked.
    has_kind-more (set_of before) kind asked
    ∙ ap (λ b. same_kind asked kind || b) (has_kind-set_of before asked)
    ∙ or_comm (same_kind asked kind) (has_kind before asked)
    ∙ ap (λ b. has_kind before asked || b) (sym (or-false (same_kind asked kind)))
    ∙ sym (has_kind-push before kind asked))

apart : (a s n h : Bool) → (not (a || (s || false)) && (n && not h)) ≡ ((not a && n) && not (s || h))
apart true s n h = refl
apart false true true h = refl
apart false true false h = refl
apart false false n h = refl

are_new-push : (before : List Kind) (kind : Kind) (kinds : List Kind) → are_new (before ++ kind ∷ []) kinds ≡ (are_new before kinds && not (has_kind kinds kind))
are_new-push before kind [] = ap not (sym (has_kind-none kind))
are_new-push before kind (k ∷ ks) =
    ap (λ b. not b && are_new (before ++ kind ∷ []) ks) (has_kind-push before kind k)
    ∙ ap (λ b. not (has_kind before k || (same_kind k kind || false)) && b) (are_new-push before kind ks)
    ∙ apart (has_kind before k) (same_kind k kind) (are_new before ks) (has_kind ks kind)
    ∙ ap (λ b. (not (has_kind before k) && are_new before ks) && not (b || has_kind ks kind)) (same_kind-sym k kind)
    ∙ ap (λ b. (not (has_kind before k) && are_new before ks) && not b) (sym (has_kind-more ks k kind))

and_assoc : (a b c : Bool) → ((a && b) && c) ≡ (a && (b && c))
and_assoc true b c = refl
and_assoc false b c = refl

new_set-push : (before : List Kind) (kind : Kind) (kinds : List Kind)
    → new_set (before ++ kind ∷ []) kinds ≡ (if are_new before kinds && (not (has_kind kinds kind) && are_kinds_distinct kinds) then Some (set_of (before ++ kind ∷ kinds)) else None)
new_set-push before kind kinds =
    ap (λ b. if b && are_kinds_distinct kinds then Some (set_of ((before ++ kind ∷ []) ++ kinds)) else None) (are_new-push before kind kinds)
    ∙ ap (λ b. if b then Some (set_of ((before ++ kind ∷ []) ++ kinds)) else None) (and_assoc (are_new before kinds) (not (has_kind kinds kind)) (are_kinds_distinct kinds))
    ∙ ap (λ (ks : List Kind). if are_new before kinds && (not (has_kind kinds kind) && are_kinds_distinct kinds) then Some (set_of ks) else None) (append_assoc before (kind ∷ []) kinds)

new_set-more : (before : List Kind) (kind : Kind) (kinds : List Kind) (b : Bool) → has_kind before kind ≡ b
    → cond b None (new_set (before ++ kind ∷ []) kinds) ≡ new_set before (kind ∷ kinds)
new_set-more before kind kinds true e = rw e refl
new_set-more before kind kinds false e = rw e (new_set-push before kind kinds)

not-false : (b : Bool) → not b ≡ false → b ≡ true
not-false true e = refl
not-false false e = absurd (true≢false e)

not-true : (b : Bool) → not b ≡ true → b ≡ false
not-true true e = absurd (false≢true e)
not-true false e = refl

always-none : (b : Bool) → cond b None (option_and_then (new_set []) None) ≡ None
always-none true = refl
always-none false = refl

set_with-says : (ds : Items) (before : List Kind) → set_with (set_of before) ds ≡ option_and_then (new_set before) (kinds_of ds)
set_with-says no_items before = ap (λ (ks : List Kind). Some (set_of ks)) (sym (append-nil before))
set_with-says (item d ds) before = by (set_with-says ds) (a_kind d)
  where
    rest : (kind : Kind) (o : Option (List Kind)) → cond (has_kind before kind) None (option_and_then (new_set (before ++ kind ∷ [])) o) ≡ option_and_then (new_set before) (option_map (λ kinds. kind ∷ kinds) o)
    rest kind None = always-none (has_kind before kind)
    rest kind (Some kinds) = new_set-more before kind kinds (has_kind before kind) refl

    by : ((more : List Kind) → set_with (set_of more) ds ≡ option_and_then (new_set more) (kinds_of ds)) → (o : Option Kind)
        → option_and_then (λ kind. cond (has_kind (set_of before) kind) None (set_with (set_of (kind ∷ set_of before)) ds)) o
        ≡ option_and_then (new_set before) (option_and_then (λ kind. option_map (λ kinds. kind ∷ kinds) (kinds_of ds)) o)
    by says None = refl
    by says (Some kind) =
        ap (λ b. cond b None (set_with (set_of (kind ∷ set_of before)) ds)) (has_kind-set_of before kind)
        ∙ ap (λ (ks : List Kind). cond (has_kind before kind) None (set_with ks ds)) (set_of-push before kind)
        ∙ ap (λ (o : Option (List Kind)). cond (has_kind before kind) None o) (says (before ++ kind ∷ []))
        ∙ rest kind (kinds_of ds)

all-new : (kinds : List Kind) → are_new [] kinds ≡ true
all-new [] = refl
all-new (kind ∷ kinds) = rw (has_kind-none kind) (all-new kinds)

none-before : (kind : Kind) (kinds : List Kind) → new_set [] (kind ∷ kinds) ≡ distinct_set (kind ∷ kinds)
none-before kind kinds =
    let some : nat_lt 0 (length (kind ∷ kinds)) ≡ true = grind (arith, nat_tests) in
    rw (all-new (kind ∷ kinds), some) refl

-- so the kinds of an array that has items are its set, where none stands twice
pub set_with-distinct : (d : Data) (ds : Items) → set_with [] (item d ds) ≡ option_and_then distinct_set (kinds_of (item d ds))
set_with-distinct d ds = ap (λ (ks : List Kind). set_with ks (item d ds)) (sym set_of-none) ∙ set_with-says (item d ds) [] ∙ by (a_kind d) (kinds_of ds)
  where
    by : (k : Option Kind) (o : Option (List Kind))
        → option_and_then (new_set []) (option_and_then (λ kind. option_map (λ kinds. kind ∷ kinds) o) k) ≡ option_and_then distinct_set (option_and_then (λ kind. option_map (λ kinds. kind ∷ kinds) o) k)
    by None o = refl
    by (Some kind) None = refl
    by (Some kind) (Some kinds) = none-before kind kinds

-- the same of the items that an array has
pub set_with-values : (vs : List Value) → (length vs == 0) ≡ false → set_with [] (items_view vs) ≡ option_and_then distinct_set (kinds_of (items_view vs))
set_with-values [] e = absurd (true≢false e)
set_with-values (v ∷ vs) e = set_with-distinct (view v) (items_view vs)

-- what is left of the items begins with the item at the place
set_with-at : (vs : List Value) (i : ℕ) (v : Value) (set : List Kind) (kind : Option Kind) → i < length vs → v ≡ get_or vs i v → kind ≡ a_kind (view v)
    → set_with set (items_view (drop i vs)) ≡ option_and_then (λ kind. if has_kind set kind then None else set_with (set_of (kind ∷ set)) (items_view (drop (i + 1) vs))) kind
set_with-at vs i v set kind h e f =
    ap (λ (ws : List Value). set_with set (items_view ws)) (drop_more vs i v h)
    ∙ ap (λ (w : Value). set_with set (items_view (w ∷ drop (i + 1) vs))) (sym e)
    ∙ ap (option_and_then (λ kind. if has_kind set kind then None else set_with (set_of (kind ∷ set)) (items_view (drop (i + 1) vs)))) (sym f)

-- an item that is no kind
pub set_with-other : (vs : List Value) (i : ℕ) (v : Value) (set : List Kind) → i < length vs → v ≡ get_or vs i v → None ≡ a_kind (view v) → set_with set (items_view (drop i vs)) ≡ None
set_with-other vs i v set h e f = set_with-at vs i v set None h e f

-- one whose kind is in the set
pub set_with-repeated : (vs : List Value) (i : ℕ) (v : Value) (set : List Kind) (kind : Kind) (is_new : Bool) → i < length vs → v ≡ get_or vs i v → Some kind ≡ a_kind (view v)
    → is_new ≡ not (has_kind set kind) → is_new ≡ false → set_with set (items_view (drop i vs)) ≡ None
set_with-repeated vs i v set kind is_new h e f g n =
    set_with-at vs i v set (Some kind) h e f
    ∙ ap (λ b. cond b None (set_with (set_of (kind ∷ set)) (items_view (drop (i + 1) vs)))) (not-false (has_kind set kind) (sym g ∙ n))

-- one whose kind is new
pub set_with-new : (vs : List Value) (i : ℕ) (v : Value) (set : List Kind) (kind : Kind) (is_new : Bool) → i < length vs → v ≡ get_or vs i v → Some kind ≡ a_kind (view v)
    → is_new ≡ not (has_kind set kind) → is_new ≡ true → set_with set (items_view (drop i vs)) ≡ set_with (set_of (kind ∷ set)) (items_view (drop (i + 1) vs))
set_with-new vs i v set kind is_new h e f g n =
    set_with-at vs i v set (Some kind) h e f
    ∙ ap (λ b. cond b None (set_with (set_of (kind ∷ set)) (items_view (drop (i + 1) vs)))) (not-true (has_kind set kind) (sym g ∙ n))

-- and none is left
pub set_with-end : (vs : List Value) (i : ℕ) (set : List Kind) → length vs ≤ i → set_with set (items_view (drop i vs)) ≡ Some set
set_with-end vs i set h = ap (λ (ws : List Value). set_with set (items_view ws)) (drop_all i vs h)
