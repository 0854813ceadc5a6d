-- Trees of bodies by key.
use Rattle.std.proofs.Common.{◌≡◌, ℕ, ◌+◌, ◌<◌, Bool, true, false, cond, ◌||◌, List, [], ◌∷◌, ◌++◌, map, take, drop, get_or, length, Option, Some, None, IsSome, is_some, refl, sym, ap, ◌∙◌, subst, inl, inr, ◌⊎◌, Ordering, Less, Equal, Greater, is_eq, IfSome, MatchOption, slice_get}
use Rattle.std.specs.Prelude.{if◌then◌else◌}
use Rattle.std.specs.Ordering.{is_gt, is_lt, ordering_reverse}
use Rattle.std.proofs.lemmas.Bool.{cases_Bool, false≢true}
use Rattle.std.proofs.lemmas.Cmp.{tied_itself}
use Rattle.std.proofs.lemmas.List.{take-append-drop, take_more}
use Rattle.std.proofs.lemmas.List.Folds.{list_any-append}
use Rattle.desk_edge.specs.Content.{IsChanged, body_after, body_after_all, is_past, key_cmp, same_key}
use Rattle.desk_edge.specs.declared.change.Change.{Change}
use Rattle.desk_edge.specs.declared.change.Change.TheVariants.{Put, Drop}
use Rattle.desk_edge.specs.declared.key.Key.{Key}
use Rattle.desk_edge.proofs.Keys.{key_order}
use Rattle.desk_top.specs.KeptBodies.{Bodies, IsClear, IsFirstIn, standing_body, cleared, is_key_among, kept_in, body_among, ready, stands, with_room}

is_equal : (a : Ordering) → is_eq a ≡ true → a ≡ Equal
is_equal Less e = absurd (false≢true e)
is_equal Equal e = refl
is_equal Greater e = absurd (false≢true e)

-- equal keys find the same
pub stands_same : (j k : Key) (bodies : Bodies) → same_key j k ≡ true → stands bodies j ≡ stands bodies k
stands_same j k [] e = refl
stands_same j k (first ∷ bodies) e = rw (key_order.congr j k first.0 (is_equal (key_cmp j k) e), stands_same j k bodies e) refl

none_some : {X : Type 0} (x : X) {G : Type 0} → None ≡ Some x → G
none_some x e = cc

room_there : (x : Option (Option (List ℕ))) → IsSome x → with_room x ≡ x
room_there None some = absurd (false≢true some)
room_there (Some body) some = refl

-- where a key is there its room is
pub room_before : (bodies : Bodies) (key other : Key) → IsSome (stands bodies key) → stands bodies other ≡ (if same_key key other then with_room (stands bodies other) else stands bodies other)
room_before bodies key other there =
    elim (cases_Bool (same_key key other)) [
      | inl same ↦ rw same (sym (room_there (stands bodies other) (subst IsSome (stands_same key other bodies same) there)))
      | inr away ↦ rw away refl
    ]

-- a key that wasn't there is put in without a body
pub room_after : (bodies new : Bodies) (key other : Key) → stands bodies key ≡ None → stands new other ≡ cond (same_key key other) (Some None) (stands bodies other) → stands new other ≡ (if same_key key other then with_room (stands bodies other) else stands bodies other)
room_after bodies new key other absent put =
    elim (cases_Bool (same_key key other)) [
      | inl same ↦ rw same (put ∙ rw same (sym (ap with_room (sym (stands_same key other bodies same) ∙ absent))))
      | inr away ↦ rw away (put ∙ rw away refl)
    ]

pub none_there : (x : Option (Option (List ℕ))) → is_some x ≡ false → x ≡ None
none_there None e = refl
none_there (Some body) e = absurd (false≢true (sym e))

cleared_else : (x : Option (Option (List ℕ))) → (x ≡ Some None → ⊥) → cleared x ≡ x
cleared_else None h = refl
cleared_else (Some None) h = absurd (h refl)
cleared_else (Some (Some body)) h = refl

-- a key that has a body, or isn't there, stays as it is
pub clear_before : (bodies : Bodies) (key other : Key) → (stands bodies key ≡ Some None → ⊥) → stands bodies other ≡ (if same_key key other then cleared (stands bodies other) else stands bodies other)
clear_before bodies key other h =
    elim (cases_Bool (same_key key other)) [
      | inl same ↦ rw same (sym (cleared_else (stands bodies other) (λ e. h (stands_same key other bodies same ∙ e))))
      | inr away ↦ rw away refl
    ]

-- a key that has none is taken out
pub clear_after : (bodies new : Bodies) (key other : Key) → stands bodies key ≡ Some None → stands new other ≡ cond (same_key key other) None (stands bodies other) → stands new other ≡ (if same_key key other then cleared (stands bodies other) else stands bodies other)
clear_after bodies new key other bare out =
    elim (cases_Bool (same_key key other)) [
      | inl same ↦ rw same (out ∙ rw same (sym (ap cleared (sym (stands_same key other bodies same) ∙ bare))))
      | inr away ↦ rw away (out ∙ rw away refl)
    ]

or-false : (b : Bool) → (b || false) ≡ b
or-false true = refl
or-false false = refl

among_more : (keys : List Key) (i : ℕ) (key other : Key) → i < length keys → key ≡ get_or keys i key → is_key_among (take (i + 1) keys) other ≡ (is_key_among (take i keys) other || same_key key other)
among_more keys i key other h is =
    ap (λ list. is_key_among list other) (take_more keys i key h ∙ ap (λ k. take i keys ++ k ∷ []) (sym is))
    ∙ list_any-append (λ k. same_key k other) (take i keys) (key ∷ [])
    ∙ ap (λ b. is_key_among (take i keys) other || b) (or-false (same_key key other))

-- what is done under some keys, and then under one more
module _ (f : Option (Option (List ℕ)) → Option (Option (List ℕ))) (again : (x : Option (Option (List ℕ))) → f (f x) ≡ f x) where
  both : (a b : Bool) (x : Option (Option (List ℕ))) → (if b then f (if a then f x else x) else (if a then f x else x)) ≡ (if a || b then f x else x)
  both true true x = again x
  both true false x = refl
  both false true x = refl
  both false false x = refl

  pub one_more : (keys : List Key) (i : ℕ) (key other : Key) (old middle new : Option (Option (List ℕ))) → i < length keys → key ≡ get_or keys i key →
      middle ≡ (if is_key_among (take i keys) other then f old else old) → new ≡ (if same_key key other then f middle else middle) → new ≡ (if is_key_among (take (i + 1) keys) other then f old else old)
  one_more keys i key other old middle new h is before step =
      step
      ∙ ap (λ m. if same_key key other then f m else m) before
      ∙ both (is_key_among (take i keys) other) (same_key key other) old
      ∙ ap (λ b. if b then f old else old) (sym (among_more keys i key other h is))

pub room_again : (x : Option (Option (List ℕ))) → with_room (with_room x) ≡ with_room x
room_again None = refl
room_again (Some body) = refl

pub cleared_again : (x : Option (Option (List ℕ))) → cleared (cleared x) ≡ cleared x
cleared_again None = refl
cleared_again (Some None) = refl
cleared_again (Some (Some body)) = refl

among_all : (keys : List Key) (i : ℕ) (other : Key) → is_key_among (take i keys) other ≡ true → is_key_among keys other ≡ true
among_all keys i other e =
    sym (ap (λ list. is_key_among list other) (take-append-drop i keys))
    ∙ list_any-append (λ k. same_key k other) (take i keys) (drop i keys)
    ∙ ap (λ b. b || is_key_among (drop i keys) other) e

-- what stands when room ran out under some key
pub some_room : (keys : List Key) (i : ℕ) (other : Key) (old middle new : Option (Option (List ℕ))) → middle ≡ (if is_key_among (take i keys) other then with_room old else old) → new ≡ middle → (new ≡ old) ⊎ ((is_key_among keys other ≡ true) × (new ≡ with_room old))
some_room keys i other old middle new before stays =
    elim (cases_Bool (is_key_among (take i keys) other)) [
      | inl among ↦ inr (among_all keys i other among, stays ∙ before ∙ rw among refl)
      | inr away ↦ inl (stays ∙ before ∙ rw away refl)
    ]

-- a call's changes, under a key
pub body_put : (changes : List Change) (key : Key) (x : Option (Option (List ℕ))) → standing_body (body_among (map ready changes) key x) ≡ body_after_all changes key (standing_body x)
body_put [] key x = refl
body_put (change ∷ changes) key x =
    body_put changes key (if same_key (ready change).0 key then Some (ready change).1 else x)
    ∙ ap (body_after_all changes key) (one change)
  where
    one : (c : Change) → standing_body (if same_key (ready c).0 key then Some (ready c).1 else x) ≡ body_after c key (standing_body x)
    one (Put kept) = elim (same_key (Rattle.desk_edge.specs.Content.key_of kept) key) as (λ b. standing_body (if b then Some (Some kept.body) else x) ≡ (if b then Some kept.body else standing_body x)) [ true ↦ refl | false ↦ refl ]
    one (Drop dropped) = elim (same_key dropped key) as (λ b. standing_body (if b then Some None else x) ≡ (if b then None else standing_body x)) [ true ↦ refl | false ↦ refl ]

pub body_with_room : (x : Option (Option (List ℕ))) → standing_body (with_room x) ≡ standing_body x
body_with_room None = refl
body_with_room (Some body) = refl

pub body_cleared : (x : Option (Option (List ℕ))) → standing_body (cleared x) ≡ standing_body x
body_cleared None = refl
body_cleared (Some None) = refl
body_cleared (Some (Some body)) = refl

never_bare : (x : Option (Option (List ℕ))) → cleared x ≡ Some None → ⊥
never_bare None e = none_some None e
never_bare (Some None) e = none_some None e
never_bare (Some (Some body)) e = inside body e
  where
    inside : (b : List ℕ) → Some (Some b) ≡ Some None → ⊥
    inside b e = cc

-- under other keys nothing is put in
put_away_at : (b : Bool) (change : Key × Option (List ℕ)) (changes : List (Key × Option (List ℕ))) (key : Key) (x : Option (Option (List ℕ))) → same_key change.0 key ≡ b → is_key_among (map (λ new. new.0) (change ∷ changes)) key ≡ false
    → (is_key_among (map (λ new. new.0) changes) key ≡ false → body_among changes key x ≡ x) → body_among (change ∷ changes) key x ≡ x
put_away_at true change changes key x h e rest = absurd (false≢true (sym e ∙ ap (λ b. b || is_key_among (map (λ new. new.0) changes) key) h))
put_away_at false change changes key x h e rest = rw h (rest (sym (ap (λ b. b || is_key_among (map (λ new. new.0) changes) key) h) ∙ e))

put_away : (changes : List (Key × Option (List ℕ))) (key : Key) (x : Option (Option (List ℕ))) → is_key_among (map (λ new. new.0) changes) key ≡ false → body_among changes key x ≡ x
put_away [] key x e = refl
put_away (change ∷ changes) key x e = put_away_at (same_key change.0 key) change changes key x refl e (put_away changes key x)

-- under the first of these there is room, where there is under each
pub room_for_first : (bodies : Bodies) (items rest : List (Key × Option (List ℕ))) (key : Key) (body : Option (List ℕ)) → items ≡ (key, body) ∷ rest → ((other : Key) → is_key_among (map (λ new. new.0) items) other ≡ true → IsSome (stands bodies other)) → IsSome (stands bodies key)
room_for_first bodies items rest key body e there =
    there key (ap (λ list. is_key_among (map (λ new. new.0) list) key) e ∙ ap (λ b. b || is_key_among (map (λ new. new.0) rest) key) (ap is_eq (tied_itself key_order key)))

-- a call that makes all its changes, and one without memory
module _ (batch : List Change) (changes : List (Key × Option (List ℕ))) (keys : List Key) (changes_are : changes ≡ map ready batch) (keys_are : keys ≡ map (λ new. new.0) changes)
    (old room put new : Bodies) (clear : (key : Key) → stands new key ≡ (if is_key_among keys key then cleared (stands put key) else stands put key)) where
  same_body : (key : Key) → kept_in new key ≡ kept_in put key
  same_body key =
      ap standing_body (clear key)
      ∙ elim (is_key_among keys key) as (λ b. standing_body (if b then cleared (stands put key) else stands put key) ≡ standing_body (stands put key)) [ true ↦ body_cleared (stands put key) | false ↦ refl ]

  clear_by : IsClear old → ((key : Key) → is_key_among keys key ≡ false → stands put key ≡ stands old key) → IsClear new
  clear_by was_clear away key e =
      elim (cases_Bool (is_key_among keys key)) [
        | inl among ↦ never_bare (stands put key) (sym (clear key ∙ rw among refl) ∙ e)
        | inr other ↦ was_clear key (sym (away key other) ∙ sym (clear key ∙ rw other refl) ∙ e)
      ]

  module _ (made : (key : Key) → stands room key ≡ (if is_key_among keys key then with_room (stands old key) else stands old key)) (puts : (key : Key) → stands put key ≡ body_among changes key (stands room key)) where
    pub all_changed : IsChanged batch (kept_in old) (kept_in new)
    all_changed key =
        same_body key
        ∙ ap standing_body (puts key ∙ ap (λ list. body_among list key (stands room key)) changes_are)
        ∙ body_put batch key (stands room key)
        ∙ ap (body_after_all batch key) (ap standing_body (made key) ∙ elim (is_key_among keys key) as (λ b. standing_body (if b then with_room (stands old key) else stands old key) ≡ standing_body (stands old key)) [ true ↦ body_with_room (stands old key) | false ↦ refl ])

    pub clear_when_changed : IsClear old → IsClear new
    clear_when_changed was_clear =
        clear_by was_clear
        (λ key away.
        puts key
        ∙ put_away changes key (stands room key) (ap (λ list. is_key_among list key) (sym keys_are) ∙ away)
        ∙ made key ∙ rw away refl)

    pub there_after_room : (key : Key) → is_key_among (map (λ new. new.0) changes) key ≡ true → IsSome (stands room key)
    there_after_room key e = subst IsSome (sym (made key ∙ rw (ap (λ list. is_key_among list key) keys_are ∙ e) refl)) (some_room_there (stands old key))
      where
        some_room_there : (x : Option (Option (List ℕ))) → IsSome (with_room x)
        some_room_there None = refl
        some_room_there (Some body) = refl

-- what a look at the first of a range finds
pub over_option : {A : Type 0} (o : Option A) (N : Type 0) (S T : A → Type 0) → MatchOption o N S → ((x : A) → S x → T x) → IfSome o T
over_option None N S T m f = tt
over_option (Some x) N S T m f = f x m

pub is_less : (a : Ordering) → is_lt a ≡ true → a ≡ Less
is_less Less e = refl
is_less Equal e = absurd (false≢true e)
is_less Greater e = absurd (false≢true e)

module _ (bodies : Bodies) (after : Option Key) (P : Key → Type 0) (into : (key : Key) → is_past after key ≡ true → P key) (out : (key : Key) → P key → is_past after key ≡ true) where
  pub first_found : (r rest : Bodies) (key : Key) (body : Option (List ℕ)) → r ≡ (key, body) ∷ rest → IfSome (slice_get r 0) (λ e. P e.0 × (stands bodies e.0 ≡ Some e.1)) →
      ((other : Key) → P other → IsSome (stands bodies other) → IfSome (slice_get r 0) (λ e. is_gt (key_cmp e.0 other) ≡ false)) → IsFirstIn bodies after key body
  first_found r rest key body e entry least =
      let here : P key × (stands bodies key ≡ Some body) = subst (λ list. IfSome (slice_get list 0) (λ e. P e.0 × (stands bodies e.0 ≡ Some e.1))) e entry in (
        here.1,
        out key here.0,
        λ other past less.
            elim (cases_Bool (is_some (stands bodies other))) [
              | inl there ↦
                  let over : is_gt (key_cmp key other) ≡ false = subst (λ list. IfSome (slice_get list 0) (λ e. is_gt (key_cmp e.0 other) ≡ false)) e (least other (into other past) there) in
                  absurd (false≢true (sym over ∙ ap is_gt (above other key less)))
              | inr absent ↦ none_there (stands bodies other) absent
            ],
      )
    where
      above : (a b : Key) → is_lt (key_cmp a b) ≡ true → key_cmp b a ≡ Greater
      above a b less = key_order.antisymm b a ∙ ap ordering_reverse (is_less (key_cmp a b) less)
