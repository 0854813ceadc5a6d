-- What a batch leaves, made or taken back.
use Rattle.std.proofs.Common.{◌≡◌, ◌++◌, ◌+◌, ◌<◌, ℕ, length, take, List, [], ◌∷◌, Option, Ok, refl, sym, ap, subst, ◌∙◌}
use Rattle.std.proofs.lemmas.List.{take_more}
use Rattle.std.specs.List.{slice_index_or}
use Rattle.sqlite_value.specs.Order.{Row}
use Rattle.sqlite.specs.State.{State}
use Rattle.desk_edge.specs.Content.{body_after, body_after_all}
use Rattle.desk_edge.specs.declared.change.Change.{Change}
use Rattle.desk_edge.specs.declared.key.Key.{Key}
use Rattle.desk_sqlite.specs.Content.{AreMade, IsMade, rows_content}
use Rattle.desk_sqlite.specs.Inside.{IsInside, Leaves}
use Rattle.desk_sqlite.specs.Store.{rows_in}

pub inside_itself : (s : State) → IsInside s s
inside_itself s = record { clean = λ clean. clean; kept = λ _ _. record { was_open = λ h. h; committed = λ _. refl } }

pub none_made : (rows : List Row) → AreMade [] rows rows
none_made rows key = refl

changed_then : (changes more : List Change) (key : Key) (body : Option (List ℕ)) → body_after_all (changes ++ more) key body ≡ body_after_all more key (body_after_all changes key body)
changed_then [] more key body = refl
changed_then (first ∷ changes) more key body = changed_then changes more key (body_after first key body)

-- some changes more
pub made_then : (changes more : List Change) (old mid new : List Row) → AreMade changes old mid → AreMade more mid new → AreMade (changes ++ more) old new
made_then changes more old mid new first then key = then key ∙ ap (body_after_all more key) (first key) ∙ sym (changed_then changes more key (rows_content old key))

-- nothing is made by no change
pub none_left_out : (s : State) (changes : List Change) → Leaves s s (Ok tt) (AreMade (take 0 changes))
none_left_out s changes clean inside = (inside, λ store. (store, none_made (rows_in s)))

-- one change more is made
pub one_left_more : (a b c : State) (changes : List Change) (i : ℕ) (change : Change) → i < length changes → change ≡ slice_index_or changes i change
    → IsInside b c → Leaves a b (Ok tt) (AreMade (take i changes)) → Leaves b c (Ok tt) (IsMade change) → Leaves a c (Ok tt) (AreMade (take (i + 1) changes))
one_left_more a b c changes i change within is later all one clean inside =
    let mid = all (later.clean clean) inside in
    let last = one clean mid.0 in
    let more : take (i + 1) changes ≡ take i changes ++ change ∷ [] = take_more changes i change within ∙ ap (λ x. take i changes ++ x ∷ []) (sym is) in (
      last.0,
      λ store.
          let m = mid.1 store in
          let n = last.1 m.0 in
          (n.0, subst (λ made. AreMade made (rows_in a) (rows_in c)) (sym more) (made_then (take i changes) (change ∷ []) (rows_in a) (rows_in b) (rows_in c) m.1 n.1)),
    )
