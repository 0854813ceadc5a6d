-- One look after another, and what they find past a key.
use Rattle.std.proofs.Common.{◌≡◌, List, [], Option, None, Some, Result, Ok, Err, IfOk, IsTrue, sym, subst, ◌∙◌}
use Rattle.sqlite_value.specs.Order.{Row}
use Rattle.sqlite.specs.declared.error.Error.{Error}
use Rattle.sqlite.specs.Effect.{Database}
use Rattle.sqlite.specs.State.{State, HasCleanDisk, IsLive}
use Rattle.desk_edge.specs.declared.key.Key.{Key}
use Rattle.desk_edge.specs.declared.record.Record.{Record}
use Rattle.desk_sqlite.specs.Content.{AreKeyed, AreLooked, AreFirstRows, AreFirstPast, rows_content}
use Rattle.desk_sqlite.specs.Rows.{AreRowsNumbered}
use Rattle.desk_sqlite.specs.Store.{IsOurs, IsStore, IsStill, Suits, any_key, is_within, is_beyond, rows_in}
use Rattle.desk_sqlite.proofs.FindLemmas.{are_keyed, first_of_all, first_beyond}

pub if_ok : {X E : Type 0} (P Q : X → Type 0) (r : Result X E) → ((x : X) → P x → Q x) → IfOk r P → IfOk r Q
if_ok P Q (Ok x) f h = f x h
if_ok P Q (Err e) f h = tt

pub if_ok_always : {X E : Type 0} (Q : X → Type 0) (r : Result X E) → ((x : X) → Q x) → IfOk r Q
if_ok_always Q (Ok x) f = f x
if_ok_always Q (Err e) f = tt

pub if_both : {X E : Type 0} (P Q : X → Type 0) (r : Result X E) → IfOk r P → IfOk r Q → IfOk r (λ x. P x × Q x)
if_both P Q (Ok x) p q = (p, q)
if_both P Q (Err e) p q = tt

pub if_ok_later : {X E A B : Type 0} (P : X → Type 0) (r : Result X E) → (A → B → IfOk r P) → IfOk r (λ x. A → B → P x)
if_ok_later P (Ok x) f = f
if_ok_later P (Err e) f = tt

pub store_same : (a b : State) → b.now ≡ a.now → IsStore a → IsStore b
store_same a b same store = record {
  ours = subst (λ (d : Database). IsOurs d.schema) (sym same) store.ours;
  numbered = subst (λ (d : Database). AreRowsNumbered (d.trees 0)) (sym same) store.numbered;
}

pub suits_still : (a b : State) → IsStill a b → Suits a → Suits b
suits_still a b still suits clean now = store_same a b (still.same suits clean now) (suits (still.clean clean) (still.was_open clean now))

pub still_then : (a b c : State) → IsStill a b → IsStill b c → IsStill a c
still_then a b c s t = record {
  clean = λ x. s.clean (t.clean x);
  was_open = λ x y. s.was_open (t.clean x) (t.was_open x y);
  same = λ suits x y. t.same (suits_still a b s suits) x y ∙ s.same suits (t.clean x) (t.was_open x y);
}

pub keyed_still : (a b : State) → IsStill a b → IsLive a → Suits a → HasCleanDisk b → IsTrue b.is_open → AreKeyed (rows_in a)
keyed_still a b still live suits clean now = let was = still.was_open clean now in are_keyed a (live was).0 (suits (still.clean clean) was)

module _ {X : Type 0} (items : X → List Row) where
  -- nothing is within, and these are beyond
  pub past_beyond : (a b c : State) (key : Key) (found : Result X Error) → IsStill a b → IsStill b c → Suits a → HasCleanDisk c → IsTrue c.is_open
      → (HasCleanDisk b → IsTrue b.is_open → AreLooked (is_within key.kind key.code) (rows_in a) [])
      → (Suits b → HasCleanDisk c → IsTrue c.is_open → IfOk found (λ shown. AreLooked (is_beyond key.kind) (rows_in b) (items shown))) → IfOk found (λ shown. AreFirstRows (Some key) (rows_in a) (items shown))
  past_beyond a b c key found s t suits clean now none look =
      let mid_clean = t.clean clean in
      let mid_open = t.was_open clean now in
      let same = s.same suits mid_clean mid_open in
      let looked = look (suits_still a b s suits) clean now in
      if_ok (λ shown. AreLooked (is_beyond key.kind) (rows_in a) (items shown)) (λ shown. AreFirstRows (Some key) (rows_in a) (items shown)) found (λ o h. first_beyond key (rows_in a) (items o) (none mid_clean mid_open) h)
      (subst (λ (d : Database). IfOk found (λ shown. AreLooked (is_beyond key.kind) (d.trees 0) (items shown))) same looked)

  pub past_all : (rows : List Row) (found : Result X Error) → IfOk found (λ shown. AreLooked any_key rows (items shown)) → IfOk found (λ shown. AreFirstRows None rows (items shown))
  past_all rows found = if_ok (λ shown. AreLooked any_key rows (items shown)) (λ shown. AreFirstRows None rows (items shown)) found (λ o h. first_of_all rows (items o) h)

-- what is found of the rows as they were is found of them as they are
pub past_after : (a b : State) (after : Option Key) (found : List Record) → IsStill a b → Suits a → HasCleanDisk b → IsTrue b.is_open
    → AreFirstPast (rows_content (rows_in a)) after found → AreFirstPast (rows_content (rows_in b)) after found
past_after a b after found still suits clean now = subst (λ (d : Database). AreFirstPast (rows_content (d.trees 0)) after found) (sym (still.same suits clean now))
