-- What a look leaves of the state, and what it finds.
use Rattle.std.proofs.Common.{◌≡◌, ℕ, pos, List, [], ◌∷◌, Bool, Result, Ok, Err, IfOk, IfErr, IsTrue, arith, sym, subst}
use Rattle.sqlite_value.specs.declared.value.Value.TheVariants.{Int, Blob}
use Rattle.sqlite_value.specs.Order.{Row}
use Rattle.sqlite_trees.specs.Tree.{Trees}
use Rattle.sqlite.specs.declared.error.Error.{Error}
use Rattle.sqlite.specs.Given.{IsPlain}
use Rattle.sqlite.specs.Listing.{understood}
use Rattle.sqlite.specs.State.{State, HasCleanDisk, Survives, FailsToQuery, Shown}
use Rattle.desk_sqlite.specs.Content.{AreLooked}
use Rattle.desk_sqlite.specs.Store.{IsOurs, IsStill, Suits, any_key, is_within, is_beyond, rows_in}
use Rattle.desk_sqlite.specs.Texts.{first_text, within_text, beyond_text}
use Rattle.desk_sqlite.proofs.StateLemmas.{all_open, all_same, listed_open, listed_same, look_first, look_within, look_beyond}
use Rattle.desk_sqlite.proofs.TextLemmas.{first_plain, within_plain, beyond_plain}

-- ---- what is left

module _ (old new : State) (P : Trees → Type 0) (survives : Survives old new P) where
  still_clean : HasCleanDisk new → HasCleanDisk old
  still_clean clean = omega (arith, clean, survives.clean)

  module _ (sql : List ℕ) (params : Row) {X : Type 0} (r : Result X Error) (items : X → List Row) (ok : HasCleanDisk new → IfOk r (λ rows. Shown sql params old new (items rows)))
      (err : HasCleanDisk new → IfErr r (FailsToQuery sql params old new)) where
    was_open : HasCleanDisk new → IsTrue new.is_open → IsTrue old.is_open
    was_open clean now = go r (ok clean) (err clean)
      where
        go : (r : Result X Error) → IfOk r (λ rows. Shown sql params old new (items rows)) → IfErr r (FailsToQuery sql params old new) → IsTrue old.is_open
        go (Ok rows) shown fails = all_open sql params old new (items rows) shown
        go (Err e) shown fails = listed_open sql params old new e fails now

    same : IsPlain (understood old.now.schema sql) → old.now ≡ old.committed → HasCleanDisk new → IsTrue new.is_open → new.now ≡ old.now
    same plain settled clean now = go r (ok clean) (err clean)
      where
        go : (r : Result X Error) → IfOk r (λ rows. Shown sql params old new (items rows)) → IfErr r (FailsToQuery sql params old new) → new.now ≡ old.now
        go (Ok rows) shown fails = all_same sql params old new plain settled (items rows) shown
        go (Err e) shown fails = listed_same sql params old new plain settled e fails now

    pub asked_still : (IsOurs old.now.schema → IsPlain (understood old.now.schema sql)) → (IsTrue old.is_open → old.now ≡ old.committed) → IsStill old new
    asked_still plain settled = record {
      clean = still_clean;
      was_open = was_open;
      same = λ suits clean now.
          let was = was_open clean now in
          same (plain (suits (still_clean clean) was).ours) (settled was) clean now;
    }

pub first_is_plain : (old : State) → IsOurs old.now.schema → IsPlain (understood old.now.schema first_text)
first_is_plain old ours = subst (λ s. IsPlain (understood s first_text)) (sym ours.2) (first_plain ours.0 ours.1)

pub within_is_plain : (old : State) → IsOurs old.now.schema → IsPlain (understood old.now.schema within_text)
within_is_plain old ours = subst (λ s. IsPlain (understood s within_text)) (sym ours.2) (within_plain ours.0 ours.1)

pub beyond_is_plain : (old : State) → IsOurs old.now.schema → IsPlain (understood old.now.schema beyond_text)
beyond_is_plain old ours = subst (λ s. IsPlain (understood s beyond_text)) (sym ours.2) (beyond_plain ours.0 ours.1)

-- ---- what is found

module _ (old new : State) (still : IsStill old new) (suits : Suits old) (clean : HasCleanDisk new) (now : IsTrue new.is_open) {X : Type 0} (r : Result X Error) (items : X → List Row) where
  ours : IsOurs old.now.schema
  ours = (suits (still.clean clean) (still.was_open clean now)).ours

  if_shown : (sql : List ℕ) (params : Row) (wanted : ℕ → List ℕ → Bool) → ((shown : List Row) → Shown sql params old new shown → AreLooked wanted (rows_in old) shown)
      → IfOk r (λ rows. Shown sql params old new (items rows)) → IfOk r (λ rows. AreLooked wanted (rows_in old) (items rows))
  if_shown sql params wanted look = go r
    where
      go : (r : Result X Error) → IfOk r (λ rows. Shown sql params old new (items rows)) → IfOk r (λ rows. AreLooked wanted (rows_in old) (items rows))
      go (Ok rows) h = look (items rows) h
      go (Err e) h = tt

  pub first_found : IfOk r (λ rows. Shown first_text [] old new (items rows)) → IfOk r (λ rows. AreLooked any_key (rows_in old) (items rows))
  first_found = if_shown first_text [] any_key (look_first old new ours)

  pub within_found : (kind : ℕ) (code : List ℕ) → IfOk r (λ rows. Shown within_text (Int (pos kind) ∷ Blob code ∷ []) old new (items rows)) → IfOk r (λ rows. AreLooked (is_within kind code) (rows_in old) (items rows))
  within_found kind code = if_shown within_text (Int (pos kind) ∷ Blob code ∷ []) (is_within kind code) (look_within old new ours kind code)

  pub beyond_found : (kind : ℕ) → IfOk r (λ rows. Shown beyond_text (Int (pos kind) ∷ []) old new (items rows)) → IfOk r (λ rows. AreLooked (is_beyond kind) (rows_in old) (items rows))
  beyond_found kind = if_shown beyond_text (Int (pos kind) ∷ []) (is_beyond kind) (look_beyond old new ours kind)
