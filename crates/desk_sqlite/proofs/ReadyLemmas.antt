-- When a database that was looked at is a store.
use Rattle.std.proofs.Common.{◌≡◌, ◌∙◌, ℕ, List, [], Option, None, Some, sym, subst}
use Rattle.sqlite_value.specs.Order.{Row}
use Rattle.sqlite_sql.specs.Program.{overlay}
use Rattle.sqlite_schema.specs.declared.command.Returning.{Returning}
use Rattle.sqlite_resolve.specs.declared.compiled.Compiled.{Compiled}
use Rattle.sqlite.specs.Effect.{Database}
use Rattle.sqlite.specs.Given.{IsPlain}
use Rattle.sqlite.specs.Listing.{understood}
use Rattle.sqlite.specs.State.{State, HasCleanDisk, IsUnchanged, ShowsRows, Shown}
use Rattle.desk_sqlite.specs.Numbers.{AreRising}
use Rattle.desk_sqlite.specs.Rows.{AreRowsNumbered}
use Rattle.desk_sqlite.specs.Store.{IsOurs, Suits}
use Rattle.desk_sqlite.specs.Texts.{numbers_text}
use Rattle.desk_sqlite.proofs.MeaningLemmas.{shows_numbers}
use Rattle.desk_sqlite.proofs.NumberLemmas.{are_numbered}
use Rattle.desk_sqlite.proofs.TextLemmas.{numbers_plain}

module _ (sql : List ℕ) (params : Row) (old new : State) where
  shows_same : (c : Compiled) (given : Row) (rows : List Row) (o : Option Returning) → o ≡ None → ShowsRows old new sql c given rows o → IsUnchanged old new
  shows_same c given rows None none h = h.3
  shows_same c given rows (Some what) none h = absurd (let bad = none in cc)

  -- a list of rows that was shown left all as it was
  pub listing_same : IsPlain (understood old.now.schema sql) → (rows : List Row) → Shown sql params old new rows → IsUnchanged old new
  unfolding Shown
  listing_same plain rows h = shows_same h.0 _ rows h.0.returning (subst IsPlain h.1.is plain).0 h.2

pub numbered_suits : (old new : State) (rows : List Row) → IsOurs old.now.schema → (HasCleanDisk new → Shown numbers_text [] old new rows) → AreRising rows → Suits new
numbered_suits old new rows ours shown rising clean now =
    let plain = subst (λ s. IsPlain (understood s numbers_text)) (sym ours.2) (numbers_plain ours.0 ours.1) in
    let same = (listing_same numbers_text [] old new plain rows (shown clean)).0.now_is in
    record {
      ours = subst (λ (d : Database). IsOurs d.schema) (sym same) ours;
      numbered = subst (λ (d : Database). AreRowsNumbered (d.trees 0)) (sym same) (are_numbered (overlay old.now.trees []) rows (shows_numbers ours.0 ours.1 old new ours.2 rows (shown clean)) rising);
    }

-- the numbers were read one at a time up to the last, and each was greater than the one before it
pub read_suits : (first old new : State) (rows : List Row) → IsOurs first.now.schema → IsUnchanged first old → Shown numbers_text [] old new rows → AreRising rows → Suits new
read_suits first old new rows ours same shown rising = numbered_suits old new rows (subst (λ (d : Database). IsOurs d.schema) (sym same.0.now_is) ours) (λ _. shown) rising

-- and all is as it was at first
pub read_same : (first old new : State) (rows : List Row) → IsOurs first.now.schema → IsUnchanged first old → Shown numbers_text [] old new rows → new.now ≡ first.now
read_same first old new rows ours same shown =
    let here = subst (λ (d : Database). IsOurs d.schema) (sym same.0.now_is) ours in
    let plain = subst (λ s. IsPlain (understood s numbers_text)) (sym here.2) (numbers_plain here.0 here.1) in
    (listing_same numbers_text [] old new plain rows shown).0.now_is ∙ same.0.now_is
