-- What a statement leaves inside a transaction.
use Rattle.std.proofs.Common.{◌≡◌, ◌⊎◌, inl, inr, ℕ, pos, List, [], ◌∷◌, false, Result, Ok, Err, OnOk, OnErr, IsTrue, arith, sym, subst}
use Rattle.sqlite_value.specs.declared.value.Value.TheVariants.{Int, Blob}
use Rattle.sqlite_value.specs.Order.{Row}
use Rattle.sqlite_trees.specs.Tree.{Trees}
use Rattle.sqlite.specs.declared.error.Error.{Error}
use Rattle.sqlite.specs.Effect.{Database}
use Rattle.sqlite.specs.State.{State, HasCleanDisk, Survives, ExecutesInside, IsUnchanged, IsRolledBack, KeepsCommit}
use Rattle.sqlite.proofs.InsideLemmas.{inside_keeps, keeps_then}
use Rattle.desk_edge.specs.declared.record.Record.{Record}
use Rattle.desk_sqlite.specs.Content.{ArePut, IsPut}
use Rattle.desk_sqlite.specs.Inside.{IsDone, IsInside, Leaves, Spares}
use Rattle.desk_sqlite.specs.Store.{IsStore, rows_in, Dropped}
use Rattle.desk_sqlite.specs.Texts.{insert_text, four_text, drop_text}
use Rattle.desk_sqlite.proofs.FindLemmas.{put_made}
use Rattle.desk_sqlite.proofs.PastLemmas.{store_same}
use Rattle.desk_sqlite.proofs.StateLemmas.{drop_made, four_made, four_params, insert_made}

on_ok : {X E : Type 0} (P Q : Type 0) (r : Result X E) → (P → Q) → OnOk r P → OnOk r Q
on_ok P Q (Ok x) f h = f h
on_ok P Q (Err e) f h = tt

module _ (old new : State) (P : Trees → Type 0) (survives : Survives old new P) where
  pub inside_by : (sql : List ℕ) (params : Row) (r : Result ℕ Error) → (HasCleanDisk new → IsTrue old.in_transaction → ExecutesInside 0 sql params old new r) → IsInside old new
  inside_by sql params r ran = record {
    clean = λ clean. omega (arith, clean, survives.clean);
    kept = λ clean inside. inside_keeps old new 0 false sql params r (ran clean inside);
  }

pub inside_then : (a b c : State) → IsInside a b → IsInside b c → (HasCleanDisk b → IsTrue a.in_transaction → IsTrue b.in_transaction) → IsInside a c
inside_then a b c one two on = record {
  clean = λ clean. one.clean (two.clean clean);
  kept = λ clean inside. let mid = two.clean clean in keeps_then a b c (one.kept mid inside) (two.kept clean (on mid inside));
}

module _ (old new : State) where
  leaves : (sql : List ℕ) (params : Row) (Did : List Row → List Row → Type 0) → ((count : ℕ) → ExecutesInside 0 sql params old new (Ok count) → IsStore old → IsStore new × Did (rows_in old) (rows_in new))
      → (r : Result ℕ Error) (done : Result (Unit {0}) Error) → IsDone r done → (HasCleanDisk new → IsTrue old.in_transaction → ExecutesInside 0 sql params old new r) → Leaves old new done Did
  leaves sql params Did made (Ok count) done is ran clean inside =
      let h = ran clean inside in
      subst (λ d. OnOk d (IsTrue new.in_transaction × (IsStore old → IsStore new × Did (rows_in old) (rows_in new)))) (sym is) (h.1.mode, made count h)
  leaves sql params Did made (Err e) done is ran clean inside = subst (λ d. OnOk d (IsTrue new.in_transaction × (IsStore old → IsStore new × Did (rows_in old) (rows_in new)))) (sym is) tt

  pub drop_leaves : (kind : ℕ) (code : List ℕ) (r : Result ℕ Error) (done : Result (Unit {0}) Error) → IsDone r done
      → (HasCleanDisk new → IsTrue old.in_transaction → ExecutesInside 0 drop_text (Int (pos kind) ∷ Blob code ∷ []) old new r) → Leaves old new done (Dropped kind code)
  drop_leaves kind code = leaves drop_text (Int (pos kind) ∷ Blob code ∷ []) (Dropped kind code) (λ count h store. drop_made old new store kind code count h)

  pub insert_leaves : (kept : Record) (r : Result ℕ Error) (done : Result (Unit {0}) Error) → IsDone r done
      → (HasCleanDisk new → IsTrue old.in_transaction → ExecutesInside 0 insert_text (Int (pos kept.kind) ∷ Blob kept.code ∷ Blob kept.body ∷ []) old new r) → Leaves old new done (IsPut kept)
  insert_leaves kept = leaves insert_text _ (IsPut kept) (λ count h store. insert_made old new store kept count h)

  pub four_leaves : (first second third fourth : Record) (r : Result ℕ Error) (done : Result (Unit {0}) Error) → IsDone r done
      → (HasCleanDisk new → IsTrue old.in_transaction → ExecutesInside 0 four_text (four_params first second third fourth) old new r) → Leaves old new done (ArePut (first ∷ second ∷ third ∷ fourth ∷ []))
  four_leaves first second third fourth = leaves four_text _ (ArePut (first ∷ second ∷ third ∷ fourth ∷ [])) (λ count h store. four_made old new store first second third fourth count h)

  -- what a refused statement leaves
  pub refused_spares : (sql : List ℕ) (params : Row) (held : ℕ) (r : Result ℕ Error) (done : Result (Unit {0}) Error) → IsDone r done
      → (HasCleanDisk new → IsTrue old.in_transaction → ExecutesInside held sql params old new r) → Spares old new done
  refused_spares sql params held (Ok count) done is ran clean inside = subst (λ d. OnErr d (((new.now ≡ old.now) × IsTrue new.in_transaction) ⊎ (new.in_transaction ≡ false))) (sym is) tt
  refused_spares sql params held (Err e) done is ran clean inside =
      subst (λ d. OnErr d (((new.now ≡ old.now) × IsTrue new.in_transaction) ⊎ (new.in_transaction ≡ false))) (sym is) (go (ran clean inside))
    where
      same : IsUnchanged old new → ((new.now ≡ old.now) × IsTrue new.in_transaction) ⊎ (new.in_transaction ≡ false)
      same h = inl (h.0.now_is, subst IsTrue (sym h.0.mode) inside)

      go : ExecutesInside held sql params old new (Err e) → ((new.now ≡ old.now) × IsTrue new.in_transaction) ⊎ (new.in_transaction ≡ false)
      go (inl h) = by h.1
        where
          by : IsUnchanged old new ⊎ IsRolledBack old new → ((new.now ≡ old.now) × IsTrue new.in_transaction) ⊎ (new.in_transaction ≡ false)
          by (inl u) = same u
          by (inr back) = inr back.autocommit
      go (inr h) = same h.2

-- two things that are done in turn
pub left_then : (a b c : State) (One Two Both : List Row → List Row → Type 0) (done : Result (Unit {0}) Error) → IsInside b c
    → ((x y z : List Row) → One x y → Two y z → Both x z) → Leaves a b (Ok tt) One → Leaves b c done Two → Leaves a c done Both
left_then a b c One Two Both done later joins one two clean inside =
    let before = one (later.clean clean) inside in
    on_ok _ _ done (λ after. (
      after.0,
      λ store.
          let d = before.1 store in
          let i = after.1 d.0 in
          (i.0, joins (rows_in a) (rows_in b) (rows_in c) d.1 i.1),
    )) (two clean before.0)

-- a drop and then an insert put a record in
pub put_leaves : (a b c : State) (kept : Record) (done : Result (Unit {0}) Error) (code : List ℕ) → IsInside b c
    → Leaves a b (Ok tt) (Dropped kept.kind code) → Leaves b c done (IsPut kept) → code ≡ kept.code → Leaves a c done (IsPut kept)
put_leaves a b c kept done code later dropped put code_is =
    left_then a b c (Dropped kept.kind kept.code) (IsPut kept) (IsPut kept) done later (put_made kept) (subst (λ (l : List ℕ). Leaves a b (Ok tt) (Dropped kept.kind l)) code_is dropped) put

-- what comes behind a statement that was refused
module _ (a b c : State) (one : IsInside a b) (two : IsInside b c)
    (spares : HasCleanDisk b → IsTrue a.in_transaction → ((b.now ≡ a.now) × IsTrue b.in_transaction) ⊎ (b.in_transaction ≡ false)) where
  pub refused_inside : (b.in_transaction ≡ false → c ≡ b) → IsInside a c
  refused_inside ended = record { clean = λ clean. one.clean (two.clean clean); kept = λ clean inside. go (two.clean clean) inside (two.kept clean) (spares (two.clean clean) inside) }
    where
      go : HasCleanDisk b → IsTrue a.in_transaction → (IsTrue b.in_transaction → KeepsCommit b c) → ((b.now ≡ a.now) × IsTrue b.in_transaction) ⊎ (b.in_transaction ≡ false) → KeepsCommit a c
      go mid inside kept (inl h) = keeps_then a b c (one.kept mid inside) (kept h.1)
      go mid inside kept (inr e) = subst (KeepsCommit a) (sym (ended e)) (one.kept mid inside)

  pub refused_leaves : (Did : List Row → List Row → Type 0) (done : Result (Unit {0}) Error) → (b.in_transaction ≡ false → OnOk done ⊥) → Leaves b c done Did → Leaves a c done Did
  refused_leaves Did done ended left clean inside = go (spares (two.clean clean) inside)
    where
      go : ((b.now ≡ a.now) × IsTrue b.in_transaction) ⊎ (b.in_transaction ≡ false) → OnOk done (IsTrue c.in_transaction × (IsStore a → IsStore c × Did (rows_in a) (rows_in c)))
      go (inl h) = on_ok _ _ done (λ went. (
        went.0,
        λ store.
            let it = went.1 (store_same a b h.0 store) in
            (it.0, subst (λ (d : Database). Did (d.trees 0) (rows_in c)) h.0 it.1),
      )) (left clean h.1)
      go (inr e) = on_ok ⊥ _ done (λ never. absurd never) (ended e)
