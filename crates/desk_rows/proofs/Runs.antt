-- Rows of one group stand together where the order of keys never sets a lesser group behind a greater one.
use Rattle.std.proofs.Common.{◌≡◌, Bool, true, false, List, [], ◌∷◌, ◌++◌, filter, refl, sym, ap, ◌∙◌, Ordering, Less, Equal, Greater, is_eq}
use Rattle.std.specs.Cmp.{IsTotalOrder}
use Rattle.std.specs.Ordering.{ordering_reverse}
use Rattle.std.specs.List.{AllByRecursion}
use Rattle.desk_rows.specs.Rows.{IsByKey}
use Rattle.desk_rows.specs.Runs.{IsOneRun}
use Rattle.desk_rows.proofs.Order.{AllAbove, first_above, rest_by_key}

module _ {R K G : Type 0} (key : R → K) (key_cmp : K → K → Ordering) (key_order : IsTotalOrder key_cmp) (group : R → G) (cmp : G → G → Ordering) (order : IsTotalOrder cmp) (rises : (first later : R) → key_cmp (key first) (key later) ≡ Less → cmp (group first) (group later) ≡ Greater → ⊥) (g : G) where
  of_group : R → Bool
  of_group row = is_eq (cmp (group row) g)

  run : List R → List R
  run rows = filter of_group rows

  is_less : Ordering → Bool
  is_less Less = true
  is_less Equal = false
  is_less Greater = false

  -- no later row is of a lesser group than this one
  NotBelow : R → R → Type 0
  NotBelow first later = cmp (group first) (group later) ≡ Greater → ⊥

  none_below : (first : R) (rows : List R) → AllAbove key key_cmp key_order (key first) rows → AllByRecursion (NotBelow first) rows
  unfolding NotBelow
  none_below first [] a = tt
  none_below first (row ∷ rows) a = (rises first row a.0, none_below first rows a.1)

  -- what isn't below a row of a greater group is of a greater group
  greater_from : (first later : R) (o : Ordering) → cmp (group first) g ≡ Greater → NotBelow first later → cmp (group later) g ≡ o → o ≡ Greater
  unfolding NotBelow
  greater_from first later Greater e not f = refl
  greater_from first later Equal e not f =
      absurd (not (order.antisymm (group first) (group later) ∙ ap ordering_reverse (order.congr (group later) g (group first) f ∙ order.antisymm g (group first) ∙ ap ordering_reverse e)))
  greater_from first later Less e not f =
      absurd (not (order.antisymm (group first) (group later) ∙ ap ordering_reverse (order.trans (group later) g (group first) f (order.antisymm g (group first) ∙ ap ordering_reverse e))))

  all_greater : (first : R) (rows : List R) → cmp (group first) g ≡ Greater → AllByRecursion (NotBelow first) rows → AllByRecursion (λ row. cmp (group row) g ≡ Greater) rows
  all_greater first [] e a = tt
  all_greater first (row ∷ rows) e a = (greater_from first row (cmp (group row) g) e a.0 refl, all_greater first rows e a.1)

  none_of_group : (rows : List R) → AllByRecursion (λ row. cmp (group row) g ≡ Greater) rows → run rows ≡ []
  unfolding run of_group
  none_of_group [] a = refl
  none_of_group (row ∷ rows) a = rw a.0 (none_of_group rows a.1)

  -- behind a row of the group: rows of it, then greater ones
  not_less : (first later : R) (o : Ordering) → cmp (group first) g ≡ Equal → NotBelow first later → cmp (group later) g ≡ o → is_less o ≡ false
  unfolding NotBelow is_less
  not_less first later Greater e not f = refl
  not_less first later Equal e not f = refl
  not_less first later Less e not f =
      absurd (not (order.congr (group first) g (group later) e ∙ order.antisymm g (group later) ∙ ap ordering_reverse f))

  -- a run and what stands behind it
  record RunThen (rows : List R) : Type 0 where
    behind : List R
    parts : rows ≡ run rows ++ behind
    equal : AllByRecursion (λ row. cmp (group row) g ≡ Equal) (run rows)
    greater : AllByRecursion (λ row. cmp (group row) g ≡ Greater) behind

  all_behind : (rows : List R) → AllByRecursion (λ row. cmp (group row) g ≡ Greater) rows → RunThen rows
  all_behind rows a = record { behind = rows; parts = sym (rw (none_of_group rows a) refl); equal = rw (none_of_group rows a) tt; greater = a }

  run_again : (row : R) (rows : List R) → cmp (group row) g ≡ Equal → run (row ∷ rows) ≡ row ∷ run rows
  unfolding run of_group
  run_again row rows e = rw e refl

  longer : (row : R) (rows : List R) → cmp (group row) g ≡ Equal → RunThen rows → RunThen (row ∷ rows)
  longer row rows e h = record {
    behind = h.behind;
    parts = rw (run_again row rows e) (ap (λ rest. row ∷ rest) h.parts);
    equal = rw (run_again row rows e) (e, h.equal);
    greater = h.greater;
  }

  run_then : (rows : List R) → IsByKey key key_cmp rows → AllByRecursion (λ row. is_less (cmp (group row) g) ≡ false) rows → RunThen rows
  unfolding is_less
  run_then [] h a = all_behind [] tt
  run_then (row ∷ rows) h a = by_order (cmp (group row) g) refl (run_then rows (rest_by_key key key_cmp key_order row rows h) a.1)
    where
      by_order : (o : Ordering) → cmp (group row) g ≡ o → RunThen rows → RunThen (row ∷ rows)
      by_order Less e rest = absurd (Rattle.std.proofs.lemmas.Bool.true≢false (sym (ap is_less e) ∙ a.0))
      by_order Equal e rest = longer row rows e rest
      by_order Greater e rest = all_behind (row ∷ rows) (e, all_greater row rows e (none_below row rows (first_above key key_cmp key_order row rows h)))

  each_not_less : (row : R) (rows : List R) → cmp (group row) g ≡ Equal → AllByRecursion (NotBelow row) rows → AllByRecursion (λ later. is_less (cmp (group later) g) ≡ false) rows
  each_not_less row [] e a = tt
  each_not_less row (later ∷ rows) e a = (ap is_less refl ∙ not_less row later (cmp (group later) g) e a.0 refl, each_not_less row rows e a.1)

  from_start : (rows : List R) → RunThen rows → IsOneRun group cmp g rows (run rows)
  from_start rows h = record { before = []; behind = h.behind; parts = h.parts; lesser = tt; equal = h.equal; greater = h.greater }

  run_skips : (row : R) (rows : List R) → cmp (group row) g ≡ Less → run (row ∷ rows) ≡ run rows
  unfolding run of_group
  run_skips row rows e = rw e refl

  later_run : (row : R) (rows : List R) → cmp (group row) g ≡ Less → IsOneRun group cmp g rows (run rows) → IsOneRun group cmp g (row ∷ rows) (run (row ∷ rows))
  later_run row rows e h = rw (run_skips row rows e) (record {
    before = row ∷ h.before;
    behind = h.behind;
    parts = ap (λ rest. row ∷ rest) h.parts;
    lesser = (e, h.lesser);
    equal = h.equal;
    greater = h.greater;
  })

  is_one_run : (rows : List R) → IsByKey key key_cmp rows → IsOneRun group cmp g rows (run rows)
  unfolding is_less
  is_one_run [] h = from_start [] (all_behind [] tt)
  is_one_run (row ∷ rows) h = by_order (cmp (group row) g) refl (is_one_run rows (rest_by_key key key_cmp key_order row rows h))
    where
      by_order : (o : Ordering) → cmp (group row) g ≡ o → IsOneRun group cmp g rows (run rows) → IsOneRun group cmp g (row ∷ rows) (run (row ∷ rows))
      by_order Less e rest = later_run row rows e rest
      by_order Equal e rest =
          from_start (row ∷ rows)
          (run_then (row ∷ rows) h (ap is_less e, each_not_less row rows e (none_below row rows (first_above key key_cmp key_order row rows h))))
      by_order Greater e rest =
          from_start (row ∷ rows) (all_behind (row ∷ rows) (e, all_greater row rows e (none_below row rows (first_above key key_cmp key_order row rows h))))

  -- the rows of a group are one run of a list by key
  pub filter_is_one_run : (rows : List R) → IsByKey key key_cmp rows → IsOneRun group cmp g rows (filter (λ row. is_eq (cmp (group row) g)) rows)
  unfolding run of_group
  filter_is_one_run rows h = is_one_run rows h
