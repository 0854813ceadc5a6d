use Rattle.std.proofs.Common.{◌≡◌, ◌++◌, [], ◌∷◌, Some, IsSomeAnd, int_lt, false, to_z, of_z, w64, refl, sym, subst, rules, arith}
use Rattle.sqlite.specs.Held.{state}
use Rattle.sqlite.specs.State.{HasCleanDisk}
use Rattle.sqlite.specs.Given.{IsPlain}
use Rattle.sqlite.specs.Listing.{understood}
use Rattle.sqlite.proofs.Callers.{begun_plain, given_begin, unchanged_then}
use Rattle.desk_sqlite.specs.Store.{Suits}
use Rattle.desk_sqlite.specs.Texts.{numbers_text}
use Rattle.desk_sqlite.proofs.NumberLemmas.{IsReached, IsUpTo, begins_before, no_rise, none_rise, reached_push, rising_push}
use Rattle.desk_sqlite.proofs.ReadyLemmas.{read_same, read_suits}
use Rattle.desk_sqlite.proofs.TextLemmas.{numbers_plain}
use Rattle.desk_sqlite.proofs.ready.are_numbered.Goals as goal

pub rows-init : goal.rows-init
rows-init g c =
    let made = c.in_ok-rows.ensures in
    let ours = c.requires.ours in
    let plain = subst (λ s. IsPlain (understood s numbers_text)) (sym ours.2) (numbers_plain ours.0 ours.1) in
    (refl, made.mode c.requires.outside, λ clean. let begun = begun_plain g.S.Store _ _ c.args.conn.now _ plain (made.begun clean) in ([], begun.0, begun.1, none_rise, refl, tt))

pub returns-in_default-clause-suits : goal.returns-in_default-clause-suits
returns-in_default-clause-suits g c numbered clean is_open =
    let moved = c.next.follows.holds-at-none in
    let here = c.next.follows.lender-at-none.conn.now in
    let late : HasCleanDisk (state g.S.Store here) = search rules in
    let was = c.rows.invariant.2 (omega (arith, moved.survives.clean)) in
    let shown = (rw (c.in_ok-row.was, c.in_default.is) at (moved.ok late)) numbers_text [] was.0 was.1 in
    let suits : Suits (state g.S.Store here) = read_suits _ _ _ was.0 c.requires.ours was.2 shown was.3 in
    search rules

pub returns-in_default-clause-same : goal.returns-in_default-clause-same
returns-in_default-clause-same g c numbered clean =
    let moved = c.next.follows.holds-at-none in
    let here = c.next.follows.lender-at-none.conn.now in
    let late : HasCleanDisk (state g.S.Store here) = search rules in
    let was = c.rows.invariant.2 (omega (arith, moved.survives.clean)) in
    let shown = (rw (c.in_ok-row.was, c.in_default.is) at (moved.ok late)) numbers_text [] was.0 was.1 in
    let same : (state g.S.Store here).now ≡ (state g.S.Store c.args.conn.now).now = read_same _ _ _ was.0 c.requires.ours was.2 shown in
    search rules

pub rows-preserved : goal.rows-preserved
rows-preserved g c =
    let moved = c.next.follows.holds-at-none in
    let row = c.in-Some.row.now in
    let number = c.in_ok-number.number in
    let same_number : to_z w64 (of_z w64 number) ≡ number = search rules in (
      search rules,
      moved.mode c.rows.invariant.1,
      λ clean.
          let was = c.rows.invariant.2 (omega (arith, moved.survives.clean)) in
          let given = (rw (c.in_ok-row.was, c.in-Some.is) at (moved.ok clean)) numbers_text [] was.0 was.1 in
          let same = unchanged_then _ _ _ was.2 (rw c.in_ok-row.was at (moved.same clean)) in
          let more = rising_push was.0 row number c.rows.last was.3 was.4 c.in_ok-number.ensures.ok.1 (search rules) in (
            was.0 ++ row ∷ [],
            given,
            same,
            more.0,
            subst (λ n. IsUpTo (was.0 ++ row ∷ []) (Some n)) (sym same_number) more.1,
            subst (λ n. IsReached (was.0 ++ row ∷ []) (Some n)) (sym same_number) (reached_push was.0 row number c.in_ok-number.ensures.ok.1),
          ),
    )

pub returns-then-not-is_above-clause-found : goal.returns-then-not-is_above-clause-found
returns-then-not-is_above-clause-found g c numbered clean =
    let moved = c.next.follows.holds-at-none in
    let here = c.next.follows.lender-at-none.conn.now in
    let old = state g.S.Store c.args.conn.now in
    let row = c.in-Some.row.now in
    let number = c.in_ok-number.number in
    let late : HasCleanDisk (state g.S.Store here) = search rules in
    let was = c.rows.invariant.2 (omega (arith, moved.survives.clean)) in
    let given = (rw (c.in_ok-row.was, c.in-Some.is) at (moved.ok late)) numbers_text [] was.0 was.1 in
    let same = unchanged_then _ _ _ was.2 (rw c.in_ok-row.was at (moved.same late)) in
    let low : IsSomeAnd c.rows.last (λ m. int_lt m number ≡ false) = search rules in (
      was.0 ++ row ∷ [],
      begins_before old (state g.S.Store here) numbers_text [] (was.0 ++ row ∷ []) same.0.now_is (given_begin g.S.Store numbers_text [] here (was.0 ++ row ∷ []) given),
      no_rise was.0 row number c.rows.last was.5 c.in_ok-number.ensures.ok.1 low,
    )
