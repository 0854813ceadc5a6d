-- The changes before those that are left were made.
use Rattle.std.proofs.Common.{[], ◌++◌, Ok, sym, ap, ◌∙◌, refl, subst, rules, append_assoc, append-nil}
use Rattle.std.specs.Slice.Iter.{chunks_rest}
use Rattle.std.proofs.lemmas.List.{nil_from_length}
use Rattle.sqlite.specs.Held.{state}
use Rattle.desk_sqlite.specs.Content.{AreMade}
use Rattle.desk_sqlite.specs.Inside.{Leaves}
use Rattle.desk_sqlite.specs.Store.{rows_in}
use Rattle.desk_sqlite.proofs.CommitLemmas.{inside_itself, made_then, none_made}
use Rattle.desk_sqlite.proofs.InsideLemmas.{inside_then, left_then}
use Rattle.desk_sqlite.proofs.commit.make_all.Goals as goal

pub loop-few-init : goal.loop-few-init
loop-few-init g c =
    let now = state g.S.Store c.args.tx.now.conn.now in
    (search rules, tt, refl, inside_itself now, ([], (λ clean inside. (inside, λ store. (store, none_made (rows_in now)))), search rules))

pub loop-few-preserved : goal.loop-few-preserved
loop-few-preserved g c =
    let (goes, ends, same, stays, (front, made, parts)) = c.loop-few.invariant in
    let few = c.in-Some.few.now in
    let rest = chunks_rest c.next.new.self in (
      search rules,
      tt,
      search rules,
      inside_then _ _ _ stays c.make_few.ensures.inside (λ clean inside. (made clean inside).0),
      (
        front ++ few,
        left_then _ _ _ (AreMade front) (AreMade few) (AreMade (front ++ few)) (Ok tt) c.make_few.ensures.inside (λ old mid new. made_then front few old mid new) made
            (rw c.in_ok-make_few.was at c.make_few.ensures.made),
        parts ∙ ap (λ r. front ++ r) c.in-Some.ensures.steps.1.0 ∙ sym (append_assoc front few rest),
      ),
    )

pub returns-in_err-make_few-clause-inside : goal.returns-in_err-make_few-clause-inside
returns-in_err-make_few-clause-inside g c =
    let (goes, ends, same, stays, (front, made, parts)) = c.loop-few.invariant in
    inside_then _ _ _ stays c.make_few.ensures.inside (λ clean inside. (made clean inside).0)

pub returns-clause-made : goal.returns-clause-made
returns-clause-made g c =
    let (goes, ends, same, stays, (front, made, parts)) = c.loop-few.invariant in
    let none = nil_from_length _ c.in-None.ensures.steps.1.0 in
    let old = state g.S.Store c.args.tx.now.conn.now in
    let now = state g.S.Store c.loop-few.tx.conn.now in
    subst (λ all. Leaves old now (Ok tt) (AreMade all)) (sym (parts ∙ ap (λ r. front ++ r) none ∙ append-nil front)) made
