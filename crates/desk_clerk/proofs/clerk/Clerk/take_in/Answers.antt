-- The list goes on with an edit that is new, and the tables are those after it.
use Rattle.std.proofs.Common.{◌≡◌, ◌++◌, ◌∙◌, None, ap, append-nil, subst, sym, refl}
use Rattle.desk_clerk.specs.Clerk.{list_from, tables_of, current_tables}
use Rattle.desk_clerk.specs.Published.{IsTakenIn, added_to_list, waiting_edit}
use Rattle.desk_clerk.proofs.ToPublish.{nothing_kept, ok_or_err, on_err, on_ok, stays_history, told_none}
use Rattle.desk_engine.specs.Engine.{lists_of}
use Rattle.desk_history.specs.Step.{step}
use Rattle.desk_clerk.proofs.clerk.Clerk.take_in.Goals as goal

pub invariant_of-self : goal.invariant_of-self
invariant_of-self g c =
    let inside = c.self.inside in
    let all = subst (λ clerk. clerk.published ≡ clerk.accepted) (sym c.self.view_is) c.requires in
    let none : inside.kept ≡ None = nothing_kept inside.publication.published inside.publication.whole inside.kept c.self.invariant.2 all in
    let now = c.take_into-taken.new.kept in
    let left = c.take_into-taken.new.desk in
    let taken = ok_or_err ((waiting_edit now ≡ added_to_list (tables_of inside.desk) c.args.edit) × (tables_of left ≡ (step (tables_of inside.desk) c.args.edit).1))
    ((now ≡ None) × (tables_of left ≡ tables_of inside.desk)) c.take_into-taken.result c.take_into-taken.ensures.ok c.take_into-taken.ensures.err in
    let stays = stays_history (lists_of g.J.Naming.opening.engine) inside.publication.whole inside.kept now c.args.edit (tables_of inside.desk) (tables_of left)
    none c.take_into-taken.ensures.form c.self.invariant.0 c.self.invariant.1 taken in (
      stays.0,
      stays.1,
      c.self.invariant.2,
      λ is. all ∙ ap (λ kept. inside.publication.whole ++ waiting_edit kept) (none ∙ sym (told_none now c.is_none-self-inside.result c.is_none-self-inside.ensures is)),
    )

pub returns-clause-ok : goal.returns-clause-ok
returns-clause-ok g c =
    let inside = c.self.inside in
    let all = subst (λ clerk. clerk.published ≡ clerk.accepted) (sym c.self.view_is) c.requires in
    let none : inside.kept ≡ None = nothing_kept inside.publication.published inside.publication.whole inside.kept c.self.invariant.2 all in
    let now = c.take_into-taken.new.kept in
    let left = c.take_into-taken.new.desk in
    on_ok ((waiting_edit now ≡ added_to_list (tables_of inside.desk) c.args.edit) × (tables_of left ≡ (step (tables_of inside.desk) c.args.edit).1)) _ c.take_into-taken.result
    (λ taken. subst (λ clerk. IsTakenIn clerk.accepted (current_tables clerk) c.args.edit (inside.publication.whole ++ waiting_edit now) (tables_of left)) c.self.view_is (
      ap (λ edits. inside.publication.whole ++ edits) taken.0 ∙ ap (λ edits. edits ++ added_to_list (tables_of inside.desk) c.args.edit) (sym (ap (λ kept. inside.publication.whole ++ waiting_edit kept) none ∙ append-nil inside.publication.whole)),
      taken.1,
    ))
    c.take_into-taken.ensures.ok

pub returns-clause-err : goal.returns-clause-err
returns-clause-err g c =
    let inside = c.self.inside in
    let all = subst (λ clerk. clerk.published ≡ clerk.accepted) (sym c.self.view_is) c.requires in
    let none : inside.kept ≡ None = nothing_kept inside.publication.published inside.publication.whole inside.kept c.self.invariant.2 all in
    let now = c.take_into-taken.new.kept in
    let left = c.take_into-taken.new.desk in
    on_err ((now ≡ None) × (tables_of left ≡ tables_of inside.desk)) _ c.take_into-taken.result
    (λ taken. subst (λ clerk. (inside.publication.whole ++ waiting_edit now ≡ clerk.accepted) × (tables_of left ≡ current_tables clerk)) c.self.view_is (
      ap (λ kept. inside.publication.whole ++ waiting_edit kept) (taken.0 ∙ sym none),
      taken.1,
    ))
    c.take_into-taken.ensures.err
