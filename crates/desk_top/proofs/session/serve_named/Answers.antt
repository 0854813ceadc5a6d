-- A stream that was served leaves what its clerk has left. Without memory to serve, the desk is as it was opened.
use Rattle.std.proofs.Common.{rules, ◌≡◌, ◌≤◌, ℕ, List, length, inl, inr, refl, ap, sym, subst, ◌∙◌}
use Rattle.std.specs.Io.KnownBytes.{Consumes}
use Rattle.desk_clerk.specs.Clerk.{Clerked, KeptDesk, keeper_of, tables_of, current_tables}
use Rattle.desk_edge.specs.Content.{Content, IsSame}
use Rattle.desk_front.specs.Served.{Serves, stream_limit}
use Rattle.desk_front.specs.Turn.{Converses}
use Rattle.desk_front.specs.declared.served.Served.{Served}
use Rattle.desk_front.specs.declared.served.Served.TheVariants as served
use Rattle.desk_history.specs.Sound.{Sound}
use Rattle.desk_model.specs.Lists.{number_at}
use Rattle.desk_records.specs.Records.{tables_content}
use Rattle.desk_top.specs.Console.{Console}
use Rattle.desk_top.specs.Session.{WasServed}
use Rattle.desk_top.proofs.Stores.{keeps_of}
use Rattle.desk_top.proofs.session.serve_named.Goals as goal

module _ {K : Type 0} (Tells : K → Type 0) (content : K → Content) (faults : K → ℕ) where
  -- what came of serving a clerk's stream, where the clerk was opened over this desk and has handed its keeper back
  was_served : (desk : KeptDesk K) (opened left : Clerked K) (keeper : K) (how : Served) (c : Console) → Sound (tables_of desk) → faults desk.keeper ≡ 0 → opened.desk ≡ desk
      → keeper ≡ keeper_of left → (Tells keeper → IsSame (tables_content (current_tables left)) (content keeper))
      → ((bytes : List ℕ) × Consumes c.unread c.left bytes × (length bytes ≤ stream_limit)
      × Serves (Converses (record { current = current_tables opened; last_seen = number_at (current_tables opened); faults = faults (keeper_of opened) }) (current_tables left) (faults (keeper_of left))) how bytes c.left c.before c.after)
      → WasServed (Tells keeper) (content keeper) (faults keeper) (tables_of desk) how c
  was_served desk opened left keeper how c sound none same back kept (bytes, read, within, serves) = record {
    sound = sound;
    last = current_tables left;
    bytes = bytes;
    read = read;
    within = within;
    serves = subst (λ count. Serves (Converses (record { current = tables_of desk; last_seen = number_at (tables_of desk); faults = 0 }) (current_tables left) count) how bytes c.left c.before c.after) (ap faults (sym back))
        (subst (λ count. Serves (Converses (record { current = tables_of desk; last_seen = number_at (tables_of desk); faults = count }) (current_tables left) (faults (keeper_of left))) how bytes c.left c.before c.after) none
        (subst (λ at. Serves (Converses (record { current = tables_of at; last_seen = number_at (tables_of at); faults = faults at.keeper }) (current_tables left) (faults (keeper_of left))) how bytes c.left c.before c.after) same serves));
    closed = kept;
  }

pub returns-in-Ended-clause-served : goal.returns-in-Ended-clause-served
returns-in-Ended-clause-served g c =
    inl (
      served.Ended,
      refl,
      was_served g.K.Keeper.Tells g.K.Keeper.content g.K.Keeper.faults c.args.desk c.open_alone-clerk.result c.serve_alone-served.new.clerk c.close-keeper.result served.Ended _
          c.tables.ensures.sound c.requires.fresh c.open_alone-clerk.ensures.desk c.close-keeper.ensures.keeper c.close-keeper.ensures.kept (c.in-Ended.ensures.served (search rules)),
    )

pub returns-in-Cut-clause-served : goal.returns-in-Cut-clause-served
returns-in-Cut-clause-served g c =
    inl (
      served.Cut,
      refl,
      was_served g.K.Keeper.Tells g.K.Keeper.content g.K.Keeper.faults c.args.desk c.open_alone-clerk.result c.serve_alone-served.new.clerk c.close-keeper.result served.Cut _
          c.tables.ensures.sound c.requires.fresh c.open_alone-clerk.ensures.desk c.close-keeper.ensures.keeper c.close-keeper.ensures.kept (c.in-Cut.ensures.served (search rules)),
    )

pub returns-in-TooLong-clause-served : goal.returns-in-TooLong-clause-served
returns-in-TooLong-clause-served g c =
    inl (
      served.TooLong,
      refl,
      was_served g.K.Keeper.Tells g.K.Keeper.content g.K.Keeper.faults c.args.desk c.open_alone-clerk.result c.serve_alone-served.new.clerk c.close-keeper.result served.TooLong _
          c.tables.ensures.sound c.requires.fresh c.open_alone-clerk.ensures.desk c.close-keeper.ensures.keeper c.close-keeper.ensures.kept (c.in-TooLong.ensures.served (search rules)),
    )

pub returns-in-LinkFault-clause-served : goal.returns-in-LinkFault-clause-served
returns-in-LinkFault-clause-served g c =
    inl (
      served.LinkFault,
      refl,
      was_served g.K.Keeper.Tells g.K.Keeper.content g.K.Keeper.faults c.args.desk c.open_alone-clerk.result c.serve_alone-served.new.clerk c.close-keeper.result served.LinkFault _
          c.tables.ensures.sound c.requires.fresh c.open_alone-clerk.ensures.desk c.close-keeper.ensures.keeper c.close-keeper.ensures.kept (c.in-LinkFault.ensures.served (search rules)),
    )

pub returns-in-OutOfMemory-clause-served : goal.returns-in-OutOfMemory-clause-served
returns-in-OutOfMemory-clause-served g c =
    let nothing = c.serve_alone-served.ensures.nothing c.in-OutOfMemory.is in
    let same : c.serve_alone-served.new.clerk.desk ≡ c.args.desk = ap (λ clerk. clerk.desk) nothing.0 ∙ c.open_alone-clerk.ensures.desk in
    inr (
      c.answer_no_memory.ensures.status,
      (λ tells. rw same at (c.close-keeper.ensures.kept tells)),
      keeps_of _ _ (c.answer_no_memory.ensures.input_stays ∙ ap g.L.Link.unread nothing.1),
      rw nothing.1 at c.answer_no_memory.ensures.answer,
    )
