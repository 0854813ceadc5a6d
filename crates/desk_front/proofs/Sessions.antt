-- A conversation of a seat and an editor, and the one list that its replies are from.
use Rattle.std.proofs.Common.{◌≡◌, ◌≢◌, ℕ, ◌≤◌, List, [], ◌∷◌, ◌++◌, Option, None, Some, Result, Ok, Err, refl, sym, ap, ◌∙◌, subst, inl, inr, append_assoc, arith}
use Rattle.std.specs.List.{AllByRecursion}
use Rattle.desk_edge.specs.Faults.{Rose}
use Rattle.desk_history.specs.History.{AreAccepted, Begins, History, IsHistory, after, number_of, up_to}
use Rattle.desk_history.specs.Sound.{Sound}
use Rattle.desk_history.specs.Step.{step}
use Rattle.desk_history.proofs.Beginnings.{begins_number, begins_onward, opening_number, up_to_all, up_to_longer}
use Rattle.desk_http.specs.Reply.{Reply, fixed}
use Rattle.desk_http.specs.Rest.{Message}
use Rattle.desk_http.specs.Routes.{route_of}
use Rattle.desk_http.specs.declared.fixed.Fixed.TheVariants as refusal
use Rattle.desk_model.specs.Lists.{Lists, number_at}
use Rattle.desk_model.specs.declared.edit.Edit.{Edit}
use Rattle.desk_model.specs.declared.rule_fault.RuleFault.{RuleFault}
use Rattle.desk_scratch.specs.Eval.{eval}
use Rattle.desk_front.specs.Asked.{Asked, asked_of, edit, nothing, question}
use Rattle.desk_front.specs.InOrder.{Each, InOrder}
use Rattle.desk_front.specs.Laws.{BeginsWithAllMet}
use Rattle.desk_front.specs.Replies.{all_bytes, answer_at, reply_to_edit}
use Rattle.desk_front.specs.Sitting.{Gains, IsSaid, IsSaidOfMemory, Links, Moves, SeatTurn, Sitting, edited_of, edited_status, met_by, with_given}
use Rattle.desk_front.specs.Talk.{Follows, IsAnswered, IsNumberedReply, IsTold, IsToldOfMemory, TellsJudgement, replies_in}
use Rattle.desk_front.specs.Told.{Conversation, Told, added_by, numbered_of, replies_of}
use Rattle.desk_front.specs.declared.given.Given.{Given}
use Rattle.desk_front.proofs.Meeting.{answered_longer, begins_each, replies_each}
use Rattle.desk_front.proofs.Seating.{stays}
use Rattle.desk_front.proofs.Talking.{IsNotOfStore, evaluated_not_of_store, judged_not_of_store, route_not_of_store, same_other}

-- ---- moves, one after the other

given_onward : (given : Option (List Given)) (first others : List Given) → with_given (with_given given first) others ≡ with_given given (first ++ others)
given_onward None first others = refl
given_onward (Some entries) first others = ap (λ l. Some l) (append_assoc entries first others)

moves_onward : (a b c : Sitting) (first others : List Given) → Moves a first b → Moves b others c → Moves a (first ++ others) c
moves_onward a b c first others x y = record {
  begins = begins_onward a.seen b.seen c.seen x.begins y.begins;
  counted = omega (arith, x.counted, y.counted);
  given = y.given ∙ ap (λ g. with_given g others) x.given ∙ given_onward a.given first others;
}

-- ---- beginnings of a history are histories

accepted_first : (t : Lists) (first others : List Edit) → AreAccepted t (first ++ others) → AreAccepted t first
accepted_first t [] others x = tt
accepted_first t (made ∷ first) others x = (x.0, accepted_first (step t made).1 first others x.1)

begins_history : (part history : History) → IsHistory history → Begins part history → IsHistory part
begins_history part history h x = record {
  sound = subst Sound (sym x.opening) h.sound;
  accepted = accepted_first part.opening part.edits x.rest (subst (AreAccepted part.opening) x.edits (subst (λ t. AreAccepted t history.edits) (sym x.opening) h.accepted));
}

-- ---- each reply is told at the seat's list after it

-- the seat's number follows what it had met
follows_all : (before now : History) → IsHistory before → IsHistory now → Begins before now → Follows now (number_of before) (number_of now)
follows_all before now a b x = (opening_number now b, begins_number before now a b x, omega arith)

said_told : (before now : History) (asked : Asked) (reply : Reply) (added : List Given) → IsHistory before → IsHistory now → Begins before now
    → IsSaid before asked reply added now → IsTold now asked (number_of before) reply (number_of now)
said_told before now (nothing told) reply added a b x y = (y.0, ap number_of y.2)
said_told before now (question asked) reply added a b x y =
    (follows_all before now a b x, y.0 ∙ ap (λ l. answer_at (after l) asked) (sym (up_to_all now b)))
said_told before now (edit made) reply added a b x y =
    inl (follows_all before now a b x, subst (λ l. TellsJudgement (after l) (number_of now) (number_of before) made reply) (sym (up_to_all now b)) (y.0, y.1, y.2))

said_told_of_memory : (before now : History) (asked : Asked) (reply : Reply) (added : List Given) → IsHistory before → IsHistory now → Begins before now
    → IsSaidOfMemory before asked reply added now → IsToldOfMemory now asked (number_of before) reply (number_of now)
said_told_of_memory before now (nothing told) reply added a b x y = (y.0, ap number_of y.2)
said_told_of_memory before now (question asked) reply added a b x y = (y.0, inr (follows_all before now a b x))
said_told_of_memory before now (edit made) reply added a b x y = (y.0, inr (follows_all before now a b x))

module _ (NeverFails : Type 0) where
  pub session_moves : (old new : Sitting) (ms : List Message) (told : List (Told Given)) → Conversation (SeatTurn NeverFails) met_by old ms told new
      → Moves old (added_by told) new
  session_moves old new [] [] x = subst (Moves old []) (sym x) (stays old)
  session_moves old new [] (one ∷ told) x = absurd x
  session_moves old new (m ∷ ms) [] x = absurd x
  session_moves old new (m ∷ ms) (one ∷ told) x =
      moves_onward old x.0 new one.added (added_by told) x.1.0.0 (session_moves x.0 new ms told x.2)

  turn_told : (old new : Sitting) (m : Message) (reply : Reply) (added : List Given) → IsHistory new.seen → SeatTurn NeverFails old (asked_of m) reply added new
      → IsAnswered new.seen (met_by old) m reply (met_by new)
  turn_told old new m reply added h (moves, inl y) = inl (said_told old.seen new.seen (asked_of m) reply added (begins_history old.seen new.seen h moves.begins) h moves.begins y)
  turn_told old new m reply added h (moves, inr (inl y)) =
      inr (said_told_of_memory old.seen new.seen (asked_of m) reply added (begins_history old.seen new.seen h moves.begins) h moves.begins y)
  turn_told old new m reply added h (moves, inr (inr y)) =
      inl (subst (λ a. IsTold new.seen a (met_by old) reply (met_by new)) (sym y.1) (inr (y.2, ap number_of y.4)))

  -- a conversation from a seat's list to another is a talk over the list at the end
  session_talks : (old new : Sitting) (ms : List Message) (told : List (Told Given)) → IsHistory new.seen → Conversation (SeatTurn NeverFails) met_by old ms told new
      → InOrder (IsNumberedReply new.seen) (met_by old) ms (numbered_of told) (met_by new)
  session_talks old new [] [] h x = ap met_by x
  session_talks old new [] (one ∷ told) h x = absurd x
  session_talks old new (m ∷ ms) [] h x = absurd x
  session_talks old new (m ∷ ms) (one ∷ told) h x =
      let rest = session_moves x.0 new ms told x.2 in
      let next : IsHistory x.0.seen = begins_history x.0.seen new.seen h rest.begins in (
        met_by x.0,
        (
          answered_longer x.0.seen new.seen next h rest.begins m (met_by old) one.reply (met_by x.0) (turn_told old x.0 m one.reply one.added next x.1.0),
          x.1.1,
        ),
        session_talks x.0 new ms told h x.2,
      )

  -- ---- what the editor's list gains

  status_so : (reply told : Reply) → reply ≡ told → reply.status ≡ told.status
  status_so reply told e = ap (λ r. r.status) e

  judged_status : (whole last_seen : ℕ) (judged : Result ℕ RuleFault) → (reply_to_edit whole last_seen judged).status ≡ edited_status (edited_of judged)
  judged_status whole last_seen (Ok number) = refl
  judged_status whole last_seen (Err cause) = refl

  said_gains : (before now : History) (asked : Asked) (reply : Reply) (added : List Given) → IsSaid before asked reply added now
      → Gains asked (record { reply = reply; last_seen = number_of now; added = added })
  said_gains before now (nothing told) reply added y = y.1
  said_gains before now (question asked) reply added y = y.1
  said_gains before now (edit made) reply added y =
      inl (edited_of y.0, status_so reply (reply_to_edit (number_of now) (number_of before) y.0) y.2 ∙ judged_status (number_of now) (number_of before) y.0, y.3)

  memory_gains : (before now : History) (asked : Asked) (reply : Reply) (added : List Given) → IsSaidOfMemory before asked reply added now
      → Gains asked (record { reply = reply; last_seen = number_of now; added = added })
  memory_gains before now (nothing told) reply added y = y.1
  memory_gains before now (question asked) reply added y = y.1
  memory_gains before now (edit made) reply added (memory, inl y) = inr (inl (status_so reply (fixed refusal.Memory) memory, inl y))
  memory_gains before now (edit made) reply added (memory, inr y) = inr (inl (status_so reply (fixed refusal.Memory) memory, inr (edited_of y.0, y.2)))

  turn_gains : (old new : Sitting) (asked : Asked) (reply : Reply) (added : List Given) → SeatTurn NeverFails old asked reply added new
      → Gains asked (record { reply = reply; last_seen = met_by new; added = added })
  turn_gains old new asked reply added (moves, inl y) = said_gains old.seen new.seen asked reply added y
  turn_gains old new asked reply added (moves, inr (inl y)) = memory_gains old.seen new.seen asked reply added y
  turn_gains old new asked reply added (moves, inr (inr y)) =
      subst (λ a. Gains a (record { reply = reply; last_seen = met_by new; added = added })) (sym y.1) (inr (inr (status_so reply (fixed refusal.StoreFault) y.2, y.3)))

  session_gains : (old new : Sitting) (ms : List Message) (told : List (Told Given)) → Conversation (SeatTurn NeverFails) met_by old ms told new
      → Each (λ request one. Gains (asked_of request) one) ms told
  session_gains old new [] [] x = refl
  session_gains old new [] (one ∷ told) x = absurd x
  session_gains old new (m ∷ ms) [] x = absurd x
  session_gains old new (m ∷ ms) (one ∷ told) x = (
    tt,
    subst (λ n. Gains (asked_of m) (record { reply = one.reply; last_seen = n; added = one.added })) (sym x.1.1) (turn_gains old x.0 (asked_of m) one.reply one.added x.1.0),
    session_gains x.0 new ms told x.2,
  )

  -- ---- where the store fails

  said_kept : (before now : History) (asked : Asked) (reply : Reply) (added : List Given) → IsNotOfStore asked → IsSaid before asked reply added now → reply.status ≢ 503
  said_kept before now (nothing told) reply added other y = same_other reply told y.0 other
  said_kept before now (question asked) reply added other y = same_other reply (answer_at (after now) asked) y.0 (evaluated_not_of_store (after now) (eval (after now) asked))
  said_kept before now (edit made) reply added other y =
      same_other reply (reply_to_edit (number_of now) (number_of before) y.0) y.2 (judged_not_of_store (number_of now) (number_of before) y.0)

  memory_kept : (before now : History) (asked : Asked) (reply : Reply) (added : List Given) → IsSaidOfMemory before asked reply added now → reply.status ≢ 503
  memory_kept before now (nothing told) reply added y = same_other reply (fixed refusal.Memory) y.0 (λ e. absurd (omega (arith, e)))
  memory_kept before now (question asked) reply added y = same_other reply (fixed refusal.Memory) y.0 (λ e. absurd (omega (arith, e)))
  memory_kept before now (edit made) reply added y = same_other reply (fixed refusal.Memory) y.0 (λ e. absurd (omega (arith, e)))

  turn_kept : (old new : Sitting) (asked : Asked) (reply : Reply) (added : List Given) → IsNotOfStore asked → SeatTurn NeverFails old asked reply added new
      → (Rose old.faults new.faults → (NeverFails → ⊥) → ⊥) → reply.status ≢ 503
  turn_kept old new asked reply added other (moves, inl y) steady = said_kept old.seen new.seen asked reply added other y
  turn_kept old new asked reply added other (moves, inr (inl y)) steady = memory_kept old.seen new.seen asked reply added y
  turn_kept old new asked reply added other (moves, inr (inr y)) steady = absurd (steady y.5 y.6)

  -- where no count rises, or no editor ever fails, no reply tells of the store
  session_kept : (old new : Sitting) (ms : List Message) (told : List (Told Given)) → Conversation (SeatTurn NeverFails) met_by old ms told new
      → (Rose old.faults new.faults → (NeverFails → ⊥) → ⊥) → AllByRecursion (λ reply. reply.status ≢ 503) (replies_of told)
  session_kept old new [] [] x steady = tt
  session_kept old new [] (one ∷ told) x steady = absurd x
  session_kept old new (m ∷ ms) [] x steady = absurd x
  session_kept old new (m ∷ ms) (one ∷ told) x steady =
      let first = x.1.0.0.counted in
      let others = (session_moves x.0 new ms told x.2).counted in (
        turn_kept old x.0 (asked_of m) one.reply one.added (route_not_of_store m.body (route_of m.method m.target)) x.1.0 (λ rose. steady (omega (arith, rose, others))),
        session_kept x.0 new ms told x.2 (λ rose. steady (omega (arith, rose, first))),
      )

  -- ---- all of it

  same_replies : (told : List (Told Given)) → replies_in (numbered_of told) ≡ replies_of told
  same_replies [] = refl
  same_replies (one ∷ told) = ap (λ l. one.reply ∷ l) (same_replies told)

  -- the answers of a conversation are at lists from the first to the last
  session_begins : (start left : Sitting) (ms : List Message) (told : List (Told Given)) → Conversation (SeatTurn NeverFails) met_by start ms told left → IsHistory left.seen
      → InOrder (BeginsWithAllMet left.seen) start.seen ms (replies_of told) left.seen
  session_begins start left ms told x ends =
      let moves = session_moves start left ms told x in
      let h : IsHistory start.seen = begins_history start.seen left.seen ends moves.begins in
      let opens = opening_number start.seen h in
      let opened : number_at left.seen.opening ≤ met_by start = omega (arith, opens, ap number_at moves.begins.opening) in
      let first : up_to left.seen (met_by start) ≡ start.seen = up_to_longer start.seen left.seen (met_by start) h ends moves.begins opens (omega arith) ∙ up_to_all start.seen h in
      let each : InOrder (BeginsWithAllMet left.seen) (up_to left.seen (met_by start)) ms (replies_of told) (up_to left.seen (met_by left)) =
      begins_each left.seen (met_by start) (met_by left) ms (replies_of told) ends opened (begins_number start.seen left.seen h ends moves.begins)
      (subst (λ l. InOrder (IsAnswered left.seen) (met_by start) ms l (met_by left)) (same_replies told)
      (replies_each left.seen (met_by start) (met_by left) ms (numbered_of told) (session_talks start left ms told ends x))) in
      subst (λ a. InOrder (BeginsWithAllMet left.seen) a ms (replies_of told) left.seen) first
      (subst (λ b. InOrder (BeginsWithAllMet left.seen) (up_to left.seen (met_by start)) ms (replies_of told) b) (up_to_all left.seen ends) each)

  pub links : (start left : Sitting) (ms : List Message) (told : List (Told Given)) (said : List ℕ) → Conversation (SeatTurn NeverFails) met_by start ms told left
      → said ≡ all_bytes ms (replies_of told) → IsHistory left.seen → Links NeverFails start left ms said
  links start left ms told said x e ends =
      let moves = session_moves start left ms told x in
      record {
        told = told;
        bytes = e;
        turns = x;
        grown = moves.begins;
        history = ends;
        talk = (met_by left, session_talks start left ms told ends x);
        begin = session_begins start left ms told x ends;
        given = moves.given;
        gains = session_gains start left ms told x;
        counted = moves.counted;
        kept = λ steady. session_kept start left ms told x (λ rose unsure. steady rose);
        sure = λ never. session_kept start left ms told x (λ rose unsure. unsure never);
      }
