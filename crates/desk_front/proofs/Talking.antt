-- A conversation with a clerk, and the one list that its replies are from.
use Rattle.std.proofs.Common.{◌≡◌, ◌≢◌, ◌⊎◌, ℕ, ◌+◌, ◌≤◌, true, List, [], ◌∷◌, ◌++◌, Option, None, Some, Result, Ok, Err, refl, sym, ap, ◌∙◌, subst, inl, inr, append_assoc, arith, length-append}
use Rattle.std.specs.List.{AllByRecursion}
use Rattle.desk_model.specs.Lists.{number_at}
use Rattle.desk_declare.specs.declared.declare_fault.DeclareFault.{DeclareFault}
use Rattle.desk_clerk.specs.Published.{added_to_list}
use Rattle.desk_clerk.proofs.Growing.{Grows, accepted_on, after_on, grows_at}
use Rattle.desk_edge.specs.Faults.{Rose}
use Rattle.desk_edits.specs.declared.json_fault.JsonFault.{JsonFault}
use Rattle.desk_declare.specs.Declaration.{declaration_of}
use Rattle.desk_edits.specs.Edit.{edit_of_json}
use Rattle.desk_history.specs.History.{AreAccepted, Begins, History, IsHistory, after, number_of, tables_after, up_to}
use Rattle.desk_history.specs.Refused.{refused}
use Rattle.desk_history.specs.Sound.{Sound}
use Rattle.desk_history.specs.Step.{kept_number, step}
use Rattle.desk_history.proofs.Histories.{tickets-tables_after, up_to-only}
use Rattle.desk_history.proofs.SoundSteps.{Sound-tables_after}
use Rattle.desk_history.proofs.Steps.{kept-entered, step-accepted, step-kept, step-refused}
use Rattle.desk_http.specs.Rest.{Message}
use Rattle.desk_http.specs.Routes.{route_of}
use Rattle.desk_http.specs.declared.ask.Ask.{Ask}
use Rattle.desk_http.specs.declared.ask.Ask.TheVariants as ask
use Rattle.desk_http.specs.declared.fixed.Fixed.TheVariants as refusal
use Rattle.desk_http.specs.declared.http_fault.HttpFault.{HttpFault}
use Rattle.desk_http.specs.declared.http_fault.HttpFault.TheVariants as fault
use Rattle.desk_model.specs.Forms.{is_edit_in_form}
use Rattle.desk_model.specs.Lists.{Lists}
use Rattle.desk_model.specs.declared.edit.Edit.{Edit}
use Rattle.desk_model.specs.declared.rule_fault.RuleFault.{RuleFault}
use Rattle.desk_scratch.specs.Eval.{eval}
use Rattle.desk_scratch.specs.declared.ask_fault.AskFault.{AskFault}
use Rattle.desk_front.specs.Asked.{Asked, asked_of, edit, nothing, of_csv, of_json, of_route, question}
use Rattle.desk_http.specs.Reply.{Reply, fixed}
use Rattle.desk_front.specs.Replies.{all_bytes, answer_at, evaluated, reply_to_edit}
use Rattle.desk_front.specs.InOrder.{InOrder}
use Rattle.desk_front.specs.Talk.{Follows, IsAnswered, IsJudged, IsTold, IsToldOfMemory, TellsJudgement}
use Rattle.desk_front.specs.Told.{Conversation, Told, added_by, replies_of}
use Rattle.desk_front.specs.Turn.{Converses, Standing, Turn}
use Rattle.desk_front.proofs.InOrder.{in_order_relates}

abbrev last_seen_of : Standing → ℕ
last_seen_of standing = standing.last_seen

-- ---- what a turn adds to the list

grows_nothing : (t new : Lists) (added : List Edit) → added ≡ [] → new ≡ t → Grows t added new
grows_nothing t new added none same = subst (λ l. Grows t l new) (sym none) (tt, sym same)

grows_edit : (t new : Lists) (made : Edit) (added : List Edit) → is_edit_in_form made ≡ true → added ≡ added_to_list t made → new ≡ (step t made).1 → Grows t added new
grows_edit t new made added form same left = subst (λ l. Grows t l new) (sym same) (subst (Grows t (added_to_list t made)) (sym left) (grows_at t made form))

turn_grows : (old new : Standing) (asked : Asked) (reply : Reply) (added : List Edit) → Turn old asked reply added new → Grows old.current added new.current
turn_grows old new (nothing told) reply added (inl x) = grows_nothing old.current new.current added x.1 (ap (λ s. s.current) x.2)
turn_grows old new (question asked) reply added (inl x) = grows_nothing old.current new.current added x.1 (ap (λ s. s.current) x.2)
turn_grows old new (edit made) reply added (inl x) = grows_edit old.current new.current made added x.0 x.2 (ap (λ s. s.current) x.3)
turn_grows old new asked reply added (inr (inl (memory, inl x))) = grows_nothing old.current new.current added x.0 (ap (λ s. s.current) x.1)
turn_grows old new asked reply added (inr (inl (memory, inr x))) = grows_edit old.current new.current x.0 added x.2 x.3 (ap (λ s. s.current) x.4)
turn_grows old new asked reply added (inr (inr x)) = grows_nothing old.current new.current added x.3 (ap (λ s. s.current) x.6)

pub conversation_grows : (old new : Standing) (ms : List Message) (told : List (Told Edit)) → Conversation Turn last_seen_of old ms told new → Grows old.current (added_by told) new.current
conversation_grows old new [] [] x = grows_nothing old.current new.current [] refl (ap (λ s. s.current) x)
conversation_grows old new [] (one ∷ told) x = absurd x
conversation_grows old new (m ∷ ms) [] x = absurd x
conversation_grows old new (m ∷ ms) (one ∷ told) x =
    let first = turn_grows old x.0 (asked_of m) one.reply one.added x.1.0 in
    let others = conversation_grows x.0 new ms told x.2 in (
      accepted_on old.current one.added (added_by told) first.0 (subst (λ t. AreAccepted t (added_by told)) (sym first.1) others.0),
      after_on old.current one.added (added_by told) ∙ ap (λ t. tables_after t (added_by told)) first.1 ∙ others.1,
    )

-- the tables after a history are sound
pub sound_after : (list : History) (t : Lists) → IsHistory list → t ≡ after list → Sound t
sound_after list t h e = subst Sound (sym e) (Sound-tables_after list.opening list.edits h.sound h.accepted)

-- ---- numbers

grown_number : (t new : Lists) (added : List Edit) → Grows t added new → number_at t ≤ number_at new
grown_number t new added x = omega (arith, tickets-tables_after t added x.0, ap number_at x.1)

-- what a connection has met stays within the list, and never falls
turn_meets : (old new : Standing) (asked : Asked) (reply : Reply) (added : List Edit) → Turn old asked reply added new → old.last_seen ≤ number_at old.current
    → (old.last_seen ≤ new.last_seen) × (new.last_seen ≤ number_at new.current)
turn_meets old new (nothing told) reply added (inl x) h = subst (λ s. (old.last_seen ≤ s.last_seen) × (s.last_seen ≤ number_at s.current)) (sym x.2) (omega arith, h)
turn_meets old new (question asked) reply added (inl x) h = subst (λ s. (old.last_seen ≤ s.last_seen) × (s.last_seen ≤ number_at s.current)) (sym x.2) (h, omega arith)
turn_meets old new (edit made) reply added (inl x) h =
    let more = grown_number old.current (step old.current made).1 (added_to_list old.current made) (grows_at old.current made x.0) in
    subst (λ s. (old.last_seen ≤ s.last_seen) × (s.last_seen ≤ number_at s.current)) (sym x.3) (omega (arith, h, more), omega arith)
turn_meets old new asked reply added (inr (inl (memory, inl x))) h = subst (λ s. (old.last_seen ≤ s.last_seen) × (s.last_seen ≤ number_at s.current)) (sym x.1) (omega arith, h)
turn_meets old new asked reply added (inr (inl (memory, inr x))) h =
    let more = grown_number old.current (step old.current x.0).1 (added_to_list old.current x.0) (grows_at old.current x.0 x.2) in
    subst (λ s. (old.last_seen ≤ s.last_seen) × (s.last_seen ≤ number_at s.current)) (sym x.4) (omega arith, omega (arith, h, more))
turn_meets old new asked reply added (inr (inr x)) h = subst (λ s. (old.last_seen ≤ s.last_seen) × (s.last_seen ≤ number_at s.current)) (sym x.6) (omega arith, h)

-- ---- one list

-- the tables of a moment are those that the list names by their number
record Moment (list : History) (t : Lists) : Type 0 where
  named : after (up_to list (number_at t)) ≡ t
  opened : number_at list.opening ≤ number_at t
  within : number_at t ≤ number_of list

moment : (t : Lists) (before rest : List Edit) → Sound t → AreAccepted t (before ++ rest) → AreAccepted t before
    → Moment (record { opening = t; edits = before ++ rest }) (tables_after t before)
moment t before rest sound all some =
    let list : History = record { opening = t; edits = before ++ rest } in
    let part : History = record { opening = t; edits = before } in
    let begins : Begins part list = record { opening = refl; rest = rest; edits = refl } in
    record {
      named = ap (tables_after t) (sym (up_to-only list part (record { sound = sound; accepted = some }) begins));
      opened = omega (arith, tickets-tables_after t before some);
      within = omega (arith, tickets-tables_after t (before ++ rest) all, tickets-tables_after t before some, length-append before rest);
    }

pub judged_so : (t : Lists) (made : Edit) (kept : Option ℕ) (broken : Option RuleFault) → kept_number t made ≡ kept → refused t made ≡ broken
    → IsJudged (step t made).1 made (step t made).0
judged_so t made (Some number) broken a b = subst (λ s. IsJudged s.1 made s.0) (sym (step-kept t made number a)) a
judged_so t made None (Some cause) a b = subst (λ s. IsJudged s.1 made s.0) (sym (step-refused t made cause a b)) (a, b)
judged_so t made None None a b = subst (λ s. IsJudged s.1 made s.0) (sym (step-accepted t made a b)) (kept-entered t made)

abbrev Tells : History → Asked → ℕ → Reply → ℕ → Type 0
Tells list asked last_seen reply now = IsTold list asked last_seen reply now ⊎ IsToldOfMemory list asked last_seen reply now

told_of_memory : (list : History) (asked : Asked) (last_seen now : ℕ) (reply : Reply) → reply ≡ fixed refusal.Memory → now ≡ last_seen → IsToldOfMemory list asked last_seen reply now
told_of_memory list (nothing told) last_seen now reply e f = (e, f)
told_of_memory list (question asked) last_seen now reply e f = (e, inl f)
told_of_memory list (edit made) last_seen now reply e f = (e, inl f)

turn_tells : (list : History) (old new : Standing) (asked : Asked) (reply : Reply) (added : List Edit) → Turn old asked reply added new → old.last_seen ≤ number_at old.current
    → Moment list old.current → Moment list new.current → Tells list asked old.last_seen reply new.last_seen
turn_tells list old new (nothing told) reply added (inl x) h before now = inl (x.0, ap (λ s. s.last_seen) x.2)
turn_tells list old new (question asked) reply added (inl x) h before now =
    let last_seen : new.last_seen ≡ number_at old.current = ap (λ s. s.last_seen) x.2 in
    inl (
      subst (Follows list old.last_seen) (sym last_seen) (before.opened, h, before.within),
      subst (λ n. reply ≡ answer_at (after (up_to list n)) asked) (sym last_seen) (x.0 ∙ ap (λ t. answer_at t asked) (sym before.named)),
    )
turn_tells list old new (edit made) reply added (inl x) h before now =
    let last_seen : new.last_seen ≡ number_at (step old.current made).1 = ap (λ s. s.last_seen) x.3 in
    let left : new.current ≡ (step old.current made).1 = ap (λ s. s.current) x.3 in
    let at : Moment list (step old.current made).1 = subst (Moment list) left now in
    let more = grown_number old.current (step old.current made).1 (added_to_list old.current made) (grows_at old.current made x.0) in
    inl (inl (
      subst (Follows list old.last_seen) (sym last_seen) (at.opened, omega (arith, h, more), at.within),
      subst (λ n. TellsJudgement (after (up_to list n)) n old.last_seen made reply) (sym last_seen)
          (subst (λ t. TellsJudgement t (number_at (step old.current made).1) old.last_seen made reply) (sym at.named)
          ((step old.current made).0, judged_so old.current made (kept_number old.current made) (refused old.current made) refl refl, x.1)),
    ))
turn_tells list old new asked reply added (inr (inl (memory, inl x))) h before now =
    inr (told_of_memory list asked old.last_seen new.last_seen reply memory (ap (λ s. s.last_seen) x.1))
turn_tells list old new asked reply added (inr (inl (memory, inr x))) h before now =
    inr (told_of_memory list asked old.last_seen new.last_seen reply memory (ap (λ s. s.last_seen) x.4))
turn_tells list old new asked reply added (inr (inr x)) h before now =
    inl (subst (λ a. IsTold list a old.last_seen reply new.last_seen) (sym x.1) (inr (x.2, ap (λ s. s.last_seen) x.6)))

-- a conversation from a moment of the list on is a talk over the list
talks : (t : Lists) (all before : List Edit) (old new : Standing) (ms : List Message) (told : List (Told Edit))
    → Sound t → AreAccepted t all → all ≡ before ++ added_by told → AreAccepted t before → tables_after t before ≡ old.current → old.last_seen ≤ number_at old.current
    → Conversation Turn last_seen_of old ms told new → InOrder (IsAnswered (record { opening = t; edits = all })) old.last_seen ms (replies_of told) new.last_seen
talks t all before old new [] [] sound fine split some at h x = ap (λ s. s.last_seen) x
talks t all before old new [] (one ∷ told) sound fine split some at h x = absurd x
talks t all before old new (m ∷ ms) [] sound fine split some at h x = absurd x
talks t all before old new (m ∷ ms) (one ∷ told) sound fine split some at h x =
    let list : History = record { opening = t; edits = all } in
    let grown = turn_grows old x.0 (asked_of m) one.reply one.added x.1.0 in
    let further : AreAccepted t (before ++ one.added) = accepted_on t before one.added some (subst (λ u. AreAccepted u one.added) (sym at) grown.0) in
    let left : tables_after t (before ++ one.added) ≡ x.0.current = after_on t before one.added ∙ ap (λ u. tables_after u one.added) at ∙ grown.1 in
    let parts : all ≡ (before ++ one.added) ++ added_by told = split ∙ sym (append_assoc before one.added (added_by told)) in
    let here : Moment list old.current = subst (Moment list) at (moment_of t all before (one.added ++ added_by told) sound fine split some) in
    let there : Moment list x.0.current = subst (Moment list) left (moment_of t all (before ++ one.added) (added_by told) sound fine parts further) in (
      x.0.last_seen,
      turn_tells list old x.0 (asked_of m) one.reply one.added x.1.0 h here there,
      talks t all (before ++ one.added) x.0 new ms told sound fine parts further left (turn_meets old x.0 (asked_of m) one.reply one.added x.1.0 h).1 x.2,
    )
  where
    moment_of : (t : Lists) (all before rest : List Edit) → Sound t → AreAccepted t all → all ≡ before ++ rest → AreAccepted t before
        → Moment (record { opening = t; edits = all }) (tables_after t before)
    moment_of t all before rest sound fine split some =
        subst (λ l. Moment (record { opening = t; edits = l }) (tables_after t before)) (sym split) (moment t before rest sound (subst (AreAccepted t) split fine) some)

-- ---- where the store fails

other_status : (reply : Reply) (status : ℕ) → reply.status ≡ status → status ≢ 503 → reply.status ≢ 503
other_status reply status e other f = other (sym e ∙ f)

-- a request that asks nothing isn't told of the store
abbrev pub IsNotOfStore : Asked → Type 0
IsNotOfStore (nothing told) = told.status ≢ 503
IsNotOfStore (question asked) = Unit {0}
IsNotOfStore (edit made) = Unit {0}

json_not_of_store : (x : Result Edit JsonFault) → IsNotOfStore (of_json x)
json_not_of_store (Ok made) = tt
json_not_of_store (Err cause) = λ e. absurd (omega (arith, e))

csv_not_of_store : (x : Result Edit DeclareFault) → IsNotOfStore (of_csv x)
csv_not_of_store (Ok made) = tt
csv_not_of_store (Err cause) = λ e. absurd (omega (arith, e))

pub route_not_of_store : (body : List ℕ) (x : Result Ask HttpFault) → IsNotOfStore (of_route body x)
route_not_of_store body (Ok (ask.Question asked)) = tt
route_not_of_store body (Ok ask.Edit) = json_not_of_store (edit_of_json body)
route_not_of_store body (Ok ask.Declaration) = csv_not_of_store (declaration_of body)
route_not_of_store body (Err fault.NoRoute) = λ e. absurd (omega (arith, e))
route_not_of_store body (Err (fault.WrongMethod allow)) = λ e. absurd (omega (arith, e))
route_not_of_store body (Err (fault.BadQuery key)) = λ e. absurd (omega (arith, e))
route_not_of_store body (Err fault.OutOfMemory) = λ e. absurd (omega (arith, e))

pub evaluated_not_of_store : (t : Lists) (x : Result (List ℕ) AskFault) → (evaluated t x).status ≢ 503
evaluated_not_of_store t (Ok text) = λ e. absurd (omega (arith, e))
evaluated_not_of_store t (Err cause) = λ e. absurd (omega (arith, e))

pub judged_not_of_store : (whole last_seen : ℕ) (x : Result ℕ RuleFault) → (reply_to_edit whole last_seen x).status ≢ 503
judged_not_of_store whole last_seen (Ok number) = λ e. absurd (omega (arith, e))
judged_not_of_store whole last_seen (Err cause) = λ e. absurd (omega (arith, e))

pub same_other : (reply told : Reply) → reply ≡ told → told.status ≢ 503 → reply.status ≢ 503
same_other reply told e other f = other (sym (ap (λ r. r.status) e) ∙ f)

turn_faults : (old new : Standing) (asked : Asked) (reply : Reply) (added : List Edit) → Turn old asked reply added new → old.faults ≤ new.faults
turn_faults old new (nothing told) reply added (inl x) = omega (arith, ap (λ s. s.faults) x.2)
turn_faults old new (question asked) reply added (inl x) = omega (arith, ap (λ s. s.faults) x.2)
turn_faults old new (edit made) reply added (inl x) = omega (arith, ap (λ s. s.faults) x.3)
turn_faults old new asked reply added (inr (inl (memory, inl x))) = omega (arith, ap (λ s. s.faults) x.1)
turn_faults old new asked reply added (inr (inl (memory, inr x))) = omega (arith, ap (λ s. s.faults) x.4)
turn_faults old new asked reply added (inr (inr x)) = x.4

pub conversation_faults : (old new : Standing) (ms : List Message) (told : List (Told Edit)) → Conversation Turn last_seen_of old ms told new → old.faults ≤ new.faults
conversation_faults =
    in_order_relates (λ old m one new. Turn old (asked_of m) one.reply one.added new × (one.last_seen ≡ last_seen_of new)) (λ a b. a.faults ≤ b.faults) (λ a. omega arith)
    (λ a b c x y. omega (arith, x, y)) (λ a b m one x. turn_faults a b (asked_of m) one.reply one.added x.0)

turn_kept : (old new : Standing) (asked : Asked) (reply : Reply) (added : List Edit) → IsNotOfStore asked → Turn old asked reply added new
    → (Rose old.faults new.faults → ⊥) → reply.status ≢ 503
turn_kept old new (nothing told) reply added other (inl x) steady = same_other reply told x.0 other
turn_kept old new (question asked) reply added other (inl x) steady = same_other reply (answer_at old.current asked) x.0 (evaluated_not_of_store old.current (eval old.current asked))
turn_kept old new (edit made) reply added other (inl x) steady =
    same_other reply (reply_to_edit (number_at (step old.current made).1) old.last_seen (step old.current made).0) x.1
    (judged_not_of_store (number_at (step old.current made).1) old.last_seen (step old.current made).0)
turn_kept old new asked reply added other (inr (inl x)) steady = same_other reply (fixed refusal.Memory) x.0 (λ e. absurd (omega (arith, e)))
turn_kept old new asked reply added other (inr (inr x)) steady = absurd (steady x.5)

pub conversation_kept : (old new : Standing) (ms : List Message) (told : List (Told Edit)) → Conversation Turn last_seen_of old ms told new → (Rose old.faults new.faults → ⊥)
    → AllByRecursion (λ reply. reply.status ≢ 503) (replies_of told)
conversation_kept old new [] [] x steady = tt
conversation_kept old new [] (one ∷ told) x steady = absurd x
conversation_kept old new (m ∷ ms) [] x steady = absurd x
conversation_kept old new (m ∷ ms) (one ∷ told) x steady =
    let first = turn_faults old x.0 (asked_of m) one.reply one.added x.1.0 in
    let others = conversation_faults x.0 new ms told x.2 in (
      turn_kept old x.0 (asked_of m) one.reply one.added (route_not_of_store m.body (route_of m.method m.target)) x.1.0 (λ rose. steady (omega (arith, rose, others))),
      conversation_kept x.0 new ms told x.2 (λ rose. steady (omega (arith, rose, first))),
    )

-- ---- all of it

pub converses : (start : Standing) (left : Lists) (last_met counted : ℕ) (ms : List Message) (told : List (Told Edit)) (said : List ℕ)
    → Sound start.current → start.last_seen ≤ number_at start.current → Conversation Turn last_seen_of start ms told (record { current = left; last_seen = last_met; faults = counted })
    → said ≡ all_bytes ms (replies_of told) → Converses start left counted ms said
converses start left last_met counted ms told said sound last_seen x e =
    let finish : Standing = record { current = left; last_seen = last_met; faults = counted } in
    let grown = conversation_grows start finish ms told x in
    record {
      told = told;
      last_met = last_met;
      bytes = e;
      turns = x;
      grown = (record { sound = sound; accepted = grown.0 }, grown.1);
      talk = (last_met, talks start.current (added_by told) [] start finish ms told sound grown.0 refl tt refl last_seen x);
      kept = conversation_kept start finish ms told x;
    }
