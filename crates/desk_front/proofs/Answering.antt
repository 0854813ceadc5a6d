-- What a look and an edit leave of a seat's list.
use Rattle.std.proofs.Common.{◌≡◌, ◌≢◌, ℕ, ◌+◌, ◌≤◌, Bool, true, false, leb, append-nil, IfErr, IfOk, OnErr, OnOk, List, [], ◌∷◌, ◌++◌, Option, None, Some, Result, Ok, Err, length, length-append, arith, refl, sym, ap, ◌∙◌, subst}
use Rattle.std.specs.Prelude.{fold, if◌then◌else◌}
use mathlib.Core.List.{IsPrefix}
use Rattle.desk_clerk.specs.Clerk.{list_from}
use Rattle.desk_clerk.specs.Published.{IsTakenIn, added_to_list, if_new}
use Rattle.desk_clerk.proofs.Growing.{folds}
use Rattle.desk_history.specs.History.{Begins, IsHistory, after, number_of, tables_after}
use Rattle.desk_history.specs.Refused.{refused}
use Rattle.desk_history.specs.Step.{kept_number, step}
use Rattle.desk_history.proofs.Histories.{tickets-tables_after}
use Rattle.desk_history.proofs.Steps.{refusal-cause, refusal-new, refused-leaves}
use Rattle.desk_model.specs.Lists.{Lists, number_at}
use Rattle.desk_model.specs.declared.edit.Edit.{Edit}
use Rattle.desk_model.specs.declared.rule_fault.RuleFault.{RuleFault}
use Rattle.desk_publish.specs.Lists.{Known, longer}
use Rattle.desk_publish.proofs.Prefixes.{prefix_whole}
use Rattle.desk_scratch.specs.Eval.{eval}
use Rattle.desk_scratch.specs.declared.ask_fault.AskFault.{AskFault}
use Rattle.desk_scratch.specs.declared.ask_fault.AskFault.TheVariants as ask
use Rattle.desk_scratch.specs.declared.question.Question.{Question}
use Rattle.desk_front.specs.Asking.{IsAnswerTo}
use Rattle.desk_front.specs.Replies.{reply_to_edit}
use Rattle.desk_front.specs.Sitting.{AnswersEdit, edited_of}
use Rattle.desk_front.specs.Talk.{IsJudged}
use Rattle.desk_front.specs.declared.edited.EditFailed.{EditFailed}
use Rattle.desk_front.specs.declared.edited.Edited.{Edited}
use Rattle.desk_front.proofs.Talking.{judged_so}

-- ---- a look

pub answered : (t : Lists) (asked : Question) (old new : List ℕ) (r : Result (Unit {0}) AskFault)
    → OnOk r ((text : List ℕ) × (eval t asked ≡ Ok text) × (new ≡ old ++ text)) → IfErr r (λ cause. cause ≢ ask.OutOfMemory → eval t asked ≡ Err cause) → OnErr r (new ≡ old)
    → IsAnswerTo t asked old r new
answered t asked old new (Ok done) x y z = x
answered t asked old new (Err cause) x y z = (y, z)

-- the tables of a board are those after its list
pub at_board : (opening t : Lists) (edits : List Edit) → t ≡ fold (λ t edit. (step t edit).1) opening edits → t ≡ after (list_from opening edits)
at_board opening t edits e = e ∙ folds opening edits

-- a longer list is a longer history
pub begins_of : (opening : Lists) (first second : List Edit) → IsPrefix first second → Begins (list_from opening first) (list_from opening second)
begins_of opening first second p = record { opening = refl; rest = p.0; edits = sym p.1 }

-- ---- an edit

-- what an edit that a rule refuses adds to a list
none_added : (t : Lists) (made : Edit) (cause : RuleFault) → (step t made).0 ≡ Err cause → added_to_list t made ≡ []
none_added t made cause e =
    ap (λ kept. if_new made kept (refused t made)) (refusal-new t made cause e) ∙ ap (λ broken. if_new made None broken) (refusal-cause t made cause e)

pub taken_refused : (before now : List Edit) (t left : Lists) (made : Edit) (cause : RuleFault) → (step t made).0 ≡ Err cause → now ≡ before → left ≡ t
    → IsTakenIn before t made now left
taken_refused before now t left made cause e same stays =
    (same ∙ sym (append-nil before) ∙ ap (λ l. before ++ l) (sym (none_added t made cause e)), stays ∙ sym (refused-leaves t made cause e))

-- how the body tells what the step of an edit gives
pub body_so : (whole now last_seen : ℕ) (said judged : Result ℕ RuleFault) (before after : List ℕ) → said ≡ judged → whole ≡ now
    → after ≡ before ++ (reply_to_edit whole last_seen said).body → after ≡ before ++ (reply_to_edit now last_seen judged).body
body_so whole now last_seen said judged before after e f g = g ∙ ap (λ r. before ++ (reply_to_edit whole last_seen r).body) e ∙ ap (λ n. before ++ (reply_to_edit n last_seen judged).body) f

-- the number of a list tells its length
listed_number : (opening : Lists) (edits : List Edit) → IsHistory (list_from opening edits) → number_of (list_from opening edits) ≡ number_at opening + length edits
listed_number opening edits h = tickets-tables_after opening edits h.accepted

shorter : (opening : Lists) (seen before now : List Edit) (t left : Lists) (made : Edit) → IsHistory (list_from opening seen) → IsHistory (list_from opening before)
    → t ≡ after (list_from opening before) → number_of (list_from opening seen) ≤ number_at t → IsTakenIn before t made now left → length seen ≤ length now
shorter opening seen before now t left made a b at less taken =
    let more : length now ≡ length before + length (added_to_list t made) = ap length taken.0 ∙ length-append before (added_to_list t made) in
    omega (arith, listed_number opening seen a, listed_number opening before b, ap number_at at, less, more)

longer_of : (x : Bool) (old told new : Known Edit) → new ≡ (if x then old else told) → IsPrefix told.list new.list → length old.list ≤ length told.list → new.list ≡ told.list
longer_of true old told new e begins less =
    let same : new.list ≡ old.list = ap (λ k. k.list) e in
    sym (prefix_whole told.list new.list begins (omega (arith, ap length same, less)))
longer_of false old told new e begins less = ap (λ k. k.list) e

-- a seat learns the whole list of a clerk that has as many edits as it has seen
pub learns_all : (opening : Lists) (before now : List Edit) (t left : Lists) (made : Edit) (seen told learnt : Known Edit) → IsHistory (list_from opening seen.list)
    → IsHistory (list_from opening before) → t ≡ after (list_from opening before) → number_of (list_from opening seen.list) ≤ number_at t → IsTakenIn before t made now left
    → told.list ≡ now → learnt ≡ longer seen told → IsPrefix told.list learnt.list → learnt.list ≡ now
learns_all opening before now t left made seen told learnt a b at less taken all e begins =
    let fewer : length seen.list ≤ length told.list = omega (arith, shorter opening seen.list before now t left made a b at less taken, ap length all) in
    longer_of (leb (length told.list) (length seen.list)) seen told learnt e begins fewer ∙ all

-- what is told of the clerk's step is told of the seat's list
pub answers_edit : (opening : Lists) (seen learnt now : List Edit) (t left : Lists) (made : Edit) (answer : Edited) (before behind : List ℕ)
    → left ≡ after (list_from opening now) → left ≡ (step t made).1 → learnt ≡ now → answer ≡ edited_of (step t made).0
    → behind ≡ before ++ (reply_to_edit (number_at left) (number_of (list_from opening seen)) (step t made).0).body
    → AnswersEdit (list_from opening seen) (list_from opening learnt) made answer before behind
answers_edit opening seen learnt now t left made answer before behind at steps all is told =
    let tables : after (list_from opening learnt) ≡ (step t made).1 = ap (tables_after opening) all ∙ sym at ∙ steps in (
      (step t made).0,
      subst (λ u. IsJudged u made (step t made).0) (sym tables) (judged_so t made (kept_number t made) (refused t made) refl refl),
      is,
      told ∙ ap (λ u. before ++ (reply_to_edit (number_at u) (number_of (list_from opening seen)) (step t made).0).body) (steps ∙ sym tables),
    )

pub told_as_editor : (opening : Lists) (seen learnt was now : List Edit) (t left : Lists) (made : Edit) (before behind : List ℕ) (r : Result Edited EditFailed)
    → left ≡ after (list_from opening now) → OnOk r (learnt ≡ now) → OnOk r (IsTakenIn was t made now left) → IfOk r (λ answer. answer ≡ edited_of (step t made).0)
    → OnOk r (behind ≡ before ++ (reply_to_edit (number_at left) (number_of (list_from opening seen)) (step t made).0).body)
    → IfOk r (λ answer. AnswersEdit (list_from opening seen) (list_from opening learnt) made answer before behind)
told_as_editor opening seen learnt was now t left made before behind (Ok answer) at all taken is told =
    answers_edit opening seen learnt now t left made answer before behind at taken.1 all is told
told_as_editor opening seen learnt was now t left made before behind (Err cause) at all taken is told = tt
