-- What a publication may be given, from the lists of a clerk.
use Rattle.std.proofs.Common.{◌≡◌, ◌≢◌, ◌⊎◌, ℕ, ◌+◌, ◌<◌, ◌≤◌, ◌^◌, List, [], ◌∷◌, ◌++◌, Option, None, Some, refl, sym, ap, ◌∙◌, subst, inl, inr, arith, true, length, append-nil, append_assoc, length-append}
use Rattle.std.specs.Prelude.{fold, is_some, not, Bool, false, OnErr, OnOk, Result, Ok, Err}
use mathlib.Core.List.{IsPrefix}
use Rattle.desk_clerk.specs.Clerk.{list_from}
use Rattle.desk_clerk.specs.Published.{added_to_list, if_new, waiting_edit}
use Rattle.desk_clerk.proofs.Growing.{Grows, after_on, folds, grows_at, history_on}
use Rattle.desk_publish.proofs.Prefixes.{prefix_length, prefix_trans}
use Rattle.desk_history.specs.History.{AreAccepted, IsAccepted, IsHistory, after, tables_after}
use Rattle.desk_history.specs.Refused.{refused}
use Rattle.desk_history.specs.Sound.{Sound}
use Rattle.desk_history.specs.Step.{kept_number, step}
use Rattle.desk_history.proofs.Histories.{accepted-at, tickets-tables_after}
use Rattle.desk_history.proofs.SoundSteps.{Sound-tables_after}
use Rattle.desk_history.proofs.TableLimits.{within_limit}
use Rattle.desk_history.proofs.Steps.{step-accepted, step-kept, step-refused}
use Rattle.desk_model.specs.Forms.{is_edit_in_form}
use Rattle.desk_model.specs.Lists.{Lists, number_at}
use Rattle.desk_model.specs.declared.edit.Edit.{Edit}
use Rattle.desk_model.specs.declared.limits.TheConstants.{TICKET_LIMIT}
use Rattle.desk_model.specs.declared.rule_fault.RuleFault.{RuleFault}
use Rattle.desk_model.specs.declared.table_name.TableName.TheVariants.{Tickets}

-- the state of a board after a list
abbrev pub state_after : Lists → List Edit → Lists
state_after opening edits = fold (λ t edit. (step t edit).1) opening edits

-- an edit that is accepted behind a list adds one to its number
pub adds_one : (opening : Lists) (edits : List Edit) (edit : Edit) → IsHistory (list_from opening (edits ++ edit ∷ []))
    → number_at (step (state_after opening edits) edit).1 ≡ number_at (state_after opening edits) + 1
adds_one opening edits edit h =
    let t = tables_after opening edits in
    let is : IsAccepted t edit = accepted-at opening edits [] edit h.accepted in
    let more : number_at (step t edit).1 ≡ number_at t + 1 = tickets-tables_after t (edit ∷ []) (is, tt) in
    rw (folds opening edits) more

-- and the sum is a number of the machine
pub stays_small : (opening : Lists) (edits : List Edit) (edit : Edit) → IsHistory (list_from opening (edits ++ edit ∷ []))
    → number_at (state_after opening edits) + 1 < 2 ^ 64
stays_small opening edits edit h =
    let t = tables_after opening edits in
    let one = adds_one opening edits edit h in
    let same : number_at (step (state_after opening edits) edit).1 ≡ number_at (tables_after opening (edits ++ edit ∷ [])) =
    ap (λ u. number_at (step u edit).1) (folds opening edits) ∙ ap number_at (sym (after_on opening edits (edit ∷ []))) in
    let left = tables_after opening (edits ++ edit ∷ []) in
    let few : number_at left ≤ TICKET_LIMIT = within_limit left (Sound-tables_after opening (edits ++ edit ∷ []) h.sound h.accepted).limits.tables_fit Tickets in
    omega (arith, one, same, few)

-- a number that stays tells an edit that adds nothing, and one that doesn't one that adds itself
abbrev pub IsAddedBy : Lists → Edit → Type 0
IsAddedBy t made =
    ((number_at (step t made).1 ≡ number_at t) × (added_to_list t made ≡ []) × ((step t made).1 ≡ t))
    ⊎ ((number_at (step t made).1 ≡ number_at t + 1) × (added_to_list t made ≡ made ∷ []))

added_by : (t : Lists) (made : Edit) (kept : Option ℕ) (broken : Option RuleFault) → is_edit_in_form made ≡ true → kept_number t made ≡ kept → refused t made ≡ broken
    → IsAddedBy t made
added_by t made (Some number) broken form a b =
    let s = ap (λ done. done.1) (step-kept t made number a) in
    inl (ap number_at s, ap (λ kept. if_new made kept (refused t made)) a, s)
added_by t made None (Some cause) form a b =
    let s = ap (λ done. done.1) (step-refused t made cause a b) in
    inl (ap number_at s, ap (λ kept. if_new made kept (refused t made)) a ∙ ap (λ broken. if_new made None broken) b, s)
added_by t made None None form a b =
    inr (
      tickets-tables_after t (made ∷ []) (record { in_form = form; is_new = a; is_unrefused = b }, tt),
      ap (λ kept. if_new made kept (refused t made)) a ∙ ap (λ broken. if_new made None broken) b,
    )

pub is_added_by : (t : Lists) (made : Edit) → is_edit_in_form made ≡ true → IsAddedBy t made
is_added_by t made form = added_by t made (kept_number t made) (refused t made) form refl refl

-- where all that is accepted is published, and the published list begins what the publication has, no edit is kept
pub nothing_kept : (published whole : List Edit) (kept : Option Edit) → IsPrefix published whole → published ≡ whole ++ waiting_edit kept → kept ≡ None
nothing_kept published whole None begins same = refl
nothing_kept published whole (Some edit) begins same =
    absurd (omega (arith, prefix_length published whole begins, ap length same, length-append whole (edit ∷ [])))

-- an edit is taken in where none is kept, and is kept where it is new; or nothing is
abbrev pub IsTakenOrLeft : Lists → Edit → Option Edit → Lists → Type 0
IsTakenOrLeft t edit now new = ((waiting_edit now ≡ added_to_list t edit) × (new ≡ (step t edit).1)) ⊎ ((now ≡ None) × (new ≡ t))

-- so the list stays a history, and the tables are those after it
pub stays_history : (opening : Lists) (whole : List Edit) (kept now : Option Edit) (edit : Edit) (t new : Lists) → kept ≡ None → is_edit_in_form edit ≡ true
    → IsHistory (list_from opening (whole ++ waiting_edit kept)) → t ≡ after (list_from opening (whole ++ waiting_edit kept)) → IsTakenOrLeft t edit now new
    → IsHistory (list_from opening (whole ++ waiting_edit now)) × (new ≡ after (list_from opening (whole ++ waiting_edit now)))
stays_history opening whole kept now edit t new none form h at (inl (adds, left)) =
    let whole_is : whole ++ waiting_edit kept ≡ whole = ap (λ k. whole ++ waiting_edit k) none ∙ append-nil whole in
    let h0 : IsHistory (list_from opening whole) = subst (λ edits. IsHistory (list_from opening edits)) whole_is h in
    let at0 : t ≡ after (list_from opening whole) = at ∙ ap (λ edits. after (list_from opening edits)) whole_is in
    let g = subst (λ u. Grows u (added_to_list t edit) (step t edit).1) at0 (grows_at t edit form) in
    let grown = history_on opening whole (added_to_list t edit) (step t edit).1 h0 g in
    subst (λ edits. IsHistory (list_from opening (whole ++ edits)) × (new ≡ after (list_from opening (whole ++ edits)))) (sym adds) (grown.0, left ∙ sym grown.1)
stays_history opening whole kept now edit t new none form h at (inr (left, same)) =
    subst (λ k. IsHistory (list_from opening (whole ++ waiting_edit k)) × (new ≡ after (list_from opening (whole ++ waiting_edit k)))) (none ∙ sym left) (h, same ∙ at)

pub ok_or_err : {T E : Type 0} (P Q : Type 0) (r : Result T E) → OnOk r P → OnErr r Q → P ⊎ Q
ok_or_err P Q (Ok value) p q = inl p
ok_or_err P Q (Err error) p q = inr q

-- an edit is kept exactly where it adds itself to the list, which the numbers of the tables before it and after it tell
pub kept_so : (t u : Lists) (edit : Edit) (before now : ℕ) (kept : Option Edit) → is_edit_in_form edit ≡ true → before ≡ number_at t → now ≡ number_at u → u ≡ (step t edit).1
    → (now ≡ before → kept ≡ None) → (now ≢ before → kept ≡ Some edit) → waiting_edit kept ≡ added_to_list t edit
kept_so t u edit before now kept form b n left same new = by (is_added_by t edit form)
  where
    by : IsAddedBy t edit → waiting_edit kept ≡ added_to_list t edit
    by (inl x) = ap waiting_edit (same (n ∙ ap number_at left ∙ x.0 ∙ sym b)) ∙ sym x.1
    by (inr x) = ap waiting_edit (new (λ e. absurd (omega (arith, e, n, ap number_at left, x.0, b)))) ∙ sym x.1

pub on_ok : {T E : Type 0} (P Q : Type 0) (r : Result T E) → (P → Q) → OnOk r P → OnOk r Q
on_ok P Q (Ok value) weaker p = weaker p
on_ok P Q (Err error) weaker p = tt

pub on_err : {T E : Type 0} (P Q : Type 0) (r : Result T E) → (P → Q) → OnErr r P → OnErr r Q
on_err P Q (Ok value) weaker p = tt
on_err P Q (Err error) weaker p = weaker p

-- an option that is told to be none
pub told_none : (kept : Option Edit) (told : Bool) → is_some kept ≡ not told → told ≡ true → kept ≡ None
told_none None told e is = refl
told_none (Some edit) true e is = cc
told_none (Some edit) false e is = cc
