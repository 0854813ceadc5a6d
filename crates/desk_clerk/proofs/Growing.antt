-- How lists of accepted edits grow.
use Rattle.std.proofs.Common.{◌≡◌, ℕ, ◌+◌, ◌≤◌, List, [], ◌∷◌, ◌++◌, Option, None, Some, refl, sym, ap, ◌∙◌, subst, arith, length, true, append-nil, append_assoc, length-append}
use Rattle.std.specs.Prelude.{fold}
use Rattle.desk_clerk.specs.Clerk.{list_from}
use Rattle.desk_clerk.specs.Published.{added_to_list, if_new}
use Rattle.desk_history.specs.History.{AreAccepted, IsAccepted, IsHistory, after, tables_after}
use Rattle.desk_history.specs.Refused.{refused}
use Rattle.desk_history.specs.Step.{kept_number, step}
use Rattle.desk_history.proofs.Histories.{tickets-tables_after}
use Rattle.desk_history.proofs.Steps.{step-accepted, step-kept, step-refused}
use Rattle.desk_model.specs.Forms.{is_edit_in_form}
use Rattle.desk_model.specs.Lists.{Lists, number_at}
use Rattle.desk_model.specs.declared.edit.Edit.{Edit}
use Rattle.desk_model.specs.declared.rule_fault.RuleFault.{RuleFault}

pub accepted_on : (t : Lists) (first others : List Edit) → AreAccepted t first → AreAccepted (tables_after t first) others → AreAccepted t (first ++ others)
accepted_on t [] others x y = y
accepted_on t (made ∷ first) others x y = (x.0, accepted_on (step t made).1 first others x.1 y)

pub after_on : (t : Lists) (first others : List Edit) → tables_after t (first ++ others) ≡ tables_after (tables_after t first) others
after_on t [] others = refl
after_on t (made ∷ first) others = after_on (step t made).1 first others

-- the tables after edits are those of a fold by steps
pub folds : (t : Lists) (edits : List Edit) → fold (λ t edit. (step t edit).1) t edits ≡ tables_after t edits
folds t [] = refl
folds t (edit ∷ edits) = folds (step t edit).1 edits

-- a list of edits that are accepted at tables, and the tables that it leaves
abbrev pub Grows : Lists → List Edit → Lists → Type 0
Grows t added new = AreAccepted t added × (tables_after t added ≡ new)

grows_by : (t : Lists) (made : Edit) (kept : Option ℕ) (broken : Option RuleFault) → is_edit_in_form made ≡ true → kept_number t made ≡ kept → refused t made ≡ broken
    → Grows t (if_new made kept broken) (step t made).1
grows_by t made (Some number) broken form a b = (tt, sym (ap (λ s. s.1) (step-kept t made number a)))
grows_by t made None (Some cause) form a b = (tt, sym (ap (λ s. s.1) (step-refused t made cause a b)))
grows_by t made None None form a b = ((record { in_form = form; is_new = a; is_unrefused = b }, tt), refl)

pub grows_at : (t : Lists) (made : Edit) → is_edit_in_form made ≡ true → Grows t (added_to_list t made) (step t made).1
grows_at t made form = grows_by t made (kept_number t made) (refused t made) form refl refl

-- a history grows by the edits that are accepted at its end
pub history_on : (opening : Lists) (edits added : List Edit) (now : Lists) → IsHistory (list_from opening edits) → Grows (after (list_from opening edits)) added now
    → IsHistory (list_from opening (edits ++ added)) × (after (list_from opening (edits ++ added)) ≡ now)
history_on opening edits added now h g = (
  record { sound = h.sound; accepted = accepted_on opening edits added h.accepted g.0 },
  after_on opening edits added ∙ g.1,
)
