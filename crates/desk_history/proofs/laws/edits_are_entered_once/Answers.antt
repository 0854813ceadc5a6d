use Rattle.std.proofs.Common.{◌≡◌, ◌∙◌, ap, subst, List, ◌∷◌, ◌++◌, Some}
use Rattle.desk_model.specs.declared.edit.Edit.{Edit}
use Rattle.desk_model.specs.Effect.{next_number}
use Rattle.desk_history.specs.History.{AreAccepted, History, IsAccepted, IsHistory, after, tables_after}
use Rattle.desk_history.specs.Step.{kept_number, step}
use Rattle.desk_history.proofs.Histories.{accepted-at, after-at, kept-tables_after, step-tables}
use Rattle.desk_history.proofs.Rules.{unreused}
use Rattle.desk_history.proofs.Steps.{fresh, kept-entered}
use Rattle.desk_history.proofs.laws.edits_are_entered_once.Goals as goal

module _ (history : History) (before rest : List Edit) (edit : Edit) (h : IsHistory history) (e : history.edits ≡ before ++ edit ∷ rest) where
  accepted : IsAccepted (tables_after history.opening before) edit
  accepted = accepted-at history.opening before rest edit (subst (AreAccepted history.opening) e h.accepted)

  at_end : after history ≡ tables_after (step (tables_after history.opening before) edit).1 rest
  at_end = ap (tables_after history.opening) e ∙ after-at history.opening before rest edit

  kept_then : kept_number (step (tables_after history.opening before) edit).1 edit ≡ Some (next_number (tables_after history.opening before))
  kept_then = rw (step-tables (tables_after history.opening before) edit accepted) (kept-entered (tables_after history.opening before) edit)

pub returns : goal.returns
returns c = record {
  fresh = λ history before rest edit h e.
      let a = accepted history before rest edit h e in
      fresh (tables_after history.opening before) edit a.is_new (unreused (tables_after history.opening before) edit a.is_unrefused);
  kept = λ history before rest edit h e.
      rw (at_end history before rest edit h e)
      (kept-tables_after (step (tables_after history.opening before) edit).1 edit (next_number (tables_after history.opening before)) rest (kept_then history before rest edit h e));
}
