-- What an edit with a plan leaves.
use Rattle.std.proofs.Common.{◌≡◌, None, Some, Err, is_ok, true, sym, ap, subst, rules, ◌∙◌}
use Rattle.desk_edge.specs.Content.{IsSame}
use Rattle.desk_history.specs.Sound.{Sound}
use Rattle.desk_history.specs.Step.{kept_number, step}
use Rattle.desk_history.proofs.SoundSteps.{Sound-step}
use Rattle.desk_records.specs.Records.{tables_content}
use Rattle.desk_engine.specs.Engine.{IsPlanOf, lists_of}
use Rattle.desk_tables.specs.Plan.{IsPlan}
use Rattle.desk_clerk.specs.Clerk.{tables_of}
use Rattle.desk_clerk.proofs.Submitted.{asked_only, handed, kept_plan, not_failed}
use Rattle.desk_clerk.specs.declared.submit_fault.SubmitFault.TheVariants as submit_fault
use Rattle.desk_clerk.proofs.stored_desk.StoredDesk.carry_out.Goals as goal

pub returns-in-Err-clause-again : goal.returns-in-Err-clause-again
returns-in-Err-clause-again g c = λ n kept.
    let tables = c.self.inside.engine.desk in
    let is = (subst (λ desk. IsPlanOf desk.engine c.args.edit.now c.args.plan) (sym c.self.view_is) c.requires).tables in
    let plan = kept_plan tables c.args.edit.now c.args.plan.tables n is (subst (λ desk. kept_number (tables_of desk) c.args.edit.now ≡ Some n) (sym c.self.view_is) kept) in
    c.keep.ensures.again plan.0 (c.tables.ensures ∙ plan.1) ∙ ap (λ desk. desk.keeper) c.self.view_is

pub returns-in-Err-clause-memory : goal.returns-in-Err-clause-memory
returns-in-Err-clause-memory g c = λ n kept wanting.
    let tables = c.self.inside.engine.desk in
    let is = (subst (λ desk. IsPlanOf desk.engine c.args.edit.now c.args.plan) (sym c.self.view_is) c.requires).tables in
    let plan = kept_plan tables c.args.edit.now c.args.plan.tables n is (subst (λ desk. kept_number (tables_of desk) c.args.edit.now ≡ Some n) (sym c.self.view_is) kept) in
    c.keep.ensures.memory plan.0 (c.tables.ensures ∙ plan.1) (c.in-Err.is ∙ ap (λ f. Err f) (handed c.in-Err.fault submit_fault.OutOfMemory wanting))

pub returns-in-Err-clause-no_rule : goal.returns-in-Err-clause-no_rule
returns-in-Err-clause-no_rule g c = λ fault n told.
    c.keep.ensures.no_rule fault n (c.in-Err.is ∙ ap (λ f. Err f) (handed c.in-Err.fault (submit_fault.Rule fault n) told))

pub returns-in-Err-clause-faults : goal.returns-in-Err-clause-faults
returns-in-Err-clause-faults g c = record {
  never_falls = search rules;
  steady = λ other.
      c.keep.ensures.faults.steady (not_failed c.keep.result c.in-Err.fault c.in-Err.is other) ∙ ap (λ desk. g.K.Keeper.faults desk.keeper) c.self.view_is;
  rises = search rules;
}

pub returns-in-Err-clause-asked : goal.returns-in-Err-clause-asked
returns-in-Err-clause-asked g c = λ failed.
    let is = (subst (λ desk. IsPlanOf desk.engine c.args.edit.now c.args.plan) (sym c.self.view_is) c.requires).tables in
    let kept = c.in-Err.is ∙ ap (λ f. Err f) (handed c.in-Err.fault submit_fault.KeeperFault failed) in
    subst (λ desk. (kept_number (tables_of desk) c.args.edit.now ≡ None) × (is_ok (step (tables_of desk) c.args.edit.now).0 ≡ true)) c.self.view_is
    (asked_only c.self.inside.engine.desk c.args.edit.now c.args.plan.tables is (λ n same. c.keep.ensures.asked n (c.tables.ensures ∙ same) kept))

pub invariant_of-self-2 : goal.invariant_of-self-2
invariant_of-self-2 g c =
    let tables = c.self.inside.engine.desk in
    let is = (subst (λ desk. IsPlanOf desk.engine c.args.edit.now c.args.plan) (sym c.self.view_is) c.requires).tables in
    let content = g.K.Keeper.content c.keep.new.keeper in
    let plan = subst (λ p. IsPlan tables c.args.edit.now p) (sym c.tables.ensures) is in
    let stepped : (step tables.lists c.args.edit.now).1 ≡ lists_of c.commit-number.new.self = ap (λ done. done.1) is.0 ∙ sym c.commit-number.ensures.lists in (
      subst Sound stepped (Sound-step tables.lists c.args.edit.now c.self.invariant.0 c.in_form.ensures),
      λ t. subst (λ lists. IsSame (tables_content lists) content) stepped
          (c.in_default.ensures.ok tables c.args.edit.now c.self.invariant.0 c.in_form.ensures plan t (c.self.invariant.1 (c.keep.ensures.told t))),
    )

pub commit-number-requires : goal.commit-number-requires
commit-number-requires g c = (c.args.edit.now, c.in_form.ensures, subst (λ desk. IsPlanOf desk.engine c.args.edit.now c.args.plan) (sym c.self.view_is) c.requires)

pub returns-clause-again : goal.returns-clause-again
returns-clause-again g c = λ n kept.
    let tables = c.self.inside.engine.desk in
    let is = (subst (λ desk. IsPlanOf desk.engine c.args.edit.now c.args.plan) (sym c.self.view_is) c.requires).tables in
    let plan = kept_plan tables c.args.edit.now c.args.plan.tables n is (subst (λ desk. kept_number (tables_of desk) c.args.edit.now ≡ Some n) (sym c.self.view_is) kept) in
    c.keep.ensures.again plan.0 (c.tables.ensures ∙ plan.1) ∙ ap (λ desk. desk.keeper) c.self.view_is
