-- A plan of an edit that is kept changes nothing.
use Rattle.std.proofs.Common.{◌≡◌, ℕ, [], refl, ap, ◌∙◌}
use Rattle.desk_tables.specs.declared.plan.TablesPlan.TheVariants.{Kept}
use Rattle.desk_records.specs.Changes.{plan_changes}
use Rattle.desk_clerk.proofs.OpenedAs.{some_there}
use Rattle.desk_clerk.proofs.keeping.keep.Goals as goal

none_of_kept : (n : ℕ) → plan_changes (Kept n) ≡ []
unfolding plan_changes
none_of_kept n = refl

pub returns-in_err-commit-clause-again : goal.returns-in_err-commit-clause-again
returns-in_err-commit-clause-again g c = λ n kept.
    let changes = c.in_ok-changes.changes in
    absurd (some_there changes.items changes.len c.is_empty.result changes.ok.0 c.is_empty.ensures c.if-is_empty.false (c.in_ok-changes.ensures.changes ∙ ap plan_changes kept ∙ none_of_kept n))

pub returns-clause-again : goal.returns-clause-again
returns-clause-again g c = λ n kept.
    let changes = c.in_ok-changes.changes in
    absurd (some_there changes.items changes.len c.is_empty.result changes.ok.0 c.is_empty.ensures c.if-is_empty.false (c.in_ok-changes.ensures.changes ∙ ap plan_changes kept ∙ none_of_kept n))

pub returns-in_err-commit-clause-asked : goal.returns-in_err-commit-clause-asked
returns-in_err-commit-clause-asked g c = λ n kept.
    let changes = c.in_ok-changes.changes in
    absurd (some_there changes.items changes.len c.is_empty.result changes.ok.0 c.is_empty.ensures c.if-is_empty.false (c.in_ok-changes.ensures.changes ∙ ap plan_changes kept ∙ none_of_kept n))

pub returns-in_err-commit-clause-memory : goal.returns-in_err-commit-clause-memory
returns-in_err-commit-clause-memory g c = λ n kept.
    let changes = c.in_ok-changes.changes in
    absurd (some_there changes.items changes.len c.is_empty.result changes.ok.0 c.is_empty.ensures c.if-is_empty.false (c.in_ok-changes.ensures.changes ∙ ap plan_changes kept ∙ none_of_kept n))

pub returns-in_err-changes-clause-memory : goal.returns-in_err-changes-clause-memory
returns-in_err-changes-clause-memory g c = λ n kept. absurd (c.in_err-changes.ensures.memory n kept)
