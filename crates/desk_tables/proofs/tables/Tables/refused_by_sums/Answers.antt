use Rattle.std.proofs.Common.{◌≡◌, ◌∙◌, Result, Ok, Err, IfOk, sym, subst}
use Rattle.std.specs.Prelude.{IfErr}
use Rattle.desk_text.specs.declared.OutOfMemory.{OutOfMemory}
use Rattle.desk_history.specs.Refused.{first_some}
use Rattle.desk_tables.proofs.Accepting.{consistent_before_ticket, none_rise, sums_after}
use Rattle.desk_tables.proofs.tables.Tables.refused_by_sums.Goals as goal

pub sums_fault_with-requires-clause-consistent : goal.sums_fault_with-requires-clause-consistent
sums_fault_with-requires-clause-consistent c =
    consistent_before_ticket c.args.self.now.lists c.args.edit.now c.requires.sound c.requires.passes c.args.change.now c.requires.made

pub returns-then-may_raise_sums-clause-fault : goal.returns-then-may_raise_sums-clause-fault
returns-then-may_raise_sums-clause-fault c =
    subst (λ rules. IfOk c.sums_fault_with.result (λ fault. fault ≡ first_some rules))
    (sums_after c.args.self.now.lists c.args.edit.now c.requires.sound c.requires.passes c.args.change.now c.requires.made) c.sums_fault_with.ensures

pub returns-else-may_raise_sums-clause-fault : goal.returns-else-may_raise_sums-clause-fault
returns-else-may_raise_sums-clause-fault c =
    sym (none_rise c.args.self.now.lists c.args.edit.now c.requires.sound c.requires.passes (sym c.may_raise_sums.ensures ∙ c.if-may_raise_sums.false))

-- want of memory comes from the sums alone
rises : {A : Type 0} {P : Type 0} (r : Result A OutOfMemory) → P → IfErr r (λ _. P)
rises (Ok fault) p = tt
rises (Err memory) p = p

pub returns-then-may_raise_sums-clause-memory : goal.returns-then-may_raise_sums-clause-memory
returns-then-may_raise_sums-clause-memory c = rises c.sums_fault_with.result (sym c.may_raise_sums.ensures ∙ c.if-may_raise_sums.true)
