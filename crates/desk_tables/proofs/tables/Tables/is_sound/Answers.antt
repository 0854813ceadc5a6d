use Rattle.std.proofs.Common.{◌≡◌, true, Err, refl, subst, sym}
use Rattle.std.specs.Prelude.{IfErr, IfSome, IsNone, OnOk}
use Rattle.desk_findings.specs.Bill.{is_acyclic}
use Rattle.desk_tables.specs.Soundness.{NamesBreach}
use Rattle.desk_history.proofs.FitRows.{apart, children}
use Rattle.desk_tables.proofs.Consistent.{consistent, sound_if, unsound_if}
use Rattle.desk_tables.proofs.tables.Tables.is_sound.Goals as goal

pub returns-in-Some-clause-unsound : goal.returns-in-Some-clause-unsound
returns-in-Some-clause-unsound c =
    let t = c.args.self.now.lists in
    unsound_if t (Err c.in-Some.fault) (subst (λ found. IfSome found (NamesBreach t)) c.in-Some.is c.row_fault.ensures.told)

pub returns-in-Some-ticket_fault-clause-unsound : goal.returns-in-Some-ticket_fault-clause-unsound
returns-in-Some-ticket_fault-clause-unsound c =
    let t = c.args.self.now.lists in
    unsound_if t (Err c.in-Some-ticket_fault.fault) (subst (λ found. IfSome found (NamesBreach t)) c.in-Some-ticket_fault.is c.ticket_fault.ensures.told)

pub acyclic_bill-requires-clause-apart : goal.acyclic_bill-requires-clause-apart
acyclic_bill-requires-clause-apart c = apart c.args.self.now.lists (c.row_fault.ensures.fit (subst IsNone (sym c.in_default.is) refl))

pub acyclic_bill-requires-clause-children : goal.acyclic_bill-requires-clause-children
acyclic_bill-requires-clause-children c = children c.args.self.now.lists (c.row_fault.ensures.fit (subst IsNone (sym c.in_default.is) refl))

pub test_sums-requires-clause-consistent : goal.test_sums-requires-clause-consistent
test_sums-requires-clause-consistent c =
    let t = c.args.self.now.lists in
    consistent t (c.row_fault.ensures.fit (subst IsNone (sym c.in_default.is) refl)) (c.row_fault.ensures.few (subst IsNone (sym c.in_default.is) refl)) (c.ticket_fault.ensures.good (subst IsNone (sym c.in_default-ticket_fault.is) refl)) c.in_order.ensures
    (subst (λ result. OnOk result (is_acyclic t ≡ true)) c.in-Ok.is c.acyclic_bill.ensures.acyclic)

pub returns-in-Ok-clause-sound : goal.returns-in-Ok-clause-sound
returns-in-Ok-clause-sound c =
    let t = c.args.self.now.lists in
    sound_if t (c.row_fault.ensures.fit (subst IsNone (sym c.in_default.is) refl)) (c.row_fault.ensures.few (subst IsNone (sym c.in_default.is) refl)) (c.ticket_fault.ensures.good (subst IsNone (sym c.in_default-ticket_fault.is) refl)) c.in_order.ensures
    (subst (λ result. OnOk result (is_acyclic t ≡ true)) c.in-Ok.is c.acyclic_bill.ensures.acyclic) c.test_sums.result c.test_sums.ensures.kept

pub returns-in-Ok-clause-unsound : goal.returns-in-Ok-clause-unsound
returns-in-Ok-clause-unsound c = unsound_if c.args.self.now.lists c.test_sums.result c.test_sums.ensures.told

pub returns-in-Err-clause-unsound : goal.returns-in-Err-clause-unsound
returns-in-Err-clause-unsound c =
    let t = c.args.self.now.lists in
    unsound_if t (Err c.in-Err.fault) (subst (λ result. IfErr result (NamesBreach t)) c.in-Err.is c.acyclic_bill.ensures.told)
