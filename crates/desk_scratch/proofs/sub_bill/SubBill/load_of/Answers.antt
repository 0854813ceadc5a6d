use Rattle.std.proofs.Common.{◌+◌, ◌*◌, ap, subst, sum_by, sym, ◌∙◌}
use Rattle.desk_findings.specs.Carried.{carried, own_load}
use Rattle.desk_findings.proofs.Loads.{carried-step}
use Rattle.desk_history.specs.Sound.{Sound}
use Rattle.desk_history.proofs.SoundClauses.{bill_of}
use Rattle.desk_scratch.proofs.Descents.{known_some}
use Rattle.desk_scratch.proofs.sub_bill.SubBill.load_of.Goals as goal

pub returns : goal.returns
returns c =
    let t = c.args.self.now.lists in
    let substance = c.args.substance.now in
    let code = c.args.code.now in
    let sound = subst (λ v. Sound v.lists) c.self.view_is c.self.invariant.0 in
    let sum = c.in_ok-below.ensures (carried t substance) c.requires.loads ∙ ap (sum_by (λ line. line.count * carried t substance line.child)) c.lines_of.ensures in
    known_some c.checked_add.result _ _ _ c.checked_add.ensures
    (ap (λ n. n + c.in_ok-below.below) c.own_load-own.ensures ∙ ap (λ n. own_load t substance code + n) sum ∙ sym (carried-step t (bill_of t sound.consistent) substance code))
