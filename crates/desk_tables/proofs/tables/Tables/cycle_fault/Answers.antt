use Rattle.std.proofs.Common.{◌≡◌, ◌∙◌, ap, sym, true, Some}
use Rattle.desk_model.specs.declared.rule_fault.RuleFault.TheVariants.{ClosesCycle}
use Rattle.desk_findings.specs.Reaches.{is_or_reaches}
use Rattle.desk_history.proofs.SoundClauses.{bill_of}
use Rattle.desk_tables.proofs.tables.Tables.cycle_fault.Goals as goal

pub returns-in_ok-chain : goal.returns-in_ok-chain
returns-in_ok-chain c =
    let t = c.args.self.now.lists in
    let line = c.args.line.now in
    let chain = c.in_ok-chain.ensures t c.requires.bill (bill_of t c.requires.sound.consistent) in
    let does : is_or_reaches t line.child line.parent ≡ true =
    ap (λ lists. is_or_reaches lists line.child line.parent) (sym c.lists.ensures) ∙ sym c.in_ok-is_or_reaches.ensures ∙ c.if-branch.true in
    rw does (ap (λ codes. Some (ClosesCycle codes)) chain)
