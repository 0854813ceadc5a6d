use Rattle.std.proofs.Common.{◌≡◌, subst}
use Rattle.std.specs.Prelude.{IfOk}
use Rattle.desk_findings.specs.Chain.{chain}
use Rattle.desk_history.proofs.SoundClauses.{bill_of}
use Rattle.desk_scratch.proofs.bill.Bill.chain.Goals as goal

pub returns : goal.returns
returns c =
    let t = c.self.inside.tables.now.lists in
    subst (λ u. IfOk c.chain.result (λ codes. codes ≡ chain u c.args.part.now c.args.target.now)) c.self.view_is
    (c.chain.ensures t c.self.invariant.1 (bill_of t c.self.invariant.0.consistent))
