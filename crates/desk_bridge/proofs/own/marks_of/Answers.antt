use Rattle.std.proofs.Common.{◌≡◌, true, subst, sym}
use Rattle.std.specs.List.{list_any}
use Rattle.desk_text.specs.Code.{same_code}
use Rattle.desk_bridge.specs.declared.holdings.Holding.{Holding}
use Rattle.desk_bridge.proofs.own.marks_of.Goals as goal

pub place_of-what-requires-clause-there : goal.place_of-what-requires-clause-there
place_of-what-requires-clause-there c =
    subst (λ (holding : Holding). list_any (λ listed. same_code listed holding.substance) c.args.names.now ≡ true) (sym c.holding-item.is)
    (c.requires.named c.loop-holding.holding-index c.holding-item.result c.loop-holding-test.true)
