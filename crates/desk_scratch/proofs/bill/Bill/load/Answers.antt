use Rattle.std.proofs.Common.{is_some, ap, subst}
use Rattle.std.proofs.lemmas.Bool.{both_ways}
use Rattle.desk_model.specs.Lists.{is_part}
use Rattle.desk_history.specs.Sound.{Sound}
use Rattle.desk_totals.specs.Linked.{IsLinkedOf}
use Rattle.desk_totals.proofs.Walks.{no_part}
use Rattle.desk_scratch.proofs.Light.{load_at}
use Rattle.desk_scratch.proofs.bill.Bill.load.Goals as goal

pub unreachable-requires : goal.unreachable-requires
unreachable-requires c =
    let t = c.args.self.now in
    both_ways (is_part t c.args.part.now) (no_part t c.self.inside.links (subst (IsLinkedOf c.self.inside.links) c.self.view_is c.self.invariant.1) c.args.part.now c.in-None.ensures) c.requires.kept

pub known-requires : goal.known-requires
known-requires c =
    let t = c.args.self.now in
    let of = subst (IsLinkedOf c.self.inside.links) c.self.view_is c.self.invariant.1 in
    ap is_some
    (load_at t (subst Sound c.self.view_is c.self.invariant.0) c.args.loads.now c.self.inside.links.nodes c.requires.loads.0 c.args.part.now c.in-Some.place c.requires.loads.1 of.nodes c.in-Some.ensures.0 c.in-Some.ensures.1 c.requires.kept)
