use Rattle.std.proofs.Common.{◌∙◌, ap, length, map, subst, sym}
use Rattle.std.proofs.lemmas.List.{length-map}
use Rattle.desk_model.specs.Lists.{nodes_of}
use Rattle.desk_findings.specs.Reaches.{reaches}
use Rattle.desk_history.specs.Sound.{Sound}
use Rattle.desk_history.proofs.SoundClauses.{bill_of}
use Rattle.desk_totals.specs.Linked.{IsLinkedOf}
use Rattle.desk_scratch.proofs.bill.Bill.does_hold.Goals as goal

pub does_hold-requires : goal.does_hold-requires
does_hold-requires c =
    let t = c.args.self.now in
    let of = subst (IsLinkedOf c.self.inside.links) c.self.view_is c.self.invariant.1 in
    ap length c.requires ∙ length-map (nodes_of t) (λ node. reaches t node c.args.code.now) ∙ ap length (sym of.nodes)

pub returns : goal.returns
returns c =
    let t = c.args.self.now in
    let of = subst (IsLinkedOf c.self.inside.links) c.self.view_is c.self.invariant.1 in
    let s = subst Sound c.self.view_is c.self.invariant.0 in
    c.does_hold.ensures t of (bill_of t s.consistent) (c.requires ∙ ap (map (λ node. reaches t node c.args.code.now)) (sym of.nodes))
