use Rattle.std.proofs.Common.{◌≡◌, ◌∙◌, ap, map, subst}
use Rattle.std.specs.Prelude.{IfOk}
use Rattle.std.proofs.lemmas.Result.{IfOk-weaker}
use Rattle.desk_model.specs.Lists.{nodes_of}
use Rattle.desk_findings.specs.Reaches.{reaches}
use Rattle.desk_history.proofs.SoundClauses.{bill_of}
use Rattle.desk_scratch.proofs.bill.Bill.marks.Goals as goal

pub returns : goal.returns
returns c =
    let t = c.self.inside.tables.now.lists in
    let code = c.args.code.now in
    let of = c.self.invariant.1 in
    subst (λ u. IfOk c.marks.result (λ marks. marks.items ≡ map (λ node. reaches u node code) (nodes_of u))) c.self.view_is
    (IfOk-weaker c.marks.result _ _ (λ marks told. told ∙ ap (map (λ node. reaches t node code)) of.nodes) (c.marks.ensures.marks t of (bill_of t c.self.invariant.0.consistent)))
