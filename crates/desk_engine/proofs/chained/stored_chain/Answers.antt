use Rattle.std.proofs.Common.{◌≡◌, ◌+◌, ◌<◌, ◌∙◌, ap, arith, length, map, suc, subst, sym}
use Rattle.std.specs.List.{AllByRecursion}
use Rattle.desk_graph.specs.Graph.{label_of}
use Rattle.desk_rollup.specs.Chain.{way}
use Rattle.desk_rollup.specs.Numbers.{mark_number}
use Rattle.desk_findings.specs.Chain.{chain}
use Rattle.desk_scratch.specs.LookUps.{finding_of, holder_of}
use Rattle.std.proofs.lemmas.List.{length-map}
use Rattle.std.proofs.lemmas.Result.{IfOk-weaker}
use Rattle.desk_scratch.specs.Steps.{chain_line_count}
use Rattle.desk_engine.proofs.Ways.{chain_inside, chain_told, found_in}
use Rattle.desk_engine.proofs.chained.stored_chain.Goals as goal

pub mark_of-mark-requires-clause-found : goal.mark_of-mark-requires-clause-found
mark_of-mark-requires-clause-found g c = found_in c.args.tables.now.lists c.requires.sound c.args.part.now c.requires.part (finding_of c.args.finding.now) c.requires.found

pub codes_at-requires-clause-there : goal.codes_at-requires-clause-there
codes_at-requires-clause-there g c =
    let nodes = c.as_slice.ensures.value ∙ c.in_ok-nodes.ensures.nodes in
    subst (AllByRecursion (λ node. node < length c.args.stored.now.bill.labels)) (sym nodes)
    (chain_inside c.args.stored.now.bill c.node_count.ensures.bill c.args.stored.now.rollups c.requires.stored.rolled (mark_number c.mark_of-mark.result) c.kept_node-from.result c.kept_node-from.ensures.there)

pub returns-clause-codes : goal.returns-clause-codes
returns-clause-codes g c =
    IfOk-weaker c.codes_at.result (λ codes. codes ≡ map (label_of c.args.stored.now.bill.labels) c.as_slice.result.now) (λ codes. codes ≡ chain c.args.tables.now.lists c.args.part.now (holder_of (finding_of c.args.finding.now)))
    (λ codes e. e
    ∙ chain_told c.args.tables.now.lists c.requires.sound c.args.part.now c.requires.part (finding_of c.args.finding.now) c.requires.found c.args.stored.now c.node_count.ensures.bill c.requires.stored c.kept_node-from.result (mark_number c.mark_of-mark.result) c.as_slice.result.now c.kept_node-from.ensures.there c.kept_node-from.ensures.label c.mark_of-mark.ensures (c.as_slice.ensures.value ∙ c.in_ok-nodes.ensures.nodes))
    c.codes_at.ensures

pub returns-clause-steps : goal.returns-clause-steps
returns-clause-steps g c =
    let walked = c.in_ok-nodes.ensures in
    let rolled = c.args.stored.now.rollups.rolled in
    let nodes = c.in_ok-nodes.nodes.items in
    let behind : length nodes ≡ suc (length (way rolled (mark_number c.mark_of-mark.result) (length rolled) c.kept_node-from.result)) = ap (λ l. length l) walked.nodes in
    IfOk-weaker c.codes_at.result (λ codes. codes ≡ map (label_of c.args.stored.now.bill.labels) c.as_slice.result.now) (λ codes. c.chain_from.new.steps ≡ c.args.steps.now + chain_line_count codes)
    (λ codes e.
    let size : length codes ≡ length nodes =
    ap (λ l. length l) e ∙ length-map c.as_slice.result.now (label_of c.args.stored.now.bill.labels) ∙ ap (λ l. length l) c.as_slice.ensures.value in
    omega (arith, walked.steps, behind, size))
    c.codes_at.ensures
