use Rattle.std.proofs.Common.{◌≡◌, [], arith, ap, sym, ◌∙◌, is_eq}
use Rattle.std.proofs.lemmas.List.{get_or_default}
use Rattle.desk_text.specs.Code.{same_code}
use Rattle.desk_graph.specs.Graph.{label_of}
use Rattle.desk_bridge.proofs.Plans.{node_of-first, not_taken}
use Rattle.desk_engine.proofs.chained.name_of.Goals as goal

pub returns-then-is_eq : goal.returns-then-is_eq
returns-then-is_eq c =
    let at : c.index-names-place.result ≡ label_of c.args.names.now c.loop-place.place =
    c.index-names-place.is ∙ get_or_default c.args.names.now c.loop-place.place c.index-names-place.result [] (omega arith) in
    let here = ap (λ name. same_code name c.args.substance.now) (sym at) ∙ ap is_eq (sym c.cmp.ensures) ∙ sym c.is_eq.ensures ∙ c.if-is_eq.true in
    sym (node_of-first c.args.names.now c.args.substance.now c.loop-place.place (omega arith) c.loop-place.invariant here)

pub unreachable-requires : goal.unreachable-requires
unreachable-requires c = not_taken c.args.names.now c.args.substance.now c.loop-place.place (omega arith) c.loop-place.invariant c.requires.named
