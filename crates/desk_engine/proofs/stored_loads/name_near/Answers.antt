use Rattle.std.proofs.Common.{◌<◌, ◌∙◌, ap, length, subst, sym}
use Rattle.desk_graph.specs.Graph.{label_of}
use Rattle.desk_bridge.proofs.Found.{node_of-taken}
use Rattle.desk_engine.proofs.stored_loads.name_near.Goals as goal

pub returns-clause-there : goal.returns-clause-there
returns-clause-there c = subst (λ place. place < length c.args.names.now) (sym c.name_of.ensures) (node_of-taken c.args.names.now c.args.substance.now c.requires.named).0

pub returns-clause-name : goal.returns-clause-name
returns-clause-name c = ap (label_of c.args.names.now) c.name_of.ensures ∙ (node_of-taken c.args.names.now c.args.substance.now c.requires.named).1
