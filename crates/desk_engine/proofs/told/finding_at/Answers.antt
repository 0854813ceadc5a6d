use Rattle.std.proofs.Common.{◌≡◌, ◌∙◌, [], ap, arith, get_or, sym, true, false}
use Rattle.std.proofs.lemmas.List.{get_or_default}
use Rattle.desk_bridge.proofs.Chains.{labels_are_codes}
use Rattle.desk_engine.proofs.Decoded.{has_rule, name_there, node_there, tells_above, tells_over}
use Rattle.desk_model.specs.Lists.{is_material}
use Rattle.desk_engine.proofs.told.finding_at.Goals as goal

pub label_at-code-requires-clause-there : goal.label_at-code-requires-clause-there
label_at-code-requires-clause-there c =
    node_there c.args.tables.now.lists c.requires.sound.consistent c.args.stored.now.bill.labels c.args.stored.now.names c.requires.stored.of.bill.numbered c.requires.stored.of.named.named c.args.mark.now.node c.args.mark.now.what (omega arith) c.requires.mark

pub label_at-code-requires-clause-code : goal.label_at-code-requires-clause-code
label_at-code-requires-clause-code c =
    labels_are_codes c.args.tables.now.lists c.requires.sound.consistent c.args.stored.now.bill c.requires.stored.of.bill c.args.mark.now.node
    (node_there c.args.tables.now.lists c.requires.sound.consistent c.args.stored.now.bill.labels c.args.stored.now.names c.requires.stored.of.bill.numbered c.requires.stored.of.named.named c.args.mark.now.node c.args.mark.now.what (omega arith) c.requires.mark)

pub rule_at-requires : goal.rule_at-requires
rule_at-requires c =
    has_rule c.args.tables.now.lists c.requires.sound.consistent c.args.stored.now.bill.labels c.args.stored.now.names c.requires.stored.of.bill.numbered c.requires.stored.of.named.named c.args.mark.now.node c.args.mark.now.what (omega arith) c.requires.mark
    (ap (is_material c.args.tables.now.lists) (sym c.label_at-code.ensures) ∙ sym c.is_material.ensures ∙ c.if-is_material.true)

pub returns-then-is_material : goal.returns-then-is_material
returns-then-is_material c =
    tells_over c.args.tables.now.lists c.requires.sound.consistent c.args.stored.now.bill.labels c.args.stored.now.names c.requires.stored.of.bill.numbered c.requires.stored.of.named.named c.args.mark.now.node c.args.mark.now.what (omega arith) c.requires.mark
    (ap (is_material c.args.tables.now.lists) (sym c.label_at-code.ensures) ∙ sym c.is_material.ensures ∙ c.if-is_material.true)
    c.label_at-code.result c.rule_at.result c.label_at-code.ensures c.rule_at.ensures

pub bounds-names-mark : goal.bounds-names-mark
bounds-names-mark c =
    let none : is_material c.args.tables.now.lists _ ≡ false = ap (is_material c.args.tables.now.lists) (sym c.label_at-code.ensures) ∙ sym c.is_material.ensures ∙ c.if-is_material.false in
    let there = name_there c.args.tables.now.lists c.requires.sound.consistent c.args.stored.now.bill.labels c.args.stored.now.names c.requires.stored.of.bill.numbered c.requires.stored.of.named.named c.args.mark.now.node c.args.mark.now.what (omega arith) c.requires.mark none in
    omega (arith, there, ap Rattle.std.proofs.Common.length c.as_slice-names.ensures)

pub returns : goal.returns
returns c =
    let none : is_material c.args.tables.now.lists _ ≡ false = ap (is_material c.args.tables.now.lists) (sym c.label_at-code.ensures) ∙ sym c.is_material.ensures ∙ c.if-is_material.false in
    let there = name_there c.args.tables.now.lists c.requires.sound.consistent c.args.stored.now.bill.labels c.args.stored.now.names c.requires.stored.of.bill.numbered c.requires.stored.of.named.named c.args.mark.now.node c.args.mark.now.what (omega arith) c.requires.mark none in
    tells_above c.args.tables.now.lists c.requires.sound.consistent c.args.stored.now.bill.labels c.args.stored.now.names c.requires.stored.of.bill.numbered c.requires.stored.of.named.named c.args.mark.now.node c.args.mark.now.what (omega arith) c.requires.mark
    none
    c.label_at-code.result c.index-names-mark.result c.label_at-code.ensures
    (c.index-names-mark.is ∙ ap (λ names. get_or names c.args.mark.now.what c.index-names-mark.result) c.as_slice-names.ensures ∙ get_or_default c.args.stored.now.names c.args.mark.now.what c.index-names-mark.result [] there)
