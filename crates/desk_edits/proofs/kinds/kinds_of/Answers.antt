-- Each item is a kind that is new to the set, or there is no set.
use Rattle.std.proofs.Common.{sym, ◌∙◌}
use Rattle.desk_edits.proofs.KindItems.{set_with-end, set_with-new, set_with-other, set_with-repeated, set_with-values}
use Rattle.desk_edits.proofs.kinds.kinds_of.Goals as goal

pub loop-item-preserved : goal.loop-item-preserved
loop-item-preserved c =
    rw c.insert.ensures.new
    (sym (set_with-new c.args.items.now c.loop-item.item-index c.item-item.result c.loop-item.kinds c.in_ok-from_json.field-0 c.insert.result c.loop-item-test.true c.item-item.is
    (sym c.in_ok-from_json.was ∙ c.from_json.ensures) c.insert.ensures.was c.if-not-insert.false)
    ∙ c.loop-item.invariant)

pub returns-in_err-from_json : goal.returns-in_err-from_json
returns-in_err-from_json c =
    c.from_residual.ensures
    ∙ sym (set_with-other c.args.items.now c.loop-item.item-index c.item-item.result c.loop-item.kinds c.loop-item-test.true c.item-item.is (sym c.in_err-from_json.was ∙ c.from_json.ensures))
    ∙ c.loop-item.invariant
    ∙ set_with-values c.args.items.now (sym c.is_empty.ensures ∙ c.if-is_empty.false)

pub returns-then-not-insert : goal.returns-then-not-insert
returns-then-not-insert c =
    sym (set_with-repeated c.args.items.now c.loop-item.item-index c.item-item.result c.loop-item.kinds c.in_ok-from_json.field-0 c.insert.result c.loop-item-test.true c.item-item.is
    (sym c.in_ok-from_json.was ∙ c.from_json.ensures) c.insert.ensures.was c.if-not-insert.true)
    ∙ c.loop-item.invariant
    ∙ set_with-values c.args.items.now (sym c.is_empty.ensures ∙ c.if-is_empty.false)

pub returns : goal.returns
returns c =
    sym (set_with-end c.args.items.now c.loop-item.item-index c.loop-item.kinds c.loop-item-test.false)
    ∙ c.loop-item.invariant
    ∙ set_with-values c.args.items.now (sym c.is_empty.ensures ∙ c.if-is_empty.false)
