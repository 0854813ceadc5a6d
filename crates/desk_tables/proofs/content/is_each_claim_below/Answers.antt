-- None is left that has one behind it.
use Rattle.std.proofs.Common.{◌-◌, ◌∙◌, ap, arith, is_lt, sym}
use Rattle.desk_law.specs.Claim.{claim_cmp}
use Rattle.desk_fields.proofs.Times.{turn_end}
use Rattle.desk_tables.proofs.RisingContent.{goes_on, stops_at}
use Rattle.desk_tables.proofs.content.is_each_claim_below.Goals as goal

pub returns : goal.returns
returns c = sym (turn_end claim_cmp c.args.claims.now (c.loop-place.place - 1) (omega (arith, c.loop-place-test.false, c.loop-place.invariant.0))) ∙ c.loop-place.invariant.1

pub returns-then-not-is_lt : goal.returns-then-not-is_lt
returns-then-not-is_lt c =
    stops_at claim_cmp c.args.claims.now c.loop-place.place c.index-claims-place.result c.index-claims-place-in-loop-place.result c.loop-place.invariant.0 c.loop-place-test.true
    c.index-claims-place.is c.index-claims-place-in-loop-place.is (ap is_lt (sym c.order_of.ensures) ∙ sym c.if-not-is_lt.ensures) ∙ c.loop-place.invariant.1

pub loop-place-preserved : goal.loop-place-preserved
loop-place-preserved c = (
  omega arith,
  goes_on claim_cmp c.args.claims.now c.loop-place.place c.index-claims-place.result c.index-claims-place-in-loop-place.result c.loop-place.invariant.0 c.loop-place-test.true
      c.index-claims-place.is c.index-claims-place-in-loop-place.is (ap is_lt (sym c.order_of.ensures) ∙ sym c.if-not-is_lt.ensures) ∙ c.loop-place.invariant.1,
)
