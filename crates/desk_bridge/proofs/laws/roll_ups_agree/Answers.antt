use Rattle.desk_rollup.specs.Values.{amount_of}
use Rattle.desk_findings.specs.Carried.{own_load}
use Rattle.desk_findings.specs.Mass.{own_mass}
use Rattle.desk_bridge.proofs.RolledAlike.{marked, rolled_agree}
use Rattle.desk_bridge.proofs.Hops.{all_marks, chain_is, marks_as_many, next_agrees}
use Rattle.desk_bridge.proofs.laws.roll_ups_agree.Goals as goal

pub returns : goal.returns
returns c = record {
  weights = λ t right g bridge own same node inside. rolled_agree t right g bridge (λ n. (own n).weight) (own_mass t) same node inside;
  amounts = λ t right g bridge own what substance same node inside. rolled_agree t right g bridge (λ n. amount_of (own n).loads what) (own_load t substance) same node inside;
  marked = λ t ordered right g bridge number own owned node inside n. marked t right g bridge ordered number own owned node inside n;
  as_many = λ t ordered right g bridge number numbered own owned node inside. marks_as_many t right g bridge ordered number numbered own owned node inside;
  counted = λ t ordered right g bridge number numbered own owned. all_marks t right g bridge ordered number numbered own owned;
  next = λ t ordered right g bridge number numbered kept rolled owned finding node inside found. next_agrees t right g bridge ordered number numbered kept rolled owned finding node inside found;
  chains = λ t ordered right g bridge number numbered kept rolled owned finding node inside found. chain_is t right g bridge ordered number numbered kept rolled owned finding node inside found;
}
