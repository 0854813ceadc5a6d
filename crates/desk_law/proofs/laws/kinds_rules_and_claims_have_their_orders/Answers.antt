use Rattle.desk_law.proofs.Orders.{claims_in_order, kinds_in_order, rules_in_order}
use Rattle.desk_law.proofs.laws.kinds_rules_and_claims_have_their_orders.Goals as goal

pub returns-clause-kinds : goal.returns-clause-kinds
returns-clause-kinds c = kinds_in_order

pub returns-clause-rules : goal.returns-clause-rules
returns-clause-rules c = rules_in_order

pub returns-clause-claims : goal.returns-clause-claims
returns-clause-claims c = claims_in_order
