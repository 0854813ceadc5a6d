use Rattle.std.proofs.Common.{take}
use Rattle.std.specs.List.{AllByRecursion}
use Rattle.desk_engine.specs.Masses.{AreWeights, IsWeighedIfPlanned}
use Rattle.desk_engine.proofs.masses.masses_by_product.Given as goal

abbrev pub invariant-loop-row : goal.invariant-loop-row
invariant-loop-row l = record {
  weights : AreWeights l.bill.labels l.plan l.masses.rows;
  all : AllByRecursion (λ row. IsWeighedIfPlanned l.bill.labels l.plan.nodes l.masses.rows row.part) (take l.row-index l.products);
}
