use Rattle.std.proofs.Common.{arith}
use Rattle.desk_sample.specs.Sample.{assembly}
use Rattle.desk_sample.proofs.Gained.{gained_next, gained_none}
use Rattle.desk_sample.proofs.sampling.push_assemblies.Goals as goal

pub assemblies-init : goal.assemblies-init
assemblies-init c = (gained_none _, omega arith)

pub assemblies-preserved : goal.assemblies-preserved
assemblies-preserved c = (gained_next c.assemblies.number (assembly c.args.n) _ _ _ c.assemblies.invariant.0 c.in_ok-push_assembly.ensures, omega (arith, c.assemblies-test.true))
