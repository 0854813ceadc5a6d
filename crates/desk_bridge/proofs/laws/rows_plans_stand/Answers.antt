use Rattle.std.proofs.Common.{refl}
use Rattle.desk_tables.specs.declared.plan.TablesPlan.TheVariants as plan
use Rattle.desk_tables.proofs.Accepting.{kept_plan, new_plan}
use Rattle.desk_bridge.proofs.laws.rows_plans_stand.Goals as goal

pub returns : goal.returns
returns c = record {
  kept = λ desk edit number is. kept_plan desk edit (plan.Kept number) number refl is;
  new = λ desk edit change ticket room is fits. new_plan desk edit (plan.New change ticket room) change ticket room refl is fits;
}
