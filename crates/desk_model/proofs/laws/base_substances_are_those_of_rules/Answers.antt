use Rattle.desk_model.proofs.BaseSubstances.{base_codes, base_members, base_rows}
use Rattle.desk_model.proofs.laws.base_substances_are_those_of_rules.Goals as goal

pub returns : goal.returns
returns c = record { codes = base_codes; rows = base_rows; members = base_members }
