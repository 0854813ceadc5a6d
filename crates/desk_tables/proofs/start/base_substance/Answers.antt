use Rattle.std.proofs.Common.{◌∙◌}
use Rattle.desk_tables.proofs.StartTexts.{base_row, base_with, name_read}
use Rattle.desk_tables.proofs.start.base_substance.Goals as goal

pub returns : goal.returns
unfolding base_with
returns c =
    let name = name_read c.args.rule c.as_bytes.result.now c.in-Ok.name c.read.result c.in-Ok.is c.read.ensures.name (c.as_bytes.ensures.value ∙ c.base_name.ensures) in
    base_row c.args.rule c.base_code.result c.in-Ok.name c.base_cas.result c.base_code.ensures name c.base_cas.ensures
