use Rattle.std.proofs.Common.{◌∙◌, ap, refl}
use Rattle.desk_text.specs.Code.{code_of}
use Rattle.desk_law.proofs.Rules.{rule_is_code}
use Rattle.desk_tables.proofs.StartTexts.{inside_ok}
use Rattle.desk_tables.proofs.start.base_code.Goals as goal

pub unwrap-requires : goal.unwrap-requires
unwrap-requires c =
    let read = c.read.ensures ∙ ap code_of (c.as_bytes.ensures.value ∙ c.code.ensures.code) ∙ rule_is_code c.args.rule in
    rw read refl

pub returns : goal.returns
returns c =
    let read = c.read.ensures ∙ ap code_of (c.as_bytes.ensures.value ∙ c.code.ensures.code) ∙ rule_is_code c.args.rule in
    inside_ok _ _ c.read.result c.unwrap.ensures read
