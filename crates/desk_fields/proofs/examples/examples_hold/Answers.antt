-- The examples hold by computation.
use Rattle.std.proofs.Common.{refl}
use Rattle.std.specs.Fmt.{digits}
use Rattle.desk_text.specs.Day.{date_text}
use Rattle.desk_law.specs.Annex.{annex_number}
use Rattle.desk_law.specs.Kind.{kind_code}
use Rattle.desk_law.specs.KindSet.{kinds_text}
use Rattle.desk_law.specs.Rule.{rule_code}
use Rattle.desk_model.specs.RowTexts.{body_fields, body_text}
use Rattle.desk_fields.proofs.examples.examples_hold.Goals as goal

pub returns : goal.returns
unfolding digits date_text annex_number kind_code kinds_text rule_code body_fields body_text
returns c = record {
  substance = refl;
  no_cas = refl;
  member = refl;
  material = refl;
  part = refl;
  line = refl;
  product = refl;
  exemption = refl;
  candidate = refl;
  shipment = refl;
  ticket = refl;
}
