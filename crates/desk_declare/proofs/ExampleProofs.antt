-- The examples hold by computation.
use Rattle.std.proofs.Common.{refl, Bool, true}
use Rattle.std.specs.Char.{encode_utf8}
use Rattle.std.specs.Fmt.{digits}
use Rattle.std.specs.Str.{chars, is_utf8}
use Rattle.csv.proofs.OnLiterals.{csv_on_literals}
use Rattle.csv.specs.Records.{field_at}
use Rattle.desk_text.specs.Code.{code_of, exemption_number_of}
use Rattle.desk_text.specs.Day.{day_of}
use Rattle.desk_text.specs.Name.{name_of}
use Rattle.desk_text.specs.Number.{number_below}
use Rattle.desk_law.specs.Rule.{rule_code, rule_number, rule_of}
use Rattle.desk_model.specs.Declaring.{claim_added, material_added, substance_added}
use Rattle.desk_declare.specs.Columns.{read_in}
use Rattle.desk_declare.specs.Declaration.{declaration_in, head_of, row_added}
use Rattle.desk_declare.specs.Examples.Rows.{ByteExamples, FaultExamples, ReadExamples}
use Rattle.desk_declare.specs.Faults.{declare_fault_words}
use Rattle.desk_text.specs.Forms.{a_code, a_day, a_name, a_number, an_exemption_number}
use Rattle.desk_declare.specs.Forms.{a_declaration_number, a_mass, a_rule, a_substance_mass}

-- what the examples compute with
unfoldable pub examples : Bool
unfolding a_code a_day a_declaration_number a_mass a_name a_number a_rule a_substance_mass an_exemption_number chars claim_added code_of csv_on_literals day_of declaration_in declare_fault_words digits encode_utf8 exemption_number_of field_at head_of is_utf8 material_added name_of number_below read_in row_added rule_code rule_number rule_of substance_added
examples = true

pub read_examples : ReadExamples
unfolding examples
read_examples = record {
  the_head = refl;
  the_greatest_number = refl;
  a_substance = refl;
  a_lesser_substance = refl;
  a_claim = refl;
}

pub fault_examples : FaultExamples
unfolding examples
fault_examples = record {
  nothing = refl;
  no_head = refl;
  other_version = refl;
  cut_head = refl;
  long_head = refl;
  second_head = refl;
  bad_code = refl;
  bad_mass = refl;
  first_of_two = refl;
  column_missing = refl;
  column_too_many = refl;
  orphan = refl;
  repeated_substance = refl;
  repeated_claim = refl;
  head_no_text = refl;
  row_no_text = refl;
  repeated_material = refl;
  many_materials = refl;
  many_substances = refl;
  many_claims = refl;
  one_of_many = refl;
  words = refl;
}

pub byte_examples : ByteExamples
unfolding examples
byte_examples = record {
  whole = refl;
  marked = refl;
  first_record_decides = refl;
}
