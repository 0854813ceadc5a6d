-- The examples hold by computation.
use Rattle.std.proofs.Common.{refl, Bool, true}
use Rattle.std.specs.Fmt.{digits}
use Rattle.std.specs.Str.{chars, is_utf8}
use Rattle.serde_json.proofs.OnLiterals.{serde_json_on_literals}
use Rattle.desk_text.specs.Cas.{cas_of}
use Rattle.desk_text.specs.Code.{code_of, exemption_number_of}
use Rattle.desk_text.specs.Day.{day_of}
use Rattle.desk_text.specs.Forms.{a_cas as cas_in, a_code as code_in, a_day as day_in, a_name as name_in, an_exemption_number as exemption_number_in}
use Rattle.desk_text.specs.Name.{name_of}
use Rattle.desk_text.specs.Number.{number_below}
use Rattle.desk_law.specs.Annex.{annex_number}
use Rattle.desk_law.specs.Kind.{kind_code, kind_of, kind_place}
use Rattle.desk_law.specs.KindSet.{has_kind, set_of}
use Rattle.desk_law.specs.Rule.{rule_code, rule_number, rule_of}
use Rattle.desk_model.specs.EditText.{sort_of}
use Rattle.desk_model.specs.EditWords.{edit_word_of}
use Rattle.desk_edits.specs.Edit.{edit_of_word, json_of, word_in}
use Rattle.desk_edits.specs.Examples.{FaultExamples, WordExamples}
use Rattle.desk_edits.specs.Keys.{key_name}
use Rattle.desk_edits.specs.Shape.{has_extra_key, missing_key, needed, optional}
use Rattle.desk_edits.specs.Values.{cas_value, code_value, a_count, day_value, a_factor, a_kind, name_value, a_ppm, rule_value, a_sort, a_year, annex_value, exemption_number_value, kinds_value, some_units}

-- what the examples compute with
unfoldable pub examples : Bool
unfolding serde_json_on_literals chars is_utf8 digits cas_of code_of exemption_number_of day_of name_of number_below annex_number kind_code kind_of kind_place has_kind set_of rule_code rule_number rule_of sort_of edit_word_of edit_of_word json_of word_in key_name has_extra_key missing_key needed optional cas_value code_value a_count day_value a_factor a_kind name_value a_ppm rule_value a_sort a_year annex_value exemption_number_value kinds_value some_units cas_in code_in day_in name_in exemption_number_in
examples = true

pub word_examples : WordExamples
unfolding examples
word_examples = record {
  substance = refl;
  no_cas = refl;
  null_cas = refl;
  member = refl;
  part = refl;
  line = refl;
  unline = refl;
  product = refl;
  exemption = refl;
  unexempt = refl;
  candidate = refl;
  ship = refl;
  unship = refl;
  repeated_key = refl;
}

pub fault_examples : FaultExamples
unfolding examples
fault_examples = record {
  nothing = refl;
  no_json = refl;
  no_text = refl;
  no_object = refl;
  no_word = refl;
  other_word = refl;
  declare = refl;
  missing_ticket = refl;
  missing_key = refl;
  extra_key = refl;
  bad_ticket = refl;
  bad_row = refl;
  null_row = refl;
  count_0 = refl;
  count_past = refl;
  count_text = refl;
  words = refl;
}
