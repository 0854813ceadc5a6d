-- The examples hold by computation.
use Rattle.std.proofs.Common.{◌≡◌, [], refl, Bool, true, false}
use Rattle.std.specs.Fmt.{digits}
use Rattle.desk_text.specs.Cas.{cas_of}
use Rattle.desk_text.specs.Code.{code_of, exemption_number_of}
use Rattle.desk_text.specs.Day.{date_text}
use Rattle.desk_text.specs.Name.{name_of}
use Rattle.desk_law.specs.Annex.{annex_kinds, annex_number}
use Rattle.desk_law.specs.Kind.{kind_code, kind_place}
use Rattle.desk_law.specs.KindSet.{has_kind, kinds_text}
use Rattle.desk_law.specs.Rule.{rule_code, rule_number}
use Rattle.desk_model.specs.EditText.{edit_text, ticket_code}
use Rattle.desk_model.specs.Effect.{with_edit_entered, with_edit_made}
use Rattle.desk_model.specs.Forms.{is_declaration_in_form, is_edit_in_form, is_exemption_row, is_material_row}
use Rattle.desk_model.specs.Start.{start}
use Rattle.desk_model.specs.Forms.{is_name}
use Rattle.desk_model.proofs.Names.{name_from}
use Rattle.desk_model.specs.Examples.Effects.{EntryExamples, ReplacementExamples}
use Rattle.desk_model.specs.Examples.Forms.{ContentExamples, EditExamples, RangeExamples, RowExamples, good_name}
use Rattle.desk_model.specs.Examples.Texts.{StartExamples, TextExamples}

is_named : is_name good_name ≡ true
is_named = name_from good_name refl refl refl refl

is_unnamed : is_name [] ≡ false
unfolding name_of
is_unnamed = refl

-- what the examples compute with
unfoldable pub examples : Bool
unfolding annex_kinds annex_number cas_of code_of date_text digits edit_text with_edit_entered exemption_number_of has_kind is_declaration_in_form is_edit_in_form is_exemption_row is_material_row kind_code kind_place kinds_text with_edit_made rule_code rule_number start ticket_code
examples = true

pub entry_examples : EntryExamples
unfolding examples
entry_examples = record {
  twenty_edits = refl;
  substances = refl;
  members = refl;
  materials = refl;
  parts = refl;
  lines = refl;
  products = refl;
  exemptions = refl;
  candidates = refl;
  shipments = refl;
  tickets = refl;
  ticket = refl;
}

pub replacement_examples : ReplacementExamples
unfolding examples
replacement_examples = record {
  all_edits = refl;
  substances = refl;
  members = refl;
  materials = refl;
  parts = refl;
  lines = refl;
  products = refl;
  exemptions = refl;
  candidates = refl;
  shipments = refl;
}

pub range_examples : RangeExamples
unfolding examples
range_examples = record {
  limits = refl;
  ranges = refl;
  years = refl;
  counts = refl;
  shipment_years = refl;
  units = refl;
  numbers = refl;
  kept_factors = refl;
  sent_factors = refl;
  floors_and_caps = refl;
  masses = refl;
  held_masses = refl;
}

pub content_examples : ContentExamples
unfolding examples
content_examples = record {
  counts_of_substances = refl;
  counts_of_claims = refl;
  counts_of_materials = refl;
  orders_of_substances = refl;
  orders_of_claims = refl;
  orders_of_materials = refl;
  sets_of_kinds = refl;
  sums = refl;
}

pub row_examples : RowExamples
unfolding examples
row_examples = record {
  substances = rw (is_named, is_unnamed) refl;
  members = refl;
  material = rw is_named refl;
  materials = rw (is_named, is_unnamed) refl;
  parts = rw (is_named, is_unnamed) refl;
  lines = refl;
  products = refl;
  exemption = rw is_named refl;
  exemptions = rw is_unnamed refl;
  candidates = refl;
  shipments = refl;
}

pub edit_examples : EditExamples
unfolding examples
edit_examples = record {
  good = rw is_named refl;
  not_good = rw (is_named, is_unnamed) refl;
}

pub text_examples : TextExamples
unfolding examples
text_examples = record {
  declaration = refl;
  declaration_code = refl;
  part = refl;
  sent_code = refl;
  no_cas = refl;
  exemption = refl;
  ship = refl;
  exemption_from_floor = refl;
  declaration_of_two = refl;
  substance = refl;
  member = refl;
  article = refl;
  line = refl;
  unline = refl;
  product = refl;
  unexempt = refl;
  candidate = refl;
  unship = refl;
  ticket_codes = refl;
}

pub start_examples : StartExamples
unfolding examples
start_examples = record {
  substances = refl;
  members = refl;
  nothing_else = refl;
}
