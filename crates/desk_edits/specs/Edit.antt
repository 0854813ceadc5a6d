-- An edit in JSON: an object whose key `edit` has the edit's word, with the keys of the word's shape.
use Rattle.std.specs.Prelude.{ℕ, if◌then◌else◌, List, Option, Some, None, option_and_then, Result, Err}
use Rattle.std.specs.Str.{is_utf8}
use Rattle.serde_json.specs.Data.{Data}
use Rattle.serde_json.specs.Find.{as_str, get}
use Rattle.serde_json.specs.Read.{read}
use Rattle.desk_text.specs.Day.{Date}
use Rattle.desk_law.specs.declared.annex.Annex.{Annex}
use Rattle.desk_law.specs.declared.kind.Kind.{Kind}
use Rattle.desk_law.specs.declared.rule.Rule.{Rule}
use Rattle.desk_model.specs.declared.edit.Edit.{Edit}
use Rattle.desk_model.specs.declared.edit.Edit.TheVariants as edit
use Rattle.desk_model.specs.declared.edit_word.EditWord.{EditWord}
use Rattle.desk_model.specs.declared.edit_word.EditWord.TheVariants as word
use Rattle.desk_model.specs.EditWords.{edit_word_of}
use Rattle.desk_edits.specs.declared.edit_key.EditKey.TheVariants as key
use Rattle.desk_edits.specs.declared.json_fault.JsonFault.{JsonFault}
use Rattle.desk_edits.specs.declared.json_fault.JsonFault.TheVariants.{NotJson, NotAnEdit}
use Rattle.desk_edits.specs.Keys.{word_key}
use Rattle.desk_edits.specs.Shape.{◌then◌, edit_made_by, makes, may_have, needs}
use Rattle.desk_edits.specs.Values.{cas_value, code_value, a_count, day_value, a_factor, a_kind, name_value, a_ppm, rule_value, a_sort, a_year, annex_value}
use Rattle.desk_edits.specs.Values.{exemption_number_value, kinds_value, some_units}

-- the edit of an exemption row, of the values of its keys in order
abbrev pub exemption_edit : List ℕ → List ℕ → Annex → List ℕ → Rule → List Kind → List ℕ → Date → Date → Option ℕ → Option ℕ → Edit
exemption_edit ticket row annex number rule kinds application first last floor cap = edit.Exemption ticket (record {
  terms = record { row = row; annex = annex; number = number; rule = rule; kinds = kinds; first = first; last = last; floor = floor; cap = cap };
  application = application;
})

-- the edit of a word that an object is: the keys of the word in their order, each with the form of its value, and what they make. A
-- declaration is none, as it comes in CSV
unfoldable pub edit_of_word : EditWord → Data → Result Edit JsonFault
edit_of_word word.Substance d =
    edit_made_by (makes edit.Substance then needs key.Ticket code_value then needs key.Code code_value then needs key.Name name_value then may_have key.Cas cas_value) d
edit_of_word word.Member d =
    edit_made_by (makes edit.Member then needs key.Ticket code_value then needs key.Substance code_value then needs key.Rule rule_value then needs key.Factor a_factor) d
edit_of_word word.Declare d = Err NotAnEdit
edit_of_word word.Part d =
    edit_made_by (makes edit.Part then needs key.Ticket code_value then needs key.Code code_value then needs key.Kind a_sort then needs key.Name name_value) d
edit_of_word word.Line d =
    edit_made_by (makes edit.Line then needs key.Ticket code_value then needs key.Parent code_value then needs key.Child code_value then needs key.Count a_count) d
edit_of_word word.Unline d =
    edit_made_by (makes edit.Unline then needs key.Ticket code_value then needs key.Parent code_value then needs key.Child code_value) d
edit_of_word word.Product d =
    edit_made_by (makes edit.Product then needs key.Ticket code_value then needs key.Part code_value then needs key.Kind a_kind) d
edit_of_word word.Exemption d =
    edit_made_by (makes exemption_edit then needs key.Ticket code_value then needs key.Row code_value then needs key.Annex annex_value
    then needs key.Number exemption_number_value then needs key.Rule rule_value then needs key.Kinds kinds_value then needs key.Application name_value
    then needs key.From day_value then needs key.Until day_value then may_have key.Floor a_ppm then may_have key.Cap a_ppm) d
edit_of_word word.Unexempt d =
    edit_made_by (makes edit.Unexempt then needs key.Ticket code_value then needs key.Row code_value) d
edit_of_word word.Candidate d =
    edit_made_by (makes edit.Candidate then needs key.Ticket code_value then needs key.Substance code_value then needs key.Day day_value) d
edit_of_word word.Ship d =
    edit_made_by (makes edit.Ship then needs key.Ticket code_value then needs key.Product code_value then needs key.Year a_year then needs key.Units some_units) d
edit_of_word word.Unship d =
    edit_made_by (makes edit.Unship then needs key.Ticket code_value then needs key.Product code_value then needs key.Year a_year then needs key.Units some_units) d

-- the value that bytes are, where they are UTF-8 and JSON: a repeated key has its last value
unfoldable pub json_of : List ℕ → Option Data
json_of bytes = if is_utf8 bytes then read bytes else None

-- the word of an object's key `edit`
unfoldable pub word_in : Data → Option EditWord
word_in d = option_and_then (λ value. option_and_then edit_word_of (as_str value)) (get word_key d)

-- the edit of the word that an object has, if it has one
abbrev pub edit_of_named_word : Option EditWord → Data → Result Edit JsonFault
edit_of_named_word None d = Err NotAnEdit
edit_of_named_word (Some w) d = edit_of_word w d

-- the edit that a value is
abbrev pub edit_of_value : Option Data → Result Edit JsonFault
edit_of_value None = Err NotJson
edit_of_value (Some d) = edit_of_named_word (word_in d) d

-- the edit that bytes are, or their first fault
abbrev pub edit_of_json : List ℕ → Result Edit JsonFault
edit_of_json bytes = edit_of_value (json_of bytes)
