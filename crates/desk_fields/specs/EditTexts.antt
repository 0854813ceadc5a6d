-- Which bytes are the text of an edit, and of which.
use Rattle.std.specs.Prelude.{◌≡◌, ℕ, Bool, true, false, List}
use Rattle.std.specs.Option.{option_map_or}
use Rattle.desk_model.specs.declared.edit.Edit.{Edit}
use Rattle.desk_model.specs.declared.edit_word.EditWord.{EditWord}
use Rattle.desk_model.specs.declared.edit_word.EditWord.TheVariants as word
use Rattle.desk_model.specs.EditText.{edit_text, ticket_code}
use Rattle.desk_model.specs.EditWords.{edit_word_of}
use Rattle.desk_model.specs.Forms.{is_edit_in_form}
use Rattle.desk_fields.specs.Reading.{one}

-- the edit has this text under this ticket's code, and its values are of their form and in their range
abbrev pub IsEditOf : List ℕ → List ℕ → Edit → Type 0
IsEditOf code text edit = (is_edit_in_form edit ≡ true) × (code ≡ ticket_code edit) × (text ≡ edit_text edit)

-- the bytes are the text of some edit, under whichever ticket
abbrev pub IsEditText : List ℕ → Type 0
IsEditText text = (edit : Edit) × (is_edit_in_form edit ≡ true) × (text ≡ edit_text edit)

-- the edit holds texts or a list, for which memory is taken as it is read: a name, or the materials of a declaration
unfoldable pub edit_has_texts : EditWord → Bool
edit_has_texts word.Substance = true
edit_has_texts word.Declare = true
edit_has_texts word.Part = true
edit_has_texts word.Exemption = true
edit_has_texts _ = false

-- the first of the fields is the word of such an edit
unfoldable pub begins_with_texts : List (List ℕ) → Bool
begins_with_texts fields = option_map_or (λ w. edit_has_texts w.0) (one edit_word_of fields) false
