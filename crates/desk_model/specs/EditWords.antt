-- The words of edits, which say what an edit does. JSON and the text of an edit spell them alike.
use Rattle.std.specs.Prelude.{ℕ, List, [], ◌∷◌, Option, codes, find}
use Rattle.std.specs.Str.{bytes_eq}
use Rattle.desk_model.specs.declared.edit_word.EditWord.{EditWord}
use Rattle.desk_model.specs.declared.edit_word.EditWord.TheVariants as word

-- a word as edits spell it
abbrev pub word_text : EditWord → List ℕ
word_text word.Substance = codes "substance"
word_text word.Member = codes "member"
word_text word.Declare = codes "declare"
word_text word.Part = codes "part"
word_text word.Line = codes "line"
word_text word.Unline = codes "unline"
word_text word.Product = codes "product"
word_text word.Exemption = codes "exemption"
word_text word.Unexempt = codes "unexempt"
word_text word.Candidate = codes "candidate"
word_text word.Ship = codes "ship"
word_text word.Unship = codes "unship"

-- each word once
abbrev pub all_words : List EditWord
all_words =
    word.Substance ∷ word.Member ∷ word.Declare ∷ word.Part ∷ word.Line ∷ word.Unline ∷ word.Product ∷ word.Exemption ∷ word.Unexempt
    ∷ word.Candidate ∷ word.Ship ∷ word.Unship ∷ []

-- the edit's word that a text is, if it is one
unfoldable pub edit_word_of : List ℕ → Option EditWord
edit_word_of text = find (λ w. bytes_eq (word_text w) text) all_words
