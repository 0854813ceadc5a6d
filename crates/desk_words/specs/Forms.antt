-- The forms of command lines, and which values the words after a command's name give.
use Rattle.std.specs.Prelude.{ℕ, Bool, not, ◌&&◌, ◌||◌, ◌==◌, List, [], ◌∷◌, ◌++◌, drop, codes, Option, None, Some, if◌then◌else◌}
use Rattle.std.specs.Prelude.{find, nat_eq, option_and_then, option_map}
use Rattle.std.specs.List.{after_first, before_first, list_all, list_any, starts_with}
use Rattle.std.specs.Str.{bytes_eq}

-- the bytes of a word
abbrev pub Word : Type 0
Word = List ℕ

-- an option, by its name without the two dashes
pub record OptionForm : Type 0 where
  pub name : Word
  pub required : Bool

-- a command: the names of its positionals, in order and each required, and its options, which stand in any order
pub record Form : Type 0 where
  pub name : Word
  pub positionals : List Word
  pub options : List OptionForm

-- ---- values by name

-- the names that have a value, each with it
abbrev pub Given : Type 0
Given = List (Word × Word)

abbrev pub is_given : Given → Word → Bool
is_given given name = list_any (λ pair. bytes_eq pair.0 name) given

abbrev pub value_in : Given → Word → Option Word
value_in given name = option_map (λ pair. pair.1) (find (λ pair. bytes_eq pair.0 name) given)

-- the values with one more, unless the name has one already
abbrev pub with_value : Word → Word → Given → Option Given
with_value name text given = if is_given given name then None else Some (given ++ (name, text) ∷ [])

-- each positional and each required option has a value
abbrev pub is_whole : Form → Given → Bool
is_whole form given = list_all (λ name. is_given given name) form.positionals
    && list_all (λ option. not option.required || is_given given option.name) form.options

-- ---- one word

-- the word begins with one dash and no second
abbrev pub has_one_dash : Word → Bool
has_one_dash word = starts_with nat_eq word (codes "-") && not (starts_with nat_eq word (codes "--"))

-- how a word that has not one dash is written: `--` alone, an option with the value after its `=` where there is one, or without dashes
pub data Written : Type 0 where
  dashes : Written
  long : Word → Option Word → Written
  undashed : Written

-- a byte is `=`
abbrev is_equals_sign : ℕ → Bool
is_equals_sign byte = byte == 61

-- what follows the two dashes
abbrev pub written_after_dashes : Word → Written
written_after_dashes [] = dashes
written_after_dashes (byte ∷ rest) = long (before_first is_equals_sign (byte ∷ rest))
    (if list_any is_equals_sign (byte ∷ rest) then Some (after_first is_equals_sign (byte ∷ rest)) else None)

abbrev pub written : Word → Written
written word = if starts_with nat_eq word (codes "--") then written_after_dashes (drop 2 word) else undashed

-- ---- the words after a command's name

-- what the next word may be: anything, the value of the option of this name, or, after `--`, a positional alone
pub data Awaited : Type 0 where
  anything : Awaited
  value_for : Word → Awaited
  positionals_only : Awaited

-- the option of this name
abbrev pub option_named : Word → List OptionForm → Option OptionForm
option_named name options = find (λ option. bytes_eq option.name name) options

-- an option that a word names gets the value in the same word, or waits for the next
abbrev pub after_option : Option OptionForm → Option Word → Given → (Awaited → Given → Option Given) → Option Given
after_option None text given next = None
after_option (Some option) None given next = next (value_for option.name) given
after_option (Some option) (Some text) given next = option_and_then (next anything) (with_value option.name text given)

-- the first positional that is left gets the word
abbrev pub after_positional : List Word → Word → Given → (List Word → Given → Option Given) → Option Given
after_positional [] word given next = None
after_positional (name ∷ left) word given next = option_and_then (next left) (with_value name word given)

-- a word where it may be anything
abbrev pub after_any : Form → Written → List Word → Word → Given → (Awaited → List Word → Given → Option Given) → Option Given
after_any form dashes left word given next = next positionals_only left given
after_any form (long name text) left word given next =
    after_option (option_named name form.options) text given (λ awaited. next awaited left)
after_any form undashed left word given next = after_positional left word given (next anything)

-- a word that is to be an option's value: none that begins with a dash
abbrev pub after_awaited : Word → Written → Word → Given → (Given → Option Given) → Option Given
after_awaited name undashed word given next = option_and_then next (with_value name word given)
after_awaited name dashes word given next = None
after_awaited name (long other text) word given next = None

-- the values once the words are read, from those before them, where these positionals are left
unfoldable pub read_from : Form → List Word → Awaited → List Word → Given → Option Given
read_from form [] anything left given = Some given
read_from form [] positionals_only left given = Some given
read_from form [] (value_for name) left given = None
read_from form (word ∷ words) anything left given = after_any form (written word) left word given (read_from form words)
read_from form (word ∷ words) positionals_only left given =
    after_positional left word given (read_from form words positionals_only)
read_from form (word ∷ words) (value_for name) left given =
    after_awaited name (written word) word given (read_from form words anything left)

-- the values, where none that has to be there is missing
abbrev pub complete_values : Form → Given → Option Given
complete_values form given = if is_whole form given then Some given else None

-- the values that the words after the command's name give
abbrev pub given_values : Form → List Word → Option Given
given_values form words = option_and_then (complete_values form) (read_from form words anything form.positionals [])

-- ---- the whole line

-- the command of this name
abbrev pub form_named : Word → List Form → Option Form
form_named name forms = find (λ form. bytes_eq form.name name) forms

-- a command's name and the values that the words after it give: the first word is the name, whole
abbrev pub command_line_of : List Form → List Word → Option (Word × Given)
command_line_of forms [] = None
command_line_of forms (name ∷ words) =
    option_and_then (λ form. option_map (λ given. (form.name, given)) (given_values form words)) (form_named name forms)
