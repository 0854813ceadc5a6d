-- The parser's reading of a whole line is ours, for every list of words.
use Rattle.std.proofs.Common.{◌≡◌, ◌∙◌, ◌||◌, Bool, cond, true, false, refl, sym, ap, subst, inl, inr, List, [], ◌∷◌, map, find, Option, None, Some, option_and_then, option_map, is_some, bytes_eq, codes, Ok, Err}
use Rattle.std.specs.List.{fold}
use Rattle.std.specs.Option.{option_map_or}
use Rattle.std.proofs.lemmas.Slice.Eq.{bytes_eq-Decides}
use Rattle.clap.specs.Faults.{bundle_fault, check_fault, defaults_fault, entered_fault, fault_of, flag_word_fault, is_simple_and_free, level_fault, other_fault, settle_fault, step_fault, walk_fault}
use Rattle.clap.specs.Kinds.{HasKind, IsAmong, Kinds, or_else}
use Rattle.clap.specs.Lexer.{long_of}
use Rattle.clap.specs.Simple.{App, HasMatchesOf, Shape, entered, is_simple, label_of, names_of, rows_at, subcommand_of}
use Rattle.clap.specs.Values.{kind_of}
use Rattle.clap.specs.Walk.{Held, Names, Row, Step, Text, Walk, after_step, answers_to, finished, idle, long_or_other, nothing_held, settled, short_or_plain, subcommand, subcommand_met, subcommand_or_other, trailing, walk_from, walked}
use Rattle.clap.specs.declared.error.Error.{Error}
use Rattle.clap.specs.declared.error.kind.ErrorKind.{ErrorKind}
use Rattle.clap.specs.declared.error.kind.ErrorKind.TheVariants as kind
use Rattle.clap.specs.declared.parser.matches.ArgMatches.{ArgMatches}
use Rattle.clap.proofs.FaultLemmas.{stopped_fault}
use Rattle.clap.proofs.WalkLemmas.{walk_stopped}
use Rattle.desk_words.specs.App.{desk_app}
use Rattle.desk_words.specs.Forms.{Form, Given, Word, Written, dashes, form_named, command_line_of, long, undashed, given_values, written}
use Rattle.desk_words.specs.Parsed.{Parses, fault_by, line_rows, rows_for}
use Rattle.desk_words.specs.Table as table
use Rattle.desk_words.specs.declared.command_fault.CommandFault.{CommandFault}
use Rattle.desk_words.specs.declared.command_fault.CommandFault.TheVariants as fault
use Rattle.desk_words.proofs.Dashes.{Lexes, lexes}
use Rattle.desk_words.proofs.Reading.{Undashed, fails, first_undashed, leaf_agrees, rest_undashed, unless, unless_fails}
use Rattle.desk_words.proofs.Slots.{Left, and_false, form_slots, leaf}

-- the commands' positionals are numbered from 1
abbrev pub AllLeft : List Form → Type 0
AllLeft [] = Unit {0}
AllLeft (form ∷ forms) = Left (form_slots form) 1 form.positionals × AllLeft forms

abbrev built_form : Form → Shape
built_form form = leaf form.name (form_slots form)

-- the program's own level, once it is built
abbrev top : Shape
top = record desk_app.top { is_built = true }

abbrev app : List Form → App
app forms = record { top = top; subs = map built_form forms }

-- a command's name with its rows
abbrev with_name : Word → List Row → Text × List Row
with_name name rows = (name, rows)

-- a command's name without other names
abbrev labelled : Form → Text × List Text
labelled form = (form.name, [])

some_form : (a b : Form) → ◌≡◌ {A = Option Form} (Some a) (Some b) → a ≡ b
some_form a b e = cc

left_of : (forms : List Form) (word : Word) (form : Form) → AllLeft forms → form_named word forms ≡ Some form
    → (form.name ≡ word) × Left (form_slots form) 1 form.positionals
left_of [] word form all found = absurd (cc)
left_of (first ∷ others) word form all found = go (left_of others word form all.1) (bytes_eq first.name word) refl
  where
    go : (form_named word others ≡ Some form → (form.name ≡ word) × Left (form_slots form) 1 form.positionals) → (b : Bool) → bytes_eq first.name word ≡ b
        → (form.name ≡ word) × Left (form_slots form) 1 form.positionals
    go below true e =
        let is : first ≡ form = some_form first form (sym (ap (λ b. cond b (Some first) (form_named word others)) e) ∙ found) in
        (sym (ap (λ (f : Form). f.name) is) ∙ (bytes_eq-Decides first.name word).0 e, subst (λ (f : Form). Left (form_slots f) 1 f.positionals) is all.0)
    go below false e = below (sym (ap (λ b. cond b (Some first) (form_named word others)) e) ∙ found)

-- the parser finds the command that we find
names_found : (word : Word) (forms : List Form) → find (answers_to word) (names_of (app forms)) ≡ option_map labelled (form_named word forms)
names_found word [] = refl
names_found word (form ∷ forms) = go (bytes_eq form.name word) _ _ (names_found word forms)
  where
    go : (b : Bool) (rest : Option (Text × List Text)) (found : Option Form) → rest ≡ option_map labelled found
        → cond (b || false) (Some (labelled form)) rest ≡ option_map labelled (cond b (Some form) found)
    go true rest found e = refl
    go false rest found e = e

shapes_found : (word : Word) (forms : List Form) → find (λ s. answers_to word (label_of s)) (map built_form forms) ≡ option_map built_form (form_named word forms)
shapes_found word [] = refl
shapes_found word (form ∷ forms) = go (bytes_eq form.name word) _ _ (shapes_found word forms)
  where
    go : (b : Bool) (rest : Option Shape) (found : Option Form) → rest ≡ option_map built_form found
        → cond (b || false) (Some (built_form form)) rest ≡ option_map built_form (cond b (Some form) found)
    go true rest found e = refl
    go false rest found e = e

or_else_none : (t : Kinds) → or_else t [] ≡ t
or_else_none [] = refl
or_else_none (k ∷ ks) = refl

unless_named : (name : Word) (t : Kinds) (rows : List Row) → unless t (Some (with_name name rows)) ≡ option_map (with_name name) (unless t (Some rows))
unless_named name [] rows = refl
unless_named name (k ∷ ks) rows = refl

rows_named : (name : Word) (o : Option Given) → option_map (with_name name) (option_map rows_for o) ≡ option_map line_rows (option_map (λ given. (name, given)) o)
rows_named name None = refl
rows_named name (Some given) = refl

module _ (forms : List Form) where
  abbrev names : Names
  names = names_of (app forms)

  -- the faults after the walk
  abbrev end_fault : Walk → Kinds
  end_fault end = or_else (entered_fault (app forms) end.stopped) (or_else (settle_fault [] false end.held)
      (or_else (defaults_fault (settled [] end.held).rows []) (check_fault top (finished [] end.held) (is_some (entered (app forms) end.stopped)))))

  -- what the parser makes of a line whose walk ended so
  abbrev outcome : Kinds → Walk → Option (Text × List Row)
  outcome faults end = unless (or_else faults (end_fault end)) (entered (app forms) end.stopped)

  abbrev from : Walk → List Word → Option (Text × List Row)
  from w words = outcome (walk_fault top names w words) (fold (walked [] names) w words)

  abbrev start : Walk
  start = walk_from nothing_held

  -- the same, after a first word that met this
  abbrev taken : Kinds → Held × Step → Word → List Word → Option (Text × List Row)
  taken faults met word rest = outcome (or_else (or_else faults (step_fault top 1 met.0 met.1)) (walk_fault top names (after_step [] word start met.0 met.1) rest))
      (fold (walked [] names) (after_step [] word start met.0 met.1) rest)

  first_word : (word : Word) (rest : List Word) (met : Option Text) → subcommand_met names idle word ≡ met
      → from start (word ∷ rest) ≡ taken (other_fault top met word nothing_held) (subcommand_or_other [] met idle 1 word nothing_held) word rest
  unfolding walk_fault walked
  first_word word rest met e =
      ap (λ met. taken (other_fault top met word nothing_held) (subcommand_or_other [] met idle 1 word nothing_held) word rest) e

  -- after two dashes no command comes
  abbrev past_dashes : Walk
  past_dashes = record start { is_trailing = true }

  past_dashes_fails : (words : List Word) → from past_dashes words ≡ None
  unfolding walk_fault walked defaults_fault
  past_dashes_fails [] = refl
  past_dashes_fails (word ∷ rest) = refl

  no_command : (word : Word) (rest : List Word) → Undashed (word ∷ rest) → form_named word forms ≡ None → from start (word ∷ rest) ≡ None
  no_command word rest ok none = go (written word) (lexes word (first_undashed word rest ok))
    where
      met : subcommand_met names idle word ≡ None
      met = ap (option_map (λ s. s.0)) (names_found word forms ∙ ap (option_map labelled) none)

      by_dashes : (b : Bool) → bytes_eq word (45 ∷ 45 ∷ []) ≡ b → from start (word ∷ rest)
          ≡ taken (cond b [] (flag_word_fault [] false (long_of word) word nothing_held)) (cond b (nothing_held, trailing 1) (long_or_other [] idle word (long_of word) nothing_held)) word rest
      by_dashes b e =
          first_word word rest None met
          ∙ ap (λ b. taken (cond b [] (flag_word_fault [] false (long_of word) word nothing_held)) (cond b (nothing_held, trailing 1) (long_or_other [] idle word (long_of word) nothing_held)) word rest) e

      go : (kind : Written) → Lexes kind word → from start (word ∷ rest) ≡ None
      go dashes e = by_dashes true e ∙ past_dashes_fails rest
      go (long name text) e =
          by_dashes false e.0 ∙ ap (λ o. taken (flag_word_fault [] false o word nothing_held) (long_or_other [] idle word o nothing_held) word rest) e.1
      go undashed e =
          by_dashes false e.0 ∙ ap (λ o. taken (flag_word_fault [] false o word nothing_held) (long_or_other [] idle word o nothing_held) word rest) e.1
          ∙ ap (λ o. taken (option_map_or (λ flags. bundle_fault [] false flags nothing_held) o []) (short_or_plain [] idle word o nothing_held) word rest) e.2

  a_command : (word : Word) (rest : List Word) (form : Form) → Undashed rest → form_named word forms ≡ Some form → form.name ≡ word
      → Left (form_slots form) 1 form.positionals
      → from start (word ∷ rest) ≡ option_map line_rows (option_map (λ given. (form.name, given)) (given_values form rest))
  unfolding defaults_fault
  a_command word rest form ok found named fits =
      let met : subcommand_met names idle word ≡ Some word =
      ap (option_map (λ s. s.0)) (names_found word forms ∙ ap (option_map labelled) found) ∙ ap (λ name. Some name) named in
      let level = level_fault (built_form form) [] nothing_held rest false [] in
      let rows = (rows_at (built_form form) rest).1 in
      first_word word rest (Some word) met
      ∙ ap (λ b. taken (cond b (kind.DisplayHelp ∷ kind.InvalidSubcommand ∷ []) []) (nothing_held, subcommand word) word rest) (and_false (bytes_eq word (codes "help")))
      ∙ ap (λ t. outcome t (fold (walked [] names) (record start { stopped = Some (word, []) }) rest)) (stopped_fault top names start (word, []) rest)
      ∙ ap (λ end. outcome [] end) (sym (walk_stopped [] names start word [] rest))
      ∙ ap (λ (o : Option Shape). unless (or_else (option_map_or (λ s. level_fault s [] nothing_held rest false []) o [])
      (check_fault top [] (is_some (option_map (λ s. rows_at s rest) o)))) (option_map (λ s. rows_at s rest) o))
      (shapes_found word forms ∙ ap (option_map built_form) found)
      ∙ ap (λ t. unless t (Some (with_name form.name rows))) (or_else_none level)
      ∙ unless_named form.name level rows
      ∙ ap (option_map (with_name form.name)) (leaf_agrees form rest ok fits)
      ∙ rows_named form.name (given_values form rest)

  line_agrees : AllLeft forms → (words : List Word) → Undashed words → from start words ≡ option_map line_rows (command_line_of forms words)
  unfolding walk_fault defaults_fault
  line_agrees all [] ok = refl
  line_agrees all (word ∷ rest) ok = go (form_named word forms) refl
    where
      go : (o : Option Form) → form_named word forms ≡ o → from start (word ∷ rest)
          ≡ option_map line_rows (option_and_then (λ form. option_map (λ given. (form.name, given)) (given_values form rest)) (form_named word forms))
      go None e =
          no_command word rest ok e
          ∙ sym (ap (λ o. option_map line_rows (option_and_then (λ form. option_map (λ given. (form.name, given)) (given_values form rest)) o)) e)
      go (Some form) e =
          let is = left_of forms word form all e in
          a_command word rest form (rest_undashed word rest ok) e is.0 is.1
          ∙ sym (ap (λ o. option_map line_rows (option_and_then (λ form. option_map (λ given. (form.name, given)) (given_values form rest)) o)) e)

-- ---- the program's own table

-- a command more is a line more here
desk_left : AllLeft table.forms
desk_left = ((refl, (refl, refl)), (refl, (refl, (refl, (refl, ((refl, refl), ((refl, refl), tt)))))))

pub desk_is_simple : is_simple_and_free desk_app ≡ true
desk_is_simple = refl

has_matches : is_simple desk_app ≡ true
has_matches = refl

pub desk_agrees : (words : List Word) → Undashed words → unless (fault_of desk_app words) (subcommand_of desk_app words) ≡ option_map line_rows (command_line_of table.forms words)
desk_agrees words ok = line_agrees table.forms desk_left words ok

among_fails : (k : ErrorKind) (kinds : Kinds) → IsAmong k kinds → fails kinds ≡ true
among_fails k [] among = absurd among
among_fails k (x ∷ xs) among = refl

no_line : (o : Option (Word × Given)) → option_map line_rows o ≡ None → o ≡ None
no_line None e = refl
no_line (Some line) e = absurd (cc)

refuses : (line : Option (Word × Given)) (told : CommandFault) → line ≡ None → Parses line (Err told)
refuses line fault.NoCommand e = e
refuses line fault.OutOfMemory e = tt

pub parses_ok : (app : App) (words : List Word) (m : ArgMatches) → app ≡ desk_app → Undashed words → fault_of app words ≡ [] → HasMatchesOf app words m
    → Parses (command_line_of table.forms words) (Ok m)
parses_ok app words m is ok none matches =
    (matches (ap is_simple is ∙ has_matches)).1 ∙ ap (λ a. subcommand_of a words) is
    ∙ sym (ap (λ t. unless t (subcommand_of desk_app words)) (sym (ap (λ a. fault_of a words) is) ∙ none)) ∙ desk_agrees words ok

pub parses_err : (app : App) (words : List Word) (e : Error) → app ≡ desk_app → Undashed words → HasKind (fault_of app words) e
    → Parses (command_line_of table.forms words) (Err (fault_by (kind_of e)))
parses_err app words e is ok has = elim has [
  | inl memory ↦ subst (λ (told : CommandFault). Parses (command_line_of table.forms words) (Err told)) (sym (ap fault_by memory)) tt
  | inr among ↦ refuses (command_line_of table.forms words) (fault_by (kind_of e)) (no_line _ (sym (desk_agrees words ok)
      ∙ unless_fails _ _ (ap (λ a. fails (fault_of a words)) (sym is) ∙ among_fails (kind_of e) _ among)))
]
