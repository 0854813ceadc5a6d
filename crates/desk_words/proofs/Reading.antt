-- The parser's walk over the words of a command is our reading of them, for every list of words.
use Rattle.std.proofs.Common.{◌≡◌, ◌∙◌, ◌+◌, ◌&&◌, ◌||◌, ℕ, Bool, cond, true, false, not, nat_lt, refl, sym, ap, min, true≢false, List, [], ◌∷◌, ◌++◌, find, Option, None, Some, option_and_then, option_map, bytes_eq}
use Rattle.std.specs.List.{fold, list_any}
use Rattle.std.specs.Option.{option_map_or}
use Rattle.std.proofs.lemmas.Slice.Eq.{bytes_eq-Decides}
use Rattle.clap.specs.Faults.{bundle_fault, check_fault, defaults_fault, flag_word_fault, level_fault, long_fault, other_fault, positional_fault, settle_fault, step_fault, stray_fault, turn_fault, use_fault, walk_fault, word_fault}
use Rattle.clap.specs.Kinds.{Kinds, check_kinds, or_else}
use Rattle.clap.specs.Lexer.{long_of, short_of, usize_max}
use Rattle.clap.specs.Simple.{Shape, rows_at}
use Rattle.clap.specs.Walk.{Held, Row, Rule, Step, Waiting, Walk, after_flag, after_step, arg_by_id, finished, has_row, idle, is_pending, long_met, long_or_other, nothing_held, option, option_word, plain_word, positional, pushed, reacted, settled, settled_rows, short_or_plain, subcommand_met, subcommand_or_other, to_positional, trailing, next, used_by_id, value, walked, with_values, without, word_met}
use Rattle.clap.specs.declared.builder.value_parser.Reading.TheVariants.{AsWritten}
use Rattle.clap.specs.declared.error.kind.ErrorKind.TheVariants as kind
use Rattle.clap.specs.declared.parser.matches.ValueSource.TheVariants.{CommandLine}
use Rattle.desk_words.specs.Forms.{Form, Given, OptionForm, Word, Written, after_any, after_awaited, after_option, after_positional, anything, dashes, has_one_dash, is_given, is_whole, long, option_named, positionals_only, read_from, undashed, value_for, given_values, complete_values, with_value, written}
use Rattle.desk_words.specs.Parsed.{rows_for}
use Rattle.desk_words.proofs.Dashes.{Lexes, lexes, two_dashes}
use Rattle.desk_words.proofs.Slots.{HasId, Left, Slot, and_false, by_id, by_long, by_place, form_slots, has_id, has_option_name, has_place, has_row_for, lacks_some, leaf, new_row, no_default_fault, no_default_rows, option_found, option_slot, positional_slot, slot_rule, slot_rules}

-- ---- faults

-- a value where no step fails
abbrev pub unless : {X : Type 0} → Kinds → Option X → Option X
unless [] o = o
unless (k ∷ ks) o = None

abbrev pub fails : Kinds → Bool
fails [] = false
fails (k ∷ ks) = true

pub unless_fails : {X : Type 0} (t : Kinds) (o : Option X) → fails t ≡ true → unless t o ≡ None
unless_fails [] o e = absurd (true≢false (sym e))
unless_fails (k ∷ ks) o e = refl

fails_first : (a b : Kinds) → fails a ≡ true → fails (or_else a b) ≡ true
fails_first [] b e = absurd (true≢false (sym e))
fails_first (k ∷ ks) b e = refl

unless_steps : {X : Type 0} (t a b : Kinds) (o : Option X) → unless (or_else (or_else t a) b) o ≡ unless t (unless (or_else a b) o)
unless_steps [] a b o = refl
unless_steps (k ∷ ks) a b o = refl

-- no word begins with one dash alone
abbrev pub Undashed : List Word → Type 0
Undashed words = list_any has_one_dash words ≡ false

pub first_undashed : (word : Word) (rest : List Word) → Undashed (word ∷ rest) → has_one_dash word ≡ false
first_undashed word rest ok = go (has_one_dash word) ok
  where
    go : (b : Bool) → (b || list_any has_one_dash rest) ≡ false → b ≡ false
    go true e = e
    go false e = refl

pub rest_undashed : (word : Word) (rest : List Word) → Undashed (word ∷ rest) → Undashed rest
rest_undashed word rest ok = go (has_one_dash word) ok
  where
    go : (b : Bool) → (b || list_any has_one_dash rest) ≡ false → list_any has_one_dash rest ≡ false
    go true e = absurd (true≢false e)
    go false e = e

no_subcommand : (waiting : Waiting) (word : Word) → subcommand_met [] waiting word ≡ None
no_subcommand idle word = refl
no_subcommand (option id) word = refl
no_subcommand positional word = refl

module _ (form : Form) where
  abbrev slots : List Slot
  slots = form_slots form

  abbrev c : List Rule
  c = slot_rules slots

  abbrev shape : Shape
  shape = leaf form.name slots

  -- the walk between two words
  abbrev stands : Held → Waiting → ℕ → Bool → Walk
  stands h waiting place is_trailing =
      record { held = h; waiting = waiting; position = place; is_trailing = is_trailing; stopped = None }

  abbrev end_fault : Held → Kinds
  end_fault h = or_else (settle_fault c false h) (or_else (defaults_fault (settled c h).rows c) (check_fault shape (finished c h) false))

  -- what the parser makes of the words from here on
  abbrev outcome : Walk → List Word → Option (List Row)
  outcome w words = unless (or_else (walk_fault shape [] w words) (end_fault (fold (walked c []) w words).held))
      (Some (finished c (fold (walked c []) w words).held))

  -- what it makes of them after a word that met this
  abbrev taken : Kinds → Held × Step → Walk → Word → List Word → Option (List Row)
  taken fault met w word rest =
      unless (or_else fault (step_fault shape w.position met.0 met.1)) (outcome (after_step c word w met.0 met.1) rest)

  -- what our reading makes of them
  abbrev as_rows : Option Given → Option (List Row)
  as_rows o = option_map rows_for (option_and_then (complete_values form) o)

  one_more : (h : Held) (waiting : Waiting) (place : ℕ) (is_trailing : Bool) (word : Word) (rest : List Word)
      → outcome (stands h waiting place is_trailing) (word ∷ rest)
      ≡ taken (word_fault shape [] is_trailing waiting word h) (word_met c [] is_trailing waiting place word h) (stands h waiting place is_trailing) word rest
  unfolding walk_fault walked
  one_more h waiting place is_trailing word rest =
      let w = stands h waiting place is_trailing in
      unless_steps (turn_fault shape [] w word) (walk_fault shape [] (walked c [] w word) rest)
      (end_fault (fold (walked c []) (walked c [] w word) rest).held) (Some (finished c (fold (walked c []) (walked c [] w word) rest).held))

  -- ---- what a word meets

  meets_other : (h : Held) (waiting : Waiting) (place : ℕ) (word : Word) (rest : List Word)
      → outcome (stands h waiting place false) (word ∷ rest)
      ≡ taken (other_fault shape None word h) (subcommand_or_other c None waiting place word h) (stands h waiting place false) word rest
  meets_other h waiting place word rest =
      one_more h waiting place false word rest
      ∙ ap (λ o. taken (other_fault shape o word h) (subcommand_or_other c o waiting place word h) (stands h waiting place false) word rest) (no_subcommand waiting word)

  meets_dashes : (h : Held) (waiting : Waiting) (place : ℕ) (word : Word) (rest : List Word) → bytes_eq word two_dashes ≡ true
      → outcome (stands h waiting place false) (word ∷ rest) ≡ outcome (stands h waiting place true) rest
  meets_dashes h waiting place word rest e =
      meets_other h waiting place word rest
      ∙ ap (λ b. taken (cond b [] (flag_word_fault c false (long_of word) word h)) (cond b (h, trailing place) (long_or_other c waiting word (long_of word) h))
      (stands h waiting place false) word rest) e

  meets_none : (h : Held) (waiting : Waiting) (place : ℕ) (word : Word) (rest : List Word) → bytes_eq word two_dashes ≡ false
      → outcome (stands h waiting place false) (word ∷ rest)
      ≡ taken (flag_word_fault c false (long_of word) word h) (long_or_other c waiting word (long_of word) h) (stands h waiting place false) word rest
  meets_none h waiting place word rest e =
      meets_other h waiting place word rest
      ∙ ap (λ b. taken (cond b [] (flag_word_fault c false (long_of word) word h)) (cond b (h, trailing place) (long_or_other c waiting word (long_of word) h))
      (stands h waiting place false) word rest) e

  abbrev long_taken : Held → Waiting → ℕ → Word → List Word → Option Word → Option Rule → Option (List Row)
  long_taken h waiting place word rest text found = taken (long_fault c false found text h)
      (after_flag c waiting word (long_met c found text h).0 (long_met c found text h).1) (stands h waiting place false) word rest

  meets_long : (h : Held) (waiting : Waiting) (place : ℕ) (word : Word) (rest : List Word) (name : Word) (text : Option Word)
      → bytes_eq word two_dashes ≡ false → long_of word ≡ Some (name, text) → outcome (stands h waiting place false) (word ∷ rest)
      ≡ long_taken h waiting place word rest text (option_map slot_rule (find (has_option_name name) slots))
  meets_long h waiting place word rest name text not_two e =
      meets_none h waiting place word rest not_two
      ∙ ap (λ o. taken (flag_word_fault c false o word h) (long_or_other c waiting word o h) (stands h waiting place false) word rest) e
      ∙ ap (long_taken h waiting place word rest text) (by_long slots name)

  meets_plain : (h : Held) (waiting : Waiting) (place : ℕ) (word : Word) (rest : List Word)
      → bytes_eq word two_dashes ≡ false → long_of word ≡ None → short_of word ≡ None
      → outcome (stands h waiting place false) (word ∷ rest) ≡ taken [] (plain_word c waiting word h) (stands h waiting place false) word rest
  meets_plain h waiting place word rest not_two none short =
      meets_none h waiting place word rest not_two
      ∙ ap (λ o. taken (flag_word_fault c false o word h) (long_or_other c waiting word o h) (stands h waiting place false) word rest) none
      ∙ ap (λ o. taken (option_map_or (λ flags. bundle_fault c false flags h) o []) (short_or_plain c waiting word o h) (stands h waiting place false) word rest) short

  -- ---- a walk that is to fail: what is pending can't be used

  abbrev Doomed : Held → Type 0
  Doomed h = fails (settle_fault c false h) ≡ true

  doomed_end : (h : Held) (waiting : Waiting) (place : ℕ) (is_trailing : Bool) → Doomed h → outcome (stands h waiting place is_trailing) [] ≡ None
  unfolding walk_fault
  doomed_end h waiting place is_trailing doom = unless_fails (end_fault h) _ (fails_first _ _ doom)

  value_fails : (h : Held) (place : ℕ) → Doomed h → fails (step_fault shape place h value) ≡ true
  value_fails h place doom =
      ap (λ found. fails (option_map_or (λ a. positional_fault c false a h) found (stray_fault shape))) (by_place slots place)
      ∙ go (find (has_place place) slots)
    where
      go : (o : Option Slot) → fails (option_map_or (λ a. positional_fault c false a h) (option_map slot_rule o) (stray_fault shape)) ≡ true
      go None = refl
      go (Some slot) = ap (λ b. fails (cond b [] (settle_fault c false h))) (and_false (is_pending (slot_rule slot) h.pending)) ∙ doom

  value_doomed : (h : Held) (w : Walk) (word : Word) (rest : List Word) → Doomed h → taken [] (h, value) w word rest ≡ None
  value_doomed h w word rest doom = unless_fails _ _ (value_fails h w.position doom)

  trailing_doomed : (h : Held) (waiting : Waiting) (place : ℕ) (words : List Word) → Doomed h → outcome (stands h waiting place true) words ≡ None
  trailing_doomed h waiting place [] doom = doomed_end h waiting place true doom
  trailing_doomed h waiting place (word ∷ rest) doom =
      one_more h waiting place true word rest ∙ value_doomed h (stands h waiting place true) word rest doom

  long_doomed : (h : Held) (waiting : Waiting) (place : ℕ) (word : Word) (rest : List Word) (name : Word) (text : Option Word)
      → bytes_eq word two_dashes ≡ false → long_of word ≡ Some (name, text) → Doomed h → outcome (stands h waiting place false) (word ∷ rest) ≡ None
  long_doomed h waiting place word rest name text not_two e doom =
      meets_long h waiting place word rest name text not_two e
      ∙ unless_fails _ _ (fails_first _ _ (go (find (has_option_name name) slots) text))
    where
      go : (o : Option Slot) (text : Option Word) → fails (long_fault c false (option_map slot_rule o) text h) ≡ true
      go None text = refl
      go (Some slot) None = doom
      go (Some slot) (Some v) = fails_first _ _ doom

  idle_doomed : (h : Held) (place : ℕ) (words : List Word) → Undashed words → Doomed h → outcome (stands h idle place false) words ≡ None
  idle_doomed h place [] ok doom = doomed_end h idle place false doom
  idle_doomed h place (word ∷ rest) ok doom = go (written word) (lexes word (first_undashed word rest ok))
    where
      go : (kind : Written) → Lexes kind word → outcome (stands h idle place false) (word ∷ rest) ≡ None
      go dashes e = meets_dashes h idle place word rest e ∙ trailing_doomed h idle place rest doom
      go (long name text) e = long_doomed h idle place word rest name text e.0 e.1 doom
      go undashed e = meets_plain h idle place word rest e.0 e.1 e.2 ∙ value_doomed h (stands h idle place false) word rest doom

  doomed : (h : Held) (place : ℕ) (is_trailing : Bool) (words : List Word) → Undashed words → Doomed h → outcome (stands h idle place is_trailing) words ≡ None
  doomed h place true words ok doom = trailing_doomed h idle place words doom
  doomed h place false words ok doom = idle_doomed h place words ok doom

  -- ---- a walk that goes on: what is pending is the last of these values

  abbrev Settles : Held → Given → Type 0
  Settles h given = (settled_rows c h.pending h.rows ≡ rows_for given) × (settle_fault c false h ≡ [])

  -- a value for an argument, over these rows
  abbrev kept : Held → List Row → Word → Word → Held
  kept h rows id text = record h { rows = rows; pending = Some (id, text ∷ []) }

  abbrev one_use_fault : Word → List Row → Kinds
  one_use_fault id rows = or_else (cond (has_row id rows && true) (kind.ArgumentConflict ∷ []) []) []

  use_faults : (slot : Slot) (id text : Word) (rows : List Row) (given : Given) → slot.id ≡ id → rows ≡ rows_for given
      → use_fault false (slot_rule slot) (text ∷ []) rows ≡ cond (is_given given id) (kind.ArgumentConflict ∷ []) []
  use_faults slot id text rows given is same =
      ap (λ (id : Word). one_use_fault id rows) is ∙ ap (one_use_fault id) same
      ∙ ap (λ b. or_else (cond (b && true) (kind.ArgumentConflict ∷ []) []) []) (has_row_for id given) ∙ go (is_given given id)
    where
      go : (b : Bool) → or_else (cond (b && true) (kind.ArgumentConflict ∷ []) []) [] ≡ cond b (kind.ArgumentConflict ∷ []) []
      go true = refl
      go false = refl

  use_rows : (slot : Slot) (id text : Word) (rows : List Row) (given : Given) → slot.id ≡ id → rows ≡ rows_for given → is_given given id ≡ false
      → used_by_id (Some (slot_rule slot)) (text ∷ []) rows ≡ rows_for (given ++ (id, text) ∷ [])
  use_rows slot id text rows given is same none =
      ap (λ (id : Word). with_values id AsWritten CommandLine (text ∷ []) (without id rows)) is
      ∙ ap (λ rows. with_values id AsWritten CommandLine (text ∷ []) (without id rows)) same ∙ new_row id text given none

  found_by : (id : Word) (found : HasId slots id) → arg_by_id c id ≡ Some (slot_rule found.0)
  found_by id found = by_id slots id ∙ ap (option_map slot_rule) found.1

  kept_faults : (h : Held) (rows : List Row) (id text : Word) (given : Given) → HasId slots id → rows ≡ rows_for given
      → settle_fault c false (kept h rows id text) ≡ cond (is_given given id) (kind.ArgumentConflict ∷ []) []
  kept_faults h rows id text given found same =
      ap (λ o. option_map_or (λ a. use_fault false a (text ∷ []) rows) o []) (found_by id found)
      ∙ use_faults found.0 id text rows given found.2 same

  kept_rows : (h : Held) (rows : List Row) (id text : Word) (given : Given) → HasId slots id → rows ≡ rows_for given → is_given given id ≡ false
      → settled_rows c (Some (id, text ∷ [])) rows ≡ rows_for (given ++ (id, text) ∷ [])
  kept_rows h rows id text given found same none =
      ap (λ o. used_by_id o (text ∷ []) rows) (found_by id found) ∙ use_rows found.0 id text rows given found.2 same none

  -- a value for an argument: where it is the second the walk is to fail, and else it goes on
  after_kept : (h : Held) (rows : List Row) (id text : Word) (place : ℕ) (is_trailing : Bool) (given : Given) (rest : List Word) (read : Given → Option Given)
      → Undashed rest → HasId slots id → rows ≡ rows_for given
      → ((h : Held) (given : Given) → Settles h given → outcome (stands h idle place is_trailing) rest ≡ as_rows (read given))
      → outcome (stands (kept h rows id text) idle place is_trailing) rest ≡ as_rows (option_and_then read (with_value id text given))
  after_kept h rows id text place is_trailing given rest read ok found same goes = go (is_given given id) refl
    where
      go : (b : Bool) → is_given given id ≡ b → outcome (stands (kept h rows id text) idle place is_trailing) rest
          ≡ as_rows (option_and_then read (cond (is_given given id) None (Some (given ++ (id, text) ∷ []))))
      go true e =
          doomed (kept h rows id text) place is_trailing rest ok
          (ap fails (kept_faults h rows id text given found same) ∙ ap (λ b. fails (cond b (kind.ArgumentConflict ∷ []) [])) e)
          ∙ sym (ap (λ b. as_rows (option_and_then read (cond b None (Some (given ++ (id, text) ∷ []))))) e)
      go false e =
          goes (kept h rows id text) (given ++ (id, text) ∷ [])
          (kept_rows h rows id text given found same e, kept_faults h rows id text given found same ∙ ap (λ b. cond b (kind.ArgumentConflict ∷ []) []) e)
          ∙ sym (ap (λ b. as_rows (option_and_then read (cond b None (Some (given ++ (id, text) ∷ []))))) e)

  -- ---- one word

  -- the rest is read as we read it, from each state
  abbrev AgreesAny : List Word → Type 0
  AgreesAny words = (h : Held) (place : ℕ) (left : List Word) (given : Given) → Left slots place left → Settles h given
      → outcome (stands h idle place false) words ≡ as_rows (read_from form words anything left given)

  abbrev AgreesAwaited : List Word → Type 0
  AgreesAwaited words = (h : Held) (name : Word) (place : ℕ) (left : List Word) (given : Given) → Left slots place left → HasId slots name → h.rows ≡ rows_for given
      → outcome (stands (record h { pending = Some (name, []) }) (option name) place false) words ≡ as_rows (read_from form words (value_for name) left given)

  abbrev AgreesTrailing : List Word → Type 0
  AgreesTrailing words = (h : Held) (waiting : Waiting) (place : ℕ) (left : List Word) (given : Given) → Left slots place left → Settles h given
      → outcome (stands h waiting place true) words ≡ as_rows (read_from form words positionals_only left given)

  abbrev Agrees : List Word → Type 0
  Agrees words = AgreesAny words × AgreesAwaited words × AgreesTrailing words

  -- a word that goes to a positional
  positional_turn : (h : Held) (waiting : Waiting) (place : ℕ) (is_trailing : Bool) (left : List Word) (given : Given) (word : Word) (rest : List Word)
      (read : List Word → Given → Option Given) → Undashed rest → Left slots place left → Settles h given
      → ((h : Held) (place : ℕ) (left : List Word) (given : Given) → Left slots place left → Settles h given
      → outcome (stands h idle place is_trailing) rest ≡ as_rows (read left given))
      → taken [] (h, value) (stands h waiting place is_trailing) word rest ≡ as_rows (after_positional left word given read)
  positional_turn h waiting place is_trailing [] given word rest read ok none holds goes =
      ap (λ found. unless (option_map_or (λ a. positional_fault c false a h) found (stray_fault shape))
      (outcome (to_positional c found word (stands h waiting place is_trailing) h) rest)) (by_place slots place ∙ ap (option_map slot_rule) none)
  positional_turn h waiting place is_trailing (name ∷ left) given word rest read ok here holds goes =
      let slot = positional_slot name place in
      let after : Held = kept h (settled_rows c h.pending h.rows) name word in
      ap (λ found. unless (option_map_or (λ a. positional_fault c false a h) found (stray_fault shape))
      (outcome (to_positional c found word (stands h waiting place is_trailing) h) rest)) (by_place slots place ∙ ap (option_map slot_rule) here.0)
      ∙ ap (λ b. unless (cond b [] (settle_fault c false h))
      (outcome (stands (pushed name word (cond b h (settled c h))) idle (min (place + 1) usize_max) (is_trailing || false)) rest)) (and_false (is_pending (slot_rule slot) h.pending))
      ∙ ap (λ t. unless t (outcome (stands after idle (min (place + 1) usize_max) (is_trailing || false)) rest)) holds.1
      ∙ ap (λ b. outcome (stands after idle (min (place + 1) usize_max) b) rest) (go is_trailing)
      ∙ after_kept h (settled_rows c h.pending h.rows) name word (min (place + 1) usize_max) is_trailing given rest (read left) ok
      (has_id (has_place place) slots slot here.0) holds.0 (λ h given holds. goes h (min (place + 1) usize_max) left given here.1 holds)
    where
      go : (b : Bool) → (b || false) ≡ b
      go true = refl
      go false = refl

  -- an option with its value in the same word
  text_turn : (h : Held) (place : ℕ) (left : List Word) (given : Given) (rest : List Word) (named : OptionForm) (text : Word)
      → AgreesAny rest → Left slots place left → Settles h given → (b : Bool) → is_given given named.name ≡ b
      → unless (or_else (cond (is_given given named.name) (kind.ArgumentConflict ∷ []) []) [])
      (outcome (stands (reacted c (slot_rule (option_slot named)) (text ∷ []) h) idle place false) rest)
      ≡ as_rows (option_and_then (read_from form rest anything left) (cond (is_given given named.name) None (Some (given ++ (named.name, text) ∷ []))))
  text_turn h place left given rest named text agrees fits holds true e =
      ap (λ b. unless (or_else (cond b (kind.ArgumentConflict ∷ []) []) [])
      (outcome (stands (reacted c (slot_rule (option_slot named)) (text ∷ []) h) idle place false) rest)) e
      ∙ sym (ap (λ b. as_rows (option_and_then (read_from form rest anything left) (cond b None (Some (given ++ (named.name, text) ∷ []))))) e)
  text_turn h place left given rest named text agrees fits holds false e =
      ap (λ b. unless (or_else (cond b (kind.ArgumentConflict ∷ []) []) [])
      (outcome (stands (reacted c (slot_rule (option_slot named)) (text ∷ []) h) idle place false) rest)) e
      ∙ agrees (reacted c (slot_rule (option_slot named)) (text ∷ []) h) place left (given ++ (named.name, text) ∷ []) fits
      (use_rows (option_slot named) named.name text (settled_rows c h.pending h.rows) given refl holds.0 e, refl)
      ∙ sym (ap (λ b. as_rows (option_and_then (read_from form rest anything left) (cond b None (Some (given ++ (named.name, text) ∷ []))))) e)

  -- an option, with its value in the same word or without one
  option_turn : (h : Held) (place : ℕ) (left : List Word) (given : Given) (word : Word) (rest : List Word) (name : Word) (text : Option Word)
      → Agrees rest → Left slots place left → Settles h given
      → long_taken h idle place word rest text (option_map slot_rule (find (has_option_name name) slots))
      ≡ as_rows (after_option (option_named name form.options) text given (λ awaited. read_from form rest awaited left))
  option_turn h place left given word rest name text agrees fits holds =
      ap (λ o. long_taken h idle place word rest text (option_map slot_rule o)) (option_found form name) ∙ go (option_named name form.options) refl text
    where
      go : (o : Option OptionForm) → option_named name form.options ≡ o → (text : Option Word)
          → long_taken h idle place word rest text (option_map slot_rule (option_map option_slot o))
          ≡ as_rows (after_option o text given (λ awaited. read_from form rest awaited left))
      go None found text = refl
      go (Some named) found None =
          let by_name = has_id (has_option_name name) slots (option_slot named) (option_found form name ∙ ap (option_map option_slot) found) in
          ap (λ t. unless (or_else t []) (outcome (stands (record h { rows = settled_rows c h.pending h.rows; pending = Some (named.name, []) })
          (option named.name) place false) rest)) holds.1
          ∙ agrees.1 (settled c h) named.name place left given fits by_name holds.0
      go (Some named) found (Some v) =
          let rows = settled_rows c h.pending h.rows in
          let after : Held = reacted c (slot_rule (option_slot named)) (v ∷ []) h in
          ap (λ t. unless (or_else (or_else t (use_fault false (slot_rule (option_slot named)) (v ∷ []) rows)) []) (outcome (stands after idle place false) rest)) holds.1
          ∙ ap (λ t. unless (or_else t []) (outcome (stands after idle place false) rest)) (use_faults (option_slot named) named.name v rows given refl holds.0)
          ∙ text_turn h place left given rest named v agrees.0 fits holds (is_given given named.name) refl

  any_more : (word : Word) (rest : List Word) → Undashed (word ∷ rest) → Agrees rest → AgreesAny (word ∷ rest)
  unfolding read_from
  any_more word rest ok agrees h place left given fits holds = go (written word) (lexes word (first_undashed word rest ok))
    where
      go : (kind : Written) → Lexes kind word
          → outcome (stands h idle place false) (word ∷ rest) ≡ as_rows (after_any form kind left word given (read_from form rest))
      go dashes e = meets_dashes h idle place word rest e ∙ agrees.2 h idle place left given fits holds
      go (long name text) e =
          meets_long h idle place word rest name text e.0 e.1 ∙ option_turn h place left given word rest name text agrees fits holds
      go undashed e =
          meets_plain h idle place word rest e.0 e.1 e.2
          ∙ positional_turn h idle place false left given word rest (read_from form rest anything) (rest_undashed word rest ok) fits holds agrees.0

  trailing_more : (word : Word) (rest : List Word) → Undashed (word ∷ rest) → Agrees rest → AgreesTrailing (word ∷ rest)
  unfolding read_from
  trailing_more word rest ok agrees h waiting place left given fits holds =
      one_more h waiting place true word rest
      ∙ positional_turn h waiting place true left given word rest (read_from form rest positionals_only) (rest_undashed word rest ok) fits holds
      (λ h place left given fits holds. agrees.2 h idle place left given fits holds)

  -- an option without a value fails where the word begins with a dash, and at the end
  bare_fails : (h : Held) (name : Word) → HasId slots name → Doomed (record h { pending = Some (name, []) })
  bare_fails h name found = ap (λ o. fails (option_map_or (λ a. use_fault false a [] h.rows) o [])) (found_by name found)

  awaited_more : (word : Word) (rest : List Word) → Undashed (word ∷ rest) → Agrees rest → AgreesAwaited (word ∷ rest)
  unfolding read_from
  awaited_more word rest ok agrees h name place left given fits found same = go (written word) (lexes word (first_undashed word rest ok))
    where
      go : (kind : Written) → Lexes kind word → outcome (stands (record h { pending = Some (name, []) }) (option name) place false) (word ∷ rest)
          ≡ as_rows (after_awaited name kind word given (read_from form rest anything left))
      go dashes e =
          meets_dashes (record h { pending = Some (name, []) }) (option name) place word rest e
          ∙ trailing_doomed (record h { pending = Some (name, []) }) (option name) place rest (bare_fails h name found)
      go (long other text) e =
          long_doomed (record h { pending = Some (name, []) }) (option name) place word rest other text e.0 e.1 (bare_fails h name found)
      go undashed e =
          let bare : Held = record h { pending = Some (name, []) } in
          meets_plain bare (option name) place word rest e.0 e.1 e.2
          ∙ ap (λ o. taken [] ((option_word o name word bare).0, next (option_word o name word bare).1) (stands bare (option name) place false) word rest) (found_by name found)
          ∙ ap (λ b. outcome (stands (kept h h.rows name word) (cond (nat_lt (cond b 1 0) 1) (option name) idle) place false) rest)
          ((bytes_eq-Decides name found.0.id).1 (sym found.2))
          ∙ after_kept h h.rows name word place false given rest (read_from form rest anything left) (rest_undashed word rest ok) found same
          (λ h given holds. agrees.0 h place left given fits holds)

  -- ---- no word is left

  any_end : (h : Held) (given : Given) → Settles h given → unless (end_fault h) (Some (finished c h)) ≡ as_rows (Some given)
  any_end h given holds =
      ap (λ t. unless (or_else t (or_else (defaults_fault (settled c h).rows c) (check_fault shape (finished c h) false))) (Some (finished c h))) holds.1
      ∙ ap (λ t. unless (or_else t (check_fault shape (finished c h) false)) (Some (finished c h))) (no_default_fault slots (settled c h).rows)
      ∙ ap (λ (rows : List Row). unless (check_fault shape rows false) (Some rows)) (no_default_rows slots (settled c h).rows ∙ holds.0)
      ∙ ap (λ b. unless (check_kinds false false b) (Some (rows_for given))) (lacks_some form given) ∙ go (is_whole form given)
    where
      go : (b : Bool) → unless (check_kinds false false (not b)) (Some (rows_for given)) ≡ option_map rows_for (cond b (Some given) None)
      go true = refl
      go false = refl

  agrees_at_end : Agrees []
  unfolding read_from walk_fault
  agrees_at_end = (
    λ h place left given fits holds. any_end h given holds,
    λ h name place left given fits found same. doomed_end (record h { pending = Some (name, []) }) (option name) place false (bare_fails h name found),
    λ h waiting place left given fits holds. any_end h given holds,
  )

  agrees : (words : List Word) → Undashed words → Agrees words
  agrees [] ok = agrees_at_end
  agrees (word ∷ rest) ok =
      let next = agrees rest (rest_undashed word rest ok) in
      (any_more word rest ok next, awaited_more word rest ok next, trailing_more word rest ok next)

  -- the parser's rows of a command's words, where it doesn't fail, are our values
  pub leaf_agrees : (words : List Word) → Undashed words → Left slots 1 form.positionals
      → unless (level_fault shape [] nothing_held words false []) (Some (rows_at shape words).1) ≡ option_map rows_for (given_values form words)
  leaf_agrees words ok fits = (agrees words ok).0 nothing_held 1 form.positionals [] fits (refl, refl)
