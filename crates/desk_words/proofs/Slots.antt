-- The rules of a command whose arguments take one value each, and what is found among them.
use Rattle.std.proofs.Common.{◌≡◌, ◌∙◌, ◌+◌, ◌&&◌, ◌||◌, ◌==◌, ℕ, Bool, cond, true, false, not, refl, sym, ap, min, true≢false, List, [], ◌∷◌, ◌++◌, map, find, append-nil, Option, None, Some, option_map, is_some, bytes_eq}
use Rattle.std.specs.List.{fold, list_all, list_any}
use Rattle.std.specs.Option.{option_map_or}
use Rattle.std.proofs.lemmas.List.{map-append}
use Rattle.std.proofs.lemmas.Slice.Eq.{bytes_eq-Decides}
use Rattle.clap.specs.Facts.{explicit_source}
use Rattle.clap.specs.Faults.{defaults_fault, given_default_fault}
use Rattle.clap.specs.Kinds.{or_else}
use Rattle.clap.specs.Lexer.{usize_max}
use Rattle.clap.specs.Simple.{Shape, new_shape}
use Rattle.clap.specs.Takes.{is_given as is_used}
use Rattle.clap.specs.Walk.{Row, Rule, arg_by_id, arg_by_index, arg_by_long, at_row, has_long, has_row, with_default, with_values, without, more_values}
use Rattle.clap.specs.declared.builder.action.ArgAction.TheVariants.{Set}
use Rattle.clap.specs.declared.builder.value_parser.Reading.TheVariants.{AsWritten}
use Rattle.clap.specs.declared.builder.value_parser.ValueParser.TheVariants as vp
use Rattle.clap.specs.declared.parser.matches.ValueSource.TheVariants.{CommandLine}
use Rattle.clap.proofs.WalkLemmas.{find-map, list_any-map}
use Rattle.desk_words.specs.Forms.{Form, Given, OptionForm, Word, is_given, is_whole, option_named}
use Rattle.desk_words.specs.Parsed.{row_for, rows_for}

-- an argument that takes one value: an option by its long name, a positional by its place
pub record Slot : Type 0 where
  pub id : Word
  pub long : Option Word
  pub place : Option ℕ
  pub required : Bool

-- the parser's rule for it, once the command is built
abbrev pub slot_rule : Slot → Rule
slot_rule slot = record {
  id = slot.id;
  long = slot.long;
  aliases = [];
  short = None;
  short_aliases = [];
  index = slot.place;
  action = Some Set;
  range = Some (record { start_inclusive = 1; end_inclusive = 1 });
  value_names = 0;
  defaults = [];
  missing = [];
  trailing_var_arg = false;
  parser = Some vp.String;
  ignore_case = false;
  required = slot.required;
  is_simple = true;
  is_free = true;
}

abbrev pub slot_rules : List Slot → List Rule
slot_rules slots = map slot_rule slots

-- a built command
abbrev pub leaf : Word → List Slot → Shape
leaf name slots = record (new_shape name) {
  rules = slot_rules slots;
  no_binary_name = true;
  disable_help_flag = true;
  disable_help_subcommand = true;
  is_built = true;
}

abbrev pub positional_slot : Word → ℕ → Slot
positional_slot name place = record { id = name; long = None; place = Some place; required = true }

abbrev pub positional_slots : ℕ → List Word → List Slot
positional_slots place [] = []
positional_slots place (name ∷ names) = positional_slot name place ∷ positional_slots (place + 1) names

abbrev pub option_slot : OptionForm → Slot
option_slot option = record { id = option.name; long = Some option.name; place = None; required = option.required }

abbrev pub form_slots : Form → List Slot
form_slots form = positional_slots 1 form.positionals ++ map option_slot form.options

-- ---- tests

pub and_false : (b : Bool) → (b && false) ≡ false
and_false true = refl
and_false false = refl

pub and_true : (b : Bool) → (b && true) ≡ b
and_true true = refl
and_true false = refl

pub or_false : (b : Bool) → (b || false) ≡ b
or_false true = refl
or_false false = refl

or_true : (b : Bool) → (b || true) ≡ true
or_true true = refl
or_true false = refl

same_either_way : {X : Type 0} (b : Bool) (x : X) → cond b x x ≡ x
same_either_way true x = refl
same_either_way false x = refl

-- ---- what is found

abbrev pub has_place : ℕ → Slot → Bool
has_place place slot = option_map_or (λ k. k == place) slot.place false

abbrev pub has_option_name : Word → Slot → Bool
has_option_name name slot = not (is_some slot.place) && has_long (slot_rule slot) name

pub by_id : (slots : List Slot) (id : Word) → arg_by_id (slot_rules slots) id ≡ option_map slot_rule (find (λ slot. bytes_eq slot.id id) slots)
by_id slots id = sym (find-map (λ (a : Rule). bytes_eq a.id id) slot_rule slots)

pub by_place : (slots : List Slot) (place : ℕ) → arg_by_index (slot_rules slots) place ≡ option_map slot_rule (find (has_place place) slots)
by_place slots place = sym (find-map (λ (a : Rule). option_map_or (λ k. k == place) a.index false) slot_rule slots)

pub by_long : (slots : List Slot) (name : Word) → arg_by_long (slot_rules slots) name ≡ option_map slot_rule (find (has_option_name name) slots)
by_long slots name = sym (find-map (λ (a : Rule). not (is_some a.index) && has_long a name) slot_rule slots)

-- an argument of this id is found
abbrev pub HasId : List Slot → Word → Type 0
HasId slots id = (slot : Slot) × (find (λ slot. bytes_eq slot.id id) slots ≡ Some slot) × (slot.id ≡ id)

some_is : (a b : Slot) → ◌≡◌ {A = Option Slot} (Some a) (Some b) → a ≡ b
some_is a b e = cc

-- what is found by any test is found by its id
pub has_id : (test : Slot → Bool) (slots : List Slot) (slot : Slot) → find test slots ≡ Some slot → HasId slots slot.id
has_id test [] slot found = absurd (cc)
has_id test (x ∷ xs) slot found = go (has_id test xs slot) (bytes_eq x.id slot.id) refl (test x) refl
  where
    go : (find test xs ≡ Some slot → HasId xs slot.id) → (same : Bool) → bytes_eq x.id slot.id ≡ same → (hit : Bool) → test x ≡ hit → HasId (x ∷ xs) slot.id
    go below true e hit h = (x, ap (λ b. cond b (Some x) (find (λ other. bytes_eq other.id slot.id) xs)) e, (bytes_eq-Decides x.id slot.id).0 e)
    go below false e true h =
        let is : x ≡ slot = some_is x slot (sym (ap (λ b. cond b (Some x) (find test xs)) h) ∙ found) in
        absurd (true≢false (sym ((bytes_eq-Decides x.id slot.id).1 (ap (λ (s : Slot). s.id) is)) ∙ e))
    go below false e false h =
        let rest = below (sym (ap (λ b. cond b (Some x) (find test xs)) h) ∙ found) in
        (rest.0, ap (λ b. cond b (Some x) (find (λ other. bytes_eq other.id slot.id) xs)) e ∙ rest.1, rest.2)

-- the option that a long name finds is the form's
past_positionals : (name : Word) (place : ℕ) (names : List Word) (slots : List Slot)
    → find (has_option_name name) (positional_slots place names ++ slots) ≡ find (has_option_name name) slots
past_positionals name place [] slots = refl
past_positionals name place (first ∷ names) slots = past_positionals name (place + 1) names slots

among_options : (name : Word) (options : List OptionForm)
    → find (has_option_name name) (map option_slot options) ≡ option_map option_slot (option_named name options)
among_options name [] = refl
among_options name (option ∷ options) = go (bytes_eq option.name name) _ _ (among_options name options)
  where
    go : (b : Bool) (rest : Option Slot) (found : Option OptionForm) → rest ≡ option_map option_slot found
        → cond (b || false) (Some (option_slot option)) rest ≡ option_map option_slot (cond b (Some option) found)
    go true rest found e = refl
    go false rest found e = e

pub option_found : (form : Form) (name : Word) → find (has_option_name name) (form_slots form) ≡ option_map option_slot (option_named name form.options)
option_found form name = past_positionals name 1 form.positionals (map option_slot form.options) ∙ among_options name form.options

-- the positionals that are left stand at this place and the next ones
abbrev pub Left : List Slot → ℕ → List Word → Type 0
Left slots place [] = find (has_place place) slots ≡ None
Left slots place (name ∷ names) = (find (has_place place) slots ≡ Some (positional_slot name place)) × Left slots (min (place + 1) usize_max) names

-- ---- rows

pub has_row_for : (id : Word) (given : Given) → has_row id (rows_for given) ≡ is_given given id
has_row_for id given = sym (list_any-map (λ (r : Row). bytes_eq r.id id) row_for given)

no_row_at : (id : Word) (change : Row → List Row) (missing rows : List Row) → has_row id rows ≡ false → at_row id change missing rows ≡ rows ++ missing
no_row_at id change missing [] none = refl
no_row_at id change missing (row ∷ rows) none = go (bytes_eq row.id id) none (no_row_at id change missing rows)
  where
    go : (b : Bool) → (b || has_row id rows) ≡ false → (has_row id rows ≡ false → at_row id change missing rows ≡ rows ++ missing)
        → cond b (change row ++ rows) (row ∷ at_row id change missing rows) ≡ row ∷ (rows ++ missing)
    go true e next = absurd (true≢false e)
    go false e next = ap (λ xs. row ∷ xs) (next e)

-- a first use is a new row at the end
pub new_row : (id text : Word) (given : Given) → is_given given id ≡ false
    → with_values id AsWritten CommandLine (text ∷ []) (without id (rows_for given)) ≡ rows_for (given ++ (id, text) ∷ [])
new_row id text given none =
    let free = has_row_for id given ∙ none in
    ap (λ rows. with_values id AsWritten CommandLine (text ∷ []) rows) (no_row_at id (λ _. []) [] (rows_for given) free ∙ append-nil (rows_for given))
    ∙ no_row_at id (more_values CommandLine (text ∷ [])) (row_for (id, text) ∷ []) (rows_for given) free
    ∙ sym (map-append row_for given ((id, text) ∷ []))

-- ---- the end of a command: nothing has a default

pub no_default_rows : (slots : List Slot) (rows : List Row) → fold with_default rows (slot_rules slots) ≡ rows
no_default_rows [] rows = refl
no_default_rows (slot ∷ slots) rows =
    ap (λ rows. fold with_default rows (slot_rules slots)) (same_either_way (has_row slot.id rows) rows) ∙ no_default_rows slots rows

pub no_default_fault : (slots : List Slot) (rows : List Row) → defaults_fault rows (slot_rules slots) ≡ []
unfolding defaults_fault
no_default_fault [] rows = refl
no_default_fault (slot ∷ slots) rows =
    ap (λ b. or_else (cond b [] (given_default_fault (slot_rule slot) [])) (defaults_fault (with_default rows (slot_rule slot)) (slot_rules slots))) (or_true (has_row slot.id rows))
    ∙ no_default_fault slots (with_default rows (slot_rule slot))

-- ---- the end of a command: what is required is there

pub is_used_for : (id : Word) (given : Given) → is_used id (rows_for given) ≡ is_given given id
is_used_for id [] = refl
is_used_for id (pair ∷ given) = go (bytes_eq pair.0 id) _ _ (is_used_for id given)
  where
    go : (b : Bool) (found : Option Row) (rest : Bool) → option_map_or (λ r. explicit_source r.source) found false ≡ rest
        → option_map_or (λ r. explicit_source r.source) (cond b (Some (row_for pair)) found) false ≡ (b || rest)
    go true found rest e = refl
    go false found rest e = e

abbrev pub lacks : List Row → Rule → Bool
lacks rows a = a.required && not (is_used a.id rows)

lacks_option : (given : Given) (options : List OptionForm) → list_any (lacks (rows_for given)) (slot_rules (map option_slot options))
    ≡ not (list_all (λ option. not option.required || is_given given option.name) options)
lacks_option given [] = refl
lacks_option given (option ∷ options) =
    ap (λ used. option.required && not used || list_any (lacks (rows_for given)) (slot_rules (map option_slot options))) (is_used_for option.name given)
    ∙ go option.required (is_given given option.name) _ _ (lacks_option given options)
  where
    go : (required used rest all : Bool) → rest ≡ not all → (required && not used || rest) ≡ not ((not required || used) && all)
    go true true rest all e = e
    go true false rest all e = refl
    go false used rest all e = e

lacks_positional : (given : Given) (place : ℕ) (names : List Word) (slots : List Slot) (all : Bool) → list_any (lacks (rows_for given)) (slot_rules slots) ≡ not all
    → list_any (lacks (rows_for given)) (slot_rules (positional_slots place names ++ slots)) ≡ not (list_all (λ name. is_given given name) names && all)
lacks_positional given place [] slots all e = e
lacks_positional given place (name ∷ names) slots all e =
    ap (λ used. not used || list_any (lacks (rows_for given)) (slot_rules (positional_slots (place + 1) names ++ slots))) (is_used_for name given)
    ∙ go (is_given given name) (list_all (λ name. is_given given name) names) _ (lacks_positional given (place + 1) names slots all e)
  where
    go : (used others rest : Bool) → rest ≡ not (others && all) → (not used || rest) ≡ not ((used && others) && all)
    go true others rest e = e
    go false others rest e = refl

pub lacks_some : (form : Form) (given : Given) → list_any (lacks (rows_for given)) (slot_rules (form_slots form)) ≡ not (is_whole form given)
lacks_some form given = lacks_positional given 1 form.positionals (map option_slot form.options) _ (lacks_option given form.options)
