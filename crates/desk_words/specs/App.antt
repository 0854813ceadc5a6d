-- The table of commands as `clap` holds it.
use Rattle.std.specs.Prelude.{ℕ, ◌+◌, Bool, true, false, List, [], ◌∷◌, ◌++◌, map, codes, Some}
use Rattle.clap.specs.Walk.{Rule}
use Rattle.clap.specs.Simple.{App, Shape, new_rule, new_shape}
use Rattle.clap.specs.declared.builder.action.ArgAction.TheVariants.{Set}
use Rattle.desk_words.specs.Forms.{Form, Word}
use Rattle.desk_words.specs.Table.{forms}

-- an option, as it is told
abbrev pub option_rule : Word → Bool → Rule
option_rule name required = record (new_rule name) { long = Some name; action = Some Set; required = required }

-- a positional, as it is told, by its place from 1
abbrev pub positional_rule : Word → ℕ → Rule
positional_rule name place = record (new_rule name) { index = Some place; action = Some Set; required = true }

abbrev pub positional_rules : ℕ → List Word → List Rule
positional_rules place [] = []
positional_rules place (name ∷ names) = positional_rule name place ∷ positional_rules (place + 1) names

-- the positionals and then the options
abbrev pub form_rules : Form → List Rule
form_rules form = positional_rules 1 form.positionals ++ map (λ option. option_rule option.name option.required) form.options

abbrev pub form_shape : Form → Shape
form_shape form = record (new_shape form.name) { rules = form_rules form }

-- one command by itself
abbrev pub form_app : Form → App
form_app form = record { top = form_shape form; subs = [] }

-- the program without its commands: none of its words is its own name, it answers no request for help, and a command is required
abbrev pub bare_app : App
bare_app = record {
  top = record (new_shape (codes "desk")) {
    no_binary_name = true;
    disable_help_flag = true;
    disable_help_subcommand = true;
    subcommand_required = true;
  };
  subs = [];
}

-- the program with its commands
abbrev pub desk_app : App
desk_app = record { top = record bare_app.top { is_leaf = false }; subs = map form_shape forms }
