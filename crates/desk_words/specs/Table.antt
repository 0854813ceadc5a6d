-- The commands of the program, each with its positionals and its options.
use Rattle.std.specs.Prelude.{Bool, true, false, List, [], ◌∷◌, codes}
use Rattle.desk_words.specs.Forms.{Form, OptionForm, Word}

-- `--store NAME`
abbrev pub store_option : Bool → OptionForm
store_option required = record { name = codes "store"; required = required }

-- `check DAY KIND`
abbrev pub check_form : Form
check_form = record { name = codes "check"; positionals = codes "DAY" ∷ codes "KIND" ∷ []; options = [] }

-- `session [--store NAME]`
abbrev pub session_form : Form
session_form = record { name = codes "session"; positionals = []; options = store_option false ∷ [] }

-- an option that needn't be there
abbrev pub free_option : Word → OptionForm
free_option name = record { name = name; required = false }

-- `serve --port N [--seats N] [--connections N] [--store NAME]`
abbrev pub serve_form : Form
serve_form = record {
  name = codes "serve";
  positionals = [];
  options = record { name = codes "port"; required = true } ∷ free_option (codes "seats") ∷ free_option (codes "connections") ∷ store_option false ∷ [];
}

-- `export --store NAME`
abbrev pub export_form : Form
export_form = record { name = codes "export"; positionals = []; options = store_option true ∷ [] }

-- `import --store NAME`
abbrev pub import_form : Form
import_form = record { name = codes "import"; positionals = []; options = store_option true ∷ [] }

-- `audit DAY --store NAME`
abbrev pub audit_form : Form
audit_form = record { name = codes "audit"; positionals = codes "DAY" ∷ []; options = store_option true ∷ [] }

-- `sample N`
abbrev pub sample_form : Form
sample_form = record { name = codes "sample"; positionals = codes "N" ∷ []; options = [] }

-- all commands
abbrev pub forms : List Form
forms = check_form ∷ session_form ∷ serve_form ∷ export_form ∷ import_form ∷ audit_form ∷ sample_form ∷ []
