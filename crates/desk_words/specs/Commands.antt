-- Which command the program's words are.
use Rattle.std.specs.Prelude.{ℕ, ◌^◌, ◌≤◌, ◌≡◌, if◌then◌else◌, ◌&&◌, Bool, true, false, nat_le, List, [], ◌∷◌, codes, length}
use Rattle.std.specs.Prelude.{IfSome, Option, None, Some, option_and_then, option_map, unwrap_or, Result}
use Rattle.std.specs.List.{list_any}
use Rattle.std.specs.Option.{ok_or}
use Rattle.std.specs.Result.{result_ok}
use Rattle.std.specs.Str.{bytes_eq}
use Rattle.desk_text.specs.Day.{Date, is_askable}
use Rattle.desk_text.specs.Forms.{an_askable_day}
use Rattle.desk_text.specs.Number.{number_below}
use Rattle.desk_law.specs.declared.kind.Kind.{Kind}
use Rattle.desk_law.specs.Kind.{kind_of}
use Rattle.desk_words.specs.Forms.{Word, has_one_dash, command_line_of, value_in}
use Rattle.desk_words.specs.Table.{forms}
use Rattle.desk_words.specs.declared.command.Audit.{Audit}
use Rattle.desk_law.specs.declared.kind_on_day.KindOnDay.{KindOnDay}
use Rattle.desk_words.specs.declared.command.Command.{Command}
use Rattle.desk_words.specs.declared.command.Command.TheVariants as asked
use Rattle.desk_words.specs.declared.command.Export.{Export}
use Rattle.desk_words.specs.declared.command.Import.{Import}
use Rattle.desk_words.specs.declared.command.Sample.{Sample}
use Rattle.desk_words.specs.declared.command.Serve.{Serve}
use Rattle.desk_words.specs.declared.command.Session.{Session}
use Rattle.desk_words.specs.declared.command_fault.CommandFault.{CommandFault}
use Rattle.desk_words.specs.declared.command_fault.CommandFault.TheVariants.{NoCommand}

-- ---- what a value is read as

-- the most bytes in the name of a store
abbrev pub store_name_limit : ℕ
store_name_limit = 200

-- a store's name has at least one byte, and not too many
abbrev pub is_store_name : Word → Bool
is_store_name [] = false
is_store_name (byte ∷ bytes) = nat_le (length (byte ∷ bytes)) store_name_limit

-- the name of a store that a word is
abbrev pub store_name_of : Word → Option Word
store_name_of name = if is_store_name name then Some name else None

-- the number from 1 up to a limit that decimal digits write, with no zero before another digit
abbrev pub number_up_to : ℕ → Word → Option ℕ
number_up_to limit word =
    option_and_then (λ n. if nat_le 1 n && nat_le n limit then Some n else None) (result_ok (number_below (2 ^ 32) word))

-- the largest sample
abbrev pub sample_limit : ℕ
sample_limit = 2000

-- the largest number of a port
abbrev pub port_limit : ℕ
port_limit = 65535

-- the most connections that are served at once, and how many are unless the words say otherwise
abbrev pub seat_limit : ℕ
seat_limit = 8

abbrev pub usual_seats : ℕ
usual_seats = 4

-- the greatest number of connections after which serving ends
abbrev pub connection_limit : ℕ
connection_limit = 1000000

-- ---- the commands, by the values of their names

-- the value of a name, read
abbrev pub read_by : {T : Type 0} → (Word → Option T) → Option Word → Option T
read_by read text = option_and_then read text

-- the value of a name that needn't be there, read
abbrev pub optional_by : {T : Type 0} → (Word → Option T) → Option Word → Option (Option T)
optional_by read None = Some None
optional_by read (Some text) = option_map Some (read text)

abbrev pub check_with : Option Date → Option Kind → Option KindOnDay
check_with (Some day) (Some kind) = Some (record { day = day; kind = kind })
check_with (Some day) None = None
check_with None kind = None

-- the check: a day and a kind
abbrev pub check_of : (Word → Option Word) → Option KindOnDay
check_of text = check_with (read_by an_askable_day (text (codes "DAY"))) (read_by kind_of (text (codes "KIND")))

-- the session: the name of its store, where it has one
abbrev pub session_of : (Word → Option Word) → Option Session
session_of text = option_map (λ store. record { store = store }) (optional_by store_name_of (text (codes "store")))

abbrev pub serve_with : Option ℕ → Option (Option ℕ) → Option (Option ℕ) → Option (Option Word) → Option Serve
serve_with (Some port) (Some seats) (Some connections) (Some store) =
    Some (record { port = port; seats = unwrap_or seats usual_seats; connections = connections; store = store })
serve_with (Some port) (Some seats) (Some connections) None = None
serve_with (Some port) (Some seats) None store = None
serve_with (Some port) None connections store = None
serve_with None seats connections store = None

-- the serving: a port, how many connections at once, after how many it ends, and the name of its store, where it has them
unfoldable pub serve_of : (Word → Option Word) → Option Serve
serve_of text = serve_with (read_by (number_up_to port_limit) (text (codes "port"))) (optional_by (number_up_to seat_limit) (text (codes "seats")))
    (optional_by (number_up_to connection_limit) (text (codes "connections"))) (optional_by store_name_of (text (codes "store")))

-- the export: the name of its store
abbrev pub export_of : (Word → Option Word) → Option Export
export_of text = option_map (λ name. record { store = name }) (read_by store_name_of (text (codes "store")))

-- the import: the name of its store
abbrev pub import_of : (Word → Option Word) → Option Import
import_of text = option_map (λ name. record { store = name }) (read_by store_name_of (text (codes "store")))

abbrev pub audit_with : Option Date → Option Word → Option Audit
audit_with (Some day) (Some name) = Some (record { day = day; store = name })
audit_with (Some day) None = None
audit_with None name = None

-- the audit: a day and the name of its store
abbrev pub audit_of : (Word → Option Word) → Option Audit
audit_of text = audit_with (read_by an_askable_day (text (codes "DAY"))) (read_by store_name_of (text (codes "store")))

-- the sample: its size
abbrev pub sample_of : (Word → Option Word) → Option Sample
sample_of text = option_map (λ size. record { size = size }) (read_by (number_up_to sample_limit) (text (codes "N")))

-- the command of this name, by the values of its positionals and options
abbrev pub command_named : Word → (Word → Option Word) → Option Command
command_named name text =
    if bytes_eq name (codes "check") then option_map asked.Check (check_of text)
    else if bytes_eq name (codes "session") then option_map asked.Session (session_of text)
    else if bytes_eq name (codes "serve") then option_map asked.Serve (serve_of text)
    else if bytes_eq name (codes "export") then option_map asked.Export (export_of text)
    else if bytes_eq name (codes "import") then option_map asked.Import (import_of text)
    else if bytes_eq name (codes "audit") then option_map asked.Audit (audit_of text)
    else if bytes_eq name (codes "sample") then option_map asked.Sample (sample_of text)
    else None

-- the command that the words are: none of them begins with one dash alone, the first is a command's name, the others fit its form,
-- and each value is of its own form
unfoldable pub command_of : List Word → Option Command
command_of words = if list_any has_one_dash words then None
    else option_and_then (λ line. command_named line.0 (value_in line.1)) (command_line_of forms words)

-- the answer, where there is memory
abbrev pub command_answer : List Word → Result Command CommandFault
command_answer words = ok_or (command_of words) NoCommand

-- ---- what holds of each command

-- the number is from 1 up to the limit
abbrev pub IsUpTo : ℕ → ℕ → Type 0
IsUpTo limit n = (1 ≤ n) × (n ≤ limit)

-- the numbers and the name of a serving are within their bounds
abbrev pub HasServeBounds : Serve → Type 0
HasServeBounds serve = IsUpTo port_limit serve.port × IsUpTo seat_limit serve.seats × IfSome serve.connections (IsUpTo connection_limit)
    × IfSome serve.store (λ name. is_store_name name ≡ true)

-- days may be asked about, names of stores and numbers are within their bounds
abbrev pub HasBounds : Command → Type 0
HasBounds (asked.Check check) = is_askable check.day ≡ true
HasBounds (asked.Session session) = IfSome session.store (λ name. is_store_name name ≡ true)
HasBounds (asked.Serve serve) = HasServeBounds serve
HasBounds (asked.Export export) = is_store_name export.store ≡ true
HasBounds (asked.Import import) = is_store_name import.store ≡ true
HasBounds (asked.Audit audit) = (is_askable audit.day ≡ true) × (is_store_name audit.store ≡ true)
HasBounds (asked.Sample sample) = (1 ≤ sample.size) × (sample.size ≤ sample_limit)
