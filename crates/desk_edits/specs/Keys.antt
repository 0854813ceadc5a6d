-- The keys of edits, as JSON spells them.
use Rattle.std.specs.Prelude.{ℕ, List, codes}
use Rattle.desk_edits.specs.declared.edit_key.EditKey.{EditKey}
use Rattle.desk_edits.specs.declared.edit_key.EditKey.TheVariants as key

-- the key whose value is the edit's word
abbrev pub word_key : List ℕ
word_key = codes "edit"

-- any other key, as an object spells it
unfoldable pub key_name : EditKey → List ℕ
key_name key.Ticket = codes "ticket"
key_name key.Code = codes "code"
key_name key.Name = codes "name"
key_name key.Cas = codes "cas"
key_name key.Substance = codes "substance"
key_name key.Rule = codes "rule"
key_name key.Factor = codes "factor"
key_name key.Kind = codes "kind"
key_name key.Parent = codes "parent"
key_name key.Child = codes "child"
key_name key.Count = codes "count"
key_name key.Part = codes "part"
key_name key.Row = codes "row"
key_name key.Annex = codes "annex"
key_name key.Number = codes "number"
key_name key.Kinds = codes "kinds"
key_name key.Application = codes "application"
key_name key.From = codes "from"
key_name key.Until = codes "until"
key_name key.Floor = codes "floor"
key_name key.Cap = codes "cap"
key_name key.Day = codes "day"
key_name key.Product = codes "product"
key_name key.Year = codes "year"
key_name key.Units = codes "units"
