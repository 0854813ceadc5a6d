use Rattle.std.proofs.Common.{◌≡◌, length, take}
use Rattle.desk_sqlite.specs.Content.{AreShown}
use Rattle.desk_sqlite.proofs.find.records_of.Given as goal

abbrev pub invariant-rows : goal.invariant-rows
invariant-rows l = AreShown l.records.items (take l.at l.rows) × (length l.records.items ≡ l.at)
