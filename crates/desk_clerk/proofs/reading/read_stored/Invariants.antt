-- The records so far are the first that the keeper keeps, and what comes after the last is past them all.
use Rattle.std.proofs.Common.{◌≡◌, ◌≤◌, ◌-◌, List, false, length}
use Rattle.desk_edge.specs.Content.{IsSame, is_past, key_cmp, key_of}
use Rattle.desk_edge.specs.declared.key.Key.{Key}
use Rattle.desk_edge.specs.declared.record.Record.{Record}
use Rattle.desk_rows.specs.Rows.{IsByKey}
use Rattle.desk_records.specs.Gathered.{IsGatheredOf}
use Rattle.desk_records.specs.Records.{content_in, is_past_all}
use Rattle.desk_clerk.proofs.reading.read_stored.Given as goal

abbrev pub invariant-reading : goal.invariant-reading
invariant-reading g l = record {
  records : List Record;
  by_key : IsByKey key_of key_cmp records;
  number : l.number ≡ length records;
  within : l.number ≤ l.most;
  made : IsGatheredOf records l.gathered;
  after : (key : Key) → is_past l.after key ≡ is_past_all records key;
  so_far : g.K.Keeper.Tells l.keeper → (key : Key) → is_past_all records key ≡ false → g.K.Keeper.content l.keeper key ≡ content_in records key;
  told : g.K.Keeper.Tells l.keeper → g.K.Keeper.Tells l.fn.keeper;
  stays : g.K.Keeper.Tells l.keeper → IsSame (g.K.Keeper.content l.fn.keeper) (g.K.Keeper.content l.keeper);
  count : g.K.Keeper.faults l.keeper ≡ g.K.Keeper.faults l.fn.keeper;
}

abbrev pub decreases-reading : goal.decreases-reading
decreases-reading g l = l.most - l.number
