use Rattle.std.proofs.Common.{false, [], subst, sym}
use Rattle.std.specs.Prelude.{◌≡◌, ◌==◌}
use Rattle.std.specs.List.{All}
use Rattle.std.proofs.lemmas.List.Elements.{All-nil}
use Rattle.desk_edge.specs.Content.{key_cmp, key_of}
use Rattle.desk_edge.proofs.Keys.{key_order}
use Rattle.desk_records.specs.Damage.{AreTablesOf}
use Rattle.desk_records.proofs.Gatherings.{no_tables}
use Rattle.desk_rows.specs.Rows.{IsByKey}
use Rattle.desk_rows.proofs.Order.{none_by_key}
use Rattle.desk_report.proofs.good_lines.GoodLines.start.Goals as goal

pub invariant_of-result : goal.invariant_of-result
invariant_of-result c = (
  subst (IsByKey key_of key_cmp) (sym c.new.ensures.items) (none_by_key key_of key_cmp key_order),
  subst (λ records. AreTablesOf records c.new-2.result) (sym c.new.ensures.items) (subst (AreTablesOf []) (sym c.new-2.ensures) no_tables),
  subst (All (λ b. (b == 10) ≡ false)) (sym c.start.ensures) (All-nil (λ b. (b == 10) ≡ false)),
)
