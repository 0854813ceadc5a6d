-- A line that goes in has both its ends among the nodes of the bill, where the tables with it are consistent.
use Rattle.std.proofs.Common.{◌≡◌, true, List, [], ◌∷◌, Ordering, Less, Equal, Greater, refl}
use Rattle.std.specs.Ordering.{match_ordering}
use Rattle.std.specs.List.{AllByRecursion}
use Rattle.desk_rows.specs.Rows.{with_row}
use Rattle.desk_model.specs.declared.rows.line.LineRow.{LineRow}
use Rattle.desk_model.specs.Lists.{Lists, line_key, line_key_cmp}
use Rattle.desk_model.proofs.Elements.{each_from_all}
use Rattle.desk_findings.proofs.Children.{children_kept, parents_kept}
use Rattle.desk_history.specs.Sound.{IsConsistent}
use Rattle.desk_history.proofs.SoundClauses.{right_of}
use Rattle.desk_totals.specs.Linked.{IsLinkedOf, Linked, has_ends_in}
use Rattle.desk_totals.proofs.ForTables.{linked_from_tables}
use Rattle.desk_tables.specs.PutLine.{with_line}

module _ {R K : Type 0} (key : R → K) (cmp : K → K → Ordering) where
  -- what holds of each row with the new one holds of the new one
  of_new : (P : R → Type 0) (new : R) (rows : List R) → AllByRecursion P (with_row key cmp new rows) → P new
  of_new P new [] each = each.0
  of_new P new (row ∷ rows) each =
      elim (cmp (key row) (key new)) as (λ o. AllByRecursion P (match_ordering o (row ∷ with_row key cmp new rows) (new ∷ rows) (new ∷ row ∷ rows)) → P new) [
        | Less ↦ λ more. of_new P new rows more.1
        | Equal ↦ λ more. more.0
        | Greater ↦ λ more. more.0
      ] each

pub ends_of_new : (bill : Linked) (t : Lists) (line : LineRow) → IsLinkedOf bill t → IsConsistent (with_line t line) → has_ends_in bill.nodes line ≡ true
ends_of_new bill t line of consistent =
    let after = with_line t line in
    let linked =
    linked_from_tables (record { nodes = bill.nodes; material_count = bill.material_count; lines = after.lines }) after (record { nodes = of.nodes; material_count = of.material_count; lines = refl })
    consistent.ordered consistent.codes_apart (parents_kept after (right_of after consistent)) (children_kept after (right_of after consistent)) in
    of_new line_key line_key_cmp (λ row. has_ends_in bill.nodes row ≡ true) line t.lines (each_from_all (has_ends_in bill.nodes) after.lines linked.ends)
