-- Table after table is appended.
use Rattle.std.proofs.Common.{[], ◌∙◌}
use Rattle.desk_model.specs.Rows.{rows_of}
use Rattle.desk_records.specs.Records.{records_of}
use Rattle.desk_records.proofs.RowsRecords.{appended}
use Rattle.desk_records.proofs.table_records.records_of.Goals as goal

pub returns : goal.returns
unfolding rows_of
returns c =
    appended _ _
    (appended _ _
    (appended _ _
    (appended _ _
    (appended _ _
    (appended _ _
    (appended _ _
    (appended _ _
    (appended _ _
    (appended [] _ c.new-records.ensures.items c.in_ok-push_records.ensures)
    c.in_ok-push_records-2.ensures)
    c.in_ok-push_records-3.ensures)
    c.in_ok-push_records-4.ensures)
    c.in_ok-push_records-5.ensures)
    c.in_ok-push_records-6.ensures)
    c.in_ok-push_records-7.ensures)
    c.in_ok-push_records-8.ensures)
    c.in_ok-push_records-9.ensures)
    c.in_ok-push_records-10.ensures
    ∙ (λ i. records_of (record {
      substances = c.substances.ensures i;
      members = c.members.ensures i;
      materials = c.materials.ensures i;
      parts = c.parts.ensures i;
      lines = c.lines.ensures i;
      products = c.products.ensures i;
      exemptions = c.exemptions.ensures i;
      candidates = c.candidates.ensures i;
      shipments = c.shipments.ensures i;
      tickets = c.tickets.ensures i;
    }))
