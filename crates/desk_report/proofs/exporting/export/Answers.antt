-- The lines of table after table are the file, and what was written when a table failed is a beginning of it.
use Rattle.std.proofs.Common.{◌≡◌, ◌+◌, suc, length, take, drop, refl, sym, ap, ◌∙◌, subst, arith}
use Rattle.std.specs.Io.KnownBytes.{Appends}
use Rattle.std.specs.List.{flat_map}
use Rattle.std.proofs.KnownBytes.{Appends-trans}
use Rattle.desk_edge.specs.Transfer.{AppendsBeginning}
use Rattle.desk_report.specs.File.{table_at, tables_in}
use Rattle.desk_report.specs.Lines.{record_lines, sorted}
use Rattle.desk_report.proofs.Parts.{begun, on_error}
use Rattle.desk_report.proofs.TablesFile.{all_written, distinct_at, few_written, lines_at, lines_more, number_more, written}
use Rattle.desk_report.proofs.exporting.export.Goals as goal

pub write_table-requires : goal.write_table-requires
write_table-requires g c = distinct_at c.args.tables.now.lists c.loop-place.place c.requires.sound c.loop-place-test.true

pub returns-in_err-number-clause-beginning : goal.returns-in_err-number-clause-beginning
returns-in_err-number-clause-beginning g c =
    let (so_far, number, input, count) = c.loop-place.invariant in
    let t = c.args.tables.now.lists in
    let place = c.loop-place.place in
    let front = record_lines (flat_map sorted (take place (tables_in t))) in
    let behind = record_lines (flat_map sorted (drop (suc place) (tables_in t))) in
    on_error _ c.from_residual.result (
      length (written t),
      record_lines (written t),
      record { records = written t; all = all_written t c.requires.sound; lines = refl; number_of = refl },
      subst (AppendsBeginning (g.L.Link.written c.args.link.now) (g.L.Link.written c.write_table.new.link)) (sym (lines_at t place c.loop-place-test.true))
          (begun _ _ _ front (record_lines (sorted (table_at t place))) behind so_far c.in_err-number.ensures.beginning),
    )

pub overflow_add-number : goal.overflow_add-number
overflow_add-number g c =
    let (so_far, number, input, count) = c.loop-place.invariant in
    let few = few_written c.args.tables.now.lists c.loop-place.place c.requires.sound c.loop-place-test.true in
    let more = c.in_ok-number.ensures.number in
    omega (arith, number, few, more)

pub loop-place-preserved : goal.loop-place-preserved
loop-place-preserved g c =
    let (so_far, number, input, count) = c.loop-place.invariant in
    let t = c.args.tables.now.lists in
    let place = c.loop-place.place in
    let inside = c.loop-place-test.true in (
      subst (Appends (g.L.Link.written c.args.link.now) (g.L.Link.written c.write_table.new.link)) (sym (lines_more t place inside))
          (Appends-trans _ _ _ (record_lines (flat_map sorted (take place (tables_in t)))) (record_lines (sorted (table_at t place))) so_far c.in_ok-number.ensures.ok),
      (λ i. number i + c.in_ok-number.ensures.number i) ∙ sym (number_more t place inside),
      c.write_table.ensures.input_stays ∙ input,
      c.in_ok-number.ensures.faults.steady (λ failed. cc) ∙ count,
    )

pub returns-clause-file : goal.returns-clause-file
returns-clause-file g c =
    let (so_far, number, input, count) = c.loop-place.invariant in
    let t = c.args.tables.now.lists in
    let all : c.loop-place.place ≡ 10 = omega (arith, c.loop-place-test.false, c.loop-place.auto.place-end) in
    let whole : flat_map sorted (take c.loop-place.place (tables_in t)) ≡ written t = ap (λ n. flat_map sorted (take n (tables_in t))) all in
    let numbered : c.loop-place.number ≡ length (written t) = number ∙ ap (λ records. length records) whole in (
      record_lines (written t),
      record { records = written t; all = all_written t c.requires.sound; lines = refl; number_of = numbered },
      subst (Appends (g.L.Link.written c.args.link.now) (g.L.Link.written c.loop-place.link)) (ap record_lines whole) so_far,
    )
