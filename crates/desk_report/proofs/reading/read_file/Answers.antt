-- The input is the lines of the records, or it is damaged where its lines are.
use Rattle.std.proofs.Common.{inl, subst, Global, Vec}
use Rattle.desk_edge.specs.declared.record.Record.{Record}
use Rattle.desk_report.specs.Reading.{HasBadLine}
use Rattle.desk_report.proofs.Readings.{all_read, read_bad, read_good, same_line}
use Rattle.desk_report.proofs.reading.read_file.Goals as goal

pub returns-in-Ok-Good-clause-file : goal.returns-in-Ok-Good-clause-file
returns-in-Ok-Good-clause-file g c =
    let (bytes, given, at_end, within, are) = c.in-Ok-Good.ensures.lines in
    all_read (λ (v : Vec Record Global). v.items) c.into_records.result _ _ bytes c.in-Ok-Good.good given at_end within
    (read_good bytes c.in-Ok-Good.field-0 c.in-Ok-Good.good c.in-Ok-Good.field-0-is are) c.into_records.ensures.records

pub returns-in-Ok-Good-clause-damaged : goal.returns-in-Ok-Good-clause-damaged
returns-in-Ok-Good-clause-damaged g c = λ line e.
    let (bytes, given, at_end, within, are) = c.in-Ok-Good.ensures.lines in
    (bytes, given, at_end, within, c.into_records.ensures.damaged line e bytes (read_good bytes c.in-Ok-Good.field-0 c.in-Ok-Good.good c.in-Ok-Good.field-0-is are))

pub returns-in-Ok-Bad-clause-damaged : goal.returns-in-Ok-Bad-clause-damaged
returns-in-Ok-Bad-clause-damaged g c = λ line e.
    let (bytes, given, at_end, within, are) = c.in-Ok-Bad.ensures.lines in
    (bytes, given, at_end, within, inl (subst (HasBadLine bytes) (same_line c.in-Ok-Bad.line line e) (read_bad bytes c.in-Ok-Bad.field-0 c.in-Ok-Bad.line c.in-Ok-Bad.field-0-is are)))
