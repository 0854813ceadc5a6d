use Rattle.std.proofs.Common.{◌<◌, length, subst, sym}
use Rattle.desk_tables.proofs.SumsTold.{cycle_breaks}
use Rattle.desk_tables.proofs.Telling.{line_named}
use Rattle.desk_tables.proofs.tables.Tables.cycle_fault_at.Goals as goal

pub returns : goal.returns
returns c =
    let t = c.args.self.now.lists in
    let lines = c.lines.result.now in
    let row = c.index-lines-place.result in
    line_named t lines c.args.place row c.fault_at.result c.lines.ensures (subst (λ all. c.args.place < length all) (sym c.lines.ensures) c.requires.0) c.index-lines-place.is
    (cycle_breaks t lines c.args.place row c.lines.ensures c.index-lines-place.is c.requires) c.fault_at.ensures
