use Rattle.std.proofs.Common.{◌∙◌, ◌&&◌, ap, sym, nat_lt, length, false}
use Rattle.desk_model.specs.Lists.{is_part, line_key, line_key_cmp}
use Rattle.desk_model.specs.declared.limits.TheConstants.{LINES_OF_PARENT_LIMIT}
use Rattle.desk_rows.specs.Rows.{with_row}
use Rattle.desk_findings.specs.Reaches.{lines_of}
use Rattle.desk_history.specs.Limits.{has_too_many_lines}
use Rattle.desk_tables.specs.Change.{with_change_made}
use Rattle.desk_tables.proofs.ParentLines.{with_line, without_line}
use Rattle.desk_tables.proofs.tables.Tables.has_too_many_lines_with.Goals as goal

pub returns-in_default : goal.returns-in_default
returns-in_default c = sym (without_line c.args.self.now.lists c.requires c.args.change.now c.in_default.not-PutLine)

pub returns-then-is_part : goal.returns-then-is_part
returns-then-is_part c =
    let t = c.args.self.now.lists in
    let many = nat_lt LINES_OF_PARENT_LIMIT in
    let new = c.in-PutLine.row in
    ap many c.lines_with.ensures
    ∙ sym (ap (λ kept. kept && many (length (lines_of (with_row line_key line_key_cmp new t.lines) new.parent))) (sym c.is_part.ensures ∙ c.if-is_part.true))
    ∙ sym (with_line t c.requires new c.in-PutLine.room)
    ∙ sym (ap (λ change. has_too_many_lines (with_change_made t change)) c.in-PutLine.is)

pub returns-else-is_part : goal.returns-else-is_part
returns-else-is_part c =
    let t = c.args.self.now.lists in
    let many = nat_lt LINES_OF_PARENT_LIMIT in
    let new = c.in-PutLine.row in
    c.if-is_part.false
    ∙ sym (ap (λ kept. kept && many (length (lines_of (with_row line_key line_key_cmp new t.lines) new.parent))) (sym c.is_part.ensures ∙ c.if-is_part.false))
    ∙ sym (with_line t c.requires new c.in-PutLine.room)
    ∙ sym (ap (λ change. has_too_many_lines (with_change_made t change)) c.in-PutLine.is)
