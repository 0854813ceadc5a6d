-- One line after another.
use Rattle.std.proofs.Common.{sym}
use Rattle.desk_scratch.specs.Summary.{count_lines}
use Rattle.desk_scratch.proofs.Lines.{appended}
use Rattle.desk_scratch.proofs.summary.push_count_lines.Goals as goal

pub returns : goal.returns
unfolding count_lines
returns c =
    rw (sym c.substances.ensures, sym c.members.ensures, sym c.materials.ensures, sym c.parts.ensures, sym c.lines.ensures, sym c.products.ensures, sym c.exemptions.ensures, sym c.candidates.ensures, sym c.shipments.ensures)
    (appended _ _ _ _ _
    (appended _ _ _ _ _
    (appended _ _ _ _ _
    (appended _ _ _ _ _
    (appended _ _ _ _ _
    (appended _ _ _ _ _
    (appended _ _ _ _ _ (appended _ _ _ _ _ c.in_ok-push_count_line.ensures c.in_ok-push_count_line-2.ensures) c.in_ok-push_count_line-3.ensures)
    c.in_ok-push_count_line-4.ensures)
    c.in_ok-push_count_line-5.ensures)
    c.in_ok-push_count_line-6.ensures)
    c.in_ok-push_count_line-7.ensures)
    c.in_ok-push_count_line-8.ensures)
    c.in_ok-push_count_line-9.ensures)
