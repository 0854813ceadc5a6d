-- The lines one after another.
use Rattle.std.proofs.Common.{◌∙◌, refl}
use Rattle.desk_scratch.specs.Summary.{summary_text}
use Rattle.desk_scratch.proofs.summary.summary_text.Goals as goal

pub returns : goal.returns
unfolding summary_text
returns g c =
    c.from.ensures ∙ rw c.into_bytes.ensures.value refl ∙ c.in_ok-push_standings.ensures
    ∙ rw (c.in_ok-push_count_lines.ensures, c.in_ok-push_asked_day_line.ensures, c.in_ok-push_version_line.ensures, c.tables-tables.ensures.lists, c.into_string-text.ensures) refl
