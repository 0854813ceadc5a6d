-- The lines one after another.
use Rattle.std.proofs.Common.{◌∙◌, refl}
use Rattle.desk_scratch.specs.Reach7.{reach7_text}
use Rattle.desk_scratch.proofs.reach7.reach7_text.Goals as goal

pub returns : goal.returns
unfolding reach7_text
returns g c =
    c.from.ensures ∙ rw c.into_bytes.ensures.value refl ∙ c.in_ok-push_notice_count_line.ensures
    ∙ rw (c.in_ok-count.ensures.lines, c.in_ok-count.ensures.count, c.in_ok-push_asked_year_line.ensures, c.in_ok-push_version_line.ensures, c.tables-tables.ensures.lists, c.into_string-text.ensures) refl
