-- The three pieces of the line are written in a row, and what was written when one failed is a part of it.
use Rattle.std.proofs.Common.{◌∙◌}
use Rattle.desk_report.proofs.Parts.{on_error}
use Rattle.desk_top.proofs.Numbered.{all_begun, all_written, first_part, part_begun, second_part, third_part}
use Rattle.desk_top.proofs.tell.write_numbered.Goals as goal

pub returns-in_err-write_all-clause-err : goal.returns-in_err-write_all-clause-err
returns-in_err-write_all-clause-err g c = on_error _ _ (first_part _ _ c.args.words.now _ _ c.in_err-write_all.ensures.err)

pub returns-in_err-write_all-2-clause-err : goal.returns-in_err-write_all-2-clause-err
returns-in_err-write_all-2-clause-err g c =
    on_error _ _ (second_part _ _ _ c.args.words.now _ _ c.in_ok-write_all.ensures.ok
    (rw (c.as_bytes.ensures.value ∙ c.format.ensures.text) at c.in_err-write_all-2.ensures.err))

pub returns-in_err-write_all-3-clause-err : goal.returns-in_err-write_all-3-clause-err
returns-in_err-write_all-3-clause-err g c =
    on_error _ _ (third_part _ _ _ _ c.args.words.now _ _ c.in_ok-write_all.ensures.ok
    (rw (c.as_bytes.ensures.value ∙ c.format.ensures.text) at c.in_ok-write_all-2.ensures.ok) c.in_err-write_all-3.ensures.err)

pub returns-in_err-write_all-2-clause-beginning : goal.returns-in_err-write_all-2-clause-beginning
returns-in_err-write_all-2-clause-beginning g c =
    part_begun _ _ _ (second_part _ _ _ c.args.words.now _ _ c.in_ok-write_all.ensures.ok
    (rw (c.as_bytes.ensures.value ∙ c.format.ensures.text) at c.in_err-write_all-2.ensures.err))

pub returns-in_err-write_all-3-clause-beginning : goal.returns-in_err-write_all-3-clause-beginning
returns-in_err-write_all-3-clause-beginning g c =
    part_begun _ _ _ (third_part _ _ _ _ c.args.words.now _ _ c.in_ok-write_all.ensures.ok
    (rw (c.as_bytes.ensures.value ∙ c.format.ensures.text) at c.in_ok-write_all-2.ensures.ok) c.in_err-write_all-3.ensures.err)

pub returns-clause-beginning : goal.returns-clause-beginning
returns-clause-beginning g c =
    all_begun _ _ _ (all_written _ _ _ _ c.args.words.now _ _ c.in_ok-write_all.ensures.ok
    (rw (c.as_bytes.ensures.value ∙ c.format.ensures.text) at c.in_ok-write_all-2.ensures.ok) c.in_ok-write_all-3.ensures.ok)
