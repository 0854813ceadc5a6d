-- The records that were read are put where nothing was kept, so that they are what is kept then.
use Rattle.std.proofs.Common.{◌∙◌, None, ap, sym}
use Rattle.desk_edge.specs.Content.{body_after_all}
use Rattle.desk_records.proofs.PutIn.{apart_by_key, puts}
use Rattle.desk_report.proofs.importing.import.Goals as goal

pub returns-clause-file : goal.returns-clause-file
returns-clause-file g c =
    let (t, sound, same) = c.in-Ok.ensures.sound in
    let file = c.in-Ok.ensures.file in
    let records = c.in-Ok.records.items in (
      file.bytes,
      file.given,
      file.at_end,
      file.within,
      t,
      sound,
      record {
        records = records;
        all = record { by_key = file.by_key; same = λ key. sym (same key) };
        lines = file.lines;
        number_of = c.len-number.ensures ∙ c.in-Ok.records.ok.0;
      },
      λ tells key.
          c.in_ok-commit.ensures.ok tells key
          ∙ ap (body_after_all c.as_slice.result.now key) (c.in_ok-is_empty.ensures.yes c.if-not-branch.false (c.commit.ensures.told tells) key)
          ∙ ap (λ batch. body_after_all batch key None) (c.as_slice.ensures.value ∙ c.in_ok-changes.ensures)
          ∙ puts records key (apart_by_key records file.by_key)
          ∙ same key,
    )
