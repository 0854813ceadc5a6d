use Rattle.std.proofs.Common.{◌≡◌, true, sym}
use Rattle.desk_text.specs.Code.{code_cmp}
use Rattle.desk_model.specs.Lists.{is_part}
use Rattle.desk_model.proofs.Kept.{code_cmp_total, each_kept, found_each}
use Rattle.desk_scratch.proofs.answer.on_part_plain.Goals as goal

pub part_text_plain-requires-clause-kept : goal.part_text_plain-requires-clause-kept
part_text_plain-requires-clause-kept c =
    let t = c.args.tables.now.lists in
    (found_each (λ row. row.code) (λ row. is_part t row.code ≡ true) c.args.code t.parts c.in-Some.part.now (each_kept (λ row. row.code) code_cmp code_cmp_total t.parts) (sym c.in-Some.ensures)).0
