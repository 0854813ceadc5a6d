use Rattle.std.proofs.Common.{◌≡◌, ◌∙◌, true, sym, ap}
use Rattle.desk_text.specs.Code.{code_cmp}
use Rattle.desk_model.specs.Lists.{is_part, part_row}
use Rattle.desk_model.proofs.Kept.{code_cmp_total, each_kept, found_each}
use Rattle.desk_scratch.proofs.answer.on_part.Goals as goal

pub part_text-requires : goal.part_text-requires
part_text-requires g c =
    let t = g.S.AnswerSource.lists c.args.source.now in
    (found_each (λ row. row.code) (λ row. is_part t row.code ≡ true) c.args.code t.parts c.in-Some.part.now (each_kept (λ row. row.code) code_cmp code_cmp_total t.parts)
    (sym (c.in-Some.ensures ∙ ap (λ u. part_row u c.args.code) c.tables.ensures.lists))).0
