use Rattle.std.proofs.Common.{◌≡◌, ◌∙◌, true, sym, ap}
use Rattle.desk_model.specs.Lists.{is_part, product_row}
use Rattle.desk_model.proofs.Elements.{each_from_all}
use Rattle.desk_model.proofs.Kept.{found_each}
use Rattle.desk_history.proofs.NamesKept.{names_of}
use Rattle.desk_scratch.proofs.answer.on_rohs.Goals as goal

pub rohs_text-requires-clause-kept : goal.rohs_text-requires-clause-kept
rohs_text-requires-clause-kept g c =
    let t = g.S.AnswerSource.lists c.args.source.now in
    let names = names_of t c.tables-tables.ensures.sound.consistent.names_kept in
    (found_each (λ row. row.part) (λ row. is_part t row.part ≡ true) c.args.code t.products c.in-Some.product.now (each_from_all (λ product. is_part t product.part) t.products names.products)
    (sym (c.in-Some.ensures ∙ ap (λ u. product_row u c.args.code) c.tables-tables.ensures.lists))).0
