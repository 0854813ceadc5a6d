use Rattle.std.proofs.Common.{◌≡◌, ap, sym, ◌∙◌, subst}
use Rattle.std.specs.List.{find}
use Rattle.std.specs.Prelude.{option_copied}
use Rattle.desk_edge.specs.Content.{key_cmp, key_of, is_past}
use Rattle.desk_edge.proofs.Contents.{is_first, past_where_found}
use Rattle.desk_rows.specs.Rows.{IsByKey}
use Rattle.desk_edge.proofs.map_keeper.MapKeeperKeeper.next_record.Goals as goal

pub returns-clause-gives : goal.returns-clause-gives
returns-clause-gives c told =
    let shown : c.as_slice.result.now ≡ c.count_call.new.self.records = c.as_slice.ensures.value ∙ ap (λ kept. kept.records) c.self.view_is in
    let by_key : IsByKey key_of key_cmp c.count_call.new.self.records = subst (IsByKey key_of key_cmp) (ap (λ kept. kept.records) c.self.view_is) c.self.invariant in
    is_first (option_copied c.args.after) c.count_call.new.self.records c.in_ok-copied_past.field-0 by_key (c.in_ok-copied_past.ensures ∙ ap (λ records. find (λ kept. is_past (option_copied c.args.after) (key_of kept)) records) shown)

pub returns-clause-later : goal.returns-clause-later
returns-clause-later c = past_where_found (option_copied c.args.after) c.as_slice.result.now c.in_ok-copied_past.field-0 (sym c.in_ok-copied_past.ensures)
