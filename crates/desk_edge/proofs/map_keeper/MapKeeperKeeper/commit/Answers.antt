use Rattle.std.proofs.Common.{◌≡◌, ap, ◌∙◌, subst}
use Rattle.std.specs.Prelude.{option_map}
use Rattle.desk_edge.specs.Content.{key_cmp, key_of}
use Rattle.desk_edge.specs.Stores.{keeper_fails_next, records_with_all}
use Rattle.desk_edge.proofs.Contents.{are_changed, records_stay}
use Rattle.desk_rows.specs.Rows.{IsByKey, row_of}
use Rattle.desk_edge.proofs.map_keeper.MapKeeperKeeper.commit.Goals as goal

pub returns-clause-ok : goal.returns-clause-ok
returns-clause-ok c told key =
    let stay = records_stay (keeper_fails_next c.args.self.now) c.args.self.now c.count_call.new.self c.count_call.ensures.after in
    let inside = ap (λ kept. kept.records) c.self.view_is ∙ stay in
    let by_key : IsByKey key_of key_cmp c.args.self.now.records = subst (IsByKey key_of key_cmp) inside c.self.invariant in
    let records : c.make_all.new.records.items ≡ records_with_all c.args.batch.now c.args.self.now.records =
    c.make_all.ensures.records ∙ ap (λ changes. records_with_all changes c.reserve.new.self.items) c.in_ok-changes.ensures
    ∙ ap (records_with_all c.args.batch.now) (c.in_ok-reserve.ensures.items ∙ inside) in
    ap (λ all. option_map (λ kept. kept.body) (row_of key_of key_cmp key all)) records ∙ are_changed c.args.batch.now c.args.self.now.records by_key key
