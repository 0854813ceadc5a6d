-- One material more is counted.
use Rattle.std.proofs.Common.{◌≡◌, ◌∙◌, [], ◌∷◌, ◌++◌, ap, map, rules, sym, take}
use Rattle.std.specs.List.{slice_index_or}
use Rattle.std.proofs.lemmas.List.{map-append, take_more}
use Rattle.desk_tables.specs.FindingCounts.{own_of_material}
use Rattle.desk_tables.proofs.table_lists.TableLists.material_counts.Goals as goal

pub loop-material-preserved : goal.loop-material-preserved
loop-material-preserved c =
    let own = own_of_material c.args.self.now in
    let before = take c.loop-material.material-index c.args.materials.now in
    let item = c.material-item.result in
    let is : item ≡ slice_index_or c.args.materials.now c.loop-material.material-index item = search rules in
    let more = take_more c.args.materials.now c.loop-material.material-index item (search rules) ∙ ap (λ x. before ++ x ∷ []) (sym is) in
    record {
      counts =
          c.push_reserved.ensures.items
          ∙ ap (λ l. l ++ c.rules_over_count.result ∷ []) c.loop-material.invariant.counts
          ∙ ap (λ n. map own before ++ n ∷ []) c.rules_over_count.ensures
          ∙ sym (ap (map own) more ∙ map-append own before (item ∷ []));
      count = search rules;
      room = search rules;
    }
