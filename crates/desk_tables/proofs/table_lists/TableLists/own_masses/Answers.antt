use Rattle.std.proofs.Common.{◌++◌, ◌∙◌, map, ap}
use Rattle.desk_tables.proofs.OwnMasses.{own_masses}
use Rattle.desk_tables.proofs.Taken.{take_whole}
use Rattle.desk_tables.proofs.table_lists.TableLists.own_masses.Goals as goal

pub returns : goal.returns
returns c =
    let t = c.args.self.now in
    c.loop-part.invariant.0
    ∙ ap (λ parts. map (λ row. row.mass) t.materials ++ map (λ row. 0) parts) (take_whole _ c.loop-part._part-index c.loop-part-test.false ∙ c.loop-part.invariant.1)
    ∙ own_masses t c.requires
