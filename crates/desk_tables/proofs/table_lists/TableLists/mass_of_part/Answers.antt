use Rattle.desk_tables.proofs.HeavyYears.{mass_of}
use Rattle.desk_tables.proofs.table_lists.TableLists.mass_of_part.Goals as goal

pub returns : goal.returns
returns c = mass_of c.args.self.now c.args.masses.now c.args.part.now c.in-Ok.at c.parts.result.now c.parts.ensures c.requires.masses c.in-Ok.ensures
