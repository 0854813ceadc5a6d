use Rattle.std.proofs.Common.{◌∙◌, sym}
use Rattle.desk_history.proofs.SoundClauses.{bill_of}
use Rattle.desk_tables.proofs.table_lists.TableLists.is_or_reaches.Goals as goal

pub returns : goal.returns
returns c = rw (sym c.eq.ensures ∙ c.if-eq.false) (c.does_reach.ensures c.args.self.now c.requires.bill (bill_of c.args.self.now c.requires.consistent))
