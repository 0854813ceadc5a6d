use Rattle.sqlite.specs.Held.{state}
use Rattle.desk_sqlite.proofs.InsideLemmas.{inside_by, insert_leaves, refused_spares}
use Rattle.desk_sqlite.proofs.change.insert_record.Goals as goal

pub returns-clause-inside : goal.returns-clause-inside
returns-clause-inside g c = inside_by _ _ _ c.execute.ensures.survives _ _ c.execute.result c.execute.ensures.runs

pub returns-clause-inserted : goal.returns-clause-inserted
returns-clause-inserted g c =
    let old = state g.S.Store c.args.tx.now.conn.now in
    let new = state g.S.Store c.execute.new.self.conn.now in
    insert_leaves old new c.args.kept.now c.execute.result c.done_of.result c.done_of.ensures
    (λ clean inside. rw (c.params-to_sql.ensures, c.params-to_sql-2.ensures, c.params-to_sql-3.ensures, c.from.ensures, c.as_slice.ensures, c.as_slice-2.ensures) at (c.execute.ensures.runs clean inside))

pub returns-clause-spares : goal.returns-clause-spares
returns-clause-spares g c = refused_spares _ _ _ _ 0 c.execute.result c.done_of.result c.done_of.ensures c.execute.ensures.runs
