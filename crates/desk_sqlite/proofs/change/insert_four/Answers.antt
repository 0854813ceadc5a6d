use Rattle.sqlite.specs.Held.{state}
use Rattle.desk_sqlite.proofs.InsideLemmas.{four_leaves, inside_by, refused_spares}
use Rattle.desk_sqlite.proofs.change.insert_four.Goals as goal

pub returns-clause-inside : goal.returns-clause-inside
returns-clause-inside g c = inside_by _ _ _ c.execute.ensures.survives _ _ c.execute.result c.execute.ensures.runs

pub returns-clause-inserted : goal.returns-clause-inserted
returns-clause-inserted g c =
    let old = state g.S.Store c.args.tx.now.conn.now in
    let new = state g.S.Store c.execute.new.self.conn.now in
    four_leaves old new c.args.first.now c.args.second.now c.args.third.now c.args.fourth.now c.execute.result c.done_of.result c.done_of.ensures
    (λ clean inside. rw (
      c.params-to_sql.ensures,
      c.params-to_sql-2.ensures,
      c.params-to_sql-3.ensures,
      c.params-to_sql-4.ensures,
      c.params-to_sql-5.ensures,
      c.params-to_sql-6.ensures,
      c.params-to_sql-7.ensures,
      c.params-to_sql-8.ensures,
      c.params-to_sql-9.ensures,
      c.params-to_sql-10.ensures,
      c.params-to_sql-11.ensures,
      c.params-to_sql-12.ensures,
      c.from.ensures,
      c.from-2.ensures,
      c.from-3.ensures,
      c.from-4.ensures,
      c.as_slice.ensures,
      c.as_slice-2.ensures,
      c.as_slice-3.ensures,
      c.as_slice-4.ensures,
      c.as_slice-5.ensures,
      c.as_slice-6.ensures,
      c.as_slice-7.ensures,
      c.as_slice-8.ensures,
    ) at (c.execute.ensures.runs clean inside))

pub returns-clause-spares : goal.returns-clause-spares
returns-clause-spares g c = refused_spares _ _ _ _ 0 c.execute.result c.done_of.result c.done_of.ensures c.execute.ensures.runs
