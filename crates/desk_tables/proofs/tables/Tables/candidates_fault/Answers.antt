use Rattle.std.proofs.Common.{sym, ap, ◌∙◌, length}
use Rattle.std.specs.Prelude.{nat_lt}
use Rattle.desk_model.specs.declared.limits.TheConstants.{CANDIDATE_LIMIT}
use Rattle.desk_tables.proofs.GoodRows.{candidate_breaks, overfull_candidate}
use Rattle.desk_tables.proofs.Telling.{from_candidates}
use Rattle.desk_tables.proofs.tables.Tables.candidates_fault.Goals as goal

pub rows_fault-requires-clause-breaks : goal.rows_fault-requires-clause-breaks
rows_fault-requires-clause-breaks c row bad = candidate_breaks c.args.self.now.lists row bad

pub rows_fault-requires-clause-full : goal.rows_fault-requires-clause-full
rows_fault-requires-clause-full c over row = overfull_candidate c.args.self.now.lists (ap (λ rows. nat_lt CANDIDATE_LIMIT (length rows)) (sym c.candidates.ensures) ∙ over) row

pub returns-clause-told : goal.returns-clause-told
returns-clause-told c = from_candidates c.args.self.now.lists _ c.candidates.result.now c.candidates.ensures c.rows_fault.result c.rows_fault.ensures
