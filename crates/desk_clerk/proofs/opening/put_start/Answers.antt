-- What an empty store keeps once the records of the start tables are put.
use Rattle.std.proofs.Common.{ap, map, ◌∙◌, None}
use Rattle.desk_edge.specs.Content.{body_after_all}
use Rattle.desk_edge.specs.declared.change.Change.TheVariants.{Put}
use Rattle.desk_engine.specs.Engine.{lists_of}
use Rattle.desk_records.specs.Records.{records_of}
use Rattle.desk_records.proofs.Distinct.{apart}
use Rattle.desk_records.proofs.PutIn.{puts}
use Rattle.desk_clerk.proofs.opening.put_start.Goals as goal

pub returns-clause-kept : goal.returns-clause-kept
returns-clause-kept g c = λ t empty key.
    let lists = lists_of c.in_ok-engine.engine in
    c.in_ok-commit.ensures.ok t key
    ∙ ap (body_after_all c.as_slice.result.now key) (empty key)
    ∙ ap (λ batch. body_after_all batch key None) (c.as_slice.ensures.value ∙ c.in_ok-changes.ensures ∙ ap (map (λ kept. Put kept)) (c.in_ok-records_of.ensures ∙ ap (λ desk. records_of desk.lists) c.tables.ensures.tables))
    ∙ puts (records_of lists) key (apart lists c.in_ok-engine.ensures.sound)
