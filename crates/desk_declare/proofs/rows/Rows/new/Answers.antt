-- A new reader has all rows of its text left, at most as many as bytes.
use Rattle.desk_declare.proofs.RowFacts.{rows-room, start-rows}
use Rattle.desk_declare.proofs.rows.Rows.new.Goals as goal

pub returns-clause-rows : goal.returns-clause-rows
returns-clause-rows c =
    let reader = c.from_reader-reader in
    start-rows reader.result c.args.text.now reader.ensures.state reader.ensures.source

pub returns-clause-room : goal.returns-clause-room
returns-clause-room c =
    let reader = c.from_reader-reader in
    rw (start-rows reader.result c.args.text.now reader.ensures.state reader.ensures.source) (rows-room c.args.text.now)
