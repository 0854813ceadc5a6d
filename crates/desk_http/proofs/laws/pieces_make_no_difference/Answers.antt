use Rattle.desk_http.specs.Reader.{requests_of}
use Rattle.desk_http.proofs.StreamLemmas.{same_stream, read_stream, read_in_pieces}
use Rattle.desk_http.proofs.laws.pieces_make_no_difference.Goals as goal

pub returns-clause-any : goal.returns-clause-any
returns-clause-any c = read_in_pieces

pub returns-clause-one : goal.returns-clause-one
returns-clause-one c = same_stream

pub returns-clause-read : goal.returns-clause-read
returns-clause-read c = read_stream

pub returns-clause-same : goal.returns-clause-same
returns-clause-same c bytes events others e f x y =
    same_stream bytes (requests_of events) (requests_of others) e f (read_stream bytes events e x) (read_stream bytes others f y)
