-- The pairs that were read and those that are left are the query's.
use Rattle.std.proofs.Common.{◌≡◌, ◌++◌, List}
use Rattle.form_urlencoded.specs.Form.{raw_pairs}
use Rattle.form_urlencoded.specs.Parse.{pairs_left}
use Rattle.desk_http.specs.Fields.{IsQueryOf}
use Rattle.desk_http.specs.Query.{ArePlain, Pair, decoded, pairs_of}
use Rattle.desk_http.proofs.query.Query.read.Given as goal

abbrev pub invariant-loop-pair : goal.invariant-loop-pair
invariant-loop-pair l =
    (done : List Pair) × IsQueryOf l.query done × (done ++ decoded (pairs_left l.pair-iterator) ≡ pairs_of l.fn.bytes)
    × (ArePlain (raw_pairs l.fn.bytes) → ArePlain (pairs_left l.pair-iterator))
