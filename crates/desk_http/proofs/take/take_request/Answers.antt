use Rattle.std.proofs.Common.{inl, inr}
use Rattle.desk_http.proofs.take.take_request.Goals as goal

pub take_body-requires : goal.take_body-requires
take_body-requires c = rw c.front_of.ensures.front at c.in-Whole.ensures

pub returns-in-TooManyLines : goal.returns-in-TooManyLines
returns-in-TooManyLines c =
    let found = rw c.front_of.ensures.front at c.in-TooManyLines.ensures in
    inr (found.0, (found.1, found.2), found.3)

pub returns-in-Unfinished : goal.returns-in-Unfinished
returns-in-Unfinished c = inl (c.if-buffer-lt-HEAD_BYTES.true, rw c.front_of.ensures.front at c.in-Unfinished.ensures)

pub returns-in-Unfinished-2 : goal.returns-in-Unfinished-2
returns-in-Unfinished-2 c = inl (c.if-buffer-lt-HEAD_BYTES.false, rw c.front_of.ensures.front at c.in-Unfinished.ensures)

pub returns-in-Hopeless : goal.returns-in-Hopeless
returns-in-Hopeless c = rw c.front_of.ensures.front at c.in-Hopeless.ensures
