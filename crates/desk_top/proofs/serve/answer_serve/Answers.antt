-- The store of the command's name is the one that is served.
use Rattle.std.proofs.Common.{◌≡◌, Some, rules}
use Rattle.desk_top.proofs.serve.answer_serve.Goals as goal

pub returns-in-Some-clause-served : goal.returns-in-Some-clause-served
returns-in-Some-clause-served g c =
    let named : c.args.serve.now.store ≡ Some c.as_slice.result.now = search (rules, c.in-Some.is, c.as_slice.ensures) in
    rw named c.serve_store.ensures.stored
