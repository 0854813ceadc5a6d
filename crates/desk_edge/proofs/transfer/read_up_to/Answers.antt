-- What was read so far, whatever comes of the rest.
use Rattle.std.proofs.Common.{ℕ, ◌++◌, take, arith, length-append}
use Rattle.std.proofs.lemmas.List.{length-take}
use Rattle.std.proofs.KnownBytes.{Consumes-trans}
use Rattle.desk_edge.proofs.transfer.read_up_to.Goals as goal

pub returns-in_err-push_all-clause-taken : goal.returns-in_err-push_all-clause-taken
returns-in_err-push_all-clause-taken g c =
    let given = take c.in_ok-given.given c.read.new.into in (
      c.loop-chunk.bytes ++ given,
      Consumes-trans _ _ _ _ given c.loop-chunk.invariant.given c.in_ok-given.ensures.gives.0,
      simp length-append (omega (arith, length-take {A = ℕ})),
    )
