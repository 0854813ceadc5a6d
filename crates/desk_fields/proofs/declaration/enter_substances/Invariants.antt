-- What is left to add to the declaration so far is what was to be added at first.
use Rattle.std.proofs.Common.{◌≡◌, drop}
use Rattle.desk_fields.specs.Declaring.{substances_added}
use Rattle.desk_fields.proofs.declaration.enter_substances.Given as goal

abbrev pub invariant-loop-held : goal.invariant-loop-held
invariant-loop-held l = substances_added l.code (drop l.held-index l.substances) l.declaration ≡ substances_added l.code l.substances l.fn.declaration
