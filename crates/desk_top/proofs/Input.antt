-- The input of a console, whether or not the console tells it.
use Rattle.std.proofs.Common.{List, [], ℕ, Option, None, Some, refl}
use Rattle.desk_top.specs.Answer.{IsInput}

-- every console has some input
pub some_input : (told : Option (List ℕ)) → (input : List ℕ) × IsInput told input
some_input None = ([], tt)
some_input (Some told) = (told, refl)
