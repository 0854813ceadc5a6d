-- A part that two lines lead to counts twice, and the chain goes by the least code of those that are left.
use Rattle.std.specs.Prelude.{◌≡◌, [], ◌∷◌, codes}
use Rattle.desk_model.specs.Examples.Desks.{date}
use Rattle.desk_findings.specs.Examples.Chains.{desk, later}
use Rattle.desk_scratch.specs.declared.question.Question.TheVariants.{Rohs, Uses}
use Rattle.desk_scratch.specs.Eval.{eval}
use Rattle.desk_scratch.specs.Examples.Texts.{answers}

pub record ChainAnswers : Type 0 where
  pub both_ways : eval desk (Rohs (codes "P") (date 2024 1 23))
      ≡ answers (codes "version 11"
      ∷ codes "product P kind 3 day 2024-01-23 mass 5000000"
      ∷ codes "over MAT lead share 1001000000 limit 1000000000 breach"
      ∷ codes "chain P A C MAT"
      ∷ codes "not-compliant"
      ∷ [])
  -- the line from P to A is taken out
  pub one_way : eval later (Rohs (codes "P") (date 2024 1 23))
      ≡ answers (codes "version 12"
      ∷ codes "product P kind 3 day 2024-01-23 mass 3000000"
      ∷ codes "over MAT lead share 1001000000 limit 1000000000 breach"
      ∷ codes "chain P B C MAT"
      ∷ codes "not-compliant"
      ∷ [])
  -- users stand in order of their codes
  pub users : eval desk (Uses (codes "C"))
      ≡ answers (codes "version 11" ∷ codes "uses C" ∷ codes "user A 1" ∷ codes "user B 1" ∷ codes "product P kind 3" ∷ [])
