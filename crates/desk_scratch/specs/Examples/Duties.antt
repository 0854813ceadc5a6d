-- 0.1 percent is asked of the article and not of the product that holds it.
use Rattle.std.specs.Prelude.{◌≡◌, [], ◌∷◌, codes}
use Rattle.desk_model.specs.Examples.Desks.{date}
use Rattle.desk_findings.specs.Examples.Articles.{desk, lighter}
use Rattle.desk_scratch.specs.declared.question.Question.TheVariants.{Reach33}
use Rattle.desk_scratch.specs.Eval.{eval}
use Rattle.desk_scratch.specs.Examples.Texts.{answers}

pub record DutyAnswers : Type 0 where
  -- one of 1,000 micrograms is not above
  pub no_duty : eval desk (Reach33 (codes "BIG") (date 2024 1 23))
      ≡ answers (codes "version 11" ∷ codes "part BIG day 2024-01-23" ∷ codes "duties 0" ∷ [])
  -- one of 999 is, although the product weighs more than a million
  pub a_duty : eval lighter (Reach33 (codes "BIG") (date 2024 1 23))
      ≡ answers (codes "version 12"
      ∷ codes "part BIG day 2024-01-23"
      ∷ codes "duty W svhc mass 1 of 999 included 2020-01-16"
      ∷ codes "name A substance of very high concern"
      ∷ codes "chain BIG W"
      ∷ codes "duties 1"
      ∷ [])
  -- from the day of inclusion on
  pub day_before : eval lighter (Reach33 (codes "BIG") (date 2020 1 15))
      ≡ answers (codes "version 12" ∷ codes "part BIG day 2020-01-15" ∷ codes "duties 0" ∷ [])
  -- of an article that is asked for itself the chain is one code
  pub own_duty : eval lighter (Reach33 (codes "W") (date 2020 1 16))
      ≡ answers (codes "version 12"
      ∷ codes "part W day 2020-01-16"
      ∷ codes "duty W svhc mass 1 of 999 included 2020-01-16"
      ∷ codes "name A substance of very high concern"
      ∷ codes "chain W"
      ∷ codes "duties 1"
      ∷ [])
