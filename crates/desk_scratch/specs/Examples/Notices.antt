-- One tonne is not more than one tonne; and when a notice is due.
use Rattle.std.specs.Prelude.{◌≡◌, [], ◌∷◌, codes}
use Rattle.desk_model.specs.Examples.Desks.{date}
use Rattle.desk_model.specs.Lists.{Lists}
use Rattle.desk_findings.specs.Examples.Articles.{more, tonne}
use Rattle.desk_scratch.specs.declared.question.Question.TheVariants.{Part, Reach7}
use Rattle.desk_scratch.specs.Eval.{eval}
use Rattle.desk_scratch.specs.Examples.Texts.{answers}

-- the tables with a unit more, where the substance is included on the first day after which no day is due
abbrev pub late : Lists
late = record more { candidates = record { substance = codes "dehp"; day = date 2099 7 1 } ∷ [] }

pub record NoticeAnswers : Type 0 where
  pub one_tonne : eval tonne (Reach7 2024 (date 2024 12 31))
      ≡ answers (codes "version 6" ∷ codes "year 2024 day 2024-12-31" ∷ codes "notices 0" ∷ [])
  pub one_more : eval more (Reach7 2024 (date 2024 12 31))
      ≡ answers (codes "version 7"
      ∷ codes "year 2024 day 2024-12-31"
      ∷ codes "notice dehp tonnage 1000000001000 included 2008-10-28 due 2011-06-01"
      ∷ codes "notices 1"
      ∷ [])
  -- the day on which it would be due is past the last that the desk takes
  pub never_due : eval late (Reach7 2024 (date 2099 7 1))
      ≡ answers (codes "version 7"
      ∷ codes "year 2024 day 2099-07-01"
      ∷ codes "notice dehp tonnage 1000000001000 included 2099-07-01 due none"
      ∷ codes "notices 1"
      ∷ [])
  pub article : eval more (Part (codes "G"))
      ≡ answers (codes "version 7"
      ∷ codes "part G article mass 2000"
      ∷ codes "name G"
      ∷ codes "product kind 3"
      ∷ codes "line G1 1"
      ∷ codes "carried dehp 1000"
      ∷ [])
