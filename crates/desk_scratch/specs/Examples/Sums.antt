-- A summary of a small desk, and the mass of a tower of assemblies.
use Rattle.std.specs.Prelude.{◌≡◌, List, [], ◌∷◌, codes}
use Rattle.desk_law.specs.declared.kind.Kind.TheVariants.{Telecommunications}
use Rattle.desk_model.specs.declared.edit.Edit.{Edit}
use Rattle.desk_model.specs.declared.edit.Edit.TheVariants.{Candidate, Line, Product, Ship}
use Rattle.desk_model.specs.Examples.Desks.{article, assembly, date, declares, desk_with, holds, material}
use Rattle.desk_scratch.specs.declared.question.Question.TheVariants.{Part, Summary}
use Rattle.desk_scratch.specs.Eval.{eval}
use Rattle.desk_scratch.specs.Examples.Texts.{answers}

-- one material, one article that holds two of it, and a product that holds two of these
abbrev pub small : List Edit
small =
    declares (codes "S1") 1 (material (codes "M0001") 1000001 (holds (codes "cadmium") 11 ∷ holds (codes "lead") 37 ∷ []) ∷ [])
    ∷ article (codes "s1") (codes "A0001")
    ∷ Line (codes "s2") (codes "A0001") (codes "M0001") 2
    ∷ assembly (codes "s3") (codes "B0001")
    ∷ Line (codes "s4") (codes "B0001") (codes "A0001") 2
    ∷ Product (codes "s5") (codes "B0001") Telecommunications
    ∷ Candidate (codes "s6") (codes "dehp") (date 2008 10 28)
    ∷ Candidate (codes "s7") (codes "lead") (date 2018 6 27)
    ∷ Ship (codes "s8") (codes "B0001") 2024 1000
    ∷ []

-- a tower of assemblies, each of a million of the one below, and the last of a hundred
abbrev pub tower : List Edit
tower =
    declares (codes "ACME") 1 (material (codes "U") 1 [] ∷ [])
    ∷ article (codes "t2") (codes "A")
    ∷ Line (codes "t3") (codes "A") (codes "U") 1
    ∷ assembly (codes "t4") (codes "L1")
    ∷ assembly (codes "t5") (codes "L2")
    ∷ assembly (codes "t6") (codes "L3")
    ∷ assembly (codes "t7") (codes "L4")
    ∷ assembly (codes "t8") (codes "L5")
    ∷ assembly (codes "t9") (codes "L6")
    ∷ assembly (codes "t10") (codes "L7")
    ∷ Line (codes "t11") (codes "L1") (codes "A") 1000000
    ∷ Line (codes "t12") (codes "L2") (codes "L1") 1000000
    ∷ Line (codes "t13") (codes "L3") (codes "L2") 1000000
    ∷ Line (codes "t14") (codes "L4") (codes "L3") 1000000
    ∷ Line (codes "t15") (codes "L5") (codes "L4") 1000000
    ∷ Line (codes "t16") (codes "L6") (codes "L5") 1000000
    ∷ Line (codes "t17") (codes "L7") (codes "L6") 100
    ∷ []

pub record SumAnswers : Type 0 where
  pub summary : eval (desk_with small) (Summary (date 2024 7 22))
      ≡ answers (codes "version 9"
      ∷ codes "day 2024-07-22"
      ∷ codes "substances 10"
      ∷ codes "members 10"
      ∷ codes "materials 1"
      ∷ codes "parts 2"
      ∷ codes "lines 2"
      ∷ codes "products 1"
      ∷ codes "exemptions 0"
      ∷ codes "candidates 2"
      ∷ codes "shipments 1"
      ∷ codes "product B0001 kind 3 compliant breaches 0 duties 0"
      ∷ [])
  pub heaviest : eval (desk_with tower) (Part (codes "L7"))
      ≡ answers (codes "version 17"
      ∷ codes "part L7 assembly mass 100000000000000000000000000000000000000"
      ∷ codes "name L7"
      ∷ codes "line L6 100"
      ∷ [])
