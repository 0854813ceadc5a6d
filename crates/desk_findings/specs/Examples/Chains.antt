-- A product in which two ways lead to one article: what it weighs, what it reaches, and the chain before and after a line
-- of it is taken out.
use Rattle.std.specs.Prelude.{◌≡◌, true, false, List, [], ◌∷◌, ◌++◌, codes}
use Rattle.desk_law.specs.declared.kind.Kind.TheVariants.{Telecommunications}
use Rattle.desk_law.specs.declared.rule.Rule.TheVariants.{Lead}
use Rattle.desk_model.specs.declared.edit.Edit.{Edit}
use Rattle.desk_model.specs.declared.edit.Edit.TheVariants.{Line, Unline, Product}
use Rattle.desk_findings.specs.Chain.{chain}
use Rattle.desk_findings.specs.Findings.{finding_count, findings, over}
use Rattle.desk_model.specs.Lists.{Lists}
use Rattle.desk_findings.specs.Mass.{mass}
use Rattle.desk_findings.specs.Reaches.{reaches}
use Rattle.desk_model.specs.Examples.Desks.{article, assembly, declares, desk_with, holds, material}

abbrev pub edits : List Edit
edits =
    declares (codes "ACME") 1 (material (codes "MAT") 1000000 (holds (codes "lead") 1001 ∷ []) ∷ [])
    ∷ article (codes "t2") (codes "C")
    ∷ assembly (codes "t3") (codes "A")
    ∷ assembly (codes "t4") (codes "B")
    ∷ assembly (codes "t5") (codes "P")
    ∷ Line (codes "t6") (codes "C") (codes "MAT") 1
    ∷ Line (codes "t7") (codes "A") (codes "C") 1
    ∷ Line (codes "t8") (codes "B") (codes "C") 1
    ∷ Line (codes "t9") (codes "P") (codes "A") 2
    ∷ Line (codes "t10") (codes "P") (codes "B") 3
    ∷ Product (codes "t11") (codes "P") Telecommunications
    ∷ []

abbrev pub desk : Lists
desk = desk_with edits

abbrev pub take_out : Edit
take_out = Unline (codes "t12") (codes "P") (codes "A")

abbrev pub later : Lists
later = desk_with (edits ++ take_out ∷ [])

pub record ChainExamples : Type 0 where
  -- the article counts through both lines: 2 and 3 of 1,000,000 micrograms
  pub both_ways_count : mass desk (codes "P") ≡ 5000000
  pub article_mass : mass desk (codes "C") ≡ 1000000
  pub material_mass : mass desk (codes "MAT") ≡ 1000000
  pub reaches_down : reaches desk (codes "P") (codes "MAT") ≡ true
  pub reaches_not_up : reaches desk (codes "C") (codes "P") ≡ false
  pub reaches_not_itself : reaches desk (codes "P") (codes "P") ≡ false
  -- of the children A and B, A has the lesser code
  pub least_child : chain desk (codes "P") (codes "MAT") ≡ codes "P" ∷ codes "A" ∷ codes "C" ∷ codes "MAT" ∷ []
  pub chain_to_itself : chain desk (codes "P") (codes "P") ≡ codes "P" ∷ []
  -- the product has one finding although two ways lead to it; so have A, B and C
  pub one_finding : findings desk (codes "P") ≡ over (codes "MAT") Lead ∷ []
  pub four_findings : finding_count desk ≡ 4
  pub other_way : chain later (codes "P") (codes "MAT") ≡ codes "P" ∷ codes "B" ∷ codes "C" ∷ codes "MAT" ∷ []
  pub less_mass : mass later (codes "P") ≡ 3000000
