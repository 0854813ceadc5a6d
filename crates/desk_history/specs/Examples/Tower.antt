-- The laws at a line that makes a tower 2^128 heavy: the tables that it would leave aren't sound, and it is there that masses and chains
-- have to be known.
use Rattle.std.specs.Prelude.{◌≡◌, ◌+◌, ◌*◌, [], ◌∷◌, Some, codes}
use Rattle.desk_model.specs.declared.edit.Edit.{Edit}
use Rattle.desk_model.specs.declared.edit.Edit.TheVariants.{Line, Unline}
use Rattle.desk_model.specs.declared.rule_fault.RuleFault.TheVariants.{TotalTooLarge, YearTooLarge}
use Rattle.desk_model.specs.Effect.{with_edit_entered}
use Rattle.desk_model.specs.Lists.{Lists}
use Rattle.desk_model.specs.Examples.Desks.{declares, material}
use Rattle.desk_findings.specs.Bill.{IsBill}
use Rattle.desk_findings.specs.Chain.{chain}
use Rattle.desk_findings.specs.Findings.{finding_count}
use Rattle.desk_findings.specs.Mass.{mass}
use Rattle.desk_findings.specs.Examples.Articles as articles
use Rattle.desk_history.specs.Breaches.{IsBrokenAt}
use Rattle.desk_history.specs.History.{PassesRows}
use Rattle.desk_history.specs.Refused.{refused, year_too_large}
use Rattle.desk_history.specs.Sound.{IsConsistent, Sound}
use Rattle.desk_history.specs.Examples.Desks.{desk_after}
use Rattle.desk_history.specs.Examples.Limits.{powers, tower}

-- the line from the seventh level to the sixth
abbrev pub seventh : Edit
seventh = Line (codes "t17") (codes "L7") (codes "L6") 1000000

-- the tables that it would leave
abbrev pub too_high : Lists
too_high = with_edit_entered tower seventh

-- a material so heavy that a part and the year in which it was shipped are both too heavy
abbrev pub heavy_again : Edit
heavy_again = declares (codes "ACME") 2 (material (codes "U") 1000000000000000 [] ∷ [])

-- the only clean material of an article is taken out
abbrev pub lighten : Edit
lighten = Unline (codes "t12") (codes "W") (codes "W2")

pub record TowerExamples : Type 0 where
  -- the line passes the refusals 1 to 20, and what it would leave holds together, though it isn't sound
  pub passes : PassesRows tower seventh
  pub consistent : IsConsistent too_high
  pub bill : IsBill too_high
  pub unsound : Sound too_high → ⊥
  -- the part that is too heavy is the row that is told
  pub told : IsBrokenAt too_high 4 (codes "L7")
  -- masses and chains go by lines there
  pub by_lines : mass too_high (codes "L7") ≡ 0 + 1000000 * mass too_high (codes "L6")
  pub by_next : chain too_high (codes "L7") (codes "U") ≡ codes "L7" ∷ chain too_high (codes "L6") (codes "U")
  pub heavy : mass too_high (codes "L7") ≡ 1000000000000000000000000000000000000000000
  -- and what the line doesn't affect weighs what it did
  pub others : mass too_high (codes "L6") ≡ mass tower (codes "L6")
  -- a part and a year that are too heavy at once: the part is told
  pub part_and_year : refused (desk_after (powers 16384)) heavy_again ≡ Some (TotalTooLarge (codes "L4"))
  pub year_too : year_too_large (desk_after (powers 16384)) heavy_again ≡ Some (YearTooLarge 2025)
  -- taking out a line can add findings: what is left of the article is all of the substance
  pub none_found : finding_count articles.desk ≡ 0
  pub two_found : finding_count (with_edit_entered articles.desk lighten) ≡ 2
