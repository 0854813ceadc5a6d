-- What a part carries of a substance: Article 7(2)(b) of Regulation (EC) 1907/2006 counts a substance in an article only
-- above 0.1 percent by weight.
use Rattle.std.specs.Prelude.{ℕ, ◌&&◌, List, if◌then◌else◌}
use Rattle.desk_findings.specs.Above.{content, is_above}
use Rattle.desk_findings.specs.Articles.{is_article}
use Rattle.desk_model.specs.Lists.{Lists}
use Rattle.desk_findings.specs.Rolled.{rolled}

-- what a code carries of a substance by itself: an article all that it holds of the substance, where that is above in it, and
-- else nothing; what is no article carries nothing by itself
abbrev pub own_load : Lists → List ℕ → List ℕ → ℕ
own_load t substance code = if is_article t code && is_above t code substance then content t code substance else 0

-- an article carries what it has; an assembly the sum over its lines of count times what the child carries
abbrev pub carried : Lists → List ℕ → List ℕ → ℕ
carried t substance code = rolled t (own_load t substance) code
