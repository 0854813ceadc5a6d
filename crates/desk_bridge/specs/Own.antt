-- What a node has of its own, and how it comes from the lines of an article.
use Rattle.std.specs.Prelude.{◌≡◌, ℕ, ◌*◌, Bool, true, ◌&&◌, List, is_some, nat_lt}
use Rattle.std.specs.List.{AllByRecursion}
use Rattle.std.specs.Option.{option_map_or}
use Rattle.desk_text.specs.Code.{code_cmp}
use Rattle.desk_law.specs.declared.rule.Rule.{Rule}
use Rattle.desk_law.specs.Rule.{rule_number}
use Rattle.desk_rollup.specs.declared.mark.Mark.{Mark}
use Rattle.desk_rows.specs.Rows.{row_of}
use Rattle.desk_model.specs.Lists.{Lists}
use Rattle.desk_findings.specs.Above.{content, is_above, is_candidate}
use Rattle.desk_bridge.specs.declared.holdings.Holding.{Holding}
use Rattle.desk_bridge.specs.Bridge.{place_of}

-- the mark of a rule at a node
abbrev pub rule_mark : ℕ → Rule → Mark
rule_mark node rule = record { node = node; what = rule_number rule }

-- the mark of a substance at a node
abbrev pub holding_mark : List (List ℕ) → ℕ → Holding → Mark
holding_mark names node holding = record { node = node; what = place_of names holding.substance }

-- how much of a substance is held
abbrev pub amount_held : List Holding → List ℕ → ℕ
amount_held held substance = option_map_or (λ holding. holding.amount) (row_of (λ holding. holding.substance) code_cmp substance held) 0

-- the substance is a candidate and more than one thousandth of the weight
abbrev pub is_more : Lists → ℕ → Holding → Bool
is_more t weight holding = is_candidate t holding.substance && nat_lt weight (1000 * holding.amount)

-- these are the substances that are above in an article, each with how much of it the article holds
pub record AreAbove (t : Lists) (article : List ℕ) (above : List Holding) : Type 0 where
  pub each : AllByRecursion (λ holding. (is_above t article holding.substance ≡ true) × (holding.amount ≡ content t article holding.substance)) above
  pub all : (substance : List ℕ) → is_above t article substance ≡ true → is_some (row_of (λ holding. holding.substance) code_cmp substance above) ≡ true
