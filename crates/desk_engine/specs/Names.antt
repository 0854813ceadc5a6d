-- Names of substances, which only grow.
use Rattle.std.specs.Prelude.{◌≡◌, ◌≤◌, ℕ, false, List, ◌++◌, length, Option, Some, None}
use Rattle.std.specs.List.{AllByRecursion}
use Rattle.desk_model.specs.declared.edit.Edit.{Edit}
use Rattle.desk_model.specs.declared.edit.Edit.TheVariants.{Candidate}
use Rattle.desk_model.specs.Lists.{Lists}
use Rattle.desk_findings.specs.Above.{is_candidate}
use Rattle.desk_bridge.specs.Numbers.{AreNames}

-- these names are those of the candidates, and no more than these
pub record AreFewNames (t : Lists) (names : List (List ℕ)) : Type 0 where
  pub named : AreNames t names
  pub few : length names ≤ length t.candidates

-- new names are those of before, and behind them such as were no candidates; and they name the candidates of other tables
pub record GrowTo (t u : Lists) (names new : List (List ℕ)) : Type 0 where
  pub others : List (List ℕ)
  pub grown : new ≡ names ++ others
  pub fresh : AllByRecursion (λ substance. is_candidate t substance ≡ false) others
  pub named : AreFewNames u new

-- the substance that an edit puts on the candidate list
unfoldable pub new_candidate : Edit → Option (List ℕ)
new_candidate (Candidate ticket substance day) = Some substance
new_candidate _ = None
