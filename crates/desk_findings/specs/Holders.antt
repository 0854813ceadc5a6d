-- Findings by their holders, and the way to them.
use Rattle.std.specs.Prelude.{◌≡◌, ℕ, zero, suc, ◌+◌, true, ◌&&◌, List, [], ◌∷◌, Option, None, find, length, option_map, if◌then◌else◌}
use Rattle.std.specs.Option.{option_map_or}
use Rattle.desk_model.specs.Lists.{IsOrdered, Lists, is_kept}
use Rattle.desk_findings.specs.Bill.{IsBill, are_children_kept}
use Rattle.desk_findings.specs.Chain.{chain, next_to}
use Rattle.desk_findings.specs.Findings.{Finding, above, findings_at, is_in, over, own_findings}
use Rattle.desk_findings.specs.Reaches.{is_or_reaches, lines_of}

-- the material or the article that a finding is on
abbrev pub holder : Finding → List ℕ
holder (over material rule) = material
holder (above article substance) = article

-- where the way to a finding goes on from a code: nowhere where the finding is its own, else to the first child that has it
abbrev pub next_of : Lists → Finding → List ℕ → Option (List ℕ)
next_of t finding code =
    if is_in finding (own_findings t code) then None
    else option_map (λ line. line.child) (find (λ line. is_in finding (findings_at t line.child)) (lines_of t.lines code))

-- the codes behind a code on a way, and no more than so many
unfoldable pub way_within : (List ℕ → Option (List ℕ)) → ℕ → List ℕ → List (List ℕ)
way_within next zero code = []
way_within next (suc k) code = option_map_or (λ child. child ∷ way_within next k child) (next code) []

-- a finding is at a code exactly where the code is its holder or reaches it, and the holder has it as its own; the first child
-- that has it is the next of the chain to its holder; and whoever keeps that child comes by it to the chain
pub record FindingsAreHeld : Type 0 where
  pub own : (t : Lists) (finding : Finding) (code : List ℕ) → is_in finding (own_findings t code) ≡ true → code ≡ holder finding
  pub held : (t : Lists) → IsOrdered t → IsBill t → (finding : Finding) (code : List ℕ) →
      is_in finding (findings_at t code) ≡ (is_or_reaches t code (holder finding) && is_in finding (own_findings t (holder finding)))
  pub next : (t : Lists) → IsOrdered t → IsBill t → (finding : Finding) (code : List ℕ) → is_in finding (own_findings t (holder finding)) ≡ true →
      option_map (λ line. line.child) (find (λ line. is_in finding (findings_at t line.child)) (lines_of t.lines code)) ≡ next_to t code (holder finding)
  pub ways : (t : Lists) → IsOrdered t → IsBill t → are_children_kept t ≡ true → (finding : Finding) (next : List ℕ → Option (List ℕ)) →
      ((code : List ℕ) → is_kept t code ≡ true → is_in finding (findings_at t code) ≡ true → next code ≡ next_of t finding code) →
      (more : ℕ) (code : List ℕ) → is_kept t code ≡ true → is_in finding (findings_at t code) ≡ true →
      code ∷ way_within next (more + length t.parts) code ≡ chain t code (holder finding)
