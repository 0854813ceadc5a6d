-- What a code has of its own, by a look-up of the materials under it: a value of the tables, or of those that an edit will leave.
use Rattle.std.specs.Prelude.{◌≡◌, ℕ, ◌*◌, Bool, true, false, ◌&&◌, List, [], Option, Some, filter, map, nat_lt, sum_by, if◌then◌else◌}
use Rattle.std.specs.Option.{option_map_or}
use Rattle.desk_model.specs.declared.rows.candidate.CandidateRow.{CandidateRow}
use Rattle.desk_model.specs.declared.rows.line.LineRow.{LineRow}
use Rattle.desk_model.specs.declared.rows.material.MaterialRow.{MaterialRow}
use Rattle.desk_model.specs.Lists.{Lists, is_material, material_row}
use Rattle.desk_findings.specs.Above.{held_mass, is_candidate}
use Rattle.desk_findings.specs.Articles.{is_article}
use Rattle.desk_findings.specs.Bill.{IsRight}
use Rattle.desk_findings.specs.Carried.{own_load}
use Rattle.desk_findings.specs.Findings.{Finding, above, findings_on, own_findings}
use Rattle.desk_findings.specs.Mass.{mass, own_mass}
use Rattle.desk_findings.specs.Reaches.{lines_of}

-- what lines to materials weigh, by the rows of the materials
abbrev pub mass_of_lines : (List ℕ → Option MaterialRow) → List LineRow → ℕ
mass_of_lines row lines = sum_by (λ line. line.count * option_map_or (λ material. material.mass) (row line.child) 0) lines

-- what they hold of a substance
abbrev pub content_of_lines : (List ℕ → Option MaterialRow) → List LineRow → List ℕ → ℕ
content_of_lines row lines substance = sum_by (λ line. line.count * option_map_or (λ material. held_mass substance material.substances) (row line.child) 0) lines

-- that is more than one thousandth of what they weigh
abbrev pub is_over_thousandth : (List ℕ → Option MaterialRow) → List LineRow → List ℕ → Bool
is_over_thousandth row lines substance = nat_lt (mass_of_lines row lines) (1000 * content_of_lines row lines substance)

-- the findings on an article with these lines, where these are the candidates
abbrev pub findings_of_lines : (List ℕ → Option MaterialRow) → List LineRow → List CandidateRow → List ℕ → List Finding
findings_of_lines row lines candidates article =
    map (λ candidate. above article candidate.substance) (filter (λ candidate. is_over_thousandth row lines candidate.substance) candidates)

-- what a code has of its own: a material its mass and what it is over the limits of; an article what its lines, the materials under
-- them and the candidates make; and an assembly nothing
pub record OwnBySort : Type 0 where
  pub material : (t : Lists) → IsRight t → (code : List ℕ) (material : MaterialRow) → material_row t code ≡ Some material →
      (own_mass t code ≡ material.mass) × (mass t code ≡ material.mass) × (own_findings t code ≡ findings_on t material) × ((substance : List ℕ) → own_load t substance code ≡ 0)
  pub article : (t : Lists) → IsRight t → (code : List ℕ) → is_article t code ≡ true →
      (own_mass t code ≡ 0)
      × (mass t code ≡ mass_of_lines (material_row t) (lines_of t.lines code))
      × (own_findings t code ≡ findings_of_lines (material_row t) (lines_of t.lines code) t.candidates code)
      × ((substance : List ℕ) → own_load t substance code
      ≡ (if is_candidate t substance && is_over_thousandth (material_row t) (lines_of t.lines code) substance
      then content_of_lines (material_row t) (lines_of t.lines code) substance else 0))
  pub other : (t : Lists) → (code : List ℕ) → is_material t code ≡ false → is_article t code ≡ false →
      (own_mass t code ≡ 0) × (own_findings t code ≡ []) × ((substance : List ℕ) → own_load t substance code ≡ 0)
