-- Substances above 0.1 percent by weight of an article: Article 33(1) of Regulation (EC) 1907/2006, asked of each article
-- by itself, also of one inside a larger product (judgment C-106/14).
use Rattle.std.specs.Prelude.{ℕ, ◌*◌, Bool, ◌&&◌, List, find, is_some, nat_lt, sum_by}
use Rattle.std.specs.Option.{option_map_or}
use Rattle.desk_text.specs.Code.{same_code}
use Rattle.desk_model.specs.declared.substance_mass.SubstanceMass.{SubstanceMass}
use Rattle.desk_model.specs.Lists.{Lists, candidate_row, material_row}
use Rattle.desk_findings.specs.Mass.{mass}
use Rattle.desk_findings.specs.Reaches.{lines_of}

-- the mass of the substance in a list of substances, 0 where it is not among them
abbrev pub held_mass : List ℕ → List SubstanceMass → ℕ
held_mass substance held = option_map_or (λ one. one.mass) (find (λ one. same_code one.substance substance) held) 0

-- the mass of the substance in a material, 0 in what is none
abbrev pub mass_in : Lists → List ℕ → List ℕ → ℕ
mass_in t substance code =
    option_map_or (λ material. held_mass substance material.substances) (material_row t code) 0

-- what an article holds of a substance, X for short: the sum over the article's lines of count times the mass of the
-- substance in the material
unfoldable pub content : Lists → List ℕ → List ℕ → ℕ
content t article substance = sum_by (λ line. line.count * mass_in t substance line.child) (lines_of t.lines article)

-- the substance is on the candidate list
abbrev pub is_candidate : Lists → List ℕ → Bool
is_candidate t substance = is_some (candidate_row t substance)

-- the substance is a candidate and more than one thousandth of the article's mass: 1000 * X > mass
unfoldable pub is_above : Lists → List ℕ → List ℕ → Bool
is_above t article substance = is_candidate t substance && nat_lt (mass t article) (1000 * content t article substance)
