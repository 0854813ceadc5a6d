-- Laws of the definitions. Each is the contract of a function without a body in `src/laws.rt`, so that the check proves it.
use Rattle.std.specs.Prelude.{◌≡◌, ℕ, ◌+◌, ◌*◌, ◌^◌, ◌≤◌, Bool, true, false, not, ◌||◌, List, [], ◌∷◌, Some, count_by, length, nat_le, sum_by, if◌then◌else◌}
use Rattle.std.specs.List.{list_all, list_any}
use Rattle.std.specs.Option.{option_map_or}
use Rattle.std.specs.Ordering.{is_lt, nat_cmp}
use Rattle.desk_text.specs.Code.{code_cmp, same_code}
use Rattle.desk_rows.specs.Runs.{IsOneRun}
use Rattle.desk_model.specs.Lists.{IsOrdered, Lists, is_kept, is_material, is_part}
use Rattle.desk_findings.specs.Articles.{is_article, is_article_sort}
use Rattle.desk_findings.specs.Bill.{IsBill, are_children_kept, are_children_right, are_codes_apart, are_parents_kept, do_contents_fit, is_acyclic}
use Rattle.desk_findings.specs.Carried.{carried, own_load}
use Rattle.desk_findings.specs.Chain.{are_linked, begins_with, chain, chain_within, ends_with, next_to}
use Rattle.desk_findings.specs.Findings.{Finding, finding_count, findings, findings_at, findings_of_article, findings_on, is_in, own_findings, same_finding}
use Rattle.desk_findings.specs.Mass.{mass, own_mass}
use Rattle.desk_findings.specs.Reaches.{enough, is_or_reaches, lines_of, reaches, reaches_within}
use Rattle.desk_findings.specs.Rolled.{rolled, rolled_within}
use Rattle.desk_findings.specs.Share.{members_of}
use Rattle.desk_findings.specs.Tonnage.{shipments_in}
use Rattle.desk_findings.specs.Totals.{too_heavy_part, too_heavy_year, year_mass}

-- the recursions over the bill come to the same at any greater depth
pub record DepthIsEnough : Type 0 where
  pub reached : (t : Lists) → are_parents_kept t ≡ true → (more : ℕ) (part target : List ℕ) →
      reaches_within t.lines (more + enough t) part target ≡ reaches t part target
  pub rolled_up : (t : Lists) → IsBill t → (own : List ℕ → ℕ) (more : ℕ) (code : List ℕ) → rolled_within t.lines own (more + enough t) code ≡ rolled t own code
  pub chained : (t : Lists) → IsBill t → (deeper more : ℕ) (part target : List ℕ) →
      chain_within t.lines (deeper + enough t) (more + enough t) part target ≡ chain t part target

-- a part reaches the children of its lines and what these reach
abbrev pub ReachesByLines : Type 0
ReachesByLines = (t : Lists) → are_parents_kept t ≡ true → (part target : List ℕ) →
    reaches t part target ≡ list_any (λ line. is_or_reaches t line.child target) (lines_of t.lines part)

-- a part weighs what its lines lead to
abbrev pub MassByLines : Type 0
MassByLines = (t : Lists) → IsBill t → (code : List ℕ) →
    mass t code ≡ own_mass t code + sum_by (λ line. line.count * mass t line.child) (lines_of t.lines code)

-- a part carries its own load and what its lines lead to
abbrev pub CarriedByLines : Type 0
CarriedByLines = (t : Lists) → IsBill t → (substance code : List ℕ) →
    carried t substance code ≡ own_load t substance code + sum_by (λ line. line.count * carried t substance line.child) (lines_of t.lines code)

-- a chain is the part alone, or the part and the chain of its next child
abbrev pub ChainByNext : Type 0
ChainByNext = (t : Lists) → IsBill t → (part target : List ℕ) →
    chain t part target ≡ (if same_code part target then part ∷ [] else part ∷ option_map_or (λ child. chain t child target) (next_to t part target) [])

-- a value that is stored at each material and part, and that is right by the values stored at the children, is the one that rolls up
abbrev pub StoredRollUpIsRight : Type 0
StoredRollUpIsRight = (t : Lists) → IsBill t → are_children_kept t ≡ true → (own stored : List ℕ → ℕ) →
    ((code : List ℕ) → is_kept t code ≡ true → stored code ≡ own code + sum_by (λ line. line.count * stored line.child) (lines_of t.lines code)) →
    (code : List ℕ) → is_kept t code ≡ true → stored code ≡ rolled t own code

-- a mark that is stored at each material and part, and that is right by the marks stored at the children, says whether it reaches
-- the target
abbrev pub StoredMarkIsRight : Type 0
StoredMarkIsRight = (t : Lists) → IsBill t → are_children_kept t ≡ true → (target : List ℕ) (stored : List ℕ → Bool) →
    ((code : List ℕ) → is_kept t code ≡ true → stored code ≡ list_any (λ line. same_code line.child target || stored line.child) (lines_of t.lines code)) →
    (code : List ℕ) → is_kept t code ≡ true → stored code ≡ reaches t code target

-- a chain begins with the part, goes from line to line, and ends with the target exactly where the part is it or reaches it
pub record ChainLeads : Type 0 where
  pub begins : (t : Lists) (part target : List ℕ) → begins_with part (chain t part target) ≡ true
  pub linked : (t : Lists) → IsBill t → (part target : List ℕ) → are_linked t (chain t part target) ≡ true
  pub ends : (t : Lists) → IsBill t → (part target : List ℕ) → ends_with target (chain t part target) ≡ is_or_reaches t part target

-- where the definitions take the first of several, it is the least: the next of a chain has the least code of all children of the part
-- that are the target or reach it; the part that is told as too heavy the least code of all such, and the year the least number
pub record FirstsAreLeast : Type 0 where
  pub child : (t : Lists) → IsOrdered t → (part target child : List ℕ) → next_to t part target ≡ Some child →
      list_all (λ line. not (is_or_reaches t line.child target) || not (is_lt (code_cmp line.child child))) (lines_of t.lines part) ≡ true
  pub part : (t : Lists) → IsOrdered t → (code : List ℕ) → too_heavy_part t ≡ Some code →
      list_all (λ part. not (nat_le (2 ^ 128) (mass t part.code)) || not (is_lt (code_cmp part.code code))) t.parts ≡ true
  pub year : (t : Lists) → IsOrdered t → (year : ℕ) → too_heavy_year t ≡ Some year →
      list_all (λ shipment. not (nat_le (2 ^ 128) (year_mass t shipment.year)) || not (is_lt (nat_cmp shipment.year year))) t.shipments ≡ true

-- findings go up like masses: what is found at a code is its own and what is found at the children of its lines, each once. A part has
-- just its findings, and what is neither a material nor an article has none of its own
pub record FindingsByLines : Type 0 where
  pub by_lines : (t : Lists) → IsOrdered t → are_parents_kept t ≡ true → (code : List ℕ) (finding : Finding) →
      is_in finding (findings_at t code)
      ≡ (is_in finding (own_findings t code) || list_any (λ line. is_in finding (findings_at t line.child)) (lines_of t.lines code))
  pub once : (t : Lists) → IsOrdered t → are_parents_kept t ≡ true → are_codes_apart t ≡ true → (code : List ℕ) (finding : Finding) →
      count_by (same_finding finding) (findings_at t code) ≡ (if is_in finding (findings_at t code) then 1 else 0)
  pub of_part : (t : Lists) → are_codes_apart t ≡ true → (code : List ℕ) → is_part t code ≡ true → findings_at t code ≡ findings t code
  pub of_none : (t : Lists) → (code : List ℕ) → is_material t code ≡ false → is_article t code ≡ false → own_findings t code ≡ []

-- a list of findings that is stored at each material and part, and that holds each of its own and of the lists stored at the children once,
-- holds what is found there, and so the lengths of these lists at the parts sum to the number of all findings
pub record StoredFindingsAreRight (t : Lists) (stored : List ℕ → List Finding) : Type 0 where
  pub same : (code : List ℕ) → is_kept t code ≡ true → (finding : Finding) → is_in finding (stored code) ≡ is_in finding (findings_at t code)
  pub lengths : (code : List ℕ) → is_kept t code ≡ true → length (stored code) ≡ length (findings_at t code)
  pub all : sum_by (λ part. length (stored part.code)) t.parts ≡ finding_count t

-- the list stored at each material and part holds each of its own findings and of those stored at its lines' children,
-- once, and no other
abbrev pub IsStoredByLines : Lists → (List ℕ → List Finding) → Type 0
IsStoredByLines t stored = (code : List ℕ) → is_kept t code ≡ true → (finding : Finding) →
    count_by (same_finding finding) (stored code)
    ≡ (if is_in finding (own_findings t code) || list_any (λ line. is_in finding (stored line.child)) (lines_of t.lines code) then 1 else 0)

-- lists of findings that are stored by lines at the materials and parts are right: they hold what is found there
abbrev pub FindingsAreStored : Type 0
FindingsAreStored = (t : Lists) → IsOrdered t → IsBill t → are_children_kept t ≡ true → are_codes_apart t ≡ true → (stored : List ℕ → List Finding) →
    IsStoredByLines t stored → StoredFindingsAreRight t stored

-- the number of all findings is the sum, over the materials and articles, of their own findings times the parts that reach them or are them
abbrev pub FindingsByHolder : Type 0
FindingsByHolder = (t : Lists) →
    finding_count t
    ≡ sum_by (λ material. length (findings_on t material) * count_by (λ part. reaches t part.code material.code) t.parts) t.materials
    + sum_by (λ article. if is_article_sort article.sort
    then length (findings_of_article t article) * count_by (λ part. is_or_reaches t part.code article.code) t.parts else 0) t.parts

-- the lines of a part, the shipments of a year and the members of a substance are each one run of their table, so that a search for
-- its two ends finds them
pub record RowsStandTogether : Type 0 where
  pub lines : (t : Lists) → IsOrdered t → (part : List ℕ) → IsOneRun (λ line. line.parent) code_cmp part t.lines (lines_of t.lines part)
  pub shipments : (t : Lists) → IsOrdered t → (year : ℕ) → IsOneRun (λ shipment. shipment.year) nat_cmp year t.shipments (shipments_in t year)
  pub members : (t : Lists) → IsOrdered t → (substance : List ℕ) → IsOneRun (λ member. member.substance) code_cmp substance t.members (members_of t substance)

-- what a part carries of a substance never exceeds its mass
abbrev pub CarriedWithinMass : Type 0
CarriedWithinMass = (t : Lists) → are_children_right t ≡ true → are_codes_apart t ≡ true → do_contents_fit t ≡ true → is_acyclic t ≡ true →
    (substance code : List ℕ) → carried t substance code ≤ mass t code
