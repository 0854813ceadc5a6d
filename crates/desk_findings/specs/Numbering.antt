-- Findings by number, and the materials and parts in a list of labels.
use Rattle.std.specs.Prelude.{◌≡◌, ℕ, Bool, true, ◌||◌, List, [], ◌<◌, ◌≤◌, ◌==◌, count_by, length, slice_index_or, sum_by, if◌then◌else◌}
use Rattle.std.specs.List.{list_any, range_with_len}
use Rattle.desk_text.specs.Code.{same_code}
use Rattle.desk_model.specs.Lists.{IsOrdered, Lists, is_kept}
use Rattle.desk_findings.specs.Bill.{IsBill, IsRight, are_children_kept, are_codes_apart}
use Rattle.desk_findings.specs.Findings.{Finding, finding_count, findings_at, is_in, own_findings}
use Rattle.desk_findings.specs.Holders.{holder}
use Rattle.desk_findings.specs.Reaches.{lines_of}

-- one of the numbers is this one
abbrev pub has_number : List ℕ → ℕ → Bool
has_number numbers number = list_any (λ other. other == number) numbers

-- one of the findings has this number
abbrev pub has_numbered : (Finding → ℕ) → List Finding → ℕ → Bool
has_numbered number found n = list_any (λ finding. number finding == n) found

-- the tables have the finding: its holder has it as its own
abbrev pub is_found : Lists → Finding → Bool
is_found t finding = is_in finding (own_findings t (holder finding))

-- the findings of the tables have different numbers
abbrev pub AreNumbered : Lists → (Finding → ℕ) → Type 0
AreNumbered t number = (a b : Finding) → is_found t a ≡ true → is_found t b ≡ true → number a ≡ number b → a ≡ b

-- the list has each kept material and part once, and no other code
abbrev pub AreLabels : Lists → List (List ℕ) → Type 0
AreLabels t labels = (code : List ℕ) → count_by (λ listed. same_code listed code) labels ≡ (if is_kept t code then 1 else 0)

-- numbers that are stored at each material and part, and that are right by those stored at the children, are the numbers of the findings
-- there; where none stands twice, they are as many; and all findings are as many as are stored at the codes that have lines
pub record FindingsAreNumbered : Type 0 where
  pub same : (t : Lists) → IsOrdered t → IsBill t → are_children_kept t ≡ true → (number : Finding → ℕ) (stored : List ℕ → List ℕ) →
      ((code : List ℕ) → is_kept t code ≡ true → (n : ℕ) → has_number (stored code) n ≡ (has_numbered number (own_findings t code) n || list_any (λ line. has_number (stored line.child) n) (lines_of t.lines code))) →
      (code : List ℕ) → is_kept t code ≡ true → (n : ℕ) → has_number (stored code) n ≡ has_numbered number (findings_at t code) n
  pub lengths : (t : Lists) → IsOrdered t → IsBill t → are_codes_apart t ≡ true → (number : Finding → ℕ) → AreNumbered t number → (code : List ℕ) (numbers : List ℕ) →
      ((n : ℕ) → count_by (λ other. other == n) numbers ≤ 1) → ((n : ℕ) → has_number numbers n ≡ has_numbered number (findings_at t code) n) →
      length numbers ≡ length (findings_at t code)
  pub all : (t : Lists) → IsOrdered t → IsRight t → (labels : List (List ℕ)) → AreLabels t labels → (lines sizes : ℕ → ℕ) →
      ((node : ℕ) → node < length labels → lines node ≡ length (lines_of t.lines (slice_index_or labels node []))) →
      ((node : ℕ) → node < length labels → sizes node ≡ length (findings_at t (slice_index_or labels node []))) →
      sum_by (λ node. if lines node == 0 then 0 else sizes node) (range_with_len 0 (length labels)) ≡ finding_count t
