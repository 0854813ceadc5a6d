-- How many lines one parent has after a change of the rows.
use Rattle.std.proofs.Common.{◌≡◌, ℕ, ◌+◌, ◌≤◌, Bool, true, false, ◌&&◌, ◌||◌, List, [], ◌∷◌, ◌++◌, Option, length, filter, refl, sym, ◌∙◌, subst, Ordering, Less, Equal, Greater, is_eq, is_some, nat_lt, if◌then◌else◌, arith}
use Rattle.std.specs.List.{list_any}
use Rattle.std.specs.Ordering.{ordering_then}
use Rattle.std.proofs.lemmas.Bool.{false≢true, or_parts, ltb-false, le-ltb}
use Rattle.std.proofs.lemmas.Map.Lookups.{exact_bytes}
use Rattle.desk_text.specs.Code.{code_cmp, same_code}
use Rattle.desk_text.proofs.CodeLemmas.{same_code_itself}
use Rattle.desk_rows.specs.Rows.{IsByKey, row_of, with_row, without_row}
use Rattle.desk_rows.proofs.Lookups.{each_with_row, filter-with_row}
use Rattle.desk_rows.proofs.Order.{AllAbove-down, first_above, less_back, rest_by_key, row_of-above}
use Rattle.desk_model.specs.declared.limits.TheConstants.{LINES_OF_PARENT_LIMIT}
use Rattle.desk_model.specs.declared.rows.line.LineRow.{LineRow}
use Rattle.desk_model.specs.declared.rows.part.PartRow.{PartRow}
use Rattle.desk_model.specs.declared.rows.ticket.TicketRow.{TicketRow}
use Rattle.desk_model.specs.Lists.{Lists, is_part, line_key, line_key_cmp}
use Rattle.desk_model.proofs.Elements.{any_none, each, none_from_any}
use Rattle.desk_model.proofs.Kept.{kept_each, line_key_cmp_total, same_code-true}
use Rattle.desk_findings.specs.Reaches.{lines_of}
use Rattle.desk_findings.proofs.Bill.{lines_of-none}
use Rattle.desk_history.specs.Limits.{has_too_many_lines}
use Rattle.desk_history.proofs.TableLimits.{few_of_parents}
use Rattle.desk_history.specs.Sound.{Sound}
use Rattle.desk_history.proofs.SoundClauses.{parents_of}
use Rattle.desk_tables.specs.Change.{with_change_made}
use Rattle.desk_tables.specs.Plan.{with_change_entered}
use Rattle.desk_tables.specs.declared.row_change.RowChange.{RowChange}
use Rattle.desk_tables.specs.declared.row_change.RowChange.TheVariants as change

then_equal : (a b : Ordering) → ordering_then a b ≡ Equal → a ≡ Equal
then_equal Less b e = e
then_equal Equal b e = refl
then_equal Greater b e = e

-- lines with one key have one parent
same_parent : (row new : LineRow) → line_key_cmp (line_key row) (line_key new) ≡ Equal → row.parent ≡ new.parent
same_parent row new e = exact_bytes row.parent new.parent (then_equal (code_cmp row.parent new.parent) (code_cmp row.child new.child) e)

-- 1 for a line whose key isn't there, and 0 for any other
added : LineRow → List LineRow → ℕ
added new lines = if is_some (row_of line_key line_key_cmp (line_key new) lines) then 0 else 1

module _ (new : LineRow) where
  of_parent : LineRow → Bool
  of_parent line = same_code line.parent new.parent

  it_is : of_parent new ≡ true
  unfolding of_parent
  it_is = same_code_itself new.parent

  one_step : (row : LineRow) (rows : List LineRow) (a : Ordering) → line_key_cmp (line_key row) (line_key new) ≡ a → IsByKey line_key line_key_cmp (row ∷ rows) → length (filter of_parent (with_row line_key line_key_cmp new rows)) ≡ length (filter of_parent rows) + added new rows → length (filter of_parent (with_row line_key line_key_cmp new (row ∷ rows))) ≡ length (filter of_parent (row ∷ rows)) + added new (row ∷ rows)
  unfolding added of_parent
  one_step row rows Less e h ih = rw e (elim (of_parent row) as (λ b. length (if b then row ∷ filter of_parent (with_row line_key line_key_cmp new rows) else filter of_parent (with_row line_key line_key_cmp new rows)) ≡ length (if b then row ∷ filter of_parent rows else filter of_parent rows) + added new rows) [ true ↦ omega (arith, ih) | false ↦ ih ])
  one_step row rows Equal e h ih =
      let same : of_parent row ≡ true = subst (λ parent. same_code parent new.parent ≡ true) (sym (same_parent row new e)) it_is in
      rw e (rw it_is (rw same (omega arith)))
  one_step row rows Greater e h ih =
      let above = AllAbove-down line_key line_key_cmp line_key_cmp_total (line_key new) (line_key row) rows (less_back line_key line_key_cmp line_key_cmp_total (line_key row) (line_key new) e) (first_above line_key line_key_cmp line_key_cmp_total row rows h) in
      rw e (rw (row_of-above line_key line_key_cmp line_key_cmp_total (line_key new) rows above) (rw it_is (omega arith)))

  count_from : (lines : List LineRow) → IsByKey line_key line_key_cmp lines → length (filter of_parent (with_row line_key line_key_cmp new lines)) ≡ length (filter of_parent lines) + added new lines
  unfolding added
  count_from [] h = rw it_is refl
  count_from (row ∷ rows) h = one_step row rows (line_key_cmp (line_key row) (line_key new)) refl h (count_from rows (rest_by_key line_key line_key_cmp line_key_cmp_total row rows h))

-- a parent has one line more where the line is new
pub parent_count : (new : LineRow) (lines : List LineRow) → IsByKey line_key line_key_cmp lines → length (lines_of (with_row line_key line_key_cmp new lines) new.parent) ≡ length (lines_of lines new.parent) + (if is_some (row_of line_key line_key_cmp (line_key new) lines) then 0 else 1)
unfolding of_parent added
parent_count new lines h = count_from new lines h

pub count_kept : (new : LineRow) (lines : List LineRow) → IsByKey line_key line_key_cmp lines → is_some (row_of line_key line_key_cmp (line_key new) lines) ≡ true → length (lines_of lines new.parent) ≡ length (lines_of (with_row line_key line_key_cmp new lines) new.parent)
count_kept new lines h kept = let count = parent_count new lines h in omega (arith, rw kept at count)

pub count_new : (new : LineRow) (lines : List LineRow) → IsByKey line_key line_key_cmp lines → is_some (row_of line_key line_key_cmp (line_key new) lines) ≡ false → length (lines_of lines new.parent) + 1 ≡ length (lines_of (with_row line_key line_key_cmp new lines) new.parent)
count_new new lines h absent = let count = parent_count new lines h in omega (arith, rw absent at count)

-- no part has too many lines where each list of lines is as long as it was, or shorter
shorter : (lines fewer : List LineRow) → ((code : List ℕ) → length (lines_of fewer code) ≤ length (lines_of lines code)) → (parts : List PartRow) → list_any (λ part. nat_lt LINES_OF_PARENT_LIMIT (length (lines_of lines part.code))) parts ≡ false → list_any (λ part. nat_lt LINES_OF_PARENT_LIMIT (length (lines_of fewer part.code))) parts ≡ false
shorter lines fewer less [] h = refl
shorter lines fewer less (part ∷ parts) h =
    let both = or_parts (nat_lt LINES_OF_PARENT_LIMIT (length (lines_of lines part.code))) (list_any (λ part. nat_lt LINES_OF_PARENT_LIMIT (length (lines_of lines part.code))) parts) h in
    let few = ltb-false LINES_OF_PARENT_LIMIT (length (lines_of lines part.code)) both.0 in
    rw (le-ltb LINES_OF_PARENT_LIMIT (length (lines_of fewer part.code)) (omega (arith, few, less part.code))) (shorter lines fewer less parts both.1)

fewer_without : (k : List ℕ × List ℕ) (code : List ℕ) (lines : List LineRow) → length (lines_of (without_row line_key line_key_cmp k lines) code) ≤ length (lines_of lines code)
fewer_without k code [] = omega arith
fewer_without k code (line ∷ lines) =
    elim (is_eq (line_key_cmp (line_key line) k)) as (λ b. length (lines_of (if b then lines else line ∷ without_row line_key line_key_cmp k lines) code) ≤ length (lines_of (line ∷ lines) code)) [
      | true ↦ elim (same_code line.parent code) as (λ b. length (lines_of lines code) ≤ length (if b then line ∷ lines_of lines code else lines_of lines code)) [ true ↦ omega arith | false ↦ omega arith ]
      | false ↦ elim (same_code line.parent code) as (λ b. length (if b then line ∷ lines_of (without_row line_key line_key_cmp k lines) code else lines_of (without_row line_key line_key_cmp k lines) code) ≤ length (if b then line ∷ lines_of lines code else lines_of lines code)) [
        | true ↦ omega (arith, fewer_without k code lines)
        | false ↦ fewer_without k code lines
      ]
    ]

other_way : (a b : List ℕ) → same_code a b ≡ false → same_code b a ≡ false
other_way a b e =
    elim (same_code b a) as (λ s. same_code b a ≡ s → s ≡ false) [
      | true ↦ λ same. absurd (false≢true (sym e ∙ subst (λ c. same_code a c ≡ true) (sym (same_code-true b a same)) (same_code_itself a)))
      | false ↦ λ same. refl
    ] refl

-- a new line matters to its parent's lines alone
others_stay : (new : LineRow) (lines : List LineRow) (code : List ℕ) → same_code new.parent code ≡ false → lines_of (with_row line_key line_key_cmp new lines) code ≡ lines_of lines code
others_stay new lines code apart =
    filter-with_row line_key line_key_cmp (λ line. same_code line.parent code) new lines apart
    (each (λ line. line_key_cmp (line_key line) (line_key new) ≡ Equal → same_code line.parent code ≡ false) (λ line e. subst (λ c. same_code c code ≡ false) (sym (same_parent line new e)) apart) lines)

unfoldable pub are_over : List LineRow → List PartRow → Bool
are_over lines parts = list_any (λ part. nat_lt LINES_OF_PARENT_LIMIT (length (lines_of lines part.code))) parts

unfoldable pub is_over_at : List LineRow → List ℕ → Bool
is_over_at lines code = nat_lt LINES_OF_PARENT_LIMIT (length (lines_of lines code))

absorbed : (big kept rest : Bool) → rest ≡ (kept && big) → (big || rest) ≡ (true && big)
absorbed true kept rest e = refl
absorbed false true rest e = e
absorbed false false rest e = e

part_step : (new : LineRow) (lines : List LineRow) (part : PartRow) (parts : List PartRow) (b : Bool) → same_code part.code new.parent ≡ b → is_over_at lines part.code ≡ false → are_over (with_row line_key line_key_cmp new lines) parts ≡ (is_some (row_of (λ row. row.code) code_cmp new.parent parts) && is_over_at (with_row line_key line_key_cmp new lines) new.parent) → are_over (with_row line_key line_key_cmp new lines) (part ∷ parts) ≡ (is_some (row_of (λ row. row.code) code_cmp new.parent (part ∷ parts)) && is_over_at (with_row line_key line_key_cmp new lines) new.parent)
unfolding are_over is_over_at
part_step new lines part parts true e few ih =
    let same : part.code ≡ new.parent = same_code-true part.code new.parent e in
    rw e (rw same (absorbed (is_over_at (with_row line_key line_key_cmp new lines) new.parent) (is_some (row_of (λ row. row.code) code_cmp new.parent parts)) (are_over (with_row line_key line_key_cmp new lines) parts) ih))
part_step new lines part parts false e few ih =
    let apart : same_code new.parent part.code ≡ false = other_way part.code new.parent e in
    rw e (rw (others_stay new lines part.code apart) (rw few ih))

-- the line's parent has too many lines then, or no part has
pub line_overflows : (new : LineRow) (lines : List LineRow) (parts : List PartRow) → are_over lines parts ≡ false → are_over (with_row line_key line_key_cmp new lines) parts ≡ (is_some (row_of (λ row. row.code) code_cmp new.parent parts) && is_over_at (with_row line_key line_key_cmp new lines) new.parent)
unfolding are_over is_over_at
line_overflows new lines [] h = refl
line_overflows new lines (part ∷ parts) h =
    let both = or_parts (is_over_at lines part.code) (are_over lines parts) h in
    part_step new lines part parts (same_code part.code new.parent) refl both.0 (line_overflows new lines parts both.1)

module _ (t : Lists) (s : Sound t) where
  none_over : are_over t.lines t.parts ≡ false
  unfolding are_over
  none_over = few_of_parents t s.limits.tables_fit

  -- no code has too many lines in sound tables: what is no part has none
  any_code : (code : List ℕ) → is_over_at t.lines code ≡ false
  unfolding is_over_at are_over
  any_code code =
      elim (is_part t code) as (λ b. is_part t code ≡ b → nat_lt LINES_OF_PARENT_LIMIT (length (lines_of t.lines code)) ≡ false) [
        | true ↦ λ kept.
            kept_each (λ part. part.code) (λ code. nat_lt LINES_OF_PARENT_LIMIT (length (lines_of t.lines code)) ≡ false) code t.parts
            (none_from_any (λ part. nat_lt LINES_OF_PARENT_LIMIT (length (lines_of t.lines part.code))) t.parts none_over) kept
        | false ↦ λ absent. rw (lines_of-none t (parents_of t s.consistent) code absent) refl
      ] refl

  -- of all changes a line that goes in alone can give a part too many lines
  pub with_line : (new : LineRow) (room : Option ℕ) → has_too_many_lines (with_change_made t (change.PutLine new room)) ≡ (is_part t new.parent && nat_lt LINES_OF_PARENT_LIMIT (length (lines_of (with_row line_key line_key_cmp new t.lines) new.parent)))
  unfolding with_change_made are_over is_over_at
  with_line new room = line_overflows new t.lines t.parts none_over

  pub without_line : (made : RowChange) → ((new : LineRow) (room : Option ℕ) → made ≡ change.PutLine new room → ⊥) → has_too_many_lines (with_change_made t made) ≡ false
  unfolding with_change_made are_over is_over_at
  without_line (change.PutSubstance row room) other = none_over
  without_line (change.PutMember row room) other = none_over
  without_line (change.DropMember substance rule) other = none_over
  without_line (change.PutMaterials rows room) other = none_over
  without_line (change.PutPart row room) other =
      any_none (λ part. nat_lt LINES_OF_PARENT_LIMIT (length (lines_of t.lines part.code))) (with_row (λ row. row.code) code_cmp row t.parts)
      (each_with_row (λ row. row.code) code_cmp (λ part. nat_lt LINES_OF_PARENT_LIMIT (length (lines_of t.lines part.code)) ≡ false) row t.parts (any_code row.code)
      (none_from_any (λ part. nat_lt LINES_OF_PARENT_LIMIT (length (lines_of t.lines part.code))) t.parts none_over))
  without_line (change.PutLine new room) other = absurd (other new room refl)
  without_line (change.DropLine parent child) other =
      shorter t.lines (without_row line_key line_key_cmp (parent, child) t.lines) (λ code. fewer_without (parent, child) code t.lines) t.parts none_over
  without_line (change.PutProduct row room) other = none_over
  without_line (change.PutExemption row room) other = none_over
  without_line (change.DropExemption row) other = none_over
  without_line (change.PutCandidate row room) other = none_over
  without_line (change.PutShipment row room) other = none_over
  without_line (change.DropShipment year product) other = none_over

-- a change that no ticket touches
pub lines_of_entered : (t : Lists) (made : RowChange) (ticket : TicketRow) → has_too_many_lines (with_change_entered t made ticket) ≡ has_too_many_lines (with_change_made t made)
lines_of_entered t made ticket = refl
