-- An edit that is neither a line nor a declaration makes nothing heavier.
use Rattle.std.proofs.Common.{◌≡◌, ℕ, ◌^◌, ◌≤◌, Bool, true, false, cond, List, [], ◌∷◌, filter, find, sum_by, Option, Some, None, refl, sym, ap, ◌∙◌, subst, inl, inr, arith}
use Rattle.std.specs.Prelude.{nat_le, option_map}
use Rattle.std.specs.List.{AllByRecursion}
use Rattle.std.specs.Option.{option_map_or}
use Rattle.std.proofs.lemmas.Bool.{cases_Bool, leb-false, lt-leb, true≢false}
use Rattle.desk_text.specs.Code.{code_cmp}
use Rattle.desk_rows.specs.Rows.{row_of, without_row}
use Rattle.desk_rows.proofs.Lookups.{each_with_row}
use Rattle.desk_rows.proofs.Sums.{sum_by-filter, sum_by-without_row-le}
use Rattle.desk_model.specs.declared.edit.Edit.{Edit}
use Rattle.desk_model.specs.declared.edit.Edit.TheVariants.{Substance, Member, Declare, Part, Line, Unline, Product, Exemption, Unexempt, Candidate, Ship, Unship}
use Rattle.desk_model.specs.declared.part_sort.PartSort.{PartSort}
use Rattle.desk_model.specs.declared.rows.line.LineRow.{LineRow}
use Rattle.desk_model.specs.declared.rows.material.MaterialRow.{MaterialRow}
use Rattle.desk_model.specs.Effect.{with_edit_entered, with_edit_made}
use Rattle.desk_model.specs.Lists.{Lists, is_material, is_part, line_key, line_key_cmp, material_row}
use Rattle.desk_model.proofs.Elements.{each_map, find-none}
use Rattle.desk_model.proofs.Kept.{kept_each}
use Rattle.desk_findings.specs.Mass.{mass}
use Rattle.desk_findings.specs.Reaches.{lines_of}
use Rattle.desk_findings.specs.Totals.{too_heavy_part}
use Rattle.desk_findings.proofs.Bill.{lines_of-none}
use Rattle.desk_findings.proofs.Lighter.{mass-lighter}
use Rattle.desk_findings.proofs.Loads.{mass-step}
use Rattle.desk_history.specs.History.{PassesRows}
use Rattle.desk_history.specs.Rising.{may_raise_masses}
use Rattle.desk_history.specs.Refused.{name_taken, total_too_large}
use Rattle.desk_history.specs.Sound.{IsConsistent}
use Rattle.desk_history.proofs.SoundClauses.{bill_of, parents_of}
use Rattle.desk_history.proofs.MadeRows.{refuse_if-none}
use Rattle.desk_history.proofs.Rules.{unrefused}
use Rattle.desk_history.proofs.SoundSteps.{IsConsistent-entered}
use Rattle.desk_history.proofs.Untouched.{SameBill, member_leaves, parts_of_member, parts_of_ship, parts_of_unship, ship_leaves, unship_leaves}

unmapped : {X Y : Type 0} (f : X → Y) (o : Option X) → option_map f o ≡ None → o ≡ None
unmapped f None h = refl
unmapped f (Some x) h = some_none (f x) h
  where
    some_none : {Z : Type 0} (z : Z) {G : Type 0} → Some z ≡ None → G
    some_none z k = cc

-- where no first value passes a test, no value does, and the other way round
pub none_first : {X Y : Type 0} (f : X → Y) (test : X → Bool) (xs : List X) → option_map f (find test xs) ≡ None → AllByRecursion (λ x. test x ≡ false) xs
none_first f test xs e = find-none test xs (unmapped f (find test xs) e)

pub first_none : {X Y : Type 0} (f : X → Y) (test : X → Bool) (xs : List X) → AllByRecursion (λ x. test x ≡ false) xs → option_map f (find test xs) ≡ None
first_none f test [] a = refl
first_none f test (x ∷ xs) a = rw a.0 (first_none f test xs a.1)

-- what is no more than what is below a bound is below it
pub below_bound : (bound less more : ℕ) → less ≤ more → nat_le bound more ≡ false → nat_le bound less ≡ false
below_bound bound less more h e = lt-leb bound less (omega (arith, h, leb-false bound more e))

-- the second tables weigh no more: they have the same materials, and no more lines
record NoHeavier (t u : Lists) : Type 0 where
  materials : u.materials ≡ t.materials
  lines : (f : LineRow → ℕ) (code : List ℕ) → sum_by f (lines_of u.lines code) ≤ sum_by f (lines_of t.lines code)

same_weight : (t u : Lists) → SameBill t u → NoHeavier t u
same_weight t u same = record { materials = same.materials; lines = λ f code. rw same.lines (omega arith) }

fewer_lines : (test : LineRow → Bool) (f : LineRow → ℕ) (parent child : List ℕ) (lines : List LineRow) → sum_by f (filter test (without_row line_key line_key_cmp (parent, child) lines)) ≤ sum_by f (filter test lines)
fewer_lines test f parent child lines =
    let less = sum_by-without_row-le line_key line_key_cmp (λ line. cond (test line) (f line) 0) (parent, child) lines in
    omega (arith, less, sum_by-filter test f (without_row line_key line_key_cmp (parent, child) lines), sum_by-filter test f lines)

no_heavier : (t : Lists) (edit : Edit) → may_raise_masses edit ≡ false → NoHeavier t (with_edit_entered t edit)
unfolding with_edit_entered with_edit_made
no_heavier t (Substance ticket code name cas) e = same_weight t (with_edit_entered t (Substance ticket code name cas)) (record { materials = refl; lines = refl })
no_heavier t (Member ticket substance rule factor) e = same_weight t (with_edit_entered t (Member ticket substance rule factor)) (member_leaves t ticket substance rule factor)
no_heavier t (Declare declaration) e = absurd (true≢false e)
no_heavier t (Part ticket code sort name) e = same_weight t (with_edit_entered t (Part ticket code sort name)) (record { materials = refl; lines = refl })
no_heavier t (Line ticket parent child count) e = absurd (true≢false e)
no_heavier t (Unline ticket parent child) e = record { materials = refl; lines = λ f code. fewer_lines (λ line. Rattle.desk_text.specs.Code.same_code line.parent code) f parent child t.lines }
no_heavier t (Product ticket part kind) e = same_weight t (with_edit_entered t (Product ticket part kind)) (record { materials = refl; lines = refl })
no_heavier t (Exemption ticket exemption) e = same_weight t (with_edit_entered t (Exemption ticket exemption)) (record { materials = refl; lines = refl })
no_heavier t (Unexempt ticket row) e = same_weight t (with_edit_entered t (Unexempt ticket row)) (record { materials = refl; lines = refl })
no_heavier t (Candidate ticket substance day) e = same_weight t (with_edit_entered t (Candidate ticket substance day)) (record { materials = refl; lines = refl })
no_heavier t (Ship ticket product year units) e = same_weight t (with_edit_entered t (Ship ticket product year units)) (ship_leaves t ticket product year units)
no_heavier t (Unship ticket product year units) e = same_weight t (with_edit_entered t (Unship ticket product year units)) (unship_leaves t ticket product year units)

module _ (t : Lists) (s : IsConsistent t) (edit : Edit) (passed : PassesRows t edit) (e : may_raise_masses edit ≡ false) where
  -- nothing weighs more than before
  pub mass-le : (code : List ℕ) → mass (with_edit_entered t edit) code ≤ mass t code
  mass-le =
      let h = no_heavier t edit e in
      mass-lighter t (with_edit_entered t edit) (bill_of t s) (bill_of (with_edit_entered t edit) (IsConsistent-entered t edit s passed))
      (λ code. ap (λ rows. option_map_or (λ material. material.mass) (row_of (λ row. row.code) code_cmp code rows) 0) h.materials) h.lines

-- what is neither a part nor a material weighs nothing
pub mass_of_none : (t : Lists) → IsConsistent t → (code : List ℕ) → is_part t code ≡ false → is_material t code ≡ false → mass t code ≡ 0
mass_of_none t s code part material =
    let own = own_of_none (material_row t code) material in
    mass-step t (bill_of t s) code ∙ rw (lines_of-none t (parents_of t s) code part) (omega (arith, own))
  where
    own_of_none : (o : Option MaterialRow) → Rattle.std.proofs.Common.is_some o ≡ false → option_map_or (λ row. row.mass) o 0 ≡ 0
    own_of_none None h = refl
    own_of_none (Some row) h = absurd (true≢false h)

Light : Lists → List ℕ → Type 0
Light t code = nat_le (2 ^ 128) (mass t code) ≡ false

light_parts : (t : Lists) → too_heavy_part t ≡ None → AllByRecursion (λ part. Light t part.code) t.parts
unfolding too_heavy_part Light
light_parts t e = none_first (λ part. part.code) (λ part. nat_le (2 ^ 128) (mass t part.code)) t.parts e

not_too_heavy : (t : Lists) → AllByRecursion (λ part. Light t part.code) t.parts → too_heavy_part t ≡ None
unfolding too_heavy_part Light
not_too_heavy t a = first_none (λ part. part.code) (λ part. nat_le (2 ^ 128) (mass t part.code)) t.parts a

nothing_is_light : (t : Lists) (code : List ℕ) → mass t code ≡ 0 → Light t code
unfolding Light
nothing_is_light t code e = rw e refl

still_light : (t u : Lists) (code : List ℕ) → mass u code ≤ mass t code → Light t code → Light u code
unfolding Light
still_light t u code h light = below_bound (2 ^ 128) (mass u code) (mass t code) h light

-- a part is light where all kept ones are, and where it isn't kept it is no material
light_code : (t : Lists) → IsConsistent t → AllByRecursion (λ part. Light t part.code) t.parts → (code : List ℕ) → is_material t code ≡ false → Light t code
light_code t s light code material =
    elim (cases_Bool (is_part t code)) [
      | inl kept ↦ kept_each (λ row. row.code) (Light t) code t.parts light kept
      | inr absent ↦ nothing_is_light t code (mass_of_none t s code absent material)
    ]

module _ (t : Lists) (s : IsConsistent t) (fits : too_heavy_part t ≡ None) where
  plain : (edit : Edit) → (with_edit_made t edit).parts ≡ t.parts → (with_edit_entered t edit).parts ≡ t.parts
  unfolding with_edit_entered
  plain edit h = h

  same_parts : (edit : Edit) → PassesRows t edit → may_raise_masses edit ≡ false → (with_edit_entered t edit).parts ≡ t.parts → AllByRecursion (λ part. Light (with_edit_entered t edit) part.code) (with_edit_entered t edit).parts
  same_parts edit passed e parts =
      subst (λ rows. AllByRecursion (λ part. Light (with_edit_entered t edit) part.code) rows) (sym parts)
      (each_map (λ part. Light t part.code) (λ part. Light (with_edit_entered t edit) part.code) (λ part. still_light t (with_edit_entered t edit) part.code (mass-le t s edit passed e part.code)) t.parts (light_parts t fits))

  -- a part's name or a new part: the new one has no lines
  new_part : (ticket code name : List ℕ) (sort : PartSort) → PassesRows t (Part ticket code sort name) → AllByRecursion (λ part. Light (with_edit_entered t (Part ticket code sort name)) part.code) (with_edit_entered t (Part ticket code sort name)).parts
  unfolding with_edit_entered with_edit_made name_taken
  new_part ticket code name sort passed =
      let edit : Edit = Part ticket code sort name in
      let lighter = λ (other : List ℕ). still_light t (with_edit_entered t edit) other (mass-le t s edit passed refl other) in
      let material = refuse_if-none (is_material t code) _ (unrefused t edit passed).name_taken in
      each_with_row (λ row. row.code) code_cmp (λ part. Light (with_edit_entered t edit) part.code) (record { code = code; sort = sort; name = name }) t.parts
      (lighter code (light_code t s (light_parts t fits) code material))
      (each_map (λ part. Light t part.code) (λ part. Light (with_edit_entered t edit) part.code) (λ part. lighter part.code) t.parts (light_parts t fits))

  all_light : (edit : Edit) → PassesRows t edit → may_raise_masses edit ≡ false → AllByRecursion (λ part. Light (with_edit_entered t edit) part.code) (with_edit_entered t edit).parts
  unfolding with_edit_made
  all_light (Substance ticket code name cas) passed e = same_parts (Substance ticket code name cas) passed e (plain (Substance ticket code name cas) refl)
  all_light (Member ticket substance rule factor) passed e = same_parts (Member ticket substance rule factor) passed e (parts_of_member t ticket substance rule factor)
  all_light (Declare declaration) passed e = absurd (true≢false e)
  all_light (Part ticket code sort name) passed e = new_part ticket code name sort passed
  all_light (Line ticket parent child count) passed e = absurd (true≢false e)
  all_light (Unline ticket parent child) passed e = same_parts (Unline ticket parent child) passed e (plain (Unline ticket parent child) refl)
  all_light (Product ticket part kind) passed e = same_parts (Product ticket part kind) passed e (plain (Product ticket part kind) refl)
  all_light (Exemption ticket exemption) passed e = same_parts (Exemption ticket exemption) passed e (plain (Exemption ticket exemption) refl)
  all_light (Unexempt ticket row) passed e = same_parts (Unexempt ticket row) passed e (plain (Unexempt ticket row) refl)
  all_light (Candidate ticket substance day) passed e = same_parts (Candidate ticket substance day) passed e (plain (Candidate ticket substance day) refl)
  all_light (Ship ticket product year units) passed e = same_parts (Ship ticket product year units) passed e (parts_of_ship t ticket product year units)
  all_light (Unship ticket product year units) passed e = same_parts (Unship ticket product year units) passed e (parts_of_unship t ticket product year units)

  -- a mass that no edit of its sort can raise meets no refusal
  pub masses_fit : (edit : Edit) → PassesRows t edit → may_raise_masses edit ≡ false → total_too_large t edit ≡ None
  unfolding total_too_large
  masses_fit edit passed e = rw (not_too_heavy (with_edit_entered t edit) (all_light edit passed e)) refl
