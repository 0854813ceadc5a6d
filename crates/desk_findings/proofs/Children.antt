-- What a line's being right says of its ends.
use Rattle.std.proofs.Common.{◌≡◌, ℕ, Bool, true, false, not, ◌&&◌, ◌||◌, List, Option, Some, None, is_some, refl, ◌⊎◌, inl, inr, ⊎_elim}
use Rattle.std.specs.List.{AllByRecursion}
use Rattle.std.specs.Option.{option_map_or}
use Rattle.std.proofs.lemmas.Bool.{both_ways, false≢true, not-true, or_left, or_right, false_from_ne_true}
use Rattle.desk_model.specs.declared.part_sort.PartSort.{PartSort}
use Rattle.desk_model.specs.declared.part_sort.PartSort.TheVariants.{Article, Assembly}
use Rattle.desk_model.specs.declared.rows.line.LineRow.{LineRow}
use Rattle.desk_model.specs.declared.rows.part.PartRow.{PartRow}
use Rattle.desk_model.specs.Lists.{Lists, is_kept, is_material, is_part, part_row}
use Rattle.desk_model.proofs.Elements.{all_from_each, each_from_all, each_map}
use Rattle.desk_model.proofs.Kept.{kept_each}
use Rattle.desk_findings.specs.Articles.{is_article, is_article_sort, is_assembly, same_sort}
use Rattle.desk_findings.specs.Bill.{are_children_kept, are_children_right, are_codes_apart, are_parents_kept, has_right_child}

-- one of two pairs
either_pair : (a b c d : Bool) → (a && b || c && d) ≡ true → ((a ≡ true) × (b ≡ true)) ⊎ ((c ≡ true) × (d ≡ true))
either_pair true true c d e = inl (refl, refl)
either_pair true false true true e = inr (refl, refl)
either_pair true false true false e = absurd (false≢true e)
either_pair true false false d e = absurd (false≢true e)
either_pair false b true true e = inr (refl, refl)
either_pair false b true false e = absurd (false≢true e)
either_pair false b false d e = absurd (false≢true e)

-- the line is an article's to a material, or an assembly's to a part
pub right_child_cases : (t : Lists) (line : LineRow) → has_right_child t line ≡ true → ((is_article t line.parent ≡ true) × (is_material t line.child ≡ true)) ⊎ ((is_assembly t line.parent ≡ true) × (is_part t line.child ≡ true))
right_child_cases t line e = either_pair (is_article t line.parent) (is_material t line.child) (is_assembly t line.parent) (is_part t line.child) e

some_of : {X : Type 0} (f : X → Bool) (o : Option X) → option_map_or f o false ≡ true → is_some o ≡ true
some_of f None e = absurd (false≢true e)
some_of f (Some x) e = refl

pub is_part-article : (t : Lists) (code : List ℕ) → is_article t code ≡ true → is_part t code ≡ true
is_part-article t code e = some_of (λ part. is_article_sort part.sort) (part_row t code) e

pub is_part-assembly : (t : Lists) (code : List ℕ) → is_assembly t code ≡ true → is_part t code ≡ true
is_part-assembly t code e = some_of (λ part. same_sort part.sort Assembly) (part_row t code) e

one_sort : (sort : PartSort) → is_article_sort sort ≡ true → same_sort sort Assembly ≡ true → ⊥
one_sort Article e f = false≢true f
one_sort Assembly e f = false≢true e

one_sort_of : (o : Option PartRow) → option_map_or (λ part. is_article_sort part.sort) o false ≡ true → option_map_or (λ part. same_sort part.sort Assembly) o false ≡ true → ⊥
one_sort_of None e f = false≢true e
one_sort_of (Some part) e f = one_sort part.sort e f

-- no part is both an article and an assembly
pub not_both : (t : Lists) (code : List ℕ) → is_article t code ≡ true → is_assembly t code ≡ true → ⊥
not_both t code e f = one_sort_of (part_row t code) e f

pub right_parent : (t : Lists) (line : LineRow) → has_right_child t line ≡ true → is_part t line.parent ≡ true
right_parent t line e =
    ⊎_elim (λ h. is_part-article t line.parent h.0) (λ h. is_part-assembly t line.parent h.0) (right_child_cases t line e)

pub right_child : (t : Lists) (line : LineRow) → has_right_child t line ≡ true → is_kept t line.child ≡ true
right_child t line e =
    ⊎_elim (λ h. or_left (is_material t line.child) (is_part t line.child) h.1) (λ h. or_right (is_material t line.child) (is_part t line.child) h.1) (right_child_cases t line e)

-- the child of an article's line is a material
pub article_child : (t : Lists) (line : LineRow) → has_right_child t line ≡ true → is_article t line.parent ≡ true → is_material t line.child ≡ true
article_child t line e f = ⊎_elim (λ h. h.1) (λ h. absurd (not_both t line.parent f h.0)) (right_child_cases t line e)

-- no material's code is a part's
pub not_part : (t : Lists) → are_codes_apart t ≡ true → (code : List ℕ) → is_material t code ≡ true → is_part t code ≡ false
not_part t apart code e =
    false_from_ne_true (is_part t code)
    (λ kept. both_ways (is_material t code) (not-true (is_material t code) (kept_each (λ row. row.code) (λ c. not (is_material t c) ≡ true) code t.parts (each_from_all (λ part. not (is_material t part.code)) t.parts apart) kept)) e)

pub each_right_child : (t : Lists) → are_children_right t ≡ true → AllByRecursion (λ line. has_right_child t line ≡ true) t.lines
each_right_child t e = each_from_all (has_right_child t) t.lines e

-- lines that lead to the right children are kept parts' lines to what is kept
pub parents_kept : (t : Lists) → are_children_right t ≡ true → are_parents_kept t ≡ true
parents_kept t e =
    all_from_each (λ line. is_part t line.parent) t.lines
    (each_map (λ line. has_right_child t line ≡ true) (λ line. is_part t line.parent ≡ true) (right_parent t) t.lines (each_right_child t e))

pub children_kept : (t : Lists) → are_children_right t ≡ true → are_children_kept t ≡ true
children_kept t e =
    all_from_each (λ line. is_kept t line.child) t.lines
    (each_map (λ line. has_right_child t line ≡ true) (λ line. is_kept t line.child ≡ true) (right_child t) t.lines (each_right_child t e))
