-- What each accepted edit leaves as it was on the codes that it doesn't affect.
use Rattle.std.proofs.Common.{◌≡◌, ℕ, zero, suc, ◌*◌, Bool, true, false, ◌&&◌, List, [], ◌∷◌, filter, map, Option, Some, None, is_eq, is_some, refl, sym, ap, ◌∙◌, subst, ◌⊎◌, inl, inr, ⊎_elim, Ordering, Less, Equal, Greater, arith}
use Rattle.std.specs.Prelude.{if◌then◌else◌}
use Rattle.std.specs.List.{AllByRecursion, list_any}
use Rattle.std.specs.Option.{option_map_or}
use Rattle.std.specs.Ordering.{nat_cmp, ordering_then}
use Rattle.std.proofs.lemmas.Bool.{and_from, and_right, both_ways, cases_Bool, false≢true, false_from_ne_true, or_left, or_parts, or_right}
use Rattle.std.proofs.lemmas.Map.Lookups.{exact_bytes}
use Rattle.desk_text.specs.Code.{code_cmp, same_code}
use Rattle.desk_text.specs.Day.{Date}
use Rattle.desk_text.proofs.CodeLemmas.{same_code_itself}
use Rattle.desk_law.specs.declared.rule.Rule.{Rule}
use Rattle.desk_law.specs.Rule.{rule_number}
use Rattle.desk_rows.specs.Rows.{row_of, with_row}
use Rattle.desk_rows.proofs.Lookups.{filter-with_row, filter-with_rows, filter-without_row, replaced, row_of-with_row, row_of-with_row_other, row_of-with_rows_other, row_of-without_row_other}
use Rattle.desk_model.specs.declared.edit.Edit.TheVariants.{Member, Declare, Part, Line, Unline, Candidate}
use Rattle.desk_model.specs.declared.part_sort.PartSort.{PartSort}
use Rattle.desk_model.specs.declared.part_sort.PartSort.TheVariants.{Article, Assembly}
use Rattle.desk_model.specs.declared.rows.candidate.CandidateRow.{CandidateRow}
use Rattle.desk_model.specs.declared.rows.line.LineRow.{LineRow}
use Rattle.desk_model.specs.declared.rows.material.MaterialRow.{MaterialRow}
use Rattle.desk_model.specs.declared.rows.part.PartRow.{PartRow}
use Rattle.desk_model.specs.declared.substance_mass.SubstanceMass.{SubstanceMass}
use Rattle.desk_findings.specs.Above.{content, held_mass, is_candidate, mass_in}
use Rattle.desk_history.specs.Affected.{articles_listing, leads_to_some, lists_substance, materials_listing}
use Rattle.desk_findings.specs.Articles.{is_article, is_article_sort, same_sort}
use Rattle.desk_model.specs.Declaration.{Declared}
use Rattle.desk_model.specs.Effect.{declared_rows, with_edit_entered, with_edit_made, with_factor}
use Rattle.desk_model.specs.Lists.{Lists, is_part, line_key, line_key_cmp, material_row, member_key, member_key_cmp, part_row}
use Rattle.desk_findings.specs.Reaches.{is_or_reaches, lines_of, reaches}
use Rattle.desk_findings.specs.Share.{factor_of, share}
use Rattle.desk_findings.specs.Bill.{has_right_child}
use Rattle.desk_history.specs.Sound.{IsConsistent}
use Rattle.desk_findings.proofs.Bill.{by_line, is_or_reaches_trans}
use Rattle.desk_model.proofs.Elements.{any-filter, any-map, any_map, any_none, any_of_all, any_of_filter, each, each_both, each_filter, each_in_map, each_map, each_of_map, none_from_any, sum_same, sum_zero}
use Rattle.desk_model.proofs.Kept.{code_cmp_total, found_any, found_each, member_key_cmp_total, same_code-from, same_code-true}
use Rattle.desk_findings.proofs.AgreeingTables.{Agrees}
use Rattle.desk_findings.proofs.Children.{each_right_child, not_part, right_child_cases}
use Rattle.desk_history.proofs.SoundClauses.{parents_of, right_of}

-- a code is free of seeds where it neither is one nor reaches one
abbrev pub IsFree : Lists → List (List ℕ) → List ℕ → Type 0
IsFree u codes code = list_any (λ seed. is_or_reaches u code seed) codes ≡ false

-- codes that differ one way differ the other way
other_way : (a b : List ℕ) → same_code a b ≡ false → same_code b a ≡ false
other_way a b e = false_from_ne_true (same_code b a) (λ same. both_ways (same_code a b) e (same_code-from a b (sym (same_code-true b a same))))

module _ (u : Lists) (r : IsConsistent u) (codes : List (List ℕ)) where
  free_reached : (code target : List ℕ) → IsFree u codes code → reaches u code target ≡ true → IsFree u codes target
  free_reached code target free e =
      false_from_ne_true (list_any (λ seed. is_or_reaches u target seed) codes)
      (λ touched.
      both_ways (list_any (λ seed. is_or_reaches u code seed) codes) free
      (any_map (λ seed. is_or_reaches u target seed) (λ seed. is_or_reaches u code seed) codes
      (each (λ seed. is_or_reaches u target seed ≡ true → is_or_reaches u code seed ≡ true) (λ seed h. or_right (same_code code seed) (reaches u code seed) (is_or_reaches_trans u (parents_of u r) code target seed e h)) codes) touched))

  free_closed : (code : List ℕ) → IsFree u codes code → AllByRecursion (λ line. IsFree u codes line.child) (lines_of u.lines code)
  free_closed code free =
      each_map (λ line. ((target : List ℕ) → is_or_reaches u line.child target ≡ true → reaches u line.parent target ≡ true) × (same_code line.parent code ≡ true)) (λ line. IsFree u codes line.child)
      (λ line h. free_reached code line.child free (subst (λ c. reaches u c line.child ≡ true) (same_code-true line.parent code h.1) (h.0 line.child (or_left (same_code line.child line.child) (reaches u line.child line.child) (same_code_itself line.child)))))
      (lines_of u.lines code)
      (each_filter (λ line. (target : List ℕ) → is_or_reaches u line.child target ≡ true → reaches u line.parent target ≡ true) (λ line. same_code line.parent code) u.lines (by_line u (parents_of u r)))

  -- a free code is no seed
  free_no_seed : (code : List ℕ) → IsFree u codes code → AllByRecursion (λ seed. same_code code seed ≡ false) codes
  free_no_seed code free =
      each_map (λ seed. is_or_reaches u code seed ≡ false) (λ seed. same_code code seed ≡ false) (λ seed h. (or_parts (same_code code seed) (reaches u code seed) h).0) codes (none_from_any (λ seed. is_or_reaches u code seed) codes free)

  -- what is a seed isn't free
  seed_not_free : (code : List ℕ) → list_any (λ seed. same_code code seed) codes ≡ true → IsFree u codes code → ⊥
  seed_not_free code e free = both_ways (list_any (λ seed. same_code code seed) codes) (any_none (λ seed. same_code code seed) codes (free_no_seed code free)) e

-- what equal tables agree on
module _ (t u : Lists) where
  lines_same : u.lines ≡ t.lines → (code : List ℕ) → lines_of u.lines code ≡ lines_of t.lines code
  lines_same e code = ap (λ lines. lines_of lines code) e

  materials_same : u.materials ≡ t.materials → (code : List ℕ) → material_row u code ≡ material_row t code
  materials_same e code = ap (λ rows. row_of (λ row. row.code) code_cmp code rows) e

  articles_same : u.parts ≡ t.parts → (code : List ℕ) → is_article u code ≡ is_article t code
  articles_same e code = ap (λ rows. option_map_or (λ part. is_article_sort part.sort) (row_of (λ row. row.code) code_cmp code rows) false) e

  candidates_same : u.candidates ≡ t.candidates → (substance : List ℕ) → is_candidate u substance ≡ is_candidate t substance
  candidates_same e substance = ap (λ rows. is_some (row_of (λ row. row.substance) code_cmp substance rows)) e

  material_list_same : u.materials ≡ t.materials → (test : List ℕ → Bool) → filter (λ material. test material.code) u.materials ≡ filter (λ material. test material.code) t.materials
  material_list_same e test = ap (filter (λ material. test material.code)) e

  article_list_same : u.parts ≡ t.parts → (test : List ℕ → Bool) → map (λ part. part.code) (filter (λ part. is_article_sort part.sort && test part.code) u.parts) ≡ map (λ part. part.code) (filter (λ part. is_article_sort part.sort && test part.code) t.parts)
  article_list_same e test = ap (λ rows. map (λ part. part.code) (filter (λ part. is_article_sort part.sort && test part.code) rows)) e

  candidate_list_same : u.candidates ≡ t.candidates → (test : List ℕ → Bool) → map (λ candidate. candidate.substance) (filter (λ candidate. test candidate.substance) u.candidates) ≡ map (λ candidate. candidate.substance) (filter (λ candidate. test candidate.substance) t.candidates)
  candidate_list_same e test = ap (λ rows. map (λ candidate. candidate.substance) (filter (λ candidate. test candidate.substance) rows)) e

  -- equal factors make equal shares
  share_same : (rule : Rule) (material : MaterialRow) → AllByRecursion (λ held. factor_of u rule held.substance ≡ factor_of t rule held.substance) material.substances → share u rule material ≡ share t rule material
  unfolding share
  share_same rule material a =
      sum_same (λ held. held.mass * factor_of u rule held.substance) (λ held. held.mass * factor_of t rule held.substance) material.substances
      (each_map (λ held. factor_of u rule held.substance ≡ factor_of t rule held.substance) (λ held. held.mass * factor_of u rule held.substance ≡ held.mass * factor_of t rule held.substance) (λ held e. ap (λ n. held.mass * n) e) material.substances a)

  shares_same : u.members ≡ t.members → (Free : List ℕ → Type 0) → AllByRecursion (λ material. Free material.code → (rule : Rule) → share u rule material ≡ share t rule material) t.materials
  shares_same e Free =
      each (λ material. Free material.code → (rule : Rule) → share u rule material ≡ share t rule material)
      (λ material free rule.
      share_same rule material
      (each (λ held. factor_of u rule held.substance ≡ factor_of t rule held.substance)
      (λ held. ap (λ rows. option_map_or (λ member. member.factor) (row_of member_key member_key_cmp (held.substance, rule_number rule) rows) 0) e) material.substances))
      t.materials

  -- tables with one bill, one list of parts, materials, members and candidates agree
  pub agrees_plain : IsConsistent u → (codes : List (List ℕ)) → u.lines ≡ t.lines → u.parts ≡ t.parts → u.materials ≡ t.materials → u.members ≡ t.members → u.candidates ≡ t.candidates → Agrees t u (IsFree u codes)
  agrees_plain r codes lines parts materials members candidates = record {
    closed = free_closed u r codes;
    reached = free_reached u r codes;
    lines = λ code free. lines_same lines code;
    materials = λ code free. materials_same materials code;
    articles = λ code free. articles_same parts code;
    candidates = λ code substance free. inl (candidates_same candidates substance);
    material_list = λ test free. material_list_same materials test;
    article_list = λ test free. article_list_same parts test;
    candidate_list = λ test absent. candidate_list_same candidates test;
    shares = shares_same members (IsFree u codes);
  }

  -- the bill differs in lines of seeds alone
  agrees_lines : IsConsistent u → (codes : List (List ℕ)) → ((code : List ℕ) → IsFree u codes code → lines_of u.lines code ≡ lines_of t.lines code) → u.parts ≡ t.parts → u.materials ≡ t.materials → u.members ≡ t.members → u.candidates ≡ t.candidates → Agrees t u (IsFree u codes)
  agrees_lines r codes lines parts materials members candidates = record {
    closed = free_closed u r codes;
    reached = free_reached u r codes;
    lines = lines;
    materials = λ code free. materials_same materials code;
    articles = λ code free. articles_same parts code;
    candidates = λ code substance free. inl (candidates_same candidates substance);
    material_list = λ test free. material_list_same materials test;
    article_list = λ test free. article_list_same parts test;
    candidate_list = λ test absent. candidate_list_same candidates test;
    shares = shares_same members (IsFree u codes);
  }

abbrev member_of : List ℕ → Rule → List ℕ × ℕ
member_of substance rule = (substance, rule_number rule)

later_unequal : (a b : Ordering) → is_eq a ≡ false → is_eq (ordering_then a b) ≡ false
later_unequal Less b e = refl
later_unequal Equal b e = absurd (Rattle.std.proofs.lemmas.Bool.true≢false e)
later_unequal Greater b e = refl

-- another substance's factors stay
factor_other : (t : Lists) (substance other : List ℕ) (rule counted : Rule) (factor : ℕ) → same_code other substance ≡ false → factor_of (with_factor t substance rule factor) counted other ≡ factor_of t counted other
factor_other t substance other rule counted zero e =
    ap (λ o. option_map_or (λ member. member.factor) o 0)
    (row_of-without_row_other member_key member_key_cmp member_key_cmp_total (member_of substance rule) (member_of other counted) t.members (later_unequal (code_cmp substance other) (nat_cmp (rule_number rule) (rule_number counted)) (other_way other substance e)))
factor_other t substance other rule counted (suc fewer) e =
    ap (λ o. option_map_or (λ member. member.factor) o 0)
    (row_of-with_row_other member_key member_key_cmp member_key_cmp_total (record { substance = substance; rule = rule; factor = suc fewer }) (member_of other counted) t.members (later_unequal (code_cmp substance other) (nat_cmp (rule_number rule) (rule_number counted)) (other_way other substance e)))

-- what a member counts matters to the materials that list the substance
module _ (t u : Lists) (r : IsConsistent u) (substance : List ℕ) (rule : Rule) where
  listed_is_seed : AllByRecursion (λ material. lists_substance substance material ≡ true → list_any (λ seed. same_code material.code seed) (materials_listing t substance) ≡ true) t.materials
  listed_is_seed =
      each_map
      (λ material. (test p : MaterialRow → Bool) → test material ≡ true → p material ≡ true → list_any p (filter test t.materials) ≡ true)
      (λ material. lists_substance substance material ≡ true → list_any (λ seed. same_code material.code seed) (materials_listing t substance) ≡ true)
      (λ material f listed.
      any-map (λ seed. same_code material.code seed) (λ other. other.code) (filter (lists_substance substance) t.materials)
      ∙ f (lists_substance substance) (λ other. same_code material.code other.code) listed (same_code_itself material.code))
      t.materials (any_of_filter t.materials)

  member_shares : ((other : List ℕ) (counted : Rule) → same_code other substance ≡ false → factor_of u counted other ≡ factor_of t counted other) → AllByRecursion (λ material. IsFree u (materials_listing t substance) material.code → (counted : Rule) → share u counted material ≡ share t counted material) t.materials
  member_shares others =
      each_map
      (λ material. lists_substance substance material ≡ true → list_any (λ seed. same_code material.code seed) (materials_listing t substance) ≡ true)
      (λ material. IsFree u (materials_listing t substance) material.code → (counted : Rule) → share u counted material ≡ share t counted material)
      (λ material f free counted.
      let unlisted : lists_substance substance material ≡ false =
      false_from_ne_true (lists_substance substance material) (λ listed. seed_not_free u r (materials_listing t substance) material.code (f listed) free) in
      share_same t u counted material
      (each_map (λ held. same_code held.substance substance ≡ false) (λ held. factor_of u counted held.substance ≡ factor_of t counted held.substance) (λ held e. others held.substance counted e) material.substances
      (none_from_any (λ held. same_code held.substance substance) material.substances unlisted)))
      t.materials listed_is_seed

  agrees_members : ((other : List ℕ) (counted : Rule) → same_code other substance ≡ false → factor_of u counted other ≡ factor_of t counted other) → u.lines ≡ t.lines → u.parts ≡ t.parts → u.materials ≡ t.materials → u.candidates ≡ t.candidates → Agrees t u (IsFree u (materials_listing t substance))
  agrees_members others lines parts materials candidates = record {
    closed = free_closed u r (materials_listing t substance);
    reached = free_reached u r (materials_listing t substance);
    lines = λ code free. lines_same t u lines code;
    materials = λ code free. materials_same t u materials code;
    articles = λ code free. articles_same t u parts code;
    candidates = λ code s free. inl (candidates_same t u candidates s);
    material_list = λ test free. material_list_same t u materials test;
    article_list = λ test free. article_list_same t u parts test;
    candidate_list = λ test absent. candidate_list_same t u candidates test;
    shares = member_shares others;
  }

pub agrees-member : (t : Lists) (ticket substance : List ℕ) (rule : Rule) (factor : ℕ) → IsConsistent (with_edit_entered t (Member ticket substance rule factor)) → Agrees t (with_edit_entered t (Member ticket substance rule factor)) (IsFree (with_edit_entered t (Member ticket substance rule factor)) (materials_listing t substance))
unfolding with_edit_entered with_edit_made
agrees-member t ticket substance rule zero r =
    agrees_members t (with_edit_entered t (Member ticket substance rule zero)) r substance rule (λ other counted e. factor_other t substance other rule counted zero e) refl refl refl refl
agrees-member t ticket substance rule (suc fewer) r =
    agrees_members t (with_edit_entered t (Member ticket substance rule (suc fewer))) r substance rule (λ other counted e. factor_other t substance other rule counted (suc fewer) e) refl refl refl refl

-- a declaration matters to its materials
module _ (t : Lists) (d : Declared) (r : IsConsistent (with_edit_entered t (Declare d))) where
  abbrev declared_codes : List (List ℕ)
  declared_codes = map (λ material. material.code) d.materials

  -- no declared material has a free code
  rows_not_free : (code : List ℕ) → IsFree (with_edit_entered t (Declare d)) declared_codes code → AllByRecursion (λ row. same_code row.code code ≡ false) (declared_rows d)
  rows_not_free code free =
      each_of_map (λ row. same_code row.code code ≡ false) _ d.materials
      (each_map (λ material. same_code code material.code ≡ false) (λ material. same_code material.code code ≡ false) (λ material e. other_way code material.code e) d.materials
      (each_in_map (λ seed. same_code code seed ≡ false) (λ material. material.code) d.materials (free_no_seed (with_edit_entered t (Declare d)) r declared_codes code free)))

  declared_rows_kept : (code : List ℕ) → IsFree (with_edit_entered t (Declare d)) declared_codes code → material_row (with_edit_entered t (Declare d)) code ≡ material_row t code
  unfolding with_edit_entered with_edit_made
  declared_rows_kept code free = row_of-with_rows_other (λ row. row.code) code_cmp code_cmp_total code (declared_rows d) t.materials (rows_not_free code free)

  -- a test that only free codes pass keeps none of the declared rows
  declared_list : (test : List ℕ → Bool) → ((code : List ℕ) → test code ≡ true → IsFree (with_edit_entered t (Declare d)) declared_codes code) → filter (λ material. test material.code) (with_edit_entered t (Declare d)).materials ≡ filter (λ material. test material.code) t.materials
  unfolding with_edit_entered with_edit_made
  declared_list test free =
      filter-with_rows (λ row. row.code) code_cmp (λ material. test material.code) (declared_rows d) t.materials
      (each_of_map (λ new. (test new.code ≡ false) × ((row : MaterialRow) → code_cmp row.code new.code ≡ Equal → test row.code ≡ false)) _ d.materials
      (each_map (λ material. list_any (λ seed. same_code material.code seed) declared_codes ≡ true) (λ material. (test material.code ≡ false) × ((row : MaterialRow) → code_cmp row.code material.code ≡ Equal → test row.code ≡ false))
      (λ material seed.
      let fails : test material.code ≡ false = false_from_ne_true (test material.code) (λ passes. seed_not_free (with_edit_entered t (Declare d)) r declared_codes material.code seed (free material.code passes)) in
      (fails, λ row same. subst (λ c. test c ≡ false) (sym (exact_bytes row.code material.code same)) fails))
      d.materials declared_seeds))
    where
      declared_seeds : AllByRecursion (λ material. list_any (λ seed. same_code material.code seed) declared_codes ≡ true) d.materials
      declared_seeds =
          each_map (λ material. (p : _ → Bool) → p material ≡ true → list_any p d.materials ≡ true) (λ material. list_any (λ seed. same_code material.code seed) declared_codes ≡ true)
          (λ material f. any-map (λ seed. same_code material.code seed) (λ other. other.code) d.materials ∙ f (λ other. same_code material.code other.code) (same_code_itself material.code))
          d.materials (any_of_all d.materials)

  pub agrees-declare : Agrees t (with_edit_entered t (Declare d)) (IsFree (with_edit_entered t (Declare d)) declared_codes)
  unfolding with_edit_entered with_edit_made
  agrees-declare = record {
    closed = free_closed (with_edit_entered t (Declare d)) r declared_codes;
    reached = free_reached (with_edit_entered t (Declare d)) r declared_codes;
    lines = λ code free. refl;
    materials = declared_rows_kept;
    articles = λ code free. refl;
    candidates = λ code s free. inl refl;
    material_list = declared_list;
    article_list = λ test free. refl;
    candidate_list = λ test absent. refl;
    shares = shares_same t (with_edit_entered t (Declare d)) refl (IsFree (with_edit_entered t (Declare d)) declared_codes);
  }

then_equal : (a b : Ordering) → ordering_then a b ≡ Equal → a ≡ Equal
then_equal Less b e = e
then_equal Equal b e = refl
then_equal Greater b e = e

is_equal : (a : Ordering) → is_eq a ≡ true → a ≡ Equal
is_equal Less e = absurd (false≢true e)
is_equal Equal e = refl
is_equal Greater e = absurd (false≢true e)

-- a line matters to its parent
pub agrees-line : (t : Lists) (ticket parent child : List ℕ) (count : ℕ) → IsConsistent (with_edit_entered t (Line ticket parent child count)) → Agrees t (with_edit_entered t (Line ticket parent child count)) (IsFree (with_edit_entered t (Line ticket parent child count)) (parent ∷ []))
unfolding with_edit_entered with_edit_made
agrees-line t ticket parent child count r =
    let u = with_edit_entered t (Line ticket parent child count) in
    let new : LineRow = record { parent = parent; child = child; count = count } in
    agrees_lines t u r (parent ∷ [])
    (λ code free.
    let apart = other_way code parent (free_no_seed u r (parent ∷ []) code free).0 in
    filter-with_row line_key line_key_cmp (λ line. same_code line.parent code) new t.lines apart
    (each (λ line. line_key_cmp (line_key line) (line_key new) ≡ Equal → same_code line.parent code ≡ false)
    (λ line e. subst (λ c. same_code c code ≡ false) (sym (exact_bytes line.parent parent (then_equal (code_cmp line.parent parent) (code_cmp line.child child) e))) apart) t.lines))
    refl refl refl refl

pub agrees-unline : (t : Lists) (ticket parent child : List ℕ) → IsConsistent (with_edit_entered t (Unline ticket parent child)) → Agrees t (with_edit_entered t (Unline ticket parent child)) (IsFree (with_edit_entered t (Unline ticket parent child)) (parent ∷ []))
unfolding with_edit_entered with_edit_made
agrees-unline t ticket parent child r =
    let u = with_edit_entered t (Unline ticket parent child) in
    agrees_lines t u r (parent ∷ [])
    (λ code free.
    let apart = other_way code parent (free_no_seed u r (parent ∷ []) code free).0 in
    filter-without_row line_key line_key_cmp (λ line. same_code line.parent code) (parent, child) t.lines
    (each (λ line. is_eq (line_key_cmp (line_key line) (parent, child)) ≡ true → same_code line.parent code ≡ false)
    (λ line e. subst (λ c. same_code c code ≡ false) (sym (exact_bytes line.parent parent (then_equal (code_cmp line.parent parent) (code_cmp line.child child) (is_equal (line_key_cmp (line_key line) (parent, child)) e)))) apart) t.lines))
    refl refl refl refl

-- a new part matters to itself; a new name of a part to none
module _ (t : Lists) (s : IsConsistent t) (ticket code name : List ℕ) (sort : PartSort) (r : IsConsistent (with_edit_entered t (Part ticket code sort name))) (same_kind : (part : PartRow) → part_row t code ≡ Some part → same_sort part.sort sort ≡ true) (codes : List (List ℕ)) where
  abbrev after_part : Lists
  after_part = with_edit_entered t (Part ticket code sort name)

  abbrev new_part : PartRow
  new_part = record { code = code; sort = sort; name = name }

  one_sort : (a b : PartSort) → same_sort a b ≡ true → is_article_sort a ≡ is_article_sort b
  one_sort Article Article e = refl
  one_sort Article Assembly e = absurd (false≢true e)
  one_sort Assembly Article e = absurd (false≢true e)
  one_sort Assembly Assembly e = refl

  sort_found : (o : Option PartRow) → part_row t code ≡ o → is_some o ≡ true → option_map_or (λ part. is_article_sort part.sort) o false ≡ is_article_sort sort
  sort_found None e kept = absurd (false≢true kept)
  sort_found (Some part) e kept = one_sort part.sort sort (same_kind part e)

  -- the sort of a code that isn't the part's, or of the part where it was kept
  part_articles : (c : List ℕ) → (same_code code c ≡ true → is_part t code ≡ true) → is_article after_part c ≡ is_article t c
  unfolding with_edit_entered with_edit_made
  part_articles c kept =
      elim (cases_Bool (same_code code c)) [
        | inl same ↦
            let is = same_code-true code c same in
            let found : row_of (λ row. row.code) code_cmp c (with_row (λ row. row.code) code_cmp new_part t.parts) ≡ Some new_part =
            subst (λ k. row_of (λ row. row.code) code_cmp k (with_row (λ row. row.code) code_cmp new_part t.parts) ≡ Some new_part) is (row_of-with_row (λ row. row.code) code_cmp code_cmp_total new_part t.parts) in
            ap (λ o. option_map_or (λ part. is_article_sort part.sort) o false) found
            ∙ sym (sort_found (part_row t code) refl (kept same))
            ∙ ap (λ k. is_article t k) is
        | inr other ↦ ap (λ o. option_map_or (λ part. is_article_sort part.sort) o false) (row_of-with_row_other (λ row. row.code) code_cmp code_cmp_total new_part c t.parts other)
      ]

  part_agrees : ((c : List ℕ) → IsFree after_part codes c → same_code code c ≡ true → is_part t code ≡ true) → ((test : List ℕ → Bool) → ((c : List ℕ) → test c ≡ true → IsFree after_part codes c) → map (λ part. part.code) (filter (λ part. is_article_sort part.sort && test part.code) after_part.parts) ≡ map (λ part. part.code) (filter (λ part. is_article_sort part.sort && test part.code) t.parts)) → Agrees t after_part (IsFree after_part codes)
  unfolding with_edit_entered with_edit_made
  part_agrees kept list = record {
    closed = free_closed after_part r codes;
    reached = free_reached after_part r codes;
    lines = λ c free. refl;
    materials = λ c free. refl;
    articles = λ c free. part_articles c (kept c free);
    candidates = λ c substance free. inl refl;
    material_list = λ test free. refl;
    article_list = list;
    candidate_list = λ test absent. refl;
    shares = shares_same t after_part refl (IsFree after_part codes);
  }

  kept_list : is_part t code ≡ true → (test : List ℕ → Bool) → map (λ part. part.code) (filter (λ part. is_article_sort part.sort && test part.code) after_part.parts) ≡ map (λ part. part.code) (filter (λ part. is_article_sort part.sort && test part.code) t.parts)
  unfolding with_edit_entered with_edit_made
  kept_list kept test =
      replaced (λ row. row.code) code_cmp (λ part. is_article_sort part.sort && test part.code) (λ part. part.code) code_cmp_total new_part t.parts s.ordered.parts kept
      (λ part found.
      let is = (found_each (λ row. row.code) (λ row. Unit {0}) code t.parts part (each (λ row. Unit {0}) (λ row. tt) t.parts) found).1 in
      (ap (λ b. b && test part.code) (one_sort part.sort sort (same_kind part found)) ∙ ap (λ c. is_article_sort sort && test c) is, is))

  new_list : list_any (λ seed. same_code code seed) codes ≡ true → (test : List ℕ → Bool) → ((c : List ℕ) → test c ≡ true → IsFree after_part codes c) → map (λ part. part.code) (filter (λ part. is_article_sort part.sort && test part.code) after_part.parts) ≡ map (λ part. part.code) (filter (λ part. is_article_sort part.sort && test part.code) t.parts)
  unfolding with_edit_entered with_edit_made
  new_list seed test free =
      let fails : test code ≡ false = false_from_ne_true (test code) (λ passes. seed_not_free after_part r codes code seed (free code passes)) in
      ap (map (λ part. part.code))
      (filter-with_row (λ row. row.code) code_cmp (λ part. is_article_sort part.sort && test part.code) new_part t.parts (and_right (is_article_sort sort) (test code) fails)
      (each (λ part. code_cmp part.code code ≡ Equal → (is_article_sort part.sort && test part.code) ≡ false)
      (λ part e. and_right (is_article_sort part.sort) (test part.code) (subst (λ c. test c ≡ false) (sym (exact_bytes part.code code e)) fails)) t.parts))

pub agrees-part : (t : Lists) (s : IsConsistent t) (ticket code name : List ℕ) (sort : PartSort) (r : IsConsistent (with_edit_entered t (Part ticket code sort name))) (same_kind : (part : PartRow) → part_row t code ≡ Some part → same_sort part.sort sort ≡ true) (kept : Bool) → is_part t code ≡ kept → Agrees t (with_edit_entered t (Part ticket code sort name)) (IsFree (with_edit_entered t (Part ticket code sort name)) (if kept then [] else code ∷ []))
agrees-part t s ticket code name sort r same_kind true e =
    part_agrees t s ticket code name sort r same_kind [] (λ c free same. e) (λ test free. kept_list t s ticket code name sort r same_kind [] e test)
agrees-part t s ticket code name sort r same_kind false e =
    let seed = or_left (same_code code code) false (same_code_itself code) in
    part_agrees t s ticket code name sort r same_kind (code ∷ [])
    (λ c free same.
    absurd (both_ways (same_code c code) (free_no_seed (with_edit_entered t (Part ticket code sort name)) r (code ∷ []) c free).0 (same_code-from c code (sym (same_code-true code c same)))))
    (new_list t s ticket code name sort r same_kind (code ∷ []) seed)

-- a new candidate matters to the articles that hold it; a new day of a candidate to none
module _ (t : Lists) (s : IsConsistent t) (ticket substance : List ℕ) (day : Date) (r : IsConsistent (with_edit_entered t (Candidate ticket substance day))) (codes : List (List ℕ)) where
  abbrev after_candidate : Lists
  after_candidate = with_edit_entered t (Candidate ticket substance day)

  abbrev new_candidate : CandidateRow
  new_candidate = record { substance = substance; day = day }

  -- another substance is a candidate still, or not yet
  other_candidate : (other : List ℕ) → same_code substance other ≡ false → is_candidate after_candidate other ≡ is_candidate t other
  unfolding with_edit_entered with_edit_made
  other_candidate other e = ap is_some (row_of-with_row_other (λ row. row.substance) code_cmp code_cmp_total new_candidate other t.candidates e)

  kept_candidate : is_candidate t substance ≡ true → (other : List ℕ) → is_candidate after_candidate other ≡ is_candidate t other
  unfolding with_edit_entered with_edit_made
  kept_candidate kept other =
      elim (cases_Bool (same_code substance other)) [
        | inl same ↦
            let is = same_code-true substance other same in
            let found : is_some (row_of (λ row. row.substance) code_cmp other (with_row (λ row. row.substance) code_cmp new_candidate t.candidates)) ≡ true =
            subst (λ k. is_some (row_of (λ row. row.substance) code_cmp k (with_row (λ row. row.substance) code_cmp new_candidate t.candidates)) ≡ true) is (ap is_some (row_of-with_row (λ row. row.substance) code_cmp code_cmp_total new_candidate t.candidates)) in
            found ∙ sym (subst (λ k. is_candidate t k ≡ true) is kept)
        | inr differs ↦ other_candidate other differs
      ]

  candidate_agrees : ((c other : List ℕ) → IsFree after_candidate codes c → (is_candidate after_candidate other ≡ is_candidate t other) ⊎ (content after_candidate c other ≡ 0)) → ((test : List ℕ → Bool) → ((other : List ℕ) → is_candidate t other ≡ false → test other ≡ false) → map (λ candidate. candidate.substance) (filter (λ candidate. test candidate.substance) after_candidate.candidates) ≡ map (λ candidate. candidate.substance) (filter (λ candidate. test candidate.substance) t.candidates)) → Agrees t after_candidate (IsFree after_candidate codes)
  unfolding with_edit_entered with_edit_made
  candidate_agrees each_one list = record {
    closed = free_closed after_candidate r codes;
    reached = free_reached after_candidate r codes;
    lines = λ c free. refl;
    materials = λ c free. refl;
    articles = λ c free. refl;
    candidates = each_one;
    material_list = λ test free. refl;
    article_list = λ test free. refl;
    candidate_list = list;
    shares = shares_same t after_candidate refl (IsFree after_candidate codes);
  }

  again_list : is_candidate t substance ≡ true → (test : List ℕ → Bool) → map (λ candidate. candidate.substance) (filter (λ candidate. test candidate.substance) after_candidate.candidates) ≡ map (λ candidate. candidate.substance) (filter (λ candidate. test candidate.substance) t.candidates)
  unfolding with_edit_entered with_edit_made
  again_list kept test =
      replaced (λ row. row.substance) code_cmp (λ candidate. test candidate.substance) (λ candidate. candidate.substance) code_cmp_total new_candidate t.candidates s.ordered.candidates kept
      (λ candidate found.
      let is = (found_each (λ row. row.substance) (λ row. Unit {0}) substance t.candidates candidate (each (λ row. Unit {0}) (λ row. tt) t.candidates) found).1 in
      (ap test is, is))

  first_list : is_candidate t substance ≡ false → (test : List ℕ → Bool) → ((other : List ℕ) → is_candidate t other ≡ false → test other ≡ false) → map (λ candidate. candidate.substance) (filter (λ candidate. test candidate.substance) after_candidate.candidates) ≡ map (λ candidate. candidate.substance) (filter (λ candidate. test candidate.substance) t.candidates)
  unfolding with_edit_entered with_edit_made
  first_list absent test none =
      ap (map (λ candidate. candidate.substance))
      (filter-with_row (λ row. row.substance) code_cmp (λ candidate. test candidate.substance) new_candidate t.candidates (none substance absent)
      (each (λ candidate. code_cmp candidate.substance substance ≡ Equal → test candidate.substance ≡ false)
      (λ candidate e. subst (λ c. test c ≡ false) (sym (exact_bytes candidate.substance substance e)) (none substance absent)) t.candidates))

-- a code that is no article with the substance in a material holds nothing of it
module _ (t : Lists) (s : IsConsistent t) (u : Lists) (r : IsConsistent u) (substance : List ℕ) where
  unlisted_holds : (held : List SubstanceMass) → list_any (λ one. same_code one.substance substance) held ≡ false → held_mass substance held ≡ 0
  unlisted_holds [] e = refl
  unlisted_holds (one ∷ held) e =
      let parts = or_parts (same_code one.substance substance) (list_any (λ x. same_code x.substance substance) held) e in
      rw parts.0 (unlisted_holds held parts.1)

  is_article_here : (line : LineRow) (code : List ℕ) → has_right_child t line ≡ true → same_code line.parent code ≡ true → is_some (material_row t line.child) ≡ true → is_article t code ≡ true
  is_article_here line code right same kept =
      ⊎_elim (λ h. subst (λ c. is_article t c ≡ true) (same_code-true line.parent code same) h.0)
      (λ h. absurd (both_ways (is_part t line.child) (not_part t s.codes_apart line.child kept) h.1)) (right_child_cases t line right)

  -- the article of such a line is listed
  article_listed : (code : List ℕ) (o : Option PartRow) → part_row t code ≡ o → option_map_or (λ part. is_article_sort part.sort) o false ≡ true → leads_to_some t code (materials_listing t substance) ≡ true → list_any (λ seed. same_code code seed) (articles_listing t substance) ≡ true
  article_listed code None e sort leads = absurd (false≢true sort)
  article_listed code (Some part) e sort leads =
      let is = (found_each (λ row. row.code) (λ row. Unit {0}) code t.parts part (each (λ row. Unit {0}) (λ row. tt) t.parts) e).1 in
      any-map (λ seed. same_code code seed) (λ row. row.code) (filter (λ row. is_article_sort row.sort && leads_to_some t row.code (materials_listing t substance)) t.parts)
      ∙ any-filter (λ row. is_article_sort row.sort && leads_to_some t row.code (materials_listing t substance)) (λ row. same_code code row.code) t.parts
      ∙ found_any (λ row. row.code) (λ row. (is_article_sort row.sort && leads_to_some t row.code (materials_listing t substance)) && same_code code row.code) code t.parts part e
      (and_from (is_article_sort part.sort && leads_to_some t part.code (materials_listing t substance)) (same_code code part.code)
      (and_from (is_article_sort part.sort) (leads_to_some t part.code (materials_listing t substance)) sort (subst (λ c. leads_to_some t c (materials_listing t substance) ≡ true) (sym is) leads)) (same_code-from code part.code (sym is)))

  child_holds : (code : List ℕ) → IsFree u (articles_listing t substance) code → (line : LineRow) → has_right_child t line ≡ true → same_code line.parent code ≡ true → ((p : LineRow → Bool) → p line ≡ true → list_any p (lines_of t.lines code) ≡ true) → (o : Option MaterialRow) → material_row t line.child ≡ o → option_map_or (λ material. held_mass substance material.substances) o 0 ≡ 0
  child_holds code free line right same some None e = refl
  child_holds code free line right same some (Some material) e =
      let found = found_each (λ row. row.code) (λ row. lists_substance substance row ≡ true → list_any (λ seed. same_code row.code seed) (materials_listing t substance) ≡ true) line.child t.materials material (listed_is_seed t t s substance Rattle.desk_law.specs.declared.rule.Rule.TheVariants.Lead) e in
      unlisted_holds material.substances
      (false_from_ne_true (lists_substance substance material)
      (λ listed.
      let leads = some (λ other. list_any (same_code other.child) (materials_listing t substance)) (subst (λ c. list_any (λ seed. same_code c seed) (materials_listing t substance) ≡ true) found.1 (found.0 listed)) in
      let article = is_article_here line code right same (ap is_some e) in
      seed_not_free u r (articles_listing t substance) code (article_listed code (part_row t code) refl article leads) free))

  zero_times : (n m : ℕ) → m ≡ 0 → n * m ≡ 0
  zero_times n m e = rw e (omega arith)

  nothing_held : (code : List ℕ) → IsFree u (articles_listing t substance) code → content t code substance ≡ 0
  unfolding content
  nothing_held code free =
      sum_zero (λ line. line.count * mass_in t substance line.child) (lines_of t.lines code)
      (each_map
      (λ line. ((has_right_child t line ≡ true) × (same_code line.parent code ≡ true)) × ((p : LineRow → Bool) → p line ≡ true → list_any p (lines_of t.lines code) ≡ true))
      (λ line. line.count * mass_in t substance line.child ≡ 0)
      (λ line h. zero_times line.count (mass_in t substance line.child) (child_holds code free line h.0.0 h.0.1 h.1 (material_row t line.child) refl))
      (lines_of t.lines code)
      (each_both (λ line. (has_right_child t line ≡ true) × (same_code line.parent code ≡ true)) (λ line. (p : LineRow → Bool) → p line ≡ true → list_any p (lines_of t.lines code) ≡ true) (lines_of t.lines code)
      (each_filter (λ line. has_right_child t line ≡ true) (λ line. same_code line.parent code) t.lines (each_right_child t (right_of t s))) (any_of_all (lines_of t.lines code))))

held_still : (t : Lists) (s : IsConsistent t) (ticket substance : List ℕ) (day : Date) (r : IsConsistent (with_edit_entered t (Candidate ticket substance day))) (code other : List ℕ) → IsFree (with_edit_entered t (Candidate ticket substance day)) (articles_listing t substance) code → substance ≡ other → content (with_edit_entered t (Candidate ticket substance day)) code other ≡ 0
unfolding with_edit_entered with_edit_made content
held_still t s ticket substance day r code other free is = subst (λ o. content t code o ≡ 0) is (nothing_held t s (with_edit_entered t (Candidate ticket substance day)) r substance code free)

pub agrees-candidate : (t : Lists) (s : IsConsistent t) (ticket substance : List ℕ) (day : Date) (r : IsConsistent (with_edit_entered t (Candidate ticket substance day))) (kept : Bool) → is_candidate t substance ≡ kept → Agrees t (with_edit_entered t (Candidate ticket substance day)) (IsFree (with_edit_entered t (Candidate ticket substance day)) (if kept then [] else articles_listing t substance))
agrees-candidate t s ticket substance day r true e =
    candidate_agrees t s ticket substance day r [] (λ c other free. inl (kept_candidate t s ticket substance day r [] e other)) (λ test none. again_list t s ticket substance day r [] e test)
agrees-candidate t s ticket substance day r false e =
    candidate_agrees t s ticket substance day r (articles_listing t substance)
    (λ c other free.
    elim (cases_Bool (same_code substance other)) [
      | inl same ↦ inr (held_still t s ticket substance day r c other free (same_code-true substance other same))
      | inr differs ↦ inl (other_candidate t s ticket substance day r (articles_listing t substance) other differs)
    ])
    (first_list t s ticket substance day r (articles_listing t substance) e)
