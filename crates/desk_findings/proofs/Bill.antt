-- The recursions over the bill of materials: how deep they need to go, and what they come to.
use Rattle.std.proofs.Common.{◌≡◌, ℕ, zero, suc, ◌+◌, ◌-◌, ◌*◌, ◌<◌, ◌≤◌, Bool, true, false, not, ◌&&◌, ◌||◌, List, [], ◌∷◌, length, filter, find, sum_by, count_by, Option, Some, None, MatchOption, option_map, refl, sym, ap, ◌∙◌, subst, ◌⊎◌, inl, inr, ⊎_elim, arith}
use Rattle.std.specs.Prelude.{if◌then◌else◌}
use Rattle.std.specs.List.{AllByRecursion, list_any}
use Rattle.std.specs.Option.{option_map_or}
use Rattle.std.proofs.lemmas.Bool.{and_from, or_left, or_right, or_cases, cases_Bool, both_ways, not-true, not_from_false}
use Rattle.std.proofs.lemmas.List.Sums.{count_by-le-length}
use Rattle.desk_text.specs.Code.{same_code}
use Rattle.desk_text.proofs.CodeLemmas.{same_code_itself}
use Rattle.desk_model.specs.declared.rows.line.LineRow.{LineRow}
use Rattle.desk_findings.specs.Bill.{are_children_kept, are_parents_kept, is_acyclic}
use Rattle.desk_findings.specs.Chain.{chain, chain_within, next_to, next_within}
use Rattle.desk_model.specs.Lists.{Lists, is_kept, is_part}
use Rattle.desk_findings.specs.Reaches.{enough, is_or_reaches, lines_of, reaches, reaches_within}
use Rattle.desk_findings.specs.Rolled.{rolled, rolled_within}
use Rattle.desk_model.proofs.Elements.{any_of_filter, any_map, any_same, count_less, each, each_both, each_filter, each_from_all, each_map, find_each, none_kept, same_or_more, sum_same}
use Rattle.desk_model.proofs.Kept.{kept_any, kept_each, same_code-true}

-- each line is a kept part's
abbrev pub HasParents : Lists → Type 0
HasParents t = AllByRecursion (λ line. is_part t line.parent ≡ true) t.lines

pub has_parents : (t : Lists) → are_parents_kept t ≡ true → HasParents t
has_parents t e = each_from_all (λ line. is_part t line.parent) t.lines e

-- each line's child is kept
abbrev pub HasChildren : Lists → Type 0
HasChildren t = AllByRecursion (λ line. is_kept t line.child ≡ true) t.lines

pub has_children : (t : Lists) → are_children_kept t ≡ true → HasChildren t
has_children t e = each_from_all (λ line. is_kept t line.child) t.lines e

module _ (t : Lists) (parents : HasParents t) where
  -- what is no part has no lines
  pub lines_of-none : (code : List ℕ) → is_part t code ≡ false → lines_of t.lines code ≡ []
  lines_of-none code absent =
      none_kept (λ line. same_code line.parent code) t.lines
      (each_map (λ line. is_part t line.parent ≡ true) (λ line. same_code line.parent code ≡ false)
      (λ line h. Rattle.std.proofs.lemmas.Bool.false_from_ne_true (same_code line.parent code) (λ same. both_ways (is_part t code) absent (subst (λ c. is_part t c ≡ true) (same_code-true line.parent code same) h)))
      t.lines parents)

  module _ (target : List ℕ) where
    -- the part reaches the target within so many lines
    within : ℕ → List ℕ → Bool
    within k part = reaches_within t.lines k part target

    within-suc : (k : ℕ) (part : List ℕ) → within (suc k) part ≡ list_any (λ line. same_code line.child target || within k line.child) (lines_of t.lines part)
    unfolding within reaches_within
    within-suc k part = refl

    within-zero : (part : List ℕ) → within zero part ≡ false
    unfolding within reaches_within
    within-zero part = refl

    within-none : (k : ℕ) (part : List ℕ) → is_part t part ≡ false → within k part ≡ false
    within-none zero part absent = within-zero part
    within-none (suc k) part absent = within-suc k part ∙ rw (lines_of-none part absent) refl

    or_more : (a b c : Bool) → (b ≡ true → c ≡ true) → (a || b) ≡ true → (a || c) ≡ true
    or_more true b c f e = refl
    or_more false b c f e = f e

    grows : (k : ℕ) (part : List ℕ) → within k part ≡ true → within (suc k) part ≡ true
    grows zero part e = absurd (both_ways (within zero part) (within-zero part) e)
    grows (suc k) part e =
        within-suc (suc k) part
        ∙ any_map (λ line. same_code line.child target || within k line.child) (λ line. same_code line.child target || within (suc k) line.child) (lines_of t.lines part)
        (each (λ line. (same_code line.child target || within k line.child) ≡ true → (same_code line.child target || within (suc k) line.child) ≡ true) (λ line. or_more (same_code line.child target) (within k line.child) (within (suc k) line.child) (grows k line.child)) (lines_of t.lines part))
        (sym (within-suc k part) ∙ e)

    -- one line more finds no more
    IsStable : ℕ → Type 0
    IsStable k = (part : List ℕ) → within (suc k) part ≡ within k part

    stable-suc : (k : ℕ) → IsStable k → IsStable (suc k)
    unfolding IsStable
    stable-suc k stable part =
        within-suc (suc k) part
        ∙ any_same (λ line. same_code line.child target || within (suc k) line.child) (λ line. same_code line.child target || within k line.child) (lines_of t.lines part)
        (each (λ line. (same_code line.child target || within (suc k) line.child) ≡ (same_code line.child target || within k line.child)) (λ line. ap (λ b. same_code line.child target || b) (stable line.child)) (lines_of t.lines part))
        ∙ sym (within-suc k part)

    stable_later : (k j : ℕ) → IsStable k → IsStable (j + k)
    stable_later k zero stable = subst IsStable (omega arith) stable
    stable_later k (suc j) stable = subst IsStable (omega arith) (stable-suc (j + k) (stable_later k j stable))

    stable_from_parts : (k : ℕ) → AllByRecursion (λ part. within k part.code ≡ within (suc k) part.code) t.parts → IsStable k
    unfolding IsStable
    stable_from_parts k same part =
        elim (cases_Bool (is_part t part)) [
          | inl kept ↦ sym (kept_each (λ row. row.code) (λ code. within k code ≡ within (suc k) code) part t.parts same kept)
          | inr absent ↦ within-none (suc k) part absent ∙ sym (within-none k part absent)
        ]

    -- how many parts reach the target within so many lines
    count : ℕ → ℕ
    count k = count_by (λ part. within k part.code) t.parts

    wider : (k : ℕ) → AllByRecursion (λ part. within k part.code ≡ true → within (suc k) part.code ≡ true) t.parts
    wider k = each (λ part. within k part.code ≡ true → within (suc k) part.code ≡ true) (λ part. grows k part.code) t.parts

    stable_or_more : (k : ℕ) → ((j : ℕ) × (j ≤ k) × IsStable j) ⊎ (k ≤ count k)
    unfolding count
    stable_or_more zero = inr (omega arith)
    stable_or_more (suc k) =
        elim (stable_or_more k) [
          | inl found ↦ inl (found.0, omega (arith, found.1), found.2)
          | inr enough ↦
              elim (same_or_more (λ part. within k part.code) (λ part. within (suc k) part.code) t.parts (wider k)) [
                | inl same ↦ inl (k, omega arith, stable_from_parts k same)
                | inr more ↦
                    let rises = count_less (λ part. within k part.code) (λ part. within (suc k) part.code) t.parts (wider k) more in
                    inr (omega (arith, rises, enough))
              ]
        ]

    too_many : (k : ℕ) → k ≤ count k → k ≤ length t.parts
    unfolding count
    too_many k h = omega (arith, h, count_by-le-length (λ part. within k part.code) t.parts)

    -- no chain needs more lines than there are parts and one
    stable_enough : IsStable (enough t)
    stable_enough =
        elim (stable_or_more (enough t)) [
          | inl found ↦ subst IsStable (omega (arith, found.1)) (stable_later found.0 (enough t - found.0) found.2)
          | inr more ↦ absurd (omega (arith, too_many (enough t) more))
        ]

    -- what a part reaches, by its lines
    pub reaches-step : (part : List ℕ) → reaches t part target ≡ list_any (λ line. is_or_reaches t line.child target) (lines_of t.lines part)
    unfolding within IsStable
    reaches-step part = sym (stable_enough part) ∙ within-suc (enough t) part

    -- greater depth finds no more
    pub reaches-deeper : (more : ℕ) (part : List ℕ) → reaches_within t.lines (more + enough t) part target ≡ reaches t part target
    unfolding within IsStable
    reaches-deeper zero part = rw Rattle.std.proofs.Common.zero-add refl
    reaches-deeper (suc more) part =
        let same : suc more + enough t ≡ suc (more + enough t) = omega arith in
        rw same (stable_later (enough t) more stable_enough part ∙ reaches-deeper more part)

  -- a line leads its part to what its child is or reaches
  pub by_line : AllByRecursion (λ line. (target : List ℕ) → is_or_reaches t line.child target ≡ true → reaches t line.parent target ≡ true) t.lines
  by_line =
      each_map
      (λ line. (test p : LineRow → Bool) → test line ≡ true → p line ≡ true → list_any p (filter test t.lines) ≡ true)
      (λ line. (target : List ℕ) → is_or_reaches t line.child target ≡ true → reaches t line.parent target ≡ true)
      (λ line f target e. reaches-step target line.parent ∙ f (λ other. same_code other.parent line.parent) (λ other. is_or_reaches t other.child target) (same_code_itself line.parent) e)
      t.lines (any_of_filter t.lines)

  within_trans : (k : ℕ) (a b c : List ℕ) → within b k a ≡ true → reaches t b c ≡ true → reaches t a c ≡ true
  within_trans zero a b c e f = absurd (both_ways (within b zero a) (within-zero b a) e)
  within_trans (suc k) a b c e f =
      reaches-step c a
      ∙ any_map (λ line. same_code line.child b || within b k line.child) (λ line. is_or_reaches t line.child c) (lines_of t.lines a)
      (each (λ line. (same_code line.child b || within b k line.child) ≡ true → is_or_reaches t line.child c ≡ true)
      (λ line h.
      or_right (same_code line.child c) (reaches t line.child c)
      (⊎_elim (λ here. subst (λ d. reaches t d c ≡ true) (sym (same_code-true line.child b here)) f) (λ there. within_trans k line.child b c there f) (or_cases (same_code line.child b) (within b k line.child) h)))
      (lines_of t.lines a))
      (sym (within-suc b k a) ∙ e)

  -- a part reaches what its reached parts reach
  pub reaches_trans : (a b c : List ℕ) → reaches t a b ≡ true → reaches t b c ≡ true → reaches t a c ≡ true
  unfolding within
  reaches_trans a b c e f = within_trans (enough t) a b c e f

  pub is_or_reaches_trans : (a b c : List ℕ) → reaches t a b ≡ true → is_or_reaches t b c ≡ true → reaches t a c ≡ true
  is_or_reaches_trans a b c e f =
      ⊎_elim (λ here. subst (λ d. reaches t a d ≡ true) (same_code-true b c here) e) (λ there. reaches_trans a b c e there) (or_cases (same_code b c) (reaches t b c) f)

  -- how many parts a part reaches
  rank : List ℕ → ℕ
  rank code = count_by (λ part. reaches t code part.code) t.parts

  rank-le : (code : List ℕ) → rank code ≤ length t.parts
  unfolding rank
  rank-le code = count_by-le-length (λ part. reaches t code part.code) t.parts

  module _ (acyclic : is_acyclic t ≡ true) where
    -- no part reaches itself
    pub not_itself : (code : List ℕ) → is_part t code ≡ true → reaches t code code ≡ false
    not_itself code kept =
        not-true (reaches t code code)
        (kept_each (λ row. row.code) (λ c. not (reaches t c c) ≡ true) code t.parts (each_from_all (λ part. not (reaches t part.code part.code)) t.parts acyclic) kept)

    falls : (line : LineRow) → ((target : List ℕ) → is_or_reaches t line.child target ≡ true → reaches t line.parent target ≡ true) → is_part t line.child ≡ true → rank line.child < rank line.parent
    unfolding rank
    falls line by kept =
        count_less (λ part. reaches t line.child part.code) (λ part. reaches t line.parent part.code) t.parts
        (each (λ part. reaches t line.child part.code ≡ true → reaches t line.parent part.code ≡ true) (λ part e. by part.code (or_right (same_code line.child part.code) (reaches t line.child part.code) e)) t.parts)
        (kept_any (λ row. row.code) (λ code. reaches t line.parent code && not (reaches t line.child code)) line.child t.parts kept
        (and_from (reaches t line.parent line.child) (not (reaches t line.child line.child)) (by line.child (or_left (same_code line.child line.child) (reaches t line.child line.child) (same_code_itself line.child))) (not_from_false (reaches t line.child line.child) (not_itself line.child kept))))

    -- the rank falls along each line
    each_falls : AllByRecursion (λ line. is_part t line.child ≡ true → rank line.child < rank line.parent) t.lines
    each_falls =
        each_map (λ line. (target : List ℕ) → is_or_reaches t line.child target ≡ true → reaches t line.parent target ≡ true) (λ line. is_part t line.child ≡ true → rank line.child < rank line.parent) falls t.lines by_line

    -- the children of a part that are parts have a lesser rank
    below : (k : ℕ) (code : List ℕ) → rank code < suc k → AllByRecursion (λ line. is_part t line.child ≡ true → rank line.child < k) (lines_of t.lines code)
    below k code h =
        each_map (λ line. (is_part t line.child ≡ true → rank line.child < rank line.parent) × (same_code line.parent code ≡ true)) (λ line. is_part t line.child ≡ true → rank line.child < k)
        (λ line f kept.
        let falls_here = f.0 kept in
        let same = ap rank (same_code-true line.parent code f.1) in
        omega (arith, falls_here, same, h))
        (lines_of t.lines code)
        (each_filter (λ line. is_part t line.child ≡ true → rank line.child < rank line.parent) (λ line. same_code line.parent code) t.lines each_falls)

    childless : (P : List ℕ → Type 0) → (code : List ℕ) → is_part t code ≡ false → AllByRecursion (λ line. P line.child) (lines_of t.lines code)
    childless P code absent = rw (lines_of-none code absent) tt

    by_rank : (P : List ℕ → Type 0) → ((code : List ℕ) → AllByRecursion (λ line. P line.child) (lines_of t.lines code) → P code) → (k : ℕ) (code : List ℕ) → (is_part t code ≡ true → rank code < k) → P code
    by_rank P step zero code h =
        elim (cases_Bool (is_part t code)) [ inl kept ↦ absurd (omega (arith, h kept)) | inr absent ↦ step code (childless P code absent) ]
    by_rank P step (suc k) code h =
        elim (cases_Bool (is_part t code)) [
          | inl kept ↦
              step code
              (each_map (λ line. is_part t line.child ≡ true → rank line.child < k) (λ line. P line.child) (λ line g. by_rank P step k line.child g) (lines_of t.lines code) (below k code (h kept)))
          | inr absent ↦ step code (childless P code absent)
        ]

    rank_enough : (code : List ℕ) → rank code < enough t
    rank_enough code = omega (arith, rank-le code)

    -- what holds of a code where it holds of the children of its lines holds of every code
    pub bill_induction : (P : List ℕ → Type 0) → ((code : List ℕ) → AllByRecursion (λ line. P line.child) (lines_of t.lines code) → P code) → (code : List ℕ) → P code
    bill_induction P step code = by_rank P step (enough t) code (λ _. rank_enough code)

    module _ (own : List ℕ → ℕ) where
      rolled_within-suc : (k : ℕ) (code : List ℕ) → rolled_within t.lines own (suc k) code ≡ own code + sum_by (λ line. line.count * rolled_within t.lines own k line.child) (lines_of t.lines code)
      unfolding rolled_within
      rolled_within-suc k code = refl

      rolled_within-none : (k : ℕ) (code : List ℕ) → is_part t code ≡ false → rolled_within t.lines own k code ≡ own code
      unfolding rolled_within
      rolled_within-none zero code absent = refl
      rolled_within-none (suc k) code absent = rw (lines_of-none code absent) (omega arith)

      rolled_stable : (k : ℕ) (code : List ℕ) → (is_part t code ≡ true → rank code < k) → rolled_within t.lines own (suc k) code ≡ rolled_within t.lines own k code
      rolled_stable zero code h =
          elim (cases_Bool (is_part t code)) [
            | inl kept ↦ absurd (omega (arith, h kept))
            | inr absent ↦ rolled_within-none (suc zero) code absent ∙ sym (rolled_within-none zero code absent)
          ]
      rolled_stable (suc k) code h =
          elim (cases_Bool (is_part t code)) [
            | inl kept ↦
                rolled_within-suc (suc k) code
                ∙ ap (λ n. own code + n)
                (sum_same (λ line. line.count * rolled_within t.lines own (suc k) line.child) (λ line. line.count * rolled_within t.lines own k line.child) (lines_of t.lines code)
                (each_map (λ line. is_part t line.child ≡ true → rank line.child < k) (λ line. line.count * rolled_within t.lines own (suc k) line.child ≡ line.count * rolled_within t.lines own k line.child)
                (λ line g. ap (λ n. line.count * n) (rolled_stable k line.child g)) (lines_of t.lines code) (below k code (h kept))))
                ∙ sym (rolled_within-suc k code)
            | inr absent ↦ rolled_within-none (suc (suc k)) code absent ∙ sym (rolled_within-none (suc k) code absent)
          ]

      -- what rolls up to a code, by its lines
      pub rolled-step : (code : List ℕ) → rolled t own code ≡ own code + sum_by (λ line. line.count * rolled t own line.child) (lines_of t.lines code)
      rolled-step code = sym (rolled_stable (enough t) code (λ _. rank_enough code)) ∙ rolled_within-suc (enough t) code

      -- greater depth rolls up no more
      pub rolled-deeper : (more : ℕ) (code : List ℕ) → rolled_within t.lines own (more + enough t) code ≡ rolled t own code
      rolled-deeper zero code = rw Rattle.std.proofs.Common.zero-add refl
      rolled-deeper (suc more) code =
          let same : suc more + enough t ≡ suc (more + enough t) = omega arith in
          rw same (rolled_stable (more + enough t) code (λ _. omega (arith, rank_enough code)) ∙ rolled-deeper more code)

      -- a stored value that is right by its children is right
      pub rolled-unique : (stored : List ℕ → ℕ) → AllByRecursion (λ line. is_kept t line.child ≡ true) t.lines → ((code : List ℕ) → is_kept t code ≡ true → stored code ≡ own code + sum_by (λ line. line.count * stored line.child) (lines_of t.lines code)) → (code : List ℕ) → is_kept t code ≡ true → stored code ≡ rolled t own code
      rolled-unique stored children step =
          bill_induction (λ code. is_kept t code ≡ true → stored code ≡ rolled t own code)
          (λ code below kept.
          step code kept
          ∙ ap (λ n. own code + n)
          (sum_same (λ line. line.count * stored line.child) (λ line. line.count * rolled t own line.child) (lines_of t.lines code)
          (each_map (λ line. (is_kept t line.child ≡ true → stored line.child ≡ rolled t own line.child) × ((is_kept t line.child ≡ true) × (same_code line.parent code ≡ true))) (λ line. line.count * stored line.child ≡ line.count * rolled t own line.child)
          (λ line h. ap (λ n. line.count * n) (h.0 h.1.0)) (lines_of t.lines code)
          (each_both (λ line. is_kept t line.child ≡ true → stored line.child ≡ rolled t own line.child) (λ line. (is_kept t line.child ≡ true) × (same_code line.parent code ≡ true)) (lines_of t.lines code) below
          (each_filter (λ line. is_kept t line.child ≡ true) (λ line. same_code line.parent code) t.lines children))))
          ∙ sym (rolled-step code))

    -- the same of what is stored on whom a part reaches
    pub reaches-unique : (target : List ℕ) (stored : List ℕ → Bool) → AllByRecursion (λ line. is_kept t line.child ≡ true) t.lines → ((code : List ℕ) → is_kept t code ≡ true → stored code ≡ list_any (λ line. same_code line.child target || stored line.child) (lines_of t.lines code)) → (code : List ℕ) → is_kept t code ≡ true → stored code ≡ reaches t code target
    reaches-unique target stored children step =
        bill_induction (λ code. is_kept t code ≡ true → stored code ≡ reaches t code target)
        (λ code below kept.
        step code kept
        ∙ any_same (λ line. same_code line.child target || stored line.child) (λ line. is_or_reaches t line.child target) (lines_of t.lines code)
        (each_map (λ line. (is_kept t line.child ≡ true → stored line.child ≡ reaches t line.child target) × ((is_kept t line.child ≡ true) × (same_code line.parent code ≡ true))) (λ line. (same_code line.child target || stored line.child) ≡ is_or_reaches t line.child target)
        (λ line h. ap (λ b. same_code line.child target || b) (h.0 h.1.0)) (lines_of t.lines code)
        (each_both (λ line. is_kept t line.child ≡ true → stored line.child ≡ reaches t line.child target) (λ line. (is_kept t line.child ≡ true) × (same_code line.parent code ≡ true)) (lines_of t.lines code) below
        (each_filter (λ line. is_kept t line.child ≡ true) (λ line. same_code line.parent code) t.lines children)))
        ∙ sym (reaches-step target code))

    -- chains
    module _ (target : List ℕ) where
      -- what the next child is, from what each child is
      pub next_each : (P : List ℕ → Type 0) (part : List ℕ) → AllByRecursion (λ line. P line.child) (lines_of t.lines part) → MatchOption (next_to t part target) (list_any (λ line. is_or_reaches t line.child target) (lines_of t.lines part) ≡ false) (λ child. P child × (is_or_reaches t child target ≡ true) × (list_any (λ line. is_or_reaches t line.child target) (lines_of t.lines part) ≡ true))
      next_each P part a =
          mapped (find (λ line. is_or_reaches t line.child target) (lines_of t.lines part)) (find_each (λ line. P line.child) (λ line. is_or_reaches t line.child target) (lines_of t.lines part) a)
        where
          mapped : (o : Option LineRow) → MatchOption o (list_any (λ line. is_or_reaches t line.child target) (lines_of t.lines part) ≡ false) (λ line. P line.child × (is_or_reaches t line.child target ≡ true) × (list_any (λ other. is_or_reaches t other.child target) (lines_of t.lines part) ≡ true)) → MatchOption (option_map (λ line. line.child) o) (list_any (λ line. is_or_reaches t line.child target) (lines_of t.lines part) ≡ false) (λ child. P child × (is_or_reaches t child target ≡ true) × (list_any (λ line. is_or_reaches t line.child target) (lines_of t.lines part) ≡ true))
          mapped None h = h
          mapped (Some line) h = h

      chain_within-suc : (k : ℕ) (part : List ℕ) → chain_within t.lines (enough t) (suc k) part target ≡ (if same_code part target then part ∷ [] else part ∷ option_map_or (λ child. chain_within t.lines (enough t) k child target) (next_to t part target) [])
      unfolding chain_within
      chain_within-suc k part = refl

      chain_within-zero : (part : List ℕ) → chain_within t.lines (enough t) zero part target ≡ part ∷ []
      unfolding chain_within
      chain_within-zero part = refl

      next_to-none : (part : List ℕ) → is_part t part ≡ false → next_to t part target ≡ None
      next_to-none part absent = rw (lines_of-none part absent) refl

      alone : (b : Bool) (part : List ℕ) → (if b then part ∷ [] else part ∷ []) ≡ part ∷ []
      alone true part = refl
      alone false part = refl

      chain_within-none : (k : ℕ) (part : List ℕ) → is_part t part ≡ false → chain_within t.lines (enough t) k part target ≡ part ∷ []
      chain_within-none zero part absent = chain_within-zero part
      chain_within-none (suc k) part absent = chain_within-suc k part ∙ rw (next_to-none part absent) (alone (same_code part target) part)

      chains_same : (k : ℕ) (o : Option (List ℕ)) (Q : Type 0) (R S : List ℕ → Type 0) → MatchOption o Q (λ child. (chain_within t.lines (enough t) (suc k) child target ≡ chain_within t.lines (enough t) k child target) × R child × S child) → option_map_or (λ child. chain_within t.lines (enough t) (suc k) child target) o [] ≡ option_map_or (λ child. chain_within t.lines (enough t) k child target) o []
      chains_same k None Q R S h = refl
      chains_same k (Some child) Q R S h = h.0

      chain_stable : (k : ℕ) (part : List ℕ) → (is_part t part ≡ true → rank part < k) → chain_within t.lines (enough t) (suc k) part target ≡ chain_within t.lines (enough t) k part target
      chain_stable zero part h =
          elim (cases_Bool (is_part t part)) [
            | inl kept ↦ absurd (omega (arith, h kept))
            | inr absent ↦ chain_within-none (suc zero) part absent ∙ sym (chain_within-none zero part absent)
          ]
      chain_stable (suc k) part h =
          elim (cases_Bool (is_part t part)) [
            | inl kept ↦
                chain_within-suc (suc k) part
                ∙ ap (λ rest. if same_code part target then part ∷ [] else part ∷ rest)
                (chains_same k (next_to t part target) _ _ _
                (next_each (λ child. chain_within t.lines (enough t) (suc k) child target ≡ chain_within t.lines (enough t) k child target) part
                (each_map (λ line. is_part t line.child ≡ true → rank line.child < k) (λ line. chain_within t.lines (enough t) (suc k) line.child target ≡ chain_within t.lines (enough t) k line.child target)
                (λ line g. chain_stable k line.child g) (lines_of t.lines part) (below k part (h kept)))))
                ∙ sym (chain_within-suc k part)
            | inr absent ↦ chain_within-none (suc (suc k)) part absent ∙ sym (chain_within-none (suc k) part absent)
          ]

      -- a chain, by its next child
      pub chain-step : (part : List ℕ) → chain t part target ≡ (if same_code part target then part ∷ [] else part ∷ option_map_or (λ child. chain t child target) (next_to t part target) [])
      chain-step part = sym (chain_stable (enough t) part (λ _. rank_enough part)) ∙ chain_within-suc (enough t) part

      chain-longer : (more : ℕ) (part : List ℕ) → chain_within t.lines (enough t) (more + enough t) part target ≡ chain t part target
      chain-longer zero part = rw Rattle.std.proofs.Common.zero-add refl
      chain-longer (suc more) part =
          let same : suc more + enough t ≡ suc (more + enough t) = omega arith in
          rw same (chain_stable (more + enough t) part (λ _. omega (arith, rank_enough part)) ∙ chain-longer more part)

      -- greater depth finds the same next child, and so the same chain
      next-deeper : (deeper : ℕ) (part : List ℕ) → next_within t.lines (deeper + enough t) part target ≡ next_to t part target
      next-deeper deeper part =
          ap (option_map (λ line. line.child))
          (found_same (λ line. same_code line.child target || reaches_within t.lines (deeper + enough t) line.child target) (λ line. is_or_reaches t line.child target)
          (λ line. ap (λ b. same_code line.child target || b) (reaches-deeper target deeper line.child)) (lines_of t.lines part))
        where
          found_same : (p q : LineRow → Bool) → ((line : LineRow) → p line ≡ q line) → (lines : List LineRow) → find p lines ≡ find q lines
          found_same p q f [] = refl
          found_same p q f (line ∷ lines) = rw (f line, found_same p q f lines) refl

      chain_within-deeper : (deeper k : ℕ) (part : List ℕ) → chain_within t.lines (deeper + enough t) k part target ≡ chain_within t.lines (enough t) k part target
      unfolding chain_within
      chain_within-deeper deeper zero part = refl
      chain_within-deeper deeper (suc k) part =
          ap (λ next. if same_code part target then part ∷ [] else part ∷ option_map_or (λ child. chain_within t.lines (deeper + enough t) k child target) next []) (next-deeper deeper part)
          ∙ ap (λ rest. if same_code part target then part ∷ [] else part ∷ rest) (rest_same (λ child. chain_within-deeper deeper k child) (next_to t part target))
        where
          rest_same : ((child : List ℕ) → chain_within t.lines (deeper + enough t) k child target ≡ chain_within t.lines (enough t) k child target) → (next : Option (List ℕ)) → option_map_or (λ child. chain_within t.lines (deeper + enough t) k child target) next [] ≡ option_map_or (λ child. chain_within t.lines (enough t) k child target) next []
          rest_same same None = refl
          rest_same same (Some child) = same child

      pub chain-deeper : (deeper more : ℕ) (part : List ℕ) → chain_within t.lines (deeper + enough t) (more + enough t) part target ≡ chain t part target
      chain-deeper deeper more part = chain_within-deeper deeper (more + enough t) part ∙ chain-longer more part
