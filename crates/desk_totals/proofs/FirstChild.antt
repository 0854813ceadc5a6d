-- The first children at which a chain may go on are the next of the chain.
use Rattle.std.proofs.Common.{◌≡◌, ℕ, ◌<◌, Bool, true, false, List, [], ◌∷◌, Option, Some, None, MatchOption, IfSome, find, length, option_map, replicate, get_or, refl, sym, ap, ◌∙◌, subst, arith}
use Rattle.std.specs.Prelude.{if◌then◌else◌}
use Rattle.std.specs.List.{AllByRecursion}
use Rattle.std.proofs.lemmas.List.{get_or-map, get_or-replicate, length-replicate}
use Rattle.desk_text.specs.Code.{same_code}
use Rattle.desk_model.specs.declared.rows.line.LineRow.{LineRow}
use Rattle.desk_model.specs.Lists.{Lists}
use Rattle.desk_model.proofs.Elements.{each_filter, each_map}
use Rattle.desk_findings.specs.Reaches.{enough, is_or_reaches, lines_of}
use Rattle.desk_totals.proofs.Distinct.{among_at, place_of_among}
use Rattle.desk_totals.proofs.Scatter.{value_of-at}
use Rattle.desk_totals.specs.Linked.{IsLinkedOf, Linked, are_codes_distinct, is_among}
use Rattle.desk_totals.specs.Marks.{has_bit}
use Rattle.desk_totals.specs.Next.{AreNext, AreSteps, or_child}
use Rattle.desk_totals.specs.Places.{node_at}
use Rattle.desk_totals.specs.Rounds.{round, value_of, with_lines}

module _ (nodes : List (List ℕ)) (test : List ℕ → Bool) where
  -- a step is the place of a code that passes the test, and there is none for one that doesn't
  pub IsStep : List ℕ → Option ℕ → Type 0
  IsStep code step = MatchOption step (test code ≡ false) (λ place. (test code ≡ true) × (place < length nodes) × (node_at nodes place ≡ code))

  -- it is the first of the lines' children that passes
  pub IsFirst : List LineRow → Option ℕ → Type 0
  IsFirst lines first =
      (option_map (node_at nodes) first ≡ option_map (λ line. line.child) (find (λ line. test line.child) lines)) × IfSome first (λ place. place < length nodes)

  with_first : (f : List ℕ → Option ℕ) (place : ℕ) (lines : List LineRow) → with_lines or_child f (Some place) lines ≡ Some place
  unfolding with_lines
  with_first f place [] = refl
  with_first f place (line ∷ lines) = with_first f place lines

  first_or : (f : List ℕ → Option ℕ) (line : LineRow) (lines : List LineRow) (step : Option ℕ) → IsStep line.child step → IsFirst lines (with_lines or_child f None lines) → IsFirst (line ∷ lines) (with_lines or_child f step lines)
  unfolding IsStep IsFirst
  first_or f line lines None is later = rw is later
  first_or f line lines (Some place) is later = rw (with_first f place lines, is.0) (ap Some is.2, is.1)

  none_first : (f : List ℕ → Option ℕ) → IsFirst [] (with_lines or_child f None [])
  unfolding with_lines IsFirst
  none_first f = (refl, tt)

  one_more : (f : List ℕ → Option ℕ) (line : LineRow) (lines : List LineRow) → with_lines or_child f None (line ∷ lines) ≡ with_lines or_child f (f line.child) lines
  unfolding with_lines
  one_more f line lines = refl

  -- the first step of lines is that of the first child that passes
  pub first_child : (f : List ℕ → Option ℕ) (lines : List LineRow) → AllByRecursion (λ line. IsStep line.child (f line.child)) lines → IsFirst lines (with_lines or_child f None lines)
  first_child f [] are = none_first f
  first_child f (line ∷ lines) are =
      subst (IsFirst (line ∷ lines)) (sym (one_more f line lines)) (first_or f line lines (f line.child) are.0 (first_child f lines are.1))

module _ (t : Lists) (bill : Linked) (of : IsLinkedOf bill t) (distinct : are_codes_distinct bill.nodes ≡ true) (children : AllByRecursion (λ line. is_among line.child bill.nodes ≡ true) t.lines) (target bits : List ℕ)
    (right : (code : List ℕ) → is_among code bill.nodes ≡ true → has_bit 0 (value_of 0 bill.nodes bits code) ≡ is_or_reaches t code target) (size : length bits ≡ length bill.nodes)
    (steps : List (Option ℕ)) (are : AreSteps bits steps) (steps_size : length steps ≡ length bill.nodes)
  where
    passes : List ℕ → Bool
    passes code = is_or_reaches t code target

    step_if : (b : Bool) (place : ℕ) (code : List ℕ) → place < length bill.nodes → node_at bill.nodes place ≡ code → b ≡ passes code → IsStep bill.nodes passes code (if b then Some place else None)
    unfolding IsStep
    step_if true place code within here e = (sym e, within, here)
    step_if false place code within here e = sym e

    step_at : (place : ℕ) → place < length bill.nodes → IsStep bill.nodes passes (node_at bill.nodes place) (value_of None bill.nodes steps (node_at bill.nodes place))
    unfolding passes
    step_at place within =
        subst (IsStep bill.nodes passes (node_at bill.nodes place))
        (sym (value_of-at None bill.nodes steps place distinct within steps_size ∙ are place (omega (arith, size, within))))
        (step_if (has_bit 0 (get_or bits place 0)) place (node_at bill.nodes place) within refl
        (ap (has_bit 0) (sym (value_of-at 0 bill.nodes bits place distinct within size)) ∙ right (node_at bill.nodes place) (among_at bill.nodes place within)))

    step_of : (code : List ℕ) → is_among code bill.nodes ≡ true → IsStep bill.nodes passes code (value_of None bill.nodes steps code)
    step_of code there =
        let found = place_of_among bill.nodes code there in
        subst (λ c. IsStep bill.nodes passes c (value_of None bill.nodes steps c)) found.2 (step_at found.0 found.1)

    first_of : (code : List ℕ) → IsFirst bill.nodes passes (lines_of t.lines code) (with_lines or_child (value_of None bill.nodes steps) None (lines_of t.lines code))
    first_of code =
        first_child bill.nodes passes (value_of None bill.nodes steps) (lines_of t.lines code)
        (each_map (λ line. (is_among line.child bill.nodes ≡ true) × (same_code line.parent code ≡ true)) (λ line. IsStep bill.nodes passes line.child (value_of None bill.nodes steps line.child))
        (λ line h. step_of line.child h.0) (lines_of t.lines code)
        (each_filter (λ line. is_among line.child bill.nodes ≡ true) (λ line. same_code line.parent code) t.lines children))

    next_at : (next : List (Option ℕ)) → next ≡ round or_child None bill (replicate (length bill.nodes) None) steps → (place : ℕ) → place < length bill.nodes →
        get_or next place None ≡ with_lines or_child (value_of None bill.nodes steps) None (lines_of t.lines (node_at bill.nodes place))
    unfolding round
    next_at next so place within =
        ap (λ l. get_or l place None) so
        ∙ get_or-map (λ code. with_lines or_child (value_of None bill.nodes steps) (value_of None bill.nodes (replicate (length bill.nodes) None) code) (lines_of bill.lines code)) bill.nodes place [] None within
        ∙ ap (λ v. with_lines or_child (value_of None bill.nodes steps) v (lines_of bill.lines (node_at bill.nodes place)))
        (value_of-at None bill.nodes (replicate (length bill.nodes) None) place distinct within (length-replicate (length bill.nodes) None) ∙ get_or-replicate (length bill.nodes) place None None within)
        ∙ ap (λ lines. with_lines or_child (value_of None bill.nodes steps) None (lines_of lines (node_at bill.nodes place))) of.lines

    -- the first children are the next of the chain
    pub are_next : (next : List (Option ℕ)) → next ≡ round or_child None bill (replicate (length bill.nodes) None) steps → AreNext bill.nodes next t.lines (enough t) target
    unfolding passes IsFirst
    are_next next so place within =
        let first = subst (IsFirst bill.nodes passes (lines_of t.lines (node_at bill.nodes place))) (sym (next_at next so place within)) (first_of (node_at bill.nodes place)) in
        (first.1, first.0)
