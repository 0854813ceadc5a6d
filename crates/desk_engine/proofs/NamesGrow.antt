-- Names of substances after an edit.
use Rattle.std.proofs.Common.{◌≡◌, ℕ, zero, suc, ◌+◌, ◌-◌, ◌≤◌, ◌⊎◌, ⊎_elim, Bool, true, false, cond, ◌||◌, List, [], ◌∷◌, ◌++◌, length, map, is_eq, Ordering, Less, Equal, Greater, arith, Option, Some, None, is_some, Result, Ok, Err, IfOk, unwrap_or, refl, sym, ap, ◌∙◌, subst, inl, inr}
use Rattle.std.specs.Prelude.{if◌then◌else◌, nat_lt}
use Rattle.std.specs.Ordering.{match_ordering}
use Rattle.std.specs.List.{list_any}
use Rattle.std.proofs.lemmas.Bool.{and_parts, cases_Bool, false_from_ne_true, false≢true, ltb-false, or_left, or_right, true≢false}
use Rattle.std.proofs.lemmas.List.{length-append}
use Rattle.desk_text.specs.Code.{code_cmp, code_of, same_code}
use Rattle.desk_text.specs.Day.{Date}
use Rattle.desk_law.specs.declared.rule.Rule.{Rule}
use Rattle.desk_rows.specs.Rows.{row_of, with_row}
use Rattle.desk_rows.proofs.Lookups.{length-with_row-ge, row_of-with_row_other}
use Rattle.desk_model.specs.declared.edit.Edit.{Edit}
use Rattle.desk_model.specs.declared.edit.Edit.TheVariants.{Substance, Member, Declare, Part, Line, Unline, Product, Exemption, Unexempt, Candidate, Ship, Unship}
use Rattle.desk_model.specs.declared.table_name.TableName.TheVariants.{Candidates}
use Rattle.desk_model.specs.declared.rows.candidate.CandidateRow.{CandidateRow}
use Rattle.desk_model.specs.Effect.{with_edit_entered, with_edit_made, units_of, with_factor, with_units}
use Rattle.desk_model.specs.Forms.{is_candidate_row}
use Rattle.desk_model.specs.Lists.{Lists}
use Rattle.desk_model.specs.Values.{is_code}
use Rattle.desk_model.proofs.Elements.{each_from_all, each_map}
use Rattle.desk_model.proofs.Kept.{code_cmp_total, kept_each, same_code-true, same_code-from}
use Rattle.desk_findings.specs.Above.{is_candidate}
use Rattle.desk_history.specs.History.{PassesRows}
use Rattle.desk_history.specs.Limits.{tables_over}
use Rattle.desk_history.proofs.TableLimits.{within_limit}
use Rattle.desk_history.specs.Sound.{IsConsistent, Sound}
use Rattle.desk_history.proofs.SoundClauses.{forms_of}
use Rattle.desk_history.proofs.SoundSteps.{IsConsistent-entered}
use Rattle.desk_engine.specs.Names.{AreFewNames, GrowTo, new_candidate}

append_none : {X : Type 0} (xs : List X) → xs ++ [] ≡ xs
append_none [] = refl
append_none (x ∷ xs) = ap (λ rest. x ∷ rest) (append_none xs)

-- no candidate is without a name
empty_code : is_code [] ≡ false
unfolding code_of
empty_code = refl

nameless : (t : Lists) → IsConsistent t → is_candidate t [] ≡ false
nameless t s =
    false_from_ne_true (is_candidate t [])
    (λ kept.
    false≢true (sym empty_code
    ∙ kept_each (λ row. row.substance) (λ c. is_code c ≡ true) [] t.candidates
    (each_map (λ row. is_candidate_row row ≡ true) (λ row. is_code row.substance ≡ true) (λ row e. (and_parts (is_code row.substance) _ e).0) t.candidates (each_from_all is_candidate_row t.candidates (forms_of t s.in_form).candidates)) kept))

factor_leaves : (t : Lists) (substance : List ℕ) (rule : Rule) (factor : ℕ) → (with_factor t substance rule factor).candidates ≡ t.candidates
factor_leaves t substance rule zero = refl
factor_leaves t substance rule (suc fewer) = refl

units_leave : (t : Lists) (year : ℕ) (product : List ℕ) (units : ℕ) → (with_units t year product units).candidates ≡ t.candidates
units_leave t year product zero = refl
units_leave t year product (suc fewer) = refl

-- another edit leaves the candidates
candidates_stay : (t : Lists) (edit : Edit) → new_candidate edit ≡ None → (with_edit_entered t edit).candidates ≡ t.candidates
unfolding with_edit_entered with_edit_made new_candidate
candidates_stay t (Candidate ticket substance day) e = cc
candidates_stay t (Substance ticket code name cas) e = refl
candidates_stay t (Member ticket substance rule factor) e = factor_leaves t substance rule factor
candidates_stay t (Declare declaration) e = refl
candidates_stay t (Part ticket code sort name) e = refl
candidates_stay t (Line ticket parent child count) e = refl
candidates_stay t (Unline ticket parent child) e = refl
candidates_stay t (Product ticket part kind) e = refl
candidates_stay t (Exemption ticket exemption) e = refl
candidates_stay t (Unexempt ticket row) e = refl
candidates_stay t (Ship ticket product year units) e = units_leave t year product (units_of t year product + units)
candidates_stay t (Unship ticket product year units) e = units_leave t year product (units_of t year product - units)

same_candidate : (t u : Lists) → u.candidates ≡ t.candidates → (substance : List ℕ) → is_candidate u substance ≡ is_candidate t substance
same_candidate t u e substance = ap (λ rows. is_some (row_of (λ row. row.substance) code_cmp substance rows)) e

same_names : (t u : Lists) (names : List (List ℕ)) → u.candidates ≡ t.candidates → AreFewNames t names → AreFewNames u names
same_names t u names e few = record {
  named = record {
    named = λ substance there. few.named.named substance (sym (same_candidate t u e substance) ∙ there);
    few = few.named.few;
    nameless = same_candidate t u e [] ∙ few.named.nameless;
  };
  few = subst (λ rows. length names ≤ length rows) (sym e) few.few;
}

pub stay : (t : Lists) (edit : Edit) → new_candidate edit ≡ None → (names : List (List ℕ)) → AreFewNames t names → GrowTo t (with_edit_entered t edit) names names
stay t edit e names named = record {
  others = [];
  grown = sym (append_none names);
  fresh = tt;
  named = same_names t (with_edit_entered t edit) names (candidates_stay t edit e) named;
}

listed_append : (names : List (List ℕ)) (substance other : List ℕ) → list_any (λ listed. same_code listed other) (names ++ substance ∷ []) ≡ (list_any (λ listed. same_code listed other) names || same_code substance other)
listed_append [] substance other = by_false (same_code substance other)
  where
    by_false : (b : Bool) → (b || false) ≡ b
    by_false true = refl
    by_false false = refl
listed_append (name ∷ names) substance other = ap (λ b. same_code name other || b) (listed_append names substance other) ∙ regroup (same_code name other) (list_any (λ listed. same_code listed other) names) (same_code substance other)
  where
    regroup : (a b c : Bool) → (a || (b || c)) ≡ ((a || b) || c)
    regroup true b c = refl
    regroup false b c = refl

-- a row that is new makes the list longer by one
length-new : {R K : Type 0} (key : R → K) (cmp : K → K → Ordering) (new : R) (rows : List R) → row_of key cmp (key new) rows ≡ None → length (with_row key cmp new rows) ≡ length rows + 1
length-new key cmp new [] e = refl
length-new key cmp new (row ∷ rows) e =
    elim (cmp (key row) (key new)) as (λ o. cond (is_eq o) (Some row) (row_of key cmp (key new) rows) ≡ None → length (match_ordering o (row ∷ with_row key cmp new rows) (new ∷ rows) (new ∷ row ∷ rows)) ≡ suc (length rows) + 1) [
      | Less ↦ λ none. let rest = length-new key cmp new rows none in omega (arith, rest)
      | Equal ↦ λ none. some_none none
      | Greater ↦ λ none. omega arith
    ] e
  where
    some_none : {X G : Type 0} {x : X} → Some x ≡ None → G
    some_none h = cc

-- tables that keep their limits have few candidates
few_candidates : (t : Lists) → tables_over t ≡ [] → length t.candidates ≤ 1024
few_candidates t e = within_limit t e Candidates

module _ (t : Lists) (s : Sound t) (ticket substance : List ℕ) (day : Date) (passes : PassesRows t (Candidate ticket substance day)) (names : List (List ℕ)) (named : AreFewNames t names) where
  after_candidate : (other : List ℕ) → is_candidate (with_edit_entered t (Candidate ticket substance day)) other ≡ true → (is_candidate t other ≡ true) ⊎ (substance ≡ other)
  unfolding with_edit_entered with_edit_made
  after_candidate other e =
      elim (cases_Bool (same_code substance other)) [
        | inl here ↦ inr (same_code-true substance other here)
        | inr away ↦ inl (sym (ap is_some (row_of-with_row_other (λ row. row.substance) code_cmp code_cmp_total (record { substance = substance; day = day }) other t.candidates away)) ∙ e)
      ]

  candidates_grow : length t.candidates ≤ length (with_edit_entered t (Candidate ticket substance day)).candidates
  unfolding with_edit_entered with_edit_made
  candidates_grow = length-with_row-ge (λ row. row.substance) code_cmp (record { substance = substance; day = day }) t.candidates

  one_more : is_candidate t substance ≡ false → length (with_edit_entered t (Candidate ticket substance day)).candidates ≡ length t.candidates + 1
  unfolding with_edit_entered with_edit_made
  one_more none = length-new (λ row. row.substance) code_cmp (record { substance = substance; day = day }) t.candidates (not_some (row_of (λ row. row.substance) code_cmp substance t.candidates) none)
    where
      not_some : {X : Type 0} (o : Option X) → is_some o ≡ false → o ≡ None
      not_some None e = refl
      not_some (Some x) e = absurd (true≢false e)

  names_of : (new : List (List ℕ)) → length new ≤ length t.candidates + 1 → length new ≤ length (with_edit_entered t (Candidate ticket substance day)).candidates →
      ((other : List ℕ) → list_any (λ listed. same_code listed other) names ≡ true → list_any (λ listed. same_code listed other) new ≡ true) → list_any (λ listed. same_code listed substance) new ≡ true → AreFewNames (with_edit_entered t (Candidate ticket substance day)) new
  names_of new near few more here = record {
    named = record {
      named = λ other there. ⊎_elim (λ before. more other (named.named.named other before)) (λ same. subst (λ c. list_any (λ listed. same_code listed c) new ≡ true) same here) (after_candidate other there);
      few = omega (arith, near, few_candidates t s.limits.tables_fit);
      nameless = nameless (with_edit_entered t (Candidate ticket substance day)) (IsConsistent-entered t (Candidate ticket substance day) s.consistent passes);
    };
    few = few;
  }

  grow_by : (listed : Bool) → list_any (λ listed. same_code listed substance) names ≡ listed → (new : List (List ℕ)) → new ≡ (if listed then names else names ++ substance ∷ []) → GrowTo t (with_edit_entered t (Candidate ticket substance day)) names new
  grow_by true there new is =
      subst (GrowTo t (with_edit_entered t (Candidate ticket substance day)) names) (sym is)
      (record { others = []; grown = sym (append_none names); fresh = tt; named = names_of names (omega (arith, named.few)) (omega (arith, named.few, candidates_grow)) (λ other e. e) there })
  grow_by false absent new is =
      let none : is_candidate t substance ≡ false = false_from_ne_true (is_candidate t substance) (λ kept. false≢true (sym absent ∙ named.named.named substance kept)) in
      let longer : length new ≡ length names + 1 = ap length is ∙ length-append names (substance ∷ []) in
      record {
        others = substance ∷ [];
        grown = is;
        fresh = (none, tt);
        named = names_of new (omega (arith, longer, named.few)) (omega (arith, longer, named.few, one_more none))
            (λ other there. ap (list_any (λ listed. same_code listed other)) is ∙ listed_append names substance other ∙ or_left (list_any (λ listed. same_code listed other) names) (same_code substance other) there)
            (ap (list_any (λ listed. same_code listed substance)) is ∙ listed_append names substance substance
            ∙ or_right (list_any (λ listed. same_code listed substance) names) (same_code substance substance) (same_code-from substance substance refl));
      }

  pub grow : (new : List (List ℕ)) → new ≡ (if list_any (λ listed. same_code listed substance) names then names else names ++ substance ∷ []) → GrowTo t (with_edit_entered t (Candidate ticket substance day)) names new
  grow new is = grow_by (list_any (λ listed. same_code listed substance) names) refl new is

-- by the substance that an edit puts on the list
grow_with : (t : Lists) → Sound t → (edit : Edit) (substance : List ℕ) → new_candidate edit ≡ Some substance → PassesRows t edit → (names : List (List ℕ)) → AreFewNames t names → (new : List (List ℕ)) →
    new ≡ (if list_any (λ listed. same_code listed substance) names then names else names ++ substance ∷ []) → GrowTo t (with_edit_entered t edit) names new
unfolding new_candidate
grow_with t s (Candidate ticket own day) substance e passes names named new is =
    let same : own ≡ substance = some_inside e in
    grow t s ticket own day passes names named new (is ∙ ap (λ c. if list_any (λ listed. same_code listed c) names then names else names ++ c ∷ []) (sym same))
  where
    some_inside : {x y : List ℕ} → Some x ≡ Some y → x ≡ y
    some_inside h = cc
grow_with t s (Substance ticket code name cas) substance e passes names named new is = cc
grow_with t s (Member ticket code rule factor) substance e passes names named new is = cc
grow_with t s (Declare declaration) substance e passes names named new is = cc
grow_with t s (Part ticket code sort name) substance e passes names named new is = cc
grow_with t s (Line ticket parent child count) substance e passes names named new is = cc
grow_with t s (Unline ticket parent child) substance e passes names named new is = cc
grow_with t s (Product ticket part kind) substance e passes names named new is = cc
grow_with t s (Exemption ticket exemption) substance e passes names named new is = cc
grow_with t s (Unexempt ticket row) substance e passes names named new is = cc
grow_with t s (Ship ticket product year units) substance e passes names named new is = cc
grow_with t s (Unship ticket product year units) substance e passes names named new is = cc

pub grow_ok : (t : Lists) → Sound t → (edit : Edit) (substance : List ℕ) → new_candidate edit ≡ Some substance → PassesRows t edit → (names : List (List ℕ)) → AreFewNames t names → {E : Type 0} (r : Result (Option (List (List ℕ))) E) →
    IfOk r (λ new. unwrap_or new names ≡ (if list_any (λ listed. same_code listed substance) names then names else names ++ substance ∷ [])) → IfOk r (λ new. GrowTo t (with_edit_entered t edit) names (unwrap_or new names))
grow_ok t s edit substance e passes names named (Ok new) is = grow_with t s edit substance e passes names named (unwrap_or new names) is
grow_ok t s edit substance e passes names named (Err fault) is = tt

-- the names of all candidates
listed_row : (substance : List ℕ) (rows : List CandidateRow) → is_some (row_of (λ row. row.substance) code_cmp substance rows) ≡ true → list_any (λ listed. same_code listed substance) (map (λ row. row.substance) rows) ≡ true
listed_row substance [] e = absurd (false≢true e)
listed_row substance (row ∷ rows) e =
    elim (cases_Bool (same_code row.substance substance)) [
      | inl here ↦ or_left (same_code row.substance substance) (list_any (λ listed. same_code listed substance) (map (λ r. r.substance) rows)) here
      | inr away ↦ or_right (same_code row.substance substance) (list_any (λ listed. same_code listed substance) (map (λ r. r.substance) rows)) (listed_row substance rows (rw away at e))
    ]

length-map : {X Y : Type 0} (f : X → Y) (xs : List X) → length (map f xs) ≡ length xs
length-map f [] = refl
length-map f (x ∷ xs) = ap suc (length-map f xs)

pub all_named : (t : Lists) → Sound t → (names : List (List ℕ)) (rows : List CandidateRow) → names ≡ map (λ row. row.substance) rows → rows ≡ t.candidates → AreFewNames t names
all_named t s names rows is rows_are =
    let count : length names ≡ length t.candidates = ap length is ∙ length-map (λ row. row.substance) rows ∙ ap length rows_are in
    record {
      named = record {
        named = λ substance there. subst (λ list. list_any (λ listed. same_code listed substance) list ≡ true) (sym (is ∙ ap (map (λ row. row.substance)) rows_are)) (listed_row substance t.candidates there);
        few = omega (arith, count, few_candidates t s.limits.tables_fit);
        nameless = nameless t s.consistent;
      };
      few = omega (arith, count);
    }
