-- What an article carries is what it holds, where that is above in it.
use Rattle.std.proofs.Common.{◌≡◌, ℕ, ◌*◌, true, false, ◌<◌, List, get_or, length, refl, sym, ap, ◌∙◌, subst, inl, inr, arith}
use Rattle.std.specs.List.{AllByRecursion, list_any}
use Rattle.std.proofs.lemmas.Bool.{and_parts, both_ways, cases_Bool}
use Rattle.desk_text.specs.Code.{code_cmp, same_code}
use Rattle.desk_model.specs.declared.rows.candidate.CandidateRow.{CandidateRow}
use Rattle.desk_model.specs.Lists.{Lists, is_material, is_part}
use Rattle.desk_model.proofs.Elements.{each_filter, each_map, sum_zero}
use Rattle.desk_model.proofs.Kept.{code_cmp_total, each_kept, same_code-true}
use Rattle.desk_findings.specs.Above.{content, is_above, is_candidate}
use Rattle.desk_findings.specs.Articles.{is_article}
use Rattle.desk_findings.specs.Bill.{has_right_child}
use Rattle.desk_findings.specs.Carried.{carried, own_load}
use Rattle.desk_findings.specs.Reaches.{lines_of}
use Rattle.desk_findings.proofs.Bill.{has_parents, lines_of-none}
use Rattle.desk_findings.proofs.Children.{article_child, each_right_child, is_part-article, not_part}
use Rattle.desk_findings.proofs.Loads.{carried-step}
use Rattle.desk_history.specs.Sound.{IsConsistent}
use Rattle.desk_history.proofs.SoundClauses.{bill_of, right_of}
use Rattle.desk_bridge.specs.Numbers.{AreNames}
use Rattle.desk_engine.proofs.Listed.{each_at}

module _ (t : Lists) (s : IsConsistent t) (substance : List ℕ) where
  none_of_itself : (code : List ℕ) → is_part t code ≡ false → own_load t substance code ≡ 0
  none_of_itself code absent =
      elim (cases_Bool (is_article t code)) [
        | inl article ↦ absurd (both_ways (is_part t code) absent (is_part-article t code article))
        | inr other ↦ rw other refl
      ]

  material_carries_none : (code : List ℕ) → is_material t code ≡ true → carried t substance code ≡ 0
  material_carries_none code kept =
      let absent = not_part t s.codes_apart code kept in
      carried-step t (bill_of t s) substance code
      ∙ rw (lines_of-none t (has_parents t (bill_of t s).parents) code absent) (omega (arith, none_of_itself code absent))

  to_materials : (code : List ℕ) → is_article t code ≡ true → AllByRecursion (λ line. is_material t line.child ≡ true) (lines_of t.lines code)
  to_materials code article =
      each_map (λ line. (has_right_child t line ≡ true) × (same_code line.parent code ≡ true)) (λ line. is_material t line.child ≡ true)
      (λ line h. article_child t line h.0 (subst (λ c. is_article t c ≡ true) (sym (same_code-true line.parent code h.1)) article))
      (lines_of t.lines code)
      (each_filter (λ line. has_right_child t line ≡ true) (λ line. same_code line.parent code) t.lines (each_right_child t (right_of t s)))

  zero_times : (n m : ℕ) → m ≡ 0 → n * m ≡ 0
  zero_times n m e = rw e (omega arith)

  pub article_carries : (code : List ℕ) → is_article t code ≡ true → is_above t code substance ≡ true → carried t substance code ≡ content t code substance
  article_carries code article over =
      let nothing =
      sum_zero (λ line. line.count * carried t substance line.child) (lines_of t.lines code)
      (each_map (λ line. is_material t line.child ≡ true) (λ line. line.count * carried t substance line.child ≡ 0)
      (λ line kept. zero_times line.count (carried t substance line.child) (material_carries_none line.child kept)) (lines_of t.lines code) (to_materials code article)) in
      let own : own_load t substance code ≡ content t code substance = rw (article, over) refl in
      omega (arith, carried-step t (bill_of t s) substance code, nothing, own)

-- what is above is a candidate
pub above_candidate : (t : Lists) (article substance : List ℕ) → is_above t article substance ≡ true → is_candidate t substance ≡ true
unfolding is_above
above_candidate t article substance over = (and_parts (is_candidate t substance) _ over).0

-- a candidate is named
pub candidate_named : (t : Lists) (names : List (List ℕ)) → AreNames t names → (place : ℕ) (d : CandidateRow) → place < length t.candidates → d ≡ get_or t.candidates place d → list_any (λ listed. same_code listed d.substance) names ≡ true
candidate_named t names named place d low read =
    let kept : is_candidate t (get_or t.candidates place d).substance ≡ true = each_at (λ row. is_candidate t row.substance ≡ true) t.candidates place d (each_kept (λ row. row.substance) code_cmp code_cmp_total t.candidates) low in
    named.named d.substance (ap (λ row. is_candidate t row.substance) read ∙ kept)
