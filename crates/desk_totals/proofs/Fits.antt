-- What fits of a sum, and of the sums that lines make.
use Rattle.std.proofs.Common.{◌≡◌, ℕ, zero, suc, ◌+◌, ◌*◌, ◌^◌, ◌<◌, ◌≤◌, true, false, List, [], ◌∷◌, Option, Some, None, SomeIff, eqb, Decides, sum_by, refl, sym, ap, ◌∙◌, inl, inr, arith}
use Rattle.std.specs.Prelude.{nat_lt, if◌then◌else◌}
use Rattle.std.specs.Option.{option_eq}
use Rattle.std.specs.List.{AllByRecursion}
use Rattle.std.proofs.lemmas.Bool.{cases_lt, false≢true}
use Rattle.std.proofs.lemmas.Bool.Decides.{Decides-eqb, nat_tests}
use Rattle.std.proofs.lemmas.List.Sums.{sum_by-cons}
use Rattle.desk_model.specs.declared.rows.line.LineRow.{LineRow}
use Rattle.desk_totals.specs.Fit.{fit, fit_with}
use Rattle.desk_totals.specs.Rounds.{with_lines}

-- a number below the bound fits, and one that isn't doesn't
pub fit-below : (bound n : ℕ) → n < bound → (if nat_lt n bound then Some n else None) ≡ Some n
fit-below bound n h = let e : nat_lt n bound ≡ true = grind (arith, nat_tests) in rw e refl

pub fit-above : (bound n : ℕ) → bound ≤ n → (if nat_lt n bound then Some n else None) ≡ None
fit-above bound n h = let e : nat_lt n bound ≡ false = grind (arith, nat_tests) in rw e refl

more_times : (count b bound a : ℕ) → bound ≤ b → bound ≤ a + suc count * b
more_times count b bound a h = grind arith

fit_with-none : (count : ℕ) (child : Option ℕ) → fit_with None count child ≡ None
unfolding fit_with
fit_with-none count child = refl

fit_with-some : (n count child : ℕ) → fit_with (Some n) count (Some child) ≡ fit (n + count * child)
unfolding fit_with
fit_with-some n count child = refl

fit_with-zero : (n : ℕ) → fit_with (Some n) zero None ≡ Some n
unfolding fit_with
fit_with-zero n = refl

fit_with-suc : (n count : ℕ) → fit_with (Some n) (suc count) None ≡ None
unfolding fit_with
fit_with-suc n count = refl

no_child : (bound count a b : ℕ) → a < bound → bound ≤ b → fit_with (Some a) count None ≡ (if nat_lt (a + count * b) bound then Some (a + count * b) else None)
no_child bound zero a b small above =
    let same : a + zero * b ≡ a = omega arith in
    fit_with-zero a ∙ sym (fit-below bound a small) ∙ ap (λ n. if nat_lt n bound then Some n else None) (sym same)
no_child bound (suc count) a b small above = fit_with-suc a count ∙ sym (fit-above bound (a + suc count * b) (more_times count b bound a above))

-- what fits of a sum, by what fits of its parts
pub fit_with-fits : (a count b : ℕ) → fit_with (fit a) count (fit b) ≡ fit (a + count * b)
fit_with-fits a count b =
    elim (cases_lt a (2 ^ 128)) [
      | inl small ↦
          ap (λ o. fit_with o count (fit b)) (fit-below (2 ^ 128) a small)
          ∙ elim (cases_lt b (2 ^ 128)) [
            | inl below ↦ ap (fit_with (Some a) count) (fit-below (2 ^ 128) b below) ∙ fit_with-some a count b
            | inr above ↦ ap (fit_with (Some a) count) (fit-above (2 ^ 128) b above) ∙ no_child (2 ^ 128) count a b small above
          ]
      | inr great ↦
          ap (λ o. fit_with o count (fit b)) (fit-above (2 ^ 128) a great) ∙ fit_with-none count (fit b) ∙ sym (fit-above (2 ^ 128) (a + count * b) (omega (arith, great)))
    ]

-- what lines add up to
pub fits_lines : (f : List ℕ → Option ℕ) (r : List ℕ → ℕ) (lines : List LineRow) → AllByRecursion (λ line. f line.child ≡ fit (r line.child)) lines → (a : ℕ) → with_lines fit_with f (fit a) lines ≡ fit (a + sum_by (λ line. line.count * r line.child) lines)
unfolding with_lines
fits_lines f r [] are a = ap fit (omega arith)
fits_lines f r (line ∷ lines) are a =
    ap (λ o. with_lines fit_with f o lines) (ap (fit_with (fit a) line.count) are.0 ∙ fit_with-fits a line.count (r line.child))
    ∙ fits_lines f r lines are.1 (a + line.count * r line.child)
    ∙ ap fit (omega (arith, sum_by-cons (λ l. l.count * r l.child) line lines))

-- a checked sum is what fits
pub fit_from_checked : (r : Option ℕ) (n : ℕ) → SomeIff r (n < 2 ^ 128) n → r ≡ fit n
fit_from_checked None n h = sym (fit-above (2 ^ 128) n (elim (cases_lt n (2 ^ 128)) [ inl below ↦ absurd (h below) | inr above ↦ above ]))
fit_from_checked (Some x) n h = ap Some h.1 ∙ sym (fit-below (2 ^ 128) n h.0)

some_inside : (a b : ℕ) → Some a ≡ Some b → a ≡ b
some_inside a b e = cc

none_some : (a : ℕ) → None ≡ Some a → ⊥
none_some a e = cc

-- amounts are compared right
pub same_amount : (a b : Option ℕ) → Decides (option_eq eqb a b) (a ≡ b)
same_amount None None = (λ _. refl, λ _. refl)
same_amount None (Some b) = (λ e. absurd (false≢true e), λ e. absurd (none_some b e))
same_amount (Some a) None = (λ e. absurd (false≢true e), λ e. absurd (none_some a (sym e)))
same_amount (Some a) (Some b) = (λ e. ap Some ((Decides-eqb a b).0 e), λ e. (Decides-eqb a b).1 (some_inside a b e))
