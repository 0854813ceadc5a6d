-- Sums of hops: there are no more after values are put in than are kept and put in together.
use Rattle.std.proofs.Common.{◌≡◌, ℕ, zero, suc, ◌+◌, ◌-◌, ◌<◌, ◌≤◌, cond, ◌==◌, List, [], ◌∷◌, length, slice_index, sum_by, refl, ap, subst, inl, inr, arith}
use Rattle.std.specs.List.{range_with_len}
use Rattle.std.proofs.lemmas.Bool.{cases_eq, eq-eqb, ne_eqb}
use Rattle.std.proofs.lemmas.List.Sums.{sum_by-cons}
use Rattle.desk_rollup.specs.Values.{RolledValues, hop_total, rolled_at}

-- how many hops a node has
abbrev pub hops_of : RolledValues → ℕ
hops_of values = length values.hops

-- a sum is bounded by those of two functions that bound each part together
pub sum_within : (f a b : ℕ → ℕ) (low n : ℕ) → ((i : ℕ) → i < low + n → f i ≤ a i + b i) →
    sum_by f (range_with_len low n) ≤ sum_by a (range_with_len low n) + sum_by b (range_with_len low n)
sum_within f a b low zero each = omega arith
sum_within f a b low (suc n) each =
    let more = range_with_len (low + 1) n in
    let rest = sum_within f a b (low + 1) n (λ i h. each i (omega (arith, h))) in
    omega (arith, sum_by-cons f low more, sum_by-cons a low more, sum_by-cons b low more, rest, each low (omega arith))

sum_none : (f : ℕ → ℕ) (low n : ℕ) → ((i : ℕ) → f i ≡ 0) → sum_by f (range_with_len low n) ≡ 0
sum_none f low zero none = refl
sum_none f low (suc n) none = omega (arith, sum_by-cons f low (range_with_len (low + 1) n), none low, sum_none f (low + 1) n none)

-- an amount at one number
abbrev amount_at : ℕ → ℕ → ℕ → ℕ
amount_at at amount node = cond (at == node) amount 0

none_at : (at amount low n : ℕ) → at < low → sum_by (amount_at at amount) (range_with_len low n) ≡ 0
none_at at amount low zero below = refl
none_at at amount low (suc n) below =
    let none = ap (λ b. cond b amount 0) (ne_eqb at low (λ e. omega (arith, below, e))) in
    omega (arith, sum_by-cons (amount_at at amount) low (range_with_len (low + 1) n), none, none_at at amount (low + 1) n (omega (arith, below)))

one_at : (at amount low n : ℕ) → sum_by (amount_at at amount) (range_with_len low n) ≤ amount
one_at at amount low zero = omega arith
one_at at amount low (suc n) =
    let all = sum_by-cons (amount_at at amount) low (range_with_len (low + 1) n) in
    elim (cases_eq at low) [
      | inl here ↦
          let one = ap (λ b. cond b amount 0) (eq-eqb at low here) in
          omega (arith, all, one, none_at at amount (low + 1) n (omega (arith, here)))
      | inr away ↦
          let none = ap (λ b. cond b amount 0) (ne_eqb at low away) in
          omega (arith, all, none, one_at at amount (low + 1) n)
    ]

-- the hops that are put in at a node
abbrev pub put_at : List ℕ → List RolledValues → ℕ → ℕ
put_at [] new node = 0
put_at (first ∷ nodes) [] node = 0
put_at (first ∷ nodes) (values ∷ new) node = amount_at first (hops_of values) node + put_at nodes new node

pub put_sum : (nodes : List ℕ) (new : List RolledValues) (low n : ℕ) → sum_by (put_at nodes new) (range_with_len low n) ≤ hop_total new
put_sum [] new low n = omega (arith, sum_none (put_at [] new) low n (λ i. refl))
put_sum (first ∷ nodes) [] low n = omega (arith, sum_none (put_at (first ∷ nodes) []) low n (λ i. refl))
put_sum (first ∷ nodes) (values ∷ new) low n =
    omega (
      arith,
      sum_within (put_at (first ∷ nodes) (values ∷ new)) (amount_at first (hops_of values)) (put_at nodes new) low n (λ i h. omega arith),
      one_at first (hops_of values) low n,
      put_sum nodes new low n,
      sum_by-cons hops_of values new,
    )

pub put_there : (nodes : List ℕ) (new : List RolledValues) (place node : ℕ) → place < length nodes → length new ≡ length nodes → slice_index nodes place ≡ node →
    hops_of (rolled_at new place) ≤ put_at nodes new node
put_there [] new place node low size is = absurd (omega (arith, low))
put_there (first ∷ nodes) [] place node low size is = absurd (omega (arith, size))
put_there (first ∷ nodes) (values ∷ new) zero node low size is =
    let here = ap (λ b. cond b (hops_of values) 0) (eq-eqb first node is) in
    omega (arith, here)
put_there (first ∷ nodes) (values ∷ new) (suc place) node low size is =
    omega (arith, put_there nodes new place node (omega (arith, low)) (omega (arith, size)) is)

-- the hops that are kept of nodes are among all that are kept
pub kept_sum : (rolled : List RolledValues) (f : ℕ → ℕ) (low n : ℕ) → ((i : ℕ) → low ≤ i → f i ≤ hops_of (rolled_at rolled (i - low))) →
    sum_by f (range_with_len low n) ≤ hop_total rolled
kept_sum rolled f low zero each = omega arith
kept_sum [] f low (suc n) each =
    omega (arith, sum_by-cons f low (range_with_len (low + 1) n), each low (omega arith), kept_sum [] f (low + 1) n (λ i h. each i (omega (arith, h))))
kept_sum (values ∷ rolled) f low (suc n) each =
    let P : ℕ → ℕ → Type 0 = λ i k. f i ≤ hops_of (rolled_at (values ∷ rolled) k) in
    let here : low - low ≡ 0 = omega arith in
    let first : f low ≤ hops_of values = subst (P low) here (each low (omega arith)) in
    let rest = kept_sum rolled f (low + 1) n (λ i h. let behind : i - low ≡ suc (i - (low + 1)) = omega (arith, h) in subst (P i) behind (each i (omega (arith, h)))) in
    omega (arith, sum_by-cons f low (range_with_len (low + 1) n), sum_by-cons hops_of values rolled, first, rest)
