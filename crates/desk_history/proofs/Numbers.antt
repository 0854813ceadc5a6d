-- Ticket numbers: 1 to n, each once, also with the next one.
use Rattle.std.proofs.Common.{◌≡◌, ℕ, zero, suc, ◌+◌, ◌<◌, ◌≤◌, Bool, true, false, cond, ◌&&◌, List, [], ◌∷◌, length, sum_by, count_by, None, refl, ap, ◌∙◌, subst, inl, inr, arith}
use Rattle.std.specs.Prelude.{nat_le, ◌==◌}
use Rattle.std.specs.List.{AllByRecursion, list_any, range_with_len}
use Rattle.std.proofs.lemmas.Bool.{and_parts, cases_Bool, cases_order, eqb-true, eq-eqb, ne_eqb, le-leb, leb-true, lt-leb}
use Rattle.std.proofs.lemmas.List.Sums.{sum_by-cons, count_by-le-length}
use Rattle.desk_text.specs.Code.{code_cmp}
use Rattle.desk_rows.specs.Rows.{row_of, with_row}
use Rattle.desk_rows.proofs.Lookups.{sum_by-with_row}
use Rattle.desk_model.specs.declared.rows.ticket.TicketRow.{TicketRow}
use Rattle.desk_history.specs.Breaches.{is_number_once}
use Rattle.desk_history.specs.Sound.{are_numbers}
use Rattle.desk_model.proofs.Elements.{all_from_each, any_gives, count_by-cons, each, each_from_all, each_map, none_from_any, sum_same, sum_zero}

-- how many tickets have the number
count_of : List TicketRow → ℕ → ℕ
count_of tickets n = count_by (λ ticket. ticket.number == n) tickets

abbrev one : Bool → ℕ
one b = cond b 1 0

-- over a stretch of numbers a ticket counts once at most, and not at all where its number lies behind
stretch : (number a len : ℕ) → sum_by (λ n. one (number == n)) (range_with_len a len) ≤ one (nat_le a number && nat_le (suc number) (a + len))
stretch number a zero = omega arith
stretch number a (suc len) =
    let rest = stretch number (a + 1) len in
    let whole = sum_by-cons (λ n. one (number == n)) a (range_with_len (a + 1) len) in
    elim (cases_order number a) [
      | inl same ↦
          let later : one (nat_le (a + 1) number && nat_le (suc number) (a + 1 + len)) ≡ 0 = rw (lt-leb (a + 1) number (omega arith)) refl in
          let here : one (number == a) ≡ 1 = rw (eq-eqb number a same) refl in
          let all : one (nat_le a number && nat_le (suc number) (a + suc len)) ≡ 1 = rw (le-leb a number (omega arith), le-leb (suc number) (a + suc len) (omega arith)) refl in
          omega (arith, rest, whole, later, here, all)
      | inr (inl before) ↦
          let later : one (nat_le (a + 1) number && nat_le (suc number) (a + 1 + len)) ≡ 0 = rw (lt-leb (a + 1) number (omega arith)) refl in
          let here : one (number == a) ≡ 0 = rw (ne_eqb number a (omega arith)) refl in
          omega (arith, rest, whole, later, here)
      | inr (inr behind) ↦
          let here : one (number == a) ≡ 0 = rw (ne_eqb number a (omega arith)) refl in
          let same : one (nat_le (a + 1) number && nat_le (suc number) (a + 1 + len)) ≡ one (nat_le a number && nat_le (suc number) (a + suc len)) =
          rw (le-leb (a + 1) number (omega arith), le-leb a number (omega arith)) (ap (λ m. one (nat_le (suc number) m)) (omega arith)) in
          omega (arith, rest, whole, here, same)
    ]

range_each : (P : ℕ → Type 0) (a len : ℕ) → ((n : ℕ) → a ≤ n → n < a + len → P n) → AllByRecursion P (range_with_len a len)
range_each P a zero f = tt
range_each P a (suc len) f = (f a (omega arith) (omega arith), range_each P (a + 1) len (λ n low high. f n (omega arith) (omega arith)))

range_at : (P : ℕ → Type 0) (a len : ℕ) → AllByRecursion P (range_with_len a len) → (n : ℕ) → a ≤ n → n < a + len → P n
range_at P a zero h n low high = absurd (omega arith)
range_at P a (suc len) h n low high =
    elim (cases_order a n) [
      | inl same ↦ subst P same h.0
      | inr (inl before) ↦ range_at P (a + 1) len h.1 n (omega arith) (omega arith)
      | inr (inr behind) ↦ absurd (omega arith)
    ]

sum_plus : (f g : ℕ → ℕ) (ns : List ℕ) → sum_by (λ n. f n + g n) ns ≡ sum_by f ns + sum_by g ns
sum_plus f g [] = refl
sum_plus f g (n ∷ ns) = omega (arith, sum_by-cons (λ m. f m + g m) n ns, sum_by-cons f n ns, sum_by-cons g n ns, sum_plus f g ns)

sum_ones : (a len : ℕ) → sum_by (λ n. 1) (range_with_len a len) ≡ len
sum_ones a zero = refl
sum_ones a (suc len) = omega (arith, sum_by-cons (λ m. 1) a (range_with_len (a + 1) len), sum_ones (a + 1) len)

abbrev lies_in : ℕ → ℕ → TicketRow → Bool
lies_in a len ticket = nat_le a ticket.number && nat_le (suc ticket.number) (a + len)

-- all counts over a stretch together are at most the tickets whose number lies in it
total : (tickets : List TicketRow) (a len : ℕ) → sum_by (λ n. count_by (λ ticket. ticket.number == n) tickets) (range_with_len a len) ≤ count_by (lies_in a len) tickets
total [] a len = omega (arith, sum_zero (λ n. 0) (range_with_len a len) (each (λ n. ◌≡◌ {A = ℕ} 0 0) (λ n. refl) (range_with_len a len)))
total (ticket ∷ tickets) a len =
    let split : sum_by (λ n. count_by (λ row. row.number == n) (ticket ∷ tickets)) (range_with_len a len) ≡ sum_by (λ n. one (ticket.number == n) + count_by (λ row. row.number == n) tickets) (range_with_len a len) =
    sum_same (λ n. count_by (λ row. row.number == n) (ticket ∷ tickets)) (λ n. one (ticket.number == n) + count_by (λ row. row.number == n) tickets) (range_with_len a len)
    (each (λ n. count_by (λ row. row.number == n) (ticket ∷ tickets) ≡ one (ticket.number == n) + count_by (λ row. row.number == n) tickets) (λ n. count_by-cons (λ row. row.number == n) ticket tickets) (range_with_len a len)) in
    let parts = sum_plus (λ n. one (ticket.number == n)) (λ n. count_by (λ row. row.number == n) tickets) (range_with_len a len) in
    omega (arith, split, parts, stretch ticket.number a len, total tickets a len, count_by-cons (lies_in a len) ticket tickets)

full_count : (p : TicketRow → Bool) (tickets : List TicketRow) → length tickets ≤ count_by p tickets → AllByRecursion (λ ticket. p ticket ≡ true) tickets
full_count p [] h = tt
full_count p (ticket ∷ tickets) h =
    elim (cases_Bool (p ticket)) [
      | inl passes ↦
          let here : one (p ticket) ≡ 1 = rw passes refl in
          (passes, full_count p tickets (omega (arith, h, here, count_by-cons p ticket tickets)))
      | inr fails ↦
          let here : one (p ticket) ≡ 0 = rw fails refl in
          absurd (omega (arith, h, here, count_by-cons p ticket tickets, count_by-le-length p tickets))
    ]

count_none : (p : TicketRow → Bool) (tickets : List TicketRow) → AllByRecursion (λ ticket. p ticket ≡ false) tickets → count_by p tickets ≡ 0
count_none p [] a = refl
count_none p (ticket ∷ tickets) a =
    let here : one (p ticket) ≡ 0 = rw a.0 refl in
    omega (arith, here, count_by-cons p ticket tickets, count_none p tickets a.1)

module _ (tickets : List TicketRow) (numbered : are_numbers tickets ≡ true) where
  each_once : AllByRecursion (λ n. count_by (λ ticket. ticket.number == n) tickets ≡ 1) (range_with_len 1 (length tickets))
  each_once =
      each_map (λ n. (count_by (λ ticket. ticket.number == n) tickets == 1) ≡ true) (λ n. count_by (λ ticket. ticket.number == n) tickets ≡ 1)
      (λ n e. eqb-true (count_by (λ ticket. ticket.number == n) tickets) 1 e) (range_with_len 1 (length tickets))
      (each_from_all (λ n. count_by (λ ticket. ticket.number == n) tickets == 1) (range_with_len 1 (length tickets)) numbered)

  -- no number lies behind the count of the tickets
  pub each_in_range : AllByRecursion (λ ticket. lies_in 1 (length tickets) ticket ≡ true) tickets
  each_in_range =
      full_count (lies_in 1 (length tickets)) tickets
      (omega (
        arith,
        sum_same (λ n. count_by (λ ticket. ticket.number == n) tickets) (λ n. 1) (range_with_len 1 (length tickets)) each_once,
        sum_ones 1 (length tickets),
        total tickets 1 (length tickets),
      ))

  -- each ticket's number stands once, and is one of 1 to n
  pub each_number_once : AllByRecursion (λ ticket. is_number_once tickets ticket.number ≡ true) tickets
  each_number_once =
      each_map (λ ticket. lies_in 1 (length tickets) ticket ≡ true) (λ ticket. is_number_once tickets ticket.number ≡ true)
      (λ ticket h.
      let parts = and_parts (nat_le 1 ticket.number) (nat_le (suc ticket.number) (1 + length tickets)) h in
      let below = leb-true (suc ticket.number) (1 + length tickets) parts.1 in
      let above = leb-true 1 ticket.number parts.0 in
      let counted = range_at (λ m. count_by (λ other. other.number == m) tickets ≡ 1) 1 (length tickets) each_once ticket.number above (omega (arith, below)) in
      rw (parts.0, le-leb ticket.number (length tickets) (omega (arith, below)), counted) refl)
      tickets each_in_range

  next_free : count_by (λ ticket. ticket.number == length tickets + 1) tickets ≡ 0
  next_free =
      count_none (λ ticket. ticket.number == length tickets + 1) tickets
      (each_map (λ ticket. lies_in 1 (length tickets) ticket ≡ true) (λ ticket. (ticket.number == length tickets + 1) ≡ false)
      (λ ticket h.
      let parts = and_parts (nat_le 1 ticket.number) (nat_le (suc ticket.number) (1 + length tickets)) h in
      let below = leb-true (suc ticket.number) (1 + length tickets) parts.1 in
      ne_eqb ticket.number (length tickets + 1) (omega (arith, below)))
      tickets each_in_range)

  -- with a new ticket of the next number the numbers are 1 to n again
  pub are_numbers-with_row : (new : TicketRow) → new.number ≡ length tickets + 1 → row_of (λ row. row.code) code_cmp new.code tickets ≡ None → length (with_row (λ row. row.code) code_cmp new tickets) ≡ length tickets + 1 → are_numbers (with_row (λ row. row.code) code_cmp new tickets) ≡ true
  are_numbers-with_row new next absent longer =
      rw longer
      (all_from_each (λ n. count_by (λ ticket. ticket.number == n) (with_row (λ row. row.code) code_cmp new tickets) == 1) (range_with_len 1 (length tickets + 1))
      (range_each (λ n. (count_by (λ ticket. ticket.number == n) (with_row (λ row. row.code) code_cmp new tickets) == 1) ≡ true) 1 (length tickets + 1)
      (λ n low high.
      let counted = sum_by-with_row (λ row. row.code) code_cmp (λ ticket. one (ticket.number == n)) new tickets absent in
      elim (cases_order n (length tickets + 1)) [
        | inl same ↦
            let here : one (new.number == n) ≡ 1 = rw (eq-eqb new.number n (omega (arith, next, same))) refl in
            let rest : count_by (λ ticket. ticket.number == n) tickets ≡ 0 = ap (λ m. count_by (λ ticket. ticket.number == m) tickets) same ∙ next_free in
            eq-eqb _ 1 (omega (arith, counted, here, rest))
        | inr (inl before) ↦
            let here : one (new.number == n) ≡ 0 = rw (ne_eqb new.number n (omega (arith, next, before))) refl in
            let rest = range_at (λ m. count_by (λ ticket. ticket.number == m) tickets ≡ 1) 1 (length tickets) each_once n low (omega (arith, before)) in
            eq-eqb _ 1 (omega (arith, counted, here, rest))
        | inr (inr behind) ↦ absurd (omega (arith, high, behind))
      ])))

-- what each ticket tells of its number, for all of them
in_stretch : (number a len : ℕ) → a ≤ number → number < a + len → 1 ≤ sum_by (λ n. one (number == n)) (range_with_len a len)
in_stretch number a zero low high = absurd (omega (arith, low, high))
in_stretch number a (suc len) low high =
    let whole = sum_by-cons (λ n. one (number == n)) a (range_with_len (a + 1) len) in
    elim (cases_order number a) [
      | inl same ↦
          let here : one (number == a) ≡ 1 = rw (eq-eqb number a same) refl in
          omega (arith, whole, here)
      | inr (inl before) ↦ absurd (omega (arith, low, before))
      | inr (inr behind) ↦ omega (arith, whole, in_stretch number (a + 1) len (omega (arith, behind)) (omega (arith, high)))
    ]

all_counted : (tickets : List TicketRow) (a len : ℕ) → AllByRecursion (λ ticket. (a ≤ ticket.number) × (ticket.number < a + len)) tickets → length tickets ≤ sum_by (λ n. count_by (λ ticket. ticket.number == n) tickets) (range_with_len a len)
all_counted [] a len h = omega arith
all_counted (ticket ∷ tickets) a len h =
    let split : sum_by (λ n. count_by (λ row. row.number == n) (ticket ∷ tickets)) (range_with_len a len) ≡ sum_by (λ n. one (ticket.number == n) + count_by (λ row. row.number == n) tickets) (range_with_len a len) =
    sum_same (λ n. count_by (λ row. row.number == n) (ticket ∷ tickets)) (λ n. one (ticket.number == n) + count_by (λ row. row.number == n) tickets) (range_with_len a len)
    (each (λ n. count_by (λ row. row.number == n) (ticket ∷ tickets) ≡ one (ticket.number == n) + count_by (λ row. row.number == n) tickets) (λ n. count_by-cons (λ row. row.number == n) ticket tickets) (range_with_len a len)) in
    let parts = sum_plus (λ n. one (ticket.number == n)) (λ n. count_by (λ row. row.number == n) tickets) (range_with_len a len) in
    omega (arith, split, parts, in_stretch ticket.number a len h.0.0 h.0.1, all_counted tickets a len h.1)

sum_at_most : (f : ℕ → ℕ) (ns : List ℕ) → AllByRecursion (λ n. f n ≤ 1) ns → sum_by f ns ≤ length ns
sum_at_most f [] a = omega arith
sum_at_most f (n ∷ ns) a = omega (arith, sum_by-cons f n ns, a.0, sum_at_most f ns a.1)

-- numbers that are one at most and together as many as there are, are one each
each_one : (f : ℕ → ℕ) (ns : List ℕ) → AllByRecursion (λ n. f n ≤ 1) ns → length ns ≤ sum_by f ns → AllByRecursion (λ n. f n ≡ 1) ns
each_one f [] a h = tt
each_one f (n ∷ ns) a h =
    let whole = sum_by-cons f n ns in
    let rest = sum_at_most f ns a.1 in
    (omega (arith, a.0, h, whole, rest), each_one f ns a.1 (omega (arith, a.0, h, whole)))

length_range : (a len : ℕ) → length (range_with_len a len) ≡ len
length_range a zero = refl
length_range a (suc len) = omega (arith, length_range (a + 1) len)

-- a number that some ticket has stands once where each ticket's does, and any other not at all
count_at_most : (tickets : List TicketRow) (n : ℕ) → AllByRecursion (λ ticket. count_by (λ other. other.number == ticket.number) tickets ≡ 1) tickets → count_by (λ ticket. ticket.number == n) tickets ≤ 1
count_at_most tickets n once =
    elim (cases_Bool (list_any (λ ticket. ticket.number == n) tickets)) [
      | inl some ↦
          any_gives (λ ticket. ticket.number == n) tickets
          (each_map (λ ticket. count_by (λ other. other.number == ticket.number) tickets ≡ 1) (λ ticket. (ticket.number == n) ≡ true → count_by (λ row. row.number == n) tickets ≤ 1)
          (λ ticket counted same. omega (arith, subst (λ m. count_by (λ other. other.number == m) tickets ≡ 1) (eqb-true ticket.number n same) counted)) tickets once) some
      | inr none ↦ omega (arith, count_none (λ ticket. ticket.number == n) tickets (none_from_any (λ ticket. ticket.number == n) tickets none))
    ]

pub are_numbers-once : (tickets : List TicketRow) → AllByRecursion (λ ticket. is_number_once tickets ticket.number ≡ true) tickets → are_numbers tickets ≡ true
are_numbers-once tickets once =
    let parts =
    each_map (λ ticket. is_number_once tickets ticket.number ≡ true) (λ ticket. ((1 ≤ ticket.number) × (ticket.number < 1 + length tickets)) × (count_by (λ other. other.number == ticket.number) tickets ≡ 1))
    (λ ticket h.
    let outer = and_parts (nat_le 1 ticket.number && nat_le ticket.number (length tickets)) (count_by (λ other. other.number == ticket.number) tickets == 1) h in
    let inner = and_parts (nat_le 1 ticket.number) (nat_le ticket.number (length tickets)) outer.0 in
    ((leb-true 1 ticket.number inner.0, omega (arith, leb-true ticket.number (length tickets) inner.1)), eqb-true (count_by (λ other. other.number == ticket.number) tickets) 1 outer.1)) tickets once in
    let lie = each_map (λ ticket. ((1 ≤ ticket.number) × (ticket.number < 1 + length tickets)) × (count_by (λ other. other.number == ticket.number) tickets ≡ 1)) (λ ticket. (1 ≤ ticket.number) × (ticket.number < 1 + length tickets)) (λ ticket h. h.0) tickets parts in
    let counts = each_map (λ ticket. ((1 ≤ ticket.number) × (ticket.number < 1 + length tickets)) × (count_by (λ other. other.number == ticket.number) tickets ≡ 1)) (λ ticket. count_by (λ other. other.number == ticket.number) tickets ≡ 1) (λ ticket h. h.1) tickets parts in
    let ones =
    each_one (λ n. count_by (λ ticket. ticket.number == n) tickets) (range_with_len 1 (length tickets))
    (each (λ n. count_by (λ ticket. ticket.number == n) tickets ≤ 1) (λ n. count_at_most tickets n counts) (range_with_len 1 (length tickets)))
    (omega (arith, length_range 1 (length tickets), all_counted tickets 1 (length tickets) lie)) in
    all_from_each (λ n. count_by (λ ticket. ticket.number == n) tickets == 1) (range_with_len 1 (length tickets))
    (each_map (λ n. count_by (λ ticket. ticket.number == n) tickets ≡ 1) (λ n. (count_by (λ ticket. ticket.number == n) tickets == 1) ≡ true) (λ n e. eq-eqb (count_by (λ ticket. ticket.number == n) tickets) 1 e) (range_with_len 1 (length tickets)) ones)
