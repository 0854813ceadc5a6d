-- Numbers of tickets, counted.
use Rattle.std.proofs.Common.{◌≡◌, ℕ, ◌+◌, ◌-◌, ◌<◌, ◌≤◌, ◌&&◌, List, length, get_or, refl, ap, ◌∙◌, arith, count_by, inl, inr}
use Rattle.std.specs.Prelude.{nat_le, ◌==◌, if◌then◌else◌}
use Rattle.std.proofs.lemmas.Bool.{cases_Bool, leb-true}
use Rattle.desk_model.specs.declared.rows.ticket.TicketRow.{TicketRow}
use Rattle.desk_history.specs.Breaches.{is_number_once}

-- a number stands once exactly if it was counted once
pub counted_once : (tickets : List TicketRow) (counts : List ℕ) (number counted : ℕ) → length counts ≡ length tickets
    → ((place : ℕ) → place < length tickets → get_or counts place 0 ≡ count_by (λ ticket. ticket.number == place + 1) tickets)
    → counted ≡ (if nat_le 1 number && nat_le number (length counts) then get_or counts (number - 1) 0 else 0) → (counted == 1) ≡ is_number_once tickets number
counted_once tickets counts number counted len are e =
    elim (cases_Bool (nat_le 1 number)) [
      | inl least ↦
          elim (cases_Bool (nat_le number (length tickets))) [
            | inl within ↦
                let first : 1 ≤ number = leb-true 1 number least in
                let last : number ≤ length tickets = leb-true number (length tickets) within in
                let back : number - 1 + 1 ≡ number = omega (arith, first) in
                let found : counted ≡ count_by (λ ticket. ticket.number == number) tickets =
                e ∙ rw (least, len, within) (are (number - 1) (omega (arith, first, last)) ∙ ap (λ n. count_by (λ ticket. ticket.number == n) tickets) back) in
                rw (least, within) (ap (λ n. n == 1) found)
            | inr over ↦
                let none : counted ≡ 0 = e ∙ rw (least, len, over) refl in
                rw (least, over) (ap (λ n. n == 1) none)
          ]
      | inr under ↦
          let none : counted ≡ 0 = e ∙ rw under refl in
          rw under (ap (λ n. n == 1) none)
    ]
