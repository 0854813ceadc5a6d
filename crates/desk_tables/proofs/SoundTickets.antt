-- Tickets that break a clause of soundness.
use Rattle.std.proofs.Common.{◌≡◌, ℕ, ◌<◌, Bool, true, false, not, ◌||◌, List, [], ◌∷◌, length, get_or, Option, Some, None, MatchOption, Result, Ok, Err, ◌⊎◌, inl, inr, refl, sym, ap, subst, ◌∙◌, arith}
use Rattle.std.specs.Prelude.{nat_lt, IfOk}
use Rattle.std.specs.List.{AllByRecursion, list_all}
use Rattle.std.proofs.lemmas.Bool.{false≢true, le-ltb, or_cases, or_left, or_parts, or_right}
use Rattle.desk_model.specs.declared.limits.TheConstants.{TICKET_LIMIT}
use Rattle.desk_model.specs.declared.rows.ticket.TicketRow.{TicketRow}
use Rattle.desk_model.specs.declared.table_name.TableName.TheVariants.{Tickets}
use Rattle.desk_model.specs.Lists.{Lists}
use Rattle.desk_history.specs.Breaches.{is_number_once}
use Rattle.desk_history.specs.Limits.{has_too_much_text, is_overfull}
use Rattle.desk_history.specs.Sound.{IsTicketOfEdit}
use Rattle.desk_history.proofs.Unsound.{no_text}
use Rattle.desk_tables.specs.Soundness.{AreTicketsGood, IsTicketBroken}

one_of : (once : Bool) (text full : Bool) → (text || full) ≡ true → (not once || text || full) ≡ true
one_of once true full e = by once
  where
    by : (b : Bool) → (not b || true || full) ≡ true
    by true = refl
    by false = refl
one_of once false full e = by once full e
  where
    by : (b f : Bool) → f ≡ true → (not b || false || f) ≡ true
    by true f e = e
    by false f e = refl

-- where there are too many tickets or too much text each ticket breaks a clause, and there is one
pub first_broken : (t : Lists) → (nat_lt TICKET_LIMIT (length t.tickets) || has_too_much_text t) ≡ true → IsTicketBroken t 0
first_broken t e = (
  some t.tickets refl,
  λ d. inl (one_of (is_number_once t.tickets (get_or t.tickets 0 d).number) (has_too_much_text t) (is_overfull t Tickets) (either (or_cases (nat_lt TICKET_LIMIT (length t.tickets)) (has_too_much_text t) e))),
)
  where
    either : (nat_lt TICKET_LIMIT (length t.tickets) ≡ true) ⊎ (has_too_much_text t ≡ true) → (has_too_much_text t || is_overfull t Tickets) ≡ true
    either (inl many) = or_right (has_too_much_text t) (is_overfull t Tickets) many
    either (inr much) = or_left (has_too_much_text t) (is_overfull t Tickets) much

    some : (tickets : List TicketRow) → t.tickets ≡ tickets → 0 < length t.tickets
    some [] is =
        let none : (nat_lt TICKET_LIMIT (length t.tickets) || has_too_much_text t) ≡ false =
        ap (λ b. b || has_too_much_text t) (ap (λ tickets. nat_lt TICKET_LIMIT (length tickets)) is ∙ le-ltb TICKET_LIMIT 0 (omega arith)) ∙ no_text t is in
        absurd (false≢true (sym none ∙ e))
    some (ticket ∷ tickets) is = let count = ap length is in omega (arith, count)

first_bad : (a b c : Bool) → a ≡ false → (not a || b || c) ≡ true
first_bad true b c e = absurd (false≢true (sym e))
first_bad false b c e = refl

-- a ticket of an odd number, and one that is that of no edit
pub odd_broken : (t : Lists) (tickets : List TicketRow) (place : ℕ) → tickets ≡ t.tickets → (place < length tickets) × ((d : TicketRow) → is_number_once tickets (get_or tickets place d).number ≡ false) → IsTicketBroken t place
odd_broken t tickets place same odd =
    let there = subst (λ all. (place < length all) × ((d : TicketRow) → is_number_once all (get_or all place d).number ≡ false)) same odd in
    (there.0, λ d. inl (first_bad (is_number_once t.tickets (get_or t.tickets place d).number) (has_too_much_text t) (is_overfull t Tickets) (there.1 d)))

pub no_edit_broken : (t : Lists) (tickets : List TicketRow) (place : ℕ) → tickets ≡ t.tickets → (place < length tickets) × ((d : TicketRow) → IsTicketOfEdit (get_or tickets place d) → ⊥) → IsTicketBroken t place
no_edit_broken t tickets place same none =
    let there = subst (λ all. (place < length all) × ((d : TicketRow) → IsTicketOfEdit (get_or all place d) → ⊥)) same none in
    (there.0, λ d. inr (there.1 d))

module _ (t : Lists) (tickets : List TicketRow) (same : tickets ≡ t.tickets) where
  -- tickets that aren't too many and whose numbers stand once are good, or one of them is that of no edit
  pub tested : (nat_lt TICKET_LIMIT (length t.tickets) || has_too_much_text t) ≡ false → list_all (λ ticket. is_number_once tickets ticket.number) tickets ≡ true → (found : Option ℕ)
      → MatchOption found (AllByRecursion IsTicketOfEdit tickets) (λ place. (place < length tickets) × ((d : TicketRow) → IsTicketOfEdit (get_or tickets place d) → ⊥)) → MatchOption found (AreTicketsGood t) (IsTicketBroken t)
  tested few numbers None edits =
      let parts = or_parts (nat_lt TICKET_LIMIT (length t.tickets)) (has_too_much_text t) few in
      record {
        few = parts.0;
        texts = parts.1;
        numbers = subst (λ all. list_all (λ ticket. is_number_once all ticket.number) all ≡ true) same numbers;
        edits = subst (AllByRecursion IsTicketOfEdit) same edits;
      }
  tested few numbers (Some place) none = no_edit_broken t tickets place same none

  pub tested_if : {E : Type 0} → (nat_lt TICKET_LIMIT (length t.tickets) || has_too_much_text t) ≡ false → list_all (λ ticket. is_number_once tickets ticket.number) tickets ≡ true → (result : Result (Option ℕ) E)
      → IfOk result (λ found. MatchOption found (AllByRecursion IsTicketOfEdit tickets) (λ place. (place < length tickets) × ((d : TicketRow) → IsTicketOfEdit (get_or tickets place d) → ⊥))) → IfOk result (λ found. MatchOption found (AreTicketsGood t) (IsTicketBroken t))
  tested_if few numbers (Ok found) h = tested few numbers found h
  tested_if few numbers (Err e) h = tt
