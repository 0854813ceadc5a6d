-- A bit that stands for a node is set where a node is it or reaches it.
use Rattle.std.proofs.Common.{◌≡◌, ℕ, ◌<◌, true, List, length, get_or, sym, ap, ◌∙◌, subst}
use Rattle.std.specs.Prelude.{◌==◌}
use Rattle.std.specs.List.{AllByRecursion}
use Rattle.desk_text.specs.Code.{same_code}
use Rattle.desk_model.specs.Lists.{Lists}
use Rattle.desk_findings.specs.Bill.{IsBill}
use Rattle.desk_findings.specs.Reaches.{is_or_reaches}
use Rattle.desk_totals.proofs.BitsGoUp.{bits_right}
use Rattle.desk_totals.proofs.CountsGoUp.{same_place}
use Rattle.desk_totals.proofs.Distinct.{among_at, place_of_among}
use Rattle.desk_totals.proofs.Scatter.{value_of-at}
use Rattle.desk_totals.proofs.Settle.{settled-length}
use Rattle.desk_totals.specs.Linked.{IsLinkedOf, Linked, are_codes_distinct, is_among}
use Rattle.desk_totals.specs.Marks.{has_bit, with_bits}
use Rattle.desk_totals.specs.Places.{node_at}
use Rattle.desk_totals.specs.Rounds.{IsSettled, value_of}

module _ (t : Lists) (is_bill : IsBill t) (bill : Linked) (of : IsLinkedOf bill t) (distinct : are_codes_distinct bill.nodes ≡ true) (children : AllByRecursion (λ line. is_among line.child bill.nodes ≡ true) t.lines)
    (own bits : List ℕ) (own_size : length own ≡ length bill.nodes) (settled : IsSettled with_bits 0 bill own bits)
    (bit place : ℕ) (within : place < length bill.nodes)
    (own_at : (node : ℕ) → node < length bill.nodes → has_bit bit (get_or own node 0) ≡ (place == node))
  where
    its_own : (code : List ℕ) → is_among code bill.nodes ≡ true → has_bit bit (value_of 0 bill.nodes own code) ≡ same_code code (node_at bill.nodes place)
    its_own code there =
        let found = place_of_among bill.nodes code there in
        subst (λ c. has_bit bit (value_of 0 bill.nodes own c) ≡ same_code c (node_at bill.nodes place)) found.2
        (ap (has_bit bit) (value_of-at 0 bill.nodes own found.0 distinct found.1 own_size) ∙ own_at found.0 found.1 ∙ same_place bill.nodes found.0 place distinct found.1 within)

    pub held_at : (node : ℕ) → node < length bill.nodes → has_bit bit (get_or bits node 0) ≡ is_or_reaches t (node_at bill.nodes node) (node_at bill.nodes place)
    held_at node inside =
        ap (has_bit bit) (sym (value_of-at 0 bill.nodes bits node distinct inside (settled-length with_bits 0 bill own bits settled)))
        ∙ bits_right t is_bill bill of children own bits settled bit (node_at bill.nodes place) its_own (node_at bill.nodes node) (among_at bill.nodes node inside)
