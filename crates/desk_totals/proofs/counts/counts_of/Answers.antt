use Rattle.std.proofs.Common.{◌≡◌, ◌<◌, ℕ, count_by, drop, get_or, length, map, sym, ap, subst, ◌∙◌, arith}
use Rattle.std.proofs.lemmas.List.{ext_get_or, get_or-map, length-map}
use Rattle.std.proofs.lemmas.Result.{IfOk-weaker}
use Rattle.desk_totals.proofs.CountsGoUp.{counted}
use Rattle.desk_totals.proofs.Distinct.{children_among}
use Rattle.desk_totals.proofs.Results.{both_ok}
use Rattle.desk_totals.specs.Marks.{has_bit, reach_count, with_bits}
use Rattle.desk_totals.specs.Places.{node_at}
use Rattle.desk_totals.specs.Rounds.{IsSettled}
use Rattle.desk_totals.proofs.counts.counts_of.Goals as goal

pub returns : goal.returns
returns c t of is_bill =
    let bill = c.args.bill.now in
    let holders = c.args.holders.now in
    let own = c.in_ok-own.own.items in
    let bits = c.in_ok-bits.bits.items in
    let cleared = c.clear_bits.new.bits.items in
    let linked = c.in_ok-bits.ensures.linked in
    let nodes_len : length c.nodes.result.now ≡ length bill.nodes = ap length c.nodes.ensures.nodes in
    let own_size : length own ≡ length bill.nodes = c.in_ok-own.ensures.len ∙ nodes_len in
    let settled = subst (λ list. IsSettled with_bits 0 bill list bits) c.as_slice.ensures.value c.in_ok-bits.ensures.bits in
    let count_at : (bit : ℕ) → bit < length holders → count_by (has_bit bit) (drop bill.material_count cleared) ≡ reach_count t (node_at bill.nodes (get_or holders bit 0)) =
    λ bit h.
    counted t is_bill bill of linked.distinct (children_among bill t of linked.ends) own bits cleared own_size settled c.clear_bits.ensures.len bit (get_or holders bit 0) (c.requires.places bit 0 h)
    (λ node inside. c.in_ok-own.ensures.bits bit node h (subst (λ n. node < n) (sym nodes_len) inside))
    (λ node. c.clear_bits.ensures.bits bit node h) in
    IfOk-weaker c.counts_above.result
    (λ counts. (length counts.items ≡ length holders) × ((bit : ℕ) → bit < length holders → get_or counts.items bit 0 ≡ count_by (has_bit bit) (drop c.material_count.result c.as_slice-2.result.now)))
    (λ counts. counts.items ≡ map (λ place. reach_count t (node_at bill.nodes place)) holders)
    (λ counts h.
    ext_get_or 0 counts.items (map (λ place. reach_count t (node_at bill.nodes place)) holders) (h.0 ∙ sym (length-map holders (λ place. reach_count t (node_at bill.nodes place))))
    (λ bit inside.
    let below : bit < length holders = omega (arith, inside, h.0) in
    h.1 bit below ∙ ap (λ list. count_by (has_bit bit) (drop c.material_count.result list)) c.as_slice-2.ensures.value ∙ ap (λ m. count_by (has_bit bit) (drop m cleared)) c.material_count.ensures.count
    ∙ count_at bit below ∙ sym (get_or-map (λ place. reach_count t (node_at bill.nodes place)) holders bit 0 0 below)))
    (both_ok c.counts_above.result _ _ c.counts_above.ensures.len c.counts_above.ensures.counts)
