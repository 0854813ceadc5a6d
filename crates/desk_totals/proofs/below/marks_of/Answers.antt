use Rattle.std.proofs.Common.{◌≡◌, ◌<◌, ℕ, false, get_or, length, map, sym, ap, subst, ◌∙◌, arith}
use Rattle.std.proofs.lemmas.List.{ext_get_or, get_or-map, get_or_default, length-map}
use Rattle.std.proofs.lemmas.Result.{IfOk-weaker}
use Rattle.desk_findings.specs.Reaches.{is_or_reaches}
use Rattle.desk_totals.proofs.BitsFrom.{held_at}
use Rattle.desk_totals.proofs.Distinct.{children_among}
use Rattle.desk_totals.proofs.Results.{both_ok}
use Rattle.desk_totals.specs.Marks.{has_bit, with_bits}
use Rattle.desk_totals.specs.Places.{node_at}
use Rattle.desk_totals.specs.Rounds.{IsSettled}
use Rattle.desk_totals.proofs.below.marks_of.Goals as goal

pub returns : goal.returns
returns c t of is_bill =
    let bill = c.args.bill.now in
    let targets = c.args.targets.now in
    let from = c.args.from in
    let own = c.in_ok-own.own.items in
    let bits = c.in_ok-bits.bits.items in
    let linked = c.in_ok-bits.ensures.linked in
    let nodes_len : length c.nodes.result.now ≡ length bill.nodes = ap length c.nodes.ensures.nodes in
    let own_size : length own ≡ length bill.nodes = c.in_ok-own.ensures.len ∙ nodes_len in
    let settled = subst (λ list. IsSettled with_bits 0 bill list bits) c.as_slice.ensures.value c.in_ok-bits.ensures.bits in
    let reached = λ (place : ℕ). is_or_reaches t (node_at bill.nodes from) (node_at bill.nodes place) in
    let mark_at : (bit : ℕ) → bit < length targets → has_bit bit (get_or bits from 0) ≡ reached (get_or targets bit 0) =
    λ bit h.
    held_at t is_bill bill of linked.distinct (children_among bill t of linked.ends) own bits own_size settled bit (get_or targets bit 0) (c.requires.places bit 0 h)
    (λ node inside. c.in_ok-own.ensures.bits bit node h (subst (λ n. node < n) (sym nodes_len) inside)) from c.requires.from in
    let from_inside : from < length bits = omega (arith, c.requires.from, c.in_ok-bits.ensures.len) in
    IfOk-weaker c.marks_in.result
    (λ marks. (length marks.items ≡ length targets) × ((bit : ℕ) → bit < length targets → get_or marks.items bit false ≡ has_bit bit c.index.result.now))
    (λ marks. marks.items ≡ map reached targets)
    (λ marks h.
    ext_get_or false marks.items (map reached targets) (h.0 ∙ sym (length-map targets reached))
    (λ bit inside.
    let below : bit < length targets = omega (arith, inside, h.0) in
    h.1 bit below ∙ ap (has_bit bit) (c.index.ensures ∙ get_or_default bits from c.index.result.now 0 from_inside) ∙ mark_at bit below ∙ sym (get_or-map reached targets bit 0 false below)))
    (both_ok c.marks_in.result _ _ c.marks_in.ensures.len c.marks_in.ensures.marks)
