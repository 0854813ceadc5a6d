use Rattle.std.proofs.Common.{◌≡◌, ◌+◌, ◌<◌, [], length, map, replicate, sym, ap, subst, ◌∙◌}
use Rattle.std.specs.Prelude.{if◌then◌else◌}
use Rattle.std.proofs.lemmas.List.{get_or_read}
use Rattle.desk_text.specs.Code.{same_code}
use Rattle.desk_totals.proofs.BitsGoUp.{lowest_own}
use Rattle.desk_totals.proofs.Cycles.{line_by_link}
use Rattle.desk_totals.proofs.Distinct.{children_among}
use Rattle.desk_totals.specs.Marks.{with_bits}
use Rattle.desk_totals.specs.Places.{node_at}
use Rattle.desk_totals.specs.Rounds.{rounds}
use Rattle.desk_totals.proofs.acyclic.line_to_itself.Goals as goal

pub returns : goal.returns
returns c t of parents =
    let bill = c.args.bill.now in
    let place = c.args.place in
    let own = c.in_ok-own.own.items in
    let bits = c.as_slice-2.result.now in
    let linked = c.links.ensures.linked in
    let blank = c.in_ok-blank.ensures in
    let target : c.index-nodes-place.result ≡ node_at bill.nodes place =
    get_or_read c.nodes-nodes.result.now place c.index-nodes-place.result (subst (λ nodes. place < length nodes) (sym c.nodes-nodes.ensures.nodes) c.requires) c.index-nodes-place.is []
    ∙ ap (λ nodes. node_at nodes place) c.nodes-nodes.ensures.nodes in
    let its_own : own ≡ map (λ code. if same_code code (node_at bill.nodes place) then 1 else 0) bill.nodes =
    c.in_ok-own.ensures.bits ∙ ap (map (λ code. if same_code code c.index-nodes-place.result then 1 else 0)) c.nodes-nodes.ensures.nodes ∙ ap (λ code. map (λ other. if same_code other code then 1 else 0) bill.nodes) target in
    let so : bits ≡ rounds with_bits 0 bill own (length bill.nodes + 2) (replicate (length bill.nodes) 0) =
    c.as_slice-2.ensures.value ∙ c.in_ok-bits.ensures.bits ∙ ap (λ list. rounds with_bits 0 bill list (length bill.nodes + 2) c.in_ok-blank.blank.items) c.as_slice.ensures.value
    ∙ ap (rounds with_bits 0 bill own (length bill.nodes + 2)) (blank.items_if_clones_equal (λ y e. e) ∙ ap (λ nodes. replicate (length nodes) 0) c.nodes-nodes.ensures.nodes) in
    line_by_link t bill of linked.distinct (children_among bill t of linked.ends) parents c.links.result.now c.links.ensures.lines c.links.ensures.places own bits place c.requires (lowest_own bill.nodes own (node_at bill.nodes place) its_own)
    (ap length c.as_slice-2.ensures.value ∙ c.in_ok-bits.ensures.len) so c.link_to_bit.result c.link_to_bit.ensures
