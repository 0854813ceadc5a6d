use Rattle.std.proofs.Common.{map, length, subst, sym, ap, ◌∙◌}
use Rattle.desk_totals.proofs.LineEdits.{bill_of, map-single, places-single, with_other_lines}
use Rattle.desk_totals.specs.Linked.{single}
use Rattle.desk_totals.specs.Places.{IsKeptRight, line_at, single_link}
use Rattle.desk_totals.proofs.links.Links.single.Goals as goal

pub invariant_of-result : goal.invariant_of-result
invariant_of-result c =
    let bill = c.self.inside in
    let nodes = c.in_ok-nodes.ensures.items ∙ c.as_slice.ensures.value in
    let links = c.in_ok-links.ensures ∙ ap (map single_link) c.as_slice-2.ensures.value in
    subst (λ list. IsKeptRight list bill.material_count c.in_ok-links.links.items) (sym nodes)
    (subst (IsKeptRight bill.nodes.items bill.material_count) (sym links)
    (record {
      distinct = c.self.invariant.distinct;
      materials = c.self.invariant.materials;
      places = places-single (length bill.nodes.items) bill.links.items c.self.invariant.places;
    }))

pub returns : goal.returns
returns c =
    let bill = c.self.inside in
    let nodes = c.in_ok-nodes.ensures.items ∙ c.as_slice.ensures.value in
    let links = c.in_ok-links.ensures ∙ ap (map single_link) c.as_slice-2.ensures.value in
    ap (λ list. bill_of list bill.material_count (map (line_at list) c.in_ok-links.links.items)) nodes
    ∙ with_other_lines bill.nodes.items bill.material_count bill.links.items c.in_ok-links.links.items c.args.self.now (map single) c.self.view_is
    (ap (map (line_at bill.nodes.items)) links ∙ map-single bill.nodes.items bill.links.items)
