use Rattle.std.proofs.Common.{ℕ, replicate, ◌≡◌, ◌≤◌, ◌+◌, ◌*◌, true, length, map, drop, sum_by, sym, ap, subst, ◌∙◌}
use Rattle.desk_model.specs.declared.limits.TheConstants.{FINDING_LIMIT}
use Rattle.desk_history.proofs.SoundClauses.{bill_of}
use Rattle.desk_tables.proofs.FewFindings.{few, of_parts_alone, ones, singles, singles_bill, sum_map, ways}
use Rattle.desk_tables.proofs.HeavyParts.{slice_to_end}
use Rattle.desk_totals.specs.Fit.{fit}
use Rattle.desk_totals.specs.Linked.{IsLinkedOf, Linked, are_codes_distinct, single}
use Rattle.desk_tables.proofs.table_lists.TableLists.has_few_ways.Goals as goal

pub returns : goal.returns
unfolding ways
returns c is_few =
    let t = c.args.self.now in
    let bill = c.args.bill.now in
    let is_bill = bill_of t c.requires.consistent in
    let alone = c.in_ok-single.ensures in
    let of : IsLinkedOf c.in_ok-single.field-0 (singles t) = record { nodes = ap (λ (b : Linked). b.nodes) alone ∙ c.requires.bill.nodes; material_count = ap (λ (b : Linked). b.material_count) alone ∙ c.requires.bill.material_count; lines = ap (λ (b : Linked). b.lines) alone ∙ ap (map single) c.requires.bill.lines } in
    let own =
    c.as_slice.ensures.value ∙ c.in_ok-own.ensures.items_if_clones_equal (λ y e. e)
    ∙ ap (λ nodes. replicate {A = ℕ} (length nodes) 1) (c.nodes.ensures.nodes ∙ sym (ap (λ (b : Linked). b.nodes) alone))
    ∙ ones c.in_ok-single.field-0.nodes in
    let amounts = c.in_ok-ways.ensures.amounts (singles t) (λ code. 1) of (singles_bill t is_bill) own in
    let parts = of_parts_alone c.in_ok-single.field-0 (singles t) of (λ code. fit (ways t is_bill code)) c.in_ok-ways.ways.items amounts in
    let passed =
    slice_to_end (length c.materials.result.now) c.as_slice-2.result.now
    ∙ ap (λ n. drop n c.as_slice-2.result.now) (ap length c.materials.ensures)
    ∙ ap (drop (length t.materials)) c.as_slice-2.ensures.value ∙ parts in
    let bound = c.are_few.ensures (map (λ row. row.code) t.parts) (ways t is_bill) passed is_few in
    few t is_bill c.requires.consistent.ordered (subst (λ list. are_codes_distinct list ≡ true) c.requires.bill.nodes c.nodes.ensures.linked.distinct)
    (subst (λ n. n ≤ FINDING_LIMIT) (ap (λ n. (length c.candidates.result.now + 10) * n) (sum_map (ways t is_bill) (λ row. row.code) t.parts) ∙ ap (λ list. (length list + 10) * sum_by (λ part. ways t is_bill part.code) t.parts) c.candidates.ensures) bound)
