use Rattle.std.proofs.Common.{◌≡◌, ◌&&◌, not, ℕ, Bool, List, [], ◌∷◌, ◌++◌, sym, ap, ◌∙◌, arith}
use Rattle.std.proofs.lemmas.List.{get_or_read, map_more}
use Rattle.desk_text.specs.Code.{same_code}
use Rattle.desk_totals.proofs.Scatter.{value_of-at}
use Rattle.desk_totals.specs.Marks.{has_bit}
use Rattle.desk_totals.specs.Places.{node_at}
use Rattle.desk_totals.specs.Rounds.{value_of}
use Rattle.desk_totals.proofs.reach.marks_above.Goals as goal

pub loop-place-preserved : goal.loop-place-preserved
loop-place-preserved c =
    let nodes = c.args.nodes.now in
    let bits = c.args.bits.now in
    let place = c.loop-place.place in
    let target = c.args.target.now in
    let within = c.loop-place-test.true in
    let is_marked : List ℕ → Bool = λ code. has_bit 0 (value_of 0 nodes bits code) && not (same_code code target) in
    let read : c.index-nodes-place.result ≡ node_at nodes place = get_or_read nodes place c.index-nodes-place.result within c.index-nodes-place.is [] in
    let mark : (c.has_lowest.result && c.ne.result) ≡ is_marked (node_at nodes place) =
    ap (λ b. b && c.ne.result) (c.has_lowest.ensures ∙ ap (has_bit 0) (sym (value_of-at 0 nodes bits place c.requires.distinct within c.requires.bits)))
    ∙ ap (λ b. has_bit 0 (value_of 0 nodes bits (node_at nodes place)) && b) (c.ne.ensures ∙ ap (λ code. not (same_code code target)) read) in (
      omega (arith, c.push_reserved.ensures.len, c.loop-place.invariant.0),
      omega (arith, c.push_reserved.ensures.capacity, c.loop-place.invariant.1),
      c.push_reserved.ensures.items ∙ ap (λ marks. marks ++ (c.has_lowest.result && c.ne.result) ∷ []) c.loop-place.invariant.2
          ∙ ap (λ mark. Rattle.std.proofs.Common.map is_marked (Rattle.std.proofs.Common.take place nodes) ++ mark ∷ []) mark
          ∙ sym (map_more is_marked nodes place [] within),
    )
