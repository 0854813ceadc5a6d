use Rattle.std.proofs.Common.{◌∙◌, ◌++◌, ◌∷◌, [], ap, sym, get_or, arith}
use Rattle.std.specs.Prelude.{nat_lt, if◌then◌else◌}
use Rattle.desk_tables.proofs.FindingSums.{holders_push}
use Rattle.desk_tables.proofs.finding_counts.holders_of.Goals as goal

pub loop-place-preserved : goal.loop-place-preserved
loop-place-preserved c = record {
  holders =
      c.add_holder.ensures.items
      ∙ ap (λ holders. holders ++ (if nat_lt 0 (get_or c.args.own.now c.loop-place.place 0) then c.loop-place.place ∷ [] else [])) c.loop-place.invariant.holders
      ∙ sym (holders_push c.args.own.now c.loop-place.place);
  count = omega (arith, c.add_holder.ensures.len, c.loop-place.invariant.count);
  room = omega (arith, c.add_holder.ensures.capacity, c.loop-place.invariant.room);
}
