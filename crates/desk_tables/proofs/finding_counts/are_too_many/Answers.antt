use Rattle.std.proofs.Common.{◌+◌, ◌∙◌, ap, sym, length, sum_by}
use Rattle.std.specs.List.{range_with_len}
use Rattle.desk_model.specs.declared.limits.TheConstants.{FINDING_LIMIT}
use Rattle.desk_tables.specs.FindingCounts.{added_at}
use Rattle.desk_tables.proofs.FindingSums.{stays_over, sum_push}
use Rattle.desk_tables.proofs.finding_counts.are_too_many.Goals as goal

pub returns-then-total : goal.returns-then-total
returns-then-total c =
    stays_over FINDING_LIMIT c.loop-index.total c.added_by-total.result (added_at c.args.own.now c.args.holders.now c.args.reach.now c.args.material_count) c.loop-index.index (length c.args.holders.now)
    c.if-total.true c.loop-index.invariant.total c.added_by-total.ensures.amount c.loop-index-test.true

pub loop-index-preserved : goal.loop-index-preserved
loop-index-preserved c =
    record {
      total =
          ap (λ n. n + c.added_by-total.result) c.loop-index.invariant.total
          ∙ ap (λ n. sum_by (added_at c.args.own.now c.args.holders.now c.args.reach.now c.args.material_count) (range_with_len 0 c.loop-index.index) + n) c.added_by-total.ensures.amount
          ∙ sym (sum_push (added_at c.args.own.now c.args.holders.now c.args.reach.now c.args.material_count) c.loop-index.index);
      bound = c.if-total.false;
    }
