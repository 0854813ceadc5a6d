use Rattle.std.proofs.Common.{◌∙◌, false, ap, replicate, arith, rules}
use Rattle.desk_graph.proofs.Marks.{marked_up, none_twice, seeds_counted}
use Rattle.desk_graph.proofs.sweep.mark_from.Goals as goal

pub mark_all_users-requires-clause-seeded : goal.mark_all_users-requires-clause-seeded
mark_all_users-requires-clause-seeded c =
    seeds_counted _ _ c.mark_seeds-seeded.new.marks c.mark_seeds-seeded.result c.args.order.now (c.fill.ensures.after (λ y e. search rules) ∙ ap (λ n. replicate n false) c.requires.size) (none_twice c.args.order.now c.requires.once) c.mark_seeds-seeded.ensures.more

pub returns-clause-up : goal.returns-clause-up
returns-clause-up c =
    marked_up c.args.users.now c.args.seeds.now _ c.mark_seeds-seeded.new.marks c.mark_all_users.new.marks (c.fill.ensures.after (λ y e. search rules) ∙ ap (λ n. replicate n false) c.requires.size) (omega arith)
    c.mark_seeds-seeded.ensures.marks c.mark_all_users.ensures.kept c.mark_all_users.ensures.closed c.mark_all_users.ensures.least
