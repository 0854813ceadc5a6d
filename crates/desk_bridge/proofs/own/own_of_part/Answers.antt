use Rattle.std.proofs.Common.{◌∙◌, sym}
use Rattle.desk_bridge.proofs.OwnRight.{other_own}
use Rattle.desk_bridge.proofs.own.own_of_part.Goals as goal

pub returns-clause-own : goal.returns-clause-own
returns-clause-own c = λ labels place.
    other_own c.args.lists.now c.requires.consistent c.args.names.now labels c.args.code.now c.args.node place c.requires.none (sym c.is_article.ensures ∙ c.if-is_article.false) _
    (λ i. record { node = c.args.node; weight = 0; marks = c.new.ensures.items i; loads = c.new-2.ensures.items i })
