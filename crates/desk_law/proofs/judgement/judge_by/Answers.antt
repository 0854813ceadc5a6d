use Rattle.std.proofs.Common.{sym, ◌∙◌}
use Rattle.desk_law.specs.Exemption.{covers}
use Rattle.desk_law.proofs.Verdicts.{names_least}
use Rattle.desk_law.proofs.judgement.judge_by.Goals as goal

pub returns-in-Some-clause-least : goal.returns-in-Some-clause-least
returns-in-Some-clause-least c =
    names_least (λ row. covers row c.args.claims.now c.args.restriction.now.rule c.args.restriction.now.kind c.args.day c.args.share c.args.mass) c.args.rows.now c.in-Some.place c.requires (sym c.first_covering.ensures ∙ c.in-Some.is)
