use Rattle.std.proofs.Common.{take, ap, ◌∙◌, arith}
use Rattle.std.proofs.lemmas.List.{length-take, take_min}
use Rattle.desk_http.specs.Limits.{head_limit}
use Rattle.desk_http.proofs.take.front_of.Goals as goal

pub returns-clause-front : goal.returns-clause-front
returns-clause-front c = ap (λ n. take n c.args.buffer.now) c.min.ensures ∙ take_min head_limit c.args.buffer.now

pub returns-clause-bound : goal.returns-clause-bound
returns-clause-bound c = omega (arith, length-take c.min.result c.args.buffer.now)
