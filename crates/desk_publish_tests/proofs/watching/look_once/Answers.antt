use Rattle.std.proofs.Common.{rules, ◌≡◌}
use mathlib.Core.List.{IsPrefix}
use Rattle.desk_publish_tests.specs.Counts.{count_after}
use Rattle.desk_publish_tests.proofs.Counted.{count_rises}
use Rattle.desk_publish_tests.proofs.watching.look_once.Goals as goal

pub returns-clause-risen : goal.returns-clause-risen
returns-clause-risen g c =
    let opening = g.J.Naming.opening.count in
    let begins : IsPrefix c.args.seat.now.list c.look.new.self.list = search rules in
    let counted : c.look.new.glance.count ≡ count_after opening c.look.new.self.list = search rules in
    rw counted (count_rises opening c.args.seat.now.list c.look.new.self.list begins)
