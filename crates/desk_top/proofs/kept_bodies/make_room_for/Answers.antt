use Rattle.std.proofs.Common.{◌∙◌, Some, None, ap, cond, sym}
use Rattle.desk_edge.specs.Content.{same_key}
use Rattle.desk_top.specs.KeptBodies.{stands}
use Rattle.desk_top.proofs.KeptBodies.{none_there, room_after, room_before}
use Rattle.desk_top.proofs.kept_bodies.make_room_for.Goals as goal

pub returns-then-contains_key-clause-ok : goal.returns-then-contains_key-clause-ok
returns-then-contains_key-clause-ok c = λ other. room_before c.args.bodies.now.entries c.args.key.now other (sym c.contains_key.ensures ∙ c.if-contains_key.true)

pub returns-in-Ok-clause-ok : goal.returns-in-Ok-clause-ok
returns-in-Ok-clause-ok c = λ other.
    room_after c.args.bodies.now.entries c.insert.new.self.entries c.args.key.now other
    (none_there (stands c.args.bodies.now.entries c.args.key.now) (sym c.contains_key.ensures ∙ c.if-contains_key.false))
    (c.in-Ok.ensures.updates.0 other ∙ ap (λ key. cond (same_key key other) (Some None) (stands c.args.bodies.now.entries other)) c.in_ok-copied.ensures)
