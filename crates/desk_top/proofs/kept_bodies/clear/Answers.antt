use Rattle.desk_top.proofs.KeptBodies.{clear_after, clear_before}
use Rattle.desk_top.proofs.kept_bodies.clear.Goals as goal

pub returns-then-is_bare : goal.returns-then-is_bare
returns-then-is_bare c = λ other. clear_after c.args.bodies.now.entries c.remove.new.self.entries c.args.key.now other (c.is_bare.ensures.yes c.if-is_bare.true) (c.remove.ensures.updates.0 other)

pub returns-else-is_bare : goal.returns-else-is_bare
returns-else-is_bare c = λ other. clear_before c.args.bodies.now.entries c.args.key.now other (c.is_bare.ensures.no c.if-is_bare.false)
