use Rattle.std.proofs.Common.{None}
use Rattle.desk_rollup.specs.declared.hop.Hop.{Hop}
use Rattle.desk_rollup.proofs.Halves.{has_at, stands_just}
use Rattle.desk_rollup.proofs.hops.has_mark.Goals as goal

abbrev none : Hop
none = record { mark = record { node = 0; what = 0 }; next = None }

pub returns-clause-found : goal.returns-clause-found
returns-clause-found c = λ e. has_at c.args.number c.args.hops.now c.place_of.result none (c.stands_at.ensures.within e) (c.stands_at.ensures.there e none)

pub returns-clause-exact : goal.returns-clause-exact
returns-clause-exact c = λ rises.
    stands_just c.args.number c.args.hops.now rises c.place_of.result none (c.place_of.ensures.place rises) c.stands_at.result
    c.stands_at.ensures.within (λ e. c.stands_at.ensures.there e none) (λ e. c.stands_at.ensures.other e none)
