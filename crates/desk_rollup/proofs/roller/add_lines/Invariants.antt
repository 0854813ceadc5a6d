use Rattle.std.proofs.Common.{◌≡◌, take}
use Rattle.desk_rollup.specs.Gathered.{with_each_line}
use Rattle.desk_rollup.specs.Places.{known, place_at}
use Rattle.desk_rollup.proofs.roller.add_lines.Given as goal

abbrev pub invariant-loop-line : goal.invariant-loop-line
invariant-loop-line g l =
    l.into ≡ with_each_line g.E.Entry.number g.E.Entry.joined g.E.Entry.lifted g.E.Entry.listed
    (λ child. known (place_at l.values.places.now child) l.values.kept.now l.values.new.now child) (take l.line-index l.lines) l.initial.into
