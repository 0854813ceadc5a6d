-- A line has one record, the one that is read of it.
use Rattle.std.proofs.Common.{◌≡◌, ◌∙◌, sym, subst, [], ◌∷◌, ◌++◌}
use Rattle.desk_edge.specs.Content.{key_cmp, key_of}
use Rattle.desk_rows.specs.Rows.{IsByKey}
use Rattle.desk_report.proofs.LineRead.{line_read, only, some_same}
use Rattle.desk_report.proofs.next_record.next_record.Goals as goal

pub returns-in_default-clause-none : goal.returns-in_default-clause-none
returns-in_default-clause-none c = λ kept row is same more. c.in_default.not-Some kept (only c.args.line.now c.in_ok-kept.field-0 kept row c.in_ok-kept.ensures is same)

pub returns-then-not-follows-clause-none : goal.returns-then-not-follows-clause-none
returns-then-not-follows-clause-none c = λ kept row is same more.
    let one : c.in-Some.kept ≡ kept = some_same c.in-Some.kept kept (sym c.in-Some.is ∙ only c.args.line.now c.in_ok-kept.field-0 kept row c.in_ok-kept.ensures is same) in
    c.follows.ensures.no c.if-not-follows.true (subst (λ r. IsByKey key_of key_cmp (c.args.records.now ++ r ∷ [])) (sym one) more)

pub returns-clause-some : goal.returns-clause-some
returns-clause-some c = (line_read c.args.line.now c.in-Some.kept (sym c.in_ok-kept.ensures ∙ c.in-Some.is), c.follows.ensures.yes c.if-not-follows.false)

pub returns-clause-one : goal.returns-clause-one
returns-clause-one c = λ other row is same. some_same c.in-Some.kept other (sym c.in-Some.is ∙ only c.args.line.now c.in_ok-kept.field-0 other row c.in_ok-kept.ensures is same)
