use Rattle.std.proofs.lemmas.Result.{IfOk-at_ok}
use Rattle.desk_text.proofs.SixMonthsLemmas.{can_add-six_months, six_months-later}
use Rattle.desk_text.proofs.day.six_months_later.Goals as goal

pub unwrap-requires : goal.unwrap-requires
unwrap-requires c = c.checked_add.ensures.succeeds.1 (can_add-six_months c.args.date c.months.result c.requires c.months.ensures)

pub returns-clause-value : goal.returns-clause-value
returns-clause-value c =
    (six_months-later c.args.date c.unwrap.result c.months.result c.requires c.months.ensures (IfOk-at_ok _ c.unwrap.ensures c.checked_add.ensures.value)).0

pub returns-clause-year : goal.returns-clause-year
returns-clause-year c =
    (six_months-later c.args.date c.unwrap.result c.months.result c.requires c.months.ensures (IfOk-at_ok _ c.unwrap.ensures c.checked_add.ensures.value)).1
