-- A record that follows puts its row into the tables; where no row has it, the line is the first bad one.
use Rattle.std.proofs.Common.{◌≡◌, ◌∙◌, ℕ, ◌+◌, false, List, [], ◌∷◌, ◌++◌, Err, ap, length, subst, sym}
use Rattle.std.specs.Prelude.{◌==◌}
use Rattle.std.proofs.lemmas.List.Elements.{All-nil}
use Rattle.desk_edge.specs.Content.{key_cmp, key_of}
use Rattle.desk_rows.specs.Rows.{IsByKey}
use Rattle.desk_records.specs.Damage.{AreTablesOf}
use Rattle.desk_records.proofs.Gatherings.{none_of_no_row, none_of_other_version}
use Rattle.desk_report.specs.Reading.{HasNoLineEnd, IsReadTo}
use Rattle.desk_report.proofs.BadLines.{bad_now, bad_record}
use Rattle.desk_report.proofs.Readings.{where_none, where_some}
use Rattle.desk_report.proofs.good_lines.GoodLines.with_line.Goals as goal

pub returns-in_default-clause-none : goal.returns-in_default-clause-none
returns-in_default-clause-none c = λ read is_read.
    let (by_key, are, one_line) = c.self.invariant in
    let inside = c.self.inside in
    let none = where_none c.in_ok-kept.field-0 c.in_default.is c.in_ok-kept.ensures.none in
    bad_now read inside.held inside.records.items inside.tables (length c.args.self.records + 1) by_key are one_line
    (subst (IsReadTo read) (sym c.self.view_is) is_read)
    (ap (λ good. length good.records + 1) (sym c.self.view_is))
    (λ kept row of same more.
    none kept row of (same ∙ ap (λ (held : List ℕ). held ++ 10 ∷ []) (sym c.as_slice-2.ensures))
    (subst (λ records. IsByKey key_of key_cmp (records ++ kept ∷ [])) (sym c.as_slice.ensures.value) more))

pub returns-in-Err-Version-clause-none : goal.returns-in-Err-Version-clause-none
returns-in-Err-Version-clause-none c = λ read is_read.
    let (by_key, are, one_line) = c.self.invariant in
    let inside = c.self.inside in
    let kept = c.in-Some.kept in
    let one = where_some _ c.in_ok-kept.field-0 kept c.in-Some.is c.in_ok-kept.ensures.one in
    bad_record read inside.held inside.records.items inside.tables (length c.args.self.records + 1) kept by_key are one_line
    (subst (IsReadTo read) (sym c.self.view_is) is_read)
    (ap (λ good. length good.records + 1) (sym c.self.view_is))
    (λ other row of same. one other row of (same ∙ ap (λ (held : List ℕ). held ++ 10 ∷ []) (sym c.as_slice-2.ensures)))
    (none_of_other_version kept (c.put_record.ensures.version (c.in-Err-Version.is ∙ ap (λ f. Err f) c.in-Err-Version.field-0-is)))

pub returns-in-Err-Shape-clause-none : goal.returns-in-Err-Shape-clause-none
returns-in-Err-Shape-clause-none c = λ read is_read.
    let (by_key, are, one_line) = c.self.invariant in
    let inside = c.self.inside in
    let kept = c.in-Some.kept in
    let one = where_some _ c.in_ok-kept.field-0 kept c.in-Some.is c.in_ok-kept.ensures.one in
    bad_record read inside.held inside.records.items inside.tables (length c.args.self.records + 1) kept by_key are one_line
    (subst (IsReadTo read) (sym c.self.view_is) is_read)
    (ap (λ good. length good.records + 1) (sym c.self.view_is))
    (λ other row of same. one other row of (same ∙ ap (λ (held : List ℕ). held ++ 10 ∷ []) (sym c.as_slice-2.ensures)))
    (none_of_no_row kept (c.put_record.ensures.shape (c.in-Err-Shape.is ∙ ap (λ f. Err f) c.in-Err-Shape.field-0-is)))

pub invariant_of-result : goal.invariant_of-result
invariant_of-result c =
    let (by_key, are, one_line) = c.self.invariant in
    let inside = c.self.inside in
    let kept = c.in-Some.kept in
    let next = where_some _ c.in_ok-kept.field-0 kept c.in-Some.is c.in_ok-kept.ensures.some in
    let items = c.in_ok-push-in-Ok.ensures.items in (
      subst (IsByKey key_of key_cmp) (sym items) (subst (λ records. IsByKey key_of key_cmp (records ++ kept ∷ [])) c.as_slice.ensures.value next.1),
      subst (λ records. AreTablesOf records c.put_record.new.tables) (sym items) (c.in-Ok.ensures.ok inside.records.items are),
      subst HasNoLineEnd (sym c.start.ensures) (All-nil (λ b. (b == 10) ≡ false)),
    )
