-- The input ends inside a line, or its records are those of the gathered tables, and of no others.
use Rattle.std.proofs.Common.{◌∙◌, ◌+◌, ◌++◌, Err, ap, append-nil, inl, inr, subst, sym}
use Rattle.std.proofs.lemmas.Bool.{false≢true}
use Rattle.desk_report.specs.Lines.{record_lines}
use Rattle.desk_report.specs.Reading.{IsReadTo}
use Rattle.desk_report.proofs.BadLines.{in_order}
use Rattle.desk_report.proofs.Readings.{same_line}
use Rattle.desk_report.proofs.good_lines.GoodLines.into_records.Goals as goal

pub returns-then-not-is_empty-clause-damaged : goal.returns-then-not-is_empty-clause-damaged
returns-then-not-is_empty-clause-damaged c = λ line e bytes read.
    let (by_key, are, one_line) = c.self.invariant in
    let inside = c.self.inside in
    inr
    (inl
    (record {
      records = inside.records.items;
      before = in_order inside.records.items inside.tables by_key are;
      held = inside.held;
      parts = subst (IsReadTo bytes) (sym c.self.view_is) read;
      some = λ none. false≢true (sym c.if-not-is_empty.true ∙ c.is_empty.ensures.1 none);
      one_line = one_line;
      number = sym (same_line (c.len.result + 1) line e) ∙ ap (λ n. n + 1) (c.len.ensures ∙ inside.records.ok.0);
    }))

pub returns-in-Ok-clause-sound : goal.returns-in-Ok-clause-sound
returns-in-Ok-clause-sound c =
    let (by_key, are, one_line) = c.self.invariant in
    let inside = c.self.inside in
    (c.in-Ok.field-0.lists, c.in-Ok.ensures.sound, λ key. sym (c.in-Ok.ensures.same inside.records.items by_key are key))

pub returns-in-Err-Unsound-clause-damaged : goal.returns-in-Err-Unsound-clause-damaged
returns-in-Err-Unsound-clause-damaged c = λ line e bytes read.
    let (by_key, are, one_line) = c.self.invariant in
    let inside = c.self.inside in
    let front = record_lines inside.records.items in
    let kind = c.in-Err-Unsound.field-0-0 in
    let code = c.in-Err-Unsound.field-0-1 in
    let refused = c.in-Err-Unsound.is ∙ ap (λ f. Err f) c.in-Err-Unsound.field-0-is in
    inr
    (inr (
      sym (same_line 0 line e),
      record {
        records = inside.records.items;
        before = in_order inside.records.items inside.tables by_key are;
        lines = subst (IsReadTo bytes) (sym c.self.view_is) read ∙ ap (λ held. front ++ held) (c.is_empty.ensures.0 c.if-not-is_empty.false) ∙ append-nil front;
        kind = kind;
        code = code;
        breach = c.sound_tables.ensures.told kind code refused inside.records.items by_key are;
        none = c.sound_tables.ensures.not_sound kind code refused inside.records.items by_key are;
      },
    ))
