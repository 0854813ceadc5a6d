use Rattle.std.proofs.Common.{sym, ap, ◌∙◌}
use Rattle.std.specs.Prelude.{codes}
use Rattle.std.specs.Str.{str_eq_ignore_ascii_case}
use Rattle.desk_http.proofs.LinesLemmas.{stated_more, stated_kept}
use Rattle.desk_http.proofs.lines.HeadLines.body_length.Goals as goal
use Rattle.desk_http.proofs.lines.HeadLines.body_length.Goals.{then-is_word+else-is_some, else-is_word}

pub loop-line-preserved : goal.loop-line-preserved
loop-line-preserved c = elim c.if-is_word.branch [
  | then-is_word+else-is_some w ↦
      let named = ap (λ name. str_eq_ignore_ascii_case name (codes "content-length")) (sym c.of.ensures) ∙ sym w.if-is_word.ensures in
      let none = sym w.is_some.ensures ∙ w.if-is_some.false in
      stated_more (codes "content-length") c.self.inside.front.now c.self.inside.spans.now c.loop-line.line-index _
      c.loop-line.stated c.if-is_word.stated _ _ c.loop-line-test.true named none w.stated-is w.of-then-is_word.ensures c.loop-line.invariant
  | else-is_word w ↦
      let other = ap (λ name. str_eq_ignore_ascii_case name (codes "content-length")) (sym c.of.ensures) ∙ sym w.if-is_word.ensures in
      stated_kept (codes "content-length") c.self.inside.front.now c.self.inside.spans.now c.loop-line.line-index _
      c.loop-line.stated c.if-is_word.stated _ c.loop-line-test.true other w.stated-is c.loop-line.invariant
]
