use Rattle.std.proofs.Common.{◌≡◌, ◌++◌, sym, ap, ◌∙◌, rules, arith}
use Rattle.desk_law.specs.Kind.{kind_code}
use Rattle.desk_law.specs.KindSet.{kinds_text}
use Rattle.std.proofs.Output.{has_written_append, has_written_of_eq}
use Rattle.desk_law.proofs.KindTexts.{is_nil, kind_at, mark_before, marked_before, marked_before-none, marked_before-all, marked_before-unmarked, text-marked, is_nil-marked}
use Rattle.desk_law.proofs.kind_set.KindSetDisplay.fmt.Goals as goal
use Rattle.desk_law.proofs.kind_set.KindSetDisplay.fmt.Goals.{then-marks-place+in_ok-write, then-is_first, else-is_first, else-marks-place}

pub loop-kind-init : goal.loop-kind-init
unfolding kinds_text
loop-kind-init g c = record {
  first = sym (ap is_nil (marked_before-none c.self.inside.marks));
  text = rw marked_before-none (search rules);
}

pub loop-kind-preserved : goal.loop-kind-preserved
loop-kind-preserved g c =
    let marks = c.self.inside.marks in
    let n = c.loop-kind.kind-index in
    let here = c.loop-kind-test.true in
    elim c.if-marks-place.branch [
      | then-marks-place+in_ok-write w ↦ record {
        first = w.is_first-is ∙ sym (is_nil-marked marks n c.place.result here c.place.ensures.place w.if-marks-place.true);
        text = λ p.
            has_written_of_eq _ _ _ _ _
            (text-marked marks n c.place.result c.loop-kind.is_first here c.place.ensures.place w.if-marks-place.true c.loop-kind.invariant.first)
            (has_written_append _ _ _ _ (mark_before c.loop-kind.is_first ++ kind_code (kind_at n)) _ (c.loop-kind.invariant.text p)
            (elim w.if-is_first.branch [ then-is_first v ↦ let plain = (c.loop-kind.invariant.text p).plain in rw v.if-is_first.true (search rules) | else-is_first v ↦ let plain = (c.loop-kind.invariant.text p).plain in rw v.if-is_first.false (search rules) ]));
      }
      | else-marks-place w ↦ record {
        first = w.is_first-is ∙ c.loop-kind.invariant.first ∙ ap is_nil (sym (marked_before-unmarked marks n c.place.result here c.place.ensures.place w.if-marks-place.false));
        text = λ p. rw (marked_before-unmarked marks n c.place.result here c.place.ensures.place w.if-marks-place.false, w.f-is) (c.loop-kind.invariant.text p);
      }
    ]

pub returns-clause-writes : goal.returns-clause-writes
returns-clause-writes g c plain _ =
    let text : kinds_text (marked_before c.self.inside.marks c.loop-kind.kind-index) ≡ kinds_text c.args.self.now =
    ap kinds_text (marked_before-all c.self.inside.marks c.loop-kind.kind-index (omega arith) ∙ c.self.view_is) in
    has_written_of_eq _ _ _ _ _ text (c.loop-kind.invariant.text plain)
