-- One more line is read, and at the end the part behind the last.
use Rattle.std.proofs.Common.{[], ◌∷◌, ◌++◌, List, ℕ, sym, ap, ◌∙◌, subst, append_assoc}
use Rattle.std.proofs.lemmas.Result.{IfOk-weaker}
use Rattle.desk_report.specs.ReadLines.{AreLinesOf}
use Rattle.desk_report.proofs.lines.Lines.with_bytes.Goals as goal

pub with_end-requires : goal.with_end-requires
with_end-requires c = c.in-Some.ensures.cut.1

pub loop-end-preserved : goal.loop-end-preserved
loop-end-preserved c =
    let (done, parts, are) = c.loop-end.invariant in
    let end = c.in-Some.end.now in
    let behind = c.in-Some.behind.now in (
      (done ++ end) ++ 10 ∷ [],
      parts ∙ ap (λ (l : List ℕ). done ++ l) c.in-Some.ensures.cut.0 ∙ sym (append_assoc done (end ++ 10 ∷ []) behind)
          ∙ ap (λ (l : List ℕ). l ++ behind) (sym (append_assoc done end (10 ∷ []))),
      λ read is.
          subst (λ l. AreLinesOf l c.in_ok-lines.lines)
          (ap (λ (l : List ℕ). l ++ 10 ∷ []) (append_assoc read done end) ∙ append_assoc read (done ++ end) (10 ∷ []))
          (c.in_ok-lines.ensures (read ++ done) (are read is)),
    )

pub with_part-requires : goal.with_part-requires
with_part-requires c = c.in_default-cut_line.ensures.whole

pub returns : goal.returns
returns c =
    let (done, parts, are) = c.loop-end.invariant in
    IfOk-weaker c.with_part.result _ _ (λ lines h read is.
    subst (λ l. AreLinesOf l lines) (append_assoc read done c.loop-end.rest.now ∙ ap (λ (l : List ℕ). read ++ l) (sym parts)) (h (read ++ done) (are read is)))
    c.with_part.ensures
