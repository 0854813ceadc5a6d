-- The lines of a few more records were written, or a beginning of theirs when they failed.
use Rattle.std.proofs.Common.{◌≡◌, [], ◌++◌, sym, ap, ◌∙◌, subst, rules, append_assoc, append-nil}
use Rattle.std.specs.Io.KnownBytes.{Appends}
use Rattle.std.specs.Slice.Iter.{chunks_rest}
use Rattle.std.proofs.KnownBytes.{Appends-nil, Appends-trans}
use Rattle.std.proofs.lemmas.List.{nil_from_length}
use Rattle.std.proofs.lemmas.List.Concat.{flat_map-append}
use Rattle.desk_edge.specs.Transfer.{AppendsBeginning}
use Rattle.desk_report.specs.Lines.{line_of, record_lines}
use Rattle.desk_report.proofs.Parts.{begun, on_error}
use Rattle.desk_report.proofs.exporting.write_lines.Goals as goal

pub loop-few-init : goal.loop-few-init
loop-few-init g c = (search rules, tt, search rules, ([], Appends-nil (g.L.Link.written c.args.link.now), search rules), search rules, search rules)

pub loop-few-preserved : goal.loop-few-preserved
loop-few-preserved g c =
    let (goes, ends, size, (front, so_far, parts), input, count) = c.loop-few.invariant in
    let few = c.in-Some.few.now in
    let rest = chunks_rest c.next.new.self in
    let steps = c.in-Some.ensures.steps in (
      search rules,
      tt,
      steps.0 ∙ size,
      (
        front ++ record_lines few,
        Appends-trans _ _ _ front (record_lines few) so_far c.in_ok-write_few.ensures.ok,
        parts ∙ ap (λ r. front ++ record_lines r) steps.1.0 ∙ ap (λ t. front ++ t) (flat_map-append line_of few rest)
            ∙ sym (append_assoc front (record_lines few) (record_lines rest)),
      ),
      c.write_few.ensures.input_stays ∙ input,
      c.in_ok-write_few.ensures.faults.steady (λ failed. cc) ∙ count,
    )

pub returns-in_err-write_few-clause-beginning : goal.returns-in_err-write_few-clause-beginning
returns-in_err-write_few-clause-beginning g c =
    let (goes, ends, size, (front, so_far, parts), input, count) = c.loop-few.invariant in
    let few = c.in-Some.few.now in
    let rest = chunks_rest c.next.new.self in
    let whole : record_lines c.args.records.now ≡ front ++ record_lines few ++ record_lines rest =
    parts ∙ ap (λ r. front ++ record_lines r) c.in-Some.ensures.steps.1.0 ∙ ap (λ t. front ++ t) (flat_map-append line_of few rest)
    ∙ sym (append_assoc front (record_lines few) (record_lines rest)) in
    on_error _ c.from_residual.result
    (subst (AppendsBeginning (g.L.Link.written c.args.link.now) (g.L.Link.written c.write_few.new.link)) (sym whole)
    (begun _ _ _ front (record_lines few) (record_lines rest) so_far c.in_err-write_few.ensures.beginning))

pub returns-clause-ok : goal.returns-clause-ok
returns-clause-ok g c =
    let (goes, ends, size, (front, so_far, parts), input, count) = c.loop-few.invariant in
    let none = nil_from_length _ c.in-None.ensures.steps.1.0 in
    subst (Appends (g.L.Link.written c.args.link.now) (g.L.Link.written c.loop-few.link)) (sym (parts ∙ ap (λ r. front ++ record_lines r) none ∙ append-nil front)) so_far
