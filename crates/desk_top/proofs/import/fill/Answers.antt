-- What an import is refused for is what its line says.
use Rattle.std.proofs.Common.{Err, ap, inl, inr, refl, sym, ◌∙◌}
use Rattle.desk_top.specs.Answer.{answer_to_damaged_line, answer_to_full_store, answer_to_failed_reading, answer_to_long_import, status_code}
use Rattle.desk_top.proofs.Imports.{answers_as, refused_line, unwritten}
use Rattle.desk_top.proofs.Stores.{keeps_of}
use Rattle.desk_top.proofs.import.fill.Goals as goal

pub returns-in-Err-NotEmpty-clause-ends : goal.returns-in-Err-NotEmpty-clause-ends
returns-in-Err-NotEmpty-clause-ends g c = rw c.tell.ensures.input_stays (inr record {
  answer = answer_to_full_store;
  cause = inl (
    refl,
    keeps_of _ _ (ap g.L.Link.unread (c.in-Err-NotEmpty.ensures.not_read (ap Err c.in-Err-NotEmpty.field-0-is))),
    c.in-Err-NotEmpty.ensures.not_empty (ap Err c.in-Err-NotEmpty.field-0-is),
  );
  status = ap status_code c.tell.ensures.status;
  told = answers_as _ _ _ _ _ _ _ _ c.in-Err-NotEmpty.ensures.output_stays (c.in-Err-NotEmpty.ensures.link_faults.steady (λ is. cc (sym (ap Err c.in-Err-NotEmpty.field-0-is) ∙ is)))
      (refused_line answer_to_full_store _ _ _ _ refl c.tell.ensures.status c.tell.ensures.steady c.tell.ensures.beginning);
  closed = c.in-Err-NotEmpty.ensures.err;
  taken = c.in-Err-NotEmpty.ensures.taken;
})

pub returns-in-Err-TooLong-clause-ends : goal.returns-in-Err-TooLong-clause-ends
returns-in-Err-TooLong-clause-ends g c = rw c.tell-in-Err-TooLong.ensures.input_stays (inr record {
  answer = answer_to_long_import;
  cause = (
      let (bytes, taken, long) = c.in-Err-TooLong.ensures.too_long (ap Err c.in-Err-TooLong.field-0-is) in
      inr (inl (
        refl,
        (c.in-Err-TooLong.ensures.empty (λ is. cc (sym (ap Err c.in-Err-TooLong.field-0-is) ∙ is)) (λ is. cc (sym (ap Err c.in-Err-TooLong.field-0-is) ∙ is))
            (λ is. cc (sym (ap Err c.in-Err-TooLong.field-0-is) ∙ is))),
        bytes,
        taken,
        long,
      )));
  status = ap status_code c.tell-in-Err-TooLong.ensures.status;
  told = answers_as _ _ _ _ _ _ _ _ c.in-Err-TooLong.ensures.output_stays (c.in-Err-TooLong.ensures.link_faults.steady (λ is. cc (sym (ap Err c.in-Err-TooLong.field-0-is) ∙ is)))
      (refused_line answer_to_long_import _ _ _ _ refl c.tell-in-Err-TooLong.ensures.status c.tell-in-Err-TooLong.ensures.steady c.tell-in-Err-TooLong.ensures.beginning);
  closed = c.in-Err-TooLong.ensures.err;
  taken = c.in-Err-TooLong.ensures.taken;
})

pub returns-in-Err-Damaged-clause-ends : goal.returns-in-Err-Damaged-clause-ends
returns-in-Err-Damaged-clause-ends g c = rw c.answer_damaged_line.ensures.input_stays (inr record {
  answer = answer_to_damaged_line c.in-Err-Damaged.line;
  cause = (
      let (bytes, taken, end, within, damaged) = c.in-Err-Damaged.ensures.damaged c.in-Err-Damaged.line (ap Err c.in-Err-Damaged.field-0-is) in
      inr (inr (inl (
        c.in-Err-Damaged.line,
        refl,
        (c.in-Err-Damaged.ensures.empty (λ is. cc (sym (ap Err c.in-Err-Damaged.field-0-is) ∙ is)) (λ is. cc (sym (ap Err c.in-Err-Damaged.field-0-is) ∙ is))
            (λ is. cc (sym (ap Err c.in-Err-Damaged.field-0-is) ∙ is))),
        bytes,
        (taken, end, within),
        damaged,
      ))));
  status = ap status_code c.answer_damaged_line.ensures.status;
  told = answers_as _ _ _ _ _ _ _ _ c.in-Err-Damaged.ensures.output_stays (c.in-Err-Damaged.ensures.link_faults.steady (λ is. cc (sym (ap Err c.in-Err-Damaged.field-0-is) ∙ is)))
      c.answer_damaged_line.ensures.answer;
  closed = c.in-Err-Damaged.ensures.err;
  taken = c.in-Err-Damaged.ensures.taken;
})

pub returns-in-Err-LinkFault-clause-ends : goal.returns-in-Err-LinkFault-clause-ends
returns-in-Err-LinkFault-clause-ends g c = inr record {
  answer = answer_to_failed_reading;
  cause = inr (inr (inr (inr (inr (
    refl,
    (c.in-Err-LinkFault.ensures.empty (λ is. cc (sym (ap Err c.in-Err-LinkFault.field-0-is) ∙ is)) (λ is. cc (sym (ap Err c.in-Err-LinkFault.field-0-is) ∙ is))
        (λ is. cc (sym (ap Err c.in-Err-LinkFault.field-0-is) ∙ is))),
  )))));
  status = refl;
  told = unwritten _ _ _ c.in-Err-LinkFault.ensures.output_stays (c.in-Err-LinkFault.ensures.link_faults.rises (ap Err c.in-Err-LinkFault.field-0-is));
  closed = c.in-Err-LinkFault.ensures.err;
  taken = c.in-Err-LinkFault.ensures.taken;
}
