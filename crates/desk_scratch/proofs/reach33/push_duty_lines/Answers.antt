-- The lines one after another; a finding on a material is no duty.
use Rattle.std.proofs.Common.{◌∙◌, ap, append_assoc, sym}
use Rattle.std.proofs.lemmas.Bool.{false≢true}
use Rattle.desk_scratch.specs.LookUps.{finding_of, is_finding_due}
use Rattle.desk_scratch.specs.Reach33.{duty_lines}
use Rattle.desk_scratch.proofs.reach33.push_duty_lines.Goals as goal

pub unreachable-requires : goal.unreachable-requires
unfolding is_finding_due
unreachable-requires g c =
    let due = c.requires.due in
    absurd (false≢true (sym (ap (λ finding. is_finding_due (g.S.AnswerSource.lists c.args.source.now) due.0 (finding_of finding)) c.in-Over.is) ∙ due.1))

pub returns : goal.returns
unfolding duty_lines
returns g c =
    c.in_ok-push_chain_line-in-Above.ensures
    ∙ rw (c.as_slice.ensures, c.in_ok-chain-in-Above.ensures.codes, c.in_ok-push_substance_line-in-Above.ensures, c.substance.ensures, c.tables.ensures.lists, c.in_ok-push_duty_line-in-Above.ensures, c.in-Above.is) (simp append_assoc)
