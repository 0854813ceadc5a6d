use Rattle.std.proofs.Common.{◌∙◌, ap, refl}
use Rattle.desk_text.specs.Code.{code_of}
use Rattle.desk_sample.proofs.CodeForms.{inside_ok, ticket_good}
use Rattle.desk_sample.proofs.codes.ticket.Goals as goal

pub unwrap-requires : goal.unwrap-requires
unwrap-requires c =
    let read = c.read.ensures ∙ ap code_of (c.as_bytes.ensures.value ∙ c.in_ok-text.ensures.ok) ∙ ticket_good c.args.number c.ranges.number.fits in
    rw read refl

pub returns : goal.returns
returns c =
    let read = c.read.ensures ∙ ap code_of (c.as_bytes.ensures.value ∙ c.in_ok-text.ensures.ok) ∙ ticket_good c.args.number c.ranges.number.fits in
    inside_ok c.unwrap.result _ c.read.result c.unwrap.ensures read
