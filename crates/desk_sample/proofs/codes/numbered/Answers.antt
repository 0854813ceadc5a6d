use Rattle.std.proofs.Common.{◌∙◌, refl, [], ◌∷◌}
use Rattle.desk_sample.proofs.CodeForms.{five_good, inside_ok}
use Rattle.desk_sample.proofs.codes.numbered.Goals as goal

pub unwrap-requires : goal.unwrap-requires
unwrap-requires c =
    let read = c.read.ensures ∙ five_good c.args.letter c.digit.result c.digit-2.result c.digit-3.result c.digit-4.result c.requires c.digit.ensures.good c.digit-2.ensures.good c.digit-3.ensures.good c.digit-4.ensures.good in
    rw read refl

pub returns : goal.returns
returns c =
    let read = c.read.ensures ∙ five_good c.args.letter c.digit.result c.digit-2.result c.digit-3.result c.digit-4.result c.requires c.digit.ensures.good c.digit-2.ensures.good c.digit-3.ensures.good c.digit-4.ensures.good in
    inside_ok c.unwrap.result _ c.read.result c.unwrap.ensures read
    ∙ (λ i. c.args.letter ∷ c.digit.ensures.value i ∷ c.digit-2.ensures.value i ∷ c.digit-3.ensures.value i ∷ c.digit-4.ensures.value i ∷ [])
