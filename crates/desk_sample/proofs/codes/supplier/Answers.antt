use Rattle.std.proofs.Common.{◌∙◌, refl, [], ◌∷◌}
use Rattle.desk_sample.proofs.CodeForms.{inside_ok, two_good}
use Rattle.desk_sample.proofs.codes.supplier.Goals as goal

pub unwrap-requires : goal.unwrap-requires
unwrap-requires c =
    let read = c.read.ensures ∙ two_good 83 c.digit.result refl c.digit.ensures.good in
    rw read refl

pub returns : goal.returns
returns c =
    let read = c.read.ensures ∙ two_good 83 c.digit.result refl c.digit.ensures.good in
    inside_ok c.unwrap.result _ c.read.result c.unwrap.ensures read
    ∙ (λ i. 83 ∷ c.digit.ensures.value i ∷ [])
