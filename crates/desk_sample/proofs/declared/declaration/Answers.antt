use Rattle.std.proofs.Common.{◌≡◌, ◌∙◌, ◌*◌, ◌%◌, arith, ap, true, sym}
use Rattle.std.specs.Prelude.{◌==◌, is_ok, if◌then◌else◌, ◌∷◌, []}
use Rattle.desk_sample.specs.Sample.{cadmium, declaring, dehp, lead, metals}
use Rattle.desk_sample.proofs.CodeForms.{inside_ok}
use Rattle.desk_sample.proofs.Declaring.{dehp_added, dehp_code, same_fits}
use Rattle.desk_sample.proofs.declared.declaration.Goals as goal

pub word-dehp-requires : goal.word-dehp-requires
word-dehp-requires c = dehp_code

pub add-requires-clause-fits : goal.add-requires-clause-fits
add-requires-clause-fits c =
    ap is_ok (same_fits _ _ _ _ (c.args.number * 53 % 1400) _ _ _ c.numbered-material.ensures c.word-dehp.ensures c.in_ok-declaration.ensures (dehp_added c.args.number))

pub returns : goal.returns
returns c =
    let i = c.args.number in
    let added = same_fits _ _ _ _ (i * 53 % 1400) _ _ _ c.numbered-material.ensures c.word-dehp.ensures c.in_ok-declaration.ensures (dehp_added i) in
    let made = inside_ok c.add.new.declaration _ _ c.in_ok-add.ensures added in
    let fifth : (i % 5 == 0) ≡ true = search (arith, c.if-number-ne0.false) in
    made ∙ ap (λ is. declaring i (if is then cadmium i ∷ dehp i ∷ lead i ∷ [] else metals i)) (sym fifth)
