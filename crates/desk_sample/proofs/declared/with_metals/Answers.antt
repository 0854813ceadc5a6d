use Rattle.std.proofs.Common.{◌*◌, ◌%◌, ap}
use Rattle.std.specs.Prelude.{is_ok}
use Rattle.desk_sample.proofs.CodeForms.{inside_ok}
use Rattle.desk_sample.proofs.Declaring.{cadmium_added, cadmium_code, lead_added, lead_code, same_fits}
use Rattle.desk_sample.proofs.declared.with_metals.Goals as goal

pub word-lead-requires : goal.word-lead-requires
word-lead-requires c = lead_code

pub word-cadmium-requires : goal.word-cadmium-requires
word-cadmium-requires c = cadmium_code

pub add-requires-clause-fits : goal.add-requires-clause-fits
add-requires-clause-fits c =
    ap is_ok (same_fits _ _ _ _ (c.args.number * 37 % 1500) _ _ _ c.requires.code c.word-lead.ensures c.in_ok-declaration.ensures (lead_added c.args.number))

pub add-requires-2-clause-fits : goal.add-requires-2-clause-fits
add-requires-2-clause-fits c =
    let i = c.args.number in
    let added = same_fits _ _ _ _ (i * 37 % 1500) _ _ _ c.requires.code c.word-lead.ensures c.in_ok-declaration.ensures (lead_added i) in
    let first = inside_ok c.add.new.declaration _ _ c.in_ok-add.ensures added in
    ap is_ok (same_fits _ _ _ _ (i * 11 % 130) _ _ _ c.requires.code c.word-cadmium.ensures first (cadmium_added i))

pub returns : goal.returns
returns c =
    let i = c.args.number in
    let added = same_fits _ _ _ _ (i * 37 % 1500) _ _ _ c.requires.code c.word-lead.ensures c.in_ok-declaration.ensures (lead_added i) in
    let first = inside_ok c.add.new.declaration _ _ c.in_ok-add.ensures added in
    let second = same_fits _ _ _ _ (i * 11 % 130) _ _ _ c.requires.code c.word-cadmium.ensures first (cadmium_added i) in
    inside_ok c.add-2.new.declaration _ _ c.in_ok-add-2.ensures second
