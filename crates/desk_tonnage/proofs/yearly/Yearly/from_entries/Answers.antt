use Rattle.std.proofs.Common.{◌≡◌, Some, option_map, sym, ap, ◌∙◌}
use Rattle.std.proofs.lemmas.Cmp.{nat_list_cmp_total}
use Rattle.desk_text.specs.Code.{code_cmp}
use Rattle.desk_rows.proofs.Order.{none_by_key}
use Rattle.desk_tonnage.specs.declared.fault.MassFault.TheVariants.{YearTooLarge}
use Rattle.desk_tonnage.specs.declared.product_mass.ProductMass.{ProductMass}
use Rattle.desk_tonnage.specs.Years.{too_heavy_entry_year}
use Rattle.desk_tonnage.proofs.Kept.{all-kept, no_masses}
use Rattle.desk_tonnage.proofs.yearly.Yearly.from_entries.Goals as goal

pub too_heavy_year-requires-clause-masses : goal.too_heavy_year-requires-clause-masses
too_heavy_year-requires-clause-masses c = none_by_key (λ (weighed : ProductMass). weighed.product) code_cmp nat_list_cmp_total

pub invariant_of-result : goal.invariant_of-result
invariant_of-result c =
    let heavy = sym (ap too_heavy_entry_year (no_masses c.as_slice.result.now ∙ c.as_slice.ensures.value)) ∙ sym c.too_heavy_year.ensures in
    all-kept c.args.entries.items c.requires.by_key c.requires.units (heavy ∙ c.in-None.is)

pub returns-in-Some-clause-fault : goal.returns-in-Some-clause-fault
returns-in-Some-clause-fault c =
    let heavy = sym (ap too_heavy_entry_year (no_masses c.as_slice.result.now ∙ c.as_slice.ensures.value)) ∙ sym c.too_heavy_year.ensures in
    ap (option_map (λ year. YearTooLarge year)) (heavy ∙ c.in-Some.is)

pub returns-in-None-clause-fits : goal.returns-in-None-clause-fits
returns-in-None-clause-fits c =
    let heavy = sym (ap too_heavy_entry_year (no_masses c.as_slice.result.now ∙ c.as_slice.ensures.value)) ∙ sym c.too_heavy_year.ensures in
    heavy ∙ c.in-None.is
