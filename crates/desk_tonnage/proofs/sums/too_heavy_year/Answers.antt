use Rattle.std.proofs.Common.{◌+◌, ◌∷◌, drop, Some, sym, ap, ◌∙◌, arith}
use Rattle.std.specs.Option.{option_map_or}
use Rattle.std.proofs.lemmas.List.{at_drop_all, at_drop_more}
use Rattle.desk_tonnage.specs.Masses.{with_masses}
use Rattle.desk_tonnage.proofs.HeavyYears.{heavy_from, heavy_from_start, step_over}
use Rattle.desk_tonnage.proofs.Kept.{by_key_stays}
use Rattle.desk_tonnage.proofs.sums.too_heavy_year.Goals as goal

pub loop-entry-preserved : goal.loop-entry-preserved
loop-entry-preserved c =
    let entries = c.args.entries.now in
    let masses = c.args.masses.now in
    let sum = c.loop-entry.sum in
    let entry = c.entry-item.result in
    let rest = drop (c.loop-entry.entry-index + 1) entries in
    let more = at_drop_more (λ es. heavy_from sum.year sum.mass (with_masses masses es)) entries c.loop-entry.entry-index entry c.loop-entry-test.true in
    let here = ap (λ e. heavy_from sum.year sum.mass (with_masses masses (e ∷ rest))) c.entry-item.is in
    let step = step_over sum.year sum.mass c.mass_after.result entry rest masses c.with.result c.mass_after.ensures c.with.ensures in
    let next = ap (λ o. option_map_or (λ m. heavy_from m.year m.mass (with_masses masses rest)) o (Some entry.year)) c.in-Some.is in
    sym next ∙ sym step ∙ here ∙ sym more ∙ c.loop-entry.invariant

pub returns-in-None : goal.returns-in-None
returns-in-None c =
    let entries = c.args.entries.now in
    let masses = c.args.masses.now in
    let sum = c.loop-entry.sum in
    let entry = c.entry-item.result in
    let rest = drop (c.loop-entry.entry-index + 1) entries in
    let more = at_drop_more (λ es. heavy_from sum.year sum.mass (with_masses masses es)) entries c.loop-entry.entry-index entry c.loop-entry-test.true in
    let here = ap (λ e. heavy_from sum.year sum.mass (with_masses masses (e ∷ rest))) c.entry-item.is in
    let step = step_over sum.year sum.mass c.mass_after.result entry rest masses c.with.result c.mass_after.ensures c.with.ensures in
    let next = ap (λ o. option_map_or (λ m. heavy_from m.year m.mass (with_masses masses rest)) o (Some entry.year)) c.in-None.is in
    sym next ∙ sym step ∙ here ∙ sym more ∙ c.loop-entry.invariant ∙ heavy_from_start (with_masses masses entries) (by_key_stays masses entries c.requires.entries)

pub returns : goal.returns
returns c =
    let entries = c.args.entries.now in
    let masses = c.args.masses.now in
    let sum = c.loop-entry.sum in
    let all = at_drop_all (λ es. heavy_from sum.year sum.mass (with_masses masses es)) entries c.loop-entry.entry-index (omega arith) in
    sym all ∙ c.loop-entry.invariant ∙ heavy_from_start (with_masses masses entries) (by_key_stays masses entries c.requires.entries)
