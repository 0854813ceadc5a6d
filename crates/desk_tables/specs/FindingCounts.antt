-- What nodes add to the number of all findings.
use Rattle.std.specs.Prelude.{ℕ, ◌+◌, ◌*◌, Bool, false, List, filter, slice_index, length, nat_lt, if◌then◌else◌}
use Rattle.std.specs.List.{range_with_len}
use Rattle.desk_model.specs.declared.rows.material.MaterialRow.{MaterialRow}
use Rattle.desk_model.specs.declared.rows.part.PartRow.{PartRow}
use Rattle.std.specs.Option.{option_map_or}
use Rattle.desk_model.specs.Lists.{Lists, material_row}
use Rattle.desk_findings.specs.Articles.{is_article_sort}
use Rattle.desk_findings.specs.Findings.{findings_of_article, rules_over}

-- how many findings there are on a material by itself
abbrev pub own_of_material : Lists → MaterialRow → ℕ
own_of_material t material = length (rules_over t material)

-- the code is that of a material that is over some rule's limit
abbrev pub is_over_some_limit : Lists → List ℕ → Bool
is_over_some_limit t code = option_map_or (λ material. nat_lt 0 (own_of_material t material)) (material_row t code) false

-- how many findings there are on a part by itself: an assembly has none
abbrev pub own_of_part : Lists → PartRow → ℕ
own_of_part t part = if is_article_sort part.sort then length (findings_of_article t part) else 0

-- the places of the nodes that have findings of their own
abbrev pub holders_among : List ℕ → List ℕ
holders_among own = filter (λ place. nat_lt 0 (slice_index own place)) (range_with_len 0 (length own))

-- what one of these nodes adds: its own findings, for each part that reaches it, and those of a part for the part itself
abbrev pub added_at : List ℕ → List ℕ → List ℕ → ℕ → ℕ → ℕ
added_at own holders reach material_count index =
    slice_index own (slice_index holders index)
    * (slice_index reach index + (if nat_lt (slice_index holders index) material_count then 0 else 1))
