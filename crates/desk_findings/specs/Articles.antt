-- The articles and materials that a part holds.
use Rattle.std.specs.Prelude.{ℕ, Bool, true, false, ◌&&◌, List, filter}
use Rattle.std.specs.Option.{option_map_or}
use Rattle.desk_model.specs.declared.part_sort.PartSort.{PartSort}
use Rattle.desk_model.specs.declared.part_sort.PartSort.TheVariants.{Article, Assembly}
use Rattle.desk_model.specs.declared.rows.material.MaterialRow.{MaterialRow}
use Rattle.desk_model.specs.declared.rows.part.PartRow.{PartRow}
use Rattle.desk_model.specs.Lists.{Lists, part_row}
use Rattle.desk_findings.specs.Reaches.{is_or_reaches, reaches}

-- the sort of a part is that of an article
abbrev pub is_article_sort : PartSort → Bool
is_article_sort Article = true
is_article_sort Assembly = false

-- the two are the same sort of part
abbrev pub same_sort : PartSort → PartSort → Bool
same_sort Article Article = true
same_sort Article Assembly = false
same_sort Assembly Article = false
same_sort Assembly Assembly = true

-- the code is that of a kept article
abbrev pub is_article : Lists → List ℕ → Bool
is_article t code = option_map_or (λ part. is_article_sort part.sort) (part_row t code) false

-- the code is that of a kept assembly
abbrev pub is_assembly : Lists → List ℕ → Bool
is_assembly t code = option_map_or (λ part. same_sort part.sort Assembly) (part_row t code) false

-- the materials that the part reaches, in order of code
abbrev pub materials_in : Lists → List ℕ → List MaterialRow
materials_in t code = filter (λ material. reaches t code material.code) t.materials

-- the articles that the part reaches, or that it is, in order of code
abbrev pub articles_in : Lists → List ℕ → List PartRow
articles_in t code = filter (λ part. is_article_sort part.sort && is_or_reaches t code part.code) t.parts
