-- The materials and parts whose roll-ups an edit can change.
use Rattle.std.specs.Prelude.{ℕ, Bool, ◌&&◌, ◌||◌, List, [], ◌∷◌, ◌++◌, filter, is_some, map, if◌then◌else◌}
use Rattle.std.specs.List.{list_any}
use Rattle.desk_text.specs.Code.{same_code}
use Rattle.desk_model.specs.declared.edit.Edit.{Edit}
use Rattle.desk_model.specs.declared.edit.Edit.TheVariants.{Member, Declare, Part, Line, Unline, Candidate}
use Rattle.desk_model.specs.declared.rows.material.MaterialRow.{MaterialRow}
use Rattle.desk_findings.specs.Above.{is_candidate}
use Rattle.desk_findings.specs.Articles.{is_article_sort}
use Rattle.desk_model.specs.Effect.{with_edit_entered}
use Rattle.desk_model.specs.Lists.{Lists, is_part, nodes_of}
use Rattle.desk_findings.specs.Reaches.{lines_of, reaches}
use Rattle.desk_history.specs.Step.{kept_number}

-- the material lists the substance
abbrev pub lists_substance : List ℕ → MaterialRow → Bool
lists_substance substance material = list_any (λ held. same_code held.substance substance) material.substances

-- the materials that list the substance
abbrev pub materials_listing : Lists → List ℕ → List (List ℕ)
materials_listing t substance = map (λ material. material.code) (filter (lists_substance substance) t.materials)

-- some line of the part leads to one of these codes
abbrev pub leads_to_some : Lists → List ℕ → List (List ℕ) → Bool
leads_to_some t part targets = list_any (λ line. list_any (same_code line.child) targets) (lines_of t.lines part)

-- the articles with a line to a material that lists the substance
abbrev pub articles_listing : Lists → List ℕ → List (List ℕ)
articles_listing t substance =
    map (λ part. part.code)
    (filter (λ part. is_article_sort part.sort && leads_to_some t part.code (materials_listing t substance)) t.parts)

-- the materials and parts at which the change of a new edit begins
unfoldable pub seeds_of_new : Lists → Edit → List (List ℕ)
seeds_of_new t (Member ticket substance rule factor) = materials_listing t substance
seeds_of_new t (Declare declaration) = map (λ material. material.code) declaration.materials
seeds_of_new t (Part ticket code sort name) = if is_part t code then [] else code ∷ []
seeds_of_new t (Line ticket parent child count) = parent ∷ []
seeds_of_new t (Unline ticket parent child) = parent ∷ []
seeds_of_new t (Candidate ticket substance day) = if is_candidate t substance then [] else articles_listing t substance
seeds_of_new t _ = []

-- the materials and parts at which the change of an edit begins: none where it is kept already, since it changes
-- nothing then
abbrev pub seeds : Lists → Edit → List (List ℕ)
seeds t edit = if is_some (kept_number t edit) then [] else seeds_of_new t edit

-- the code is a seed, or a part that reaches one in the tables after the edit
unfoldable pub is_affected : Lists → Edit → List ℕ → Bool
is_affected t edit code = list_any (λ seed. same_code code seed || reaches (with_edit_entered t edit) code seed) (seeds t edit)

-- the codes that an edit affects: the seeds, and each part that reaches one, each once
abbrev pub affected : Lists → Edit → List (List ℕ)
affected t edit = filter (is_affected t edit) (nodes_of (with_edit_entered t edit))
