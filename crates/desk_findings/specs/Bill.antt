-- What the laws on the bill of materials ask of tables: each law the clauses that it needs, and no more.
use Rattle.std.specs.Prelude.{◌≡◌, Bool, true, not, ◌&&◌, ◌||◌}
use Rattle.std.specs.List.{list_all}
use Rattle.desk_model.specs.declared.rows.line.LineRow.{LineRow}
use Rattle.desk_model.specs.Content.{holds_too_much}
use Rattle.desk_model.specs.Lists.{Lists, is_kept, is_material, is_part}
use Rattle.desk_findings.specs.Articles.{is_article, is_assembly}
use Rattle.desk_findings.specs.Reaches.{reaches}

-- each line's parent is a kept part
abbrev pub are_parents_kept : Lists → Bool
are_parents_kept t = list_all (λ line. is_part t line.parent) t.lines

-- each line's child is a kept material or part
abbrev pub are_children_kept : Lists → Bool
are_children_kept t = list_all (λ line. is_kept t line.child) t.lines

-- the line is an article's and leads to a material, or it is an assembly's and leads to a part
abbrev pub has_right_child : Lists → LineRow → Bool
has_right_child t line = is_article t line.parent && is_material t line.child || is_assembly t line.parent && is_part t line.child

-- each line leads to a child of the right sort, which is kept with its parent then
abbrev pub are_children_right : Lists → Bool
are_children_right t = list_all (has_right_child t) t.lines

-- materials and parts share no code
abbrev pub are_codes_apart : Lists → Bool
are_codes_apart t = list_all (λ part. not (is_material t part.code)) t.parts

-- no material's substances weigh more than the material
abbrev pub do_contents_fit : Lists → Bool
do_contents_fit t = list_all (λ material. not (holds_too_much material.mass material.substances)) t.materials

-- no part reaches itself
abbrev pub is_acyclic : Lists → Bool
is_acyclic t = list_all (λ part. not (reaches t part.code part.code)) t.parts

-- a bill on which masses, loads and chains are those of the lines: each line is a kept part's, and no part reaches itself
pub record IsBill (t : Lists) : Type 0 where
  pub parents : are_parents_kept t ≡ true
  pub acyclic : is_acyclic t ≡ true

-- a bill whose lines lead to the right children, and where no part reaches itself
pub record IsRight (t : Lists) : Type 0 where
  pub children : are_children_right t ≡ true
  pub apart : are_codes_apart t ≡ true
  pub acyclic : is_acyclic t ≡ true
