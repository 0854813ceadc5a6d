-- Sets of kinds. A set is seen as the list of its kinds, each once, in the order of Annex I.
use Rattle.std.specs.Prelude.{ℕ, Bool, not, ◌||◌, List, filter, map}
use Rattle.std.specs.List.{list_all, list_any, join_with_byte}
use Rattle.desk_law.specs.declared.kind.Kind.{Kind}
use Rattle.desk_law.specs.Kind.{all_kinds, kind_code, same_kind}

-- whether the list has the kind
unfoldable pub has_kind : List Kind → Kind → Bool
has_kind kinds kind = list_any (same_kind kind) kinds

-- the set of these kinds
unfoldable pub set_of : List Kind → List Kind
set_of kinds = filter (has_kind kinds) all_kinds

-- each kind of the first list is in the second
unfoldable pub is_subset : List Kind → List Kind → Bool
is_subset kinds others = list_all (λ kind. not (has_kind kinds kind) || has_kind others kind) all_kinds

-- the codes of the kinds, joined by commas
unfoldable pub kinds_text : List Kind → List ℕ
kinds_text kinds = join_with_byte 44 (map kind_code kinds)
