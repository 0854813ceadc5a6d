-- An object's members, as a map keeps them.
use Rattle.std.proofs.Common.{◌≡◌, ◌||◌, not, List, [], ◌∷◌, String, Global, string_bytes, refl, ap}
use Rattle.std.specs.List.{list_any}
use Rattle.std.specs.Map.{keys_of}
use Rattle.serde_json.specs.View.{members_view}
use Rattle.serde_json.specs.declared.value.Value.{Value}
use Rattle.desk_edits.specs.declared.shape_key.ShapeKey.{ShapeKey}
use Rattle.desk_edits.specs.Shape.{has_unknown, is_known}

-- there is an unknown name among the members exactly where there is one among the map's keys
pub has_unknown_entries : (keys : List ShapeKey) (es : List (String Global × Value))
    → list_any (λ name. not (is_known keys (string_bytes name))) (keys_of es) ≡ has_unknown keys (members_view es)
has_unknown_entries keys [] = refl
has_unknown_entries keys (e ∷ es) = ap (λ b. not (is_known keys (string_bytes e.0)) || b) (has_unknown_entries keys es)
