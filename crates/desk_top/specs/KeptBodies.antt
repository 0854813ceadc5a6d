-- A keeper in memory of a session: bodies by their keys, in a tree in which a key may stand without a body, so that there is room for one.
use Rattle.std.specs.Prelude.{◌≡◌, ℕ, Bool, true, List, [], ◌∷◌, Option, Some, None, if◌then◌else◌}
use Rattle.std.specs.List.{list_any}
use Rattle.std.specs.Map.{lookup}
use Rattle.std.specs.Ordering.{is_eq, is_lt}
use Rattle.desk_edge.specs.Content.{Content, is_past, key_cmp, key_of, same_key}
use Rattle.desk_edge.specs.declared.change.Change.{Change}
use Rattle.desk_edge.specs.declared.change.Change.TheVariants.{Put, Drop}
use Rattle.desk_edge.specs.declared.key.Key.{Key}

-- keys with their bodies, or with none
abbrev pub Bodies : Type 0
Bodies = List (Key × Option (List ℕ))

-- what stands under the key, if it is there
abbrev pub stands : Bodies → Key → Option (Option (List ℕ))
stands bodies key = lookup (λ other. is_eq (key_cmp key other)) bodies

-- the body that stands, if one does
abbrev pub standing_body : Option (Option (List ℕ)) → Option (List ℕ)
standing_body None = None
standing_body (Some body) = body

-- what is kept under each key
abbrev pub kept_in : Bodies → Content
kept_in bodies key = standing_body (stands bodies key)

-- each key that is there has a body
abbrev pub IsClear : Bodies → Type 0
IsClear bodies = (key : Key) → stands bodies key ≡ Some None → ⊥

-- what a change puts under which key
abbrev pub ready : Change → Key × Option (List ℕ)
ready (Put kept) = (key_of kept, Some kept.body)
ready (Drop key) = (key, None)

-- the key is one of these
abbrev pub is_key_among : List Key → Key → Bool
is_key_among keys key = list_any (λ other. same_key other key) keys

-- what stands when there is room
abbrev pub with_room : Option (Option (List ℕ)) → Option (Option (List ℕ))
with_room None = Some None
with_room (Some body) = Some body

-- what stands when no key is there without a body
abbrev pub cleared : Option (Option (List ℕ)) → Option (Option (List ℕ))
cleared None = None
cleared (Some None) = None
cleared (Some (Some body)) = Some (Some body)

-- what stands under the key when all of these were put in, one after the other
abbrev pub body_among : Bodies → Key → Option (Option (List ℕ)) → Option (Option (List ℕ))
body_among [] key old = old
body_among (new ∷ more) key old = body_among more key (if same_key new.0 key then Some new.1 else old)

-- this stands under the key, which lies past the one that was given, and no other key is there that lies past that and before it
abbrev pub IsFirstIn : Bodies → Option Key → Key → Option (List ℕ) → Type 0
IsFirstIn bodies after key body =
    (stands bodies key ≡ Some body)
    × (is_past after key ≡ true)
    × ((other : Key) → is_past after other ≡ true → is_lt (key_cmp other key) ≡ true → stands bodies other ≡ None)

-- no key is there that lies past the one that was given
abbrev pub IsNoneIn : Bodies → Option Key → Type 0
IsNoneIn bodies after = (key : Key) → is_past after key ≡ true → stands bodies key ≡ None
