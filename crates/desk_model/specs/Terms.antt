-- The terms of an exemption row: their ranges, and what a row may not say.
use Rattle.std.specs.Prelude.{ℕ, Bool, true, false, not, ◌&&◌, ◌||◌, List, length, Option, Some, None, nat_lt, nat_le}
use Rattle.std.specs.List.{list_all}
use Rattle.std.specs.Ordering.{nat_cmp, on}
use Rattle.desk_text.specs.Day.{is_not_after}
use Rattle.desk_law.specs.declared.kind.Kind.{Kind}
use Rattle.desk_law.specs.declared.terms.Terms.{Terms}
use Rattle.desk_law.specs.Annex.{annex_kinds}
use Rattle.desk_law.specs.Kind.{kind_place}
use Rattle.desk_law.specs.KindSet.{has_kind}
use Rattle.desk_model.specs.Content.{rises}
use Rattle.desk_model.specs.declared.limits.TheConstants.{PPM_LIMIT}

-- a floor or a cap of an exemption row is absent, or at most the whole material, in parts per million
abbrev pub is_ppm : Option ℕ → Bool
is_ppm None = true
is_ppm (Some ppm) = nat_le ppm PPM_LIMIT

-- the kinds of an exemption row are a set of at least one: they stand in the order of Annex I, each once
abbrev pub are_kinds : List Kind → Bool
are_kinds kinds = nat_lt 0 (length kinds) && rises (on kind_place nat_cmp) kinds

-- an exemption row names kinds of equipment, and its floor and its cap are parts per million
abbrev pub are_terms_in_range : Terms → Bool
are_terms_in_range terms = are_kinds terms.kinds && is_ppm terms.floor && is_ppm terms.cap

-- an exemption row has a floor and a cap, and the floor is the greater
abbrev pub is_floor_over_cap : Option ℕ → Option ℕ → Bool
is_floor_over_cap None cap = false
is_floor_over_cap (Some floor) None = false
is_floor_over_cap (Some floor) (Some cap) = nat_lt cap floor

-- an exemption row's last day is before its first, or its floor is greater than its cap
abbrev pub breaks_span : Terms → Bool
breaks_span terms = not (is_not_after terms.first terms.last) || is_floor_over_cap terms.floor terms.cap

-- an exemption row names a kind that its annex isn't for: Article 4(6) of Directive 2011/65/EU and the title of its
-- Annex IV
abbrev pub breaks_annex : Terms → Bool
breaks_annex terms = not (list_all (has_kind (annex_kinds terms.annex)) terms.kinds)
