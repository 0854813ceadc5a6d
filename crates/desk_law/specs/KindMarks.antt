-- How a set of kinds is kept: fourteen marks, one at the place of each kind. No clause speaks of them.
use Rattle.std.proofs.Common.{◌≡◌, Bool, true, false, List, length, get_or, refl, sym, ◌∙◌, ap}
use Rattle.std.specs.Prelude.{◌&&◌, map, filter}
use Rattle.std.proofs.lemmas.Bool.{eqb-true}
use Rattle.std.proofs.lemmas.List.FromFn.{fill_by_all}
use Rattle.std.proofs.lemmas.Map.Views.{any-filter_same}
use Rattle.std.proofs.Math.Bool.{and-true}
use Rattle.desk_law.specs.declared.kind.Kind.{Kind}
use Rattle.desk_law.specs.declared.kind.Kind.TheVariants.{LargeHousehold, SmallHousehold, Telecommunications, Consumer}
use Rattle.desk_law.specs.declared.kind.Kind.TheVariants.{Lighting, Tool, ToyLeisureSports, Toy, MedicalDevice}
use Rattle.desk_law.specs.declared.kind.Kind.TheVariants.{InVitroDiagnostic, ControlInstrument, IndustrialInstrument}
use Rattle.desk_law.specs.declared.kind.Kind.TheVariants.{Dispenser, Other}
use Rattle.desk_law.specs.Kind.{all_kinds, kind_place, same_kind}
use Rattle.desk_law.specs.KindSet.{has_kind}

-- the kinds that have a mark at their place in a list of fourteen
unfoldable pub marked_kinds : List Bool → List Kind
marked_kinds marks = filter (λ kind. get_or marks (kind_place kind) false) all_kinds

-- What follows is proved and defines nothing. The type's declaration names the last of these lemmas, and a declaration names
-- nothing in proofs/.

-- the list of all kinds has each kind at its place
all_kinds-at : (kind : Kind) → get_or all_kinds (kind_place kind) Other ≡ kind
unfolding kind_place
all_kinds-at LargeHousehold = refl
all_kinds-at SmallHousehold = refl
all_kinds-at Telecommunications = refl
all_kinds-at Consumer = refl
all_kinds-at Lighting = refl
all_kinds-at Tool = refl
all_kinds-at ToyLeisureSports = refl
all_kinds-at Toy = refl
all_kinds-at MedicalDevice = refl
all_kinds-at InVitroDiagnostic = refl
all_kinds-at ControlInstrument = refl
all_kinds-at IndustrialInstrument = refl
all_kinds-at Dispenser = refl
all_kinds-at Other = refl

-- kinds at one place are one kind
same_kind-true : (a b : Kind) → same_kind a b ≡ true → a ≡ b
same_kind-true a b h =
    sym (all_kinds-at a) ∙ ap (λ n. get_or all_kinds n Other) (eqb-true (kind_place a) (kind_place b) h) ∙ all_kinds-at b

-- the list of all kinds has every kind
has_kind-all_kinds : (kind : Kind) → has_kind all_kinds kind ≡ true
unfolding has_kind kind_place
has_kind-all_kinds LargeHousehold = refl
has_kind-all_kinds SmallHousehold = refl
has_kind-all_kinds Telecommunications = refl
has_kind-all_kinds Consumer = refl
has_kind-all_kinds Lighting = refl
has_kind-all_kinds Tool = refl
has_kind-all_kinds ToyLeisureSports = refl
has_kind-all_kinds Toy = refl
has_kind-all_kinds MedicalDevice = refl
has_kind-all_kinds InVitroDiagnostic = refl
has_kind-all_kinds ControlInstrument = refl
has_kind-all_kinds IndustrialInstrument = refl
has_kind-all_kinds Dispenser = refl
has_kind-all_kinds Other = refl

-- a set by a test has the kinds that pass
pub has_kind-filter : (test : Kind → Bool) (kind : Kind) → has_kind (filter test all_kinds) kind ≡ test kind
unfolding has_kind
has_kind-filter test kind =
    any-filter_same (same_kind kind) test (test kind) (λ k e. ap test (sym (same_kind-true kind k e))) all_kinds
    ∙ ap (λ b. test kind && b) (has_kind-all_kinds kind)
    ∙ and-true (test kind)

-- the kinds that are marked give their marks back
pub marks-marked_kinds : (marks : List Bool) → length marks ≡ 14 → map (has_kind (marked_kinds marks)) all_kinds ≡ marks
unfolding marked_kinds kind_place
marks-marked_kinds marks h =
    simp (has_kind-filter (λ kind. get_or marks (kind_place kind) false)) (sym (fill_by_all (λ k. get_or marks k false) marks 14 false h (λ k _. refl)))
