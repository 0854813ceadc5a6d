-- The marks by which a set of kinds is kept, and the kinds that are marked.
use Rattle.std.proofs.Common.{◌≡◌, ℕ, ◌<◌, Bool, true, false, List, [], ◌∷◌, length, get_or, set, refl, sym, ◌∙◌, ap, arith, ⊎_elim, lit<}
use Rattle.std.specs.Prelude.{◌||◌, ◌==◌, map, filter, replicate}
use Rattle.std.specs.Cmp.Lexicographic.{pointwise}
use Rattle.std.specs.Bool.{beq}
use Rattle.std.proofs.lemmas.Bool.Decides.{eqb_tells}
use Rattle.std.proofs.lemmas.List.{get_or-set_same, get_or-set_other}
use Rattle.desk_law.specs.declared.kind.Kind.{Kind}
use Rattle.desk_law.specs.declared.kind.Kind.TheVariants.{LargeHousehold, SmallHousehold, Telecommunications, Consumer, Lighting, Tool, ToyLeisureSports, Toy, MedicalDevice, InVitroDiagnostic, ControlInstrument, IndustrialInstrument, Dispenser, Other}
use Rattle.desk_law.specs.Kind.{all_kinds, kind_place, same_kind}
use Rattle.desk_law.specs.KindSet.{has_kind, set_of}
use Rattle.desk_law.specs.KindMarks.{has_kind-filter, marked_kinds, marks-marked_kinds}

-- a marked kind is in the set
pub has_kind-marked_kinds : (marks : List Bool) (kind : Kind) → has_kind (marked_kinds marks) kind ≡ get_or marks (kind_place kind) false
unfolding marked_kinds
has_kind-marked_kinds marks kind = has_kind-filter (λ k. get_or marks (kind_place k) false) kind

pub same_filter : (p q : Kind → Bool) → ((kind : Kind) → p kind ≡ q kind) → filter p all_kinds ≡ filter q all_kinds
same_filter p q h = ap (λ test. filter test all_kinds) (λ i kind. h kind i)

-- a set stands in order, each kind once
pub set_of-marked_kinds : (marks : List Bool) → marked_kinds marks ≡ set_of (marked_kinds marks)
unfolding marked_kinds set_of
set_of-marked_kinds marks =
    same_filter _ _ (λ kind. sym (has_kind-filter (λ k. get_or marks (kind_place k) false) kind))

-- no mark, no kind
pub marked_kinds-none : marked_kinds (replicate 14 false) ≡ []
unfolding marked_kinds kind_place
marked_kinds-none = refl

marked_after : (marks : List Bool) (i j : ℕ) → i < length marks → get_or (set marks i true) j false ≡ ((j == i) || get_or marks j false)
marked_after marks i j h =
    ⊎_elim
    (λ e. grind (arith, e.0, e.1, get_or-set_same marks i true false h))
    (λ e. grind (arith, e.0, e.1, get_or-set_other marks i j true false e.1))
    (eqb_tells j i)

-- one mark more, one kind more
pub marked_kinds-set : (marks : List Bool) (kind : Kind) → kind_place kind < length marks → marked_kinds (set marks (kind_place kind) true) ≡ set_of (kind ∷ marked_kinds marks)
unfolding marked_kinds set_of has_kind
marked_kinds-set marks kind h =
    same_filter _ _ (λ k. marked_after marks (kind_place kind) (kind_place k) h ∙ ap (λ b. same_kind k kind || b) (sym (has_kind-marked_kinds marks k)))

-- each kind has a place below fourteen
pub kind_place-lt : (kind : Kind) → kind_place kind < 14
unfolding kind_place
kind_place-lt LargeHousehold = lit< tt
kind_place-lt SmallHousehold = lit< tt
kind_place-lt Telecommunications = lit< tt
kind_place-lt Consumer = lit< tt
kind_place-lt Lighting = lit< tt
kind_place-lt Tool = lit< tt
kind_place-lt ToyLeisureSports = lit< tt
kind_place-lt Toy = lit< tt
kind_place-lt MedicalDevice = lit< tt
kind_place-lt InVitroDiagnostic = lit< tt
kind_place-lt ControlInstrument = lit< tt
kind_place-lt IndustrialInstrument = lit< tt
kind_place-lt Dispenser = lit< tt
kind_place-lt Other = lit< tt

-- marks agree exactly where the sets have the same kinds
pub pointwise-marks : (a b : List Kind) (xs ys : List Bool) (r : Bool) → marked_kinds xs ≡ a → length xs ≡ 14 → marked_kinds ys ≡ b → length ys ≡ 14 → r ≡ pointwise beq xs ys → r ≡ pointwise beq (map (has_kind a) all_kinds) (map (has_kind b) all_kinds)
pointwise-marks a b xs ys r p h q k e =
    e
    ∙ ap (λ ms. pointwise beq ms ys) (sym (marks-marked_kinds xs h) ∙ ap (λ s. map (has_kind s) all_kinds) p)
    ∙ ap (λ ms. pointwise beq (map (has_kind a) all_kinds) ms) (sym (marks-marked_kinds ys k) ∙ ap (λ s. map (has_kind s) all_kinds) q)

-- a set has the kinds that it was made of
pub has_kind-set_of : (kinds : List Kind) (kind : Kind) → has_kind (set_of kinds) kind ≡ has_kind kinds kind
unfolding set_of
has_kind-set_of kinds kind = has_kind-filter (has_kind kinds) kind
