-- A set of kinds is read from its text.
use Rattle.std.proofs.Common.{◌≡◌, ℕ, ◌<◌, Bool, true, false, cond, List, [], ◌∷◌, length, map, get_or, Option, Some, None, option_and_then, is_lt, refl, sym, ap, subst, ◌∙◌, inl, inr, arith, Ok, Less, Equal, Greater}
use Rattle.std.specs.Prelude.{◌==◌, ◌&&◌, ◌||◌, filter, nat_lt}
use Rattle.std.specs.List.{AllByRecursion, list_all, slice_split}
use Rattle.std.specs.Ordering.{nat_cmp, on}
use Rattle.std.specs.Str.{bytes_eq}
use Rattle.std.proofs.lemmas.Bool.{and_parts, eqb-true, false≢true, ltb-true, or_cases}
use Rattle.std.proofs.lemmas.Bool.Decides.{nat_tests}
use Rattle.std.proofs.lemmas.Option.{cond_some}
use Rattle.std.proofs.lemmas.Slice.Eq.{bytes_eq-Decides}
use Rattle.desk_text.specs.Code.{code_of}
use Rattle.desk_text.proofs.Fields.{Lacks, lacks_in_code, split-joined}
use Rattle.desk_law.specs.declared.kind.Kind.{Kind}
use Rattle.desk_law.specs.declared.kind.Kind.TheVariants.{LargeHousehold, SmallHousehold, Telecommunications, Consumer, Lighting, Tool, ToyLeisureSports, Toy, MedicalDevice, InVitroDiagnostic, ControlInstrument, IndustrialInstrument, Dispenser, Other}
use Rattle.desk_law.specs.Kind.{all_kinds, kind_code, kind_place, same_kind}
use Rattle.desk_law.specs.KindMarks.{has_kind-filter}
use Rattle.desk_law.specs.KindSet.{has_kind, kinds_text, set_of}
use Rattle.desk_law.proofs.Codes.{kind_of-kind_code}
use Rattle.desk_law.proofs.KindMarks.{has_kind-set_of, same_filter}
use Rattle.desk_law.proofs.KindSets.{set_of-none}
use Rattle.desk_law.proofs.Told.{kinds_told}
use Rattle.desk_model.specs.Content.{rises}
use Rattle.desk_model.specs.Terms.{are_kinds}
use Rattle.desk_fields.specs.Forms.{kinds_with, kinds_of_text}
use Rattle.desk_fields.proofs.Codec.{IsForm}

-- kinds at one place are one kind
kind_at : (kind : Kind) → get_or all_kinds (kind_place kind) Other ≡ kind
unfolding kind_place
kind_at LargeHousehold = refl
kind_at SmallHousehold = refl
kind_at Telecommunications = refl
kind_at Consumer = refl
kind_at Lighting = refl
kind_at Tool = refl
kind_at ToyLeisureSports = refl
kind_at Toy = refl
kind_at MedicalDevice = refl
kind_at InVitroDiagnostic = refl
kind_at ControlInstrument = refl
kind_at IndustrialInstrument = refl
kind_at Dispenser = refl
kind_at Other = refl

one_kind : (a b : Kind) → (kind_place a == kind_place b) ≡ true → a ≡ b
one_kind a b e = sym (kind_at a) ∙ ap (λ n. get_or all_kinds n Other) (eqb-true (kind_place a) (kind_place b) e) ∙ kind_at b

-- kinds whose places rise
Above : Kind → List Kind → Type 0
Above kind kinds = AllByRecursion (λ later. kind_place kind < kind_place later) kinds

Up : List Kind → Type 0
Up [] = Unit {0}
Up (kind ∷ kinds) = Above kind kinds × Up kinds

place_less : (a b : ℕ) → is_lt (nat_cmp a b) ≡ true → a < b
place_less a b e = by (nat_lt a b) refl e
  where
    rest : (same : Bool) → is_lt (cond same Equal Greater) ≡ false
    rest true = refl
    rest false = refl

    by : (l : Bool) → nat_lt a b ≡ l → is_lt (cond l Less (cond (a == b) Equal Greater)) ≡ true → a < b
    by true is e = ltb-true a b is
    by false is e = absurd (false≢true (sym (rest (a == b)) ∙ e))

above_from : (kind : Kind) (kinds : List Kind) → list_all (λ later. is_lt (on kind_place nat_cmp kind later)) kinds ≡ true → Above kind kinds
unfolding Above
above_from kind [] e = tt
above_from kind (k ∷ ks) e =
    let parts = and_parts (is_lt (nat_cmp (kind_place kind) (kind_place k))) (list_all (λ later. is_lt (on kind_place nat_cmp kind later)) ks) e in
    (place_less (kind_place kind) (kind_place k) parts.0, above_from kind ks parts.1)

up_from : (kinds : List Kind) → rises (on kind_place nat_cmp) kinds ≡ true → Up kinds
unfolding Up
up_from [] e = tt
up_from (k ∷ ks) e =
    let parts = and_parts (list_all (λ later. is_lt (on kind_place nat_cmp k later)) ks) (rises (on kind_place nat_cmp) ks) e in
    (above_from k ks parts.0, up_from ks parts.1)

all_up : rises (on kind_place nat_cmp) all_kinds ≡ true
unfolding kind_place
all_up = refl

has_all : (kind : Kind) → has_kind all_kinds kind ≡ true
has_all kind = has_kind-filter (λ _. true) kind

-- a kind before all of them is none of them
not_below : (kind : Kind) (kinds : List Kind) → Above kind kinds → has_kind kinds kind ≡ false
unfolding Above has_kind
not_below kind [] above = refl
not_below kind (k ∷ ks) above =
    let other : (kind_place kind == kind_place k) ≡ false = grind (arith, nat_tests, above.0) in
    rw other (not_below kind ks above.1)

-- a kind that is one of them is not before all of them
member_above : (first kind : Kind) (kinds : List Kind) → Above first kinds → has_kind kinds kind ≡ true → kind_place first < kind_place kind
unfolding Above has_kind
member_above first kind [] above is = absurd (false≢true is)
member_above first kind (k ∷ ks) above is =
    elim (or_cases (kind_place kind == kind_place k) (has_kind ks kind) is) [
      | inl here ↦ subst (λ n. kind_place first < n) (sym (eqb-true (kind_place kind) (kind_place k) here)) above.0
      | inr there ↦ member_above first kind ks above.1 there
    ]

-- the first kind is none of those that stand behind it
behind_first : (kind : Kind) (kinds rest : List Kind) → Above kind rest → filter (has_kind (kind ∷ kinds)) rest ≡ filter (has_kind kinds) rest
unfolding Above has_kind
behind_first kind kinds [] above = refl
behind_first kind kinds (k ∷ rest) above =
    let other : (kind_place k == kind_place kind) ≡ false = grind (arith, nat_tests, above.0) in
    let same : has_kind (kind ∷ kinds) k ≡ has_kind kinds k = ap (λ b. b || has_kind kinds k) other in
    ap (λ b. cond b (k ∷ filter (has_kind (kind ∷ kinds)) rest) (filter (has_kind (kind ∷ kinds)) rest)) same
    ∙ ap (λ (ks : List Kind). cond (has_kind kinds k) (k ∷ ks) ks) (behind_first kind kinds rest above.1)

Among : List Kind → List Kind → Type 0
Among all kinds = AllByRecursion (λ kind. has_kind all kind ≡ true) kinds

-- kinds behind a place are among those behind it
among_rest : (first : Kind) (rest kinds : List Kind) → Above first kinds → Among (first ∷ rest) kinds → Among rest kinds
unfolding Above Among has_kind
among_rest first rest [] above among = tt
among_rest first rest (k ∷ ks) above among =
    let other : (kind_place k == kind_place first) ≡ false = grind (arith, nat_tests, above.0) in
    (sym (ap (λ b. b || has_kind rest k) other) ∙ among.0, among_rest first rest ks above.1 among.1)

above_more : (first second : Kind) (kinds : List Kind) → kind_place first < kind_place second → Above second kinds → Above first kinds
unfolding Above
above_more first second [] less above = tt
above_more first second (k ∷ ks) less above = (omega (arith, less, above.0), above_more first second ks less above.1)

has_more : (kinds : List Kind) (kind asked : Kind) → has_kind (kind ∷ kinds) asked ≡ same_kind asked kind || has_kind kinds asked
unfolding has_kind
has_more kinds kind asked = refl

has_itself : (kind : Kind) (kinds : List Kind) → has_kind (kind ∷ kinds) kind ≡ true
unfolding has_kind
has_itself kind kinds = let same : (kind_place kind == kind_place kind) ≡ true = grind (arith, nat_tests) in ap (λ b. b || has_kind kinds kind) same

module _ (a : Kind) (rest : List Kind) (up : Above a rest) (ih : (kinds : List Kind) → Up kinds → Among rest kinds → filter (has_kind kinds) rest ≡ kinds) where
  -- the first kind of all is the first of them
  kept_first : (ks : List Kind) → Up (a ∷ ks) → Among (a ∷ rest) (a ∷ ks) → filter (has_kind (a ∷ ks)) (a ∷ rest) ≡ a ∷ ks
  unfolding Up Among
  kept_first ks rise among =
      ap (λ b. cond b (a ∷ filter (has_kind (a ∷ ks)) rest) (filter (has_kind (a ∷ ks)) rest)) (has_itself a ks)
      ∙ ap (λ (kinds : List Kind). a ∷ kinds) (behind_first a ks rest up ∙ ih ks rise.1 (among_rest a rest ks rise.0 among.1))

  -- or it is none of them
  kept_later : (k : Kind) (ks : List Kind) → (kind_place k == kind_place a) ≡ false → Up (k ∷ ks) → Among (a ∷ rest) (k ∷ ks) → filter (has_kind (k ∷ ks)) (a ∷ rest) ≡ k ∷ ks
  unfolding Up Among Above
  kept_later k ks other rise among =
      let there : has_kind rest k ≡ true = sym (has_more rest a k ∙ ap (λ b. b || has_kind rest k) other) ∙ among.0 in
      let less : kind_place a < kind_place k = member_above a k rest up there in
      let above : Above a ks = above_more a k ks less rise.0 in
      ap (λ b. cond b (a ∷ filter (has_kind (k ∷ ks)) rest) (filter (has_kind (k ∷ ks)) rest)) (not_below a (k ∷ ks) (less, above))
      ∙ ih (k ∷ ks) rise (there, among_rest a rest ks above among.1)

kept_by : (a : Kind) (rest : List Kind) (k : Kind) (ks : List Kind) → Above a rest → ((kinds : List Kind) → Up kinds → Among rest kinds → filter (has_kind kinds) rest ≡ kinds)
    → Up (k ∷ ks) → Among (a ∷ rest) (k ∷ ks) → filter (has_kind (k ∷ ks)) (a ∷ rest) ≡ k ∷ ks
kept_by a rest k ks up ih rise among = by (kind_place k == kind_place a) refl
  where
    by : (b : Bool) → (kind_place k == kind_place a) ≡ b → filter (has_kind (k ∷ ks)) (a ∷ rest) ≡ k ∷ ks
    by true is =
        let same = one_kind k a is in
        subst (λ z. filter (has_kind (z ∷ ks)) (a ∷ rest) ≡ z ∷ ks) (sym same)
        (kept_first a rest up ih ks (subst (λ z. Up (z ∷ ks)) same rise) (subst (λ z. Among (a ∷ rest) (z ∷ ks)) same among))
    by false is = kept_later a rest up ih k ks is rise among

-- kinds in order are what is left of all of them
kept : (all kinds : List Kind) → Up all → Up kinds → Among all kinds → filter (has_kind kinds) all ≡ kinds
unfolding Up Among has_kind
kept [] [] up rise among = refl
kept [] (k ∷ ks) up rise among = absurd (false≢true among.0)
kept (a ∷ rest) [] up rise among = kept rest [] up.1 tt tt
kept (a ∷ rest) (k ∷ ks) up rise among = kept_by a rest k ks up.0 (λ kinds. kept rest kinds up.1) rise among

-- so kinds in order are a set
each_kind : (kinds : List Kind) → Among all_kinds kinds
unfolding Among
each_kind [] = tt
each_kind (k ∷ ks) = (has_all k, each_kind ks)

set_of-rising : (kinds : List Kind) → are_kinds kinds ≡ true → set_of kinds ≡ kinds
unfolding set_of
set_of-rising kinds are =
    kept all_kinds kinds (up_from all_kinds all_up) (up_from kinds (and_parts (nat_lt 0 (length kinds)) (rises (on kind_place nat_cmp) kinds) are).1) (each_kind kinds)

-- kinds that are put in one after the other
put_in : List Kind → List Kind → List Kind
put_in before [] = before
put_in before (k ∷ ks) = put_in (k ∷ before) ks

has_none : (asked : Kind) → has_kind [] asked ≡ false
unfolding has_kind
has_none asked = refl

or_swap : (a b c : Bool) → (a || (b || c)) ≡ ((b || a) || c)
or_swap true true c = refl
or_swap true false c = refl
or_swap false true c = refl
or_swap false false c = refl

has_put_in : (before kinds : List Kind) (asked : Kind) → has_kind (put_in before kinds) asked ≡ has_kind kinds asked || has_kind before asked
unfolding put_in
has_put_in before [] asked = ap (λ b. b || has_kind before asked) (sym (has_none asked))
has_put_in before (k ∷ ks) asked =
    has_put_in (k ∷ before) ks asked
    ∙ ap (λ b. has_kind ks asked || b) (has_more before k asked)
    ∙ or_swap (has_kind ks asked) (same_kind asked k) (has_kind before asked)
    ∙ ap (λ b. b || has_kind before asked) (sym (has_more ks k asked))

one_more : (before : List Kind) (kind : Kind) → set_of (kind ∷ set_of before) ≡ set_of (kind ∷ before)
unfolding set_of
one_more before kind =
    same_filter _ _ (λ asked. has_more (set_of before) kind asked ∙ ap (λ b. same_kind asked kind || b) (has_kind-set_of before asked) ∙ sym (has_more before kind asked))

read_back : (before kinds : List Kind) → kinds_with (set_of before) (map kind_code kinds) ≡ Some (set_of (put_in before kinds))
unfolding put_in
read_back before [] = refl
read_back before (k ∷ ks) =
    ap (option_and_then (λ kind. kinds_with (set_of (kind ∷ set_of before)) (map kind_code ks))) (kind_of-kind_code k)
    ∙ ap (λ (set : List Kind). kinds_with set (map kind_code ks)) (one_more before k)
    ∙ read_back (k ∷ before) ks

or-no : (b : Bool) → (b || false) ≡ b
or-no true = refl
or-no false = refl

put_in-set : (kinds : List Kind) → set_of (put_in [] kinds) ≡ set_of kinds
unfolding set_of
put_in-set kinds =
    same_filter _ _ (λ asked. has_put_in [] kinds asked ∙ ap (λ b. has_kind kinds asked || b) (has_none asked) ∙ or-no (has_kind kinds asked))

-- the codes of kinds have no comma
kind_is_code : (kind : Kind) → code_of (kind_code kind) ≡ Ok (kind_code kind)
unfolding code_of kind_code
kind_is_code LargeHousehold = refl
kind_is_code SmallHousehold = refl
kind_is_code Telecommunications = refl
kind_is_code Consumer = refl
kind_is_code Lighting = refl
kind_is_code Tool = refl
kind_is_code ToyLeisureSports = refl
kind_is_code Toy = refl
kind_is_code MedicalDevice = refl
kind_is_code InVitroDiagnostic = refl
kind_is_code ControlInstrument = refl
kind_is_code IndustrialInstrument = refl
kind_is_code Dispenser = refl
kind_is_code Other = refl

codes_lack : (kinds : List Kind) → AllByRecursion (Lacks 44) (map kind_code kinds)
codes_lack [] = tt
codes_lack (k ∷ ks) = (lacks_in_code 44 refl (kind_code k) (kind_is_code k), codes_lack ks)

split_codes : (kinds : List Kind) → 0 < length kinds → slice_split (λ b. b == 44) (kinds_text kinds) ≡ map kind_code kinds
unfolding kinds_text
split_codes [] some = absurd (omega (arith, some))
split_codes (k ∷ ks) some = split-joined 44 (kind_code k) (map kind_code ks) (codes_lack (k ∷ ks))

pub kinds_form : IsForm kinds_of_text kinds_text (λ kinds. are_kinds kinds ≡ true)
unfolding kinds_of_text
kinds_form = record { back = back; exact = exact; field = λ kinds are. kinds_told.field kinds (some kinds are) }
  where
    some : (kinds : List Kind) → are_kinds kinds ≡ true → 0 < length kinds
    some kinds are = ltb-true 0 (length kinds) (and_parts (nat_lt 0 (length kinds)) (rises (on kind_place nat_cmp) kinds) are).0

    back : (kinds : List Kind) → are_kinds kinds ≡ true → kinds_of_text (kinds_text kinds) ≡ Some kinds
    back kinds are =
        let read : kinds_with [] (map kind_code kinds) ≡ Some kinds =
        ap (λ (set : List Kind). kinds_with set (map kind_code kinds)) (sym set_of-none) ∙ read_back [] kinds ∙ ap (λ (set : List Kind). Some set) (put_in-set kinds ∙ set_of-rising kinds are) in
        let same : bytes_eq (kinds_text kinds) (kinds_text kinds) ≡ true = (bytes_eq-Decides (kinds_text kinds) (kinds_text kinds)).1 refl in
        rw (split_codes kinds (some kinds are), read, are, same) refl

    by : (field : List ℕ) (kinds : List Kind) (o : Option (List Kind)) → option_and_then (λ ks. cond (are_kinds ks && bytes_eq (kinds_text ks) field) (Some ks) None) o ≡ Some kinds
        → (are_kinds kinds ≡ true) × (kinds_text kinds ≡ field)
    by field kinds None e = cc
    by field kinds (Some ks) e =
        let passed = cond_some (are_kinds ks && bytes_eq (kinds_text ks) field) ks kinds e in
        let parts = and_parts (are_kinds ks) (bytes_eq (kinds_text ks) field) passed.0 in
        subst (λ (set : List Kind). (are_kinds set ≡ true) × (kinds_text set ≡ field)) passed.1 (parts.0, (bytes_eq-Decides (kinds_text ks) field).0 parts.1)

    exact : (field : List ℕ) (kinds : List Kind) → kinds_of_text field ≡ Some kinds → (are_kinds kinds ≡ true) × (kinds_text kinds ≡ field)
    exact field kinds e = by field kinds (kinds_with [] (slice_split (λ b. b == 44) field)) e
