-- The kinds of an array are a set in the order of Annex I, and not empty.
use Rattle.std.proofs.Common.{◌≡◌, ◌&&◌, Bool, true, false, cond, List, [], ◌∷◌, length, Option, None, Some, Ok, option_and_then, refl, sym, ap, ◌∙◌, true≢false, arith}
use Rattle.std.specs.Prelude.{nat_lt}
use Rattle.std.specs.Option.{ok_or}
use Rattle.std.proofs.lemmas.Bool.{false≢true}
use Rattle.std.proofs.lemmas.Bool.Decides.{nat_tests}
use Rattle.serde_json.specs.Data.{Data}
use Rattle.serde_json.specs.Find.{as_array, get}
use Rattle.desk_law.specs.declared.kind.Kind.{Kind}
use Rattle.desk_law.specs.Kind.{same_kind}
use Rattle.desk_law.specs.KindSet.{has_kind, set_of}
use Rattle.desk_law.proofs.KindMarks.{has_kind-set_of, same_filter}
use Rattle.desk_model.specs.Terms.{are_kinds}
use Rattle.desk_model.proofs.KindOrder.{not_empty-are_kinds}
use Rattle.desk_edits.specs.declared.edit_key.EditKey.{EditKey}
use Rattle.desk_edits.specs.declared.json_fault.JsonFault.TheVariants.{BadValue}
use Rattle.desk_edits.specs.Keys.{key_name}
use Rattle.desk_edits.specs.Shape.{needed}
use Rattle.desk_edits.specs.Values.{are_kinds_distinct, distinct_set, kinds_of, kinds_value}

set_of-set_of : (kinds : List Kind) → set_of kinds ≡ set_of (set_of kinds)
unfolding set_of
set_of-set_of kinds = same_filter _ _ (λ kind. sym (has_kind-set_of kinds kind))

first-there : (kind : Kind) (kinds : List Kind) → has_kind (kind ∷ kinds) kind ≡ true
unfolding has_kind
first-there kind kinds = let same : same_kind kind kind ≡ true = grind (arith, nat_tests) in rw same refl

none-there : (kind : Kind) → has_kind [] kind ≡ false
unfolding has_kind
none-there kind = refl

set_of-some : (kind : Kind) (kinds : List Kind) → set_of (kind ∷ kinds) ≡ [] → ⊥
set_of-some kind kinds e =
    true≢false (sym (first-there kind kinds) ∙ sym (has_kind-set_of (kind ∷ kinds) kind) ∙ ap (λ (ks : List Kind). has_kind ks kind) e ∙ none-there kind)

set-are_kinds : (kind : Kind) (kinds : List Kind) → are_kinds (set_of (kind ∷ kinds)) ≡ true
set-are_kinds kind kinds =
    sym (not_empty-are_kinds (set_of (kind ∷ kinds)) false ((λ t. absurd (false≢true t)), λ e. absurd (set_of-some kind kinds e)) (set_of-set_of (kind ∷ kinds)))

some-same : (a b : List Kind) → Some a ≡ Some b → a ≡ b
some-same a b e = cc

none-some : (P : Type 0) (b : List Kind) → None ≡ Some b → P
none-some P b e = cc

distinct-are_kinds : (kinds set : List Kind) → distinct_set kinds ≡ Some set → are_kinds set ≡ true
distinct-are_kinds [] set e = none-some _ set e
distinct-are_kinds (kind ∷ kinds) set e = by (nat_lt 0 (length (kind ∷ kinds)) && are_kinds_distinct (kind ∷ kinds)) e
  where
    by : (b : Bool) → cond b (Some (set_of (kind ∷ kinds))) None ≡ Some set → are_kinds set ≡ true
    by true e = rw (← some-same _ set e) (set-are_kinds kind kinds)
    by false e = none-some _ set e

some_kinds-are_kinds : (d : Data) (set : List Kind) → kinds_value d ≡ Some set → are_kinds set ≡ true
unfolding kinds_value
some_kinds-are_kinds d set e = by (option_and_then kinds_of (as_array d)) e
  where
    by : (o : Option (List Kind)) → option_and_then distinct_set o ≡ Some set → are_kinds set ≡ true
    by None e = none-some _ set e
    by (Some kinds) e = distinct-are_kinds kinds set e

-- what a key's value is read as
pub needed_are_kinds : (key : EditKey) (d : Data) (set : List Kind) → needed kinds_value key d ≡ Ok set → are_kinds set ≡ true
unfolding needed
needed_are_kinds key d set e = by (get (key_name key) d) e
  where
    of : (o : Option (List Kind)) → ok_or o (BadValue key) ≡ Ok set → o ≡ Some set
    of None e = cc
    of (Some kinds) e = cc

    by : (o : Option Data) → ok_or (option_and_then kinds_value o) (BadValue key) ≡ Ok set → are_kinds set ≡ true
    by None e = none-some _ set (of None e)
    by (Some value) e = some_kinds-are_kinds value set (of (kinds_value value) e)
