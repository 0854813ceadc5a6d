-- The codes of kinds and rules name each of them once.
use Rattle.std.proofs.Common.{◌≡◌, ℕ, Bool, true, false, cond, List, [], ◌∷◌, Option, Some, refl}
use Rattle.std.specs.Prelude.{find}
use Rattle.std.specs.Str.{bytes_eq}
use Rattle.std.proofs.lemmas.Slice.Eq.{bytes_eq-Decides}
use Rattle.desk_law.specs.declared.kind.Kind.{Kind}
use Rattle.desk_law.specs.declared.kind.Kind.TheVariants.{LargeHousehold, SmallHousehold, Telecommunications, Consumer, Lighting, Tool, ToyLeisureSports, Toy, MedicalDevice, InVitroDiagnostic, ControlInstrument, IndustrialInstrument, Dispenser, Other}
use Rattle.desk_law.specs.declared.rule.Rule.{Rule}
use Rattle.desk_law.specs.declared.rule.Rule.TheVariants.{Lead, Mercury, Cadmium, ChromiumVi, Pbb, Pbde, Dehp, Bbp, Dbp, Dibp}
use Rattle.desk_law.specs.Kind.{all_kinds, kind_code, kind_of}
use Rattle.desk_law.specs.Rule.{all_rules, rule_code, rule_of}

passes_here : {A : Type 0} (p : A → Bool) (y x : A) (b : Bool) (rest : Option A) → p y ≡ b → (rest ≡ Some x → p x ≡ true) → cond b (Some y) rest ≡ Some x → p x ≡ true
passes_here p y x true rest is later h = cc
passes_here p y x false rest is later h = later h

-- what a search finds passes the test
find_passes : {A : Type 0} (p : A → Bool) (xs : List A) (x : A) → find p xs ≡ Some x → p x ≡ true
find_passes p [] x h = cc
find_passes p (y ∷ ys) x h = passes_here p y x (p y) (find p ys) refl (find_passes p ys x) h

-- a kind's code, read, gives the kind
pub kind_of-kind_code : (kind : Kind) → kind_of (kind_code kind) ≡ Some kind
unfolding kind_of kind_code
kind_of-kind_code LargeHousehold = refl
kind_of-kind_code SmallHousehold = refl
kind_of-kind_code Telecommunications = refl
kind_of-kind_code Consumer = refl
kind_of-kind_code Lighting = refl
kind_of-kind_code Tool = refl
kind_of-kind_code ToyLeisureSports = refl
kind_of-kind_code Toy = refl
kind_of-kind_code MedicalDevice = refl
kind_of-kind_code InVitroDiagnostic = refl
kind_of-kind_code ControlInstrument = refl
kind_of-kind_code IndustrialInstrument = refl
kind_of-kind_code Dispenser = refl
kind_of-kind_code Other = refl

-- a rule's code, read, gives the rule
pub rule_of-rule_code : (rule : Rule) → rule_of (rule_code rule) ≡ Some rule
unfolding rule_of rule_code
rule_of-rule_code Lead = refl
rule_of-rule_code Mercury = refl
rule_of-rule_code Cadmium = refl
rule_of-rule_code ChromiumVi = refl
rule_of-rule_code Pbb = refl
rule_of-rule_code Pbde = refl
rule_of-rule_code Dehp = refl
rule_of-rule_code Bbp = refl
rule_of-rule_code Dbp = refl
rule_of-rule_code Dibp = refl

-- a kind that was read has that code
pub kind_is_spelled : (code : List ℕ) (kind : Kind) → kind_of code ≡ Some kind → kind_code kind ≡ code
unfolding kind_of
kind_is_spelled code kind h =
    (bytes_eq-Decides (kind_code kind) code).0 (find_passes (λ k. bytes_eq (kind_code k) code) all_kinds kind h)

-- a rule that was read has that code
pub rule_is_spelled : (code : List ℕ) (rule : Rule) → rule_of code ≡ Some rule → rule_code rule ≡ code
unfolding rule_of
rule_is_spelled code rule h =
    (bytes_eq-Decides (rule_code rule) code).0 (find_passes (λ r. bytes_eq (rule_code r) code) all_rules rule h)
