-- The derived orders of kinds, rules and claims.
use Rattle.std.proofs.Common.{◌≡◌, refl, ap}
use Rattle.std.specs.Ordering.{ordering_then}
use Rattle.desk_text.specs.Code.{code_cmp}
use Rattle.desk_law.specs.contracts.claim.ClaimOrd.TheImpl as claims
use Rattle.desk_law.specs.contracts.kind.KindOrd.TheImpl as kinds
use Rattle.desk_law.specs.contracts.rule.RuleOrd.TheImpl as rules
use Rattle.desk_law.specs.declared.claim.Claim.{Claim}
use Rattle.desk_law.specs.declared.kind.Kind.{Kind}
use Rattle.desk_law.specs.declared.kind.Kind.TheVariants.{LargeHousehold, SmallHousehold, Telecommunications, Consumer, Lighting, Tool, ToyLeisureSports, Toy, MedicalDevice, InVitroDiagnostic, ControlInstrument, IndustrialInstrument, Dispenser, Other}
use Rattle.desk_law.specs.declared.rule.Rule.{Rule}
use Rattle.desk_law.specs.declared.rule.Rule.TheVariants.{Lead, Mercury, Cadmium, ChromiumVi, Pbb, Pbde, Dehp, Bbp, Dbp, Dibp}
use Rattle.desk_law.specs.Claim.{claim_cmp}
use Rattle.desk_law.specs.Kind.{kind_cmp, kind_place}
use Rattle.desk_law.specs.Rule.{rule_cmp, rule_number}

kind_order : (a b : Kind) → kinds.cmp-value.it a b ≡ kind_cmp a b
unfolding kind_place
kind_order LargeHousehold LargeHousehold = refl
kind_order LargeHousehold _ = refl
kind_order SmallHousehold LargeHousehold = refl
kind_order SmallHousehold _ = refl
kind_order Telecommunications LargeHousehold = refl
kind_order Telecommunications _ = refl
kind_order Consumer LargeHousehold = refl
kind_order Consumer _ = refl
kind_order Lighting LargeHousehold = refl
kind_order Lighting _ = refl
kind_order Tool LargeHousehold = refl
kind_order Tool _ = refl
kind_order ToyLeisureSports LargeHousehold = refl
kind_order ToyLeisureSports _ = refl
kind_order Toy LargeHousehold = refl
kind_order Toy _ = refl
kind_order MedicalDevice LargeHousehold = refl
kind_order MedicalDevice _ = refl
kind_order InVitroDiagnostic LargeHousehold = refl
kind_order InVitroDiagnostic _ = refl
kind_order ControlInstrument LargeHousehold = refl
kind_order ControlInstrument _ = refl
kind_order IndustrialInstrument LargeHousehold = refl
kind_order IndustrialInstrument _ = refl
kind_order Dispenser LargeHousehold = refl
kind_order Dispenser _ = refl
kind_order Other LargeHousehold = refl
kind_order Other _ = refl

pub kinds_in_order : kinds.cmp-value.it ≡ kind_cmp
kinds_in_order = λ i a b. kind_order a b i

rule_order : (a b : Rule) → rules.cmp-value.it a b ≡ rule_cmp a b
unfolding rule_number
rule_order Lead Lead = refl
rule_order Lead _ = refl
rule_order Mercury Lead = refl
rule_order Mercury _ = refl
rule_order Cadmium Lead = refl
rule_order Cadmium _ = refl
rule_order ChromiumVi Lead = refl
rule_order ChromiumVi _ = refl
rule_order Pbb Lead = refl
rule_order Pbb _ = refl
rule_order Pbde Lead = refl
rule_order Pbde _ = refl
rule_order Dehp Lead = refl
rule_order Dehp _ = refl
rule_order Bbp Lead = refl
rule_order Bbp _ = refl
rule_order Dbp Lead = refl
rule_order Dbp _ = refl
rule_order Dibp Lead = refl
rule_order Dibp _ = refl

pub rules_in_order : rules.cmp-value.it ≡ rule_cmp
rules_in_order = λ i a b. rule_order a b i

claim_order : (a b : Claim) → claims.cmp-value.it a b ≡ claim_cmp a b
claim_order a b = ap (λ o. ordering_then o (code_cmp a.number b.number)) (rule_order a.rule b.rule)

pub claims_in_order : claims.cmp-value.it ≡ claim_cmp
claims_in_order = λ i a b. claim_order a b i
