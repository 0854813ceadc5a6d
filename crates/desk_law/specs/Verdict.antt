-- The verdict on a material for a rule, a kind of equipment and a day: Article 4(1), 4(3) and 4(6) of Directive 2011/65/EU.
use Rattle.std.specs.Prelude.{◌≡◌, ℕ, ◌<◌, Bool, length, true, false, not, List, Option, None, Some, position, if◌then◌else◌, ⊤}
use Rattle.std.specs.List.{All, HoldsAt}
use Rattle.std.specs.Ordering.{is_lt}
use Rattle.desk_text.specs.Code.{code_cmp}
use Rattle.desk_text.specs.Day.{Date}
use Rattle.desk_law.specs.declared.claim.Claim.{Claim}
use Rattle.desk_law.specs.declared.kind.Kind.{Kind}
use Rattle.desk_law.specs.declared.restriction.Restriction.{Restriction}
use Rattle.desk_law.specs.declared.rule.Rule.{Rule}
use Rattle.desk_law.specs.declared.terms.Terms.{Terms}
use Rattle.desk_law.specs.declared.verdict.Verdict.{Verdict}
use Rattle.desk_law.specs.declared.verdict.Verdict.TheVariants.{Within, NotInForce, Exempt, Breach}
use Rattle.desk_law.specs.Exemption.{covers}
use Rattle.desk_law.specs.InForce.{in_force_from}
use Rattle.desk_law.specs.Limit.{is_over}
use Rattle.desk_law.specs.Restriction.{restriction_of}

-- the place of the first exemption row that covers: where the rows stand in order of code, the one with the least code
abbrev pub covering_place : List Terms → List Claim → Rule → Kind → Date → ℕ → ℕ → Option ℕ
covering_place rows claims rule kind day share mass = position (λ row. covers row claims rule kind day share mass) rows

-- the verdict where the share is over a limit in force: exempt by the row at the place, or a breach where there is none
abbrev pub exempt_or_breach : Option ℕ → Verdict
exempt_or_breach None = Breach
exempt_or_breach (Some place) = Exempt place

-- the verdict by a restriction: the first that applies of within, not in force, exempt and breach
unfoldable pub verdict_by : ℕ → ℕ → List Claim → Restriction → Date → List Terms → Verdict
verdict_by share mass claims by day rows =
    if not (is_over share mass by.ppm) then Within
    else (if not (in_force_from by.first day) then NotInForce
    else exempt_or_breach (covering_place rows claims by.rule by.kind day share mass))

-- the verdict for a rule and a kind, by the restriction that the law has for them
unfoldable pub verdict : ℕ → ℕ → List Claim → Rule → Kind → Date → List Terms → Verdict
verdict share mass claims rule kind day rows = verdict_by share mass claims (restriction_of rule kind) day rows

-- of the rows that pass a test the named one has the least code: it passes, and none that passes has a lesser code
abbrev pub IsLeast : (Terms → Bool) → List Terms → Terms → Type 0
IsLeast passes rows named =
    (passes named ≡ true) × All (λ row. passes row ≡ true → is_lt (code_cmp row.row named.row) ≡ false) rows

-- a verdict of exempt names the row with the least code of all rows that pass a test
abbrev pub NamesLeast : (Terms → Bool) → List Terms → Verdict → Type 0
NamesLeast passes rows (Exempt place) = (place < length rows) × HoldsAt (IsLeast passes rows) rows place
NamesLeast passes rows Within = ⊤
NamesLeast passes rows NotInForce = ⊤
NamesLeast passes rows Breach = ⊤
