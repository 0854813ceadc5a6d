-- From which day on a rule restricts a kind of equipment.
use Rattle.std.specs.Prelude.{ℕ, Bool, false, ◌&&◌, List, [], ◌∷◌, ◌++◌, Option, None, Some, find}
use Rattle.std.specs.List.{list_any}
use Rattle.desk_text.specs.Day.{Date, first_askable, is_not_after}
use Rattle.desk_law.specs.declared.kind.Kind.{Kind}
use Rattle.desk_law.specs.declared.kind.Kind.TheVariants.{LargeHousehold, SmallHousehold, Telecommunications, Consumer}
use Rattle.desk_law.specs.declared.kind.Kind.TheVariants.{Lighting, Tool, ToyLeisureSports, Toy, MedicalDevice}
use Rattle.desk_law.specs.declared.kind.Kind.TheVariants.{InVitroDiagnostic, ControlInstrument, IndustrialInstrument}
use Rattle.desk_law.specs.declared.kind.Kind.TheVariants.{Dispenser, Other}
use Rattle.desk_law.specs.declared.rule.Rule.{Rule}
use Rattle.desk_law.specs.declared.rule.Rule.TheVariants.{Lead, Mercury, Cadmium, ChromiumVi, Pbb, Pbde, Dehp, Bbp, Dbp, Dibp}
use Rattle.desk_law.specs.Kind.{same_kind}
use Rattle.desk_law.specs.Rule.{same_rule}

-- 22 July of a year, the day on which each stage of the Directive began
abbrev pub july_22 : ℕ → Date
july_22 year = record { year = year; month = 7; day = 22 }

-- a row of the table of first days: these rules are in force for these kinds from a day on, or never
pub record FirstDayRow : Type 0 where
  pub rules : List Rule
  pub kinds : List Kind
  pub first : Option Date

-- the row of the table of first days that has these parts
abbrev pub first_day_row : List Rule → List Kind → Option Date → FirstDayRow
first_day_row rules kinds first = record { rules = rules; kinds = kinds; first = first }

-- the substances of Annex II to Directive 2011/65/EU as adopted
abbrev pub first_six : List Rule
first_six = Lead ∷ Mercury ∷ Cadmium ∷ ChromiumVi ∷ Pbb ∷ Pbde ∷ []

-- the phthalates that entry 51 of Annex XVII to Regulation (EC) 1907/2006 restricts in toys
abbrev pub entry_51 : List Rule
entry_51 = Dehp ∷ Bbp ∷ Dbp ∷ []

-- the phthalates that Delegated Directive (EU) 2015/863 added to Annex II
abbrev pub phthalates : List Rule
phthalates = entry_51 ++ Dibp ∷ []

-- categories 1 to 7, without the toys under entry 51
abbrev pub categories_1_to_7 : List Kind
categories_1_to_7 =
    LargeHousehold ∷ SmallHousehold ∷ Telecommunications ∷ Consumer ∷ Lighting ∷ Tool ∷ ToyLeisureSports ∷ []

-- the first days. Where Directive 2002/95/EC had a rule in force before, the first askable day stands.
-- Article 4(3) is that of Directive 2011/65/EU as amended by Directive (EU) 2017/2102, Annex II is that of Delegated
-- Directive (EU) 2015/863; the split of categories 8 and 9 and the rows on toys are this project's reading of them
abbrev pub first_days : List FirstDayRow
first_days =
    -- Article 4(1): the categories of Directive 2002/95/EC
    first_day_row first_six (categories_1_to_7 ++ Toy ∷ Dispenser ∷ []) (Some first_askable)
    -- Article 4(3): medical devices, monitoring and control instruments
    ∷ first_day_row first_six (MedicalDevice ∷ ControlInstrument ∷ []) (Some (july_22 2014))
    -- Article 4(3): in vitro diagnostic medical devices
    ∷ first_day_row first_six (InVitroDiagnostic ∷ []) (Some (july_22 2016))
    -- Article 4(3): industrial monitoring and control instruments
    ∷ first_day_row first_six (IndustrialInstrument ∷ []) (Some (july_22 2017))
    -- Article 4(3): all other equipment
    ∷ first_day_row first_six (Other ∷ []) (Some (july_22 2019))
    -- Directive (EU) 2015/863, Article 2(1)
    ∷ first_day_row phthalates (categories_1_to_7 ++ Dispenser ∷ Other ∷ []) (Some (july_22 2019))
    -- Annex II: medical devices and monitoring and control instruments, with their narrower kinds
    ∷ first_day_row phthalates (MedicalDevice ∷ InVitroDiagnostic ∷ ControlInstrument ∷ IndustrialInstrument ∷ []) (Some (july_22 2021))
    -- Annex II: toys that entry 51 restricts already
    ∷ first_day_row entry_51 (Toy ∷ []) None
    -- Directive (EU) 2015/863, Article 2(1): entry 51 does not name this phthalate
    ∷ first_day_row (Dibp ∷ []) (Toy ∷ []) (Some (july_22 2019))
    ∷ []

-- the row of the table of first days speaks of the rule and the kind
abbrev pub speaks_of : Rule → Kind → FirstDayRow → Bool
speaks_of rule kind row = list_any (same_rule rule) row.rules && list_any (same_kind kind) row.kinds

-- the first day that a row of the table names, where there is a row and it names one
abbrev pub first_in : Option FirstDayRow → Option Date
first_in None = None
first_in (Some row) = row.first

-- the first askable day on which the rule is in force for the kind, or none where it never is
unfoldable pub first_day : Rule → Kind → Option Date
first_day rule kind = first_in (find (speaks_of rule kind) first_days)

-- what is in force from this first day on is in force on the day; where there is no first day, it never is
abbrev pub in_force_from : Option Date → Date → Bool
in_force_from None day = false
in_force_from (Some first) day = is_not_after first day

-- whether the rule is in force for the kind on an askable day
unfoldable pub is_in_force : Rule → Kind → Date → Bool
is_in_force rule kind day = in_force_from (first_day rule kind) day
