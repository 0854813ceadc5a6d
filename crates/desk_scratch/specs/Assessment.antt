-- What materials are judged by, and what of a material its lines tell.
use Rattle.std.specs.Prelude.{ℕ, List}
use Rattle.desk_text.specs.Day.{Date}
use Rattle.desk_law.specs.declared.claim.Claim.{Claim}
use Rattle.desk_law.specs.declared.kind.Kind.{Kind}
use Rattle.desk_model.specs.declared.rows.material.MaterialRow.{MaterialRow}
use Rattle.desk_model.specs.declared.substance_mass.SubstanceMass.{SubstanceMass}
use Rattle.desk_model.specs.Lists.{Lists}

-- the tables, the kind of equipment, and the day on which it is placed on the market
pub record Assessed : Type 0 where
  pub lists : Lists
  pub kind : Kind
  pub day : Date

-- a material without its name and the day of its declaration
pub record Facts : Type 0 where
  pub code : List ℕ
  pub supplier : List ℕ
  pub number : ℕ
  pub mass : ℕ
  pub substances : List SubstanceMass
  pub claims : List Claim

-- what a row says of its material
abbrev pub facts_of : MaterialRow → Facts
facts_of material = record {
  code = material.code;
  supplier = material.supplier;
  number = material.number;
  mass = material.mass;
  substances = material.substances;
  claims = material.claims;
}
