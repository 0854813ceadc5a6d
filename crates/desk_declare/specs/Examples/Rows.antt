-- Rows beside the declarations that they spell, and beside their first faults.
use Rattle.std.specs.Prelude.{◌≡◌, ℕ, zero, suc, ◌+◌, List, [], ◌∷◌, ◌++◌, codes, decimal, map, Ok, Err}
use Rattle.desk_law.specs.declared.claim.Claim.{Claim}
use Rattle.desk_law.specs.declared.rule.Rule.TheVariants.{Lead}
use Rattle.desk_model.specs.Declaration.{Declared}
use Rattle.desk_model.specs.Declaring.{declaration_start}
use Rattle.desk_model.specs.declared.edit.Edit.TheVariants.{Declare}
use Rattle.desk_model.specs.declared.material_decl.MaterialDecl.{MaterialDecl}
use Rattle.desk_model.specs.declared.substance_mass.SubstanceMass.{SubstanceMass}
use Rattle.desk_declare.specs.Declaration.{begun_by, declaration_in, declaration_of, extended_by, head_of, row_added}
use Rattle.desk_declare.specs.Faults.{declare_fault_words}
use Rattle.desk_declare.specs.Rows.{Row}
use Rattle.desk_declare.specs.declared.declare_fault.DeclareFault.TheVariants as fault

-- a head, and rows under it
abbrev pub head : Row
head = map codes ("D" ∷ "1" ∷ "ACME" ∷ "7" ∷ "2024-01-23" ∷ [])

abbrev pub lead : Row
lead = map codes ("S" ∷ "A" ∷ "lead" ∷ "4" ∷ [])

abbrev pub claim : Row
claim = map codes ("E" ∷ "A" ∷ "lead" ∷ "6(c)" ∷ [])

-- a declaration of brass, with these substances and claims
abbrev pub brass_with : List SubstanceMass → List Claim → Declared
brass_with substances claims = record (declaration_start (codes "ACME") 7 (record { year = 2024; month = 1; day = 23 })) {
  materials = record { code = codes "A"; name = codes "Brass"; mass = 9; substances = substances; claims = claims } ∷ [];
}

-- so much of a substance
abbrev pub some : List ℕ → ℕ → SubstanceMass
some substance mass = record { substance = substance; mass = mass }

-- the claim of an exemption for lead
abbrev pub for_lead : List ℕ → Claim
for_lead number = record { rule = Lead; number = number }

-- so many numbers from one on
abbrev pub numbers : ℕ → ℕ → List ℕ
numbers zero first = []
numbers (suc n) first = first ∷ numbers n (first + 1)

-- as many substances, claims and materials as there may be
abbrev pub most_substances : List SubstanceMass
most_substances = map (λ n. some (codes "s" ++ decimal n) 0) (numbers 64 10)

abbrev pub most_claims : List Claim
most_claims = map (λ n. for_lead (decimal n)) (numbers 16 10)

abbrev pub most_materials : List MaterialDecl
most_materials = map (λ n. record { code = codes "m" ++ decimal n; name = codes "Brass"; mass = 9; substances = []; claims = [] }) (numbers 256 100)

-- what rows begin and add: substances stand in order of code, whatever the order of their rows
pub record ReadExamples : Type 0 where
  pub the_head : begun_by head ≡ Ok (declaration_start (codes "ACME") 7 (record { year = 2024; month = 1; day = 23 }))
  -- a declaration's number goes up to 2^64 - 1
  pub the_greatest_number : begun_by (map codes ("D" ∷ "1" ∷ "ACME" ∷ "18446744073709551615" ∷ "2024-01-23" ∷ []))
      ≡ Ok (declaration_start (codes "ACME") 18446744073709551615 (record { year = 2024; month = 1; day = 23 }))
  pub a_substance : extended_by 3 lead (brass_with [] []) ≡ Ok (brass_with (some (codes "lead") 4 ∷ []) [])
  pub a_lesser_substance : extended_by 4 (map codes ("S" ∷ "A" ∷ "cadmium" ∷ "0" ∷ [])) (brass_with (some (codes "lead") 4 ∷ []) [])
      ≡ Ok (brass_with (some (codes "cadmium") 0 ∷ some (codes "lead") 4 ∷ []) [])
  pub a_claim : extended_by 3 claim (brass_with [] (for_lead (codes "6(a)") ∷ [])) ≡ Ok (brass_with [] (for_lead (codes "6(a)") ∷ for_lead (codes "6(c)") ∷ []))

-- the first fault of a row
pub record FaultExamples : Type 0 where
  pub nothing : declaration_in [] ≡ Err fault.NoHead
  pub no_head : begun_by lead ≡ Err fault.NoHead
  pub other_version : begun_by (map codes ("D" ∷ "2" ∷ [])) ≡ Err fault.NoHead
  pub cut_head : begun_by (map codes ("D" ∷ "1" ∷ "ACME" ∷ "7" ∷ [])) ≡ Err (fault.BadField 1 5)
  pub long_head : begun_by (head ++ codes "x" ∷ []) ≡ Err (fault.BadField 1 6)
  pub second_head : extended_by 3 head (brass_with [] []) ≡ Err (fault.BadField 3 1)
  pub bad_code : extended_by 3 (map codes ("M" ∷ "A B" ∷ "" ∷ "0" ∷ [])) (brass_with [] []) ≡ Err (fault.BadField 3 2)
  pub bad_mass : extended_by 3 (map codes ("S" ∷ "A" ∷ "lead" ∷ "01" ∷ [])) (brass_with [] []) ≡ Err (fault.BadField 3 4)
  pub first_of_two : extended_by 3 (map codes ("E" ∷ "A" ∷ "tin" ∷ "6 c" ∷ [])) (brass_with [] []) ≡ Err (fault.BadField 3 3)
  pub column_missing : extended_by 3 (map codes ("S" ∷ "B" ∷ "lead" ∷ [])) (brass_with [] []) ≡ Err (fault.BadField 3 4)
  pub column_too_many : extended_by 3 (lead ++ codes "" ∷ []) (brass_with [] []) ≡ Err (fault.BadField 3 5)
  pub orphan : extended_by 3 (map codes ("S" ∷ "B" ∷ "lead" ∷ "4" ∷ [])) (brass_with [] []) ≡ Err (fault.OrphanRow 3)
  pub repeated_substance : extended_by 4 lead (brass_with (some (codes "lead") 1 ∷ []) []) ≡ Err (fault.RepeatedRow 4)
  pub repeated_claim : extended_by 4 claim (brass_with [] (for_lead (codes "6(c)") ∷ [])) ≡ Err (fault.RepeatedRow 4)
  -- that a field is no text is told before all else of its record
  pub head_no_text : head_of (head ++ (255 ∷ []) ∷ []) ≡ Err (fault.NotText 1)
  pub row_no_text : row_added 3 (codes "X" ∷ (255 ∷ []) ∷ []) (brass_with [] []) ≡ Err (fault.NotText 3)
  pub repeated_material : extended_by 3 (map codes ("M" ∷ "A" ∷ "Tin" ∷ "1" ∷ [])) (brass_with [] []) ≡ Err (fault.RepeatedMaterial 3)
  pub many_materials : extended_by 258 (map codes ("M" ∷ "A" ∷ "Tin" ∷ "1" ∷ [])) (record (brass_with [] []) { materials = most_materials })
      ≡ Err (fault.TooManyRows 258)
  pub many_substances : extended_by 67 lead (brass_with most_substances []) ≡ Err (fault.TooManyRows 67)
  pub many_claims : extended_by 19 claim (brass_with [] most_claims) ≡ Err (fault.TooManyRows 19)
  -- one that repeats another is told as that, also where there are as many as there may be
  pub one_of_many : extended_by 67 (map codes ("S" ∷ "A" ∷ "s10" ∷ "4" ∷ [])) (brass_with most_substances []) ≡ Err (fault.RepeatedRow 67)
  pub words : declare_fault_words (fault.BadField 2 4) ≡ codes "bad-field record 2 column 4"

-- bytes beside the declaration that they spell, and beside their first fault
pub record ByteExamples : Type 0 where
  pub whole : declaration_of (codes "D,1,ACME,7,2024-01-23\nM,SOLDER,\"Solder paste\",1000000\nS,SOLDER,lead,1000\nE,SOLDER,lead,6(c)\n")
      ≡ Ok (Declare (record {
        supplier = codes "ACME";
        number = 7;
        day = record { year = 2024; month = 1; day = 23 };
        materials = record {
          code = codes "SOLDER";
          name = codes "Solder paste";
          mass = 1000000;
          substances = some (codes "lead") 1000 ∷ [];
          claims = for_lead (codes "6(c)") ∷ [];
        } ∷ [];
      }))
  -- a byte-order mark is no part of the rows, and neither are empty lines
  pub marked : declaration_of (239 ∷ 187 ∷ 191 ∷ codes "\nD,1,ACME,7,2024-01-23\r\n\r\nM,A,Brass,9") ≡ Ok (Declare (brass_with [] []))
  pub first_record_decides : declaration_of (codes "D,1,ACME,7,2024-01-23\nS,A,lead,4\nX\n") ≡ Err (fault.OrphanRow 2)
