-- How an edit is read from its fields. No clause of a public call speaks of these words.
use Rattle.std.specs.Prelude.{ℕ, ◌^◌, ◌-◌, List, codes, drop, Option, option_and_then}
use Rattle.std.specs.Option.{unwrap_or}
use Rattle.std.specs.Ordering.{on}
use Rattle.std.specs.declared.cmp.Ordering.{Ordering}
use Rattle.desk_text.specs.Code.{code_cmp}
use Rattle.desk_law.specs.declared.claim.Claim.{Claim}
use Rattle.desk_law.specs.Claim.{claim_cmp}
use Rattle.desk_law.specs.Kind.{kind_of}
use Rattle.desk_law.specs.Rule.{rule_of}
use Rattle.desk_model.specs.declared.edit.Edit.{Edit}
use Rattle.desk_model.specs.declared.edit.Edit.TheVariants as edit
use Rattle.desk_model.specs.declared.edit_word.EditWord.{EditWord}
use Rattle.desk_model.specs.declared.edit_word.EditWord.TheVariants as word
use Rattle.desk_model.specs.declared.limits.TheConstants.{CLAIM_LIMIT, CONTENT_LIMIT, COUNT_LIMIT, DECLARED_LIMIT, FIRST_SHIPMENT_YEAR}
use Rattle.desk_model.specs.declared.limits.TheConstants.{LAST_SHIPMENT_YEAR, MASS_LIMIT, PPM_LIMIT, UNITS_LIMIT, WHOLE_FACTOR}
use Rattle.desk_model.specs.declared.material_decl.MaterialDecl.{MaterialDecl}
use Rattle.desk_model.specs.declared.rows.exemption.ExemptionRow.{ExemptionRow}
use Rattle.desk_model.specs.declared.substance_mass.SubstanceMass.{SubstanceMass}
use Rattle.desk_model.specs.Declaration.{Declared}
use Rattle.desk_model.specs.EditText.{sort_of}
use Rattle.desk_model.specs.EditWords.{edit_word_of}
use Rattle.desk_text.specs.Forms.{a_cas, a_code, a_day, a_name, a_number, an_exemption_number}
use Rattle.desk_fields.specs.Forms.{annex_of_text, maybe, kinds_of_text}
use Rattle.desk_fields.specs.Reading.{Reader, both, fields_of, five, four, built_of, one, nine, rising, three, two, all_fields}

-- a substance that a material holds
unfoldable pub held_in : Reader SubstanceMass
held_in = built_of (two (λ substance mass. record { substance = substance; mass = mass })) (both (one a_code) (one (a_number 0 MASS_LIMIT)))

-- the order of such substances
abbrev pub held_cmp : SubstanceMass → SubstanceMass → Ordering
held_cmp = on (λ held. held.substance) code_cmp

-- a claim of exemption
unfoldable pub claim_in : Reader Claim
claim_in = built_of (two (λ rule number. record { rule = rule; number = number })) (both (one rule_of) (one an_exemption_number))

-- what a material holds
abbrev pub substances_in : Reader (List SubstanceMass)
substances_in = rising held_cmp CONTENT_LIMIT held_in

-- what is claimed for a material
abbrev pub claims_in : Reader (List Claim)
claims_in = rising claim_cmp CLAIM_LIMIT claim_in

-- a declared material
unfoldable pub material_in : Reader MaterialDecl
material_in =
    built_of (five (λ code name mass held claims. record { code = code; name = name; mass = mass; substances = held; claims = claims }))
    (both (one a_code) (both (one a_name) (both (one (a_number 1 MASS_LIMIT)) (both substances_in claims_in))))

-- the order of declared materials
abbrev pub material_cmp : MaterialDecl → MaterialDecl → Ordering
material_cmp = on (λ material. material.code) code_cmp

-- a declaration
unfoldable pub declared_in : Reader Declared
declared_in =
    built_of (four (λ supplier number day materials. record { supplier = supplier; number = number; day = day; materials = materials }))
    (both (one a_code) (both (one (a_number 1 (2 ^ 64 - 1))) (both (one a_day) (rising material_cmp DECLARED_LIMIT material_in))))

-- an exemption row, behind its code
unfoldable pub exemption_behind : List ℕ → Reader ExemptionRow
exemption_behind row =
    built_of
    (nine (λ annex number rule kinds first last floor cap application. record {
      terms = record { row = row; annex = annex; number = number; rule = rule; kinds = kinds; first = first; last = last; floor = floor; cap = cap };
      application = application;
    }))
    (both (one annex_of_text) (both (one an_exemption_number) (both (one rule_of) (both (one kinds_of_text)
    (both (one a_day) (both (one a_day) (both (one (maybe (a_number 0 PPM_LIMIT))) (both (one (maybe (a_number 0 PPM_LIMIT))) (one a_name)))))))))

-- an exemption row
unfoldable pub exemption_in : Reader ExemptionRow
exemption_in fields = option_and_then (λ row. exemption_behind row.0 row.1) (one a_code fields)

-- the edit of a word, under a sender's ticket
unfoldable pub edit_reader_of_word : List ℕ → EditWord → Reader Edit
edit_reader_of_word ticket word.Substance = built_of (three (edit.Substance ticket)) (both (one a_code) (both (one a_name) (one (maybe a_cas))))
edit_reader_of_word ticket word.Member = built_of (three (edit.Member ticket)) (both (one a_code) (both (one rule_of) (one (a_number 0 WHOLE_FACTOR))))
edit_reader_of_word ticket word.Declare = built_of edit.Declare declared_in
edit_reader_of_word ticket word.Part = built_of (three (edit.Part ticket)) (both (one a_code) (both (one sort_of) (one a_name)))
edit_reader_of_word ticket word.Line = built_of (three (edit.Line ticket)) (both (one a_code) (both (one a_code) (one (a_number 1 COUNT_LIMIT))))
edit_reader_of_word ticket word.Unline = built_of (two (edit.Unline ticket)) (both (one a_code) (one a_code))
edit_reader_of_word ticket word.Product = built_of (two (edit.Product ticket)) (both (one a_code) (one kind_of))
edit_reader_of_word ticket word.Exemption = built_of (edit.Exemption ticket) exemption_in
edit_reader_of_word ticket word.Unexempt = built_of (edit.Unexempt ticket) (one a_code)
edit_reader_of_word ticket word.Candidate = built_of (two (edit.Candidate ticket)) (both (one a_code) (one a_day))
edit_reader_of_word ticket word.Ship =
    built_of (three (edit.Ship ticket)) (both (one a_code) (both (one (a_number FIRST_SHIPMENT_YEAR LAST_SHIPMENT_YEAR)) (one (a_number 1 UNITS_LIMIT))))
edit_reader_of_word ticket word.Unship =
    built_of (three (edit.Unship ticket)) (both (one a_code) (both (one (a_number FIRST_SHIPMENT_YEAR LAST_SHIPMENT_YEAR)) (one (a_number 1 UNITS_LIMIT))))

-- an edit, behind its word
unfoldable pub edit_reader : List ℕ → Reader Edit
edit_reader ticket fields = option_and_then (λ w. edit_reader_of_word ticket w.0 w.1) (one edit_word_of fields)

-- the edit whose text the bytes are, under a sender's ticket
unfoldable pub edit_of_text : List ℕ → List ℕ → Option Edit
edit_of_text ticket text = all_fields (edit_reader ticket) (fields_of text)

-- the ticket that a sender's code holds behind `E:`; of any other code it is some ticket
abbrev pub ticket_in : List ℕ → List ℕ
ticket_in code = unwrap_or (a_code (drop 2 code)) (codes "D")
