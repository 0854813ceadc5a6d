-- Every question at an ordinary desk: a gateway of a board with brass pins and of two cables, with an exemption for the brass.
use Rattle.std.specs.Prelude.{◌≡◌, ℕ, List, [], ◌∷◌, Result, Err, codes}
use Rattle.desk_law.specs.declared.kind.Kind.TheVariants.{Telecommunications}
use Rattle.desk_model.specs.declared.part_sort.PartSort.{PartSort}
use Rattle.desk_model.specs.declared.part_sort.PartSort.TheVariants.{Article, Assembly}
use Rattle.desk_model.specs.declared.rows.part.PartRow.{PartRow}
use Rattle.desk_model.specs.Examples.Desks.{date}
use Rattle.desk_model.specs.Lists.{Lists}
use Rattle.desk_model.specs.Start.{start}
use Rattle.desk_findings.specs.Examples.Gateway.{desk}
use Rattle.desk_scratch.specs.declared.ask_fault.AskFault.{AskFault}
use Rattle.desk_scratch.specs.declared.ask_fault.AskFault.TheVariants.{NoSuchCode, NotAProduct}
use Rattle.desk_scratch.specs.declared.question.Question.{Question}
use Rattle.desk_scratch.specs.declared.question.Question.TheVariants.{Material, Rohs, Reach33, Reach7, Part, Uses, Summary, Version}
use Rattle.desk_scratch.specs.Eval.{eval}
use Rattle.desk_scratch.specs.Examples.Texts.{answers}

abbrev pub part : List ℕ → PartSort → List ℕ → PartRow
part code sort name = record { code = code; sort = sort; name = name }

-- the desk after nineteen edits, where the cable has a name of its own
abbrev pub gateway : Lists
gateway = record desk {
  parts =
      part (codes "BOARD") Assembly (codes "BOARD")
      ∷ part (codes "CABLE") Article (codes "Cable")
      ∷ part (codes "GATEWAY") Assembly (codes "GATEWAY")
      ∷ part (codes "PIN") Article (codes "PIN")
      ∷ [];
}

abbrev pub asked : Question → Result (List ℕ) AskFault
asked question = eval gateway question

pub record GatewayAnswers : Type 0 where
  pub rohs : asked (Rohs (codes "GATEWAY") (date 2024 7 22))
      ≡ answers (codes "version 19"
      ∷ codes "product GATEWAY kind 3 day 2024-07-22 mass 102000000"
      ∷ codes "over BRASS lead share 60000000000 limit 2000000000 exempt 6(c) row III-6C"
      ∷ codes "over PVC dehp share 15000000000 limit 5000000000 breach"
      ∷ codes "chain GATEWAY CABLE PVC"
      ∷ codes "not-compliant"
      ∷ [])
  -- the day before the phthalates come into force the product is compliant, and no chain is told
  pub rohs_before : asked (Rohs (codes "GATEWAY") (date 2019 7 21))
      ≡ answers (codes "version 19"
      ∷ codes "product GATEWAY kind 3 day 2019-07-21 mass 102000000"
      ∷ codes "over BRASS lead share 60000000000 limit 2000000000 exempt 6(c) row III-6C"
      ∷ codes "over PVC dehp share 15000000000 limit 5000000000 not-in-force"
      ∷ codes "compliant"
      ∷ [])
  pub reach33 : asked (Reach33 (codes "GATEWAY") (date 2024 7 22))
      ≡ answers (codes "version 19"
      ∷ codes "part GATEWAY day 2024-07-22"
      ∷ codes "duty CABLE dehp mass 15000 of 11000000 included 2008-10-28"
      ∷ codes "name Bis(2-ethylhexyl) phthalate (DEHP)"
      ∷ codes "chain GATEWAY CABLE"
      ∷ codes "duty PIN lead mass 60000 of 2000000 included 2018-06-27"
      ∷ codes "name Lead"
      ∷ codes "chain GATEWAY BOARD PIN"
      ∷ codes "duties 2"
      ∷ [])
  pub reach7 : asked (Reach7 2024 (date 2024 12 31))
      ≡ answers (codes "version 19"
      ∷ codes "year 2024 day 2024-12-31"
      ∷ codes "notice lead tonnage 1200000000000 included 2018-06-27 due 2018-12-27"
      ∷ codes "notices 1"
      ∷ [])
  pub cable : asked (Part (codes "CABLE"))
      ≡ answers (codes "version 19"
      ∷ codes "part CABLE article mass 11000000"
      ∷ codes "name Cable"
      ∷ codes "line COPPER 2"
      ∷ codes "line PVC 1"
      ∷ codes "carried dehp 15000"
      ∷ [])
  -- a product carries what its articles carry: 40 pins of 60,000 micrograms of lead, and two cables of 15,000 of dehp
  pub product : asked (Part (codes "GATEWAY"))
      ≡ answers (codes "version 19"
      ∷ codes "part GATEWAY assembly mass 102000000"
      ∷ codes "name GATEWAY"
      ∷ codes "product kind 3"
      ∷ codes "line BOARD 1"
      ∷ codes "line CABLE 2"
      ∷ codes "carried dehp 30000"
      ∷ codes "carried lead 2400000"
      ∷ [])
  pub uses : asked (Uses (codes "PIN"))
      ≡ answers (codes "version 19" ∷ codes "uses PIN" ∷ codes "user BOARD 40" ∷ codes "product GATEWAY kind 3" ∷ [])
  -- a product is among its own uses
  pub own_use : asked (Uses (codes "GATEWAY")) ≡ answers (codes "version 19" ∷ codes "uses GATEWAY" ∷ codes "product GATEWAY kind 3" ∷ [])
  pub summary : asked (Summary (date 2024 7 22))
      ≡ answers (codes "version 19"
      ∷ codes "day 2024-07-22"
      ∷ codes "substances 11"
      ∷ codes "members 11"
      ∷ codes "materials 3"
      ∷ codes "parts 4"
      ∷ codes "lines 6"
      ∷ codes "products 1"
      ∷ codes "exemptions 1"
      ∷ codes "candidates 2"
      ∷ codes "shipments 1"
      ∷ codes "product GATEWAY kind 3 not-compliant breaches 1 duties 2"
      ∷ [])
  pub version : asked Version ≡ answers (codes "version 19" ∷ [])
  -- the brass claims the exemption, which the row covers
  pub brass : asked (Material (codes "BRASS") Telecommunications (date 2026 6 30))
      ≡ answers (codes "version 19"
      ∷ codes "material BRASS supplier BRASSCO declaration 11 mass 2000000"
      ∷ codes "rule lead share 60000000000 limit 2000000000 exempt 6(c) row III-6C"
      ∷ codes "rule mercury share 0 limit 2000000000 within"
      ∷ codes "rule cadmium share 0 limit 200000000 within"
      ∷ codes "rule chromium-vi share 0 limit 2000000000 within"
      ∷ codes "rule pbb share 0 limit 2000000000 within"
      ∷ codes "rule pbde share 0 limit 2000000000 within"
      ∷ codes "rule dehp share 0 limit 2000000000 within"
      ∷ codes "rule bbp share 0 limit 2000000000 within"
      ∷ codes "rule dbp share 0 limit 2000000000 within"
      ∷ codes "rule dibp share 0 limit 2000000000 within"
      ∷ codes "compliant"
      ∷ [])
  -- and the day after its last day does not
  pub brass_later : asked (Material (codes "BRASS") Telecommunications (date 2026 7 1))
      ≡ answers (codes "version 19"
      ∷ codes "material BRASS supplier BRASSCO declaration 11 mass 2000000"
      ∷ codes "rule lead share 60000000000 limit 2000000000 breach"
      ∷ codes "rule mercury share 0 limit 2000000000 within"
      ∷ codes "rule cadmium share 0 limit 200000000 within"
      ∷ codes "rule chromium-vi share 0 limit 2000000000 within"
      ∷ codes "rule pbb share 0 limit 2000000000 within"
      ∷ codes "rule pbde share 0 limit 2000000000 within"
      ∷ codes "rule dehp share 0 limit 2000000000 within"
      ∷ codes "rule bbp share 0 limit 2000000000 within"
      ∷ codes "rule dbp share 0 limit 2000000000 within"
      ∷ codes "rule dibp share 0 limit 2000000000 within"
      ∷ codes "not-compliant"
      ∷ [])
  -- what is not kept has no answer, nor has a part that is no product: a material is no part, and a part no material
  pub no_material : asked (Material (codes "PIN") Telecommunications (date 2024 7 22)) ≡ Err (NoSuchCode (codes "PIN"))
  pub no_part : asked (Part (codes "BRASS")) ≡ Err (NoSuchCode (codes "BRASS"))
  pub no_duties : asked (Reach33 (codes "BRASS") (date 2024 7 22)) ≡ Err (NoSuchCode (codes "BRASS"))
  pub no_uses : asked (Uses (codes "lead")) ≡ Err (NoSuchCode (codes "lead"))
  pub no_code : eval start (Rohs (codes "P") (date 2024 1 23)) ≡ Err (NoSuchCode (codes "P"))
  pub no_product : asked (Rohs (codes "CABLE") (date 2024 7 22)) ≡ Err (NotAProduct (codes "CABLE"))
