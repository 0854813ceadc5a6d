-- Tables that are sound, and tables that break one clause.
use Rattle.std.specs.Prelude.{◌≡◌, ℕ, true, false, List, [], ◌∷◌, ◌++◌, None, codes, length, map, reverse}
use Rattle.std.specs.List.{range_with_len}
use Rattle.desk_text.specs.Day.{zero_padded}
use Rattle.desk_law.specs.declared.annex.Annex.TheVariants.{Four}
use Rattle.desk_law.specs.declared.kind.Kind.TheVariants.{Telecommunications, Consumer}
use Rattle.desk_law.specs.declared.rule.Rule.TheVariants.{Lead}
use Rattle.desk_model.specs.declared.edit.Edit.{Edit}
use Rattle.desk_model.specs.declared.part_sort.PartSort.TheVariants.{Article}
use Rattle.desk_model.specs.declared.rows.line.LineRow.{LineRow}
use Rattle.desk_model.specs.declared.rows.ticket.TicketRow.{TicketRow}
use Rattle.desk_model.specs.EditText.{edit_text}
use Rattle.desk_findings.specs.Findings.{finding_count}
use Rattle.desk_model.specs.Lists.{Lists}
use Rattle.desk_history.specs.Sound.{Sound, are_names_kept, are_numbers, are_rows_in_form}
use Rattle.desk_model.specs.Start.{start}
use Rattle.desk_model.specs.Examples.Desks.{article, date, declares, holds, material}
use Rattle.desk_model.specs.Examples.Effects.{copper_row, desk, exemption, later}
use Rattle.desk_model.specs.Examples.Forms.{bad}
use Rattle.desk_history.specs.Examples.Limits.{hundred, tower}

-- the tables are not sound
abbrev pub IsUnsound : Lists → Type 0
IsUnsound t = Sound t → ⊥

-- tables without any row
abbrev pub nothing : Lists
nothing = record start { substances = []; members = [] }

abbrev pub line : List ℕ → List ℕ → ℕ → LineRow
line parent child count = record { parent = parent; child = child; count = count }

-- tables of which one row has a value out of its form or range, a table after the other
abbrev pub out_of_form : List Lists
out_of_form =
    record nothing { substances = record { code = bad; name = bad; cas = None } ∷ [] }
    ∷ record nothing { members = record { substance = codes "lead"; rule = Lead; factor = 0 } ∷ [] }
    ∷ record nothing { materials = record copper_row { number = 0 } ∷ [] }
    ∷ record nothing { parts = record { code = bad; sort = Article; name = bad } ∷ [] }
    ∷ record nothing { lines = line (codes "PIN") (codes "BRASS") 0 ∷ [] }
    ∷ record nothing { products = record { part = bad; kind = Consumer } ∷ [] }
    ∷ record nothing { exemptions = exemption (codes "R1") bad (date 2026 6 30) ∷ [] }
    ∷ record nothing { candidates = record { substance = codes "lead"; day = date 2023 2 29 } ∷ [] }
    ∷ record nothing { shipments = record { year = 2024; product = codes "SET"; units = 0 } ∷ [] }
    ∷ []

-- tables of which one row names what isn't kept, or a line leads to what is of the wrong sort
abbrev pub dangling : List Lists
dangling =
    record desk { members = record { substance = codes "gold"; rule = Lead; factor = 1 } ∷ [] }
    ∷ record desk { materials = record copper_row { substances = holds (codes "gold") 1 ∷ [] } ∷ []; lines = [] }
    ∷ record desk { lines = line (codes "BOX") (codes "COPPER") 1 ∷ [] }
    ∷ record desk { lines = line (codes "PIN") (codes "GLUE") 1 ∷ [] }
    ∷ record desk { lines = line (codes "SET") (codes "BOX") 1 ∷ [] }
    ∷ record desk { lines = line (codes "PIN") (codes "CABLE") 1 ∷ [] }
    ∷ record desk { lines = line (codes "SET") (codes "COPPER") 1 ∷ [] }
    ∷ record desk { products = record { part = codes "COPPER"; kind = Consumer } ∷ []; shipments = [] }
    ∷ record desk { candidates = record { substance = codes "gold"; day = date 2020 1 16 } ∷ [] }
    ∷ record desk { shipments = record { year = 2024; product = codes "PIN"; units = 1 } ∷ [] }
    ∷ []

-- tickets of these numbers
abbrev pub numbered : List ℕ → List TicketRow
numbered numbers = map (λ n. record { code = codes "E:t"; number = n; text = [] }) numbers

-- a ticket of this code and text
abbrev pub ticketed : List ℕ → List ℕ → Lists
ticketed code text = record start { tickets = record { code = code; number = 1; text = text } ∷ [] }

abbrev pub solder : Edit
solder = declares (codes "ACME") 7 (material (codes "SOLDER") 9 [] ∷ [])

pub record SoundExamples : Type 0 where
  -- a desk with rows in each table, also after each row was replaced or taken out
  pub sound : Sound desk
  pub sound_later : Sound later
  -- each list stands in the order of its key
  pub substances : IsUnsound (record desk { substances = reverse desk.substances })
  pub members : IsUnsound (record desk { members = reverse desk.members })
  pub materials : IsUnsound (record desk { materials = reverse desk.materials })
  pub parts : IsUnsound (record desk { parts = reverse desk.parts })
  pub lines : IsUnsound (record desk { lines = reverse desk.lines })
  pub products : IsUnsound (record desk { products = reverse desk.products })
  pub exemptions : IsUnsound (record desk { exemptions = reverse desk.exemptions })
  pub candidates : IsUnsound (record desk { candidates = reverse desk.candidates })
  pub shipments : IsUnsound (record desk { shipments = reverse desk.shipments })
  pub tickets : IsUnsound (record desk { tickets = reverse desk.tickets })
  -- and has each key once
  pub key_twice : IsUnsound (record desk {
    products = record { part = codes "SET"; kind = Consumer }
        ∷ record { part = codes "SET"; kind = Telecommunications } ∷ [];
  })
  pub forms : map are_rows_in_form out_of_form ≡ false ∷ false ∷ false ∷ false ∷ false ∷ false ∷ false ∷ false ∷ false ∷ []
  pub form : IsUnsound (record nothing { candidates = record { substance = codes "lead"; day = date 2023 2 29 } ∷ [] })
  pub names : map are_names_kept dangling ≡ false ∷ false ∷ false ∷ false ∷ false ∷ false ∷ false ∷ false ∷ false ∷ false ∷ []
  pub name : IsUnsound (record desk { candidates = record { substance = codes "gold"; day = date 2020 1 16 } ∷ [] })
  -- a material and a part of one code
  pub shared_code : IsUnsound (record desk { parts = record { code = codes "BRASS"; sort = Article; name = codes "Brass" } ∷ desk.parts })
  pub heavy_substance : IsUnsound (record desk { materials = record copper_row { substances = holds (codes "lead") 21 ∷ [] } ∷ [] })
  pub ends_before_it_begins : IsUnsound (record desk { exemptions = exemption (codes "R1") (codes "7(a)") (date 2014 7 21) ∷ [] })
  pub outside_annex : IsUnsound (record desk {
    exemptions = record (exemption (codes "R1") (codes "7(a)") (date 2026 6 30)) {
      terms = record (exemption (codes "R1") (codes "7(a)") (date 2026 6 30)).terms { annex = Four };
    } ∷ [];
  })
  pub too_many_candidates : IsUnsound (record desk {
    candidates = map (λ n. record { substance = zero_padded 4 n; day = date 2020 1 16 }) (range_with_len 0 1025);
  })
  pub too_much_text : (text : List ℕ) → length text ≡ 67108865 → IsUnsound (ticketed (codes "E:t1") text)
  pub part_of_itself : IsUnsound (record desk { lines = line (codes "SET") (codes "SET") 1 ∷ [] })
  pub too_heavy : IsUnsound (record tower { lines = tower.lines ++ line (codes "L7") (codes "L6") 1000000 ∷ [] })
  pub too_many_findings : (t : Lists) → finding_count t ≡ 4194305 → IsUnsound t
  pub too_heavy_year : IsUnsound (record hundred { shipments = record { year = 2024; product = codes "L7"; units = 4 } ∷ [] })
  -- numbers from 1 on, each once, in any order of the codes
  pub numbers : map (λ numbers. are_numbers (numbered numbers)) ([] ∷ (1 ∷ 2 ∷ 3 ∷ []) ∷ (3 ∷ 1 ∷ 2 ∷ []) ∷ (0 ∷ 1 ∷ 2 ∷ [])
      ∷ (1 ∷ 1 ∷ 3 ∷ []) ∷ (1 ∷ 2 ∷ 4 ∷ []) ∷ [])
      ≡ true ∷ true ∷ true ∷ false ∷ false ∷ false ∷ []
  pub second_number : IsUnsound (record (ticketed (codes "E:t1") []) { tickets = numbered (2 ∷ []) })
  -- a declaration's text under a sender's code, and another edit's under a declaration's
  pub declaration_as_sent : IsUnsound (ticketed (codes "E:t1") (edit_text solder))
  pub sent_as_declaration : IsUnsound (ticketed (codes "D:ACME:7") (edit_text (article (codes "t1") (codes "PIN"))))
