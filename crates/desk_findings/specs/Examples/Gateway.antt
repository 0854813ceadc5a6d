-- An ordinary desk: a gateway of a board with brass pins and of two cables, with an exemption for the brass.
use Rattle.std.specs.Prelude.{◌≡◌, ℕ, List, [], ◌∷◌, Option, Some, None, codes, map, option_map}
use Rattle.desk_law.specs.declared.annex.Annex.TheVariants.{Three}
use Rattle.desk_law.specs.declared.kind.Kind.TheVariants.{Telecommunications, Consumer}
use Rattle.desk_law.specs.declared.rule.Rule.{Rule}
use Rattle.desk_law.specs.declared.rule.Rule.TheVariants.{Lead, Mercury, Dehp}
use Rattle.desk_law.specs.declared.verdict.Verdict.{Verdict}
use Rattle.desk_law.specs.declared.verdict.Verdict.TheVariants.{Within, NotInForce, Exempt, Breach}
use Rattle.desk_text.specs.Day.{Date}
use Rattle.desk_model.specs.declared.edit.Edit.{Edit}
use Rattle.desk_model.specs.declared.edit.Edit.TheVariants.{Substance, Member, Declare, Exemption, Candidate, Line, Product, Ship}
use Rattle.desk_findings.specs.Above.{content}
use Rattle.desk_findings.specs.Carried.{carried}
use Rattle.desk_findings.specs.Chain.{chain}
use Rattle.desk_findings.specs.Duties.{duties}
use Rattle.desk_findings.specs.Findings.{above, findings, over}
use Rattle.desk_model.specs.Lists.{Lists, material_row}
use Rattle.desk_findings.specs.Mass.{mass}
use Rattle.desk_findings.specs.Tonnage.{notices, tonnage}
use Rattle.desk_findings.specs.Verdicts.{verdict_on}
use Rattle.desk_model.specs.Examples.Desks.{article, assembly, date, declares, desk_with, holds, material}

abbrev pub edits : List Edit
edits =
    Substance (codes "t1") (codes "lead-oxide") (codes "Lead oxide") (Some (codes "1317-36-8"))
    ∷ Member (codes "t2") (codes "lead-oxide") Lead 928320
    ∷ Exemption (codes "t3") (record {
      terms = record {
        row = codes "III-6C";
        annex = Three;
        number = codes "6(c)";
        rule = Lead;
        kinds = Telecommunications ∷ Consumer ∷ [];
        first = date 2014 7 22;
        last = date 2026 6 30;
        floor = None;
        cap = Some 40000;
      };
      application = codes "Copper alloy containing up to 4 % lead by weight";
    })
    ∷ Candidate (codes "t4") (codes "dehp") (date 2008 10 28)
    ∷ Candidate (codes "t5") (codes "lead") (date 2018 6 27)
    ∷ Declare (record {
      supplier = codes "BRASSCO";
      number = 11;
      day = date 2024 1 23;
      materials =
          record {
            code = codes "BRASS";
            name = codes "Brass";
            mass = 2000000;
            substances = holds (codes "lead") 60000 ∷ [];
            claims = record { rule = Lead; number = codes "6(c)" } ∷ [];
          }
          ∷ [];
    })
    ∷ declares (codes "CABLECO") 3 (material (codes "COPPER") 3000000 [] ∷ material (codes "PVC") 5000000 (holds (codes "dehp") 15000 ∷ []) ∷ [])
    ∷ article (codes "t8") (codes "PIN")
    ∷ article (codes "t9") (codes "CABLE")
    ∷ assembly (codes "t10") (codes "BOARD")
    ∷ assembly (codes "t11") (codes "GATEWAY")
    ∷ Line (codes "t12") (codes "PIN") (codes "BRASS") 1
    ∷ Line (codes "t13") (codes "CABLE") (codes "PVC") 1
    ∷ Line (codes "t14") (codes "CABLE") (codes "COPPER") 2
    ∷ Line (codes "t15") (codes "BOARD") (codes "PIN") 40
    ∷ Line (codes "t16") (codes "GATEWAY") (codes "BOARD") 1
    ∷ Line (codes "t17") (codes "GATEWAY") (codes "CABLE") 2
    ∷ Product (codes "t18") (codes "GATEWAY") Telecommunications
    ∷ Ship (codes "t19") (codes "GATEWAY") 2024 500000
    ∷ []

abbrev pub desk : Lists
desk = desk_with edits

-- the verdict on a kept material for the gateway's kind
abbrev pub verdict_at : List ℕ → Rule → Date → Option Verdict
verdict_at code rule day = option_map (λ kept. verdict_on desk Telecommunications day kept rule) (material_row desk code)

pub record GatewayExamples : Type 0 where
  pub whole_mass : mass desk (codes "GATEWAY") ≡ 102000000
  pub cable_mass : mass desk (codes "CABLE") ≡ 11000000
  pub four_findings : findings desk (codes "GATEWAY")
      ≡ over (codes "BRASS") Lead ∷ over (codes "PVC") Dehp ∷ above (codes "CABLE") (codes "dehp") ∷ above (codes "PIN") (codes "lead") ∷ []
  pub brass_exempt : verdict_at (codes "BRASS") Lead (date 2024 7 22) ≡ Some (Exempt 0)
  pub last_day : verdict_at (codes "BRASS") Lead (date 2026 6 30) ≡ Some (Exempt 0)
  pub day_after : verdict_at (codes "BRASS") Lead (date 2026 7 1) ≡ Some Breach
  pub pvc_breach : verdict_at (codes "PVC") Dehp (date 2024 7 22) ≡ Some Breach
  pub pvc_before : verdict_at (codes "PVC") Dehp (date 2019 7 21) ≡ Some NotInForce
  pub brass_within : verdict_at (codes "BRASS") Mercury (date 2024 7 22) ≡ Some Within
  pub breach_chain : chain desk (codes "GATEWAY") (codes "PVC") ≡ codes "GATEWAY" ∷ codes "CABLE" ∷ codes "PVC" ∷ []
  pub two_duties : duties desk (codes "GATEWAY") (date 2024 7 22)
      ≡ record { article = codes "CABLE"; substance = codes "dehp" } ∷ record { article = codes "PIN"; substance = codes "lead" } ∷ []
  pub cable_content : content desk (codes "CABLE") (codes "dehp") ≡ 15000
  pub pin_chain : chain desk (codes "GATEWAY") (codes "PIN") ≡ codes "GATEWAY" ∷ codes "BOARD" ∷ codes "PIN" ∷ []
  pub carried_lead : carried desk (codes "lead") (codes "GATEWAY") ≡ 2400000
  pub carried_dehp : carried desk (codes "dehp") (codes "CABLE") ≡ 15000
  pub lead_tonnage : tonnage desk 2024 (codes "lead") ≡ 1200000000000
  pub one_notice : map (λ candidate. candidate.substance) (notices desk 2024 (date 2024 12 31)) ≡ codes "lead" ∷ []
