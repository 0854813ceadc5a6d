-- Candidate substances in articles: duties to inform, tonnages and notices.
use Rattle.std.specs.Prelude.{◌≡◌, true, false, List, [], ◌∷◌, ◌++◌, Some, None, codes, map}
use Rattle.desk_law.specs.declared.kind.Kind.TheVariants.{Telecommunications}
use Rattle.desk_law.specs.declared.rule.Rule.TheVariants.{Bbp, Dehp, Lead}
use Rattle.desk_model.specs.declared.edit.Edit.{Edit}
use Rattle.desk_model.specs.declared.edit.Edit.TheVariants.{Substance, Candidate, Line, Product, Ship, Unship}
use Rattle.desk_findings.specs.Above.{content, is_above}
use Rattle.desk_findings.specs.Articles.{articles_in}
use Rattle.desk_findings.specs.Carried.{carried}
use Rattle.desk_findings.specs.Chain.{chain}
use Rattle.desk_findings.specs.Duties.{duties}
use Rattle.desk_model.specs.Effect.{units_of}
use Rattle.desk_findings.specs.Findings.{above, findings, over}
use Rattle.desk_model.specs.Lists.{Lists}
use Rattle.desk_findings.specs.Mass.{mass}
use Rattle.desk_findings.specs.Tonnage.{due_day, notices, tonnage}
use Rattle.desk_model.specs.Examples.Desks.{article, assembly, date, declares, desk_with, holds, material}

-- article W holds W1, one microgram of the substance, and W2; it stands in BIG beside an article of 1 g
abbrev pub parts : List Edit
parts =
    Substance (codes "t1") (codes "svhc") (codes "A substance of very high concern") None
    ∷ Candidate (codes "t2") (codes "svhc") (date 2020 1 16)
    ∷ declares (codes "ACME") 1 (material (codes "HEAVY") 1000000 [] ∷ material (codes "W1") 1 (holds (codes "svhc") 1 ∷ [])
    ∷ material (codes "W2") 999 [] ∷ [])
    ∷ article (codes "t4") (codes "W")
    ∷ article (codes "t5") (codes "HOUSING")
    ∷ assembly (codes "t6") (codes "BIG")
    ∷ Line (codes "t7") (codes "W") (codes "W1") 1
    ∷ Line (codes "t8") (codes "W") (codes "W2") 1
    ∷ Line (codes "t9") (codes "HOUSING") (codes "HEAVY") 1
    ∷ Line (codes "t10") (codes "BIG") (codes "W") 1
    ∷ Line (codes "t11") (codes "BIG") (codes "HOUSING") 1
    ∷ []

abbrev pub desk : Lists
desk = desk_with parts

-- W2 loses a microgram
abbrev pub lighter : Lists
lighter = desk_with (parts ++ declares (codes "ACME") 2 (material (codes "W2") 998 [] ∷ []) ∷ [])

pub record DutyExamples : Type 0 where
  pub content_of_article : content desk (codes "W") (codes "svhc") ≡ 1
  -- 1 of 1000 is not more than 0.1 percent
  pub article_mass : mass desk (codes "W") ≡ 1000
  pub not_above : is_above desk (codes "W") (codes "svhc") ≡ false
  pub no_duty : duties desk (codes "BIG") (date 2024 1 23) ≡ []
  -- 1 of 999 is: the duty appears when the component loses a microgram, although BIG has no 0.1 percent of it
  pub lighter_article : mass lighter (codes "W") ≡ 999
  pub a_duty : duties lighter (codes "BIG") (date 2024 1 23) ≡ record { article = codes "W"; substance = codes "svhc" } ∷ []
  pub duty_chain : chain lighter (codes "BIG") (codes "W") ≡ codes "BIG" ∷ codes "W" ∷ []
  -- the duty begins with the day of inclusion
  pub day_before : duties lighter (codes "BIG") (date 2020 1 15) ≡ []
  pub day_of_inclusion : duties lighter (codes "BIG") (date 2020 1 16) ≡ record { article = codes "W"; substance = codes "svhc" } ∷ []
  -- an article asked for itself has its own duty
  pub own_duty : duties lighter (codes "W") (date 2024 1 23) ≡ record { article = codes "W"; substance = codes "svhc" } ∷ []
  -- what is not above is not carried
  pub nothing_carried : carried desk (codes "svhc") (codes "BIG") ≡ 0
  pub one_carried : carried lighter (codes "svhc") (codes "BIG") ≡ 1

-- article G of 2 mg holds 1 mg of dehp
abbrev pub shipped : List Edit
shipped =
    declares (codes "ACME") 1 (material (codes "G1") 2000 (holds (codes "dehp") 1000 ∷ []) ∷ [])
    ∷ article (codes "t2") (codes "G")
    ∷ Line (codes "t3") (codes "G") (codes "G1") 1
    ∷ Product (codes "t4") (codes "G") Telecommunications
    ∷ Candidate (codes "t5") (codes "dehp") (date 2008 10 28)
    ∷ Ship (codes "t6") (codes "G") 2024 1000000000
    ∷ []

abbrev pub tonne : Lists
tonne = desk_with shipped

abbrev pub more : Lists
more = desk_with (shipped ++ Ship (codes "t7") (codes "G") 2024 1 ∷ [])

abbrev pub back : Lists
back = desk_with (shipped ++ Unship (codes "t7") (codes "G") 2024 1000000000 ∷ [])

pub record NoticeExamples : Type 0 where
  -- one tonne is not over one tonne
  pub one_tonne : tonnage tonne 2024 (codes "dehp") ≡ 1000000000000
  pub no_notice : notices tonne 2024 (date 2024 12 31) ≡ []
  -- and with one product more it is
  pub over_one_tonne : tonnage more 2024 (codes "dehp") ≡ 1000000001000
  pub a_notice : map (λ candidate. candidate.substance) (notices more 2024 (date 2024 12 31)) ≡ codes "dehp" ∷ []
  -- from the day of inclusion on
  pub day_before : notices more 2024 (date 2008 10 27) ≡ []
  pub day_of_inclusion : map (λ candidate. candidate.substance) (notices more 2024 (date 2008 10 28)) ≡ codes "dehp" ∷ []
  pub other_year : notices more 2023 (date 2024 12 31) ≡ []
  pub units_add_up : units_of more 2024 (codes "G") ≡ 1000000001
  -- an entry at 0 is taken out
  pub all_taken_off : back.shipments ≡ []
  -- due six months after inclusion, or on 1 June 2011 where that is later
  pub first_due_day : due_day (date 2008 10 28) ≡ Some (date 2011 6 1)
  -- included on 1 December 2010, six months before 1 June 2011
  pub last_first_due_day : due_day (date 2010 12 1) ≡ Some (date 2011 6 1)
  pub next_due_day : due_day (date 2010 12 2) ≡ Some (date 2011 6 2)
  pub later_due_day : due_day (date 2018 6 27) ≡ Some (date 2018 12 27)
  pub end_of_february : due_day (date 2024 8 31) ≡ Some (date 2025 2 28)
  pub past_last_day : due_day (date 2099 8 1) ≡ None

-- two PVC of 5 mg, with 5 micrograms of dehp and 10 of bbp each, in one article
abbrev pub pairs : List Edit
pairs =
    declares (codes "ACME") 1 (material (codes "PVC") 5000 (holds (codes "bbp") 10 ∷ holds (codes "dehp") 5 ∷ []) ∷ [])
    ∷ article (codes "t2") (codes "CABLE")
    ∷ article (codes "t3") (codes "PLUG")
    ∷ assembly (codes "t4") (codes "SET")
    ∷ Line (codes "t5") (codes "CABLE") (codes "PVC") 2
    ∷ Line (codes "t6") (codes "SET") (codes "CABLE") 3
    ∷ Line (codes "t7") (codes "SET") (codes "PLUG") 1
    ∷ []

abbrev pub pair : Lists
pair = desk_with pairs

abbrev pub listed : Edit
listed = Candidate (codes "t8") (codes "bbp") (date 2008 10 28)

abbrev pub all_listed : Lists
all_listed = desk_with (pairs ++ listed ∷ Candidate (codes "t9") (codes "dehp") (date 2008 10 28) ∷ [])

-- two articles of 1 mg each, of which the first holds the substance between the two of the second, and more than a tonne of each
-- substance is shipped
abbrev pub crossed : Lists
crossed = desk_with (
    declares (codes "ACME") 1 (material (codes "FOIL") 1000 (holds (codes "dehp") 10 ∷ [])
    ∷ material (codes "PVC") 1000 (holds (codes "bbp") 10 ∷ holds (codes "lead") 10 ∷ []) ∷ [])
    ∷ article (codes "t2") (codes "CABLE")
    ∷ article (codes "t3") (codes "PLUG")
    ∷ assembly (codes "t4") (codes "SET")
    ∷ Line (codes "t5") (codes "CABLE") (codes "FOIL") 1
    ∷ Line (codes "t6") (codes "PLUG") (codes "PVC") 1
    ∷ Line (codes "t7") (codes "SET") (codes "CABLE") 1
    ∷ Line (codes "t8") (codes "SET") (codes "PLUG") 1
    ∷ Candidate (codes "t9") (codes "lead") (date 2018 6 27)
    ∷ Candidate (codes "t10") (codes "dehp") (date 2008 10 28)
    ∷ Candidate (codes "t11") (codes "bbp") (date 2020 1 16)
    ∷ Product (codes "t12") (codes "SET") Telecommunications
    ∷ Ship (codes "t13") (codes "SET") 2024 100000000001
    ∷ [])

pub record CandidateExamples : Type 0 where
  -- each line counts as often as it says
  pub content_of_two : content pair (codes "CABLE") (codes "bbp") ≡ 20
  pub no_content : content pair (codes "PLUG") (codes "bbp") ≡ 0
  -- what is no candidate is not above and is not carried, whatever the article holds of it
  pub no_candidate : is_above pair (codes "CABLE") (codes "bbp") ≡ false
  pub none_carried : carried pair (codes "bbp") (codes "SET") ≡ 0
  pub candidate : is_above all_listed (codes "CABLE") (codes "bbp") ≡ true
  pub assembly_not_above : is_above all_listed (codes "SET") (codes "bbp") ≡ false
  -- 10 of 10,000 are not more than a thousandth
  pub thousandth : is_above all_listed (codes "CABLE") (codes "dehp") ≡ false
  pub three_cables : carried all_listed (codes "bbp") (codes "SET") ≡ 60
  pub article_findings : findings all_listed (codes "SET") ≡ over (codes "PVC") Bbp ∷ above (codes "CABLE") (codes "bbp") ∷ []
  -- a part that is asked for itself, and no assembly
  pub articles : map (λ part. part.code) (articles_in all_listed (codes "SET")) ≡ codes "CABLE" ∷ codes "PLUG" ∷ []
  pub own_article : map (λ part. part.code) (articles_in all_listed (codes "PLUG")) ≡ codes "PLUG" ∷ []
  -- duties stand in order of article, and then of substance
  pub crossed_duties : duties crossed (codes "SET") (date 2024 1 23)
      ≡ record { article = codes "CABLE"; substance = codes "dehp" } ∷ record { article = codes "PLUG"; substance = codes "bbp" }
      ∷ record { article = codes "PLUG"; substance = codes "lead" } ∷ []
  -- findings in order of material, and then of the rule's number, before those of articles
  pub crossed_findings : findings crossed (codes "SET")
      ≡ over (codes "FOIL") Dehp ∷ over (codes "PVC") Lead ∷ over (codes "PVC") Bbp
      ∷ above (codes "CABLE") (codes "dehp") ∷ above (codes "PLUG") (codes "bbp") ∷ above (codes "PLUG") (codes "lead") ∷ []
  -- notices in order of substance
  pub crossed_notices : map (λ candidate. candidate.substance) (notices crossed 2024 (date 2024 12 31)) ≡ codes "bbp" ∷ codes "dehp" ∷ codes "lead" ∷ []
