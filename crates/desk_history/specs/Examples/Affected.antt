-- What edits affect, and which beginning of a history a number names: at the desks of the findings' examples.
use Rattle.std.specs.Prelude.{◌≡◌, [], ◌∷◌, ◌++◌, None, Ok, codes, drop, map, take}
use Rattle.desk_law.specs.declared.kind.Kind.TheVariants.{Consumer}
use Rattle.desk_law.specs.declared.rule.Rule.TheVariants.{Mercury}
use Rattle.desk_model.specs.declared.edit.Edit.TheVariants.{Substance, Member, Line, Product, Candidate, Ship}
use Rattle.desk_model.specs.Start.{start}
use Rattle.desk_model.specs.Examples.Desks.{article, date, declares, material}
use Rattle.desk_model.specs.Examples.Effects as effects
use Rattle.desk_findings.specs.Examples.Articles.{all_listed, listed, pair, pairs, parts, shipped}
use Rattle.desk_findings.specs.Examples.Chains.{desk, edits, take_out}
use Rattle.desk_findings.specs.Examples.Gateway as gateway
use Rattle.desk_findings.specs.Examples.Shares.{clear_factor, oxide, oxide_edits}
use Rattle.desk_history.specs.Affected.{affected}
use Rattle.desk_history.specs.History.{number_of, up_to}
use Rattle.desk_history.specs.Examples.Desks.{answer_at, desk_after}

pub record HistoryExamples : Type 0 where
  -- each edit of the small desks is accepted, the last with the number of edits; the desks are those that they leave
  pub eleven_edits : number_of (record { opening = start; edits = edits }) ≡ 11
  pub nineteen_edits : number_of (record { opening = start; edits = gateway.edits }) ≡ 19
  pub twenty_edits : number_of (record { opening = start; edits = effects.edits }) ≡ 20
  pub all_edits : number_of (record { opening = start; edits = effects.edits ++ effects.changes }) ≡ 34
  pub accepted_parts : number_of (record { opening = start; edits = parts }) ≡ 11
  pub accepted_shipped : number_of (record { opening = start; edits = shipped }) ≡ 6
  pub accepted_pairs : number_of (record { opening = start; edits = pairs }) ≡ 7
  pub accepted_oxide : number_of (record { opening = start; edits = oxide_edits }) ≡ 3
  -- a line is taken out with the next number
  pub taken_out : answer_at desk take_out ≡ Ok 12
  -- a factor of 0 where there is no member is accepted, and changes no member
  pub nothing_to_clear : answer_at oxide (Member (codes "t4") (codes "lead-oxide") Mercury 0) ≡ Ok 4
  -- of a history that opens with three tickets, the part up to 5 has two edits
  pub two_edits : (up_to (record { opening = desk_after (take 3 edits); edits = drop 3 edits }) 5).edits ≡ take 2 (drop 3 edits)
  -- the history up to 5 has the five edits that were accepted first
  pub five_edits : number_of (up_to (record { opening = start; edits = edits }) 5) ≡ 5

pub record AffectedExamples : Type 0 where
  -- what taking out a line affects is the parent alone, since no part holds it
  pub affects_parent : affected desk take_out ≡ codes "P" ∷ []
  -- a new declaration of the material affects all that reaches it
  pub affects_users : affected desk (declares (codes "ACME") 2 (material (codes "MAT") 7 [] ∷ []))
      ≡ codes "MAT" ∷ codes "A" ∷ codes "B" ∷ codes "C" ∷ codes "P" ∷ []
  -- a new part affects itself alone, and one that is kept nothing
  pub affects_itself : affected desk (article (codes "t12") (codes "NUT")) ≡ codes "NUT" ∷ []
  pub affects_none : affected desk (article (codes "t12") (codes "C")) ≡ []
  -- a line affects its parent and what reaches it, and not its child
  pub affects_above : affected desk (Line (codes "t12") (codes "A") (codes "B") 1) ≡ codes "A" ∷ codes "P" ∷ []
  -- a repeated edit affects nothing, and neither do edits of products, shipments and names
  pub repeated_affects : affected desk (Line (codes "t10") (codes "P") (codes "B") 3) ≡ []
  pub others_affect : map (affected desk)
      (Substance (codes "t12") (codes "lead") (codes "Plumbum") None ∷ Product (codes "t12") (codes "C") Consumer ∷ Ship (codes "t12") (codes "P") 2024 1 ∷ [])
      ≡ [] ∷ [] ∷ [] ∷ []
  -- a factor of 0 takes the member out, and affects the materials that list the substance
  pub cleared_affects : affected oxide clear_factor ≡ codes "OX1" ∷ codes "OX2" ∷ []
  -- a substance that is new on the list affects the articles that hold it and what reaches them, and no material
  pub new_candidate : affected pair listed ≡ codes "CABLE" ∷ codes "SET" ∷ []
  pub unheld_candidate : affected pair (Candidate (codes "t8") (codes "lead") (date 2018 6 27)) ≡ []
  -- a new day of one that is on the list affects nothing
  pub candidate_again : affected all_listed (Candidate (codes "t10") (codes "bbp") (date 2009 1 1)) ≡ []
