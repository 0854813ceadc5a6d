-- The way to a finding stays inside the bill, and is the chain to its holder.
use Rattle.std.proofs.Common.{◌≡◌, ℕ, zero, suc, ◌<◌, true, false, List, [], ◌∷◌, find, length, map, Option, Some, None, cond, refl, sym, ap, ◌∙◌, subst}
use Rattle.std.specs.Prelude.{IfSome, if◌then◌else◌, option_map, unwrap_or, Bool}
use Rattle.std.specs.Option.{option_map_or}
use Rattle.std.specs.List.{AllByRecursion}
use Rattle.std.proofs.lemmas.Bool.{and_parts}
use Rattle.desk_graph.specs.declared.line.BillLine.{BillLine}
use Rattle.desk_graph.specs.Bill.{IsBillGraph}
use Rattle.desk_graph.specs.Graph.{Graph, label_of, lines_of_node as node_lines}
use Rattle.desk_rollup.specs.Chain.{hop_chain as node_chain, next_hop as node_next, way}
use Rattle.desk_rollup.specs.Numbers.{has, mark_numbers}
use Rattle.desk_rollup.specs.Plan.{AreRolledUp}
use Rattle.desk_rollup.specs.Rolled.{mark_numbers_below}
use Rattle.desk_rollup.specs.Values.{KeptValues, own_at}
use Rattle.desk_rollup.proofs.Lists.{each_line}
use Rattle.desk_model.specs.Lists.{Lists, is_part}
use Rattle.desk_findings.specs.Bill.{IsRight}
use Rattle.desk_findings.specs.Chain.{chain}
use Rattle.desk_findings.specs.Findings.{Finding, above, findings, findings_at, is_in, over}
use Rattle.desk_findings.specs.Holders.{holder}
use Rattle.desk_findings.specs.Numbering.{is_found}
use Rattle.desk_findings.specs.Reaches.{is_or_reaches}
use Rattle.desk_findings.proofs.FindingsOnce.{of_part}
use Rattle.desk_findings.proofs.Holders.{held}
use Rattle.desk_history.specs.Sound.{Sound}
use Rattle.desk_history.proofs.SoundClauses.{bill_of, right_of}
use Rattle.desk_scratch.specs.LookUps.{holder_of}
use Rattle.desk_bridge.specs.Numbers.{finding_number}
use Rattle.desk_bridge.proofs.Hops.{chain_is}
use Rattle.desk_engine.specs.declared.stored.Stored.{Stored}
use Rattle.desk_engine.specs.Stored.{IsStoredOf}
use Rattle.desk_engine.proofs.Answered.{numbered}

-- the way from a node of the bill stays in the bill
module _ (g : Graph) (bill : IsBillGraph g) (kept : KeptValues) (rolled : AreRolledUp g kept) (mark : ℕ) where
  abbrev Inside : ℕ → Type 0
  Inside node = node < length g.labels

  found_line : (test : BillLine → Bool) (lines : List BillLine) → AllByRecursion (λ line. Inside line.node) lines → IfSome (unwrap_or (option_map (λ line. Some line.node) (find test lines)) None) Inside
  found_line test [] a = tt
  found_line test (line ∷ lines) a =
      elim (test line) as (λ b. IfSome (unwrap_or (option_map (λ line. Some line.node) (cond b (Some line) (find test lines))) None) Inside) [
        | true ↦ a.0
        | false ↦ found_line test lines a.1
      ]

  next_inside : (node : ℕ) → Inside node → IfSome (node_next kept.rolled mark node) Inside
  next_inside node there = subst (λ o. IfSome (unwrap_or o None) Inside) (sym ((rolled.rolled node there).hops mark)) (either (has (mark_numbers (own_at kept.owns node).marks) mark))
    where
      either : (b : Bool) → IfSome (unwrap_or (if b then Some None else option_map (λ line. Some line.node) (find (λ line. has (mark_numbers_below g.lines (own_at kept.owns) line.node) mark) (node_lines g.lines node))) None) Inside
      either true = tt
      either false = found_line (λ line. has (mark_numbers_below g.lines (own_at kept.owns) line.node) mark) (node_lines g.lines node) (each_line Inside (node_lines g.lines node) (λ child line. bill.children node child line))

  way_inside : (k node : ℕ) → Inside node → AllByRecursion Inside (way kept.rolled mark k node)
  unfolding way
  way_inside zero node there = tt
  way_inside (suc k) node there = by_next (λ next h. way_inside k next h) (node_next kept.rolled mark node) (next_inside node there)
    where
      by_next : ((next : ℕ) → Inside next → AllByRecursion Inside (way kept.rolled mark k next)) → (o : Option ℕ) → IfSome o Inside → AllByRecursion Inside (option_map_or (λ next. next ∷ way kept.rolled mark k next) o [])
      by_next later None h = tt
      by_next later (Some next) h = (h, later next h)

  pub chain_inside : (from : ℕ) → Inside from → AllByRecursion Inside (node_chain kept.rolled mark from)
  chain_inside from there = (there, way_inside (length kept.rolled) from there)

same_holder : (finding : Finding) → holder finding ≡ holder_of finding
same_holder (over material rule) = refl
same_holder (above article substance) = refl

module _ (t : Lists) (s : Sound t) (code : List ℕ) (part : is_part t code ≡ true) (finding : Finding) (there : is_in finding (findings t code) ≡ true) where
  there_at : is_in finding (findings_at t code) ≡ true
  there_at = ap (is_in finding) (of_part t s.consistent.codes_apart code part) ∙ there

  pub found_in : is_found t finding ≡ true
  found_in = (and_parts (is_or_reaches t code (holder finding)) (is_found t finding) (sym (held t s.consistent.ordered (bill_of t s.consistent) finding code) ∙ there_at)).1

  module _ (stored : Stored) (bill : IsBillGraph stored.bill) (is : IsStoredOf t stored) where
    right : IsRight t
    right = record { children = right_of t s.consistent; apart = s.consistent.codes_apart; acyclic = s.consistent.acyclic }

    pub chain_told : (node mark : ℕ) (nodes : List ℕ) → node < length stored.bill.labels → label_of stored.bill.labels node ≡ code → mark ≡ finding_number stored.bill.labels stored.names finding → nodes ≡ node_chain stored.rollups.rolled mark node →
        map (label_of stored.bill.labels) nodes ≡ chain t code (holder_of finding)
    chain_told node mark nodes inside label numbers are =
        ap (map (label_of stored.bill.labels)) are
        ∙ ap (λ n. map (label_of stored.bill.labels) (node_chain stored.rollups.rolled n node)) numbers
        ∙ chain_is t right stored.bill (record { bill = bill; of = is.of.bill }) s.consistent.ordered (finding_number stored.bill.labels stored.names) (numbered t s stored bill is) stored.rollups is.rolled (λ n at. (is.of.owns n at).marks) finding node inside (subst (λ c. is_in finding (findings_at t c) ≡ true) (sym label) there_at)
        ∙ ap (λ c. chain t c (holder finding)) label
        ∙ ap (chain t code) (same_holder finding)
