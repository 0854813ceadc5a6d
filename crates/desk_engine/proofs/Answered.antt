-- What is stored of a code, as answers read it.
use Rattle.std.proofs.Common.{◌≡◌, ℕ, ◌<◌, true, List, length, sym, ap, ◌∙◌, subst}
use Rattle.std.proofs.lemmas.Bool.{or_right}
use Rattle.desk_graph.specs.Bill.{IsBillGraph}
use Rattle.desk_graph.specs.Graph.{label_of}
use Rattle.desk_rollup.specs.Numbers.{Rises, has, hop_numbers, load_numbers}
use Rattle.desk_rollup.specs.Values.{RolledValues, carried_by_node as node_carried, own_at, rolled_at}
use Rattle.desk_model.specs.Lists.{Lists, is_kept, is_material, is_part}
use Rattle.desk_findings.specs.Findings.{findings_at}
use Rattle.desk_findings.specs.Carried.{carried}
use Rattle.desk_findings.specs.Mass.{mass}
use Rattle.desk_findings.specs.Numbering.{AreNumbered, has_numbered}
use Rattle.desk_history.specs.Sound.{Sound}
use Rattle.desk_bridge.specs.Numbers.{finding_number}
use Rattle.desk_bridge.specs.Values.{HasOwnValues}
use Rattle.desk_bridge.proofs.Bridges.{labels_of}
use Rattle.desk_bridge.proofs.Numbers.{numbers_differ}
use Rattle.desk_bridge.proofs.Values.{values_of}
use Rattle.desk_engine.specs.declared.stored.Stored.{Stored}
use Rattle.desk_engine.specs.Answers.{AreValuesAt}
use Rattle.desk_engine.specs.Stored.{IsStoredOf}

pub part_kept : (t : Lists) (code : List ℕ) → is_part t code ≡ true → is_kept t code ≡ true
part_kept t code there = or_right (is_material t code) (is_part t code) there

module _ (t : Lists) (s : Sound t) (stored : Stored) (bill : IsBillGraph stored.bill) (is : IsStoredOf t stored) where
  -- no two findings have one number
  pub numbered : AreNumbered t (finding_number stored.bill.labels stored.names)
  numbered = numbers_differ t s.consistent stored.bill.labels stored.names (labels_of t stored.bill (record { bill = bill; of = is.of.bill })) is.of.named.named

  own_values : HasOwnValues t stored.bill (finding_number stored.bill.labels stored.names) (label_of stored.names) (own_at stored.rollups.owns)
  own_values = record {
    consistent = s.consistent;
    bridge = record { bill = bill; of = is.of.bill };
    numbered = numbered;
    owns = is.of.owns;
  }

  pub values_right : (code : List ℕ) (node : ℕ) (values : RolledValues) → node < length stored.bill.labels → label_of stored.bill.labels node ≡ code → values ≡ rolled_at stored.rollups.rolled node →
      AreValuesAt t stored.bill.labels stored.names code values
  values_right code node values there label kept =
      let told = values_of t stored.bill (finding_number stored.bill.labels stored.names) (label_of stored.names) stored.rollups own_values is.rolled node there in
      let rolled = is.rolled.rolled node there in
      record {
        weight = ap (λ v. v.weight) kept ∙ told.weight ∙ ap (mass t) label;
        rise = subst (λ v. Rises (hop_numbers v.hops)) (sym kept) rolled.hops_rise;
        found = λ n. ap (λ v. has (hop_numbers v.hops) n) kept ∙ told.found n ∙ ap (λ c. has_numbered (finding_number stored.bill.labels stored.names) (findings_at t c) n) label;
        loads_rise = subst (λ v. Rises (load_numbers v.loads)) (sym kept) rolled.loads_rise;
        loads = λ n. ap (λ v. node_carried v.loads n) kept ∙ told.loads n ∙ ap (carried t (label_of stored.names n)) label;
      }
