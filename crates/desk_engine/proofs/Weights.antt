-- What products weigh: by the kept values of their nodes before an edit, and by the planned ones after it.
use Rattle.std.proofs.Common.{◌≡◌, ℕ, ◌<◌, true, false, ◌==◌, List, [], get_or, ◌∷◌, ◌++◌, length, map, Option, Some, None, is_some, refl, sym, ap, ◌∙◌, subst, inl, inr, arith}
use Rattle.std.specs.Prelude.{slice_index}
use Rattle.std.specs.List.{AllByRecursion}
use Rattle.std.specs.Option.{option_map_or}
use Rattle.std.proofs.lemmas.Bool.{cases_Bool, eqb-true, false_from_ne_true, false≢true, or_right}
use Rattle.std.proofs.lemmas.List.{get_or_append_left, length-append}
use Rattle.desk_text.specs.Code.{code_cmp, same_code}
use Rattle.desk_rows.specs.Rows.{row_of, with_row}
use Rattle.desk_rows.proofs.Lookups.{kept-with_row, row_of-with_row, row_of-with_row_other}
use Rattle.desk_graph.specs.Bill.{IsBillGraph}
use Rattle.desk_graph.specs.Graph.{Graph, label_of}
use Rattle.desk_graph.specs.Planned.{BillEdit, graph_after}
use Rattle.desk_graph.specs.Reaches.{has_node}
use Rattle.desk_rollup.specs.Plan.{AreRolledUp, PlannedValues}
use Rattle.desk_rollup.specs.Values.{KeptValues, own_at, own_with, rolled_at}
use Rattle.desk_model.specs.declared.edit.Edit.{Edit}
use Rattle.desk_model.specs.declared.rows.product.ProductRow.{ProductRow}
use Rattle.desk_model.specs.declared.rows.shipment.ShipmentRow.{ShipmentRow}
use Rattle.desk_model.specs.Effect.{with_edit_entered}
use Rattle.desk_model.specs.Lists.{Lists, is_kept, is_material, is_part, is_product}
use Rattle.desk_model.proofs.Elements.{each_from_all}
use Rattle.desk_model.proofs.Kept.{code_cmp_total, kept_each, same_code-true}
use Rattle.desk_findings.specs.Mass.{mass, own_mass}
use Rattle.desk_history.specs.Affected.{is_affected}
use Rattle.desk_history.specs.History.{PassesRows}
use Rattle.desk_history.specs.Rising.{changes_shipments}
use Rattle.desk_history.specs.Sound.{IsConsistent, Sound}
use Rattle.desk_history.proofs.NamesKept.{names_of}
use Rattle.desk_history.proofs.Unaffected.{mass_stays}
use Rattle.desk_history.proofs.Untouched.{same_shipments}
use Rattle.desk_tonnage.specs.declared.product_mass.ProductMass.{ProductMass}
use Rattle.desk_tonnage.specs.Masses.{with_masses}
use Rattle.desk_bridge.specs.AfterEdit.{AreOwnOf}
use Rattle.desk_bridge.specs.Bridge.{IsBillOf, IsNumbered, node_of}
use Rattle.desk_bridge.specs.Numbers.{AreNames, finding_number}
use Rattle.desk_bridge.specs.Values.{HasOwnValues}
use Rattle.desk_bridge.specs.Years.{entries_of, shipment_entry}
use Rattle.desk_bridge.proofs.Bridges.{labels_of, right_tables}
use Rattle.desk_bridge.proofs.Chains.{has_node-at}
use Rattle.desk_bridge.proofs.Found.{node_of-kept}
use Rattle.desk_bridge.proofs.Numbers.{numbers_differ}
use Rattle.desk_bridge.proofs.RolledAlike.{rolled_agree}
use Rattle.desk_bridge.proofs.Values.{values_of}
use Rattle.desk_engine.specs.declared.stored.Stored.{Stored}
use Rattle.desk_engine.specs.Masses.{AreAllWeighed, AreMasses, AreWeights, IsWeighed, IsWeighedIfPlanned}
use Rattle.desk_engine.specs.Planned.{IsRolledFor}
use Rattle.desk_engine.specs.Stored.{IsStoredOf}
use Rattle.desk_engine.proofs.Listed.{each_at, has_push}
use Rattle.desk_engine.proofs.Planned.{planned_labels}

-- the kept weights are masses
module _ (t : Lists) (s : Sound t) (g : Graph) (bill : IsBillGraph g) (of : IsBillOf t g) (names : List (List ℕ)) (named : AreNames t names) (kept : KeptValues) (owns : AreOwnOf t g (finding_number g.labels names) (label_of names) (own_at kept.owns)) where
  kept_values : HasOwnValues t g (finding_number g.labels names) (label_of names) (own_at kept.owns)
  kept_values = record {
    consistent = s.consistent;
    bridge = record { bill = bill; of = of };
    numbered = numbers_differ t s.consistent g.labels names (labels_of t g (record { bill = bill; of = of })) named;
    owns = owns;
  }

  pub kept_masses : AreRolledUp g kept → AreMasses t g kept
  kept_masses rolled = record {
    size = rolled.rolled_size;
    weights = λ node inside. (values_of t g (finding_number g.labels names) (label_of names) kept kept_values rolled node inside).weight;
  }

pub stored_masses : (t : Lists) → Sound t → (stored : Stored) → IsBillGraph stored.bill → IsStoredOf t stored → AreMasses t stored.bill stored.rollups
stored_masses t s stored bill is = kept_masses t s stored.bill bill is.of.bill stored.names is.of.named.named stored.rollups is.of.owns is.rolled

-- the weight of the node of a kept code
pub mass_at : (t : Lists) (g : Graph) (kept : KeptValues) → IsNumbered t g.labels → AreMasses t g kept → (code : List ℕ) → is_kept t code ≡ true → (rolled_at kept.rolled (node_of g.labels code)).weight ≡ mass t code
mass_at t g kept numbered masses code there =
    let node = node_of-kept t g.labels numbered code there in
    masses.weights (node_of g.labels code) node.0 ∙ ap (mass t) node.1

pub has_values : (t : Lists) (g : Graph) (kept : KeptValues) → IsNumbered t g.labels → AreMasses t g kept → (code : List ℕ) → is_kept t code ≡ true → node_of g.labels code < length kept.rolled
has_values t g kept numbered masses code there = omega (arith, (node_of-kept t g.labels numbered code there).0, masses.size)

-- products are kept
pub product_kept : (t : Lists) → IsConsistent t → (code : List ℕ) → is_product t code ≡ true → is_kept t code ≡ true
product_kept t s code there =
    or_right (is_material t code) (is_part t code)
    (kept_each (λ row. row.part) (λ c. is_part t c ≡ true) code t.products (each_from_all (λ row. is_part t row.part) t.products (names_of t s.names_kept).products) there)

pub product_row_kept : (t : Lists) → IsConsistent t → (place : ℕ) (d : ProductRow) → place < length t.products → is_kept t (get_or t.products place d).part ≡ true
product_row_kept t s place d low =
    let part = get_or t.products place d in
    or_right (is_material t part.part) (is_part t part.part) (each_at (λ row. is_part t row.part ≡ true) t.products place d (each_from_all (λ row. is_part t row.part) t.products (names_of t s.names_kept).products) low)

-- a mass that is put in
some_inside : {X : Type 0} {x y : X} → Some x ≡ Some y → x ≡ y
some_inside e = cc

module _ (labels : List (List ℕ)) (given : PlannedValues) (masses new : List ProductMass) (weighed : ProductMass) (put : new ≡ with_row (λ one. one.product) code_cmp weighed masses) where
  found_new : row_of (λ one. one.product) code_cmp weighed.product new ≡ Some weighed
  found_new = ap (row_of (λ one. one.product) code_cmp weighed.product) put ∙ row_of-with_row (λ one. one.product) code_cmp code_cmp_total weighed masses

  pub here_weighed : IsWeighed new weighed.product
  here_weighed = ap is_some found_new

  pub stays_weighed : (product : List ℕ) → IsWeighed masses product → IsWeighed new product
  stays_weighed product there = ap (λ rows. is_some (row_of (λ one. one.product) code_cmp product rows)) put ∙ kept-with_row (λ one. one.product) code_cmp code_cmp_total product weighed masses there

  pub weights_put : (place : ℕ) → place < length given.nodes → label_of labels (slice_index given.nodes place) ≡ weighed.product → weighed.mass ≡ (rolled_at given.rolled place).weight → AreWeights labels given masses → AreWeights labels given new
  weights_put place low label weight before product other found =
      elim (cases_Bool (same_code weighed.product product)) [
        | inl same ↦
            let is = same_code-true weighed.product product same in
            let one : weighed ≡ other = some_inside (sym (subst (λ p. row_of (λ one. one.product) code_cmp p new ≡ Some weighed) is found_new) ∙ found) in
            (place, low, label ∙ is, sym (ap (λ w. w.mass) one) ∙ weight)
        | inr away ↦ before product other (sym (ap (row_of (λ one. one.product) code_cmp product) put ∙ row_of-with_row_other (λ one. one.product) code_cmp code_cmp_total weighed product masses away) ∙ found)
      ]

-- nodes that are looked at in turn
pub all_more : (t : Lists) (labels : List (List ℕ)) (nodes more : List ℕ) (node : ℕ) (masses new : List ProductMass) → more ≡ nodes ++ node ∷ [] → ((product : List ℕ) → IsWeighed masses product → IsWeighed new product) →
    (is_product t (label_of labels node) ≡ true → IsWeighed new (label_of labels node)) → AreAllWeighed t labels nodes masses → AreAllWeighed t labels more new
all_more t labels nodes more node masses new is stays here before other there product =
    elim (cases_Bool (has_node nodes other)) [
      | inl earlier ↦ stays (label_of labels other) (before other earlier product)
      | inr away ↦
          let last : (node == other) ≡ true = rw away at (sym (ap (λ ns. has_node ns other) is ∙ has_push nodes node other) ∙ there) in
          let same = eqb-true node other last in
          subst (λ n. IsWeighed new (label_of labels n)) same (here (subst (λ n. is_product t (label_of labels n) ≡ true) (sym same) product))
    ]

-- a product's node after a plan is that before it, and no other has its code
module _ (t : Lists) (stored : Stored) (is : IsStoredOf t stored) (labels more : List (List ℕ)) (grows : labels ≡ stored.bill.labels ++ more) (product : List ℕ) (kept : is_kept t product ≡ true) where
  pub node_there : (node_of stored.bill.labels product < length labels) × (label_of labels (node_of stored.bill.labels product) ≡ product)
  node_there =
      let node = node_of-kept t stored.bill.labels is.of.bill.numbered product kept in (
        omega (arith, node.0, ap length grows, length-append stored.bill.labels more),
        ap (λ ls. label_of ls (node_of stored.bill.labels product)) grows ∙ get_or_append_left stored.bill.labels more [] (node_of stored.bill.labels product) node.0 ∙ node.1,
      )

  pub one_node : (g : Graph) → IsBillGraph g → g.labels ≡ labels → (node : ℕ) → node < length labels → label_of labels node ≡ product → node ≡ node_of stored.bill.labels product
  one_node g bill same node inside e =
      bill.unique node (node_of stored.bill.labels product) (subst (λ ls. node < length ls) (sym same) inside) (subst (λ ls. node_of stored.bill.labels product < length ls) (sym same) node_there.0)
      (subst (λ ls. label_of ls node ≡ label_of ls (node_of stored.bill.labels product)) (sym same) (e ∙ sym node_there.1))

-- products in the plan are weighed where each product is, if it is in the plan
pub all_products : (t : Lists) (labels : List (List ℕ)) (nodes : List ℕ) (masses : List ProductMass) (rows : List ProductRow) → rows ≡ t.products → AllByRecursion (λ row. IsWeighedIfPlanned labels nodes masses row.part) rows → AreAllWeighed t labels nodes masses
all_products t labels nodes masses rows is a node has there =
    kept_each (λ row. row.part) (IsWeighedIfPlanned labels nodes masses) (label_of labels node) rows a (subst (λ list. is_some (row_of (λ row. row.part) code_cmp (label_of labels node) list) ≡ true) (sym is) there) node has refl

-- masses of all products that an edit affects make the entries of the shipments after it
module _ (t : Lists) (edit : Edit) (s : Sound t) (passes : PassesRows t edit) (stored : Stored) (is : IsStoredOf t stored) (plan : BillEdit) (names : List (List ℕ)) (given : PlannedValues)
    (rolled : IsRolledFor t edit (graph_after plan stored.bill) names stored.rollups given) (masses : List ProductMass) (weights : AreWeights (graph_after plan stored.bill).labels given masses)
    (all : AreAllWeighed t (graph_after plan stored.bill).labels given.nodes masses) where
  -- a planned weight is the mass after the edit
  planned_mass : (place : ℕ) → place < length given.nodes → (rolled_at given.rolled place).weight ≡ mass (with_edit_entered t edit) (label_of (graph_after plan stored.bill).labels (slice_index given.nodes place))
  planned_mass place low =
      let node = slice_index given.nodes place in
      let inside : node < length (graph_after plan stored.bill).labels = subst (λ n. node < n) rolled.rolls.count (rolled.rolls.inside node (has_node-at given.nodes place 0 low)) in
      (rolled.rolls.replaced place low).weight
      ∙ rolled_agree (with_edit_entered t edit) (right_tables (with_edit_entered t edit) rolled.values.consistent) (graph_after plan stored.bill) rolled.values.bridge (λ n. (own_with given.owns stored.rollups.owns n).weight) (own_mass (with_edit_entered t edit)) (λ n at. (rolled.values.owns n at).weight) node inside

  -- the node of a product that is kept before the edit
  node_after : (product : List ℕ) → is_product t product ≡ true → (node_of stored.bill.labels product < length (graph_after plan stored.bill).labels) × (label_of (graph_after plan stored.bill).labels (node_of stored.bill.labels product) ≡ product)
  node_after product there =
      let node = node_of-kept t stored.bill.labels is.of.bill.numbered product (product_kept t s.consistent product there) in
      let longer = planned_labels plan stored.bill in (
        omega (arith, node.0, ap length longer, length-append stored.bill.labels plan.labels),
        ap (λ ls. label_of ls (node_of stored.bill.labels product)) longer ∙ get_or_append_left stored.bill.labels plan.labels [] (node_of stored.bill.labels product) node.0 ∙ node.1,
      )

  unaffected : (product : List ℕ) → is_product t product ≡ true → row_of (λ one. one.product) code_cmp product masses ≡ None → is_affected t edit product ≡ false
  unaffected product there none =
      let node = node_after product there in
      false_from_ne_true (is_affected t edit product)
      (λ affected.
      let has : has_node given.nodes (node_of stored.bill.labels product) ≡ true = rolled.affected (node_of stored.bill.labels product) node.0 ∙ ap (is_affected t edit) node.1 ∙ affected in
      let weighed : IsWeighed masses product = subst (IsWeighed masses) node.1 (all (node_of stored.bill.labels product) has (ap (is_product t) node.1 ∙ there)) in
      false≢true (sym (ap is_some none) ∙ weighed))

  new_mass : (product : List ℕ) → is_product t product ≡ true → (o : Option ProductMass) → row_of (λ one. one.product) code_cmp product masses ≡ o → mass (with_edit_entered t edit) product ≡ option_map_or (λ one. one.mass) o (mass t product)
  new_mass product there None e = mass_stays t s.consistent edit passes product (unaffected product there e)
  new_mass product there (Some weighed) e =
      let at = weights product weighed e in
      sym (at.3 ∙ planned_mass at.0 at.1 ∙ ap (mass (with_edit_entered t edit)) at.2)

  weighed_rows : (rows : List ShipmentRow) → AllByRecursion (λ row. is_product t row.product ≡ true) rows → map (shipment_entry (mass (with_edit_entered t edit))) rows ≡ with_masses masses (map (shipment_entry (mass t)) rows)
  weighed_rows [] a = refl
  weighed_rows (row ∷ rows) a =
      let same = new_mass row.product a.0 (row_of (λ one. one.product) code_cmp row.product masses) refl in
      λ i. record { year = row.year; product = row.product; units = row.units; mass = same i } ∷ weighed_rows rows a.1 i

  pub reweighed : changes_shipments edit ≡ false → entries_of (with_edit_entered t edit) ≡ with_masses masses (entries_of t)
  reweighed none =
      ap (map (shipment_entry (mass (with_edit_entered t edit)))) (same_shipments t edit none)
      ∙ weighed_rows t.shipments (each_from_all (λ row. is_product t row.product) t.shipments (names_of t s.consistent.names_kept).shipments)
