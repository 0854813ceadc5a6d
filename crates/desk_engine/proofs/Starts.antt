-- What is stored of sound tables: the roll-ups of all nodes are prepared, and not refused.
use Rattle.std.proofs.Common.{◌≡◌, ℕ, ◌+◌, ◌<◌, ◌≤◌, true, false, ◌&&◌, ◌||◌, ◌==◌, List, [], ◌∷◌, ◌++◌, get_or, length, map, Option, Some, None, option_map, refl, sym, ap, ◌∙◌, subst, arith}
use Rattle.std.specs.Prelude.{nat_le, nat_lt}
use Rattle.std.specs.List.{AllByRecursion}
use Rattle.std.proofs.lemmas.Bool.{and_parts, eq-eqb, false≢true, le-ltb, leb-true, lt-ltb, ne_eqb, or_parts}
use Rattle.desk_graph.specs.Bill.{IsBillGraph}
use Rattle.desk_graph.specs.Graph.{Graph, label_of}
use Rattle.desk_graph.specs.Reaches.{has_node}
use Rattle.desk_rollup.specs.declared.fault.RollFault.{RollFault}
use Rattle.desk_rollup.specs.declared.fault.RollFault.TheVariants.{MarksFull, WeightTooLarge}
use Rattle.desk_rollup.specs.Plan.{AreDistinct, CanPrepare, IsFirstTooLarge, IsRefused}
use Rattle.desk_rollup.specs.Values.{KeptValues, OwnValues, own_at, own_with}
use Rattle.desk_model.specs.declared.limits.TheConstants.{UNITS_LIMIT}
use Rattle.desk_model.specs.declared.rows.shipment.ShipmentRow.{ShipmentRow}
use Rattle.desk_model.specs.Forms.{are_units, is_shipment_row, is_year}
use Rattle.desk_model.specs.Lists.{Lists, is_kept, is_product}
use Rattle.desk_model.specs.Values.{is_code}
use Rattle.desk_model.proofs.Elements.{each_from_all, each_map}
use Rattle.desk_rows.specs.Rows.{IsByKey}
use Rattle.desk_findings.specs.Mass.{mass}
use Rattle.desk_history.specs.Sound.{IsConsistent, Sound}
use Rattle.desk_history.proofs.NamesKept.{names_of}
use Rattle.desk_history.proofs.SoundClauses.{forms_of}
use Rattle.desk_tonnage.specs.declared.entry.Entry.{Entry}
use Rattle.desk_tonnage.specs.declared.fault.MassFault.{MassFault}
use Rattle.desk_tonnage.specs.declared.fault.MassFault.TheVariants.{YearTooLarge}
use Rattle.desk_tonnage.specs.Entries.{entry_key, entry_key_cmp}
use Rattle.desk_tonnage.specs.Years.{too_heavy_entry_year as too_heavy_entries}
use Rattle.desk_bridge.specs.Years.{entries_of, shipment_entry}
use Rattle.desk_bridge.proofs.Years.{heavy, order}
use Rattle.desk_bridge.specs.Bridge.{IsBillOf}
use Rattle.desk_bridge.specs.Numbers.{AreNames, finding_number}
use Rattle.desk_bridge.specs.Values.{HasOwnValues}
use Rattle.desk_bridge.proofs.Numbers.{numbers_differ}
use Rattle.desk_bridge.proofs.Refusals.{first_large, too_many}
use Rattle.desk_bridge.proofs.Values.{start_prepared}
use Rattle.desk_bridge.specs.AfterEdit.{AreOwnOf, IsOwnOf}
use Rattle.desk_bridge.specs.OwnAfter.{AreOwnAt}
use Rattle.desk_bridge.proofs.Bridges.{labels_of}
use Rattle.desk_engine.proofs.Listed.{each_at, has_push}
use Rattle.desk_engine.proofs.Weights.{product_kept}

module _ (t : Lists) (s : Sound t) (g : Graph) (bill : IsBillGraph g) (of : IsBillOf t g) (names : List (List ℕ)) (named : AreNames t names) (nodes : List ℕ) (has : (node : ℕ) → has_node nodes node ≡ nat_lt node (length g.labels)) (distinct : AreDistinct nodes)
    (owns : List OwnValues) (at : AreOwnAt t g.labels names nodes owns) where
  all_told : HasOwnValues t g (finding_number g.labels names) (label_of names) (own_with owns [])
  all_told = record {
    consistent = s.consistent;
    bridge = record { bill = bill; of = of };
    numbered = numbers_differ t s.consistent g.labels names (labels_of t g (record { bill = bill; of = of })) named;
    owns = λ node inside. at.right [] node (has node ∙ lt-ltb node (length g.labels) inside);
  }

  pub start_can : CanPrepare g owns (record { owns = []; rolled = [] })
  start_can =
      start_prepared t g (finding_number g.labels names) (label_of names) owns all_told (subst AreDistinct (sym at.these) distinct) (λ node. ap (λ ns. has_node ns node) at.these ∙ has node)

  pub not_large : (node : ℕ) → IsFirstTooLarge g (own_with owns []) node → ⊥
  not_large node first = none_some (sym s.sums.parts_fit ∙ first_large t g (finding_number g.labels names) (label_of names) (own_with owns []) all_told node first)
    where
      none_some : {X : Type 0} {x : X} → None ≡ Some x → ⊥
      none_some e = cc

  pub no_large : (fault : RollFault) (node : ℕ) → fault ≡ WeightTooLarge node → (kept : KeptValues) → kept ≡ record { owns = []; rolled = [] } → IsRefused g (own_with owns kept.owns) fault → ⊥
  no_large fault node is kept none refused =
      not_large node (subst (λ k. IsRefused g (own_with owns k.owns) (WeightTooLarge node)) none (subst (IsRefused g (own_with owns kept.owns)) is refused))

  pub not_many : IsRefused g (own_with owns []) MarksFull → ⊥
  not_many refused =
      false≢true (sym s.sums.findings_fit ∙ too_many t g (finding_number g.labels names) (label_of names) (own_with owns []) all_told ∙ lt-ltb 4194304 _ refused.1)

  pub start_owns : (kept : KeptValues) → ((node : ℕ) → node < length g.labels → own_at kept.owns node ≡ own_with owns [] node) → AreOwnOf t g (finding_number g.labels names) (label_of names) (own_at kept.owns)
  start_owns kept same node inside = subst (IsOwnOf t (finding_number g.labels names) (label_of names) (label_of g.labels node)) (sym (same node inside)) (all_told.owns node inside)

-- nodes that are counted up
pub has_more : (old new : List ℕ) (id : ℕ) → new ≡ old ++ id ∷ [] → ((node : ℕ) → has_node old node ≡ nat_lt node id) → (node : ℕ) → has_node new node ≡ nat_lt node (id + 1)
has_more old new id is f node = ap (λ ns. has_node ns node) is ∙ has_push old id node ∙ ap (λ b. b || id == node) (f node) ∙ next
  where
    next : (nat_lt node id || id == node) ≡ nat_lt node (id + 1)
    next = grind arith

distinct_push : (nodes : List ℕ) (new : ℕ) → AreDistinct nodes → has_node nodes new ≡ false → AreDistinct (nodes ++ new ∷ [])
distinct_push [] new a e = (refl, tt)
distinct_push (first ∷ nodes) new a e =
    let parts = or_parts (first == new) (has_node nodes new) e in (
      has_push nodes new first ∙ ap (λ b. b || new == first) a.0 ∙ ne_eqb new first (λ same. false≢true (sym parts.0 ∙ eq-eqb first new (sym same))),
      distinct_push nodes new a.1 parts.1,
    )

pub distinct_more : (old new : List ℕ) (id : ℕ) → new ≡ old ++ id ∷ [] → ((node : ℕ) → has_node old node ≡ nat_lt node id) → AreDistinct old → AreDistinct new
distinct_more old new id is f a = subst AreDistinct (sym is) (distinct_push old id a (f id ∙ le-ltb id id (omega arith)))

-- the entries of the shipments
entries_units : (weigh : List ℕ → ℕ) (rows : List ShipmentRow) → AllByRecursion (λ row. is_shipment_row row ≡ true) rows → AllByRecursion (λ entry. (1 ≤ entry.units) × (entry.units ≤ 1000000000000)) (map (shipment_entry weigh) rows)
entries_units weigh [] a = tt
entries_units weigh (row ∷ rows) a =
    let range = and_parts (nat_le 1 row.units) (nat_le row.units UNITS_LIMIT) (and_parts (is_year row.year && is_code row.product) (are_units row.units) a.0).1 in
    ((leb-true 1 row.units range.0, leb-true row.units UNITS_LIMIT range.1), entries_units weigh rows a.1)

pub start_units : (t : Lists) → IsConsistent t → (entries : List Entry) → entries ≡ entries_of t → AllByRecursion (λ entry. (1 ≤ entry.units) × (entry.units ≤ 1000000000000)) entries
start_units t s entries is =
    subst (AllByRecursion (λ entry. (1 ≤ entry.units) × (entry.units ≤ 1000000000000))) (sym is)
    (entries_units (mass t) t.shipments (each_from_all is_shipment_row t.shipments (forms_of t s.in_form).shipments))

pub start_order : (t : Lists) → IsConsistent t → (entries : List Entry) → entries ≡ entries_of t → IsByKey entry_key entry_key_cmp entries
start_order t s entries is = subst (IsByKey entry_key entry_key_cmp) (sym is) (order t s.ordered)

pub start_light : (t : Lists) → Sound t → (entries : List Entry) → entries ≡ entries_of t → too_heavy_entries entries ≡ None
start_light t s entries is = ap too_heavy_entries is ∙ heavy t ∙ s.sums.years_fit

pub none_told : {G : Type 0} (o : Option ℕ) (fault : MassFault) → o ≡ None → option_map YearTooLarge o ≡ Some fault → G
none_told o fault none told = absurd_none (sym (ap (option_map YearTooLarge) none) ∙ told)
  where
    absurd_none : {G : Type 0} → None ≡ Some fault → G
    absurd_none e = cc

-- the product of each shipment is kept
pub shipment_kept : (t : Lists) → IsConsistent t → (place : ℕ) (d : ShipmentRow) → place < length t.shipments → is_kept t (get_or t.shipments place d).product ≡ true
shipment_kept t s place d low =
    each_at (λ row. is_kept t row.product ≡ true) t.shipments place d
    (each_map (λ row. is_product t row.product ≡ true) (λ row. is_kept t row.product ≡ true) (λ row there. product_kept t s row.product there) t.shipments (each_from_all (λ row. is_product t row.product) t.shipments (names_of t s.names_kept).shipments)) low
