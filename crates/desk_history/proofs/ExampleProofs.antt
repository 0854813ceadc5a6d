-- The examples hold by computation.
use Rattle.std.proofs.Common.{arith, ◌≡◌, ℕ, List, [], ◌∷◌, ◌++◌, length, refl, sym, ap, ◌∙◌, is_some, reverse, Bool, true, false, Err}
use Rattle.std.specs.Prelude.{◌==◌, None, Some, codes, map}
use Rattle.std.specs.Fmt.{digits}
use Rattle.std.specs.List.{AllByRecursion}
use Rattle.std.proofs.lemmas.Bool.{false≢true, true≢false}
use Rattle.desk_text.specs.Day.{date_text, six_months_after}
use Rattle.desk_law.specs.Annex.{annex_kinds, annex_number}
use Rattle.desk_law.specs.Kind.{kind_code, kind_place}
use Rattle.desk_law.specs.KindSet.{kinds_text, has_kind}
use Rattle.desk_law.specs.Exemption.{covers, is_valid_on}
use Rattle.desk_law.specs.InForce.{first_day}
use Rattle.desk_law.specs.Limit.{is_over, limit_of}
use Rattle.desk_law.specs.Restriction.{restriction_of}
use Rattle.desk_law.specs.Verdict.{verdict, verdict_by}
use Rattle.desk_findings.specs.Verdicts.{verdict_on}
use Rattle.desk_law.specs.Rule.{rule_code, rule_number}
use Rattle.desk_text.specs.Code.{code_cmp, code_of, exemption_number_of}
use Rattle.desk_text.specs.Cas.{cas_of}
use Rattle.desk_model.specs.Forms.{is_declaration_in_form, is_edit_in_form, is_exemption_row, is_material_row}
use Rattle.desk_history.specs.Sound.{are_names_kept, are_rows_in_form}
use Rattle.desk_model.specs.declared.edit.Edit.{Edit}
use Rattle.desk_model.specs.declared.edit.Edit.TheVariants.{Substance, Member, Declare, Part, Line, Unline, Product, Exemption, Unexempt, Candidate, Ship, Unship}
use Rattle.desk_model.specs.declared.rule_fault.RuleFault.{RuleFault}
use Rattle.desk_model.specs.declared.rule_fault.RuleFault.TheVariants.{FindingsFull, TextFull}
use Rattle.desk_findings.specs.Above.{content, is_above}
use Rattle.desk_history.specs.Affected.{is_affected, seeds_of_new}
use Rattle.desk_findings.specs.Chain.{chain_within}
use Rattle.desk_findings.specs.Duties.{duties}
use Rattle.desk_model.specs.Effect.{with_edit_entered, with_edit_made}
use Rattle.desk_model.specs.EditText.{edit_text, ticket_code}
use Rattle.desk_findings.specs.Findings.{finding_count, findings}
use Rattle.desk_findings.specs.Reaches.{reaches_within}
use Rattle.desk_history.specs.History.{tables_after}
use Rattle.desk_model.specs.Lists.{Lists}
use Rattle.desk_history.specs.Refused.{refused_by_bill, refused_by_rows, first_some, refuse_if, refused, ticket_reused, unknown_substance, unknown_material, unknown_part, unknown_product, unknown_exemption, name_taken, kind_changed, wrong_child, no_such_line, foreign_material, stale_declaration, masses_exceed, exemption_span, outside_annex, ship_below_zero, units_too_large, table_full, text_full, closes_cycle, total_too_large, findings_full, year_too_large}
use Rattle.desk_findings.specs.Rolled.{rolled_within}
use Rattle.desk_findings.specs.Share.{share}
use Rattle.desk_model.specs.Start.{start}
use Rattle.desk_history.specs.Step.{kept_number, step, step_new}
use Rattle.desk_findings.specs.Tonnage.{due_day, notices, tonnage}
use Rattle.desk_findings.specs.Totals.{has_too_many_findings, too_heavy_part, too_heavy_year}
use Rattle.desk_history.specs.Limits.{has_too_much_text, tables_over}
use Rattle.desk_history.specs.Sound.{Sound}
use Rattle.desk_model.specs.Lists.{line_key, line_key_cmp, member_key, member_key_cmp, shipment_key, shipment_key_cmp}
use Rattle.desk_model.proofs.Elements.{each_from_all}
use Rattle.desk_model.proofs.Order.{rises_from_sorted}
use Rattle.desk_history.proofs.SoundSteps.{IsConsistent-entered, Sound-start, Sound-step}
use Rattle.desk_model.proofs.Names.{name_from}
use Rattle.desk_model.specs.Examples.Desks.{article}
use Rattle.desk_history.specs.Examples.Affected.{AffectedExamples, HistoryExamples}
use Rattle.desk_history.specs.Examples.Desks.{answer_at}
use Rattle.desk_model.specs.Examples.Effects as effects
use Rattle.desk_history.specs.Examples.Sound as unsound
use Rattle.desk_history.specs.Examples.Limits.{LimitExamples, TableLimitExamples}
use Rattle.desk_history.specs.Examples.Refusals.{AcceptanceExamples, FirstExamples, OrderExamples, RefusalExamples, lone, lone_cycle, with_text}
use Rattle.desk_history.specs.Examples.Sound.{SoundExamples}
use Rattle.desk_history.specs.Examples.Limits.{levels, tower}
use Rattle.desk_history.specs.Examples.Tower.{TowerExamples, seventh, too_high}
use Rattle.desk_model.specs.declared.part_sort.PartSort.TheVariants.{Assembly}
use Rattle.desk_model.specs.declared.row.Row.TheVariants as row
use Rattle.desk_model.specs.Rows.{record_code, rows_of, table_number}
use Rattle.desk_findings.proofs.Bill.{chain-step}
use Rattle.desk_findings.proofs.Loads.{mass-step}
use Rattle.desk_history.proofs.Unsound.{heavy_breaks}
use Rattle.desk_history.specs.History.{PassesRows}
use Rattle.desk_history.specs.Sound.{IsConsistent}
use Rattle.desk_model.specs.declared.rows.part.PartRow.{PartRow}
use Rattle.desk_history.proofs.SoundClauses.{bill_of, parents_of}
use Rattle.desk_history.proofs.Unaffected.{mass_stays}

-- what the examples compute with
unfoldable pub examples : Bool
unfolding record_code refused_by_rows rows_of table_number annex_kinds annex_number are_names_kept are_rows_in_form cas_of chain_within closes_cycle code_of content covers date_text digits due_day duties edit_text with_edit_entered exemption_number_of exemption_span finding_count findings findings_full first_day foreign_material has_kind has_too_many_findings has_too_much_text is_above is_affected is_declaration_in_form is_edit_in_form is_exemption_row is_material_row is_over is_valid_on kept_number kind_changed kind_code kind_place kinds_text limit_of with_edit_made masses_exceed name_taken no_such_line notices outside_annex reaches_within refused restriction_of rolled_within rule_code rule_number seeds_of_new share ship_below_zero six_months_after stale_declaration start step table_full tables_over text_full ticket_code ticket_reused tonnage too_heavy_part too_heavy_year total_too_large units_too_large unknown_exemption unknown_material unknown_part unknown_product unknown_substance verdict verdict_by verdict_on wrong_child year_too_large
examples = true

sound_after : (t : Lists) (edits : List Edit) → Sound t → AllByRecursion (λ edit. is_edit_in_form edit ≡ true) edits → Sound (tables_after t edits)
sound_after t [] s forms = s
sound_after t (edit ∷ edits) s forms = sound_after (step t edit).1 edits (Sound-step t edit s forms.0) forms.1

sound_desk : Sound effects.desk
unfolding examples
sound_desk =
    sound_after start effects.edits Sound-start (each_from_all is_edit_in_form effects.edits
    (rw (name_from (codes "Tin") refl refl refl refl, name_from (codes "Brass") refl refl refl refl, name_from (codes "Copper") refl refl refl refl, name_from (codes "Set") refl refl refl refl, name_from (codes "Pin") refl refl refl refl, name_from (codes "Cable") refl refl refl refl, name_from (codes "Copper alloy") refl refl refl refl) refl))

sound_later : Sound effects.later
unfolding examples
sound_later =
    sound_after start (effects.edits ++ effects.changes) Sound-start (each_from_all is_edit_in_form (effects.edits ++ effects.changes)
    (rw (name_from (codes "Tin") refl refl refl refl, name_from (codes "Brass") refl refl refl refl, name_from (codes "Copper") refl refl refl refl, name_from (codes "Set") refl refl refl refl, name_from (codes "Pin") refl refl refl refl, name_from (codes "Cable") refl refl refl refl, name_from (codes "Copper alloy") refl refl refl refl, name_from (codes "Stannum") refl refl refl refl, name_from (codes "Yellow brass") refl refl refl refl, name_from (codes "Contact pin") refl refl refl refl) refl))

begins : ℕ → List ℕ → Bool
begins byte [] = false
begins byte (first ∷ bytes) = first == byte

has_tables : List ℕ → Bool
has_tables [] = false
has_tables (table ∷ tables) = true

-- `declare` begins with 100, and no other edit's word does; `E` is 69 and `D` is 68
not_sent : (edit : Edit) → codes "E:t1" ≡ ticket_code edit → edit_text unsound.solder ≡ edit_text edit → true ≡ false
unfolding examples begins
not_sent (Substance ticket code name cas) c t = ap (begins 100) t
not_sent (Member ticket substance rule factor) c t = ap (begins 100) t
not_sent (Declare declaration) c t = ap (begins 69) c
not_sent (Part ticket code sort name) c t = ap (begins 100) t
not_sent (Line ticket parent child count) c t = ap (begins 100) t
not_sent (Unline ticket parent child) c t = ap (begins 100) t
not_sent (Product ticket part kind) c t = ap (begins 100) t
not_sent (Exemption ticket exemption) c t = ap (begins 100) t
not_sent (Unexempt ticket row) c t = ap (begins 100) t
not_sent (Candidate ticket substance day) c t = ap (begins 100) t
not_sent (Ship ticket product year units) c t = ap (begins 100) t
not_sent (Unship ticket product year units) c t = ap (begins 100) t

-- `part` begins with 112
not_declared : (edit : Edit) → codes "D:ACME:7" ≡ ticket_code edit → edit_text (article (codes "t1") (codes "PIN")) ≡ edit_text edit → true ≡ false
unfolding examples begins
not_declared (Substance ticket code name cas) c t = ap (begins 68) c
not_declared (Member ticket substance rule factor) c t = ap (begins 68) c
not_declared (Declare declaration) c t = ap (begins 112) t
not_declared (Part ticket code sort name) c t = ap (begins 68) c
not_declared (Line ticket parent child count) c t = ap (begins 68) c
not_declared (Unline ticket parent child) c t = ap (begins 68) c
not_declared (Product ticket part kind) c t = ap (begins 68) c
not_declared (Exemption ticket exemption) c t = ap (begins 68) c
not_declared (Unexempt ticket row) c t = ap (begins 68) c
not_declared (Candidate ticket substance day) c t = ap (begins 68) c
not_declared (Ship ticket product year units) c t = ap (begins 68) c
not_declared (Unship ticket product year units) c t = ap (begins 68) c

-- refusal 19 is tried before refusal 20
texts_before_cycles : (text : List ℕ) → length text ≡ 67108864 → answer_at (with_text lone text) lone_cycle ≡ Err TextFull
unfolding examples
texts_before_cycles text e =
    let t = with_text lone text in
    let over : has_too_much_text (with_edit_entered t lone_cycle) ≡ true = rw e refl in
    ap (λ b. (step_new t lone_cycle (first_some (refuse_if b TextFull ∷ closes_cycle t lone_cycle ∷ total_too_large t lone_cycle ∷ findings_full t lone_cycle ∷ year_too_large t lone_cycle ∷ []))).0) over

-- the rules on the bill in their order
heavy_first : (t : Lists) (edit : Edit) (fault : RuleFault) → closes_cycle t edit ≡ None → total_too_large t edit ≡ Some fault → refused_by_bill t edit ≡ Some fault
unfolding refused_by_bill
heavy_first t edit fault e f = rw (e, f) refl

findings_first : (t : Lists) (edit : Edit) → closes_cycle t edit ≡ None → total_too_large t edit ≡ None → findings_full t edit ≡ Some FindingsFull → refused_by_bill t edit ≡ Some FindingsFull
unfolding refused_by_bill
findings_first t edit e f g = rw (e, f, g) refl

pub limit_examples : LimitExamples
unfolding examples
limit_examples = record {
  rule_21 = refl;
  below = refl;
  mass_below = refl;
  least_part = refl;
  whole_power = refl;
  less_power = refl;
  whole_year = refl;
  less_year = refl;
  least_year = refl;
  rule_23 = refl;
  three_units = refl;
  rule_18 = refl;
  room_in_others = refl;
  most_text = λ text e. rw e refl;
  too_much_text = λ text e. rw e refl;
  rule_19 = λ t edit e. rw e refl;
  rule_22 = λ t edit e. rw e refl;
}

pub table_limit_examples : TableLimitExamples
unfolding examples
table_limit_examples = record {
  limits = refl;
  other_limits = refl;
  substances = λ rows e. rw e refl;
  substances_over = λ rows e. rw e refl;
  members = λ rows e. rw e refl;
  members_over = λ rows e. rw e refl;
  materials = λ rows e. rw e refl;
  materials_over = λ rows e. rw e refl;
  parts = λ rows e f. rw (e, f) refl;
  parts_over = λ rows e f. rw (e, f) refl;
  lines = λ rows e. rw e refl;
  lines_over = λ rows e. rw e refl;
  products = λ rows e. rw e refl;
  products_over = λ rows e. rw e refl;
  exemptions = λ rows e. rw e refl;
  exemptions_over = λ rows e. rw e refl;
  candidates = λ rows e. rw e refl;
  candidates_over = λ rows e. rw e refl;
  shipments = λ rows e. rw e refl;
  shipments_over = λ rows e. rw e refl;
  tickets = λ rows e. rw e refl;
  tickets_over = λ rows e. rw e refl;
  lines_of_parent = λ lines e f. rw (e, f) refl;
  lines_of_parent_over = λ lines e f. rw (e, f) refl;
  first_table = λ t edit e. rw e refl;
  two_tables = λ rows others e f. rw (e, f) refl;
  most_findings = λ t e. rw e refl;
  too_many_findings = λ t e. rw e refl;
}

pub refusal_examples : RefusalExamples
unfolding examples
refusal_examples = record {
  rule_1 = refl;
  rule_1_declare = refl;
  rule_2_member = refl;
  rule_2_candidate = refl;
  rule_2_declare = refl;
  rule_3 = refl;
  rule_4_parent = refl;
  rule_4_child = refl;
  rule_4_unline = refl;
  rule_4_product = refl;
  rule_5_ship = refl;
  rule_5_unship = refl;
  rule_6 = refl;
  rule_7_declare = refl;
  rule_7_part = refl;
  rule_8 = refl;
  rule_9_article = refl;
  rule_9_assembly = refl;
  rule_10 = refl;
  rule_11 = refl;
  rule_12 = refl;
  rule_13 = refl;
  rule_14_days = refl;
  rule_14_ppm = refl;
  rule_15 = refl;
  rule_15_second = refl;
  rule_15_kinds = refl;
  rule_16 = refl;
  rule_16_no_entry = refl;
  rule_17 = refl;
  rule_20_itself = refl;
  rule_20 = refl;
}

pub first_examples : FirstExamples
unfolding examples
first_examples = record {
  rule_2 = refl;
  rule_7 = refl;
  rule_11 = refl;
  rule_11_second = refl;
  rule_12 = refl;
  rule_13 = refl;
}

pub acceptance_examples : AcceptanceExamples
unfolding examples
acceptance_examples = record {
  annex_four = refl;
  all_annex_four = refl;
  annex_three = refl;
  floor_alone = refl;
  cap_alone = refl;
  all_units = refl;
  equal_masses = refl;
  equal_number = refl;
  part_again = refl;
  line_again = refl;
  product_again = refl;
  like_declaration = refl;
  most_units = refl;
  repeated = refl;
  repeated_declaration = refl;
  repeated_shipment = refl;
  half_declared = refl;
  none_entered = refl;
}

pub order_examples : OrderExamples
unfolding examples
order_examples = record {
  reused_and_unknown = refl;
  reused_and_others = refl;
  unknown_and_taken = refl;
  unknown_and_heavy = refl;
  unknown_and_no_line = refl;
  wrong_and_cycle = refl;
  foreign_and_stale = refl;
  span_and_kinds = refl;
  taken_and_foreign = refl;
  foreign_and_taken = refl;
  stale_and_foreign = refl;
  stale_and_heavy = refl;
  no_material_and_full = refl;
  no_product_and_full = refl;
  wrong_and_full = refl;
  unknown_and_full = refl;
  changed_and_full = refl;
  no_line_and_full = refl;
  heavy_and_full = refl;
  kinds_and_full = refl;
  below_and_full = refl;
  large_and_full = refl;
  full_and_texts = λ text. refl;
  texts_and_cycle = texts_before_cycles;
  cycle_and_heavy = refl;
  heavy_and_others = heavy_first;
  findings_and_year = findings_first;
}

pub sound_examples : SoundExamples
unfolding examples has_tables
sound_examples = record {
  sound = sound_desk;
  sound_later = sound_later;
  substances = λ s. false≢true (rises_from_sorted code_cmp (map (λ row. row.code) (reverse effects.desk.substances)) s.consistent.ordered.substances);
  members = λ s. false≢true (rises_from_sorted member_key_cmp (map member_key (reverse effects.desk.members)) s.consistent.ordered.members);
  materials = λ s. false≢true (rises_from_sorted code_cmp (map (λ row. row.code) (reverse effects.desk.materials)) s.consistent.ordered.materials);
  parts = λ s. false≢true (rises_from_sorted code_cmp (map (λ row. row.code) (reverse effects.desk.parts)) s.consistent.ordered.parts);
  lines = λ s. false≢true (rises_from_sorted line_key_cmp (map line_key (reverse effects.desk.lines)) s.consistent.ordered.lines);
  products = λ s. false≢true (rises_from_sorted code_cmp (map (λ row. row.part) (reverse effects.desk.products)) s.consistent.ordered.products);
  exemptions = λ s. false≢true (rises_from_sorted code_cmp (map (λ row. row.terms.row) (reverse effects.desk.exemptions)) s.consistent.ordered.exemptions);
  candidates = λ s. false≢true (rises_from_sorted code_cmp (map (λ row. row.substance) (reverse effects.desk.candidates)) s.consistent.ordered.candidates);
  shipments = λ s. false≢true (rises_from_sorted shipment_key_cmp (map shipment_key (reverse effects.desk.shipments)) s.consistent.ordered.shipments);
  tickets = λ s. false≢true (rises_from_sorted code_cmp (map (λ row. row.code) (reverse effects.desk.tickets)) s.consistent.ordered.tickets);
  key_twice = λ s. false≢true (rises_from_sorted code_cmp (codes "SET" ∷ codes "SET" ∷ []) s.consistent.ordered.products);
  forms = refl;
  form = λ s. false≢true s.consistent.in_form;
  names = refl;
  name = λ s. false≢true s.consistent.names_kept;
  shared_code = λ s. false≢true s.consistent.codes_apart;
  heavy_substance = λ s. false≢true s.consistent.contents_fit;
  ends_before_it_begins = λ s. false≢true s.consistent.exemptions_fit;
  outside_annex = λ s. false≢true s.consistent.exemptions_fit;
  too_many_candidates = λ s. true≢false (ap has_tables s.limits.tables_fit);
  too_much_text = λ text e s. true≢false (sym (rw e refl) ∙ s.limits.texts_fit);
  part_of_itself = λ s. false≢true s.consistent.acyclic;
  too_heavy = λ s. true≢false (ap is_some s.sums.parts_fit);
  too_many_findings = λ t e s. true≢false (sym (rw e refl) ∙ s.sums.findings_fit);
  too_heavy_year = λ s. true≢false (ap is_some s.sums.years_fit);
  numbers = refl;
  second_number = λ s. false≢true s.consistent.numbered;
  declaration_as_sent = λ s. true≢false (not_sent s.consistent.tickets_of_edits.0.0 s.consistent.tickets_of_edits.0.2 s.consistent.tickets_of_edits.0.3);
  sent_as_declaration = λ s. true≢false (not_declared s.consistent.tickets_of_edits.0.0 s.consistent.tickets_of_edits.0.2 s.consistent.tickets_of_edits.0.3);
}

pub history_examples : HistoryExamples
unfolding examples
history_examples = record {
  eleven_edits = refl;
  nineteen_edits = refl;
  twenty_edits = refl;
  all_edits = refl;
  accepted_parts = refl;
  accepted_shipped = refl;
  accepted_pairs = refl;
  accepted_oxide = refl;
  taken_out = refl;
  nothing_to_clear = refl;
  two_edits = refl;
  five_edits = refl;
}

pub affected_examples : AffectedExamples
unfolding examples
affected_examples = record {
  affects_parent = refl;
  affects_users = refl;
  affects_itself = refl;
  affects_none = refl;
  affects_above = refl;
  repeated_affects = refl;
  others_affect = refl;
  cleared_affects = refl;
  new_candidate = refl;
  unheld_candidate = refl;
  candidate_again = refl;
}

sound_tower : Sound tower
unfolding examples
sound_tower =
    sound_after start levels Sound-start (each_from_all is_edit_in_form levels
    (rw (name_from (codes "U") refl refl refl refl, name_from (codes "A") refl refl refl refl, name_from (codes "L1") refl refl refl refl, name_from (codes "L2") refl refl refl refl, name_from (codes "L3") refl refl refl refl, name_from (codes "L4") refl refl refl refl, name_from (codes "L5") refl refl refl refl, name_from (codes "L6") refl refl refl refl, name_from (codes "L7") refl refl refl refl) refl))

seventh_passes : PassesRows tower seventh
unfolding examples
seventh_passes = record { in_form = refl; is_new = refl; by_rows = refl; by_cycle = refl }

too_high_consistent : IsConsistent too_high
too_high_consistent = IsConsistent-entered tower seventh sound_tower.consistent seventh_passes

pub tower_examples : TowerExamples
unfolding examples
tower_examples = record {
  passes = seventh_passes;
  consistent = too_high_consistent;
  bill = bill_of too_high too_high_consistent;
  unsound = λ s. true≢false (ap is_some s.sums.parts_fit);
  told = (28, row.Part (record { code = codes "L7"; sort = Assembly; name = codes "L7" }), omega arith, refl, (refl, refl, heavy_breaks too_high (record { code = codes "L7"; sort = Assembly; name = codes "L7" }) refl));
  by_lines = mass-step too_high (bill_of too_high too_high_consistent) (codes "L7");
  by_next = chain-step too_high (parents_of too_high too_high_consistent) too_high_consistent.acyclic (codes "U") (codes "L7");
  heavy = refl;
  others = mass_stays tower sound_tower.consistent seventh seventh_passes (codes "L6") refl;
  part_and_year = refl;
  year_too = refl;
  none_found = refl;
  two_found = refl;
}
