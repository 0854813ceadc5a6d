-- The clauses of soundness that speak of tables 1 to 9, apart from limits and sums, and what a change of one table keeps of them.
use Rattle.std.proofs.Common.{◌≡◌, ℕ, Bool, true, not, ◌&&◌, List, refl, ◌⊎◌, inl, inr, ⊎_elim}
use Rattle.std.specs.List.{list_all}
use Rattle.std.proofs.lemmas.Bool.{and_from, and_parts, or_left, or_right}
use Rattle.desk_text.specs.Code.{code_cmp}
use Rattle.desk_rows.specs.Rows.{IsByKey}
use Rattle.desk_model.specs.declared.rows.line.LineRow.{LineRow}
use Rattle.desk_findings.specs.Articles.{is_article, is_assembly}
use Rattle.desk_model.specs.Forms.{is_substance_row, is_member_row, is_material_row, is_part_row, is_line_row, is_product_row, is_exemption_row, is_candidate_row, is_shipment_row}
use Rattle.desk_model.specs.Lists.{Lists, is_material, is_part, is_product, is_substance, line_key, line_key_cmp, member_key, member_key_cmp, shipment_key, shipment_key_cmp}
use Rattle.desk_findings.specs.Bill.{IsBill, are_children_right, are_codes_apart, do_contents_fit, has_right_child, is_acyclic}
use Rattle.desk_findings.proofs.Bill.{HasParents, has_parents}
use Rattle.desk_findings.proofs.Children.{parents_kept, right_child_cases}
use Rattle.desk_history.specs.Sound.{IsConsistent, are_names_kept, are_rows_in_form}
use Rattle.desk_model.specs.Terms.{breaks_annex, breaks_span}
use Rattle.desk_model.proofs.Elements.{all_from_each, each_from_all, each_map}
use Rattle.desk_history.proofs.NamesKept.{NamesKept, names_of}

-- rows of their form
pub record FormsKept (t : Lists) : Type 0 where
  pub substances : list_all is_substance_row t.substances ≡ true
  pub members : list_all is_member_row t.members ≡ true
  pub materials : list_all is_material_row t.materials ≡ true
  pub parts : list_all is_part_row t.parts ≡ true
  pub lines : list_all is_line_row t.lines ≡ true
  pub products : list_all is_product_row t.products ≡ true
  pub exemptions : list_all is_exemption_row t.exemptions ≡ true
  pub candidates : list_all is_candidate_row t.candidates ≡ true
  pub shipments : list_all is_shipment_row t.shipments ≡ true

nine_true : (a b c d e f g h i : Bool) → (a && b && c && d && e && f && g && h && i) ≡ true → (a ≡ true) × (b ≡ true) × (c ≡ true) × (d ≡ true) × (e ≡ true) × (f ≡ true) × (g ≡ true) × (h ≡ true) × (i ≡ true)
nine_true a b c d e f g h i all =
    let s8 = and_parts (a && b && c && d && e && f && g && h) i all in
    let s7 = and_parts (a && b && c && d && e && f && g) h s8.0 in
    let s6 = and_parts (a && b && c && d && e && f) g s7.0 in
    let s5 = and_parts (a && b && c && d && e) f s6.0 in
    let s4 = and_parts (a && b && c && d) e s5.0 in
    let s3 = and_parts (a && b && c) d s4.0 in
    let s2 = and_parts (a && b) c s3.0 in
    let s1 = and_parts a b s2.0 in
    (s1.0, s1.1, s2.1, s3.1, s4.1, s5.1, s6.1, s7.1, s8.1)

pub forms_of : (t : Lists) → are_rows_in_form t ≡ true → FormsKept t
unfolding are_rows_in_form
forms_of t e =
    let parts =
    nine_true (list_all is_substance_row t.substances) (list_all is_member_row t.members) (list_all is_material_row t.materials) (list_all is_part_row t.parts) (list_all is_line_row t.lines) (list_all is_product_row t.products)
    (list_all is_exemption_row t.exemptions) (list_all is_candidate_row t.candidates) (list_all is_shipment_row t.shipments) e in
    record {
      substances = parts.0;
      members = parts.1;
      materials = parts.2;
      parts = parts.3;
      lines = parts.4;
      products = parts.5;
      exemptions = parts.6;
      candidates = parts.7;
      shipments = parts.8;
    }

pub forms_from : (t : Lists) → FormsKept t → are_rows_in_form t ≡ true
unfolding are_rows_in_form
forms_from t f = rw (f.substances, f.members, f.materials, f.parts, f.lines, f.products, f.exemptions, f.candidates, f.shipments) refl

pub names_from : (t : Lists) → NamesKept t → are_names_kept t ≡ true
unfolding are_names_kept
names_from t n = rw (n.members, n.materials, n.lines, n.products, n.candidates, n.shipments) refl

-- rows in the order of their keys
pub record RowsOrdered (t : Lists) : Type 0 where
  pub substances : IsByKey (λ row. row.code) code_cmp t.substances
  pub members : IsByKey member_key member_key_cmp t.members
  pub materials : IsByKey (λ row. row.code) code_cmp t.materials
  pub parts : IsByKey (λ row. row.code) code_cmp t.parts
  pub lines : IsByKey line_key line_key_cmp t.lines
  pub products : IsByKey (λ row. row.part) code_cmp t.products
  pub exemptions : IsByKey (λ row. row.terms.row) code_cmp t.exemptions
  pub candidates : IsByKey (λ row. row.substance) code_cmp t.candidates
  pub shipments : IsByKey shipment_key shipment_key_cmp t.shipments

pub record IsGood (t : Lists) : Type 0 where
  pub ordered : RowsOrdered t
  pub forms : FormsKept t
  pub names : NamesKept t
  pub apart : are_codes_apart t ≡ true
  pub masses : do_contents_fit t ≡ true
  pub exemptions : list_all (λ row. not (breaks_span row.terms) && not (breaks_annex row.terms)) t.exemptions ≡ true
  pub acyclic : is_acyclic t ≡ true

pub good_of : (t : Lists) → IsConsistent t → IsGood t
good_of t s = record {
  ordered = record {
    substances = s.ordered.substances;
    members = s.ordered.members;
    materials = s.ordered.materials;
    parts = s.ordered.parts;
    lines = s.ordered.lines;
    products = s.ordered.products;
    exemptions = s.ordered.exemptions;
    candidates = s.ordered.candidates;
    shipments = s.ordered.shipments;
  };
  forms = forms_of t s.in_form;
  names = names_of t s.names_kept;
  apart = s.codes_apart;
  masses = s.contents_fit;
  exemptions = s.exemptions_fit;
  acyclic = s.acyclic;
}

-- what the laws on the bill ask for
pub right_of : (t : Lists) → IsConsistent t → are_children_right t ≡ true
right_of t s = (names_of t s.names_kept).lines

pub bill_of : (t : Lists) → IsConsistent t → IsBill t
bill_of t s = record { parents = parents_kept t (right_of t s); acyclic = s.acyclic }

pub parents_of : (t : Lists) → IsConsistent t → HasParents t
parents_of t s = has_parents t (bill_of t s).parents

-- what the first tables keep the second keep too
pub record Grows (t u : Lists) : Type 0 where
  pub substances : (code : List ℕ) → is_substance t code ≡ true → is_substance u code ≡ true
  pub materials : (code : List ℕ) → is_material t code ≡ true → is_material u code ≡ true
  pub parts : (code : List ℕ) → is_part t code ≡ true → is_part u code ≡ true
  pub articles : (code : List ℕ) → is_article t code ≡ true → is_article u code ≡ true
  pub assemblies : (code : List ℕ) → is_assembly t code ≡ true → is_assembly u code ≡ true
  pub products : (code : List ℕ) → is_product t code ≡ true → is_product u code ≡ true

-- the names in the rows of the first tables are kept in the second
pub record NamesIn (t u : Lists) : Type 0 where
  pub members : list_all (λ member. is_substance u member.substance) t.members ≡ true
  pub materials : list_all (λ material. list_all (λ held. is_substance u held.substance) material.substances) t.materials ≡ true
  pub lines : list_all (has_right_child u) t.lines ≡ true
  pub products : list_all (λ product. is_part u product.part) t.products ≡ true
  pub candidates : list_all (λ candidate. is_substance u candidate.substance) t.candidates ≡ true
  pub shipments : list_all (λ shipment. is_product u shipment.product) t.shipments ≡ true

all_map : {X : Type 0} (p q : X → Bool) → ((x : X) → p x ≡ true → q x ≡ true) → (xs : List X) → list_all p xs ≡ true → list_all q xs ≡ true
all_map p q f xs e = all_from_each q xs (each_map (λ x. p x ≡ true) (λ x. q x ≡ true) f xs (each_from_all p xs e))

pub right_child_from : (u : Lists) (line : LineRow) → ((is_article u line.parent ≡ true) × (is_material u line.child ≡ true)) ⊎ ((is_assembly u line.parent ≡ true) × (is_part u line.child ≡ true)) → has_right_child u line ≡ true
right_child_from u line (inl h) =
    or_left (is_article u line.parent && is_material u line.child) (is_assembly u line.parent && is_part u line.child) (and_from (is_article u line.parent) (is_material u line.child) h.0 h.1)
right_child_from u line (inr h) =
    or_right (is_article u line.parent && is_material u line.child) (is_assembly u line.parent && is_part u line.child) (and_from (is_assembly u line.parent) (is_part u line.child) h.0 h.1)

pub names_grow : (t u : Lists) → Grows t u → NamesKept t → NamesIn t u
names_grow t u g n = record {
  members = all_map (λ member. is_substance t member.substance) (λ member. is_substance u member.substance) (λ member. g.substances member.substance) t.members n.members;
  materials =
      all_map (λ material. list_all (λ held. is_substance t held.substance) material.substances) (λ material. list_all (λ held. is_substance u held.substance) material.substances)
      (λ material. all_map (λ held. is_substance t held.substance) (λ held. is_substance u held.substance) (λ held. g.substances held.substance) material.substances)
      t.materials n.materials;
  lines =
      all_map (has_right_child t) (has_right_child u)
      (λ line e. right_child_from u line (⊎_elim (λ h. inl (g.articles line.parent h.0, g.materials line.child h.1)) (λ h. inr (g.assemblies line.parent h.0, g.parts line.child h.1)) (right_child_cases t line e)))
      t.lines n.lines;
  products = all_map (λ product. is_part t product.part) (λ product. is_part u product.part) (λ product. g.parts product.part) t.products n.products;
  candidates = all_map (λ candidate. is_substance t candidate.substance) (λ candidate. is_substance u candidate.substance) (λ candidate. g.substances candidate.substance) t.candidates n.candidates;
  shipments = all_map (λ shipment. is_product t shipment.product) (λ shipment. is_product u shipment.product) (λ shipment. g.products shipment.product) t.shipments n.shipments;
}
