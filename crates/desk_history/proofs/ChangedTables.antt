-- What a change of one table keeps of the clauses of soundness.
use Rattle.std.proofs.Common.{◌≡◌, true, not, ◌&&◌, List}
use Rattle.std.specs.List.{list_all}
use Rattle.desk_text.specs.Code.{code_cmp}
use Rattle.desk_rows.specs.Rows.{IsByKey}
use Rattle.desk_model.specs.declared.rows.substance.SubstanceRow.{SubstanceRow}
use Rattle.desk_model.specs.declared.rows.member.MemberRow.{MemberRow}
use Rattle.desk_model.specs.declared.rows.material.MaterialRow.{MaterialRow}
use Rattle.desk_model.specs.declared.rows.part.PartRow.{PartRow}
use Rattle.desk_model.specs.declared.rows.line.LineRow.{LineRow}
use Rattle.desk_model.specs.declared.rows.product.ProductRow.{ProductRow}
use Rattle.desk_model.specs.declared.rows.exemption.ExemptionRow.{ExemptionRow}
use Rattle.desk_model.specs.declared.rows.candidate.CandidateRow.{CandidateRow}
use Rattle.desk_model.specs.declared.rows.shipment.ShipmentRow.{ShipmentRow}
use Rattle.desk_model.specs.Content.{holds_too_much}
use Rattle.desk_model.specs.Forms.{is_substance_row, is_member_row, is_material_row, is_part_row, is_line_row, is_product_row, is_exemption_row, is_candidate_row, is_shipment_row}
use Rattle.desk_model.specs.Lists.{Lists, is_material, is_part, is_product, is_substance, line_key, line_key_cmp, member_key, member_key_cmp, shipment_key, shipment_key_cmp}
use Rattle.desk_findings.specs.Reaches.{reaches}
use Rattle.desk_findings.specs.Bill.{has_right_child}
use Rattle.desk_model.specs.Terms.{breaks_annex, breaks_span}
use Rattle.desk_history.proofs.SoundClauses.{Grows, IsGood, names_grow}

pub good-substances : (t : Lists) (rows : List SubstanceRow) → IsGood t → IsByKey (λ row. row.code) code_cmp rows → list_all is_substance_row rows ≡ true → Grows t (record t { substances = rows }) → IsGood (record t { substances = rows })
good-substances t rows g by_key forms grows =
    let inside = names_grow t (record t { substances = rows }) grows g.names in
    record {
      ordered = record {
        substances = by_key;
        members = g.ordered.members;
        materials = g.ordered.materials;
        parts = g.ordered.parts;
        lines = g.ordered.lines;
        products = g.ordered.products;
        exemptions = g.ordered.exemptions;
        candidates = g.ordered.candidates;
        shipments = g.ordered.shipments;
      };
      forms = record {
        substances = forms;
        members = g.forms.members;
        materials = g.forms.materials;
        parts = g.forms.parts;
        lines = g.forms.lines;
        products = g.forms.products;
        exemptions = g.forms.exemptions;
        candidates = g.forms.candidates;
        shipments = g.forms.shipments;
      };
      names = record {
        members = inside.members;
        materials = inside.materials;
        lines = inside.lines;
        products = inside.products;
        candidates = inside.candidates;
        shipments = inside.shipments;
      };
      apart = g.apart;
      masses = g.masses;
      exemptions = g.exemptions;
      acyclic = g.acyclic;
    }

pub good-members : (t : Lists) (rows : List MemberRow) → IsGood t → IsByKey member_key member_key_cmp rows → list_all is_member_row rows ≡ true → list_all (λ member. is_substance t member.substance) rows ≡ true → IsGood (record t { members = rows })
good-members t rows g by_key forms named =
    record {
      ordered = record {
        substances = g.ordered.substances;
        members = by_key;
        materials = g.ordered.materials;
        parts = g.ordered.parts;
        lines = g.ordered.lines;
        products = g.ordered.products;
        exemptions = g.ordered.exemptions;
        candidates = g.ordered.candidates;
        shipments = g.ordered.shipments;
      };
      forms = record {
        substances = g.forms.substances;
        members = forms;
        materials = g.forms.materials;
        parts = g.forms.parts;
        lines = g.forms.lines;
        products = g.forms.products;
        exemptions = g.forms.exemptions;
        candidates = g.forms.candidates;
        shipments = g.forms.shipments;
      };
      names = record {
        members = named;
        materials = g.names.materials;
        lines = g.names.lines;
        products = g.names.products;
        candidates = g.names.candidates;
        shipments = g.names.shipments;
      };
      apart = g.apart;
      masses = g.masses;
      exemptions = g.exemptions;
      acyclic = g.acyclic;
    }

pub good-materials : (t : Lists) (rows : List MaterialRow) → IsGood t → IsByKey (λ row. row.code) code_cmp rows → list_all is_material_row rows ≡ true → list_all (λ material. list_all (λ held. is_substance t held.substance) material.substances) rows ≡ true → Grows t (record t { materials = rows }) → list_all (λ part. not (is_material (record t { materials = rows }) part.code)) t.parts ≡ true → list_all (λ material. not (holds_too_much material.mass material.substances)) rows ≡ true → IsGood (record t { materials = rows })
good-materials t rows g by_key forms named grows apart masses =
    let inside = names_grow t (record t { materials = rows }) grows g.names in
    record {
      ordered = record {
        substances = g.ordered.substances;
        members = g.ordered.members;
        materials = by_key;
        parts = g.ordered.parts;
        lines = g.ordered.lines;
        products = g.ordered.products;
        exemptions = g.ordered.exemptions;
        candidates = g.ordered.candidates;
        shipments = g.ordered.shipments;
      };
      forms = record {
        substances = g.forms.substances;
        members = g.forms.members;
        materials = forms;
        parts = g.forms.parts;
        lines = g.forms.lines;
        products = g.forms.products;
        exemptions = g.forms.exemptions;
        candidates = g.forms.candidates;
        shipments = g.forms.shipments;
      };
      names = record {
        members = inside.members;
        materials = named;
        lines = inside.lines;
        products = inside.products;
        candidates = inside.candidates;
        shipments = inside.shipments;
      };
      apart = apart;
      masses = masses;
      exemptions = g.exemptions;
      acyclic = g.acyclic;
    }

pub good-parts : (t : Lists) (rows : List PartRow) → IsGood t → IsByKey (λ row. row.code) code_cmp rows → list_all is_part_row rows ≡ true → Grows t (record t { parts = rows }) → list_all (λ part. not (is_material t part.code)) rows ≡ true → list_all (λ part. not (reaches (record t { parts = rows }) part.code part.code)) rows ≡ true → IsGood (record t { parts = rows })
good-parts t rows g by_key forms grows apart acyclic =
    let inside = names_grow t (record t { parts = rows }) grows g.names in
    record {
      ordered = record {
        substances = g.ordered.substances;
        members = g.ordered.members;
        materials = g.ordered.materials;
        parts = by_key;
        lines = g.ordered.lines;
        products = g.ordered.products;
        exemptions = g.ordered.exemptions;
        candidates = g.ordered.candidates;
        shipments = g.ordered.shipments;
      };
      forms = record {
        substances = g.forms.substances;
        members = g.forms.members;
        materials = g.forms.materials;
        parts = forms;
        lines = g.forms.lines;
        products = g.forms.products;
        exemptions = g.forms.exemptions;
        candidates = g.forms.candidates;
        shipments = g.forms.shipments;
      };
      names = record {
        members = inside.members;
        materials = inside.materials;
        lines = inside.lines;
        products = inside.products;
        candidates = inside.candidates;
        shipments = inside.shipments;
      };
      apart = apart;
      masses = g.masses;
      exemptions = g.exemptions;
      acyclic = acyclic;
    }

pub good-lines : (t : Lists) (rows : List LineRow) → IsGood t → IsByKey line_key line_key_cmp rows → list_all is_line_row rows ≡ true → list_all (has_right_child t) rows ≡ true → list_all (λ part. not (reaches (record t { lines = rows }) part.code part.code)) t.parts ≡ true → IsGood (record t { lines = rows })
good-lines t rows g by_key forms named acyclic =
    record {
      ordered = record {
        substances = g.ordered.substances;
        members = g.ordered.members;
        materials = g.ordered.materials;
        parts = g.ordered.parts;
        lines = by_key;
        products = g.ordered.products;
        exemptions = g.ordered.exemptions;
        candidates = g.ordered.candidates;
        shipments = g.ordered.shipments;
      };
      forms = record {
        substances = g.forms.substances;
        members = g.forms.members;
        materials = g.forms.materials;
        parts = g.forms.parts;
        lines = forms;
        products = g.forms.products;
        exemptions = g.forms.exemptions;
        candidates = g.forms.candidates;
        shipments = g.forms.shipments;
      };
      names = record {
        members = g.names.members;
        materials = g.names.materials;
        lines = named;
        products = g.names.products;
        candidates = g.names.candidates;
        shipments = g.names.shipments;
      };
      apart = g.apart;
      masses = g.masses;
      exemptions = g.exemptions;
      acyclic = acyclic;
    }

pub good-products : (t : Lists) (rows : List ProductRow) → IsGood t → IsByKey (λ row. row.part) code_cmp rows → list_all is_product_row rows ≡ true → list_all (λ product. is_part t product.part) rows ≡ true → Grows t (record t { products = rows }) → IsGood (record t { products = rows })
good-products t rows g by_key forms named grows =
    let inside = names_grow t (record t { products = rows }) grows g.names in
    record {
      ordered = record {
        substances = g.ordered.substances;
        members = g.ordered.members;
        materials = g.ordered.materials;
        parts = g.ordered.parts;
        lines = g.ordered.lines;
        products = by_key;
        exemptions = g.ordered.exemptions;
        candidates = g.ordered.candidates;
        shipments = g.ordered.shipments;
      };
      forms = record {
        substances = g.forms.substances;
        members = g.forms.members;
        materials = g.forms.materials;
        parts = g.forms.parts;
        lines = g.forms.lines;
        products = forms;
        exemptions = g.forms.exemptions;
        candidates = g.forms.candidates;
        shipments = g.forms.shipments;
      };
      names = record {
        members = inside.members;
        materials = inside.materials;
        lines = inside.lines;
        products = named;
        candidates = inside.candidates;
        shipments = inside.shipments;
      };
      apart = g.apart;
      masses = g.masses;
      exemptions = g.exemptions;
      acyclic = g.acyclic;
    }

pub good-exemptions : (t : Lists) (rows : List ExemptionRow) → IsGood t → IsByKey (λ row. row.terms.row) code_cmp rows → list_all is_exemption_row rows ≡ true → list_all (λ row. not (breaks_span row.terms) && not (breaks_annex row.terms)) rows ≡ true → IsGood (record t { exemptions = rows })
good-exemptions t rows g by_key forms fit =
    record {
      ordered = record {
        substances = g.ordered.substances;
        members = g.ordered.members;
        materials = g.ordered.materials;
        parts = g.ordered.parts;
        lines = g.ordered.lines;
        products = g.ordered.products;
        exemptions = by_key;
        candidates = g.ordered.candidates;
        shipments = g.ordered.shipments;
      };
      forms = record {
        substances = g.forms.substances;
        members = g.forms.members;
        materials = g.forms.materials;
        parts = g.forms.parts;
        lines = g.forms.lines;
        products = g.forms.products;
        exemptions = forms;
        candidates = g.forms.candidates;
        shipments = g.forms.shipments;
      };
      names = record {
        members = g.names.members;
        materials = g.names.materials;
        lines = g.names.lines;
        products = g.names.products;
        candidates = g.names.candidates;
        shipments = g.names.shipments;
      };
      apart = g.apart;
      masses = g.masses;
      exemptions = fit;
      acyclic = g.acyclic;
    }

pub good-candidates : (t : Lists) (rows : List CandidateRow) → IsGood t → IsByKey (λ row. row.substance) code_cmp rows → list_all is_candidate_row rows ≡ true → list_all (λ candidate. is_substance t candidate.substance) rows ≡ true → IsGood (record t { candidates = rows })
good-candidates t rows g by_key forms named =
    record {
      ordered = record {
        substances = g.ordered.substances;
        members = g.ordered.members;
        materials = g.ordered.materials;
        parts = g.ordered.parts;
        lines = g.ordered.lines;
        products = g.ordered.products;
        exemptions = g.ordered.exemptions;
        candidates = by_key;
        shipments = g.ordered.shipments;
      };
      forms = record {
        substances = g.forms.substances;
        members = g.forms.members;
        materials = g.forms.materials;
        parts = g.forms.parts;
        lines = g.forms.lines;
        products = g.forms.products;
        exemptions = g.forms.exemptions;
        candidates = forms;
        shipments = g.forms.shipments;
      };
      names = record {
        members = g.names.members;
        materials = g.names.materials;
        lines = g.names.lines;
        products = g.names.products;
        candidates = named;
        shipments = g.names.shipments;
      };
      apart = g.apart;
      masses = g.masses;
      exemptions = g.exemptions;
      acyclic = g.acyclic;
    }

pub good-shipments : (t : Lists) (rows : List ShipmentRow) → IsGood t → IsByKey shipment_key shipment_key_cmp rows → list_all is_shipment_row rows ≡ true → list_all (λ shipment. is_product t shipment.product) rows ≡ true → IsGood (record t { shipments = rows })
good-shipments t rows g by_key forms named =
    record {
      ordered = record {
        substances = g.ordered.substances;
        members = g.ordered.members;
        materials = g.ordered.materials;
        parts = g.ordered.parts;
        lines = g.ordered.lines;
        products = g.ordered.products;
        exemptions = g.ordered.exemptions;
        candidates = g.ordered.candidates;
        shipments = by_key;
      };
      forms = record {
        substances = g.forms.substances;
        members = g.forms.members;
        materials = g.forms.materials;
        parts = g.forms.parts;
        lines = g.forms.lines;
        products = g.forms.products;
        exemptions = g.forms.exemptions;
        candidates = g.forms.candidates;
        shipments = forms;
      };
      names = record {
        members = g.names.members;
        materials = g.names.materials;
        lines = g.names.lines;
        products = g.names.products;
        candidates = g.names.candidates;
        shipments = named;
      };
      apart = g.apart;
      masses = g.masses;
      exemptions = g.exemptions;
      acyclic = g.acyclic;
    }
