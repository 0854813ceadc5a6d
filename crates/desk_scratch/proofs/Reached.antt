-- What a part reaches among the materials and among the parts, by the places of the nodes.
use Rattle.std.proofs.Common.{◌≡◌, ℕ, suc, ◌+◌, ◌-◌, ◌<◌, ◌≤◌, Bool, true, false, List, [], ◌∷◌, length, get_or, map, refl, sym, ap, ◌∙◌, subst, arith}
use Rattle.std.specs.List.{AllByRecursion, range_with_len}
use Rattle.std.proofs.lemmas.Bool.{both_ways, false_from_ne_true}
use Rattle.std.proofs.lemmas.List.{get_or-append-add, get_or_append_left, length-append, length-map}
use Rattle.std.proofs.lemmas.List.FromFn.{get_or-range_with_len, length-range_with_len}
use Rattle.desk_text.specs.Code.{code_cmp, same_code}
use Rattle.desk_model.specs.declared.rows.material.MaterialRow.{MaterialRow}
use Rattle.desk_model.specs.Lists.{Lists, is_material, is_part}
use Rattle.desk_model.proofs.Elements.{each_map}
use Rattle.desk_model.proofs.Kept.{code_cmp_total, each_kept, same_code-true}
use Rattle.desk_findings.specs.Bill.{are_codes_apart}
use Rattle.desk_findings.specs.Reaches.{is_or_reaches, reaches}
use Rattle.desk_findings.proofs.Children.{not_part}
use Rattle.desk_totals.specs.Places.{node_at}
use Rattle.desk_model.specs.Lists.{nodes_of}

-- each place of a range is below what its end is not past
pub inside_range : (list : List ℕ) (first place bound : ℕ) → list ≡ range_with_len first (place - first) → first ≤ place → place ≤ bound → (k d : ℕ) → k < length list → get_or list k d < bound
inside_range list first place bound e low h k d inside =
    let len : length list ≡ place - first = ap length e ∙ length-range_with_len first (place - first) in
    let below : k < place - first = omega (arith, inside, len) in
    let at : get_or list k d ≡ first + k = ap (λ l. get_or l k d) e ∙ get_or-range_with_len first (place - first) k d below in
    omega (arith, at, below, h, low)

-- a function of the nodes from a place on
nodes_from : (g : List ℕ → Bool) (nodes : List (List ℕ)) (a : ℕ) (xs : List (List ℕ)) → ((i : ℕ) → i < length xs → node_at nodes (a + i) ≡ get_or xs i [])
    → map (λ place. g (node_at nodes place)) (range_with_len a (length xs)) ≡ map g xs
nodes_from g nodes a [] h = refl
nodes_from g nodes a (x ∷ xs) h =
    let first : node_at nodes a ≡ x = let same : a ≡ a + 0 = omega arith in ap (node_at nodes) same ∙ h 0 (omega arith) in
    ap (λ c. g c ∷ map (λ place. g (node_at nodes place)) (range_with_len (a + 1) (length xs))) first
    ∙ ap (λ l. g x ∷ l)
    (nodes_from g nodes (a + 1) xs (λ i inside. let same : a + 1 + i ≡ a + suc i = omega arith in ap (node_at nodes) same ∙ h (suc i) (omega (arith, inside))))

map_map : {R : Type 0} (key : R → List ℕ) (g : List ℕ → Bool) (rows : List R) → map g (map key rows) ≡ map (λ row. g (key row)) rows
map_map key g [] = refl
map_map key g (row ∷ rows) = ap (λ l. g (key row) ∷ l) (map_map key g rows)

map_each : {R : Type 0} (f g : R → Bool) (rows : List R) → AllByRecursion (λ row. f row ≡ g row) rows → map f rows ≡ map g rows
map_each f g [] h = refl
map_each f g (row ∷ rows) h = rw h.0 (ap (λ l. g row ∷ l) (map_each f g rows h.1))

module _ (t : Lists) (part : List ℕ) where
  -- no material is the part
  pub materials_reached : are_codes_apart t ≡ true → is_part t part ≡ true → (count : ℕ) → count ≡ length t.materials
      → map (λ place. is_or_reaches t part (node_at (nodes_of t) place)) (range_with_len 0 (count - 0)) ≡ map (λ material. reaches t part material.code) t.materials
  materials_reached apart kept count is =
      let codes = map (λ (row : MaterialRow). row.code) t.materials in
      let many : count - 0 ≡ length codes = omega (arith, is, length-map t.materials (λ row. row.code)) in
      ap (λ n. map (λ place. is_or_reaches t part (node_at (nodes_of t) place)) (range_with_len 0 n)) many
      ∙ nodes_from (is_or_reaches t part) (nodes_of t) 0 codes
      (λ i inside. let same : 0 + i ≡ i = omega arith in ap (node_at (nodes_of t)) same ∙ get_or_append_left codes (map (λ row. row.code) t.parts) [] i inside)
      ∙ map_map (λ (row : MaterialRow). row.code) (is_or_reaches t part) t.materials
      ∙ map_each (λ (row : MaterialRow). is_or_reaches t part row.code) (λ row. reaches t part row.code) t.materials
      (each_map (λ (row : MaterialRow). is_material t row.code ≡ true) (λ row. is_or_reaches t part row.code ≡ reaches t part row.code) other t.materials (each_kept (λ row. row.code) code_cmp code_cmp_total t.materials))
    where
      other : (row : MaterialRow) → is_material t row.code ≡ true → is_or_reaches t part row.code ≡ reaches t part row.code
      other row material =
          let apart_here = false_from_ne_true (same_code part row.code) (λ same. both_ways (is_part t part) (subst (λ c. is_part t c ≡ false) (sym (same_code-true part row.code same)) (not_part t apart row.code material)) kept) in
          rw apart_here refl

  pub parts_reached : (count all : ℕ) → count ≡ length t.materials → all ≡ length (nodes_of t)
      → map (λ place. is_or_reaches t part (node_at (nodes_of t) place)) (range_with_len count (all - count)) ≡ map (λ other. is_or_reaches t part other.code) t.parts
  parts_reached count all is whole =
      let codes = map (λ (row : MaterialRow). row.code) t.materials in
      let others = map (λ (row : Rattle.desk_model.specs.declared.rows.part.PartRow.PartRow). row.code) t.parts in
      let many : all - count ≡ length others = omega (arith, is, whole, length-append codes others, length-map t.materials (λ row. row.code)) in
      let from : count ≡ length codes = is ∙ sym (length-map t.materials (λ row. row.code)) in
      ap (λ n. map (λ place. is_or_reaches t part (node_at (nodes_of t) place)) (range_with_len count n)) many
      ∙ nodes_from (is_or_reaches t part) (nodes_of t) count others (λ i inside. ap (λ n. node_at (nodes_of t) (n + i)) from ∙ get_or-append-add codes others i [])
      ∙ map_map (λ (row : Rattle.desk_model.specs.declared.rows.part.PartRow.PartRow). row.code) (is_or_reaches t part) t.parts
