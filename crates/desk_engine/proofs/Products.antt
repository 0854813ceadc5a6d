-- The products of nodes, put in one after the other.
use Rattle.std.proofs.Common.{◌≡◌, ℕ, ◌+◌, ◌<◌, Bool, true, false, ◌||◌, ◌==◌, List, [], ◌∷◌, ◌++◌, cond, filter, get_or, is_eq, length, take, Option, Some, None, refl, sym, ap, ◌∙◌, subst, inl, inr, arith}
use Rattle.std.specs.Prelude.{if◌then◌else◌}
use Rattle.std.specs.List.{AllByRecursion, list_any}
use Rattle.std.proofs.lemmas.Bool.{cases_Bool}
use Rattle.std.proofs.lemmas.List.{take_more}
use Rattle.desk_text.specs.Code.{code_cmp, same_code}
use Rattle.desk_rows.specs.Rows.{IsByKey, row_of, with_row}
use Rattle.desk_rows.proofs.Lookups.{row_of-with_row, row_of-with_row_other}
use Rattle.desk_graph.specs.Bill.{IsBillGraph}
use Rattle.desk_graph.specs.Graph.{Graph, label_of}
use Rattle.desk_graph.specs.Reaches.{AreAffected}
use Rattle.desk_model.specs.declared.rows.product.ProductRow.{ProductRow}
use Rattle.desk_model.specs.Lists.{Lists, is_kept, product_row}
use Rattle.desk_model.proofs.Anys.{any-append}
use Rattle.desk_model.proofs.Elements.{any_same, each, each_map}
use Rattle.desk_model.proofs.Kept.{code_cmp_total, found_each, same_code-true}
use Rattle.desk_findings.specs.Reaches.{is_or_reaches}
use Rattle.desk_history.specs.Sound.{IsConsistent}
use Rattle.desk_scratch.specs.Uses.{products_with}
use Rattle.desk_bridge.specs.Bridge.{IsBillOf, node_of}
use Rattle.desk_bridge.proofs.Found.{node_of-kept}
use Rattle.desk_bridge.proofs.LookUps.{same_rows}
use Rattle.desk_bridge.proofs.RolledAlike.{labels_differ}
use Rattle.desk_bridge.proofs.RowsAfter.{by_key-filter}
use Rattle.desk_engine.specs.Answers.{with_product}
use Rattle.desk_engine.proofs.Uses.{all_inside, reached_alike, reaching}
use Rattle.desk_engine.proofs.Weights.{product_kept}

abbrev found : List ℕ → List ProductRow → Option ProductRow
found part rows = row_of (λ row. row.part) code_cmp part rows

abbrev is_among : List (List ℕ) → List ℕ → List ℕ → Bool
is_among labels nodes part = list_any (λ node. same_code (label_of labels node) part) nodes

-- the products of these nodes, and no others, are found
abbrev pub AreFound : Lists → List (List ℕ) → List ℕ → List ProductRow → Type 0
AreFound t labels nodes rows = (part : List ℕ) → found part rows ≡ (if is_among labels nodes part then product_row t part else None)

module _ (t : Lists) where
  label_found : (label : List ℕ) (row : ProductRow) → product_row t label ≡ Some row → row.part ≡ label
  label_found label row e = (found_each (λ row. row.part) (λ row. Unit {0}) label t.products row (each (λ row. Unit {0}) (λ row. tt) t.products) e).1

  none_either : (b : Bool) (o : Option ProductRow) → o ≡ None → (if b then o else None) ≡ (if b || true then o else None)
  none_either true o e = refl
  none_either false o e = sym e

  or_none : (b : Bool) (o : Option ProductRow) → (if b then o else None) ≡ (if b || false then o else None)
  or_none true o = refl
  or_none false o = refl

  or_all : (b : Bool) (o : Option ProductRow) → o ≡ (if b || true then o else None)
  or_all true o = refl
  or_all false o = refl

  put_found : (o : Option ProductRow) (label part : List ℕ) (b : Bool) (rows : List ProductRow) → product_row t label ≡ o → found part rows ≡ (if b then product_row t part else None) →
      found part (with_product o rows) ≡ (if b || same_code label part then product_row t part else None)
  put_found None label part b rows e before =
      elim (cases_Bool (same_code label part)) [
        | inl same ↦ rw same (before ∙ none_either b (product_row t part) (ap (product_row t) (sym (same_code-true label part same)) ∙ e))
        | inr other ↦ rw other (before ∙ or_none b (product_row t part))
      ]
  put_found (Some row) label part b rows e before =
      elim (cases_Bool (same_code label part)) [
        | inl same ↦
            let is : row.part ≡ part = label_found label row e ∙ same_code-true label part same in
            rw same
            (ap (λ p. found p (with_row (λ row. row.part) code_cmp row rows)) (sym is)
            ∙ row_of-with_row (λ row. row.part) code_cmp code_cmp_total row rows
            ∙ sym e
            ∙ ap (product_row t) (same_code-true label part same)
            ∙ or_all b (product_row t part))
        | inr other ↦
            rw other
            (row_of-with_row_other (λ row. row.part) code_cmp code_cmp_total row part rows (ap (λ p. same_code p part) (label_found label row e) ∙ other)
            ∙ before ∙ or_none b (product_row t part))
      ]

  module _ (labels : List (List ℕ)) (nodes : List ℕ) where
    pub found_none : (rows : List ProductRow) → rows ≡ [] → AreFound t labels [] rows
    found_none rows e part = ap (found part) e

    pub found_more : (i : ℕ) (d : ℕ) (rows new : List ProductRow) → i < length nodes → AreFound t labels (take i nodes) rows → new ≡ with_product (product_row t (label_of labels (get_or nodes i d))) rows → AreFound t labels (take (i + 1) nodes) new
    found_more i d rows new low before put part =
        ap (found part) put
        ∙ put_found (product_row t (label_of labels (get_or nodes i d))) (label_of labels (get_or nodes i d)) part (is_among labels (take i nodes) part) rows refl (before part)
        ∙ ap (λ b. if b then product_row t part else None) (sym one_more)
      where
        or_end : (b : Bool) → (b || false) ≡ b
        or_end true = refl
        or_end false = refl

        one_more : is_among labels (take (i + 1) nodes) part ≡ (is_among labels (take i nodes) part || same_code (label_of labels (get_or nodes i d)) part)
        one_more =
            ap (λ some. is_among labels some part) (take_more nodes i d low)
            ∙ any-append (λ node. same_code (label_of labels node) part) (take i nodes) (get_or nodes i d ∷ [])
            ∙ ap (λ b. is_among labels (take i nodes) part || b) (or_end (same_code (label_of labels (get_or nodes i d)) part))

module _ (test : List ℕ → Bool) (part : List ℕ) where
  filtered : (rows : List ProductRow) → found part (filter (λ row. test row.part) rows) ≡ (if test part then found part rows else None)
  filtered [] = nothing (test part)
    where
      nothing : (b : Bool) → None ≡ (if b then found part [] else None)
      nothing true = refl
      nothing false = refl
  filtered (row ∷ rows) =
      elim (cases_Bool (same_code row.part part)) [
        | inl same ↦
            let is : test row.part ≡ test part = ap test (same_code-true row.part part same) in
            elim (cases_Bool (test part)) [
              | inl passes ↦ rw (is, passes, same) refl
              | inr fails ↦ rw (is ∙ fails, fails) (filtered rows ∙ ap (λ b. if b then found part rows else None) fails)
            ]
        | inr other ↦
            elim (cases_Bool (test row.part)) [
              | inl passes ↦ rw (passes, other) (filtered rows)
              | inr fails ↦ rw (fails, other) (filtered rows)
            ]
      ]

module _ (t : Lists) (s : IsConsistent t) (g : Graph) (bill : IsBillGraph g) (of : IsBillOf t g) (code : List ℕ) (kept : is_kept t code ≡ true) (nodes : List ℕ) (are : AreAffected g.lines (node_of g.labels code ∷ []) nodes) where
  node : ℕ
  node = node_of g.labels code

  pub nodes_inside : AllByRecursion (λ n. n < length g.labels) nodes
  nodes_inside = all_inside g bill (node_of g.labels code) (node_of-kept t g.labels of.numbered code kept).0 nodes are (length g.labels) refl

  among : (part : List ℕ) → is_kept t part ≡ true → is_among g.labels nodes part ≡ is_or_reaches t part code
  among part there =
      let at = node_of-kept t g.labels of.numbered part there in
      any_same (λ n. same_code (label_of g.labels n) part) (λ n. n == node_of g.labels part) nodes
      (each_map (λ n. n < length g.labels) (λ n. same_code (label_of g.labels n) part ≡ (n == node_of g.labels part))
      (λ n low. ap (same_code (label_of g.labels n)) (sym at.1) ∙ sym (labels_differ g bill n (node_of g.labels part) low at.0)) nodes nodes_inside)
      ∙ reaching g bill (node_of g.labels code) (node_of-kept t g.labels of.numbered code kept).0 nodes are (node_of g.labels part)
      ∙ reached_alike t s g bill of part code there kept

  either : (part : List ℕ) (o : Option ProductRow) → product_row t part ≡ o → (if is_among g.labels nodes part then product_row t part else None) ≡ (if is_or_reaches t part code then product_row t part else None)
  either part None e = rw e (none_none (is_among g.labels nodes part) (is_or_reaches t part code))
    where
      none_none : (a b : Bool) → ◌≡◌ {A = Option ProductRow} (if a then None else None) (if b then None else None)
      none_none true true = refl
      none_none true false = refl
      none_none false true = refl
      none_none false false = refl
  either part (Some row) e = ap (λ b. if b then product_row t part else None) (among part (product_kept t s part (ap Rattle.std.proofs.Common.is_some e)))

  pub products_are : (rows : List ProductRow) → IsByKey (λ row. row.part) code_cmp rows → AreFound t g.labels nodes rows → rows ≡ products_with t code
  products_are rows by_key are_found =
      same_rows (λ row. row.part) code_cmp code_cmp_total rows (products_with t code) by_key (by_key-filter (λ row. row.part) code_cmp code_cmp_total (λ row. is_or_reaches t row.part code) t.products s.ordered.products)
      (λ part. are_found part ∙ either part (product_row t part) refl ∙ sym (filtered (λ p. is_or_reaches t p code) part t.products))
