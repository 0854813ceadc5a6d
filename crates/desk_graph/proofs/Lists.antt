-- Facts on the lines of one node.
use Rattle.std.proofs.Common.{◌≡◌, ℕ, ◌+◌, ◌<◌, true, false, ◌==◌, List, [], ◌∷◌, ◌++◌, length, get_or, take, drop, refl, sym, ap, ◌∙◌}
use Rattle.std.specs.List.{insert}
use Rattle.std.specs.Ordering.{is_lt}
use Rattle.std.proofs.lemmas.Bool.{eq-eqb}
use Rattle.std.proofs.lemmas.List.{append_assoc, drop_more, take_more}
use Rattle.std.proofs.lemmas.List.Folds.{list_any_at}
use Rattle.desk_graph.specs.declared.line.BillLine.{BillLine}
use Rattle.desk_graph.specs.Graph.{has_line, label_cmp, label_of}
use Rattle.desk_graph.specs.Edits.{inserted_by_label}

-- a line of a list leads to its node
pub has_line-at : (lines : List BillLine) (i : ℕ) (d : BillLine) → i < length lines → has_line lines (get_or lines i d).node ≡ true
has_line-at lines i d h = list_any_at (λ line. line.node == (get_or lines i d).node) lines i d h (eq-eqb _ _ refl)

entered-less : (labels : List (List ℕ)) (new line : BillLine) (lines : List BillLine) → is_lt (label_cmp (label_of labels new.node) (label_of labels line.node)) ≡ true → inserted_by_label labels new (line ∷ lines) ≡ new ∷ line ∷ lines
entered-less labels new line lines e = rw e refl

entered-more : (labels : List (List ℕ)) (new line : BillLine) (lines : List BillLine) → is_lt (label_cmp (label_of labels new.node) (label_of labels line.node)) ≡ false → inserted_by_label labels new (line ∷ lines) ≡ line ∷ inserted_by_label labels new lines
entered-more labels new line lines e = rw e refl

-- the new line goes before the first whose node has a greater label
pub entered_here : (labels : List (List ℕ)) (new : BillLine) (lines : List BillLine) (i : ℕ) (d : BillLine) → i < length lines → is_lt (label_cmp (label_of labels new.node) (label_of labels (get_or lines i d).node)) ≡ true → inserted_by_label labels new lines ≡ take i lines ++ inserted_by_label labels new (drop i lines) → inserted_by_label labels new lines ≡ insert lines i new
entered_here labels new lines i d h e so =
    so ∙ ap (λ rest. take i lines ++ inserted_by_label labels new rest) (drop_more lines i d h) ∙ ap (λ rest. take i lines ++ rest) (entered-less labels new (get_or lines i d) (drop (i + 1) lines) e)
    ∙ ap (λ rest. take i lines ++ new ∷ rest) (sym (drop_more lines i d h))

pub entered_later : (labels : List (List ℕ)) (new : BillLine) (lines : List BillLine) (i : ℕ) (d : BillLine) → i < length lines → is_lt (label_cmp (label_of labels new.node) (label_of labels (get_or lines i d).node)) ≡ false → inserted_by_label labels new lines ≡ take i lines ++ inserted_by_label labels new (drop i lines) → inserted_by_label labels new lines ≡ take (i + 1) lines ++ inserted_by_label labels new (drop (i + 1) lines)
entered_later labels new lines i d h e so =
    so ∙ ap (λ rest. take i lines ++ inserted_by_label labels new rest) (drop_more lines i d h) ∙ ap (λ rest. take i lines ++ rest) (entered-more labels new (get_or lines i d) (drop (i + 1) lines) e)
    ∙ sym (append_assoc (take i lines) (get_or lines i d ∷ []) (inserted_by_label labels new (drop (i + 1) lines)))
    ∙ ap (λ front. front ++ inserted_by_label labels new (drop (i + 1) lines)) (sym (take_more lines i d h))
