-- Lists that a loop makes, item by item.
use Rattle.std.proofs.Common.{◌≡◌, ℕ, zero, suc, ◌+◌, ◌<◌, ◌≤◌, Bool, true, false, ◌||◌, ◌==◌, List, [], ◌∷◌, ◌++◌, drop, get_or, length, take, refl, subst, sym, ap, ◌∙◌, append_assoc, arith}
use Rattle.std.specs.List.{AllByRecursion}
use Rattle.std.proofs.lemmas.List.{drop_all, drop_more}
use Rattle.desk_graph.specs.Graph.{label_of}
use Rattle.desk_graph.specs.Reaches.{has_node}
use Rattle.desk_bridge.specs.declared.node_index.NodeRow.{NodeRow}
use Rattle.desk_engine.specs.Planned.{node_rows_from}

-- a node more
pub has_push : (nodes : List ℕ) (new node : ℕ) → has_node (nodes ++ new ∷ []) node ≡ (has_node nodes node || new == node)
has_push [] new node = by_false (new == node)
  where
    by_false : (b : Bool) → (b || false) ≡ b
    by_false true = refl
    by_false false = refl
has_push (first ∷ nodes) new node = ap (λ b. first == node || b) (has_push nodes new node) ∙ regroup (first == node) (has_node nodes node) (new == node)
  where
    regroup : (a b c : Bool) → (a || (b || c)) ≡ ((a || b) || c)
    regroup true b c = refl
    regroup false b c = refl

-- what holds of each item holds of one of them
pub each_at : {X : Type 0} (P : X → Type 0) (xs : List X) (i : ℕ) (d : X) → AllByRecursion P xs → i < length xs → P (get_or xs i d)
each_at P [] i d a low = absurd (omega (arith, low))
each_at P (x ∷ xs) zero d a low = a.0
each_at P (x ∷ xs) (suc i) d a low = each_at P xs i d a.1 (omega (arith, low))

-- and what holds of the first ones and of the next holds of one more
each_next : {X : Type 0} (P Q : X → Type 0) → ((x : X) → P x → Q x) → (xs : List X) (i : ℕ) (x : X) → i < length xs → x ≡ get_or xs i x → AllByRecursion P (take i xs) → Q x → AllByRecursion Q (take (suc i) xs)
each_next P Q f [] i x low is a q = absurd (omega (arith, low))
each_next P Q f (y ∷ xs) zero x low is a q = (subst Q is q, tt)
each_next P Q f (y ∷ xs) (suc i) x low is a q = (f y a.0, each_next P Q f xs i x (omega (arith, low)) is a.1 q)

pub each_more : {X : Type 0} (P Q : X → Type 0) → ((x : X) → P x → Q x) → (xs : List X) (i : ℕ) (x : X) → i < length xs → x ≡ get_or xs i x → AllByRecursion P (take i xs) → Q x → AllByRecursion Q (take (i + 1) xs)
each_more P Q f xs i x low is a q = subst (λ n. AllByRecursion Q (take n xs)) one (each_next P Q f xs i x low is a q)
  where
    one : suc i ≡ i + 1
    one = omega arith

pub drop-front : {X : Type 0} (xs ys : List X) → drop (length xs) (xs ++ ys) ≡ ys
drop-front [] ys = refl
drop-front (x ∷ xs) ys = drop-front xs ys

append_none : {X : Type 0} (xs : List X) → xs ++ [] ≡ xs
append_none [] = refl
append_none (x ∷ xs) = ap (λ rest. x ∷ rest) (append_none xs)

-- the rows of nodes from one on
pub rows_more : (labels : List (List ℕ)) (id : ℕ) (held new whole : List NodeRow) → id < length labels → held ++ node_rows_from id (drop id labels) ≡ whole → new ≡ held ++ record { code = label_of labels id; node = id } ∷ [] →
    new ++ node_rows_from (id + 1) (drop (id + 1) labels) ≡ whole
rows_more labels id held new whole low e is =
    ap (λ l. l ++ node_rows_from (id + 1) (drop (id + 1) labels)) is
    ∙ append_assoc held (record { code = label_of labels id; node = id } ∷ []) (node_rows_from (id + 1) (drop (id + 1) labels))
    ∙ ap (λ rest. held ++ node_rows_from id rest) (sym (drop_more labels id [] low))
    ∙ e

pub rows_all : (labels : List (List ℕ)) (id : ℕ) (held whole : List NodeRow) → length labels ≤ id → held ++ node_rows_from id (drop id labels) ≡ whole → held ≡ whole
rows_all labels id held whole h e = sym (append_none held) ∙ ap (λ rest. held ++ node_rows_from id rest) (sym (drop_all id labels h)) ∙ e
