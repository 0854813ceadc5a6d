-- A bill that is built from tables, node by node and line by line.
use Rattle.std.proofs.Common.{◌≡◌, ℕ, zero, suc, ◌+◌, ◌<◌, ◌≤◌, Bool, true, false, ◌&&◌, ◌||◌, List, [], ◌∷◌, ◌++◌, take, drop, get_or, length, Result, Ok, Err, OnOk, refl, sym, ap, ◌∙◌, subst, ⊎_elim, Ordering, Less, arith}
use Rattle.std.specs.Prelude.{nat_le}
use Rattle.std.specs.Cmp.{IsTotalOrder}
use Rattle.std.specs.List.{AllByRecursion, list_any}
use Rattle.std.proofs.lemmas.Bool.{and_from, and_parts, both_ways, false_from_ne_true, false≢true, leb-true, or_cases, or_left, or_right}
use Rattle.std.proofs.lemmas.List.{length-set, length-take, take_more, take-append-drop, drop_more}
use Rattle.std.proofs.Math.Seq.{take-length}
use Rattle.desk_model.specs.declared.limits.TheConstants.{COUNT_LIMIT}
use Rattle.desk_text.specs.Code.{same_code}
use Rattle.desk_rows.specs.Rows.{IsByKey, with_row}
use Rattle.desk_rows.proofs.Order.{AllAbove, by_key, first_above, none_by_key, rest_by_key}
use Rattle.desk_model.specs.declared.rows.line.LineRow.{LineRow}
use Rattle.desk_model.specs.Forms.{is_count, is_line_row}
use Rattle.desk_model.specs.Lists.{Lists, is_kept, is_material, is_part, line_key, line_key_cmp}
use Rattle.desk_model.proofs.Elements.{all_from_each, any-filter, any_map, each, each_from_all}
use Rattle.desk_model.proofs.Kept.{line_key_cmp_total}
use Rattle.desk_findings.specs.Bill.{has_right_child}
use Rattle.desk_findings.specs.Reaches.{enough, is_or_reaches, reaches, reaches_within}
use Rattle.desk_findings.proofs.Bill.{HasParents, by_line, not_itself}
use Rattle.desk_findings.proofs.Children.{right_child, right_parent}
use Rattle.desk_history.specs.Sound.{IsConsistent, KeepsLimits}
use Rattle.desk_history.proofs.SoundClauses.{forms_of, parents_of, right_of}
use Rattle.desk_graph.specs.Bill.{IsBillGraph}
use Rattle.desk_graph.specs.Edits.{with_line_in}
use Rattle.desk_graph.specs.Graph.{Graph, label_of, line_count}
use Rattle.desk_graph.specs.Reaches as graph
use Rattle.desk_bridge.specs.Bridge.{HasSameLines, IsBillOf, node_of}
use Rattle.desk_bridge.specs.Building.{NextLine, with_first}
use Rattle.desk_bridge.proofs.Counted.{same_count}
use Rattle.desk_bridge.proofs.Cycles.{fit_bill}
use Rattle.desk_bridge.proofs.Found.{node_of-kept}
use Rattle.desk_bridge.proofs.KeptLines.{same-with}
use Rattle.desk_bridge.proofs.Reach.{same_is_or_reaches}

module _ {R K : Type 0} (key : R → K) (cmp : K → K → Ordering) (o : IsTotalOrder cmp) where
  put_last : (new : R) (rows : List R) → AllByRecursion (λ row. cmp (key row) (key new) ≡ Less) rows → with_row key cmp new rows ≡ rows ++ new ∷ []
  put_last new [] a = refl
  put_last new (row ∷ rows) a = rw a.0 (ap (λ rest. row ∷ rest) (put_last new rows a.1))

  in_middle : (k : K) (before : List R) (new : R) (more : List R) → AllAbove key cmp o k (before ++ new ∷ more) → cmp k (key new) ≡ Less
  in_middle k [] new more a = a.0
  in_middle k (row ∷ before) new more a = in_middle k before new more a.1

  all_less : (before : List R) (new : R) (more : List R) → IsByKey key cmp (before ++ new ∷ more) → AllByRecursion (λ row. cmp (key row) (key new) ≡ Less) before
  all_less [] new more h = tt
  all_less (row ∷ before) new more h = (in_middle (key row) before new more (first_above key cmp o row (before ++ new ∷ more) h), all_less before new more (rest_by_key key cmp o row (before ++ new ∷ more) h))

  -- the next row is put behind those before it
  next_put : (rows : List R) (i : ℕ) (d : R) → IsByKey key cmp rows → i < length rows → with_row key cmp (get_or rows i d) (take i rows) ≡ take (i + 1) rows
  next_put rows i d h l =
      let parts : take i rows ++ get_or rows i d ∷ drop (i + 1) rows ≡ rows = ap (λ rest. take i rows ++ rest) (sym (drop_more rows i d l)) ∙ take-append-drop i rows in
      put_last (get_or rows i d) (take i rows) (all_less (take i rows) (get_or rows i d) (drop (i + 1) rows) (subst (IsByKey key cmp) (sym parts) h))
      ∙ sym (take_more rows i d l)

module _ {R K : Type 0} (key : R → K) (cmp : K → K → Ordering) (o : IsTotalOrder cmp) where
  above_take : (k : K) (n : ℕ) (xs : List R) → AllAbove key cmp o k xs → AllAbove key cmp o k (take n xs)
  above_take k zero xs a = tt
  above_take k (suc n) [] a = tt
  above_take k (suc n) (x ∷ xs) a = (a.0, above_take k n xs a.1)

  by_key_take : (i : ℕ) (rows : List R) → IsByKey key cmp rows → IsByKey key cmp (take i rows)
  by_key_take zero rows h = none_by_key key cmp o
  by_key_take (suc i) [] h = none_by_key key cmp o
  by_key_take (suc i) (row ∷ rows) h = by_key key cmp o row (take i rows) (above_take (key row) i rows (first_above key cmp o row rows h)) (by_key_take i rows (rest_by_key key cmp o row rows h))

each_take : {X : Type 0} (P : X → Type 0) (i : ℕ) (xs : List X) → AllByRecursion P xs → AllByRecursion P (take i xs)
each_take P zero xs a = tt
each_take P (suc i) [] a = tt
each_take P (suc i) (x ∷ xs) a = (a.0, each_take P i xs a.1)

each_at : {X : Type 0} (P : X → Type 0) (xs : List X) (i : ℕ) (d : X) → i < length xs → AllByRecursion P xs → P (get_or xs i d)
each_at P [] i d h a = absurd (omega arith)
each_at P (x ∷ xs) zero d h a = a.0
each_at P (x ∷ xs) (suc i) d h a = each_at P xs i d (omega arith) a.1

any_take : {X : Type 0} (p : X → Bool) (i : ℕ) (xs : List X) → list_any p (take i xs) ≡ true → list_any p xs ≡ true
any_take p zero xs e = absurd (false≢true e)
any_take p (suc i) [] e = absurd (false≢true e)
any_take p (suc i) (x ∷ xs) e =
    ⊎_elim (λ here. or_left (p x) (list_any p xs) here) (λ there. or_right (p x) (list_any p xs) (any_take p i xs there)) (or_cases (p x) (list_any p (take i xs)) e)

-- with fewer lines nothing more is reached
reaches_fewer : (lines : List LineRow) (i k : ℕ) (part target : List ℕ) → reaches_within (take i lines) k part target ≡ true → reaches_within lines k part target ≡ true
unfolding reaches_within
reaches_fewer lines i zero part target e = e
reaches_fewer lines i (suc k) part target e =
    any-filter (λ line. same_code line.parent part) (λ line. same_code line.child target || reaches_within lines k line.child target) lines
    ∙ any_take (λ line. same_code line.parent part && (same_code line.child target || reaches_within lines k line.child target)) i lines
    (any_map (λ line. same_code line.parent part && (same_code line.child target || reaches_within (take i lines) k line.child target)) (λ line. same_code line.parent part && (same_code line.child target || reaches_within lines k line.child target)) (take i lines)
    (each (λ line. (same_code line.parent part && (same_code line.child target || reaches_within (take i lines) k line.child target)) ≡ true → (same_code line.parent part && (same_code line.child target || reaches_within lines k line.child target)) ≡ true)
    (λ line h.
    let parts = and_parts (same_code line.parent part) (same_code line.child target || reaches_within (take i lines) k line.child target) h in
    and_from (same_code line.parent part) (same_code line.child target || reaches_within lines k line.child target) parts.0
    (⊎_elim (λ here. or_left (same_code line.child target) (reaches_within lines k line.child target) here)
    (λ there. or_right (same_code line.child target) (reaches_within lines k line.child target) (reaches_fewer lines i k line.child target there))
    (or_cases (same_code line.child target) (reaches_within (take i lines) k line.child target) parts.1)))
    (take i lines))
    (sym (any-filter (λ line. same_code line.parent part) (λ line. same_code line.child target || reaches_within (take i lines) k line.child target) (take i lines)) ∙ e))

module _ (t : Lists) (s : IsConsistent t) where
  -- the next line
  module _ (limits : KeepsLimits t) (g : Graph) (bill : IsBillGraph g) (i : ℕ) (d : LineRow) (h : i < length t.lines) (of : IsBillOf (with_first t i) g) where
    line : LineRow
    line = get_or t.lines i d

    right : has_right_child t line ≡ true
    unfolding line
    right = each_at (λ l. has_right_child t l ≡ true) t.lines i d h (each_from_all (has_right_child t) t.lines (right_of t s))

    p : ℕ
    p = node_of g.labels line.parent

    c : ℕ
    c = node_of g.labels line.child

    parent_kept : is_kept t line.parent ≡ true
    parent_kept = or_right (is_material t line.parent) (is_part t line.parent) (right_parent t line right)

    p_at : (p < length g.labels) × (label_of g.labels p ≡ line.parent)
    unfolding p
    p_at = node_of-kept (with_first t i) g.labels of.numbered line.parent parent_kept

    c_at : (c < length g.labels) × (label_of g.labels c ≡ line.child)
    unfolding c
    c_at = node_of-kept (with_first t i) g.labels of.numbered line.child (right_child t line right)

    first_parents : (n : ℕ) → HasParents (with_first t n)
    first_parents n = each_take (λ l. is_part t l.parent ≡ true) n t.lines (parents_of t s)

    opens : graph.is_node_or_reaches g.lines c p ≡ false
    unfolding line
    opens =
        false_from_ne_true (graph.is_node_or_reaches g.lines c p)
        (λ closed.
        let told : is_or_reaches (with_first t i) line.child line.parent ≡ true =
        ap (λ a. is_or_reaches (with_first t i) a line.parent) (sym c_at.1) ∙ ap (λ b. is_or_reaches (with_first t i) (label_of g.labels c) b) (sym p_at.1)
        ∙ same_is_or_reaches (with_first t i) g bill of (all_from_each (λ l. is_part t l.parent) (take i t.lines) (first_parents i)) c p c_at.0 p_at.0 ∙ closed in
        let all : is_or_reaches t line.child line.parent ≡ true =
        ⊎_elim (λ here. or_left (same_code line.child line.parent) (reaches t line.child line.parent) here)
        (λ there. or_right (same_code line.child line.parent) (reaches t line.child line.parent) (reaches_fewer t.lines i (enough t) line.child line.parent there))
        (or_cases (same_code line.child line.parent) (reaches (with_first t i) line.child line.parent) told) in
        both_ways (reaches t line.parent line.parent) (not_itself t (parents_of t s) s.acyclic line.parent (right_parent t line right)) (cycle all))
      where
        cycle : is_or_reaches t line.child line.parent ≡ true → reaches t line.parent line.parent ≡ true
        cycle e = each_at (λ l. (target : List ℕ) → is_or_reaches t l.child target ≡ true → reaches t l.parent target ≡ true) t.lines i d h (by_line t (parents_of t s)) line.parent e

    after : IsBillOf (with_first t (i + 1)) (with_line_in p c line.count g)
    unfolding line
    after = record {
      numbered = record { taken = of.numbered.taken; count = of.numbered.count };
      lines =
          subst (λ rows. HasSameLines (record t { lines = rows }) (with_line_in p c line.count g)) (next_put line_key line_key_cmp line_key_cmp_total t.lines i d s.ordered.lines h)
          (subst (λ a. HasSameLines (record t { lines = with_row line_key line_key_cmp (record { parent = a; child = line.child; count = line.count }) (take i t.lines) }) (with_line_in p c line.count g)) p_at.1
          (subst (λ b. HasSameLines (record t { lines = with_row line_key line_key_cmp (record { parent = label_of g.labels p; child = b; count = line.count }) (take i t.lines) }) (with_line_in p c line.count g)) c_at.1
          (same-with (with_first t i) g bill of.lines (by_key_take line_key line_key_cmp line_key_cmp_total i t.lines s.ordered.lines) p c line.count p_at.0 c_at.0)));
    }

    counted : line_count (with_line_in p c line.count g).lines ≤ 131072
    counted =
        let same = same_count (with_first t (i + 1)) (with_line_in p c line.count g) (first_parents (i + 1)) bill.unique (length-set g.lines p _ ∙ bill.sizes) after in
        let fits = (fit_bill t limits.tables_fit).lines in
        omega (arith, same, fits, length-take (i + 1) t.lines)

    one : 1 ≤ line.count
    unfolding line
    one =
        let form = each_at (λ l. is_line_row l ≡ true) t.lines i d h (each_from_all is_line_row t.lines (forms_of t s.in_form).lines) in
        let counts = and_parts (Rattle.desk_model.specs.Values.is_code line.parent && Rattle.desk_model.specs.Values.is_code line.child) (is_count line.count) form in
        leb-true 1 line.count (and_parts (nat_le 1 line.count) (nat_le line.count COUNT_LIMIT) counts.1).0

    pub next_line : NextLine g (get_or t.lines i d)
    unfolding line p c
    next_line = record {
      parent = of.numbered.taken line.parent ∙ parent_kept;
      child = of.numbered.taken line.child ∙ right_child t line right;
      count = one;
      opens = opens;
      room = counted;
    }

    pub after_line : IsBillOf (with_first t (i + 1)) (with_line_in (node_of g.labels (get_or t.lines i d).parent) (node_of g.labels (get_or t.lines i d).child) (get_or t.lines i d).count g)
    unfolding line p c
    after_line = after

pub bill_at_last : (t : Lists) (g : Graph) (n : ℕ) → n ≡ length t.lines → IsBillOf (with_first t n) g → IsBillOf t g
bill_at_last t g n e of = subst (λ rows. IsBillOf (record t { lines = rows }) g) (ap (λ k. take k t.lines) e ∙ take-length t.lines) of

pub on_ok : {A E P Q : Type 0} (r : Result A E) → (P → Q) → OnOk r P → OnOk r Q
on_ok (Ok x) f p = f p
on_ok (Err e) f p = tt
