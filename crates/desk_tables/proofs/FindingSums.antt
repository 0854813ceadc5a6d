-- The number of all findings, by the places of materials and parts.
use Rattle.std.proofs.Common.{◌≡◌, ℕ, zero, suc, ◌+◌, ◌*◌, ◌<◌, ◌≤◌, ◌-◌, Bool, true, false, cond, List, [], ◌∷◌, ◌++◌, length, map, get_or, filter, count_by, sum_by, refl, sym, ap, ◌∙◌, arith}
use Rattle.std.specs.Prelude.{nat_lt, if◌then◌else◌}
use Rattle.std.specs.List.{All, range_with_len}
use Rattle.std.proofs.lemmas.Bool.{le-ltb, lt-ltb}
use Rattle.std.proofs.lemmas.List.{get_or-append-add, get_or-map, get_or_append_left, length-append, length-map}
use Rattle.std.proofs.lemmas.List.Elements.{All-from_get_or, All-from_recursion, filter-append, recursion_from_All}
use Rattle.std.proofs.lemmas.List.FromFn.{get_or-range_with_len, length-range_with_len}
use Rattle.std.proofs.lemmas.List.Sums.{sum_by-append, sum_by-cons, sum_by_push}
use Rattle.desk_rows.proofs.Sums.{sum_by-filter}
use Rattle.desk_text.specs.Code.{code_cmp}
use Rattle.desk_model.specs.declared.rows.material.MaterialRow.{MaterialRow}
use Rattle.desk_model.specs.declared.rows.part.PartRow.{PartRow}
use Rattle.desk_model.specs.Lists.{IsOrdered, Lists, is_part}
use Rattle.desk_model.proofs.Elements.{each, each_filter, each_map, sum_same}
use Rattle.desk_model.proofs.Kept.{code_cmp_total, each_kept}
use Rattle.desk_findings.specs.Articles.{is_article_sort}
use Rattle.desk_findings.specs.Bill.{IsBill}
use Rattle.desk_findings.specs.Findings.{Finding, finding_count, findings_of_article, findings_on, rules_over}
use Rattle.desk_findings.specs.Reaches.{is_or_reaches, reaches}
use Rattle.desk_findings.proofs.FindingsStored.{by_holder}
use Rattle.desk_totals.specs.Marks.{reach_count}
use Rattle.desk_totals.specs.Places.{node_at}
use Rattle.desk_totals.proofs.ForTables.{with_itself}
use Rattle.desk_tables.specs.FindingCounts.{added_at, holders_among, own_of_material, own_of_part}

-- a range to a later end
pub range_push : (a n : ℕ) → range_with_len a (suc n) ≡ range_with_len a n ++ (a + n) ∷ []
range_push a zero = let same : a ≡ a + 0 = omega arith in ap (λ k. k ∷ []) same
range_push a (suc n) =
    let same : a + 1 + n ≡ a + suc n = omega arith in
    ap (λ l. a ∷ l) (range_push (a + 1) n ∙ ap (λ k. range_with_len (a + 1) n ++ k ∷ []) same)

pub places_push : (n : ℕ) → range_with_len 0 (n + 1) ≡ range_with_len 0 n ++ n ∷ []
places_push n =
    let next : n + 1 ≡ suc n = omega arith in
    let same : 0 + n ≡ n = omega arith in
    ap (range_with_len 0) next ∙ range_push 0 n ∙ ap (λ k. range_with_len 0 n ++ k ∷ []) same

pub sum_push : (f : ℕ → ℕ) (n : ℕ) → sum_by f (range_with_len 0 (n + 1)) ≡ sum_by f (range_with_len 0 n) + f n
sum_push f n = ap (sum_by f) (places_push n) ∙ sum_by_push f (range_with_len 0 n) n

-- the sum to a later end is no less
sum_on : (f : ℕ → ℕ) (n more : ℕ) → sum_by f (range_with_len 0 n) ≤ sum_by f (range_with_len 0 (n + more))
sum_on f n zero = let same : n + 0 ≡ n = omega arith in rw same (omega arith)
sum_on f n (suc more) =
    let next : n + suc more ≡ n + more + 1 = omega arith in
    rw next (omega (arith, sum_push f (n + more), sum_on f n more))

sum_within : (f : ℕ → ℕ) (n m : ℕ) → n ≤ m → sum_by f (range_with_len 0 n) ≤ sum_by f (range_with_len 0 m)
sum_within f n m h =
    let on : n + (m - n) ≡ m = omega (arith, h) in
    Rattle.std.proofs.Common.subst (λ k. sum_by f (range_with_len 0 n) ≤ sum_by f (range_with_len 0 k)) on (sum_on f n (m - n))

-- once a sum is over the limit it stays so
pub stays_over : (limit total more : ℕ) (f : ℕ → ℕ) (n m : ℕ) → limit < total + more → total ≡ sum_by f (range_with_len 0 n) → more ≡ f n → n < m → true ≡ nat_lt limit (sum_by f (range_with_len 0 m))
stays_over limit total more f n m over e added inside =
    sym (lt-ltb limit (sum_by f (range_with_len 0 m)) (omega (arith, over, e, added, sum_push f n, sum_within f (n + 1) m (omega (arith, inside)))))

range_split : (k a b : ℕ) → range_with_len k (a + b) ≡ range_with_len k a ++ range_with_len (k + a) b
range_split k zero b =
    let none : 0 + b ≡ b = omega arith in
    let same : k ≡ k + 0 = omega arith in
    ap (range_with_len k) none ∙ ap (λ j. range_with_len j b) same
range_split k (suc a) b =
    let next : suc a + b ≡ suc (a + b) = omega arith in
    let same : k + 1 + a ≡ k + suc a = omega arith in
    ap (range_with_len k) next ∙ ap (λ l. k ∷ l) (range_split (k + 1) a b ∙ ap (λ j. range_with_len (k + 1) a ++ range_with_len j b) same)

-- a sum over places is that over the elements there
sum_at : {X : Type 0} (f : X → ℕ) (F : ℕ → ℕ) (k : ℕ) (xs : List X) → ((i : ℕ) (d : X) → i < length xs → F (k + i) ≡ f (get_or xs i d)) → sum_by F (range_with_len k (length xs)) ≡ sum_by f xs
sum_at f F k [] h = refl
sum_at f F k (x ∷ xs) h =
    let first : F k ≡ f x = let same : k ≡ k + 0 = omega arith in ap F same ∙ h 0 x (omega arith) in
    let rest = sum_at f F (k + 1) xs (λ i d inside. let same : k + 1 + i ≡ k + suc i = omega arith in ap F same ∙ h (suc i) d (omega (arith, inside))) in
    sum_by-cons F k (range_with_len (k + 1) (length xs)) ∙ ap (λ n. n + sum_by F (range_with_len (k + 1) (length xs))) first ∙ ap (λ n. f x + n) rest ∙ sym (sum_by-cons f x xs)

sum_halves : {X Y : Type 0} (f : X → ℕ) (g : Y → ℕ) (F : ℕ → ℕ) (xs : List X) (ys : List Y) → ((i : ℕ) (d : X) → i < length xs → F i ≡ f (get_or xs i d)) → ((i : ℕ) (d : Y) → i < length ys → F (length xs + i) ≡ g (get_or ys i d)) → sum_by F (range_with_len 0 (length xs + length ys)) ≡ sum_by f xs + sum_by g ys
sum_halves f g F xs ys h k =
    let same : 0 + length xs ≡ length xs = omega arith in
    ap (sum_by F) (range_split 0 (length xs) (length ys) ∙ ap (λ k. range_with_len 0 (length xs) ++ range_with_len k (length ys)) same) ∙ sum_by-append F (range_with_len 0 (length xs)) (range_with_len (length xs) (length ys))
    ∙ ap (λ n. n + sum_by F (range_with_len (length xs) (length ys))) (sum_at f F 0 xs (λ i d inside. let same : 0 + i ≡ i = omega arith in ap F same ∙ h i d inside)) ∙ ap (λ n. sum_by f xs + n) (sum_at g F (length xs) ys k)

module _ {X Y : Type 0} {Z : Type 0} (f : X → Z) (g : Y → Z) (xs : List X) (ys : List Y) (e : Z) where
  get_first : (i : ℕ) (d : X) → i < length xs → get_or (map f xs ++ map g ys) i e ≡ f (get_or xs i d)
  get_first i d h = get_or_append_left (map f xs) (map g ys) e i (omega (arith, h, length-map xs f)) ∙ get_or-map f xs i d e h

  get_second : (i : ℕ) (d : Y) → i < length ys → get_or (map f xs ++ map g ys) (length xs + i) e ≡ g (get_or ys i d)
  get_second i d h =
      ap (λ n. get_or (map f xs ++ map g ys) (n + i) e) (sym (length-map xs f)) ∙ get_or-append-add (map f xs) (map g ys) i e ∙ get_or-map g ys i d e h

-- an element in range is the same whatever stands for others
same_get : (xs : List ℕ) (i d e : ℕ) → i < length xs → get_or xs i d ≡ get_or xs i e
same_get [] i d e h = absurd (omega (arith, h))
same_get (x ∷ xs) zero d e h = refl
same_get (x ∷ xs) (suc i) d e h = same_get xs i d e (omega (arith, h))

nothing_left : (own times : ℕ) → cond (nat_lt 0 own) (own * times) 0 ≡ own * times
nothing_left zero times = omega arith
nothing_left (suc own) times = let some : nat_lt 0 (suc own) ≡ true = lt-ltb 0 (suc own) (omega arith) in rw some refl

-- each place of a range to the number of nodes is one of theirs
places_inside : (n : ℕ) → All (λ place. place < n) (range_with_len 0 n)
places_inside n =
    All-from_get_or (λ place. place < n) (range_with_len 0 n) 0
    (λ i inside. let below : i < n = omega (arith, inside, length-range_with_len 0 n) in omega (arith, get_or-range_with_len 0 n i 0 below, below))

-- and so is each holder's
pub holders_inside : (own : List ℕ) → All (λ place. place < length own) (holders_among own)
holders_inside own =
    All-from_recursion (λ place. place < length own) (holders_among own)
    (each_map (λ place. (place < length own) × (nat_lt 0 (get_or own place 0) ≡ true)) (λ place. place < length own) (λ place h. h.0) (holders_among own)
    (each_filter (λ place. place < length own) (λ place. nat_lt 0 (get_or own place 0)) (range_with_len 0 (length own))
    (recursion_from_All (λ place. place < length own) (range_with_len 0 (length own)) (places_inside (length own)))))

-- the holders to a later end
pub holders_push : (own : List ℕ) (n : ℕ) → filter (λ place. nat_lt 0 (get_or own place 0)) (range_with_len 0 (n + 1)) ≡ filter (λ place. nat_lt 0 (get_or own place 0)) (range_with_len 0 n) ++ (if nat_lt 0 (get_or own n 0) then n ∷ [] else [])
holders_push own n = ap (filter (λ place. nat_lt 0 (get_or own place 0))) (places_push n) ∙ filter-append (λ place. nat_lt 0 (get_or own place 0)) (range_with_len 0 n) (n ∷ [])

added_of_material : (own reach a b : ℕ) (test : Bool) → test ≡ true → own ≡ a → reach ≡ b → own * (reach + (if test then 0 else 1)) ≡ a * b
added_of_material own reach a b test e f g =
    let same : b + 0 ≡ b = omega arith in
    rw (e, f, g) (ap (λ n. a * n) same)

added_of_part : (own reach a b : ℕ) (test : Bool) → test ≡ false → own ≡ a → reach ≡ b → own * (reach + (if test then 0 else 1)) ≡ a * (b + 1)
added_of_part own reach a b test e f g = rw (e, f, g) refl

module _ (t : Lists) (ordered : IsOrdered t) (is_bill : IsBill t) where
  -- the sum of what materials and parts add, row by row, is the number of all findings
  sums_up : sum_by (λ material. own_of_material t material * reach_count t material.code) t.materials + sum_by (λ part. own_of_part t part * (reach_count t part.code + 1)) t.parts ≡ finding_count t
  sums_up =
      let materials =
      sum_same (λ material. own_of_material t material * reach_count t material.code) (λ material. length (findings_on t material) * count_by (λ part. reaches t part.code material.code) t.parts) t.materials
      (each (λ material. own_of_material t material * reach_count t material.code ≡ length (findings_on t material) * count_by (λ part. reaches t part.code material.code) t.parts)
      (λ material. ap (λ n. n * reach_count t material.code) (sym (found_on material))) t.materials) in
      let parts =
      sum_same (λ part. own_of_part t part * (reach_count t part.code + 1)) (λ article. if is_article_sort article.sort then length (findings_of_article t article) * count_by (λ part. is_or_reaches t part.code article.code) t.parts else 0) t.parts
      (each_map (λ part. is_part t part.code ≡ true) (λ part. own_of_part t part * (reach_count t part.code + 1) ≡ (if is_article_sort part.sort then length (findings_of_article t part) * count_by (λ other. is_or_reaches t other.code part.code) t.parts else 0))
      of_part t.parts (each_kept (λ row. row.code) code_cmp code_cmp_total t.parts)) in
      omega (arith, materials, parts, by_holder t)
    where
      found_on : (material : MaterialRow) → length (findings_on t material) ≡ own_of_material t material
      found_on material = length-map (rules_over t material) (λ rule. Finding.over material.code rule)

      by_sort : (article : Bool) (own reach both : ℕ) → both ≡ reach + 1 → (if article then own else 0) * (reach + 1) ≡ (if article then own * both else 0)
      by_sort true own reach both e = ap (λ n. own * n) (sym e)
      by_sort false own reach both e = omega arith

      of_part : (part : PartRow) → is_part t part.code ≡ true → own_of_part t part * (reach_count t part.code + 1) ≡ (if is_article_sort part.sort then length (findings_of_article t part) * count_by (λ other. is_or_reaches t other.code part.code) t.parts else 0)
      of_part part kept =
          by_sort (is_article_sort part.sort) (length (findings_of_article t part)) (reach_count t part.code) (count_by (λ other. is_or_reaches t other.code part.code) t.parts)
          (with_itself t ordered is_bill part.code kept)

  module _ (own : List ℕ) (nodes : List (List ℕ))
      (own_is : own ≡ map (own_of_material t) t.materials ++ map (own_of_part t) t.parts)
      (nodes_are : nodes ≡ map (λ row. row.code) t.materials ++ map (λ row. row.code) t.parts) where
    halves : {Z : Type 0} (f : MaterialRow → Z) (g : PartRow → Z) → length (map f t.materials ++ map g t.parts) ≡ length t.materials + length t.parts
    halves f g = length-append (map f t.materials) (map g t.parts) ∙ ap (λ n. n + length (map g t.parts)) (length-map t.materials f) ∙ ap (λ n. length t.materials + n) (length-map t.parts g)

    own_len : length own ≡ length t.materials + length t.parts
    own_len = ap length own_is ∙ halves (own_of_material t) (own_of_part t)

    -- there is one own count for each node
    pub same_len : length own ≡ length nodes
    same_len = own_len ∙ sym (ap length nodes_are ∙ halves (λ row. row.code) (λ row. row.code))

    -- what the node at a place adds
    adds : ℕ → ℕ
    adds place = get_or own place 0 * (reach_count t (node_at nodes place) + (if nat_lt place (length t.materials) then 0 else 1))

    at_material : (i : ℕ) (d : MaterialRow) → i < length t.materials → adds i ≡ own_of_material t (get_or t.materials i d) * reach_count t (get_or t.materials i d).code
    unfolding adds
    at_material i d h =
        added_of_material (get_or own i 0) (reach_count t (node_at nodes i)) (own_of_material t (get_or t.materials i d)) (reach_count t (get_or t.materials i d).code) (nat_lt i (length t.materials))
        (lt-ltb i (length t.materials) h)
        (ap (λ list. get_or list i 0) own_is ∙ get_first (own_of_material t) (own_of_part t) t.materials t.parts 0 i d h)
        (ap (reach_count t) (ap (λ list. get_or list i []) nodes_are ∙ get_first (λ row. row.code) (λ row. row.code) t.materials t.parts [] i d h))

    at_part : (i : ℕ) (d : PartRow) → i < length t.parts → adds (length t.materials + i) ≡ own_of_part t (get_or t.parts i d) * (reach_count t (get_or t.parts i d).code + 1)
    unfolding adds
    at_part i d h =
        added_of_part (get_or own (length t.materials + i) 0) (reach_count t (node_at nodes (length t.materials + i))) (own_of_part t (get_or t.parts i d)) (reach_count t (get_or t.parts i d).code)
        (nat_lt (length t.materials + i) (length t.materials))
        (le-ltb (length t.materials + i) (length t.materials) (omega arith))
        (ap (λ list. get_or list (length t.materials + i) 0) own_is ∙ get_second (own_of_material t) (own_of_part t) t.materials t.parts 0 i d h)
        (ap (reach_count t) (ap (λ list. get_or list (length t.materials + i) []) nodes_are ∙ get_second (λ row. row.code) (λ row. row.code) t.materials t.parts [] i d h))

    all_added : sum_by adds (range_with_len 0 (length own)) ≡ finding_count t
    all_added =
        ap (λ n. sum_by adds (range_with_len 0 n)) own_len
        ∙ sum_halves (λ material. own_of_material t material * reach_count t material.code) (λ part. own_of_part t part * (reach_count t part.code + 1)) adds t.materials t.parts at_material at_part
        ∙ sums_up

    module _ (holders reach : List ℕ) (holders_are : holders ≡ holders_among own) (reach_is : reach ≡ map (λ place. reach_count t (node_at nodes place)) holders) where
      at_holder : (i d : ℕ) → i < length holders → added_at own holders reach (length t.materials) i ≡ adds (get_or holders i d)
      unfolding adds
      at_holder i d h =
          ap (λ r. get_or own (get_or holders i 0) 0 * (r + (if nat_lt (get_or holders i 0) (length t.materials) then 0 else 1)))
          (ap (λ list. get_or list i 0) reach_is ∙ get_or-map (λ place. reach_count t (node_at nodes place)) holders i 0 0 h)
          ∙ ap adds (same_get holders i 0 d h)

      -- what the holders add is the number of all findings
      pub added_up : sum_by (added_at own holders reach (length t.materials)) (range_with_len 0 (length holders)) ≡ finding_count t
      unfolding adds
      added_up =
          sum_at adds (added_at own holders reach (length t.materials)) 0 holders (λ i d h. let same : 0 + i ≡ i = omega arith in ap (added_at own holders reach (length t.materials)) same ∙ at_holder i d h)
          ∙ ap (sum_by adds) holders_are
          ∙ sum_by-filter (λ place. nat_lt 0 (get_or own place 0)) adds (range_with_len 0 (length own))
          ∙ sum_same (λ place. cond (nat_lt 0 (get_or own place 0)) (adds place) 0) adds (range_with_len 0 (length own))
          (each (λ place. cond (nat_lt 0 (get_or own place 0)) (adds place) 0 ≡ adds place)
          (λ place. nothing_left (get_or own place 0) (reach_count t (node_at nodes place) + (if nat_lt place (length t.materials) then 0 else 1))) (range_with_len 0 (length own)))
          ∙ all_added
