-- What a query for the first rows, and one for the numbers of rows, tell of the rows.
use Rattle.std.proofs.Common.{◌≡◌, List, [], ◌∷◌, map, take, Bool, true, sym, ap, subst, ◌∙◌}
use Rattle.std.specs.List.{list_all}
use Rattle.std.specs.List.Sorted.{IsSorted}
use Rattle.std.proofs.lemmas.List.Sorted.{IsPermutation-sym}
use Rattle.sqlite_value.specs.Order.{Row}
use Rattle.sqlite_trees.specs.Tree.{Trees, rowid}
use Rattle.sqlite_rules.specs.Lists.{Has}
use Rattle.sqlite_rules.proofs.ProbeLemmas.{has_mapped, mapped_has}
use Rattle.sqlite_sql.specs.Term.{Term, Env, holds}
use Rattle.sqlite_sql.specs.Query.{Query, inner, end, matches, IsAnswer, Output, output, output_cmp}
use Rattle.desk_sqlite.proofs.ListLemmas.{has_matched, matched_has, has_permuted}
use Rattle.desk_sqlite.proofs.TextLemmas.{first_query, drop_query}

abbrev pub passes : List Term → Row → Row → Bool
passes tests params row = list_all (holds (params ∷ row ∷ [])) tests

abbrev pub env_of : Row → Row → Env
env_of params row = params ∷ row ∷ []

-- what a query shows of a row
abbrev pub shown_of : List Term → Row → Row → Output
shown_of tests params row = output (first_query tests) (env_of params row)

-- the rows that were shown are the first of those that pass, in the order of the query
pub record AreListed (tests : List Term) (params : Row) (rows shown : List Row) : Type 0 where
  pub ordered : List Output
  pub is : shown ≡ take 64 (map (λ (o : Output). o.1) ordered)
  pub sorted : IsSorted (output_cmp (first_query tests)) ordered
  pub from : (o : Output) → Has ordered o → (r : Row) × Has rows r × (passes tests params r ≡ true) × (o ≡ shown_of tests params r)
  pub there : (x : Row) → Has rows x → passes tests params x ≡ true → Has ordered (shown_of tests params x)

module _ (tests : List Term) (db : Trees) (params : Row) where
  pub listed_in : (shown : List Row) → IsAnswer (first_query tests) db params shown → AreListed tests params (db 0) shown
  listed_in shown a = record {
    ordered = a.ordered;
    is = a.shown;
    sorted = a.sorted;
    from = λ o there.
        let e = has_mapped (output q) all o (subst (λ l. Has l o) kept (has_permuted a.ordered a.kept o (IsPermutation-sym _ _ a.same) there)) in
        let r = has_matched (passes tests params) (env_of params) (db 0) e.0 e.1 in
        (r.0, r.1, r.2, e.2 ∙ ap (output q) r.3);
    there = λ x has good.
        let o = shown_of tests params x in
        let mine = subst (λ l. Has l o) (sym kept) (mapped_has (output q) all (env_of params x) (matched_has (passes tests params) (env_of params) (db 0) x has good)) in
        has_permuted a.kept a.ordered o a.same mine;
  }
    where
      q : Query
      q = first_query tests

      all : List Env
      all = matches db tests (inner 0 end) (params ∷ [])

      kept : a.kept ≡ map (output (first_query tests)) (matches db tests (inner 0 end) (params ∷ []))
      kept = a.distinct ∙ ap (map (output (first_query tests))) a.grouped

  -- the numbers that are shown are those of the rows that pass
  pub numbers_in : (found : List Row) → IsAnswer (drop_query tests) db params found
      → ((x : Row) → Has found x → (r : Row) × Has (db 0) r × (passes tests params r ≡ true) × (x ≡ rowid r ∷ [])) × ((r : Row) → Has (db 0) r → passes tests params r ≡ true → Has found (rowid r ∷ []))
  numbers_in found a = (
    λ x there.
        let o = has_mapped (λ (k : Output). k.1) a.ordered x (subst (λ l. Has l x) a.shown there) in
        let e = has_mapped (output q) all o.0 (subst (λ l. Has l o.0) kept (has_permuted a.ordered a.kept o.0 (IsPermutation-sym _ _ a.same) o.1)) in
        let r = has_matched (passes tests params) (env_of params) (db 0) e.0 e.1 in
        (r.0, r.1, r.2, o.2 ∙ ap (λ (k : Output). k.1) (e.2 ∙ ap (output q) r.3)),
    λ r there good.
        let o = output q (env_of params r) in
        let mine = subst (λ l. Has l o) (sym kept) (mapped_has (output q) all (env_of params r) (matched_has (passes tests params) (env_of params) (db 0) r there good)) in
        subst (λ l. Has l (rowid r ∷ [])) (sym a.shown) (mapped_has (λ (k : Output). k.1) a.ordered o (has_permuted a.kept a.ordered o a.same mine)),
  )
    where
      q : Query
      q = drop_query tests

      all : List Env
      all = matches db tests (inner 0 end) (params ∷ [])

      kept : a.kept ≡ map (output (drop_query tests)) (matches db tests (inner 0 end) (params ∷ []))
      kept = a.distinct ∙ ap (map (output (drop_query tests))) a.grouped
