-- Tables none of which is over its limit: each has at most its limit of rows, and where each has, none is over.
use Rattle.std.proofs.Common.{◌≡◌, ◌≤◌, Bool, true, false, List, [], ◌∷◌, ◌++◌, refl, ap, ◌∙◌}
use Rattle.std.specs.Prelude.{if◌then◌else◌}
use Rattle.std.specs.List.{AllByRecursion, flat_map}
use Rattle.std.proofs.lemmas.Bool.{ltb-false}
use Rattle.desk_model.specs.declared.table_name.TableName.{TableName}
use Rattle.desk_model.specs.Lists.{Lists}
use Rattle.desk_model.specs.Tables.{all_tables, number_of_table, row_count, table_limit}
use Rattle.desk_model.proofs.Elements.{each, each_map}
use Rattle.desk_model.proofs.TableNames.{each_table}
use Rattle.desk_history.specs.Limits.{has_too_many_lines, if_over, is_overfull, tables_over}

both_empty : {X : Type 0} (xs ys : List X) → xs ++ ys ≡ [] → (xs ≡ []) × (ys ≡ [])
both_empty [] ys e = (refl, e)
both_empty (x ∷ xs) ys e = cc

each_empty : {X Y : Type 0} (f : X → List Y) (xs : List X) → flat_map f xs ≡ [] → AllByRecursion (λ x. f x ≡ []) xs
each_empty f [] e = tt
each_empty f (x ∷ xs) e =
    let parts = both_empty (f x) (flat_map f xs) e in
    (parts.0, each_empty f xs parts.1)

all_empty : {X Y : Type 0} (f : X → List Y) (xs : List X) → AllByRecursion (λ x. f x ≡ []) xs → flat_map f xs ≡ []
all_empty f [] a = refl
all_empty f (x ∷ xs) a = ap (λ ys. ys ++ flat_map f xs) a.0 ∙ all_empty f xs a.1

module _ (t : Lists) where
  not_listed : {X : Type 0} (x : X) (b : Bool) → (if b then x ∷ [] else []) ≡ [] → b ≡ false
  not_listed x true e = cc
  not_listed x false e = refl

  pub none_over : tables_over t ≡ [] → (table : TableName) → is_overfull t table ≡ false
  unfolding tables_over
  none_over e =
      each_table (λ table. is_overfull t table ≡ false)
      (each_map (λ table. if_over t table ≡ []) (λ table. is_overfull t table ≡ false) (λ table none. not_listed (number_of_table table) (is_overfull t table) none) all_tables
      (each_empty (if_over t) all_tables (both_empty (flat_map (if_over t) all_tables) (if has_too_many_lines t then 11 ∷ [] else []) e).0))

  pub within_limit : tables_over t ≡ [] → (table : TableName) → row_count t table ≤ table_limit table
  within_limit e table = ltb-false (table_limit table) (row_count t table) (none_over e table)

  pub few_of_parents : tables_over t ≡ [] → has_too_many_lines t ≡ false
  unfolding tables_over
  few_of_parents e = not_listed 11 (has_too_many_lines t) (both_empty (flat_map (if_over t) all_tables) (if has_too_many_lines t then 11 ∷ [] else []) e).1

  pub all_within : ((table : TableName) → is_overfull t table ≡ false) → has_too_many_lines t ≡ false → tables_over t ≡ []
  unfolding tables_over
  all_within within few =
      ap (λ over. over ++ (if has_too_many_lines t then 11 ∷ [] else []))
      (all_empty (if_over t) all_tables (each (λ table. if_over t table ≡ []) (λ table. ap (λ b. if b then number_of_table table ∷ [] else []) (within table)) all_tables))
      ∙ ap (λ b. if b then 11 ∷ [] else []) few
