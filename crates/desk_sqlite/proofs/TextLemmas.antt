-- What the statements mean over the table of a store.
use Rattle.std.proofs.Common.{◌≡◌, ℕ, pos, negsuc, List, [], ◌∷◌, codes, false, None, refl}
use Rattle.sqlite_value.specs.declared.value.Value.TheVariants.{Null, Int}
use Rattle.sqlite_value.specs.declared.keys.Collation.TheVariants.{Binary}
use Rattle.sqlite_sql.specs.declared.ops.BinaryOp.TheVariants.{Compare}
use Rattle.sqlite_sql.specs.declared.ops.CompareOp.TheVariants.{Eq, Gt}
use Rattle.sqlite_sql.specs.Term.{Term, lit, col, op2}
use Rattle.sqlite_sql.specs.Query.{Query, inner, end}
use Rattle.sqlite_value.specs.Keys.{ascending}
use Rattle.sqlite_schema.specs.declared.command.Source.TheVariants.{Values}
use Rattle.sqlite_schema.specs.declared.command.Command.TheVariants.{Insert, Delete, Select}
use Rattle.sqlite_tied.specs.Compute.{everything}
use Rattle.sqlite.specs.Given.{IsPlain}
use Rattle.sqlite.specs.Listing.{understood, reads_listing}
use Rattle.sqlite.proofs.Callers.{command_of}
use Rattle.desk_sqlite.specs.Texts.{numbers_text, first_text, within_text, beyond_text, insert_text, four_text, drop_text}
use Rattle.desk_sqlite.specs.Table.{store_schema}

-- a query that shows kind, code and body of the first rows that pass the tests, in the order of the keys
abbrev pub first_query : List Term → Query
first_query tests = record {
  from = inner 0 end;
  filter = tests;
  group = None;
  project = col 1 1 ∷ col 1 2 ∷ col 1 3 ∷ [];
  distinct = false;
  collations = [];
  order = (col 1 1, ascending Binary) ∷ (col 1 2, ascending Binary) ∷ [];
  limit = lit (Int (pos 64));
  offset = lit (Int (pos 0));
}

-- a query that shows the number of each row that passes the tests
abbrev pub drop_query : List Term → Query
drop_query tests = record {
  from = inner 0 end;
  filter = tests;
  group = None;
  project = col 1 0 ∷ [];
  distinct = false;
  collations = [];
  order = [];
  limit = lit (Int (negsuc 0));
  offset = lit (Int (pos 0));
}

-- a query that shows the number of each row, in order
abbrev pub numbers_query : Query
numbers_query = record {
  from = inner 0 end;
  filter = [];
  group = None;
  project = col 1 0 ∷ [];
  distinct = false;
  collations = [];
  order = (col 1 0, ascending Binary) ∷ [];
  limit = lit (Int (negsuc 0));
  offset = lit (Int (pos 0));
}

-- the terms of the rows that an insert of four records is given
abbrev pub four_terms : List Term
four_terms =
    lit Null ∷ col 0 0 ∷ col 0 1 ∷ col 0 2
    ∷ lit Null ∷ col 0 3 ∷ col 0 4 ∷ col 0 5
    ∷ lit Null ∷ col 0 6 ∷ col 0 7 ∷ col 0 8
    ∷ lit Null ∷ col 0 9 ∷ col 0 10 ∷ col 0 11
    ∷ []

module _ (checks : List Term) (name : List ℕ) where
  pub insert_plain : IsPlain (understood (store_schema checks name) insert_text)
  unfolding understood everything
  insert_plain = (refl, refl)

  pub insert_is : command_of (understood (store_schema checks name) insert_text) ≡ Insert 0 (Values (lit Null ∷ col 0 0 ∷ col 0 1 ∷ col 0 2 ∷ []) 4)
  unfolding understood everything
  insert_is = refl

  pub four_plain : IsPlain (understood (store_schema checks name) four_text)
  unfolding understood everything
  four_plain = (refl, refl)

  pub four_is : command_of (understood (store_schema checks name) four_text) ≡ Insert 0 (Values four_terms 4)
  unfolding understood everything
  four_is = refl

  pub drop_plain : IsPlain (understood (store_schema checks name) drop_text)
  unfolding understood everything
  drop_plain = (refl, refl)

  pub within_plain : IsPlain (understood (store_schema checks name) within_text)
  unfolding understood everything
  within_plain = (refl, refl)

  pub within_is : command_of (understood (store_schema checks name) within_text)
      ≡ Select (record { lets = []; body = first_query (op2 (Compare Eq Binary) (col 1 1) (col 0 0) ∷ op2 (Compare Gt Binary) (col 1 2) (col 0 1) ∷ []) }) (codes "kind" ∷ codes "code" ∷ codes "body" ∷ [])
  unfolding understood everything
  within_is = refl

  pub first_plain : IsPlain (understood (store_schema checks name) first_text)
  unfolding understood everything
  first_plain = (refl, refl)

  pub first_is : command_of (understood (store_schema checks name) first_text) ≡ Select (record { lets = []; body = first_query [] }) (codes "kind" ∷ codes "code" ∷ codes "body" ∷ [])
  unfolding understood everything
  first_is = refl

  pub beyond_is : command_of (understood (store_schema checks name) beyond_text) ≡ Select (record { lets = []; body = first_query (op2 (Compare Gt Binary) (col 1 1) (col 0 0) ∷ []) }) (codes "kind" ∷ codes "code" ∷ codes "body" ∷ [])
  unfolding understood everything
  beyond_is = refl

  pub numbers_is : command_of (understood (store_schema checks name) numbers_text) ≡ Select (record { lets = []; body = numbers_query }) (codes "rowid" ∷ [])
  unfolding understood everything
  numbers_is = refl

  pub drop_is : command_of (understood (store_schema checks name) drop_text) ≡ Delete 0 (record { lets = []; body = drop_query (op2 (Compare Eq Binary) (col 1 1) (col 0 0) ∷ op2 (Compare Eq Binary) (col 1 2) (col 0 1) ∷ []) })
  unfolding understood everything
  drop_is = refl

  pub beyond_plain : IsPlain (understood (store_schema checks name) beyond_text)
  unfolding understood everything
  beyond_plain = (refl, refl)

  pub numbers_plain : IsPlain (understood (store_schema checks name) numbers_text)
  unfolding understood everything
  numbers_plain = (refl, refl)

  pub first_listed : reads_listing (store_schema checks name) first_text ≡ false
  unfolding understood everything
  first_listed = refl

  pub beyond_listed : reads_listing (store_schema checks name) beyond_text ≡ false
  unfolding understood everything
  beyond_listed = refl

  pub numbers_listed : reads_listing (store_schema checks name) numbers_text ≡ false
  unfolding understood everything
  numbers_listed = refl

  pub within_listed : reads_listing (store_schema checks name) within_text ≡ false
  unfolding understood everything
  within_listed = refl
