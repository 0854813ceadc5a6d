-- A router whose routes are literal finds a path exactly where a route is the path.
use Rattle.std.proofs.Common.{◌≡◌, ◌∙◌, ap, refl, subst, ℕ, zero, suc, ◌-◌, ◌<◌, ◌≤◌, Bool, true, false, cond, List, [], ◌∷◌, length, Option, Some, None, arith}
use Rattle.std.specs.Prelude.{◌&&◌, ◌==◌, ltb}
use Rattle.std.specs.List.{AllByRecursion, list_all}
use Rattle.std.proofs.lemmas.Bool.{and_parts, eqb-true, ltb-true}
use Rattle.matchit.specs.Order.{lookup}
use Rattle.matchit.specs.Rows.{RowsOf, catch_all_token, param_token}
use Rattle.matchit.specs.Seek.{has_slash, or_else, own, param_step, same_text, seek, step}

-- the route is bytes alone
abbrev pub is_literal : List ℕ → Bool
is_literal route = list_all (λ token. ltb token param_token) route

module _ {K : Type 0} where
  -- each route is bytes alone
  abbrev pub are_literal : RowsOf K → Bool
  are_literal rows = list_all (λ row. is_literal row.0) rows

  -- without routes nothing is found
  none-stepped : (path : List ℕ) → (param_step {K = K} [] path).1 ≡ []
  unfolding param_step
  none-stepped path = by (has_slash path)
    where
      by : (b : Bool) → (cond {A = ℕ × RowsOf K} b (0, []) (length path, [])).1 ≡ []
      by true = refl
      by false = refl

  none-found : (skip : ℕ) (path : List ℕ) → seek {K = K} skip [] path ≡ None
  unfolding seek
  none-found skip [] = refl
  none-found (suc skip) (b ∷ path) = none-found skip path
  none-found zero (b ∷ path) =
      rw (none-found 0 path, none-stepped (b ∷ path), none-found ((param_step {K = K} [] (b ∷ path)).0 - 1) path) refl

  -- no route of bytes goes on with a token that is none
  no-token : (token : ℕ) → param_token ≤ token → (rows : RowsOf K) → are_literal rows ≡ true → step token rows ≡ []
  no-token token high [] l = refl
  no-token token high (([], key) ∷ rows) l = no-token token high rows l
  no-token token high ((x ∷ t, key) ∷ rows) l =
      let here = and_parts (is_literal (x ∷ t)) (are_literal rows) l in
      let first = and_parts (ltb x param_token) (is_literal t) here.0 in
      by (x == token) refl (ltb-true x param_token first.0) (no-token token high rows here.1)
    where
      by : (b : Bool) → (x == token) ≡ b → x < param_token → step token rows ≡ [] → cond b ((t, key) ∷ step token rows) (step token rows) ≡ []
      by true e low rest = absurd (omega (arith, eqb-true x token e))
      by false e low rest = rest

  literal-stepped : (b : ℕ) (rows : RowsOf K) → are_literal rows ≡ true → are_literal (step b rows) ≡ true
  literal-stepped b [] l = refl
  literal-stepped b (([], key) ∷ rows) l = literal-stepped b rows l
  literal-stepped b ((x ∷ t, key) ∷ rows) l =
      let here = and_parts (is_literal (x ∷ t)) (are_literal rows) l in
      let first = and_parts (ltb x param_token) (is_literal t) here.0 in
      by (x == b) first.1 (literal-stepped b rows here.1)
    where
      by : (same : Bool) → is_literal t ≡ true → are_literal (step b rows) ≡ true → are_literal (cond same ((t, key) ∷ step b rows) (step b rows)) ≡ true
      by true e rest = rw (e, rest) refl
      by false e rest = rest

  own-is : (rows : RowsOf K) → own rows ≡ lookup [] rows
  own-is [] = refl
  own-is (([], key) ∷ rows) = refl
  own-is ((x ∷ t, key) ∷ rows) = own-is rows

  step-is : (b : ℕ) (path : List ℕ) (rows : RowsOf K) → lookup path (step b rows) ≡ lookup (b ∷ path) rows
  step-is b path [] = refl
  step-is b path (([], key) ∷ rows) = step-is b path rows
  step-is b path ((x ∷ t, key) ∷ rows) = by (x == b) (step-is b path rows)
    where
      by : (same : Bool) → lookup path (step b rows) ≡ lookup (b ∷ path) rows
          → lookup path (cond same ((t, key) ∷ step b rows) (step b rows)) ≡ cond (same && same_text t path) (Some key) (lookup (b ∷ path) rows)
      by true rest = ap (λ found. cond (same_text t path) (Some key) found) rest
      by false rest = rest

  or_none : (found : Option K) → or_else found None ≡ found
  or_none None = refl
  or_none (Some key) = refl

  -- what is found is the route that is the path
  pub found-is : (path : List ℕ) (rows : RowsOf K) → are_literal rows ≡ true → seek 0 rows path ≡ lookup path rows
  unfolding seek
  found-is [] rows l = own-is rows
  found-is (b ∷ path) rows l =
      let params : step param_token rows ≡ [] = no-token param_token (omega arith) rows l in
      let rest : step catch_all_token rows ≡ [] = no-token catch_all_token (omega arith) rows l in
      rw (params, rest, none-stepped (b ∷ path), none-found ((param_step {K = K} [] (b ∷ path)).0 - 1) path)
      (or_none (seek 0 (step b rows) path) ∙ found-is path (step b rows) (literal-stepped b rows l) ∙ step-is b path rows)

  -- a route that is found has what each has, and is the path
  pub found_each : (P : List ℕ × K → Type 0) (path : List ℕ) (rows : RowsOf K) (key : K) → AllByRecursion P rows → lookup path rows ≡ Some key
      → (t : List ℕ) × P (t, key) × (same_text t path ≡ true)
  found_each P path [] key each e = cc
  found_each P path ((t, k) ∷ rows) key each e = by (same_text t path) refl e (found_each P path rows key each.1)
    where
      by : (b : Bool) → same_text t path ≡ b → cond b (Some k) (lookup path rows) ≡ Some key
          → (lookup path rows ≡ Some key → (u : List ℕ) × P (u, key) × (same_text u path ≡ true)) → (u : List ℕ) × P (u, key) × (same_text u path ≡ true)
      by true same e rest = (t, subst (λ x. P (t, x)) (same_some k key e) each.0, same)
        where
          same_some : (x y : K) → Some x ≡ Some y → x ≡ y
          same_some x y h = cc
      by false same e rest = rest e
