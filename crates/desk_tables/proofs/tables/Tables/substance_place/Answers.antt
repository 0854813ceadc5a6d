use Rattle.std.proofs.Common.{◌≡◌, ap, arith, sym, true, List, [], ◌∷◌, ℕ, Ordering}
use Rattle.std.specs.Option.{is_some}
use Rattle.desk_rows.specs.Place.{StandsAt}
use Rattle.desk_rows.specs.Rows.{row_of}
use Rattle.desk_text.specs.Code.{code_cmp}
use Rattle.desk_tables.proofs.tables.Tables.substance_place.Goals as goal

kept : {R K : Type 0} (key : R → K) (cmp : K → K → Ordering) (k : K) (rows : List R) (place : ℕ) → StandsAt key cmp k rows place → is_some (row_of key cmp k rows) ≡ true
kept key cmp k [] place at = absurd (omega (arith, at.within))
kept key cmp k (row ∷ rows) place at = ap is_some (at.found row)

pub returns-in-Ok : goal.returns-in-Ok
returns-in-Ok c =
    let code = c.args.code.now in
    rw (sym c.self.view_is) (rw (sym c.as_slice.ensures.rows) (kept (λ row. row.code) code_cmp code c.as_slice.result.now c.in-Ok.place c.in-Ok.ensures))
