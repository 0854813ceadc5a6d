use Rattle.std.proofs.Common.{◌-◌, ◌∙◌, ap, sym, length, Ok, Err, arith}
use Rattle.desk_rows.proofs.Edits.{place_of_key}
use Rattle.desk_rows.proofs.Search.{last_less}
use Rattle.desk_rows.proofs.place.place_from_end.Goals as goal

pub returns-in-Less : goal.returns-in-Less
returns-in-Less g c =
    let key = g.R.Keyed.key in
    let cmp = g.R.Key.Ord.cmp in
    let total = g.met.R.Key.Ord.total in
    let k = c.args.key.now in
    let rows = c.args.rows.now in
    place_of_key key cmp total k rows (Err (length rows)) c.requires (omega arith) (last_less key cmp total k rows (length rows - 1) (omega (arith, c.in-Some.ensures.item.3.0)) (λ d. ap (λ row. cmp (key row) k) (sym (c.in-Some.ensures.item.3.1 d)) ∙ sym c.in-Less.ensures))

pub returns-in-Equal : goal.returns-in-Equal
returns-in-Equal g c =
    let key = g.R.Keyed.key in
    let cmp = g.R.Key.Ord.cmp in
    let k = c.args.key.now in
    let rows = c.args.rows.now in
    place_of_key key cmp g.met.R.Key.Ord.total k rows (Ok (length rows - 1)) c.requires (omega (arith, c.in-Some.ensures.item.3.0)) (λ d. ap (λ row. cmp (key row) k) (sym (c.in-Some.ensures.item.3.1 d)) ∙ sym c.in-Equal.ensures)
