use Rattle.std.proofs.Common.{◌≡◌, ◌-◌, ◌∙◌, ap, sym, length, Ok, Err, rules, arith}
use Rattle.std.proofs.lemmas.Fn.{always_returns_same}
use Rattle.desk_rows.proofs.Edits.{place_of_row}
use Rattle.desk_rows.proofs.Search.{last_less}
use Rattle.desk_rows.proofs.place.place_of_row.Goals as goal

pub returns-in-Less : goal.returns-in-Less
returns-in-Less g c =
    let key = g.R.Keyed.key in
    let cmp = g.R.Key.Ord.cmp in
    let total = g.met.R.Key.Ord.total in
    let new = c.args.row.now in
    let rows = c.args.rows.now in
    place_of_row key cmp total new rows (Err (length rows)) c.requires (omega arith) (last_less key cmp total (key new) rows (length rows - 1) (omega (arith, c.in-Some.ensures.item.3.0)) (λ d. ap (λ row. cmp (key row) (key new)) (sym (c.in-Some.ensures.item.3.1 d)) ∙ sym c.in-Less.ensures))

pub returns-in-Equal : goal.returns-in-Equal
returns-in-Equal g c =
    let key = g.R.Keyed.key in
    let cmp = g.R.Key.Ord.cmp in
    let new = c.args.row.now in
    let rows = c.args.rows.now in
    place_of_row key cmp g.met.R.Key.Ord.total new rows (Ok (length rows - 1)) c.requires (omega (arith, c.in-Some.ensures.item.3.0)) (λ d. ap (λ row. cmp (key row) (key new)) (sym (c.in-Some.ensures.item.3.1 d)) ∙ sym c.in-Equal.ensures)

pub returns-in-Greater : goal.returns-in-Greater
returns-in-Greater g c =
    let key = g.R.Keyed.key in
    let cmp = g.R.Key.Ord.cmp in
    let new = c.args.row.now in
    let found = c.binary_search_by.ensures.position (λ row. cmp (key row) (key new)) (always_returns_same _ (λ a r. r ≡ cmp (key a.0.now) (key new)) _ (λ a r h called. search rules)) in
    place_of_row key cmp g.met.R.Key.Ord.total new c.args.rows.now c.binary_search_by.result c.requires c.binary_search_by.ensures.bound found

pub returns-in_default : goal.returns-in_default
returns-in_default g c =
    let none = c.in_default.ensures.item.3 in
    place_of_row g.R.Keyed.key g.R.Key.Ord.cmp g.met.R.Key.Ord.total c.args.row.now c.args.rows.now (Err 0) c.requires (omega arith) (λ rising. (λ i d low high. absurd (omega arith), λ i d low high. absurd (omega (arith, none))))
