use Rattle.std.proofs.Common.{◌≡◌, ◌∙◌, ap, refl, sym, Ok, true, Ordering, Less, Equal, Greater, is_eq}
use Rattle.desk_rows.proofs.Edits.{place_of_key}
use Rattle.desk_rows.proofs.place.place_near.Goals as goal

equal : (order : Ordering) → is_eq order ≡ true → order ≡ Equal
equal Less h = cc h
equal Equal h = refl
equal Greater h = cc h

pub returns-in-Some : goal.returns-in-Some
returns-in-Some g c =
    let key = g.R.Keyed.key in
    let cmp = g.R.Key.Ord.cmp in
    let k = c.args.key.now in
    let rows = c.args.rows.now in
    let read = c.in-Some.ensures.lookup.3 in
    place_of_key key cmp g.met.R.Key.Ord.total k rows (Ok c.args.near) c.requires read.0
    (λ d. ap (λ row. cmp (key row) k) (sym (read.1 d)) ∙ sym c.compare.ensures ∙ equal c.compare.result (sym c.is_eq.ensures ∙ c.if-is_eq.true))
