use Rattle.std.proofs.Common.{◌≡◌, ℕ, List, None, sym, ap, ◌∙◌, inl, inr, arith}
use Rattle.std.proofs.lemmas.Bool.{ltb-true, or_cases}
use Rattle.desk_rows.specs.Rows.{row_of}
use Rattle.desk_tonnage.specs.Entries.{entry_key, entry_key_cmp}
use Rattle.desk_tonnage.proofs.Lowered.{found_not_absent}
use Rattle.desk_tonnage.proofs.yearly.Yearly.room_for.Goals as goal

pub returns-then-is_kept-len-clause-room : goal.returns-then-is_kept-len-clause-room
returns-then-is_kept-len-clause-room c = λ new.
    let absent = new.0 in
    let none = new.1 in
    let key : ℕ × List ℕ = (c.args.year, c.args.product.now) in
    let items = ap (λ v. v.entries) c.self.view_is in
    let room = ap (λ v. v.room) c.self.view_is in
    let gone : row_of entry_key entry_key_cmp key c.as_slice.result.now ≡ None = cc (absent, items, c.as_slice.ensures.value) in
    absurd (elim (or_cases c.is_ok-is_kept.result _ c.if-is_kept-len.true) [
      | inl kept ↦ found_not_absent key c.as_slice.result.now c.place_of_key.result c.place_of_key.ensures (sym c.is_ok-is_kept.ensures.value ∙ kept) gone
      | inr less ↦ let fewer = ltb-true c.len-len.result c.capacity.result less in omega (arith, fewer, room, none, c.len-len.ensures, c.capacity.ensures)
    ])
