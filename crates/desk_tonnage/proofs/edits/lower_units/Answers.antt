use Rattle.std.proofs.Common.{◌≡◌, ℕ, ◌-◌, Some, remove, sym, ap, ◌∙◌}
use Rattle.std.specs.Prelude.{slice_set}
use Rattle.desk_rows.specs.Rows.{without_row}
use Rattle.desk_tonnage.specs.declared.entry.Entry.{Entry}
use Rattle.desk_tonnage.specs.Entries.{entry_key, entry_key_cmp, entry_of}
use Rattle.desk_tonnage.specs.Edits.{with_entry}
use Rattle.desk_tonnage.proofs.Lowered.{all_taken, lower_key, some_left}
use Rattle.desk_tonnage.proofs.edits.lower_units.Goals as goal

abbrev lower : Entry → ℕ → Entry
lower entry units = record entry { units = entry.units - units }

pub returns-then-left-eq0 : goal.returns-then-left-eq0
returns-then-left-eq0 c =
    let items = c.args.entries.now.items in
    let key = c.args.key.now in
    let entry = c.index.result.now in
    let found : entry_of key.0 key.1 items ≡ Some entry = cc (c.in-Ok.ensures.found entry, c.index.ensures, c.as_slice.ensures.value) in
    let taken : without_row entry_key entry_key_cmp key items ≡ remove items c.in-Ok.at = cc (c.in-Ok.ensures.taken, c.as_slice.ensures.value) in
    c.remove.ensures.items ∙ sym taken ∙ sym (all_taken key.0 key.1 c.args.units items entry found c.requires.kept c.if-left-eq0.true)

pub returns-else-left-eq0 : goal.returns-else-left-eq0
returns-else-left-eq0 c =
    let items = c.args.entries.now.items in
    let key = c.args.key.now in
    let entry = c.index_mut.result.now in
    let found : entry_of key.0 key.1 items ≡ Some entry = cc (c.in-Ok.ensures.found entry, c.index_mut.ensures.value, c.as_slice.ensures.value) in
    let read : entry_of key.0 key.1 items ≡ Some c.index.result.now = cc (c.in-Ok.ensures.found c.index.result.now, c.index.ensures, c.as_slice.ensures.value) in
    let same : c.index.result.now ≡ entry = cc (found, read) in
    let put : with_entry (lower entry c.args.units) items ≡ slice_set items c.in-Ok.at (lower entry c.args.units) = cc (c.in-Ok.ensures.put (lower entry c.args.units) (lower_key key.0 key.1 c.args.units items entry found), c.as_slice.ensures.value) in
    ap (λ e. slice_set items c.in-Ok.at (record entry { units = e.units - c.args.units })) same ∙ sym put ∙ sym (some_left key.0 key.1 c.args.units items entry found (λ e. c.if-left-eq0.false (ap (λ x. x.units - c.args.units) same ∙ e)))
