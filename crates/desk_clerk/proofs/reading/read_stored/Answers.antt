-- Each record that is read on comes past all before it, and is the first that is kept there.
use Rattle.std.proofs.Common.{◌≡◌, ◌++◌, [], ◌∷◌, length-append, true, false, sym, ap, ◌∙◌, subst, arith, refl, None, Some, is_lt}
use Rattle.std.specs.Prelude.{IfSome, Ok, Err, option_copied}
use Rattle.desk_edge.specs.Content.{key_cmp, key_of, is_past, IsFirstPast}
use Rattle.desk_edge.specs.declared.key.Key.{Key}
use Rattle.desk_edge.proofs.Keys.{key_order}
use Rattle.desk_rows.proofs.Order.{none_by_key}
use Rattle.desk_records.specs.Records.{content_in, is_past_all}
use Rattle.desk_records.proofs.FirstRecords.{by_key_append, none_where, nothing_before, past_last, read_on, read_whole}
use Rattle.desk_clerk.proofs.reading.read_stored.Goals as goal

pub reading-init : goal.reading-init
reading-init g c = record {
  records = [];
  by_key = none_by_key key_of key_cmp key_order;
  number = refl;
  within = omega arith;
  made = c.start-gathered.ensures;
  after = λ key. refl;
  so_far = λ t key before. nothing_before (g.K.Keeper.content c.args.keeper.now) [] key refl before;
  told = λ t. t;
  stays = λ t key. refl;
  count = refl;
}

pub returns-in_default-clause-read : goal.returns-in_default-clause-read
returns-in_default-clause-read g c =
    let content = g.K.Keeper.content c.next_record.new.self in
    let records = c.reading.invariant.records in
    let so : g.K.Keeper.Tells c.next_record.new.self → (key : Key) → is_past_all records key ≡ false → content key ≡ content_in records key =
    λ t key not. c.next_record.ensures.stays t key ∙ c.reading.invariant.so_far (c.next_record.ensures.told t) key not in
    let none = none_where c.in_ok-kept.field-0 c.in_default.not-Some in
    let first : g.K.Keeper.Tells c.next_record.new.self → IsFirstPast content c.reading.after None =
    λ t. subst (λ after. IsFirstPast content after None) c.as_ref.ensures.value
    (subst (λ found. IsFirstPast content (option_copied c.as_ref.result) found) none (c.in_ok-kept.ensures.gives t)) in (
      records,
      c.reading.invariant.number,
      c.reading.invariant.made,
      record {
        by_key = c.reading.invariant.by_key;
        within = omega (arith, c.reading.invariant.number, c.reading.invariant.within);
        first = λ t. record { so_far = so t; all = λ _. read_whole content c.reading.after records c.reading.invariant.after (first t) (so t) };
      },
    )

pub reading-preserved : goal.reading-preserved
reading-preserved g c =
    let content = g.K.Keeper.content c.next_record.new.self in
    let records = c.reading.invariant.records in
    let kept = c.in-Some.kept in
    let later : is_past c.reading.after (key_of kept) ≡ true =
    subst (λ after. is_past after (key_of kept) ≡ true) c.as_ref.ensures.value
    (subst (λ found. IfSome found (λ kept. is_past (option_copied c.as_ref.result) (key_of kept) ≡ true)) c.in-Some.is c.in_ok-kept.ensures.later) in
    let past : is_past_all records (key_of kept) ≡ true = sym (c.reading.invariant.after (key_of kept)) ∙ later in
    record {
      records = records ++ kept ∷ [];
      by_key = by_key_append records kept c.reading.invariant.by_key past;
      number = omega (arith, c.reading.invariant.number, length-append records (kept ∷ []));
      within = omega (arith, c.reading-test.true);
      made = c.in_ok-gathered.ensures.gathered records c.reading.invariant.made;
      after = λ key. ap (λ j. is_lt (key_cmp j key)) c.in_ok-copied_key.ensures ∙ past_last records kept key past;
      so_far = λ t.
          let first : IsFirstPast content c.reading.after (Some kept) =
          subst (λ after. IsFirstPast content after (Some kept)) c.as_ref.ensures.value
          (subst (λ found. IsFirstPast content (option_copied c.as_ref.result) found) c.in-Some.is (c.in_ok-kept.ensures.gives t)) in
          let so : (key : Key) → is_past_all records key ≡ false → content key ≡ content_in records key =
          λ key not. c.next_record.ensures.stays t key ∙ c.reading.invariant.so_far (c.next_record.ensures.told t) key not in
          read_on content c.reading.after records kept c.reading.invariant.after later first so;
      told = λ t. c.reading.invariant.told (c.next_record.ensures.told t);
      stays = λ t key. c.next_record.ensures.stays t key ∙ c.reading.invariant.stays (c.next_record.ensures.told t) key;
      count = c.next_record.ensures.faults.steady (λ e. not_ok (sym c.in_ok-kept.was ∙ e)) ∙ c.reading.invariant.count;
    }
  where
    not_ok : {X : Type 0} {E : Type 0} {x : X} {e : E} → Ok x ≡ Err e → ⊥
    not_ok h = cc
