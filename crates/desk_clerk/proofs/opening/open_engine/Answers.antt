-- What the store is opened as follows from what was read of it.
use Rattle.std.proofs.Common.{inl, refl}
use Rattle.desk_engine.specs.Engine.{lists_of}
use Rattle.desk_records.proofs.Planned.{if_ok}
use Rattle.desk_clerk.proofs.OpenedAs.{empty_read, is_read, none_read, not_opened, opened_as, same_kept, some_read}
use Rattle.desk_clerk.proofs.opening.open_engine.Goals as goal

pub returns-then-number-eq0-clause-opened : goal.returns-then-number-eq0-clause-opened
returns-then-number-eq0-clause-opened g c =
    let (records, number, made, were) = c.in_ok-number.ensures.read in
    let content = g.K.Keeper.content c.args.keeper.now in
    if_ok c.put_start.result
    (λ tables is _ t.
    let told = c.put_start.ensures.told t in
    let read = is_read content (g.K.Keeper.content c.read_stored.new.keeper) records (c.read_stored.ensures.stays told) (were.first told) in
    inl (empty_read content records read (none_read records c.in_ok-number.number number c.if-number-eq0.true), is))
    c.put_start.ensures.start c.put_start.ensures.start

pub returns-then-number-eq0-clause-kept : goal.returns-then-number-eq0-clause-kept
returns-then-number-eq0-clause-kept g c =
    let (records, number, made, were) = c.in_ok-number.ensures.read in
    let content = g.K.Keeper.content c.read_stored.new.keeper in
    if_ok c.put_start.result
    (λ tables kept _ t.
    let read = is_read content content records (λ key. refl) (were.first (c.put_start.ensures.told t)) in
    kept t (empty_read content records read (none_read records c.in_ok-number.number number c.if-number-eq0.true)))
    c.put_start.ensures.kept c.put_start.ensures.kept

pub returns-else-number-eq0-clause-opened : goal.returns-else-number-eq0-clause-opened
returns-else-number-eq0-clause-opened g c =
    let (records, number, made, were) = c.in_ok-number.ensures.read in
    let content = g.K.Keeper.content c.args.keeper.now in
    if_ok c.engine_of.result
    (λ tables sound same t.
    let read = is_read content (g.K.Keeper.content c.read_stored.new.keeper) records (c.read_stored.ensures.stays t) (were.first t) in
    opened_as content records (lists_of tables) read (some_read records c.in_ok-number.number number c.if-number-eq0.false) were.by_key sound (same records were.by_key made))
    c.engine_of.ensures.sound c.engine_of.ensures.same

pub returns-else-number-eq0-clause-kept : goal.returns-else-number-eq0-clause-kept
returns-else-number-eq0-clause-kept g c =
    let (records, number, made, were) = c.in_ok-number.ensures.read in
    let content = g.K.Keeper.content c.read_stored.new.keeper in
    if_ok c.engine_of.result
    (λ tables sound same t. same_kept content records (lists_of tables) (is_read content content records (λ key. refl) (were.first t)) were.by_key sound (same records were.by_key made))
    c.engine_of.ensures.sound c.engine_of.ensures.same

pub returns-else-number-eq0-clause-damaged : goal.returns-else-number-eq0-clause-damaged
returns-else-number-eq0-clause-damaged g c = λ kind code e.
    let (records, number, made, were) = c.in_ok-number.ensures.read in
    record {
      records = records;
      by_key = were.by_key;
      within = were.within;
      read = λ t. is_read (g.K.Keeper.content c.args.keeper.now) (g.K.Keeper.content c.read_stored.new.keeper) records (c.read_stored.ensures.stays t) (were.first t);
      damage = c.engine_of.ensures.damage kind code e records were.by_key made;
    }

pub returns-else-number-eq0-clause-not_sound : goal.returns-else-number-eq0-clause-not_sound
returns-else-number-eq0-clause-not_sound g c = λ kind code e t.
    let (records, number, made, were) = c.in_ok-number.ensures.read in
    not_opened (g.K.Keeper.content c.args.keeper.now) records
    (is_read (g.K.Keeper.content c.args.keeper.now) (g.K.Keeper.content c.read_stored.new.keeper) records (c.read_stored.ensures.stays t) (were.first t))
    (some_read records c.in_ok-number.number number c.if-number-eq0.false)
    were.by_key (c.engine_of.ensures.not_sound kind code e records were.by_key made)
