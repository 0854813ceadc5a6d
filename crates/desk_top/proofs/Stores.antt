-- What is said of a keeper that was opened from a shelf is said of the shelf's store.
use Rattle.std.proofs.Common.{◌≡◌, ◌∙◌, ap, sym, ◌⊎◌, ℕ, ◌<◌, List, Option, None, Some, inl, inr, refl, arith}
use Rattle.std.specs.Io.KnownBytes.{Keeps}
use Rattle.desk_clerk.specs.Opening.{AreRead, IsDamagedAt, IsOpenedAs}
use Rattle.desk_clerk.specs.declared.open_fault.OpenFault.{OpenFault}
use Rattle.desk_clerk.specs.declared.open_fault.OpenFault.TheVariants as opening
use Rattle.desk_edge.specs.Content.{Content, IsEmpty, IsSame}
use Rattle.desk_edge.specs.Faults.{Rose}
use Rattle.desk_edge.specs.declared.record.Record.{Record}
use Rattle.desk_front.specs.declared.served.Served.{Served}
use Rattle.desk_history.specs.Sound.{Sound}
use Rattle.desk_model.specs.Lists.{Lists}
use Rattle.desk_model.specs.Start.{start}
use Rattle.desk_records.specs.Records.{tables_content}
use Rattle.desk_top.specs.Answer.{Answer, Answers, answer_of_opening, answer_to_store_fault, answer_without_memory, status_code}
use Rattle.desk_top.specs.Console.{Console, IsFaulty}
use Rattle.desk_top.specs.Session.{EndsSession, WasServed, exit_status_of}
use Rattle.desk_top.specs.Store.{IsCause, IsUnopened, WasNotBegun}
use Rattle.desk_top.specs.declared.status.Status.{Status}
use Rattle.desk_top.specs.declared.status.Status.TheVariants as status

pub same_trans : (a b c : Content) → IsSame a b → IsSame b c → IsSame a c
same_trans a b c first then key = then key ∙ first key

-- what one content is opened as, so is another in which the same is kept
pub opened_as : (a b : Content) (t : Lists) → IsSame a b → IsOpenedAs b t → IsOpenedAs a t
opened_as a b t same (inl (none, is)) = inl ((λ key. sym (same key) ∙ none key), is)
opened_as a b t same (inr (some, keeps)) = inr ((λ none. some (λ key. same key ∙ none key)), λ key. sym (same key) ∙ keeps key)

pub opened_so : (a b : Content) (t : Lists) → IsSame a b → IsOpenedAs a t → IsOpenedAs b t
opened_so a b t same (inl (none, is)) = inl ((λ key. same key ∙ none key), is)
opened_so a b t same (inr (some, keeps)) = inr ((λ none. some (λ key. sym (same key) ∙ none key)), λ key. same key ∙ keeps key)

-- records that were read of one content were read of another in which the same is kept
pub read_as : (a b : Content) (records : List Record) → IsSame a b → AreRead b records → AreRead a records
read_as a b records same read = record {
  kept = λ key some. sym (same key) ∙ read.kept key some;
  all = λ few key. sym (same key) ∙ read.all few key;
}

pub damaged_as : (Told Tells : Type 0) (a b : Content) (kind : ℕ) (code : List ℕ) → (Told → Tells) → (Told → IsSame a b)
    → IsDamagedAt Tells b kind code → IsDamagedAt Told a kind code
damaged_as Told Tells a b kind code tells same damaged = record {
  records = damaged.records;
  by_key = damaged.by_key;
  within = damaged.within;
  read = λ told. read_as a b damaged.records (same told) (damaged.read (tells told));
  damage = damaged.damage;
}

pub cause_as : (Told Tells : Type 0) (a b : Content) (faults : ℕ) (answer : Answer) → (Told → Tells) → (Told → IsSame a b)
    → IsCause Tells b faults answer → IsCause Told a faults answer
cause_as Told Tells a b faults answer tells same (inl failed) = inl failed
cause_as Told Tells a b faults answer tells same (inr (inl (kind, code, is, damaged, none))) =
    inr (inl (kind, code, is, damaged_as Told Tells a b kind code tells same damaged, λ told t sound opened. none (tells told) t sound (opened_so a b t (same told) opened)))
cause_as Told Tells a b faults answer tells same (inr (inr memory)) = inr (inr memory)

-- what didn't begin over a keeper didn't begin over the store that the keeper was opened from and given back to
pub unbegun_as : (Told Tells : Type 0) (a b c d : Content) (faults ended : ℕ) (console : Console)
    → (Told → Tells) → (Told → IsSame a b) → (Told → IsSame c d)
    → WasNotBegun Tells b c faults ended console → WasNotBegun Told a d faults ended console
unbegun_as Told Tells a b c d faults ended console tells same given was = record {
  answer = was.answer;
  cause = cause_as Told Tells a b faults was.answer tells same was.cause;
  status = was.status;
  told = was.told;
  unread = was.unread;
  closed = λ told. kept_as told (was.closed (tells told));
}
  where
    kept_as : (told : Told) → IsSame b c ⊎ ((was.answer ≡ answer_without_memory) × IsEmpty b × IsSame (tables_content start) c)
        → IsSame a d ⊎ ((was.answer ≡ answer_without_memory) × IsEmpty a × IsSame (tables_content start) d)
    kept_as told (inl stays) = inl (same_trans a c d (same_trans a b c (same told) stays) (given told))
    kept_as told (inr (memory, none, begun)) = inr (memory, (λ key. sym (same told key) ∙ none key), same_trans (tables_content start) c d begun (given told))

-- a session over a keeper is one over the store that the keeper is given back to
pub ends_as : (Told Tells : Type 0) (kept c d : Content) (faults ended : ℕ) (console : Console)
    → (Told → Tells) → (Told → IsSame c d)
    → EndsSession Tells kept c faults ended console → EndsSession Told kept d faults ended console
ends_as Told Tells kept c d faults ended console tells given (inl (first, opened, served, is, was)) =
    inl (
      first,
      (λ told. opened (tells told)),
      served,
      is,
      record {
        sound = was.sound;
        last = was.last;
        bytes = was.bytes;
        read = was.read;
        within = was.within;
        serves = was.serves;
        closed = λ told. same_trans (tables_content was.last) c d (was.closed (tells told)) (given told);
      },
    )
ends_as Told Tells kept c d faults ended console tells given (inr was) =
    inr (unbegun_as Told Tells kept kept c d faults ended console tells (λ told key. refl) given was)

-- an input that is what it was is kept
pub keeps_of : (old new : Option (List ℕ)) → new ≡ old → Keeps old new
keeps_of None new is = tt
keeps_of (Some bytes) new is = rw is refl

-- a count that rose from nothing counts something
pub rose_from_none : (before after : ℕ) → before ≡ 0 → Rose before after → 0 < after
rose_from_none before after none rose = search (arith, none, rose)

-- the start tables that an empty store was opened as are kept, or else the store is as it was
pub begun_as : (kept keeps : Content) (first : Lists) → IsOpenedAs kept first → IsSame (tables_content first) keeps
    → IsSame kept keeps ⊎ ((answer_without_memory ≡ answer_without_memory) × IsEmpty kept × IsSame (tables_content start) keeps)
begun_as kept keeps first (inl (none, is)) same = inr (refl, none, rw is at same)
begun_as kept keeps first (inr (some, was)) same = inl (λ key. same key ∙ sym (was key))

-- a clerk over the opened store served the stream, or there was no memory to serve it
pub ends_opened : (Tells : Type 0) (kept keeps : Content) (faults : ℕ) (first : Lists) (ended : Status) (console : Console)
    → (Tells → IsOpenedAs kept first)
    → ((served : Served) × (ended ≡ exit_status_of served) × WasServed Tells keeps faults first served console)
    ⊎ ((ended ≡ status.OutOfMemory) × (Tells → IsSame (tables_content first) keeps) × Keeps console.unread console.left
    × Answers answer_without_memory (status_code ended) console.before console.after (IsFaulty console))
    → EndsSession Tells kept keeps faults (status_code ended) console
ends_opened Tells kept keeps faults first ended console opened (inl (served, is, was)) = inl (first, opened, served, ap status_code is, was)
ends_opened Tells kept keeps faults first ended console opened (inr (is, same, unread, told)) = inr record {
  answer = answer_without_memory;
  cause = inr (inr refl);
  status = inr (ap status_code is);
  told = told;
  unread = unread;
  closed = λ tells. begun_as kept keeps first (opened tells) (same tells);
}

-- why a store wasn't opened is why its session didn't begin
pub cause_of : (Tells : Type 0) (kept : Content) (faults : ℕ) (fault : OpenFault) → (fault ≡ opening.KeeperFault → 0 < faults)
    → ((kind : ℕ) (code : List ℕ) → fault ≡ opening.Damaged kind code → IsDamagedAt Tells kept kind code)
    → ((kind : ℕ) (code : List ℕ) → fault ≡ opening.Damaged kind code → Tells → (t : Lists) → Sound t → IsOpenedAs kept t → ⊥)
    → IsCause Tells kept faults (answer_of_opening fault)
cause_of Tells kept faults opening.KeeperFault failed damaged unsound = inl (refl, failed refl)
cause_of Tells kept faults (opening.Damaged kind code) failed damaged unsound =
    inr (inl (kind, code, refl, damaged kind code refl, unsound kind code refl))
cause_of Tells kept faults opening.OutOfMemory failed damaged unsound = inr (inr refl)

-- what didn't begin tells why, and leaves the store as it was
pub unbegun : (Tells : Type 0) (kept keeps : Content) (faults ended : ℕ) (answer : Answer) (console : Console)
    → IsCause Tells kept faults answer → (ended ≡ status_code answer.status) ⊎ (ended ≡ status_code status.OutOfMemory)
    → Answers answer ended console.before console.after (IsFaulty console) → Keeps console.unread console.left → (Tells → IsSame kept keeps)
    → WasNotBegun Tells kept keeps faults ended console
unbegun Tells kept keeps faults ended answer console cause is told unread same = record {
  answer = answer;
  cause = cause;
  status = is;
  told = told;
  unread = unread;
  closed = λ tells. inl (same tells);
}

-- the shelf didn't open a store: nothing began, and the line tells why
pub not_lent : (Told Tells lost : Type 0) (kept keeps : Content) (count : ℕ) (ended : Status) (console : Console)
    → (ended ≡ status.StoreFault) ⊎ (ended ≡ status.OutOfMemory) → (ended ≡ status.StoreFault → lost)
    → (ended ≡ status.StoreFault → Answers answer_to_store_fault (status_code ended) console.before console.after (IsFaulty console))
    → (ended ≡ status.OutOfMemory → Answers answer_without_memory (status_code ended) console.before console.after (IsFaulty console))
    → console.left ≡ console.unread → (Tells → Told × IsSame kept keeps)
    → (faults : ℕ) × WasNotBegun Tells kept keeps faults (status_code ended) console × (Tells → Told) × (0 < faults → lost)
    × ((faults ≡ count) ⊎ IsUnopened (status_code ended) console)
not_lent Told Tells lost kept keeps count ended console (inl is) failed store_line memory_line stays others = (
  1,
  unbegun Tells kept keeps 1 (status_code ended) answer_to_store_fault console (inl (refl, search (arith))) (inl (ap status_code is))
      (store_line is) (keeps_of _ _ stays) (λ tells. (others tells).1),
  (λ tells. (others tells).0),
  (λ some. failed is),
  inr (inl (ap status_code is), keeps_of _ _ stays),
)
not_lent Told Tells lost kept keeps count ended console (inr is) failed store_line memory_line stays others = (
  0,
  unbegun Tells kept keeps 0 (status_code ended) answer_without_memory console (inr (inr refl)) (inl (ap status_code is))
      (memory_line is) (keeps_of _ _ stays) (λ tells. (others tells).1),
  (λ tells. (others tells).0),
  (λ some. absurd (search (arith, some))),
  inr (inr (ap status_code is), keeps_of _ _ stays),
)
