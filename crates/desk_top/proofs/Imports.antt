-- What is said of an import into a keeper that was opened from a shelf is said of the shelf's store.
use Rattle.std.proofs.Common.{◌≡◌, ◌∙◌, ap, sym, subst, ◌⊎◌, ℕ, ◌<◌, List, [], Option, inl, inr, refl, arith}
use Rattle.std.specs.Io.KnownBytes.{Appends}
use Rattle.std.proofs.KnownBytes.{Appends-nil, Consumes-nil}
use Rattle.desk_edge.specs.Content.{Content, IsSame}
use Rattle.desk_edge.specs.Faults.{Rose}
use Rattle.desk_edge.specs.Transfer.{AppendsBeginning}
use Rattle.desk_records.specs.Records.{tables_content}
use Rattle.desk_top.specs.Answer.{Answer, Answers, answer_to_failed_reading, answer_to_store_fault, answer_without_memory, status_code}
use Rattle.desk_top.specs.Console.{Console, IsFaulty}
use Rattle.desk_top.specs.Import.{EndsImport, IsImportRefusal}
use Rattle.desk_top.specs.Store.{IsUnopened}
use Rattle.desk_top.specs.declared.status.Status.{Status}
use Rattle.desk_top.specs.declared.status.Status.TheVariants as status
use Rattle.desk_top.proofs.Stores.{keeps_of, same_trans}

-- why nothing was put into a keeper is why nothing was put into the store
refusal_as : (Told Tells : Type 0) (a b : Content) (faults : ℕ) (console : Console) (answer : Answer) → (Told → Tells) → (Told → IsSame a b)
    → IsImportRefusal Tells b faults console answer → IsImportRefusal Told a faults console answer
refusal_as Told Tells a b faults console answer tells same (inl (is, unread, full)) =
    inl (is, unread, λ told none. full (tells told) (λ key. same told key ∙ none key))
refusal_as Told Tells a b faults console answer tells same (inr (inl (is, none, bytes, read, long))) =
    inr (inl (is, (λ told key. sym (same told key) ∙ none (tells told) key), bytes, read, long))
refusal_as Told Tells a b faults console answer tells same (inr (inr (inl (line, is, none, bytes, read, damaged)))) =
    inr (inr (inl (line, is, (λ told key. sym (same told key) ∙ none (tells told) key), bytes, read, damaged)))
refusal_as Told Tells a b faults console answer tells same (inr (inr (inr (inl failed)))) = inr (inr (inr (inl failed)))
refusal_as Told Tells a b faults console answer tells same (inr (inr (inr (inr (inl memory))))) = inr (inr (inr (inr (inl memory))))
refusal_as Told Tells a b faults console answer tells same (inr (inr (inr (inr (inr (is, none)))))) =
    inr (inr (inr (inr (inr (is, λ told key. sym (same told key) ∙ none (tells told) key)))))

pub import_as : (Told Tells : Type 0) (a b c d : Content) (faults ended : ℕ) (console : Console)
    → (Told → Tells) → (Told → IsSame a b) → (Told → IsSame c d)
    → EndsImport Tells b c faults ended console → EndsImport Told a d faults ended console
import_as Told Tells a b c d faults ended console tells same given (inl was) = inl record {
  bytes = was.bytes;
  read = was.read;
  tables = was.tables;
  sound = was.sound;
  number = was.number;
  file = was.file;
  empty = λ told key. sym (same told key) ∙ was.empty (tells told) key;
  closed = λ told. same_trans (tables_content was.tables) c d (was.closed (tells told)) (given told);
  told = was.told;
  status = was.status;
}
import_as Told Tells a b c d faults ended console tells same given (inr was) = inr record {
  answer = was.answer;
  cause = refusal_as Told Tells a b faults console was.answer tells same was.cause;
  status = was.status;
  told = was.told;
  closed = λ told. same_trans a c d (same_trans a b c (same told) (was.closed (tells told))) (given told);
  taken = was.taken;
}

-- the shelf didn't open a store: nothing was put in, and the line tells why
pub not_lent : (Told Tells lost : Type 0) (kept keeps : Content) (count : ℕ) (ended : Status) (console : Console)
    → (ended ≡ status.StoreFault) ⊎ (ended ≡ status.OutOfMemory) → (ended ≡ status.StoreFault → lost)
    → (ended ≡ status.StoreFault → Answers answer_to_store_fault (status_code ended) console.before console.after (IsFaulty console))
    → (ended ≡ status.OutOfMemory → Answers answer_without_memory (status_code ended) console.before console.after (IsFaulty console))
    → console.left ≡ console.unread → (Tells → Told × IsSame kept keeps)
    → (faults : ℕ) × EndsImport Tells kept keeps faults (status_code ended) console × (Tells → Told) × (0 < faults → lost)
    × ((faults ≡ count) ⊎ IsUnopened (status_code ended) console)
not_lent Told Tells lost kept keeps count ended console (inl is) failed store_line memory_line stays others = (
  1,
  inr record {
    answer = answer_to_store_fault;
    cause = inr (inr (inr (inl (refl, search (arith)))));
    status = ap status_code is;
    told = store_line is;
    closed = λ tells. (others tells).1;
    taken = ([], rw stays (Consumes-nil console.unread), search (arith));
  },
  (λ tells. (others tells).0),
  (λ some. failed is),
  inr (inl (ap status_code is), keeps_of _ _ stays),
)
not_lent Told Tells lost kept keeps count ended console (inr is) failed store_line memory_line stays others = (
  0,
  inr record {
    answer = answer_without_memory;
    cause = inr (inr (inr (inr (inl refl))));
    status = ap status_code is;
    told = memory_line is;
    closed = λ tells. (others tells).1;
    taken = ([], rw stays (Consumes-nil console.unread), search (arith));
  },
  (λ tells. (others tells).0),
  (λ some. absurd (search (arith, some))),
  inr (inr (ap status_code is), keeps_of _ _ stays),
)

-- what is said of a line from where the reading ended is said of it from the beginning: reading writes nothing and counts nothing
pub answers_as : (answer : Answer) (ended : ℕ) (old mid new : Option (List ℕ)) (f g h : ℕ) → mid ≡ old → g ≡ f
    → Answers answer ended mid new (Rose g h) → Answers answer ended old new (Rose f h)
answers_as answer ended old mid new f g h same count told =
    subst (λ (n : ℕ). Answers answer ended old new (Rose n h)) count (subst (λ (o : Option (List ℕ)). Answers answer ended o new (Rose g h)) same told)

-- a line of status 6 is the whole answer
pub refused_line : (answer : Answer) (ended : Status) (old new : Option (List ℕ)) (rose : Type 0) → answer.status ≡ status.Refused → ended ≡ status.Refused
    → ((rose → ⊥) → Appends old new answer.text) → AppendsBeginning old new answer.text → Answers answer (status_code ended) old new rose
refused_line answer ended old new rose is told steady beginning = rw told record {
  status = inl (ap status_code (sym is));
  whole = λ other. cc other;
  steady = steady;
  beginning = beginning;
  fault = λ other. cc other;
}

-- where the console failed while it was read, nothing was written
pub unwritten : (old new : Option (List ℕ)) (rose : Type 0) → new ≡ old → rose → Answers answer_to_failed_reading (status_code status.ConsoleFault) old new rose
unwritten old new rose stays rise = record {
  status = inl refl;
  whole = λ other. cc other;
  steady = λ none. absurd (none rise);
  beginning = (0, subst (λ (o : Option (List ℕ)). Appends old o []) (sym stays) (Appends-nil old));
  fault = λ _. inl (keeps_of old new stays);
}
