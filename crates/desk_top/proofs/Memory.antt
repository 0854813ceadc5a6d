-- Where memory was wanting before a command began, that is what each command may come to.
use Rattle.std.proofs.Common.{◌≡◌, ℕ, List, [], Option, None, Some, inl, inr, refl, arith}
use Rattle.std.proofs.KnownBytes.{Consumes-nil}
use Rattle.desk_edge.specs.Content.{Content}
use Rattle.desk_top.specs.Answer.{Answer, Answers, answer_to_check, answer_without_memory, status_code}
use Rattle.desk_top.specs.Console.{Console, IsFaulty}
use Rattle.desk_top.specs.Run.{Does, IsChecked, IsServedOver, IsSession}
use Rattle.desk_top.specs.Sample.{answer_to_sample}
use Rattle.desk_top.specs.Serve.{Doorway}
use Rattle.desk_top.specs.Session.{nothing_kept}
use Rattle.desk_top.specs.Store.{IsUnopened, Shelving, WasNotBegun}
use Rattle.desk_top.specs.declared.status.Status.TheVariants as status
use Rattle.desk_law.specs.declared.kind_on_day.KindOnDay.{KindOnDay}
use Rattle.desk_words.specs.declared.command.Command.{Command}
use Rattle.desk_words.specs.declared.command.Command.TheVariants as asked
use Rattle.desk_top.proofs.Input.{some_input}
use Rattle.desk_top.proofs.Stores.{keeps_of, unbegun}

-- the line that memory was wanting may stand in the place of any answer
any_answer : (answer : Answer) (old new : Option (List ℕ)) (rose : Type 0) → Answers answer_without_memory (status_code status.OutOfMemory) old new rose
    → Answers answer (status_code status.OutOfMemory) old new rose
any_answer answer old new rose told = record {
  status = inr (inr refl);
  whole = λ other. cc other;
  steady = told.steady;
  beginning = told.beginning;
  fault = λ other. cc other;
}

-- a call on a shelf that left it as it was
abbrev pub untouched : (List ℕ → Type 0) → (List ℕ → Content) → (List ℕ → ℕ) → Type 0 → Shelving
untouched Tells kept count lost = record { Told = Tells; Tells = Tells; kept = kept; keeps = kept; count = count; Lost = lost }

module _ (console : Console) (stays : console.left ≡ console.unread)
    (told : Answers answer_without_memory (status_code status.OutOfMemory) console.before console.after (IsFaulty console)) where
  not_begun : (Tells : Type 0) (kept : Content) → WasNotBegun Tells kept kept 0 (status_code status.OutOfMemory) console
  not_begun Tells kept =
      unbegun Tells kept kept 0 (status_code status.OutOfMemory) answer_without_memory console (inr (inr refl)) (inl refl) told
      (keeps_of console.unread console.left stays) (λ tells key. refl)

  unopened : IsUnopened (status_code status.OutOfMemory) console
  unopened = (inr refl, keeps_of console.unread console.left stays)

  unchecked : (check : KindOnDay) → IsChecked check (status_code status.OutOfMemory) console
  unchecked check =
      let (input, is) = some_input console.unread in record {
        input = input;
        is = is;
        answers = any_answer (answer_to_check check input) console.before console.after (IsFaulty console) told;
        end = λ other. cc other;
        taken = ([], rw stays (Consumes-nil console.unread), search (arith));
        fault = λ other. cc other;
      }

  unserved : (Tells : List ℕ → Type 0) (kept : List ℕ → Content) (count : List ℕ → ℕ) (lost : Type 0) (store : Option (List ℕ))
      → IsSession (untouched Tells kept count lost) store (status_code status.OutOfMemory) console
  unserved Tells kept count lost None = (nothing_kept, inr (not_begun (Unit {0}) nothing_kept))
  unserved Tells kept count lost (Some name) = (0, inr (not_begun (Tells name) (kept name)), (λ tells. tells), (λ some. absurd (search (arith, some))), inr unopened)

  untaken : (Tells : List ℕ → Type 0) (kept : List ℕ → Content) (count : List ℕ → ℕ) (lost : Type 0) (wanted : Option ℕ) (doors : Doorway)
      → doors.taken ≡ doors.taken_before → (store : Option (List ℕ))
      → IsServedOver (untouched Tells kept count lost) wanted doors store (status_code status.OutOfMemory) console
  untaken Tells kept count lost wanted doors none None = (nothing_kept, inr (none, not_begun (Unit {0}) nothing_kept))
  untaken Tells kept count lost wanted doors none (Some name) = (
    0,
    inr (none, not_begun (Tells name) (kept name)),
    (λ tells. tells),
    (λ some. absurd (search (arith, some))),
    inr unopened,
  )

  pub undone : (Tells : List ℕ → Type 0) (kept : List ℕ → Content) (count : List ℕ → ℕ) (lost : Type 0) (doors : Doorway)
      → doors.taken ≡ doors.taken_before → (command : Command)
      → Does (untouched Tells kept count lost) doors command (status_code status.OutOfMemory) console
  undone Tells kept count lost doors none (asked.Check check) = unchecked check
  undone Tells kept count lost doors none (asked.Session session) = unserved Tells kept count lost session.store
  undone Tells kept count lost doors none (asked.Serve serve) = untaken Tells kept count lost serve.connections doors none serve.store
  undone Tells kept count lost doors none (asked.Export export) = (0, inr (not_begun (Tells export.store) (kept export.store)), (λ tells. tells), (λ some. absurd (search (arith, some))), inr unopened)
  undone Tells kept count lost doors none (asked.Import import) = (
    0,
    inr record {
      answer = answer_without_memory;
      cause = inr (inr (inr (inr (inl refl))));
      status = refl;
      told = told;
      closed = λ tells key. refl;
      taken = ([], rw stays (Consumes-nil console.unread), search (arith));
    },
    (λ tells. tells),
    (λ some. absurd (search (arith, some))),
    inr unopened,
  )
  undone Tells kept count lost doors none (asked.Audit audit) = (0, inr (not_begun (Tells audit.store) (kept audit.store)), (λ tells. tells), (λ some. absurd (search (arith, some))), inr unopened)
  undone Tells kept count lost doors none (asked.Sample sample) = (stays, any_answer (answer_to_sample sample.size) console.before console.after (IsFaulty console) told)
