-- What is said of serving over a keeper that was opened from a shelf is said of the shelf's store.
use Rattle.std.proofs.Common.{◌≡◌, ◌∙◌, ap, sym, ◌⊎◌, ℕ, List, Option, None, Some, inl, inr, refl}
use Rattle.desk_clerk.specs.Opening.{IsOpenedAs}
use Rattle.desk_edge.specs.Content.{Content, IsSame}
use Rattle.desk_clerk.specs.Clerk.{list_from}
use Rattle.desk_history.specs.History.{after}
use Rattle.desk_model.specs.Lists.{Lists}
use Rattle.desk_records.specs.Records.{tables_content}
use Rattle.desk_top.specs.Answer.{answer_without_memory, status_code}
use Rattle.desk_top.specs.Console.{Console}
use Rattle.desk_top.specs.Serve.{Doorway, EndsServing, WasUnserved, WereServed}
use Rattle.desk_top.specs.declared.status.Status.{Status}
use Rattle.desk_top.proofs.Stores.{begun_as, same_trans, unbegun_as}

-- serving over a keeper is serving over the store that the keeper is given back to
pub serving_as : (wanted : Option ℕ) (doors : Doorway) (Told Tells : Type 0) (kept c d : Content) (faults ended : ℕ) (console : Console)
    → (Told → Tells) → (Told → IsSame c d)
    → EndsServing wanted doors Tells kept c faults ended console → EndsServing wanted doors Told kept d faults ended console
serving_as wanted doors Told Tells kept c d faults ended console tells given (inl (first, opened, was)) =
    inl (
      first,
      (λ told. opened (tells told)),
      record {
        edits = was.edits;
        history = was.history;
        ends = was.ends;
        unread = was.unread;
        closed = λ told. same_trans (tables_content (after (list_from first was.edits))) c d (was.closed (tells told)) (given told);
      },
    )
serving_as wanted doors Told Tells kept c d faults ended console tells given (inr (untaken, was)) =
    inr (untaken, unbegun_as Told Tells kept kept c d faults ended console tells (λ told key. refl) given was)

-- connections were served over the opened desk, or there was no memory to serve them
pub serving_opened : (wanted : Option ℕ) (doors : Doorway) (Tells : Type 0) (kept keeps : Content) (faults : ℕ) (first : Lists) (ended : Status) (console : Console)
    → (Tells → IsOpenedAs kept first)
    → WereServed wanted Tells keeps first (status_code ended) doors console ⊎ WasUnserved Tells keeps first ended doors console
    → EndsServing wanted doors Tells kept keeps faults (status_code ended) console
serving_opened wanted doors Tells kept keeps faults first ended console opened (inl was) = inl (first, opened, was)
serving_opened wanted doors Tells kept keeps faults first ended console opened (inr was) = inr (
  was.unasked,
  record {
    answer = answer_without_memory;
    cause = inr (inr refl);
    status = inr (ap status_code was.memory);
    told = was.told;
    unread = was.unread;
    closed = λ tells. begun_as kept keeps first (opened tells) (was.closed tells);
  },
)
