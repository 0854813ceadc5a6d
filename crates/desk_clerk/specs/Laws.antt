-- Laws of stores. Each is the contract of a function without a body in `src/laws.rt`, so that the check proves it.
use Rattle.std.specs.Prelude.{◌≡◌, ℕ, Some}
use Rattle.std.specs.List.{AllByRecursion}
use Rattle.desk_edge.specs.Content.{Content, IsSame}
use Rattle.desk_model.specs.Lists.{Lists}
use Rattle.desk_history.specs.Sound.{Sound}
use Rattle.desk_scratch.specs.declared.question.Question.{Question}
use Rattle.desk_records.specs.Records.{tables_content}
use Rattle.desk_history.specs.History.{Begins, History, IsHistory}
use Rattle.desk_clerk.specs.Core.{Core, IsReached, at, happens, look}
use Rattle.desk_clerk.specs.Opening.{IsOpenedAs}

-- a store tells one desk: sound tables that keep the same records are the same tables, and so are those that a store is opened as
pub record StoresTellOneDesk : Type 0 where
  pub records : (t u : Lists) → Sound t → Sound u → IsSame (tables_content t) (tables_content u) → t ≡ u
  pub opened : (content : Content) (t u : Lists) → Sound t → Sound u → IsOpenedAs content t → IsOpenedAs content u → t ≡ u

-- whatever happens to a desk, in whatever order: the whole list is a history, what is published begins it, and what each seat and each note
-- has begins what is published. So a seat that looks is answered at a list that begins with all that it has seen or learnt, and has that
-- list from then on
pub record CoreKeeps : Type 0 where
  pub history : (core : Core) → IsReached core → IsHistory core.whole
  pub published : (core : Core) → IsReached core → Begins core.published core.whole
  pub notes : (core : Core) → IsReached core → AllByRecursion (λ note. Begins note core.published) core.notes
  pub seats : (core : Core) → IsReached core → AllByRecursion (λ list. Begins list core.published) core.seats
  pub looks : (core : Core) (seat : ℕ) (question : Question) (list : History) → IsReached core → at seat core.seats ≡ Some list
      → Begins list core.published × (at seat (happens core (look seat question)).seats ≡ Some core.published)
