-- What every event on a desk keeps.
use Rattle.std.proofs.Common.{◌≡◌, ℕ, zero, suc, Bool, true, false, List, [], ◌∷◌, ◌++◌, length, Option, None, Some, Result, refl, sym, ap, ◌∙◌, subst, append-nil, append_assoc, if◌then◌else◌}
use Rattle.std.specs.Prelude.{fold, leb, replicate}
use Rattle.std.specs.List.{AllByRecursion}
use Rattle.desk_clerk.specs.Core.{Core, Event, IsEventInForm, IsReached, answer_of_look, at, changed_at, core_at_start, happens, learn, learnt, longer_list, look, publish, submit, tell, with_edit}
use Rattle.desk_clerk.specs.Published.{added_to_list}
use Rattle.desk_clerk.proofs.Growing.{grows_at, history_on}
use Rattle.desk_history.specs.History.{Begins, History, IsHistory, after}
use Rattle.desk_history.specs.Sound.{Sound}
use Rattle.desk_history.proofs.Beginnings.{begins_itself, begins_onward}
use Rattle.desk_model.specs.Forms.{is_edit_in_form}
use Rattle.desk_model.specs.Lists.{Lists}
use Rattle.desk_model.specs.declared.edit.Edit.{Edit}
use Rattle.desk_scratch.specs.declared.question.Question.{Question}

-- all of the lists begin this one
abbrev pub AllBegin : History → List History → Type 0
AllBegin list lists = AllByRecursion (λ one. Begins one list) lists

-- what is kept
pub record Keeps (core : Core) : Type 0 where
  pub history : IsHistory core.whole
  pub published : Begins core.published core.whole
  pub notes : AllBegin core.published core.notes
  pub seats : AllBegin core.published core.seats

-- what begins a list begins each that it begins
onward : (list longer : History) (lists : List History) → Begins list longer → AllBegin list lists → AllBegin longer lists
onward list longer [] b x = tt
onward list longer (one ∷ lists) b x = (begins_onward one list longer x.0 b, onward list longer lists b x.1)

-- one more at the end
one_more : (list one : History) (lists : List History) → AllBegin list lists → Begins one list → AllBegin list (lists ++ one ∷ [])
one_more list one [] x b = (b, tt)
one_more list one (first ∷ lists) x b = (x.0, one_more list one lists x.1 b)

-- one that is changed into another that begins the list
changed_one : (list : History) (place : ℕ) (change : History → History) (lists : List History) → ((one : History) → Begins one list → Begins (change one) list) → AllBegin list lists
    → AllBegin list (changed_at place change lists)
changed_one list place change [] kept x = tt
changed_one list zero change (one ∷ lists) kept x = (kept one x.0, x.1)
changed_one list (suc place) change (one ∷ lists) kept x = (x.0, changed_one list place change lists kept x.1)

-- one of them
pub one_at : (list : History) (place : ℕ) (lists : List History) (one : History) → AllBegin list lists → at place lists ≡ Some one → Begins one list
one_at list place [] one x e = none_some e
  where
    none_some : {G : Type 0} → None ≡ Some one → G
    none_some e = cc
one_at list zero (first ∷ lists) one x e = subst (λ l. Begins l list) (same e) x.0
  where
    same : Some first ≡ Some one → first ≡ one
    same e = cc
one_at list (suc place) (first ∷ lists) one x e = one_at list place lists one x.1 e

-- the one that was changed
pub changed_there : (place : ℕ) (list : History) (lists : List History) (one : History) → at place lists ≡ Some one → at place (changed_at place (λ old. list) lists) ≡ Some list
changed_there place list [] one e = none_some e
  where
    none_some : {G : Type 0} → None ≡ Some one → G
    none_some e = cc
changed_there zero list (first ∷ lists) one e = refl
changed_there (suc place) list (first ∷ lists) one e = changed_there place list lists one e

-- the longer of two that begin a list begins it
longer_begins : (list first second : History) (b : Bool) → Begins first list → Begins second list → Begins (if b then first else second) list
longer_begins list first second true x y = x
longer_begins list first second false x y = y

learnt_begins : (list : History) (place : ℕ) (notes : List History) (note : Option History) → at place notes ≡ note → AllBegin list notes → (one : History) → Begins one list → Begins (learnt note one) list
learnt_begins list place notes None e x one b = b
learnt_begins list place notes (Some note) e x one b = longer_begins list one note (leb (length note.edits) (length one.edits)) b (one_at list place notes note x e)

-- a list begins itself with an edit behind
with_begins : (list : History) (edit : Edit) → Begins list (with_edit list edit)
with_begins list edit = record { opening = refl; rest = added_to_list (after list) edit; edits = refl }

pub happens_keeps : (core : Core) (event : Event) → IsEventInForm event → Keeps core → Keeps (happens core event)
happens_keeps core (submit edit) form k = record {
  history = (history_on core.whole.opening core.whole.edits (added_to_list (after core.whole) edit) (Rattle.desk_history.specs.Step.step (after core.whole) edit).1 k.history (grows_at (after core.whole) edit form)).0;
  published = begins_onward core.published core.whole (with_edit core.whole edit) k.published (with_begins core.whole edit);
  notes = k.notes;
  seats = k.seats;
}
happens_keeps core publish form k = record {
  history = k.history;
  published = begins_itself core.whole;
  notes = onward core.published core.whole core.notes k.published k.notes;
  seats = onward core.published core.whole core.seats k.published k.seats;
}
happens_keeps core (look seat question) form k = record {
  history = k.history;
  published = k.published;
  notes = k.notes;
  seats = changed_one core.published seat (λ list. core.published) core.seats (λ one b. begins_itself core.published) k.seats;
}
happens_keeps core tell form k = record {
  history = k.history;
  published = k.published;
  notes = one_more core.published core.published core.notes k.notes (begins_itself core.published);
  seats = k.seats;
}
happens_keeps core (learn seat note) form k = record {
  history = k.history;
  published = k.published;
  notes = k.notes;
  seats = changed_one core.published seat (learnt (at note core.notes)) core.seats (learnt_begins core.published note core.notes (at note core.notes) refl k.notes) k.seats;
}

all_keep : (core : Core) (events : List Event) → AllByRecursion IsEventInForm events → Keeps core → Keeps (fold happens core events)
all_keep core [] forms k = k
all_keep core (event ∷ events) forms k = all_keep (happens core event) events forms.1 (happens_keeps core event forms.0 k)

all_at_start : (list : History) (seats : ℕ) → AllBegin list (replicate seats list)
all_at_start list zero = tt
all_at_start list (suc seats) = (begins_itself list, all_at_start list seats)

start_keeps : (opening : Lists) (seats : ℕ) → Sound opening → Keeps (core_at_start opening seats)
start_keeps opening seats sound =
    let list : History = record { opening = opening; edits = [] } in
    record {
      history = record { sound = sound; accepted = tt };
      published = begins_itself list;
      notes = tt;
      seats = all_at_start list seats;
    }

pub reached_keeps : (core : Core) → IsReached core → Keeps core
reached_keeps core r = subst Keeps (sym r.leads) (all_keep (core_at_start r.opening r.seats) r.events r.in_form (start_keeps r.opening r.seats r.sound))
