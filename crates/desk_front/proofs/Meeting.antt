-- What each answer of a talk is at, and what stays told.
use Rattle.std.proofs.Common.{◌≡◌, ◌⊎◌, ℕ, ◌≤◌, List, [], ◌∷◌, refl, sym, ap, ◌∙◌, subst, inl, inr, arith}
use Rattle.desk_history.specs.History.{Begins, History, IsHistory, after, number_of, up_to}
use Rattle.desk_history.proofs.Beginnings.{begins_number, up_to_longer, up_to_up_to}
use Rattle.desk_history.proofs.Histories.{number_of-up_to, up_to-IsHistory}
use Rattle.desk_http.specs.Reply.{Reply, fixed}
use Rattle.desk_http.specs.Rest.{Message}
use Rattle.desk_http.specs.declared.fixed.Fixed.TheVariants as refusal
use Rattle.desk_model.specs.Lists.{number_at}
use Rattle.desk_front.specs.Asked.{Asked, asked_of, edit, nothing, question}
use Rattle.desk_front.specs.InOrder.{InOrder}
use Rattle.desk_front.specs.Laws.{BeginsWithAllMet, IsAnsweredAt}
use Rattle.desk_front.specs.Replies.{answer_at}
use Rattle.desk_front.specs.Talk.{Follows, IsAnswered, IsNumberedReply, IsTold, IsToldOfMemory, Numbered, Talk, TalkAt, TellsJudgement, replies_in}

-- ---- a talk and its numbers

numbers_each : (list : History) (last_seen last : ℕ) (ms : List Message) (replies : List Reply) → InOrder (IsAnswered list) last_seen ms replies last
    → (numbered : List Numbered) × (replies_in numbered ≡ replies) × InOrder (IsNumberedReply list) last_seen ms numbered last
numbers_each list last_seen last [] [] x = ([], refl, x)
numbers_each list last_seen last [] (reply ∷ replies) x = absurd x
numbers_each list last_seen last (m ∷ ms) [] x = absurd x
numbers_each list last_seen last (m ∷ ms) (reply ∷ replies) x =
    let others = numbers_each list x.0 last ms replies x.2 in
    (record { reply = reply; last_seen = x.0 } ∷ others.0, ap (λ l. reply ∷ l) others.1, (x.0, (x.1, refl), others.2))

pub with_numbers : (list : History) (last_seen : ℕ) (ms : List Message) (replies : List Reply) → Talk list last_seen ms replies
    → (numbered : List Numbered) × (replies_in numbered ≡ replies) × TalkAt list last_seen ms numbered
with_numbers list last_seen ms replies x = let y = numbers_each list last_seen x.0 ms replies x.1 in (y.0, y.1, (x.0, y.2))

pub replies_each : (list : History) (last_seen last : ℕ) (ms : List Message) (numbered : List Numbered) → InOrder (IsNumberedReply list) last_seen ms numbered last
    → InOrder (IsAnswered list) last_seen ms (replies_in numbered) last
replies_each list last_seen last [] [] x = x
replies_each list last_seen last [] (one ∷ numbered) x = absurd x
replies_each list last_seen last (m ∷ ms) [] x = absurd x
replies_each list last_seen last (m ∷ ms) (one ∷ numbered) x = (x.0, x.1.0, replies_each list x.0 last ms numbered x.2)

pub without_numbers : (list : History) (last_seen : ℕ) (ms : List Message) (numbered : List Numbered) → TalkAt list last_seen ms numbered → Talk list last_seen ms (replies_in numbered)
without_numbers list last_seen ms numbered x = (x.0, replies_each list last_seen x.0 ms numbered x.1)

-- ---- what is met is a number of the list, and never falls

abbrev Rises : History → ℕ → ℕ → Type 0
Rises list last_seen now = (last_seen ≤ now) × (now ≤ number_of list)

told_rises : (list : History) (asked : Asked) (last_seen : ℕ) (reply : Reply) (now : ℕ) → last_seen ≤ number_of list → IsTold list asked last_seen reply now → Rises list last_seen now
told_rises list (nothing told) last_seen reply now h y = (omega (arith, y.1), omega (arith, y.1, h))
told_rises list (question asked) last_seen reply now h y = (y.0.1, y.0.2)
told_rises list (edit made) last_seen reply now h (inl y) = (y.0.1, y.0.2)
told_rises list (edit made) last_seen reply now h (inr y) = (omega (arith, y.1), omega (arith, y.1, h))

moved_rises : (list : History) (last_seen now : ℕ) → last_seen ≤ number_of list → (now ≡ last_seen) ⊎ Follows list last_seen now → Rises list last_seen now
moved_rises list last_seen now h (inl e) = (omega (arith, e), omega (arith, e, h))
moved_rises list last_seen now h (inr f) = (f.1, f.2)

memory_rises : (list : History) (asked : Asked) (last_seen : ℕ) (reply : Reply) (now : ℕ) → last_seen ≤ number_of list → IsToldOfMemory list asked last_seen reply now → Rises list last_seen now
memory_rises list (nothing told) last_seen reply now h y = moved_rises list last_seen now h (inl y.1)
memory_rises list (question asked) last_seen reply now h y = moved_rises list last_seen now h y.1
memory_rises list (edit made) last_seen reply now h y = moved_rises list last_seen now h y.1

answered_rises : (list : History) (m : Message) (last_seen : ℕ) (reply : Reply) (now : ℕ) → last_seen ≤ number_of list → IsAnswered list last_seen m reply now → Rises list last_seen now
answered_rises list m last_seen reply now h (inl y) = told_rises list (asked_of m) last_seen reply now h y
answered_rises list m last_seen reply now h (inr y) = memory_rises list (asked_of m) last_seen reply now h y

-- ---- answers by their lists

told_at : (list : History) (asked : Asked) (last_seen : ℕ) (reply : Reply) (now : ℕ) → number_of (up_to list last_seen) ≡ last_seen → number_of (up_to list now) ≡ now
    → IsTold list asked last_seen reply now → IsAnsweredAt (up_to list last_seen) asked reply (up_to list now)
told_at list (nothing told) last_seen reply now a b y = (y.0, ap (up_to list) y.1)
told_at list (question asked) last_seen reply now a b y = y.1
told_at list (edit made) last_seen reply now a b (inl y) =
    inl (subst (λ n. TellsJudgement (after (up_to list now)) n (number_of (up_to list last_seen)) made reply) (sym b)
    (subst (λ n. TellsJudgement (after (up_to list now)) now n made reply) (sym a) y.1))
told_at list (edit made) last_seen reply now a b (inr y) = inr (y.0, ap (up_to list) y.1)

memory_told : (list : History) (asked : Asked) (last_seen : ℕ) (reply : Reply) (now : ℕ) → IsToldOfMemory list asked last_seen reply now → reply ≡ fixed refusal.Memory
memory_told list (nothing told) last_seen reply now y = y.0
memory_told list (question asked) last_seen reply now y = y.0
memory_told list (edit made) last_seen reply now y = y.0

answered_at : (list : History) (m : Message) (last_seen : ℕ) (reply : Reply) (now : ℕ) → number_of (up_to list last_seen) ≡ last_seen → number_of (up_to list now) ≡ now
    → IsAnswered list last_seen m reply now → IsAnsweredAt (up_to list last_seen) (asked_of m) reply (up_to list now) ⊎ (reply ≡ fixed refusal.Memory)
answered_at list m last_seen reply now a b (inl y) = inl (told_at list (asked_of m) last_seen reply now a b y)
answered_at list m last_seen reply now a b (inr y) = inr (memory_told list (asked_of m) last_seen reply now y)

pub begins_each : (list : History) (last_seen last : ℕ) (ms : List Message) (replies : List Reply) → IsHistory list → number_at list.opening ≤ last_seen → last_seen ≤ number_of list
    → InOrder (IsAnswered list) last_seen ms replies last → InOrder (BeginsWithAllMet list) (up_to list last_seen) ms replies (up_to list last)
begins_each list last_seen last [] [] h low high x = ap (up_to list) x
begins_each list last_seen last [] (reply ∷ replies) h low high x = absurd x
begins_each list last_seen last (m ∷ ms) [] h low high x = absurd x
begins_each list last_seen last (m ∷ ms) (reply ∷ replies) h low high x =
    let rises = answered_rises list m last_seen reply x.0 high x.1 in
    let opened : number_at list.opening ≤ x.0 = omega (arith, low, rises.0) in
    let before = number_of-up_to list last_seen h low high in
    let now = number_of-up_to list x.0 h opened rises.1 in (
      up_to list x.0,
      record {
        history = up_to-IsHistory list x.0 h;
        named = ap (up_to list) (sym now);
        begins = up_to_up_to list last_seen x.0 rises.0;
        answered = answered_at list m last_seen reply x.0 before now x.1;
      },
      begins_each list x.0 last ms replies h opened rises.1 x.2,
    )

pub begin_with_all_met : (list : History) (last_seen : ℕ) (ms : List Message) (replies : List Reply) → IsHistory list → number_at list.opening ≤ last_seen → last_seen ≤ number_of list
    → Talk list last_seen ms replies → (last : History) × InOrder (BeginsWithAllMet list) (up_to list last_seen) ms replies last
begin_with_all_met list last_seen ms replies h low high x = (up_to list x.0, begins_each list last_seen x.0 ms replies h low high x.1)

-- ---- longer lists

module _ (list longer : History) (a : IsHistory list) (b : IsHistory longer) (begins : Begins list longer) where
  follows_longer : (last_seen now : ℕ) → Follows list last_seen now → Follows longer last_seen now
  follows_longer last_seen now f = (omega (arith, f.0, ap number_at begins.opening), f.1, omega (arith, f.2, begins_number list longer a b begins))

  told_longer : (asked : Asked) (last_seen : ℕ) (reply : Reply) (now : ℕ) → IsTold list asked last_seen reply now → IsTold longer asked last_seen reply now
  told_longer (nothing told) last_seen reply now y = y
  told_longer (question asked) last_seen reply now y =
      let same = up_to_longer list longer now a b begins y.0.0 y.0.2 in
      (follows_longer last_seen now y.0, y.1 ∙ ap (λ l. answer_at (after l) asked) (sym same))
  told_longer (edit made) last_seen reply now (inl y) =
      let same = up_to_longer list longer now a b begins y.0.0 y.0.2 in
      inl (follows_longer last_seen now y.0, subst (λ l. TellsJudgement (after l) now last_seen made reply) (sym same) y.1)
  told_longer (edit made) last_seen reply now (inr y) = inr y

  moved_longer : (last_seen now : ℕ) → (now ≡ last_seen) ⊎ Follows list last_seen now → (now ≡ last_seen) ⊎ Follows longer last_seen now
  moved_longer last_seen now (inl e) = inl e
  moved_longer last_seen now (inr f) = inr (follows_longer last_seen now f)

  memory_longer : (asked : Asked) (last_seen : ℕ) (reply : Reply) (now : ℕ) → IsToldOfMemory list asked last_seen reply now → IsToldOfMemory longer asked last_seen reply now
  memory_longer (nothing told) last_seen reply now y = y
  memory_longer (question asked) last_seen reply now y = (y.0, moved_longer last_seen now y.1)
  memory_longer (edit made) last_seen reply now y = (y.0, moved_longer last_seen now y.1)

  pub answered_longer : (m : Message) (last_seen : ℕ) (reply : Reply) (now : ℕ) → IsAnswered list last_seen m reply now → IsAnswered longer last_seen m reply now
  answered_longer m last_seen reply now (inl y) = inl (told_longer (asked_of m) last_seen reply now y)
  answered_longer m last_seen reply now (inr y) = inr (memory_longer (asked_of m) last_seen reply now y)

  each_longer : (last_seen last : ℕ) (ms : List Message) (replies : List Reply) → InOrder (IsAnswered list) last_seen ms replies last → InOrder (IsAnswered longer) last_seen ms replies last
  each_longer last_seen last [] [] x = x
  each_longer last_seen last [] (reply ∷ replies) x = absurd x
  each_longer last_seen last (m ∷ ms) [] x = absurd x
  each_longer last_seen last (m ∷ ms) (reply ∷ replies) x = (x.0, answered_longer m last_seen reply x.0 x.1, each_longer x.0 last ms replies x.2)

pub talks_longer : (list longer : History) (last_seen : ℕ) (ms : List Message) (replies : List Reply) → IsHistory list → IsHistory longer → Begins list longer
    → Talk list last_seen ms replies → Talk longer last_seen ms replies
talks_longer list longer last_seen ms replies a b begins x = (x.0, each_longer list longer a b begins last_seen x.0 ms replies x.1)
