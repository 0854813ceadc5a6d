-- Requests that are answered one after another, and how a stream ends behind them.
use Rattle.std.proofs.Common.{◌≡◌, ℕ, ◌≤◌, Bool, true, false, ◌||◌, List, [], ◌∷◌, ◌++◌, length, refl, sym, ap, ◌∙◌, subst, inl, inr, append_assoc, append-nil, arith, IsTrue, ◌≢◌, Some, None, ◌+◌, ◌-◌, drop, length-drop}
use Rattle.std.proofs.lemmas.Bool.{cases_Bool}
use Rattle.desk_http.specs.Front.{LeadsTo, last_reply, refusal_at, refusal_of}
use Rattle.desk_http.specs.Reply.{allow_of, fixed_reply}
use Rattle.desk_http.specs.Rest.{BeginsWith, IsNotYet, Message}
use Rattle.desk_http.specs.Taken.{Takes}
use Rattle.desk_http.specs.declared.fixed.Fixed.{Fixed}
use Rattle.desk_http.specs.declared.fixed.Fixed.TheVariants as refusal
use Rattle.desk_http.specs.declared.method.Method.TheVariants as method
use Rattle.desk_http.specs.declared.request.Request.{Request}
use Rattle.desk_http.specs.declared.taken.Taken.{Taken}
use Rattle.desk_http.specs.declared.taken.Taken.TheVariants as taken
use Rattle.desk_http.specs.Stream.{End, IsStream, is_ended, is_refusal}
use Rattle.desk_http.specs.Stream as stream
use Rattle.desk_http.proofs.FrontLemmas.{ends_refused, leads_later, leads_onward, leads_stream}
use Rattle.std.proofs.lemmas.List.{drop-drop}
use Rattle.std.proofs.lemmas.List.Folds.{concat-append}
use Rattle.std.specs.List.{concat}
use Rattle.desk_front.specs.declared.request_outcome.RequestOutcome.TheVariants as first
use Rattle.desk_front.specs.declared.round_outcome.RoundOutcome.TheVariants as round
use Rattle.desk_front.specs.Service.{AreFirstRequests, BeginsSo, BreaksOff, GoesOn, GoesSo, IsBroken, IsOver, Replies, Sends, Service}
use Rattle.desk_front.proofs.InOrder.{in_order_onward}
use Rattle.desk_front.proofs.Sending.{breaks_onward, sends_nothing, sends_onward}

pub replies_onward : {A : Type 0} (R : A → Message → List ℕ → A → Type 0) (old mid new : A) (ms ns : List Message) (said more : List ℕ)
    → Replies R old ms said mid → Replies R mid ns more new → Replies R old (ms ++ ns) (said ++ more) new
replies_onward R old mid new ms ns said more x y = (
  x.0 ++ y.0,
  in_order_onward R old mid new ms ns x.0 y.0 x.1 y.1,
  ap (λ l. l ++ more) x.2 ∙ ap (λ l. concat x.0 ++ l) y.2 ∙ sym (concat-append x.0 y.0),
)

pub ended_behind : (ms ns : List Message) (end : End) → IsTrue (is_ended ns end) → IsTrue (is_ended (ms ++ ns) end)
ended_behind [] ns end x = x
ended_behind (m ∷ ms) ns end x = or_right m.close (is_ended (ms ++ ns) end) (ended_behind ms ns end x)
  where
    or_right : (a b : Bool) → IsTrue b → IsTrue (a || b)
    or_right true b h = refl
    or_right false b h = h

pub goes_nowhere : {A : Type 0} (R : A → Message → List ℕ → A → Type 0) (bytes : List ℕ) (old : Service A) → GoesOn R bytes old old bytes
goes_nowhere R bytes old = record { requests = []; said = []; front = refl; replies = ([], refl, refl); sent = sends_nothing old.out }

pub goes_onward : {A : Type 0} (R : A → Message → List ℕ → A → Type 0) (bytes behind rest : List ℕ) (old mid new : Service A)
    → GoesOn R bytes old mid behind → GoesOn R behind mid new rest → GoesOn R bytes old new rest
goes_onward R bytes behind rest old mid new x y = record {
  requests = x.requests ++ y.requests;
  said = x.said ++ y.said;
  front = leads_onward bytes behind rest x.requests y.requests x.front y.front;
  replies = replies_onward R old.who mid.who new.who x.requests y.requests x.said y.said x.replies y.replies;
  sent = sends_onward old.out mid.out new.out x.said y.said x.sent y.sent;
}

pub goes_later : {A : Type 0} (R : A → Message → List ℕ → A → Type 0) (bytes more rest : List ℕ) (old new : Service A)
    → GoesOn R bytes old new rest → GoesOn R (bytes ++ more) old new (rest ++ more)
goes_later R bytes more rest old new x = record {
  requests = x.requests;
  said = x.said;
  front = leads_later bytes more rest x.requests x.front;
  replies = x.replies;
  sent = x.sent;
}

pub over_onward : {A : Type 0} (R : A → Message → List ℕ → A → Type 0) (bytes behind : List ℕ) (old mid new : Service A)
    → GoesOn R bytes old mid behind → IsOver R behind mid new → IsOver R bytes old new
over_onward R bytes behind old mid new x y = record {
  requests = x.requests ++ y.requests;
  end = y.end;
  said = x.said ++ y.said;
  stream = leads_stream bytes behind x.requests y.requests y.end x.front y.stream;
  ended = ended_behind x.requests y.requests y.end y.ended;
  replies = replies_onward R old.who mid.who new.who x.requests y.requests x.said y.said x.replies y.replies;
  sent = subst (λ l. Sends old.out l new.out) (sym (append_assoc x.said y.said (last_reply y.end)))
      (sends_onward old.out mid.out new.out x.said (y.said ++ last_reply y.end) x.sent y.sent);
}

first_onward : (bytes behind : List ℕ) (ms ns : List Message) (last : List ℕ) → LeadsTo bytes ms behind → AreFirstRequests behind ns last → AreFirstRequests bytes (ms ++ ns) last
first_onward bytes behind ms ns last x (inl y) = inl (y.0, leads_onward bytes behind y.0 ms ns x y.1, y.2)
first_onward bytes behind ms ns last x (inr y) = inr (y.0, leads_stream bytes behind ms ns y.0 x y.1, ended_behind ms ns y.0 y.2, y.3)

pub broken_onward : {A : Type 0} (R : A → Message → List ℕ → A → Type 0) (bytes behind : List ℕ) (old mid new : Service A)
    → GoesOn R bytes old mid behind → IsBroken R behind mid new → IsBroken R bytes old new
broken_onward R bytes behind old mid new x y = record {
  requests = x.requests ++ y.requests;
  last = y.last;
  said = x.said ++ y.said;
  are_first = first_onward bytes behind x.requests y.requests y.last x.front y.are_first;
  replies = replies_onward R old.who mid.who new.who x.requests y.requests x.said y.said x.replies y.replies;
  sent = subst (λ l. BreaksOff old.out l new.out) (sym (append_assoc x.said y.said y.last))
      (breaks_onward old.out mid.out new.out x.said (y.said ++ y.last) x.sent y.sent);
}

-- ---- one request at the front

pub one_replied : {A : Type 0} (R : A → Message → List ℕ → A → Type 0) (old new : A) (m : Message) (said : List ℕ) → R old m said new → Replies R old (m ∷ []) said new
one_replied R old new m said x = (said ∷ [], (new, x, refl), sym (append-nil said))

pub one_goes : {A : Type 0} (R : A → Message → List ℕ → A → Type 0) (bytes rest : List ℕ) (old new : Service A) (m : Message) (said : List ℕ)
    → BeginsWith bytes m rest → m.close ≡ false → R old.who m said new.who → Sends old.out said new.out → GoesOn R bytes old new rest
one_goes R bytes rest old new m said begins stays x sent = record {
  requests = m ∷ [];
  said = said;
  front = (rest, begins, stays, refl);
  replies = one_replied R old.who new.who m said x;
  sent = sent;
}

closing_stream : (bytes rest : List ℕ) (m : Message) → BeginsWith bytes m rest → m.close ≡ true → IsStream bytes (m ∷ []) stream.clean × IsTrue (is_ended (m ∷ []) stream.clean)
closing_stream bytes rest m begins close = ((rest, begins, rw close (refl, refl)), rw close refl)

pub one_over : {A : Type 0} (R : A → Message → List ℕ → A → Type 0) (bytes rest : List ℕ) (old new : Service A) (m : Message) (said : List ℕ)
    → BeginsWith bytes m rest → m.close ≡ true → R old.who m said new.who → Sends old.out said new.out → IsOver R bytes old new
one_over R bytes rest old new m said begins close x sent =
    let closing = closing_stream bytes rest m begins close in
    record {
      requests = m ∷ [];
      end = stream.clean;
      said = said;
      stream = closing.0;
      ended = closing.1;
      replies = one_replied R old.who new.who m said x;
      sent = subst (λ l. Sends old.out l new.out) (sym (append-nil said)) sent;
    }

pub one_broken : {A : Type 0} (R : A → Message → List ℕ → A → Type 0) (bytes rest : List ℕ) (old new : Service A) (m : Message) (said : List ℕ)
    → BeginsWith bytes m rest → R old.who m said new.who → BreaksOff old.out said new.out → IsBroken R bytes old new
one_broken R bytes rest old new m said begins x sent = record {
  requests = m ∷ [];
  last = [];
  said = said;
  are_first = elim (cases_Bool m.close) [
    | inl close ↦ let closing = closing_stream bytes rest m begins close in inr (stream.clean, closing.0, closing.1, refl)
    | inr stays ↦ inl (rest, (rest, begins, stays, refl), refl)
  ];
  replies = one_replied R old.who new.who m said x;
  sent = subst (λ l. BreaksOff old.out l new.out) (sym (append-nil said)) sent;
}

-- ---- what is refused at the front

refused_end : (end : End) (refused : Fixed) → refusal_at end ≡ Some refused → IsTrue (is_refusal end)
refused_end stream.clean refused e = cc
refused_end stream.cut refused e = cc
refused_end stream.bad_head refused e = refl
refused_end stream.head_too_long refused e = refl
refused_end stream.no_length refused e = refl
refused_end stream.body_too_long refused e = refl

inside : (a b : Fixed) → Some a ≡ Some b → a ≡ b
inside a b e = cc

pub allows_none : (taken : Taken) (refused : Fixed) → refusal_of taken ≡ Some refused → allow_of refused ≢ Some method.Other
allows_none (taken.Whole request) refused e = cc
allows_none taken.NotYet refused e = cc
allows_none taken.BadHead refused e = subst (λ r. allow_of r ≢ Some method.Other) (inside refusal.BadHead refused e) (λ h. cc)
allows_none taken.HeadTooLong refused e = subst (λ r. allow_of r ≢ Some method.Other) (inside refusal.HeadTooLong refused e) (λ h. cc)
allows_none taken.NoLength refused e = subst (λ r. allow_of r ≢ Some method.Other) (inside refusal.LengthRequired refused e) (λ h. cc)
allows_none taken.BodyTooLong refused e = subst (λ r. allow_of r ≢ Some method.Other) (inside refusal.BodyTooLong refused e) (λ h. cc)

pub not_yet_at : (bytes : List ℕ) (answer : Taken) → Takes bytes answer → ((r : Request) → answer ≢ taken.Whole r) → refusal_of answer ≡ None → IsNotYet bytes
not_yet_at bytes (taken.Whole request) x other e = absurd (other request refl)
not_yet_at bytes taken.NotYet x other e = x
not_yet_at bytes taken.BadHead x other e = cc
not_yet_at bytes taken.HeadTooLong x other e = cc
not_yet_at bytes taken.NoLength x other e = cc
not_yet_at bytes taken.BodyTooLong x other e = cc

pub refused_over : {A : Type 0} (R : A → Message → List ℕ → A → Type 0) (bytes : List ℕ) (old new : Service A) (taken : Taken) (refused : Fixed)
    → Takes bytes taken → refusal_of taken ≡ Some refused → new.who ≡ old.who → Sends old.out (fixed_reply refused true) new.out → IsOver R bytes old new
refused_over R bytes old new taken refused x e same sent =
    let ends = ends_refused bytes taken refused x e in
    record {
      requests = [];
      end = ends.0;
      said = [];
      stream = ends.1;
      ended = refused_end ends.0 refused ends.2;
      replies = ([], same, refl);
      sent = subst (λ l. Sends old.out l new.out) (sym ends.3) sent;
    }

pub refused_broken : {A : Type 0} (R : A → Message → List ℕ → A → Type 0) (bytes : List ℕ) (old new : Service A) (taken : Taken) (refused : Fixed)
    → Takes bytes taken → refusal_of taken ≡ Some refused → new.who ≡ old.who → BreaksOff old.out (fixed_reply refused true) new.out → IsBroken R bytes old new
refused_broken R bytes old new taken refused x e same sent =
    let ends = ends_refused bytes taken refused x e in
    record {
      requests = [];
      last = last_reply ends.0;
      said = [];
      are_first = inr (ends.0, ends.1, refused_end ends.0 refused ends.2, refl);
      replies = ([], same, refl);
      sent = subst (λ l. BreaksOff old.out l new.out) (sym ends.3) sent;
    }

-- ---- requests one after another, of which so many bytes are used

module _ {A : Type 0} (R : A → Message → List ℕ → A → Type 0) (bytes rest : List ℕ) (used : ℕ) (old mid new : Service A)
    (within : used ≤ length bytes) (same : rest ≡ drop used bytes) (goes : GoesOn R bytes old mid (drop used bytes)) where
  pub used_more : (count : ℕ) → BeginsSo R rest mid new (first.Took count) → (used + count ≤ length bytes) × GoesOn R bytes old new (drop (used + count) bytes)
  used_more count x =
      let left : length rest ≡ length bytes - used = ap length same ∙ length-drop used bytes in (
        omega (arith, within, x.1, left),
        goes_onward R bytes (drop used bytes) (drop (used + count) bytes) old mid new goes
            (subst (GoesOn R (drop used bytes) mid new) (ap (drop count) same ∙ drop-drop count used bytes) (subst (λ l. GoesOn R l mid new (drop count rest)) same x.2)),
      )

  pub used_all : BeginsSo R rest mid new first.NotYet → GoesSo R bytes old new (round.Open used)
  used_all x = (within, subst IsNotYet same x.0, subst (λ s. GoesOn R bytes old s (drop used bytes)) (sym x.1) goes)

  pub used_over : BeginsSo R rest mid new first.Over → IsOver R bytes old new
  used_over x = over_onward R bytes (drop used bytes) old mid new goes (subst (λ l. IsOver R l mid new) same x)

  pub used_broken : BeginsSo R rest mid new first.LinkFault → IsBroken R bytes old new
  used_broken x = broken_onward R bytes (drop used bytes) old mid new goes (subst (λ l. IsBroken R l mid new) same x)

-- ---- replies that wait are written

pub goes_flushed : {A : Type 0} (R : A → Message → List ℕ → A → Type 0) (bytes rest : List ℕ) (old mid new : Service A)
    → GoesOn R bytes old mid rest → new.who ≡ mid.who → Sends mid.out [] new.out → GoesOn R bytes old new rest
goes_flushed R bytes rest old mid new x same sent = record {
  requests = x.requests;
  said = x.said;
  front = x.front;
  replies = subst (Replies R old.who x.requests x.said) (sym same) x.replies;
  sent = subst (λ l. Sends old.out l new.out) (append-nil x.said) (sends_onward old.out mid.out new.out x.said [] x.sent sent);
}

pub goes_unflushed : {A : Type 0} (R : A → Message → List ℕ → A → Type 0) (bytes rest : List ℕ) (old mid new : Service A)
    → GoesOn R bytes old mid rest → new.who ≡ mid.who → BreaksOff mid.out [] new.out → IsBroken R bytes old new
goes_unflushed R bytes rest old mid new x same sent = record {
  requests = x.requests;
  last = [];
  said = x.said;
  are_first = inl (rest, x.front, refl);
  replies = subst (Replies R old.who x.requests x.said) (sym same) x.replies;
  sent = breaks_onward old.out mid.out new.out x.said [] x.sent sent;
}

pub over_flushed : {A : Type 0} (R : A → Message → List ℕ → A → Type 0) (bytes : List ℕ) (old mid new : Service A)
    → IsOver R bytes old mid → new.who ≡ mid.who → Sends mid.out [] new.out → IsOver R bytes old new
over_flushed R bytes old mid new x same sent = record {
  requests = x.requests;
  end = x.end;
  said = x.said;
  stream = x.stream;
  ended = x.ended;
  replies = subst (Replies R old.who x.requests x.said) (sym same) x.replies;
  sent = subst (λ l. Sends old.out l new.out) (append-nil (x.said ++ last_reply x.end))
      (sends_onward old.out mid.out new.out (x.said ++ last_reply x.end) [] x.sent sent);
}

pub over_unflushed : {A : Type 0} (R : A → Message → List ℕ → A → Type 0) (bytes : List ℕ) (old mid new : Service A)
    → IsOver R bytes old mid → new.who ≡ mid.who → BreaksOff mid.out [] new.out → IsBroken R bytes old new
over_unflushed R bytes old mid new x same sent = record {
  requests = x.requests;
  last = last_reply x.end;
  said = x.said;
  are_first = inr (x.end, x.stream, x.ended, refl);
  replies = subst (Replies R old.who x.requests x.said) (sym same) x.replies;
  sent = subst (λ l. BreaksOff old.out l new.out) (append-nil (x.said ++ last_reply x.end))
      (breaks_onward old.out mid.out new.out (x.said ++ last_reply x.end) [] x.sent sent);
}
