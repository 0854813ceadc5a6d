-- A stream that is read piece by piece, and how the serving of it ends.
use Rattle.std.proofs.Common.{◌≡◌, ℕ, lit<, zero-add, ◌+◌, ◌-◌, ◌<◌, ◌≤◌, false, List, [], ◌∷◌, ◌++◌, Option, length, refl, sym, ap, ◌∙◌, subst, inl, inr, append-nil, arith, take, length-append}
use Rattle.std.specs.Io.KnownBytes.{Appends, Consumes, IsAtEnd, Keeps}
use Rattle.std.proofs.KnownBytes.{Consumes-kept, Consumes-nil, Consumes-trans}
use Rattle.std.proofs.lemmas.List.{take_at}
use Rattle.desk_edge.specs.Transfer.{AppendsBeginning, AppendsPart}
use Rattle.desk_http.specs.Front.{LeadsTo, last_reply, open_end}
use Rattle.desk_http.specs.Rest.{Message}
use Rattle.desk_http.specs.Stream.{End, EndsAs, IsStream, is_ended, is_refusal}
use Rattle.desk_http.specs.Stream as stream
use Rattle.desk_http.proofs.AnswerLemmas.{not_yet_len}
use Rattle.desk_http.proofs.FrontLemmas.{ends_open, leads_stream}
use Rattle.desk_front.specs.ReadBuffer.{ReadMore, held_limit}
use Rattle.desk_front.specs.Served.{EndsAsServed, IsWrittenInPart, Serves, ServedWhole, end_served, stream_limit}
use Rattle.desk_front.specs.Service.{AreFirstRequests, BreaksOff, GoesOn, IsBroken, IsOver, LeavesSo, Outgoing, Replies, Sends, Service, service}
use Rattle.desk_front.specs.declared.round_outcome.RoundOutcome.TheVariants as round
use Rattle.desk_front.specs.declared.served.Served.{Served}
use Rattle.desk_front.specs.declared.served.Served.TheVariants as served
use Rattle.desk_front.proofs.Streaming.{broken_onward, goes_later, goes_nowhere, goes_onward, over_onward}

-- between two reads: these bytes were read, and what is held of them is no whole request
pub record Reading {A : Type 0} (R : A → Message → List ℕ → A → Type 0) (left : ℕ) (unread now : Option (List ℕ)) (old new : Service A) (held : List ℕ) : Type 0 where
  pub bytes : List ℕ
  pub given : Consumes unread now bytes
  pub count : length bytes + left ≡ stream_limit
  pub goes : GoesOn R bytes old new held
  pub ends : EndsAs held (open_end held)
  pub waits : new.out.waiting ≡ []

pub held_len : (held : List ℕ) → EndsAs held (open_end held) → length held < held_limit
held_len [] x = lit< tt
held_len (b ∷ held) x = not_yet_len (b ∷ held) x.1

pub reading_nothing : {A : Type 0} (R : A → Message → List ℕ → A → Type 0) (unread : Option (List ℕ)) (old : Service A) → old.out.waiting ≡ []
    → Reading R stream_limit unread unread old old []
reading_nothing R unread old none = record {
  bytes = [];
  given = Consumes-nil unread;
  count = zero-add stream_limit;
  goes = goes_nowhere R [] old;
  ends = refl;
  waits = none;
}

-- ---- what was written

whole_written : (old new : Outgoing) (said : List ℕ) → old.waiting ≡ [] → new.waiting ≡ [] → Sends old said new → Appends old.written new.written said
whole_written old new said none left x =
    subst (Appends old.written new.written)
    (sym (append-nil x.0) ∙ ap (λ l. x.0 ++ l) (sym left) ∙ sym x.1 ∙ ap (λ l. l ++ said) none) x.2

part_written : (old new : Outgoing) (said : List ℕ) → old.waiting ≡ [] → BreaksOff old said new → AppendsPart old.written new.written said
part_written old new said none x = subst (AppendsPart old.written new.written) (ap (λ l. l ++ said) none) x.0

beginning_of : (old new : Option (List ℕ)) (said : List ℕ) → AppendsPart old new said → AppendsBeginning old new said
beginning_of old new said x = (x.0, x.2)

-- the two ways in which a beginning of the replies was written
in_part : (bytes : List ℕ) (requests : List Message) (said last : List ℕ) (before after : Option (List ℕ)) → AreFirstRequests bytes requests last
    → AppendsPart before after (said ++ last) → IsWrittenInPart bytes requests said before after
in_part bytes requests said last before after (inl (rest, leads, none)) x =
    inl (rest, leads, subst (AppendsBeginning before after) (ap (λ l. said ++ l) none ∙ append-nil said) (beginning_of before after (said ++ last) x))
in_part bytes requests said last before after (inr (end, stream, ended, is)) x =
    inr (end, stream, ended, subst (AppendsPart before after) (ap (λ l. said ++ l) is) x)

all_of : (old new : Option (List ℕ)) (said : List ℕ) → Appends old new said → AppendsBeginning old new said
all_of old new said x = (length said, subst (Appends old new) (sym (ap (take (length said)) (sym (append-nil said)) ∙ take_at said [] (length said) refl)) x)

-- ---- how it ends

pub over_served : {A : Type 0} (R : A → Message → List ℕ → A → Type 0) (bytes : List ℕ) (left : Option (List ℕ)) (old new : Service A)
    → old.out.waiting ≡ [] → new.out.waiting ≡ [] → IsOver R bytes old new
    → Serves (λ requests said. Replies R old.who requests said new.who) served.Ended bytes left old.out.written new.out.written
over_served R bytes left old new none waits x = record {
  requests = x.requests;
  end = x.end;
  said = x.said;
  stream = x.stream;
  answered = x.replies;
  written = whole_written old.out new.out (x.said ++ last_reply x.end) none waits x.sent;
  ends = inl x.ended;
}

pub broken_served : {A : Type 0} (R : A → Message → List ℕ → A → Type 0) (bytes : List ℕ) (left : Option (List ℕ)) (old new : Service A)
    → old.out.waiting ≡ [] → IsBroken R bytes old new
    → Serves (λ requests said. Replies R old.who requests said new.who) served.LinkFault bytes left old.out.written new.out.written
broken_served R bytes left old new none x = record {
  requests = x.requests;
  said = x.said;
  answered = x.replies;
  written = in_part bytes x.requests x.said x.last old.out.written new.out.written x.are_first (part_written old.out new.out (x.said ++ x.last) none x.sent);
}

-- a read failed
pub unread_served : {A : Type 0} (R : A → Message → List ℕ → A → Type 0) (bytes held : List ℕ) (left : Option (List ℕ)) (old new : Service A)
    → old.out.waiting ≡ [] → new.out.waiting ≡ [] → GoesOn R bytes old new held
    → Serves (λ requests said. Replies R old.who requests said new.who) served.LinkFault bytes left old.out.written new.out.written
unread_served R bytes held left old new none waits x = record {
  requests = x.requests;
  said = x.said;
  answered = x.replies;
  written = inl (held, x.front, all_of old.out.written new.out.written x.said (whole_written old.out new.out x.said none waits x.sent));
}

not_ended : (bytes rest : List ℕ) (ms : List Message) (end : End) → LeadsTo bytes ms rest → is_refusal end ≡ false → is_ended ms end ≡ false
not_ended bytes rest [] end x e = e
not_ended bytes rest (m ∷ ms) end x e = rw x.2 (not_ended x.0 rest ms end x.3 e)

open_unrefused : (held : List ℕ) → is_refusal (open_end held) ≡ false
open_unrefused [] = refl
open_unrefused (b ∷ held) = refl

open_silent : (held : List ℕ) → last_reply (open_end held) ≡ []
open_silent [] = refl
open_silent (b ∷ held) = refl

-- the stream is served whole, with what is held as its end, however the serving ends
pub open_served : {A : Type 0} (R : A → Message → List ℕ → A → Type 0) (how : Served) (bytes held : List ℕ) (left : Option (List ℕ)) (old new : Service A)
    → old.out.waiting ≡ [] → new.out.waiting ≡ [] → EndsAs held (open_end held) → (x : GoesOn R bytes old new held)
    → (is_ended x.requests (open_end held) ≡ false → EndsAsServed how bytes x.requests (open_end held) left)
    → ServedWhole (λ requests said. Replies R old.who requests said new.who) how bytes left old.out.written new.out.written
open_served R how bytes held left old new none waits ends x so = record {
  requests = x.requests;
  end = open_end held;
  said = x.said;
  stream = subst (λ ms. IsStream bytes ms (open_end held)) (append-nil x.requests) (leads_stream bytes held x.requests [] (open_end held) x.front ends);
  answered = x.replies;
  written = subst (λ l. Appends old.out.written new.out.written (x.said ++ l)) (sym (open_silent held))
      (subst (Appends old.out.written new.out.written) (sym (append-nil x.said)) (whole_written old.out new.out x.said none waits x.sent));
  ends = so (not_ended bytes held x.requests (open_end held) x.front (open_unrefused held));
}

-- the input is at its end
pub end_is_served : {A : Type 0} (R : A → Message → List ℕ → A → Type 0) (bytes held : List ℕ) (left : Option (List ℕ)) (old new : Service A)
    → old.out.waiting ≡ [] → new.out.waiting ≡ [] → EndsAs held (open_end held) → GoesOn R bytes old new held → IsAtEnd left → length bytes < stream_limit
    → Serves (λ requests said. Replies R old.who requests said new.who) (end_served held) bytes left old.out.written new.out.written
end_is_served R bytes [] left old new none waits ends x at_end within =
    open_served R served.Ended bytes [] left old new none waits ends x (λ e. inr (refl, at_end, within))
end_is_served R bytes (b ∷ held) left old new none waits ends x at_end within =
    open_served R served.Cut bytes (b ∷ held) left old new none waits ends x (λ e. (refl, e, at_end, within))

-- ---- one read

-- what was read is no more than the limit, where the rest up to it is left
bounded : (bytes left limit : ℕ) → bytes + left ≡ limit → bytes ≤ limit
bounded bytes left limit e = omega arith

-- these bytes were read, no more than are read of a stream, and so they are answered
abbrev pub Answered : {A : Type 0} → (A → Message → List ℕ → A → Type 0) → Option (List ℕ) → Option (List ℕ) → Service A → Service A → Served → Type 0
Answered R unread now old new how = (bytes : List ℕ) × Consumes unread now bytes × (length bytes ≤ stream_limit)
    × Serves (λ requests said. Replies R old.who requests said new.who) how bytes now old.out.written new.out.written

module _ {A : Type 0} (R : A → Message → List ℕ → A → Type 0) (left most count : ℕ) (unread before now : Option (List ℕ)) (old mid : Service A)
    (held more : List ℕ) (none : old.out.waiting ≡ []) (x : Reading R left unread before old mid held) (came : ReadMore before now held more most count)
    (within : most ≤ left) where
  all_bytes : List ℕ
  all_bytes = x.bytes ++ came.0

  all_given : Consumes unread now all_bytes
  unfolding all_bytes
  all_given = Consumes-trans unread before now x.bytes came.0 x.given came.4

  all_count : length all_bytes + (left - count) ≡ stream_limit
  unfolding all_bytes
  all_count = counted (length x.bytes) left count (length came.0) (length (x.bytes ++ came.0)) stream_limit (length-append x.bytes came.0) x.count came.2 came.3 within
    where
      counted : (bytes left count new all limit : ℕ) → all ≡ bytes + new → bytes + left ≡ limit → new ≡ count → count ≤ most → most ≤ left → all + (left - count) ≡ limit
      counted bytes left count new all limit a b c d e = omega arith

  all_within : length all_bytes ≤ stream_limit
  all_within = bounded (length all_bytes) (left - count) stream_limit all_count

  all_goes : GoesOn R all_bytes old mid more
  unfolding all_bytes
  all_goes = subst (GoesOn R (x.bytes ++ came.0) old mid) (sym came.1) (goes_later R x.bytes came.0 held old mid x.goes)

  pub read_on : (new : Service A) (rest : List ℕ) (used : ℕ) → LeavesSo R more rest mid new (round.Open used) → Reading R (left - count) unread now old new rest
  read_on new rest used y = record {
    bytes = all_bytes;
    given = all_given;
    count = all_count;
    goes = goes_onward R all_bytes more rest old mid new all_goes y.2;
    ends = ends_open rest y.0;
    waits = y.1;
  }

  pub read_over : (new : Service A) (rest : List ℕ) → LeavesSo R more rest mid new round.Over → Answered R unread now old new served.Ended
  read_over new rest y = (all_bytes, all_given, all_within, over_served R all_bytes now old new none y.0 (over_onward R all_bytes more old mid new all_goes y.1))

  pub read_broken : (new : Service A) (rest : List ℕ) → LeavesSo R more rest mid new round.LinkFault → Answered R unread now old new served.LinkFault
  read_broken new rest y = (all_bytes, all_given, all_within, broken_served R all_bytes now old new none (broken_onward R all_bytes more old mid new all_goes y))

  pub read_end : count ≡ 0 → 0 < left → Answered R unread now old mid (end_served more)
  read_end nothing some = (
    all_bytes,
    all_given,
    all_within,
    end_is_served R all_bytes more now old mid none x.waits (subst (λ l. EndsAs l (open_end l)) (sym same) x.ends) all_goes (came.5 nothing)
        (short (length all_bytes) left count stream_limit all_count nothing some),
  )
    where
      empty : (l : List ℕ) → length l ≡ 0 → l ≡ []
      empty [] e = refl
      empty (b ∷ l) e = absurd (omega (arith, e))

      same : more ≡ held
      same = came.1 ∙ ap (λ l. held ++ l) (empty came.0 (came.2 ∙ nothing)) ∙ append-nil held

      short : (all left count limit : ℕ) → all + (left - count) ≡ limit → count ≡ 0 → 0 < left → all < limit
      short all left count limit a b c = omega arith

-- no more is read
pub read_too_long : {A : Type 0} (R : A → Message → List ℕ → A → Type 0) (left : ℕ) (unread now : Option (List ℕ)) (old new : Service A) (held : List ℕ)
    → old.out.waiting ≡ [] → Reading R left unread now old new held → left ≤ 0
    → Answered R unread now old new served.TooLong
read_too_long R left unread now old new held none x over = (
  x.bytes,
  x.given,
  bounded (length x.bytes) left stream_limit x.count,
  open_served R served.TooLong x.bytes held now old new none x.waits x.ends x.goes (λ e. (e, all_read (length x.bytes) left stream_limit x.count over)),
)
  where
    all_read : (bytes left limit : ℕ) → bytes + left ≡ limit → left ≤ 0 → bytes ≡ limit
    all_read bytes left limit a b = omega arith

-- a read failed
pub read_failed : {A : Type 0} (R : A → Message → List ℕ → A → Type 0) (left : ℕ) (unread before now : Option (List ℕ)) (old mid new : Service A) (held : List ℕ)
    → old.out.waiting ≡ [] → Reading R left unread before old mid held → Keeps before now → new.who ≡ mid.who → new.out.written ≡ mid.out.written
    → Answered R unread now old new served.LinkFault
read_failed R left unread before now old mid new held none x kept who same = (
  x.bytes,
  Consumes-kept unread before now x.bytes x.given kept,
  bounded (length x.bytes) left stream_limit x.count,
  subst (λ a. Serves (λ requests said. Replies R old.who requests said a) served.LinkFault x.bytes now old.out.written new.out.written) (sym who)
      (subst (Serves (λ requests said. Replies R old.who requests said mid.who) served.LinkFault x.bytes now old.out.written) (sym same)
      (unread_served R x.bytes held now old mid none x.waits x.goes)),
)

-- a read changes nothing of what is said
pub same_service : {A : Type 0} (who : A) (waiting : List ℕ) (written now : Option (List ℕ)) (faults later : ℕ) → now ≡ written → later ≡ faults
    → service who waiting written faults ≡ service who waiting now later
same_service who waiting written now faults later e f i = service who waiting (sym_of written now e i) (sym_of faults later f i)
  where
    sym_of : {T : Type 0} (a b : T) → b ≡ a → a ≡ b
    sym_of a b e = sym e
