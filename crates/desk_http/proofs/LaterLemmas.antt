-- What a rest begins with stays so when more bytes follow it.
use Rattle.std.proofs.Common.{◌≡◌, ◌≢◌, ℕ, ◌+◌, ◌-◌, ◌≤◌, List, [], ◌++◌, length, take, drop, refl, sym, ap, ◌∙◌, inl, inr, arith, append_assoc, length-append}
use Rattle.std.proofs.lemmas.Bool.{cases_lt}
use Rattle.std.proofs.lemmas.List.{append-nil, take_all, take-append-le, drop-append-le}
use Rattle.std.proofs.Math.Seq.{take-append-add}
use Rattle.httparse.specs.Grammar.{RequestHead, print_request}
use Rattle.httparse.proofs.GrammarLemmas.{ReadsRequest-append}
use Rattle.desk_http.specs.Limits.{head_limit}
use Rattle.desk_http.specs.declared.lines.BodyLength.{BodyLength}
use Rattle.desk_http.specs.declared.request.Request.{Request}
use Rattle.desk_http.specs.declared.taken.Taken.{Taken}
use Rattle.desk_http.specs.declared.taken.Taken.TheVariants.{Whole, NotYet, BadHead, HeadTooLong, NoLength, BodyTooLong}
use Rattle.desk_http.specs.Rest.{front, HasHead, HasHeadWith, IsHopeless, IsTooLong, Message, BeginsWith}
use Rattle.desk_http.specs.Taken.{message_of, IsTakenFrom, Takes, whole, taken_answer}
use Rattle.desk_http.proofs.RestLemmas.{slice_range-append}

-- the front of a longer rest begins with that of the rest, and is the same where that is full
front_later : (rest more : List ℕ) → (extra : List ℕ) × (front (rest ++ more) ≡ front rest ++ extra)
front_later rest more = elim (cases_lt (length rest) head_limit) [
  | inr full ↦ ([], take-append-le head_limit rest more full ∙ sym (append-nil (front rest)))
  | inl short ↦
      let n = head_limit - length rest in
      let sum : length rest + n ≡ head_limit = omega arith in (
        take n more,
        ap (λ k. take k (rest ++ more)) (sym sum) ∙ take-append-add rest more n
            ∙ ap (λ l. l ++ take n more) (sym (take_all head_limit rest (omega arith))),
      )
]

pub full_front_later : (rest more : List ℕ) → head_limit ≤ length rest → front (rest ++ more) ≡ front rest
full_front_later rest more full = take-append-le head_limit rest more full

pub HasHead_later : (rest more : List ℕ) (h : RequestHead) → HasHead rest h → HasHead (rest ++ more) h
HasHead_later rest more h x =
    let f = front_later rest more in (x.0 ++ f.0, rw f.1 (ReadsRequest-append (front rest) h x.0 f.0 x.1))

pub HasHeadWith_later : (rest more : List ℕ) (h : RequestHead) (body : BodyLength) → HasHeadWith rest h body → HasHeadWith (rest ++ more) h body
HasHeadWith_later rest more h body x =
    record { head = HasHead_later rest more h x.head; lines = x.lines; body_length = x.body_length }

pub BeginsWith_later : (rest more later : List ℕ) (m : Message) → BeginsWith rest m more → BeginsWith (rest ++ later) m (more ++ later)
BeginsWith_later rest more later m x =
    record {
      h = x.h;
      head = HasHeadWith_later rest later x.h _ x.head;
      bytes = ap (λ l. l ++ later) x.bytes ∙ append_assoc (print_request x.h ++ m.body) more later;
      method = x.method;
      target = x.target;
      close = x.close;
    }

pub IsHopeless_later : (rest more : List ℕ) → IsHopeless rest → IsHopeless (rest ++ more)
IsHopeless_later rest more never =
    let f = front_later rest more in
    λ later h after reads. never (f.0 ++ later) h after (rw (← append_assoc (front rest) f.0 later) (rw f.1 at reads))

pub IsTooLong_later : (rest more : List ℕ) → IsTooLong rest → IsTooLong (rest ++ more)
IsTooLong_later rest more (inl full) =
    inl (omega (arith, full.0, length-append rest more), rw (full_front_later rest more full.0) full.1)
IsTooLong_later rest more (inr crowded) = inr (crowded.0, HasHead_later rest more crowded.0 crowded.1, crowded.2)

same_message : (buffer more : List ℕ) (r : Request) → IsTakenFrom buffer r → message_of (buffer ++ more) r ≡ message_of buffer r
same_message buffer more r x =
    let target = slice_range-append buffer more r.target.from r.target.to (omega (arith, x.target.1, x.used)) in
    let body = slice_range-append buffer more r.body.from r.body.to (omega (arith, x.body.1, x.used)) in
    λ i. record { method = r.method; target = target i; body = body i; close = r.close }

IsTakenFrom_later : (buffer more : List ℕ) (r : Request) → IsTakenFrom buffer r → IsTakenFrom (buffer ++ more) r
IsTakenFrom_later buffer more r x =
    record {
      used = omega (arith, x.used, length-append buffer more);
      target = x.target;
      body = x.body;
      ends = x.ends;
      begins = rw (same_message buffer more r x, drop-append-le r.used buffer more x.used)
          (BeginsWith_later buffer (drop r.used buffer) more (message_of buffer r) x.begins);
    }

-- an answer other than NotYet is right for every longer buffer, and says the same of it
pub answer_later : (buffer more : List ℕ) (taken : Taken) → taken ≢ NotYet → Takes buffer taken
    → Takes (buffer ++ more) taken × (taken_answer (buffer ++ more) taken ≡ taken_answer buffer taken)
answer_later buffer more (Whole r) other x =
    (IsTakenFrom_later buffer more r x, ap (λ m. whole m r.used) (same_message buffer more r x))
answer_later buffer more NotYet other x = absurd (other refl)
answer_later buffer more BadHead other x = (IsHopeless_later buffer more x, refl)
answer_later buffer more HeadTooLong other x = (IsTooLong_later buffer more x, refl)
answer_later buffer more NoLength other x = ((x.0, HasHeadWith_later buffer more x.0 _ x.1), refl)
answer_later buffer more BodyTooLong other x = ((x.0, HasHeadWith_later buffer more x.0 _ x.1), refl)
