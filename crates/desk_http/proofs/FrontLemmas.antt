-- Requests at the front of bytes, and what is left behind them.
use Rattle.std.proofs.Common.{◌≡◌, ℕ, Bool, true, false, List, [], ◌∷◌, ◌++◌, refl, sym, ap, ◌∙◌, arith, subst, Some, MatchBool}
use Rattle.desk_http.specs.Front.{LeadsTo, last_reply, open_end, refusal_at, refusal_of}
use Rattle.desk_http.specs.Reply.{fixed_reply}
use Rattle.desk_http.specs.Rest.{IsNotYet, Message}
use Rattle.desk_http.specs.Stream.{End, EndsAs, IsStream}
use Rattle.desk_http.specs.Stream as stream
use Rattle.desk_http.specs.Taken.{Takes}
use Rattle.desk_http.specs.declared.fixed.Fixed.{Fixed}
use Rattle.desk_http.specs.declared.taken.Taken.{Taken}
use Rattle.desk_http.specs.declared.taken.Taken.TheVariants.{Whole, NotYet, BadHead, HeadTooLong, NoLength, BodyTooLong}
use Rattle.desk_http.proofs.AnswerLemmas.{same_request}
use Rattle.desk_http.proofs.LaterLemmas.{BeginsWith_later}
use Rattle.desk_http.proofs.StreamLemmas.{no_end}

pub leads_later : (bytes more rest : List ℕ) (ms : List Message) → LeadsTo bytes ms rest → LeadsTo (bytes ++ more) ms (rest ++ more)
leads_later bytes more rest [] e = ap (λ all. all ++ more) e
leads_later bytes more rest (m ∷ ms) x = (x.0 ++ more, BeginsWith_later bytes x.0 more m x.1, x.2, leads_later x.0 more rest ms x.3)

pub leads_onward : (bytes behind rest : List ℕ) (ms ns : List Message) → LeadsTo bytes ms behind → LeadsTo behind ns rest → LeadsTo bytes (ms ++ ns) rest
leads_onward bytes behind rest [] ns e y = subst (λ all. LeadsTo all ns rest) (sym e) y
leads_onward bytes behind rest (m ∷ ms) ns x y = (x.0, x.1, x.2, leads_onward x.0 behind rest ms ns x.3 y)

pub leads_stream : (bytes rest : List ℕ) (ms ns : List Message) (end : End) → LeadsTo bytes ms rest → IsStream rest ns end → IsStream bytes (ms ++ ns) end
leads_stream bytes rest [] ns end e y = subst (λ all. IsStream all ns end) (sym e) y
leads_stream bytes rest (m ∷ ms) ns end x y = (x.0, x.1, rw x.2 (leads_stream x.0 rest ms ns end x.3 y))

behind_open : (bytes : List ℕ) (ms : List Message) (end : End) (close : Bool) → close ≡ false → MatchBool close ((ms ≡ []) × (end ≡ stream.clean)) (IsStream bytes ms end) → IsStream bytes ms end
behind_open bytes ms end close e x = rw e at x

pub leads_first : (bytes rest : List ℕ) (ms all : List Message) (end : End) → LeadsTo bytes ms rest → IsStream bytes all end → (ns : List Message) × (all ≡ ms ++ ns) × IsStream rest ns end
leads_first bytes rest [] all end e y = (all, refl, subst (λ left. IsStream left all end) e y)
leads_first bytes rest (m ∷ ms) [] end x y = absurd (no_end bytes m x.0 end x.1 y)
leads_first bytes rest (m ∷ ms) (n ∷ all) end x y =
    let same = same_request bytes m n x.0 y.0 x.1 y.1 in
    let goes_on : n.close ≡ false = ap (λ message. message.close) (sym same.0) ∙ x.2 in
    let later : IsStream x.0 all end = subst (λ left. IsStream left all end) (sym same.1) (behind_open y.0 all end n.close goes_on y.2) in
    let rest_of = leads_first x.0 rest ms all end x.3 later in
    (rest_of.0, (λ i. same_back same.0 i ∷ rest_of.1 i), rest_of.2)
  where
    same_back : {m n : Message} → m ≡ n → n ≡ m
    same_back e = sym e

pub ends_open : (bytes : List ℕ) → IsNotYet bytes → EndsAs bytes (open_end bytes)
ends_open [] x = refl
ends_open (b ∷ bytes) x = (omega arith, x)

refused_so : (end : End) (refused : Fixed) → refusal_at end ≡ Some refused → last_reply end ≡ fixed_reply refused true
refused_so end refused e = rw e refl

pub ends_refused : (bytes : List ℕ) (taken : Taken) (refused : Fixed) → Takes bytes taken → refusal_of taken ≡ Some refused
    → (end : End) × EndsAs bytes end × (refusal_at end ≡ Some refused) × (last_reply end ≡ fixed_reply refused true)
ends_refused bytes (Whole request) refused x e = cc
ends_refused bytes NotYet refused x e = cc
ends_refused bytes BadHead refused x e = (stream.bad_head, x, e, refused_so stream.bad_head refused e)
ends_refused bytes HeadTooLong refused x e = (stream.head_too_long, x, e, refused_so stream.head_too_long refused e)
ends_refused bytes NoLength refused x e = (stream.no_length, x, e, refused_so stream.no_length refused e)
ends_refused bytes BodyTooLong refused x e = (stream.body_too_long, x, e, refused_so stream.body_too_long refused e)
