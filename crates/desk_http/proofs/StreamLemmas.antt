-- A stream has one list of requests, and a reader takes these from it.
use Rattle.std.proofs.Common.{◌≡◌, ◌≢◌, ℕ, ◌<◌, ◌⊎◌, Bool, true, false, ◌||◌, cond, ltb, List, [], ◌∷◌, ◌++◌, length, refl, sym, ap, ◌∙◌, subst, inl, inr, arith, rules, append_assoc, length-append}
use Rattle.std.specs.Prelude.{MatchBool, IsTrue, codes}
use Rattle.std.specs.List.{flat_map}
use Rattle.std.proofs.lemmas.Bool.{cond-true, cond-false, lt-ltb, le-ltb}
use Rattle.std.proofs.lemmas.List.{append-nil}
use Rattle.std.proofs.lemmas.List.Elements.{All-nil, All-from_recursion}
use Rattle.std.proofs.lemmas.Str.{IsUtf8-from_ascii}
use Rattle.httparse.specs.Grammar.{lf, RequestHead, IsRequestHead, print_request, IsField, is_token_byte, is_uri_byte}
use Rattle.httparse.proofs.OnLiterals.{httparse_on_literals}
use Rattle.desk_http.specs.Limits.{head_limit}
use Rattle.desk_http.specs.declared.taken.Taken.{Taken}
use Rattle.desk_http.specs.declared.request.Request.{Request}
use Rattle.desk_http.specs.declared.taken.Taken.TheVariants.{Whole, NotYet, BadHead, HeadTooLong, NoLength, BodyTooLong}
use Rattle.desk_http.specs.Rest.{HasHead, IsHopeless, IsUnfinished, IsInDoubt, IsNotYet, Message, BeginsWith}
use Rattle.desk_http.specs.Stream as stream
use Rattle.desk_http.specs.Stream.{End, EndsAs, IsStream, HasRequests, may_count_as, IsSameEnd, is_refusal, is_ended}
use Rattle.desk_http.specs.Taken as answers
use Rattle.desk_http.specs.Taken.{PlainAnswer, Takes}
use Rattle.desk_http.specs.Reader.{Event, came, took, bytes_of, pieces_of, requests_of, Reads, IsReadAs}
use Rattle.desk_http.proofs.AnswerLemmas.{head_answer, headed, answer_whole, in_doubt, no_head, same_request}
use Rattle.desk_http.proofs.HeadLemmas.{print_request_len}
use Rattle.desk_http.proofs.LaterLemmas.{HasHeadWith_later, BeginsWith_later, IsHopeless_later, IsTooLong_later}
use Rattle.desk_http.proofs.RestLemmas.{head_begins}

-- ---- ends

-- the answer at an end, and the end at an answer
abbrev taken_at : End → Taken
taken_at stream.clean = NotYet
taken_at stream.cut = NotYet
taken_at stream.bad_head = BadHead
taken_at stream.head_too_long = HeadTooLong
taken_at stream.no_length = NoLength
taken_at stream.body_too_long = BodyTooLong

abbrev end_at : PlainAnswer → End
end_at (answers.whole m used) = stream.clean
end_at answers.not_yet = stream.cut
end_at answers.bad_head = stream.bad_head
end_at answers.head_too_long = stream.head_too_long
end_at answers.no_length = stream.no_length
end_at answers.body_too_long = stream.body_too_long

head_is_some : (rest : List ℕ) (h : RequestHead) → HasHead rest h → 0 < length rest
head_is_some rest h x = omega (arith, (head_begins rest h x.0 x.1).fits, print_request_len h x.1.0.fields)

-- where a head is whole it decides the end
headed_end : (rest : List ℕ) (h : RequestHead) (end : End) → HasHead rest h → EndsAs rest end → end ≡ end_at (head_answer rest h)
headed_end rest h stream.clean at x = absurd (omega (arith, head_is_some rest h at, ap length x))
headed_end rest h stream.cut at x = ap end_at (headed rest h NotYet at x.1)
headed_end rest h stream.bad_head at x = ap end_at (headed rest h BadHead at x)
headed_end rest h stream.head_too_long at x = ap end_at (headed rest h HeadTooLong at x)
headed_end rest h stream.no_length at x = ap end_at (headed rest h NoLength at x)
headed_end rest h stream.body_too_long at x = ap end_at (headed rest h BodyTooLong at x)

abbrev sample : RequestHead
sample = record { blank = []; method = codes "A"; target = codes "/"; minor = 0; line_end = lf; fields = []; last = lf }

is_head : IsRequestHead sample
unfolding httparse_on_literals
is_head = record {
  method = (omega arith, All-from_recursion (λ b. is_token_byte b ≡ true) (codes "A") (refl, tt));
  target = (omega arith, All-from_recursion (λ b. is_uri_byte b ≡ true) (codes "/") (refl, tt));
  target_text = IsUtf8-from_ascii (codes "/") (search rules);
  minor = omega arith;
  fields = All-nil IsField;
}

-- no bytes at all may still become a head
hopeless_is_some : (rest : List ℕ) → IsHopeless rest → 0 < length rest
hopeless_is_some [] never = absurd (never (print_request sample) sample [] (is_head, sym (append-nil (print_request sample))))
hopeless_is_some (b ∷ rest) never = omega arith

-- a rest that is unfinished ends as its length says, or counts as hopeless too
abbrev open_end : List ℕ → End
open_end rest = cond (ltb (length rest) head_limit) stream.cut stream.head_too_long

unfinished_end : (rest : List ℕ) (end : End) → 0 < length rest → IsUnfinished rest → EndsAs rest end
    → (end ≡ open_end rest) ⊎ ((end ≡ stream.bad_head) × IsInDoubt rest)
unfinished_end rest stream.clean some unread x = absurd (omega (arith, some, ap length x))
unfinished_end rest stream.cut some unread (more, inl x) = inl (sym (cond-true _ _ _ (lt-ltb _ _ x.0)))
unfinished_end rest stream.cut some unread (more, inr x) = absurd (unread.0 x.0 x.2.head.0 x.2.head.1)
unfinished_end rest stream.bad_head some unread x = inr (refl, in_doubt rest x unread)
unfinished_end rest stream.head_too_long some unread (inl x) = inl (sym (cond-false _ _ _ (le-ltb _ _ x.0)))
unfinished_end rest stream.head_too_long some unread (inr x) = absurd (unread.0 x.0 x.1.0 x.1.1)
unfinished_end rest stream.no_length some unread x = absurd (unread.0 x.0 x.1.head.0 x.1.head.1)
unfinished_end rest stream.body_too_long some unread x = absurd (unread.0 x.0 x.1.head.0 x.1.head.1)

hopeless_end : (rest : List ℕ) (end : End) → IsHopeless rest → EndsAs rest end → IsSameEnd rest [] stream.bad_head end
hopeless_end rest stream.clean never x = absurd (omega (arith, hopeless_is_some rest never, ap length x))
hopeless_end rest stream.cut never (some, inl x) = inr (in_doubt rest never x.1, refl)
hopeless_end rest stream.cut never (some, inr x) = absurd (no_head rest x.0 never x.2.head)
hopeless_end rest stream.bad_head never x = inl refl
hopeless_end rest stream.head_too_long never (inl x) = inr (in_doubt rest never x.1, refl)
hopeless_end rest stream.head_too_long never (inr x) = absurd (no_head rest x.0 never x.1)
hopeless_end rest stream.no_length never x = absurd (no_head rest x.0 never x.1.head)
hopeless_end rest stream.body_too_long never x = absurd (no_head rest x.0 never x.1.head)

empty_end : (end : End) → EndsAs [] end → end ≡ stream.clean
empty_end stream.clean x = refl
empty_end stream.cut x = absurd (omega (arith, x.0))
empty_end stream.bad_head x = absurd (omega (arith, hopeless_is_some [] x))
empty_end stream.head_too_long (inl x) = absurd (omega (arith, x.0))
empty_end stream.head_too_long (inr x) = absurd (omega (arith, head_is_some [] x.0 x.1))
empty_end stream.no_length x = absurd (omega (arith, head_is_some [] x.0 x.1.head))
empty_end stream.body_too_long x = absurd (omega (arith, head_is_some [] x.0 x.1.head))

-- an end of an unfinished rest, beside any other of it
beside : (rest : List ℕ) (end other : End) → IsTrue (may_count_as end stream.bad_head) → end ≡ open_end rest
    → (other ≡ open_end rest) ⊎ ((other ≡ stream.bad_head) × IsInDoubt rest) → IsSameEnd rest [] end other
beside rest end other may is (inl x) = inl (is ∙ sym x)
beside rest end other may is (inr x) = inr (x.1, rw x.0 may)

same_headed : (rest : List ℕ) (h : RequestHead) (end other : End) → HasHead rest h → EndsAs rest end → EndsAs rest other
    → IsSameEnd rest [] end other
same_headed rest h end other at x y = inl (headed_end rest h end at x ∙ sym (headed_end rest h other at y))

pub same_end : (rest : List ℕ) (end other : End) → EndsAs rest end → EndsAs rest other → IsSameEnd rest [] end other
same_end rest stream.clean other x y = inl (sym (empty_end other (subst (λ l. EndsAs l other) x y)))
same_end rest stream.cut other (some, inl x) y =
    beside rest stream.cut other refl (sym (cond-true _ _ _ (lt-ltb _ _ x.0))) (unfinished_end rest other some x.1 y)
same_end rest stream.cut other (some, inr x) y = same_headed rest x.0 stream.cut other x.2.head (some, inr x) y
same_end rest stream.bad_head other x y = hopeless_end rest other x y
same_end rest stream.head_too_long other (inl x) y =
    beside rest stream.head_too_long other refl (sym (cond-false _ _ _ (le-ltb _ _ x.0)))
    (unfinished_end rest other (omega (arith, x.0)) x.1 y)
same_end rest stream.head_too_long other (inr x) y = same_headed rest x.0 stream.head_too_long other x.1 (inr x) y
same_end rest stream.no_length other x y = same_headed rest x.0 stream.no_length other x.1.head x y
same_end rest stream.body_too_long other x y = same_headed rest x.0 stream.body_too_long other x.1.head x y

-- ---- streams

-- where a request begins a rest the stream doesn't end
pub no_end : (rest : List ℕ) (m : Message) (more : List ℕ) (end : End) → BeginsWith rest m more → EndsAs rest end → ⊥
no_end rest m more end x y =
    let clean : end ≡ stream.clean = headed_end rest x.h end x.head.head y ∙ ap end_at (answer_whole rest m more x) in
    let empty : rest ≡ [] = subst (λ v. EndsAs rest v) clean y in
    omega (arith, head_is_some rest x.h x.head.head, ap length empty)

-- two ends that are one behind a request are one before it
end_before : (bytes : List ℕ) (m : Message) (rest : List ℕ) (ms : List Message) (e f : End) → BeginsWith bytes m rest
    → IsSameEnd rest ms e f → IsSameEnd bytes (m ∷ ms) e f
end_before bytes m rest ms e f begins (inl x) = inl x
end_before bytes m rest ms e f begins (inr x) = inr ((rest, begins, x.0), x.1)

-- what comes behind a request, whether it closes or not
same_later : (rest : List ℕ) (ms ns : List Message) (e f : End) (close : Bool)
    → (IsStream rest ms e → IsStream rest ns f → (ms ≡ ns) × IsSameEnd rest ms e f)
    → MatchBool close ((ms ≡ []) × (e ≡ stream.clean)) (IsStream rest ms e)
    → MatchBool close ((ns ≡ []) × (f ≡ stream.clean)) (IsStream rest ns f) → (ms ≡ ns) × IsSameEnd rest ms e f
same_later rest ms ns e f true open_same x y = (x.0 ∙ sym y.0, inl (x.1 ∙ sym y.1))
same_later rest ms ns e f false open_same x y = open_same x y

pub same_stream : (bytes : List ℕ) (ms ns : List Message) (e f : End) → IsStream bytes ms e → IsStream bytes ns f
    → (ms ≡ ns) × IsSameEnd bytes ms e f
same_stream bytes [] [] e f x y = (refl, same_end bytes e f x y)
same_stream bytes [] (n ∷ ns) e f x y = absurd (no_end bytes n y.0 e y.1 x)
same_stream bytes (m ∷ ms) [] e f x y = absurd (no_end bytes m x.0 f x.1 y)
same_stream bytes (m ∷ ms) (n ∷ ns) e f x y =
    let same = same_request bytes m n x.0 y.0 x.1 y.1 in
    let later : MatchBool m.close ((ns ≡ []) × (f ≡ stream.clean)) (IsStream x.0 ns f) = rw (same.0, same.1) y.2 in
    let rest = same_later x.0 ms ns e f m.close (same_stream x.0 ms ns e f) x.2 later in
    (λ i. same.0 i ∷ rest.0 i, end_before bytes m x.0 ms e f x.1 rest.1)

-- what follows a refused rest counts for nothing
refused_later : (rest more : List ℕ) (end : End) → IsTrue (is_refusal end) → EndsAs rest end → EndsAs (rest ++ more) end
refused_later rest more stream.clean refused x = cc
refused_later rest more stream.cut refused x = cc
refused_later rest more stream.bad_head refused x = IsHopeless_later rest more x
refused_later rest more stream.head_too_long refused x = IsTooLong_later rest more x
refused_later rest more stream.no_length refused x = (x.0, HasHeadWith_later rest more x.0 _ x.1)
refused_later rest more stream.body_too_long refused x = (x.0, HasHeadWith_later rest more x.0 _ x.1)

over_behind : (rest more : List ℕ) (ms : List Message) (e : End) (close : Bool)
    → (IsTrue (is_ended ms e) → IsStream rest ms e → IsStream (rest ++ more) ms e) → IsTrue (close || is_ended ms e)
    → MatchBool close ((ms ≡ []) × (e ≡ stream.clean)) (IsStream rest ms e)
    → MatchBool close ((ms ≡ []) × (e ≡ stream.clean)) (IsStream (rest ++ more) ms e)
over_behind rest more ms e true goes over x = x
over_behind rest more ms e false goes over x = goes over x

-- and what follows a stream that is over
pub over_later : (bytes more : List ℕ) (ms : List Message) (e : End) → IsTrue (is_ended ms e) → IsStream bytes ms e
    → IsStream (bytes ++ more) ms e
over_later bytes more [] e over x = refused_later bytes more e over x
over_later bytes more (m ∷ ms) e over x = (
  x.0 ++ more,
  BeginsWith_later bytes x.0 more m x.1,
  over_behind x.0 more ms e m.close (over_later x.0 more ms e) over x.2,
)

-- ---- each stream has requests

pub shorter : (bytes : List ℕ) (m : Message) (rest : List ℕ) → BeginsWith bytes m rest → length rest < length bytes
shorter bytes m rest x =
    let sum = ap length x.bytes ∙ length-append (print_request x.h ++ m.body) rest in
    let parts = length-append (print_request x.h) m.body in
    omega (arith, sum, parts, print_request_len x.h x.head.head.1.0.fields)

pub requests_before : (bytes : List ℕ) (m : Message) (rest : List ℕ) → m.close ≡ false → BeginsWith bytes m rest → HasRequests rest
    → HasRequests bytes
requests_before bytes m rest stays begins x = (m ∷ x.0, x.1, (rest, begins, rw stays x.2))

pub closing_request : (bytes : List ℕ) (m : Message) (rest : List ℕ) → m.close ≡ true → BeginsWith bytes m rest → HasRequests bytes
closing_request bytes m rest closes begins = (m ∷ [], stream.clean, (rest, begins, rw closes (refl, refl)))

less_than_a_request : (bytes : List ℕ) → IsNotYet bytes → HasRequests bytes
less_than_a_request [] x = ([], stream.clean, refl)
less_than_a_request (b ∷ bytes) x = ([], stream.cut, (omega arith, x))

pub no_request : (bytes : List ℕ) (taken : Taken) → ((r : Request) → taken ≢ Whole r) → Takes bytes taken → HasRequests bytes
no_request bytes (Whole r) other x = absurd (other r refl)
no_request bytes NotYet other x = less_than_a_request bytes x
no_request bytes BadHead other x = ([], stream.bad_head, x)
no_request bytes HeadTooLong other x = ([], stream.head_too_long, x)
no_request bytes NoLength other x = ([], stream.no_length, x)
no_request bytes BodyTooLong other x = ([], stream.body_too_long, x)

-- ---- readers

read_later : (rest : List ℕ) (events : List Event) (end : End) (close : Bool)
    → (Reads rest events end → IsStream (rest ++ bytes_of events) (requests_of events) end)
    → MatchBool close ((events ≡ []) × (end ≡ stream.clean)) (Reads rest events end)
    → MatchBool close ((requests_of events ≡ []) × (end ≡ stream.clean)) (IsStream (rest ++ bytes_of events) (requests_of events) end)
read_later rest events end true goes x = (ap requests_of x.0, x.1)
read_later rest events end false goes x = goes x

read_held : (held : List ℕ) (events : List Event) (end : End) → Reads held events end → IsStream (held ++ bytes_of events) (requests_of events) end
read_held held [] end x = rw append-nil x
read_held held (came piece ∷ events) end x = rw (← append_assoc held piece (bytes_of events)) (read_held (held ++ piece) events end x)
read_held held (took m ∷ events) end x = (
  x.0 ++ bytes_of events,
  BeginsWith_later held x.0 (bytes_of events) m x.1,
  read_later x.0 events end m.close (read_held x.0 events end) x.2,
)

unread_behind : (events : List Event) (unread : List ℕ) (end : End) → (unread ≡ []) ⊎ IsTrue (is_ended (requests_of events) end)
    → IsStream (bytes_of events) (requests_of events) end → IsStream (bytes_of events ++ unread) (requests_of events) end
unread_behind events unread end (inl none) x = rw (none, append-nil) x
unread_behind events unread end (inr over) x = over_later (bytes_of events) unread (requests_of events) end over x

pub read_stream : (bytes : List ℕ) (events : List Event) (end : End) → IsReadAs bytes events end → IsStream bytes (requests_of events) end
read_stream bytes events end x =
    subst (λ l. IsStream l (requests_of events) end) x.bytes
    (unread_behind events x.unread end x.whole (read_held [] events end x.reads))

-- a reader that waits for all pieces, and then takes all requests
abbrev taking : List Message → List Event
taking [] = []
taking (m ∷ ms) = took m ∷ taking ms

abbrev waiting : List (List ℕ) → List Event → List Event
waiting [] events = events
waiting (piece ∷ pieces) events = came piece ∷ waiting pieces events

abbrev whole : List (List ℕ) → List ℕ
whole pieces = flat_map (λ piece. piece) pieces

taking_bytes : (ms : List Message) → bytes_of (taking ms) ≡ []
taking_bytes [] = refl
taking_bytes (m ∷ ms) = taking_bytes ms

taking_pieces : (ms : List Message) → pieces_of (taking ms) ≡ []
taking_pieces [] = refl
taking_pieces (m ∷ ms) = taking_pieces ms

waiting_bytes : (pieces : List (List ℕ)) (ms : List Message) → bytes_of (waiting pieces (taking ms)) ≡ whole pieces
waiting_bytes [] ms = taking_bytes ms
waiting_bytes (piece ∷ pieces) ms = ap (λ l. piece ++ l) (waiting_bytes pieces ms)

waiting_pieces : (pieces : List (List ℕ)) (ms : List Message) → pieces_of (waiting pieces (taking ms)) ≡ pieces
waiting_pieces [] ms = taking_pieces ms
waiting_pieces (piece ∷ pieces) ms = ap (λ l. piece ∷ l) (waiting_pieces pieces ms)

taken_behind : (rest : List ℕ) (ms : List Message) (e : End) (close : Bool) → (IsStream rest ms e → Reads rest (taking ms) e)
    → MatchBool close ((ms ≡ []) × (e ≡ stream.clean)) (IsStream rest ms e)
    → MatchBool close ((taking ms ≡ []) × (e ≡ stream.clean)) (Reads rest (taking ms) e)
taken_behind rest ms e true goes x = (ap taking x.0, x.1)
taken_behind rest ms e false goes x = goes x

taken_in_turn : (bytes : List ℕ) (ms : List Message) (e : End) → IsStream bytes ms e → Reads bytes (taking ms) e
taken_in_turn bytes [] e x = x
taken_in_turn bytes (m ∷ ms) e x = (x.0, x.1, taken_behind x.0 ms e m.close (taken_in_turn x.0 ms e) x.2)

waited : (held : List ℕ) (pieces : List (List ℕ)) (events : List Event) (e : End) → Reads (held ++ whole pieces) events e
    → Reads held (waiting pieces events) e
waited held [] events e x = rw append-nil at x
waited held (piece ∷ pieces) events e x = waited (held ++ piece) pieces events e (rw append_assoc x)

pub read_in_pieces : (pieces : List (List ℕ)) (ms : List Message) (e : End) → IsStream (whole pieces) ms e
    → (events : List Event) × (pieces_of events ≡ pieces) × IsReadAs (whole pieces) events e
read_in_pieces pieces ms e x = (
  waiting pieces (taking ms),
  waiting_pieces pieces ms,
  record {
    unread = [];
    bytes = append-nil (bytes_of (waiting pieces (taking ms))) ∙ waiting_bytes pieces ms;
    reads = waited [] pieces (taking ms) e (taken_in_turn (whole pieces) ms e x);
    whole = inl refl;
  },
)
