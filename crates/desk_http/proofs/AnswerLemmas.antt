-- A rest has one answer, and at most one request at its front.
use Rattle.std.proofs.Common.{◌≡◌, ℕ, ◌+◌, ◌-◌, ◌<◌, ◌≤◌, ◌⊎◌, Bool, true, false, cond, ltb, leb, Option, Some, None, List, [], ◌++◌, length, take, drop, refl, sym, ap, ◌∙◌, inl, inr, arith, append_assoc, length-append, length-drop}
use Rattle.std.specs.Prelude.{IsTrue, slice_range, codes}
use Rattle.std.specs.List.{list_any}
use Rattle.std.proofs.lemmas.Bool.{cond-true, cond-false, lt-ltb, le-ltb, leb-true}
use Rattle.std.proofs.lemmas.List.{take_at, drop_at}
use Rattle.httparse.specs.Grammar.{RequestHead, print_request}
use Rattle.httparse.proofs.GrammarLemmas.{ReadsRequest-append, request_unique}
use Rattle.desk_http.specs.Limits.{head_limit, line_limit, body_limit}
use Rattle.desk_http.specs.declared.method.Method.{Method}
use Rattle.desk_http.specs.declared.lines.BodyLength.{BodyLength}
use Rattle.desk_http.specs.declared.lines.BodyLength.TheVariants.{Missing, TooLong, Known}
use Rattle.desk_http.specs.declared.request.Request.{Request}
use Rattle.desk_http.specs.declared.taken.Taken.{Taken}
use Rattle.desk_http.specs.declared.taken.Taken.TheVariants.{Whole, NotYet, BadHead, HeadTooLong, NoLength, BodyTooLong}
use Rattle.desk_http.specs.Lines.{Line, header_lines, is_named, line_values, stated_length, bounded_length, method_of, body_length, is_closing}
use Rattle.desk_http.specs.Rest.{front, HasHead, HasHeadWith, IsHopeless, IsUnfinished, IsInDoubt, IsNotYet, Message, BeginsWith}
use Rattle.desk_http.specs.Taken.{message_of, IsTakenFrom, Takes, PlainAnswer, whole, not_yet, bad_head, head_too_long, no_length, body_too_long, taken_answer, may_replace}
use Rattle.desk_http.proofs.HeadLemmas.{print_request_len}
use Rattle.desk_http.proofs.RestLemmas.{head_begins}

-- ---- requests

pub same_head : (rest : List ℕ) (h k : RequestHead) → HasHead rest h → HasHead rest k → h ≡ k
same_head rest h k x y = (request_unique (front rest) h k x.0 y.0 x.1 y.1).0

abbrev pub head_len : RequestHead → ℕ
head_len h = length (print_request h)

-- the request that a head and so many bytes behind it are
abbrev pub request_at : List ℕ → RequestHead → ℕ → Message
request_at rest h n = record {
  method = method_of h.method;
  target = h.target;
  body = slice_range rest (head_len h) (head_len h + n);
  close = is_closing h.minor (header_lines h);
}

middle : (front body more : List ℕ) → slice_range (front ++ body ++ more) (length front) (length front + length body) ≡ body
middle front body more =
    let n : length front + length body - length front ≡ length body = omega arith in
    ap (λ l. take (length front + length body - length front) (drop (length front) l)) (append_assoc front body more)
    ∙ ap (take (length front + length body - length front)) (drop_at front (body ++ more) (length front) refl)
    ∙ ap (λ k. take k (body ++ more)) n ∙ take_at body more (length body) refl

-- what is a request at the front of a rest is that one
request_is : (rest : List ℕ) (m : Message) (more : List ℕ) (x : BeginsWith rest m more) → m ≡ request_at rest x.h (length m.body)
request_is rest m more x =
    let n = head_len x.h in
    let body : m.body ≡ slice_range rest n (n + length m.body) =
    sym (middle (print_request x.h) m.body more) ∙ ap (λ l. slice_range l n (n + length m.body)) (sym x.bytes) in
    λ i. record { method = x.method i; target = x.target i; body = body i; close = x.close i }

more_is : (rest : List ℕ) (m : Message) (more : List ℕ) (x : BeginsWith rest m more) → more ≡ drop (head_len x.h + length m.body) rest
more_is rest m more x =
    sym (drop_at (print_request x.h ++ m.body) more (head_len x.h + length m.body) (length-append (print_request x.h) m.body))
    ∙ ap (drop (head_len x.h + length m.body)) (sym x.bytes)

abbrev known_length : BodyLength → ℕ
known_length Missing = 0
known_length TooLong = 0
known_length (Known n) = n

pub same_request : (rest : List ℕ) (m n : Message) (more later : List ℕ) → BeginsWith rest m more → BeginsWith rest n later
    → (m ≡ n) × (more ≡ later)
same_request rest m n more later x y =
    let head : x.h ≡ y.h = same_head rest x.h y.h x.head.head y.head.head in
    let len : length m.body ≡ length n.body =
    ap known_length (sym x.head.body_length ∙ ap (λ h. body_length (method_of h.method) (header_lines h)) head ∙ y.head.body_length) in (
      request_is rest m more x ∙ (λ i. request_at rest (head i) (len i)) ∙ sym (request_is rest n later y),
      more_is rest m more x ∙ (λ i. drop (head_len (head i) + len i) rest) ∙ sym (more_is rest n later y),
    )

-- ---- answers

-- the answer where the head is whole, by its lines and by what it says of its body
abbrev pub body_answer : List ℕ → RequestHead → BodyLength → PlainAnswer
body_answer rest h Missing = no_length
body_answer rest h TooLong = body_too_long
body_answer rest h (Known n) =
    cond (ltb (length rest) (head_len h + n)) not_yet (whole (request_at rest h n) (head_len h + n))

abbrev pub head_answer : List ℕ → RequestHead → PlainAnswer
head_answer rest h =
    cond (ltb line_limit (length h.fields)) head_too_long
    (body_answer rest h (body_length (method_of h.method) (header_lines h)))

answer_with : (rest : List ℕ) (h : RequestHead) (body : BodyLength) → HasHeadWith rest h body → head_answer rest h ≡ body_answer rest h body
answer_with rest h body x = cond-false _ _ _ (le-ltb _ _ x.lines) ∙ ap (body_answer rest h) x.body_length

pub answer_whole : (rest : List ℕ) (m : Message) (more : List ℕ) (x : BeginsWith rest m more)
    → head_answer rest x.h ≡ whole m (head_len x.h + length m.body)
answer_whole rest m more x =
    let sum = ap length x.bytes ∙ length-append (print_request x.h ++ m.body) more in
    let parts = length-append (print_request x.h) m.body in
    let enough : head_len x.h + length m.body ≤ length rest = omega (arith, sum, parts) in
    answer_with rest x.h _ x.head ∙ cond-false _ _ _ (le-ltb _ _ enough)
    ∙ ap (λ k. whole k (head_len x.h + length m.body)) (sym (request_is rest m more x))

used_is : (rest : List ℕ) (r : Request) (x : IsTakenFrom rest r) → r.used ≡ head_len x.begins.h + length (message_of rest r).body
used_is rest r x =
    let b = x.begins in
    let m = message_of rest r in
    let sum = ap length b.bytes ∙ length-append (print_request b.h ++ m.body) (drop r.used rest) in
    omega (arith, sum, length-append (print_request b.h) m.body, length-drop r.used rest, x.used)

answer_taken : (rest : List ℕ) (r : Request) (x : IsTakenFrom rest r) → taken_answer rest (Whole r) ≡ head_answer rest x.begins.h
answer_taken rest r x =
    ap (whole (message_of rest r)) (used_is rest r x) ∙ sym (answer_whole rest (message_of rest r) (drop r.used rest) x.begins)

-- a rest with a whole head has the answer that its head gives
pub headed : (rest : List ℕ) (h : RequestHead) (taken : Taken) → HasHead rest h → Takes rest taken → taken_answer rest taken ≡ head_answer rest h
headed rest h (Whole r) at x =
    answer_taken rest r x ∙ ap (head_answer rest) (same_head rest x.begins.h h x.begins.head.head at)
headed rest h NotYet at (inl x) = absurd (x.1.0 h at.0 at.1)
headed rest h NotYet at (inr x) =
    sym (answer_with rest x.0 _ x.2 ∙ cond-true _ _ _ (lt-ltb _ _ x.3)) ∙ ap (head_answer rest) (same_head rest x.0 h x.2.head at)
headed rest h BadHead at never = absurd (never [] h _ (ReadsRequest-append (front rest) h at.0 [] at.1))
headed rest h HeadTooLong at (inl full) = absurd (full.1.0 h at.0 at.1)
headed rest h HeadTooLong at (inr x) =
    sym (cond-true _ _ _ (lt-ltb _ _ x.2)) ∙ ap (head_answer rest) (same_head rest x.0 h x.1 at)
headed rest h NoLength at x = sym (answer_with rest x.0 _ x.1) ∙ ap (head_answer rest) (same_head rest x.0 h x.1.head at)
headed rest h BodyTooLong at x = sym (answer_with rest x.0 _ x.1) ∙ ap (head_answer rest) (same_head rest x.0 h x.1.head at)

-- a rest that is hopeless is unfinished too only where it ends inside its target
pub in_doubt : (rest : List ℕ) → IsHopeless rest → IsUnfinished rest → IsInDoubt rest
in_doubt rest never (none, inl x) = absurd (never x.0 x.1 [] x.2)
in_doubt rest never (none, inr target) = (never, target)

abbrev open_answer : List ℕ → PlainAnswer
open_answer rest = cond (ltb (length rest) head_limit) not_yet head_too_long

unfinished : (rest : List ℕ) (taken : Taken) → IsUnfinished rest → Takes rest taken
    → (taken_answer rest taken ≡ open_answer rest) ⊎ ((taken ≡ BadHead) × IsInDoubt rest)
unfinished rest (Whole r) unread x = absurd (unread.0 x.begins.h x.begins.head.head.0 x.begins.head.head.1)
unfinished rest NotYet unread (inl x) = inl (sym (cond-true _ _ _ (lt-ltb _ _ x.0)))
unfinished rest NotYet unread (inr x) = absurd (unread.0 x.0 x.2.head.0 x.2.head.1)
unfinished rest BadHead unread never = inr (refl, in_doubt rest never unread)
unfinished rest HeadTooLong unread (inl x) = inl (sym (cond-false _ _ _ (le-ltb _ _ x.0)))
unfinished rest HeadTooLong unread (inr x) = absurd (unread.0 x.0 x.1.0 x.1.1)
unfinished rest NoLength unread x = absurd (unread.0 x.0 x.1.head.0 x.1.head.1)
unfinished rest BodyTooLong unread x = absurd (unread.0 x.0 x.1.head.0 x.1.head.1)

pub no_head : (rest : List ℕ) (h : RequestHead) → IsHopeless rest → HasHead rest h → ⊥
no_head rest h never x = never [] h _ (ReadsRequest-append (front rest) h x.0 [] x.1)

hopeless : (rest : List ℕ) (taken : Taken) → IsHopeless rest → Takes rest taken
    → (bad_head ≡ taken_answer rest taken) ⊎ (IsInDoubt rest × IsTrue (may_replace BadHead taken))
hopeless rest (Whole r) never x = absurd (no_head rest x.begins.h never x.begins.head.head)
hopeless rest NotYet never (inl x) = inr (in_doubt rest never x.1, refl)
hopeless rest NotYet never (inr x) = absurd (no_head rest x.0 never x.2.head)
hopeless rest BadHead never x = inl refl
hopeless rest HeadTooLong never (inl x) = inr (in_doubt rest never x.1, refl)
hopeless rest HeadTooLong never (inr x) = absurd (no_head rest x.0 never x.1)
hopeless rest NoLength never x = absurd (no_head rest x.0 never x.1.head)
hopeless rest BodyTooLong never x = absurd (no_head rest x.0 never x.1.head)

abbrev IsSameAnswer : List ℕ → Taken → Taken → Type 0
IsSameAnswer rest taken other =
    (taken_answer rest taken ≡ taken_answer rest other) ⊎ (IsInDoubt rest × IsTrue (may_replace taken other))

-- an answer of an unfinished head, beside any other
beside : (rest : List ℕ) (taken other : Taken) → IsTrue (may_replace taken BadHead) → taken_answer rest taken ≡ open_answer rest
    → (taken_answer rest other ≡ open_answer rest) ⊎ ((other ≡ BadHead) × IsInDoubt rest) → IsSameAnswer rest taken other
beside rest taken other may is (inl x) = inl (is ∙ sym x)
beside rest taken other may is (inr x) = inr (x.1, rw x.0 may)

pub same_answer : (rest : List ℕ) (taken other : Taken) → Takes rest taken → Takes rest other → IsSameAnswer rest taken other
same_answer rest (Whole r) other x y =
    let at = x.begins.head.head in inl (headed rest x.begins.h (Whole r) at x ∙ sym (headed rest x.begins.h other at y))
same_answer rest NotYet other (inl x) y =
    beside rest NotYet other refl (sym (cond-true _ _ _ (lt-ltb _ _ x.0))) (unfinished rest other x.1 y)
same_answer rest NotYet other (inr x) y = inl (headed rest x.0 NotYet x.2.head (inr x) ∙ sym (headed rest x.0 other x.2.head y))
same_answer rest BadHead other x y = hopeless rest other x y
same_answer rest HeadTooLong other (inl x) y =
    beside rest HeadTooLong other refl (sym (cond-false _ _ _ (le-ltb _ _ x.0))) (unfinished rest other x.1 y)
same_answer rest HeadTooLong other (inr x) y = inl (headed rest x.0 HeadTooLong x.1 (inr x) ∙ sym (headed rest x.0 other x.1 y))
same_answer rest NoLength other x y = inl (headed rest x.0 NoLength x.1.head x ∙ sym (headed rest x.0 other x.1.head y))
same_answer rest BodyTooLong other x y = inl (headed rest x.0 BodyTooLong x.1.head x ∙ sym (headed rest x.0 other x.1.head y))

-- ---- how long a request is

chosen : {A : Type 0} (b : Bool) (x y z : A) → cond b x y ≡ z → ((b ≡ true) × (x ≡ z)) ⊎ ((b ≡ false) × (y ≡ z))
chosen true x y z e = inl (refl, e)
chosen false x y z e = inr (refl, e)

bounded : (stated : Option ℕ) (n : ℕ) → bounded_length stated ≡ Known n → n ≤ body_limit
bounded None n e = cc
bounded (Some k) n e = elim (chosen (leb k body_limit) (Known k) TooLong (Known n) e) [
  | inl x ↦ let same = ap known_length x.1 in let le = leb-true k body_limit x.0 in omega (arith, same, le)
  | inr x ↦ cc
]

body_bound : (method : Method) (lines : List Line) (n : ℕ) → body_length method lines ≡ Known n → n ≤ body_limit
body_bound method lines n e =
    let stated = stated_length method (line_values (codes "content-length") lines) in
    elim (chosen (list_any (is_named (codes "transfer-encoding")) lines) Missing (bounded_length stated) (Known n) e) [
      | inl x ↦ cc
      | inr x ↦ bounded stated n x.1
    ]

pub request_len : (rest : List ℕ) (r : Request) → IsTakenFrom rest r → (0 < r.used) × (r.used ≤ head_limit + body_limit)
request_len rest r x =
    let b = x.begins in
    let head = head_begins rest b.h b.head.head.0 b.head.head.1 in
    let body = body_bound (method_of b.h.method) (header_lines b.h) _ b.head.body_length in
    let some = print_request_len b.h b.head.head.1.0.fields in
    let used = used_is rest r x in
    (omega (arith, some, used), omega (arith, head.bound, body, used))

-- a head and a body of the longest aren't all there
pub not_yet_len : (rest : List ℕ) → IsNotYet rest → length rest < head_limit + body_limit
not_yet_len rest (inl x) = omega (arith, x.0)
not_yet_len rest (inr x) =
    let head = head_begins rest x.0 x.2.head.0 x.2.head.1 in
    let body = body_bound (method_of x.0.method) (header_lines x.0) x.1 x.2.body_length in
    omega (arith, head.bound, body, x.3)
