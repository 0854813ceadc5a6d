-- A rest, its front and the head in it.
use Rattle.std.proofs.Common.{◌≡◌, ℕ, ◌+◌, ◌≤◌, List, ◌++◌, length, take, drop, refl, sym, ap, ◌∙◌, arith, append_assoc, length-append}
use Rattle.std.specs.Prelude.{slice_range}
use Rattle.std.proofs.lemmas.List.{length-take, take-take, take_at, take-append-drop, take-append-le}
use Rattle.std.proofs.lemmas.List.Folds.{drop_split}
use Rattle.std.proofs.lemmas.Slice.{between_is}
use Rattle.httparse.specs.Grammar.{RequestHead, print_request, ReadsRequest}
use Rattle.httparse.proofs.RunLemmas.{length-slice_range}
use Rattle.desk_http.specs.Limits.{head_limit, line_limit}
use Rattle.desk_http.specs.declared.lines.BodyLength.TheVariants.{Known}
use Rattle.desk_http.specs.declared.head.Head.{Head}
use Rattle.desk_http.specs.Rest.{front}
use Rattle.desk_http.specs.Head.{IsHeadAt}
use Rattle.desk_http.specs.Taken.{IsTakenFrom}

pub slice_range-take : (xs : List ℕ) (i j n : ℕ) → j ≤ n → slice_range (take n xs) i j ≡ slice_range xs i j
slice_range-take xs i j n within =
    between_is (take n xs) i j ∙ ap (drop i) (take-take j n xs within) ∙ sym (between_is xs i j)

pub slice_range-append : (xs more : List ℕ) (i j : ℕ) → j ≤ length xs → slice_range (xs ++ more) i j ≡ slice_range xs i j
slice_range-append xs more i j within =
    between_is (xs ++ more) i j ∙ ap (drop i) (take-append-le j xs more within) ∙ sym (between_is xs i j)

-- the rest begins with the bytes of its head, which lie within the bound
pub record BeginsWithHead (rest : List ℕ) (h : RequestHead) : Type 0 where
  pub bound : length (print_request h) ≤ head_limit
  pub fits : length (print_request h) ≤ length rest
  pub bytes : rest ≡ print_request h ++ drop (length (print_request h)) rest

pub head_begins : (rest : List ℕ) (h : RequestHead) (after : List ℕ) → ReadsRequest (front rest) h after → BeginsWithHead rest h
head_begins rest h after reads =
    let n = length (print_request h) in
    let lengths = ap length reads.1 ∙ length-append (print_request h) after in
    let bound : n ≤ head_limit = omega (arith, lengths, length-take head_limit rest) in
    let same : take n rest ≡ print_request h =
    sym (take-take n head_limit rest bound) ∙ ap (take n) reads.1 ∙ take_at (print_request h) after n refl in
    record {
      bound = bound;
      fits = omega (arith, lengths, length-take head_limit rest);
      bytes = sym (take-append-drop n rest) ∙ ap (λ l. l ++ drop n rest) same;
    }

-- a head whose body is there, as it is found in a buffer
pub taken_from : (buffer : List ℕ) (found : Head) (n : ℕ) (h : RequestHead) (after : List ℕ) → ReadsRequest (front buffer) h after
    → length h.fields ≤ line_limit → IsHeadAt (front buffer) found h → found.body ≡ Known n → found.len + n ≤ length buffer
    → IsTakenFrom buffer (record {
      method = found.method;
      target = found.target;
      body = record { from = found.len; to = found.len + n };
      close = found.close;
      used = found.len + n;
    })
taken_from buffer found n h after reads lines is known whole =
    let begins = head_begins buffer h after reads in
    let body = slice_range buffer found.len (found.len + n) in
    let body_len : length body ≡ n = length-slice_range buffer found.len (found.len + n) (omega arith) whole ∙ omega arith in
    record {
      used = whole;
      target = (is.within.0, omega (arith, is.within.1));
      body = (omega arith, omega arith);
      ends = refl;
      begins = record {
        h = h;
        head = record {
          head = (after, reads);
          lines = lines;
          body_length = sym is.body ∙ known ∙ ap Known (sym body_len);
        };
        bytes = begins.bytes
            ∙ ap (λ k. print_request h ++ drop k buffer) (sym is.len)
            ∙ ap (λ l. print_request h ++ l) (drop_split buffer found.len (found.len + n) (omega arith))
            ∙ sym (append_assoc (print_request h) body (drop (found.len + n) buffer));
        method = is.method;
        target = sym (slice_range-take buffer found.target.from found.target.to head_limit (omega (arith, is.within.1, is.len, begins.bound))) ∙ is.target;
        close = is.close;
      };
    }
