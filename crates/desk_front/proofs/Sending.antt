-- Bytes that are said one after another.
use Rattle.std.proofs.Common.{◌≡◌, ℕ, suc, ◌+◌, ◌≤◌, List, [], ◌∷◌, ◌++◌, Result, Ok, Err, OnErr, OnOk, Option, take, drop, length, refl, sym, ap, ◌∙◌, subst, append_assoc, append-nil, arith}
use Rattle.std.proofs.Math.Seq.{take-append_seam}
use Rattle.std.proofs.lemmas.List.{length-append, length-take-le, take-append-drop}
use Rattle.std.specs.Io.KnownBytes.{Appends}
use Rattle.std.proofs.KnownBytes.{Appends-nil, Appends-trans}
use Rattle.std.specs.Prelude.{IsErr}
use Rattle.desk_edge.specs.Faults.{CountsFaults, Rose}
use Rattle.desk_edge.specs.Transfer.{AppendsPart}
use Rattle.desk_front.specs.Service.{BreaksOff, Outgoing, Sends}

pub sends_nothing : (out : Outgoing) → Sends out [] out
sends_nothing out = ([], append-nil out.waiting, Appends-nil out.written, refl)

-- a beginning of what comes second, behind all of what comes first
pub beginning_behind : (first second : List ℕ) (n : ℕ) → take (length first + n) (first ++ second) ≡ first ++ take n second
beginning_behind [] second n = ap (λ k. take k second) (omega arith)
beginning_behind (b ∷ first) second n =
    let one_more : length (b ∷ first) + n ≡ suc (length first + n) = omega arith in
    subst (λ k. take k ((b ∷ first) ++ second) ≡ (b ∷ first) ++ take n second) (sym one_more) (ap (λ l. b ∷ l) (beginning_behind first second n))

-- two pieces, the first of which is in part still to be sent
regrouped : (waiting said more sent left : List ℕ) → waiting ++ said ≡ sent ++ left → waiting ++ (said ++ more) ≡ sent ++ (left ++ more)
regrouped waiting said more sent left e = sym (append_assoc waiting said more) ∙ ap (λ l. l ++ more) e ∙ append_assoc sent left more

pub sends_onward : (old mid new : Outgoing) (said more : List ℕ) → Sends old said mid → Sends mid more new → Sends old (said ++ more) new
sends_onward old mid new said more x y = (
  x.0 ++ y.0,
  regrouped old.waiting said more x.0 mid.waiting x.1 ∙ ap (λ l. x.0 ++ l) y.1 ∙ sym (append_assoc x.0 y.0 new.waiting),
  Appends-trans old.written mid.written new.written x.0 y.0 x.2 y.2,
  y.3 ∙ x.3,
)

pub breaks_onward : (old mid new : Outgoing) (said more : List ℕ) → Sends old said mid → BreaksOff mid more new → BreaksOff old (said ++ more) new
breaks_onward old mid new said more x y = (
  (
    length x.0 + y.0.0,
    omega (arith, y.0.1, ap length (regrouped old.waiting said more x.0 mid.waiting x.1), length-append x.0 (mid.waiting ++ more)),
    subst (λ l. Appends old.written new.written (take (length x.0 + y.0.0) l)) (sym (regrouped old.waiting said more x.0 mid.waiting x.1))
        (subst (Appends old.written new.written) (sym (beginning_behind x.0 (mid.waiting ++ more) y.0.0))
        (Appends-trans old.written mid.written new.written x.0 (take y.0.0 (mid.waiting ++ more)) x.2 y.0.2)),
  ),
  subst (λ n. n ≤ new.faults) x.3 y.1,
  subst (λ n. Rose n new.faults) x.3 y.2,
)

-- a part of bytes is one of longer bytes
longer_part : (old new : Option (List ℕ)) (bytes more : List ℕ) → AppendsPart old new bytes → AppendsPart old new (bytes ++ more)
longer_part old new bytes more x =
    let whole : (bytes ++ more ≡ take x.0 bytes ++ (drop x.0 bytes ++ more)) =
    ap (λ l. l ++ more) (sym (take-append-drop x.0 bytes)) ∙ append_assoc (take x.0 bytes) (drop x.0 bytes) more
    in (
      length (take x.0 bytes),
      omega (arith, x.1, length-take-le x.0 bytes (omega (arith, x.1)), length-append bytes more),
      subst (Appends old new) (sym (ap (take (length (take x.0 bytes))) whole ∙ take-append_seam (take x.0 bytes) (drop x.0 bytes ++ more))) x.2,
    )

pub breaks_sooner : (old new : Outgoing) (said more : List ℕ) → BreaksOff old said new → BreaksOff old (said ++ more) new
breaks_sooner old new said more x = (
  subst (AppendsPart old.written new.written) (append_assoc old.waiting said more)
      (longer_part old.written new.written (old.waiting ++ said) more x.0),
  x.1,
  x.2,
)

pub sends_written : (old new : Outgoing) (said : List ℕ) → old.waiting ≡ [] → new.waiting ≡ [] → Appends old.written new.written said → new.faults ≡ old.faults
    → Sends old said new
sends_written old new said none left written steady =
    (said, ap (λ l. l ++ said) none ∙ sym (append-nil said) ∙ ap (λ l. said ++ l) (sym left), written, steady)

pub breaks_writing : (old new : Outgoing) (said : List ℕ) → old.waiting ≡ [] → AppendsPart old.written new.written said → old.faults ≤ new.faults
    → Rose old.faults new.faults → BreaksOff old said new
breaks_writing old new said none written falls rose =
    (subst (AppendsPart old.written new.written) (ap (λ l. l ++ said) (sym none)) written, falls, rose)

-- what holds anyway holds of an error
pub on_error : {T E P : Type 0} (r : Result T E) → P → OnErr r P
on_error (Ok value) holds = tt
on_error (Err error) holds = holds

pub on_ok_both : {T E P Q S : Type 0} (r : Result T E) → OnOk r P → OnOk r Q → (P → Q → S) → OnOk r S
on_ok_both (Ok value) p q both = both p q
on_ok_both (Err error) p q both = tt

pub on_err_both : {T E P Q S : Type 0} (r : Result T E) → OnErr r P → OnErr r Q → (P → Q → S) → OnErr r S
on_err_both (Ok value) p q both = tt
on_err_both (Err error) p q both = both p q

-- a call that went well leaves the count of faults as it was, and one that was refused raises it
pub steady_on_ok : {T E : Type 0} (r : Result T E) (old new : ℕ) → CountsFaults (IsErr r) old new → OnOk r (new ≡ old)
steady_on_ok (Ok value) old new counts = counts.steady (λ failed. cc)
steady_on_ok (Err error) old new counts = tt

pub rises_on_err : {T E : Type 0} (r : Result T E) (old new : ℕ) → CountsFaults (IsErr r) old new → OnErr r (Rose old new)
rises_on_err (Ok value) old new counts = tt
rises_on_err (Err error) old new counts = counts.rises refl
