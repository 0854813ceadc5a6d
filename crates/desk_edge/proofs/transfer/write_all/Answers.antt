-- Pieces that were taken one after another are a beginning of the bytes.
use Rattle.std.proofs.Common.{◌≡◌, ◌∙◌, ℕ, List, ◌++◌, ◌<◌, Result, Ok, Err, OnErr, length, take, drop, sym, ap, append_assoc, length-append, arith}
use Rattle.std.proofs.Math.Seq.{take-append_seam}
use Rattle.std.proofs.lemmas.Bool.Decides.{nat_tests}
use Rattle.std.proofs.lemmas.List.{take-append-drop}
use Rattle.std.proofs.KnownBytes.{Appends-trans, Appends-kept}
use Rattle.desk_edge.proofs.transfer.write_all.Goals as goal

-- bytes in three parts, as done and left
regrouped : (all done rest : List ℕ) (n : ℕ) → all ≡ done ++ rest → all ≡ (done ++ take n rest) ++ drop n rest
regrouped all done rest n e =
    e ∙ ap (λ (r : List ℕ). done ++ r) (sym (take-append-drop n rest)) ∙ sym (append_assoc done (take n rest) (drop n rest))

-- the part that is done is a beginning
beginning : (all done rest : List ℕ) → all ≡ done ++ rest → take (length done) all ≡ done
beginning all done rest e = rw e (take-append_seam done rest)

-- what holds anyway holds of an error
on_error : {T E : Type 0} (P : Type 0) (r : Result T E) → P → OnErr r P
on_error P (Ok value) holds = tt
on_error P (Err error) holds = holds

pub returns-in_err-taken-clause-err : goal.returns-in_err-taken-clause-err
returns-in_err-taken-clause-err g c =
    let (done, whole, taken, input, count, reads) = c.loop-rest.invariant in
    let more : 0 < length c.loop-rest.rest.now = grind (arith, nat_tests, c.loop-rest-test.true, c.is_empty.ensures) in
    let short : length done < length c.args.bytes.now = rw whole (simp length-append (omega (arith, more))) in
    on_error _ c.from_residual.result
    (length done, short, rw (beginning c.args.bytes.now done c.loop-rest.rest.now whole) (Appends-kept _ _ _ done taken c.in_err-taken.ensures.takes))

pub loop-rest-preserved : goal.loop-rest-preserved
loop-rest-preserved g c =
    let (done, whole, taken, input, count, reads) = c.loop-rest.invariant in
    let n = c.in_ok-taken.taken in
    let rest = c.loop-rest.rest.now in (
      done ++ take n rest,
      rw c.split_at.ensures.back (regrouped c.args.bytes.now done rest n whole),
      Appends-trans _ _ _ done (take n rest) taken c.in_ok-taken.ensures.takes,
      c.write.ensures.input_stays ∙ input,
      c.in_ok-taken.ensures.faults.steady (λ failed. cc) ∙ count,
      c.write.ensures.reads_stay ∙ reads,
    )

pub returns-in_err-taken-clause-beginning : goal.returns-in_err-taken-clause-beginning
returns-in_err-taken-clause-beginning g c =
    let (done, whole, taken, input, count, reads) = c.loop-rest.invariant in
    (length done, rw (beginning c.args.bytes.now done c.loop-rest.rest.now whole) (Appends-kept _ _ _ done taken c.in_err-taken.ensures.takes))

pub returns-clause-beginning : goal.returns-clause-beginning
returns-clause-beginning g c =
    let (done, whole, taken, input, count, reads) = c.loop-rest.invariant in
    (length done, rw (beginning c.args.bytes.now done c.loop-rest.rest.now whole) taken)
