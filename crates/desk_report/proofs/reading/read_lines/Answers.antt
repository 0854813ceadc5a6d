-- What a call gives comes behind what was read before.
use Rattle.std.proofs.Common.{◌∙◌, ℕ, ◌≤◌, List, ◌++◌, [], arith, length, length-append, refl, subst, take}
use Rattle.std.proofs.KnownBytes.{Consumes-nil, Consumes-trans}
use Rattle.std.proofs.lemmas.List.{length-take, take-append-le}
use Rattle.desk_report.specs.ReadLines.{AreLinesOf}
use Rattle.desk_report.specs.declared.lines.Lines.{Lines}
use Rattle.desk_report.proofs.reading.read_lines.Goals as goal

-- of a buffer, only what was given is read
with_given : (bytes into rest : List ℕ) (n : ℕ) (lines : Lines) → n ≤ length into → AreLinesOf (bytes ++ take n (into ++ rest)) lines → AreLinesOf (bytes ++ take n into) lines
with_given bytes into rest n lines l are = subst (λ piece. AreLinesOf (bytes ++ piece) lines) (take-append-le n into rest l) are

pub reading-init : goal.reading-init
unfolding AreLinesOf
reading-init g c = ([], Consumes-nil _, refl, c.start.ensures, refl, refl)

pub returns-in_err-lines-clause-taken : goal.returns-in_err-lines-clause-taken
returns-in_err-lines-clause-taken g c =
    let (bytes, given, len, are, written, count) = c.reading.invariant in
    let piece = take c.in_ok-given.given c.read.new.into in (
      bytes ++ piece,
      Consumes-trans _ _ _ bytes piece given c.in_ok-given.ensures.gives.0,
      simp length-append (omega (arith, length-take {A = ℕ}, len)),
    )

pub reading-preserved : goal.reading-preserved
reading-preserved g c =
    let (bytes, given, len, are, written, count) = c.reading.invariant in
    let piece = take c.in_ok-given.given c.read.new.into in (
      bytes ++ piece,
      Consumes-trans _ _ _ bytes piece given c.in_ok-given.ensures.gives.0,
      simp length-append (omega (arith, length-take {A = ℕ}, len, c.in_ok-given.ensures.within)),
      with_given bytes c.read.new.into _ c.in_ok-given.given c.in_ok-lines.lines c.in_ok-given.ensures.within (c.in_ok-lines.ensures bytes are),
      c.read.ensures.output_stays ∙ written,
      c.in_ok-given.ensures.faults.steady (λ failed. cc) ∙ count,
    )
