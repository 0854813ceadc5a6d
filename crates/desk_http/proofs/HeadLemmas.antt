-- How long a head is, and what room its lines need.
use Rattle.std.proofs.Common.{ℕ, ◌+◌, ◌*◌, ◌<◌, ◌≤◌, List, [], ◌∷◌, length, ap, arith, length-append}
use Rattle.std.specs.Prelude.{All}
use Rattle.std.specs.List.{flat_map, AllByRecursion}
use Rattle.std.proofs.lemmas.List.Elements.{recursion_from_All}
use Rattle.httparse.specs.Grammar.{LineEnd, crlf, lf, print_end, Field, print_field, IsField, RequestHead, print_request, ReadsRequest}
use Rattle.httparse.specs.Spans.{RequestExceeds, RequestOverflows, IsRequestOf}
use Rattle.httparse.specs.declared.spans.HeaderSpan.{HeaderSpan}
use Rattle.httparse.specs.declared.spans.RequestSpans.{RequestSpans}
use Rattle.httparse.proofs.GrammarLemmas.{print_request-append, ReadsRequest-append}

end_len : (end : LineEnd) → 1 ≤ length (print_end end)
end_len crlf = omega arith
end_len lf = omega arith

-- each line has a byte of its name, a colon and a line end
fields_len : (fields : List Field) → AllByRecursion IsField fields → 3 * length fields ≤ length (flat_map print_field fields)
fields_len [] valid = omega arith
fields_len (f ∷ fields) valid =
    simp length-append (omega (arith, valid.0.name.0, end_len f.end, fields_len fields valid.1))

-- two spaces and the lines
pub print_request_len : (h : RequestHead) → All IsField h.fields → 3 * length h.fields + 2 ≤ length (print_request h)
print_request_len h valid =
    omega (arith, fields_len h.fields (recursion_from_All IsField h.fields valid), simp length-append at (ap length (print_request-append h [])))

-- bytes within the bound can't hold more lines than there is room for
pub never_exceeds : (bytes : List ℕ) (room : ℕ) → length bytes ≤ 3 * room + 2 → RequestExceeds room bytes → ⊥
never_exceeds bytes room within x =
    let front = x.0 in
    let rest = x.1 in
    let long = print_request_len x.3 x.4.0.fields in
    omega (arith, long, x.5, simp length-append at (ap length x.2), simp length-append at (ap length x.4.1))

-- a head that was found has more lines than the room that was too little
pub found_over : (bytes : List ℕ) (lines : List HeaderSpan) (spans : RequestSpans) (room : ℕ) → RequestOverflows room bytes
    → IsRequestOf bytes lines spans → (h : RequestHead) × (after : List ℕ) × ReadsRequest bytes h after × (room < length h.fields)
found_over bytes lines spans room over x =
    (x.0, _, x.1.reads, over [] x.0 _ (ReadsRequest-append bytes x.0 _ [] x.1.reads))
