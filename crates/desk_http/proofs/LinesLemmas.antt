-- Header lines, one after another, and numbers in digits.
use Rattle.std.proofs.Common.{◌≡◌, ℕ, ◌+◌, ◌<◌, true, false, List, [], ◌∷◌, ◌++◌, length, get_or, map, drop, drop-cons, add-one, Option, Some, None, Bor, refl, sym, ap, ◌∙◌}
use Rattle.std.specs.Option.{is_some, option_copied, option_to_list}
use Rattle.std.specs.Char.{is_ascii_digit}
use Rattle.std.specs.List.{list_all}
use Rattle.std.proofs.lemmas.Bool.{cond-true, cond-false}
use Rattle.httparse.specs.declared.spans.HeaderSpan.{HeaderSpan}
use Rattle.httparse.specs.Spans.{span_bytes, header_bytes}
use Rattle.desk_http.specs.Lines.{is_named, line_values, number_written}

pub number_written_none : (ds : List ℕ) → list_all is_ascii_digit ds ≡ false → number_written ds ≡ None
number_written_none [] fails = refl
number_written_none (d ∷ ds) fails = cond-false _ _ _ fails

-- a line with the name adds its value
values_of_more : (name front : List ℕ) (spans : List HeaderSpan) (i : ℕ) (d : HeaderSpan) → i < length spans
    → is_named name (header_bytes front (get_or spans i d)) ≡ true
    → line_values name (map (header_bytes front) (drop i spans))
    ≡ span_bytes front (get_or spans i d).value ∷ line_values name (map (header_bytes front) (drop (i + 1) spans))
values_of_more name front spans i d inside named =
    rw (add-one, drop-cons spans i d) (ap (map (λ line. line.1)) (cond-true _ _ _ named))

-- and a line with another name adds none
values_of_other : (name front : List ℕ) (spans : List HeaderSpan) (i : ℕ) (d : HeaderSpan) → i < length spans
    → is_named name (header_bytes front (get_or spans i d)) ≡ false
    → line_values name (map (header_bytes front) (drop i spans)) ≡ line_values name (map (header_bytes front) (drop (i + 1) spans))
values_of_other name front spans i d inside other =
    rw (add-one, drop-cons spans i d) (ap (map (λ line. line.1)) (cond-false _ _ _ other))

-- the one value so far, where none was before
pub stated_more : (name front : List ℕ) (spans : List HeaderSpan) (i : ℕ) (d : HeaderSpan)
    (old new : Option (Bor (List ℕ))) (value : Bor (List ℕ)) (all : List (List ℕ)) → i < length spans
    → is_named name (header_bytes front (get_or spans i d)) ≡ true → is_some old ≡ false
    → new ≡ Some value → value.now ≡ span_bytes front (get_or spans i d).value
    → option_to_list (option_copied old) ++ line_values name (map (header_bytes front) (drop i spans)) ≡ all
    → option_to_list (option_copied new) ++ line_values name (map (header_bytes front) (drop (i + 1) spans)) ≡ all
stated_more name front spans i d None new value all inside named none is reads before =
    rw (is, reads) (sym (values_of_more name front spans i d inside named) ∙ before)
stated_more name front spans i d (Some x) new value all inside named none is reads before = cc

-- the same where the line has another name
pub stated_kept : (name front : List ℕ) (spans : List HeaderSpan) (i : ℕ) (d : HeaderSpan)
    (old new : Option (Bor (List ℕ))) (all : List (List ℕ)) → i < length spans
    → is_named name (header_bytes front (get_or spans i d)) ≡ false → new ≡ old
    → option_to_list (option_copied old) ++ line_values name (map (header_bytes front) (drop i spans)) ≡ all
    → option_to_list (option_copied new) ++ line_values name (map (header_bytes front) (drop (i + 1) spans)) ≡ all
stated_kept name front spans i d old new all inside other is before =
    rw is (ap (λ vs. option_to_list (option_copied old) ++ vs) (sym (values_of_other name front spans i d inside other)) ∙ before)
