-- The places of an array are told by the text in them. These are proofs, and define nothing: they stand here since the law of
-- a `Model` may cite its crate's specs alone.
use Rattle.std.proofs.Common.{◌≡◌, ℕ, ◌-◌, List, ◌++◌, length, take, drop, replicate, arith, sym, ◌∙◌, ap, take-append-drop, length-take-le}
use Rattle.desk_text.specs.Word.{IsPadded}

-- how many places the text takes
pub length-text : (capacity len : ℕ) (places : List ℕ) → IsPadded capacity len places → length (take len places) ≡ len
length-text capacity len places h = length-take-le len places (omega (arith, h.size, h.fits))

-- the places hold the text and then zeros
pub padded-text : (capacity len : ℕ) (places : List ℕ) → IsPadded capacity len places →
    take len places ++ replicate (capacity - length (take len places)) 0 ≡ places
padded-text capacity len places h =
    let rest : replicate (capacity - length (take len places)) 0 ≡ drop len places =
    ap (λ n. replicate (capacity - n) 0) (length-text capacity len places h) ∙ sym h.padding in
    ap (λ r. take len places ++ r) rest ∙ take-append-drop len places
