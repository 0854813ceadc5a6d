-- Two facts on what a call gives, and results batch by batch.
use Rattle.std.proofs.Common.{◌≡◌, List, ◌++◌, Result, Ok, Err, IfOk, map, sym, ap, ◌∙◌}
use Rattle.std.proofs.lemmas.List.{append_assoc, map-append}

pub both_ok : {T E : Type 0} (r : Result T E) (P Q : T → Type 0) → IfOk r P → IfOk r Q → IfOk r (λ x. P x × Q x)
both_ok (Ok x) P Q p q = (p, q)
both_ok (Err e) P Q p q = tt

-- one batch more of what a function gives
pub one_batch : {X Y : Type 0} (f : X → Y) (rest front back : List X) (before more after whole : List Y) → rest ≡ front ++ back → after ≡ before ++ more → more ≡ map f front → before ++ map f rest ≡ whole → after ++ map f back ≡ whole
one_batch f rest front back before more after whole parts so is began =
    ap (λ l. l ++ map f back) (so ∙ ap (λ l. before ++ l) is)
    ∙ append_assoc before (map f front) (map f back)
    ∙ ap (λ l. before ++ l) (sym (map-append f front back) ∙ ap (map f) (sym parts))
    ∙ began
