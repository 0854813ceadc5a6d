-- A part has no breaches exactly where it reaches none.
use Rattle.std.proofs.Common.{◌≡◌, ℕ, zero, suc, Bool, true, false, not, ◌==◌, List, refl, arith}
use Rattle.std.proofs.lemmas.Bool.{ne_eqb}
use Rattle.desk_text.specs.Day.{Date}
use Rattle.desk_law.specs.declared.kind.Kind.{Kind}
use Rattle.desk_model.specs.Lists.{Lists}
use Rattle.desk_scratch.specs.Judgement.{breach_count, reaches_breach}
use Rattle.desk_scratch.proofs.Breaches.{none-counted, none-reached}

same : (n : ℕ) (b : Bool) → (n ≡ 0 → b ≡ false) → (b ≡ false → n ≡ 0) → (n == 0) ≡ not b
same zero b h k = rw (h refl) refl
same (suc n) true h k = ne_eqb (suc n) 0 (λ e. absurd (omega (arith, e)))
same (suc n) false h k = absurd (omega (arith, k refl))

pub none_counted : (t : Lists) (kind : Kind) (day : Date) (part : List ℕ) → (breach_count t kind day part == 0) ≡ not (reaches_breach t kind day part)
none_counted t kind day part =
    let counted = none-counted t kind day part in
    let reached = none-reached t kind day part in
    same (breach_count t kind day part) (reaches_breach t kind day part) (λ e. reached.1 (counted.0 e)) (λ e. counted.1 (reached.0 e))
