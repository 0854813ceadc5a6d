-- Two bills of which the second has no more lines: nothing weighs more there. And what no line leads to nobody reaches.
use Rattle.std.proofs.Common.{◌≡◌, ℕ, zero, suc, ◌*◌, ◌≤◌, true, false, ◌||◌, List, sum_by, refl, arith, mul-le-mul_left}
use Rattle.std.specs.List.{AllByRecursion}
use Rattle.desk_text.specs.Code.{same_code}
use Rattle.desk_model.specs.declared.rows.line.LineRow.{LineRow}
use Rattle.desk_model.specs.Lists.{Lists}
use Rattle.desk_model.proofs.Elements.{any_none, each_filter, each_map, sum_le}
use Rattle.desk_findings.specs.Bill.{IsBill}
use Rattle.desk_findings.specs.Mass.{mass, own_mass}
use Rattle.desk_findings.specs.Reaches.{lines_of, reaches_within}
use Rattle.desk_findings.proofs.Bill.{bill_induction, has_parents}
use Rattle.desk_findings.proofs.Loads.{mass-step}

pub mass-lighter : (t u : Lists) → IsBill t → IsBill u → ((code : List ℕ) → own_mass u code ≡ own_mass t code) → ((f : LineRow → ℕ) (code : List ℕ) → sum_by f (lines_of u.lines code) ≤ sum_by f (lines_of t.lines code)) → (code : List ℕ) → mass u code ≤ mass t code
mass-lighter t u s r own fewer =
    bill_induction u (has_parents u r.parents) r.acyclic (λ code. mass u code ≤ mass t code)
    (λ code below.
    let lighter =
    sum_le (λ line. line.count * mass u line.child) (λ line. line.count * mass t line.child) (lines_of u.lines code)
    (each_map (λ line. mass u line.child ≤ mass t line.child) (λ line. line.count * mass u line.child ≤ line.count * mass t line.child) (λ line h. mul-le-mul_left line.count h) (lines_of u.lines code) below) in
    omega (arith, mass-step u r code, mass-step t s code, own code, lighter, fewer (λ line. line.count * mass t line.child) code))

pub unreached : (lines : List LineRow) (target : List ℕ) → AllByRecursion (λ line. same_code line.child target ≡ false) lines → (k : ℕ) (part : List ℕ) → reaches_within lines k part target ≡ false
unfolding reaches_within
unreached lines target none zero part = refl
unreached lines target none (suc k) part =
    any_none (λ line. same_code line.child target || reaches_within lines k line.child target) (lines_of lines part)
    (each_map (λ line. (same_code line.child target ≡ false) × (same_code line.parent part ≡ true)) (λ line. (same_code line.child target || reaches_within lines k line.child target) ≡ false)
    (λ line h. rw h.0 (unreached lines target none k line.child)) (lines_of lines part)
    (each_filter (λ line. same_code line.child target ≡ false) (λ line. same_code line.parent part) lines none))
