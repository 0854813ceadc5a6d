-- The masses stay those of the codes.
use Rattle.std.proofs.Common.{◌≡◌, ◌∙◌, ℕ, [], ◌∷◌, ◌++◌, List, ap, map, sym}
use Rattle.std.proofs.lemmas.List.{map-append}
use Rattle.desk_findings.specs.Mass.{mass}
use Rattle.desk_scratch.specs.SubBill.{Found}
use Rattle.desk_scratch.proofs.sub_bill.SubBill.put.Goals as goal

pushed : {X : Type 0} (f : X → ℕ) (xs new : List X) (x : X) (n : ℕ) (old masses : List ℕ) → old ≡ map f xs → n ≡ f x → new ≡ xs ++ x ∷ [] → masses ≡ old ++ n ∷ [] → masses ≡ map f new
pushed f xs new x n old masses was is more put =
    put ∙ ap (λ l. l ++ n ∷ []) was ∙ ap (λ m. map f xs ++ m ∷ []) is ∙ sym (map-append f xs (x ∷ [])) ∙ ap (map f) (sym more)

pub invariant_of-self-then-node-len : goal.invariant_of-self-then-node-len
invariant_of-self-then-node-len c =
    let was = c.in_ok-reserve.ensures.items ∙ c.self.invariant.1 in
    let is = c.requires ∙ ap (λ (found : Found). mass found.lists c.args.code) (sym c.self.view_is) in
    (c.self.invariant.0, pushed (mass c.self.inside.tables.now.lists) c.self.inside.codes.items _ c.args.code c.args.weight _ _ was is c.in_ok-push.ensures.items c.push_reserved.ensures.items)

pub invariant_of-self-else-node-len : goal.invariant_of-self-else-node-len
invariant_of-self-else-node-len c =
    let was = c.in_ok-reserve.ensures.items ∙ c.self.invariant.1 in
    let is = c.requires ∙ ap (λ (found : Found). mass found.lists c.args.code) (sym c.self.view_is) in
    (c.self.invariant.0, pushed (mass c.self.inside.tables.now.lists) c.self.inside.codes.items _ c.args.code c.args.weight _ _ was is c.in_ok-push.ensures.items c.push_reserved.ensures.items)
