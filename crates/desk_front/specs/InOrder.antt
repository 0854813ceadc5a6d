-- Things that are done one after another.
use Rattle.std.specs.Prelude.{◌≡◌, List, [], ◌∷◌}

-- each of the first list is done in order, and what stands at its place in the second comes of it: `Step` says how a state, one thing and
-- what comes of it go with the state that is left
abbrev pub InOrder : {S X Y : Type 0} → (S → X → Y → S → Type 0) → S → List X → List Y → S → Type 0
InOrder Step old [] [] new = new ≡ old
InOrder Step old [] (y ∷ ys) new = ⊥
InOrder Step old (x ∷ xs) [] new = ⊥
InOrder {S} Step old (x ∷ xs) (y ∷ ys) new = (next : S) × Step old x y next × InOrder Step next xs ys new

-- the two lists are as long, and each of the first goes so with what stands at its place in the second
abbrev pub Each : {X Y : Type 0} → (X → Y → Type 0) → List X → List Y → Type 0
Each Goes xs ys = InOrder {S = Unit {0}} (λ before x y next. Goes x y) tt xs ys tt
