-- Things that are done one after another: what comes of two pieces, and what goes through all of them.
use Rattle.std.proofs.Common.{◌≡◌, List, [], ◌∷◌, ◌++◌, subst, sym}
use Rattle.desk_front.specs.InOrder.{InOrder}

module _ {S X Y : Type 0} (Step : S → X → Y → S → Type 0) where
  pub in_order_onward : (old mid new : S) (xs more : List X) (ys others : List Y) → InOrder Step old xs ys mid → InOrder Step mid more others new
      → InOrder Step old (xs ++ more) (ys ++ others) new
  in_order_onward old mid new [] more [] others a b = subst (λ s. InOrder Step s more others new) a b
  in_order_onward old mid new [] more (y ∷ ys) others a b = absurd a
  in_order_onward old mid new (x ∷ xs) more [] others a b = absurd a
  in_order_onward old mid new (x ∷ xs) more (y ∷ ys) others a b = (a.0, a.1, in_order_onward a.0 mid new xs more ys others a.2 b)

  -- what relates the two states of each step, and goes on from one to the next, relates the first state to the last
  pub in_order_relates : (Relates : S → S → Type 0) → ((a : S) → Relates a a) → ((a b c : S) → Relates a b → Relates b c → Relates a c)
      → ((a b : S) (x : X) (y : Y) → Step a x y b → Relates a b) → (old new : S) (xs : List X) (ys : List Y) → InOrder Step old xs ys new → Relates old new
  in_order_relates Relates same onward each old new [] [] a = subst (Relates old) (sym a) (same old)
  in_order_relates Relates same onward each old new [] (y ∷ ys) a = absurd a
  in_order_relates Relates same onward each old new (x ∷ xs) [] a = absurd a
  in_order_relates Relates same onward each old new (x ∷ xs) (y ∷ ys) a =
      onward old a.0 new (each old a.0 x y a.1) (in_order_relates Relates same onward each a.0 new xs ys a.2)
