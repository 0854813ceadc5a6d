-- Edits that go in one after the other.
use Rattle.std.proofs.Common.{◌≡◌, ℕ, suc, ◌+◌, List, [], ◌∷◌, ◌++◌, length, refl, sym, ap, ◌∙◌, append_assoc, append-nil, arith, length-append, subst}
use Rattle.desk_model.specs.declared.edit.Edit.{Edit}
use Rattle.desk_sample.specs.Codes.{ticket}
use Rattle.desk_sample.specs.Sample.{each_to}
use Rattle.desk_sample.specs.Ticketed.{HasGainedAll, Making, ticketed}

length-ticketed : (n : ℕ) (makes : List Making) → length (ticketed n makes) ≡ length makes
length-ticketed n [] = refl
length-ticketed n (make ∷ makes) = ap (λ k. suc k) (length-ticketed (n + 1) makes)

-- tickets go on behind those before
pub ticketed-append : (n : ℕ) (some more : List Making) → ticketed n (some ++ more) ≡ ticketed n some ++ ticketed (n + length some) more
ticketed-append n [] more = ap (λ k. ticketed k more) (none_more n)
  where
    none_more : (n : ℕ) → n ≡ n + 0
    none_more n = omega arith
ticketed-append n (make ∷ some) more =
    ap (λ edits. make (ticket n) ∷ edits)
    (ticketed-append (n + 1) some more ∙ ap (λ k. ticketed (n + 1) some ++ ticketed k more) (later n (length some)))
  where
    later : (n k : ℕ) → (n + 1) + k ≡ n + suc k
    later n k = omega arith

-- nothing went in
pub gained_none : (edits : List Edit) → HasGainedAll [] edits edits
gained_none edits = sym (append-nil edits)

-- some went in, and then more
pub gained_more : (some more : List Making) (a b c : List Edit) → HasGainedAll some a b → HasGainedAll more b c → HasGainedAll (some ++ more) a c
gained_more some more a b c first second =
    second
    ∙ (λ i. first i ++ ticketed (number i) more)
    ∙ append_assoc a (ticketed (length a + 1) some) (ticketed (length a + 1 + length some) more)
    ∙ ap (λ edits. a ++ edits) (sym (ticketed-append (length a + 1) some more))
  where
    count : length b ≡ length a + length some
    count = ap (λ l. length l) first ∙ length-append a (ticketed (length a + 1) some) ∙ ap (λ n. length a + n) (length-ticketed (length a + 1) some)

    number : length b + 1 ≡ length a + 1 + length some
    number = omega (arith, count)

-- what there is for one number more
pub each_more : {X : Type 0} (n : ℕ) (of : ℕ → List X) → each_to (n + 1) of ≡ each_to n of ++ of (n + 1)
each_more n of = ap (λ k. each_to k of) (one n) ∙ ap (λ k. each_to n of ++ of k) (sym (one n))
  where
    one : (n : ℕ) → n + 1 ≡ suc n
    one n = omega arith

-- and its edits went in
pub gained_next : (n : ℕ) (of : ℕ → List Making) (a b c : List Edit) → HasGainedAll (each_to n of) a b → HasGainedAll (of (n + 1)) b c → HasGainedAll (each_to (n + 1) of) a c
gained_next n of a b c first second = subst (λ makes. HasGainedAll makes a c) (sym (each_more n of)) (gained_more (each_to n of) (of (n + 1)) a b c first second)
