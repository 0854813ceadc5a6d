-- Words whose first bytes differ stand in the order of these bytes, read as numbers.
use Rattle.std.proofs.Common.{◌≡◌, ℕ, zero, suc, ◌+◌, ◌*◌, ◌<◌, ◌≤◌, List, [], ◌∷◌, ◌++◌, length, take, replicate, arith, refl, sym, ◌∙◌, ap}
use Rattle.std.proofs.lemmas.Bool.Decides.{nat_tests}
use Rattle.std.proofs.lemmas.Cmp.{ranked}
use Rattle.std.specs.Cmp.Lexicographic.{slice_cmp}
use Rattle.std.specs.Int.{w128, from_be_bytes}
use Rattle.std.specs.Ordering.{nat_cmp, ordering_then}
use Rattle.std.specs.Str.{IsAscii}
use Rattle.std.specs.declared.cmp.Ordering.{Ordering}
use Rattle.std.specs.declared.cmp.Ordering.TheVariants.{Less, Equal, Greater}
use Rattle.desk_text.specs.Word.{first_bytes}

-- what stands before decides
before_decides : (n p q : ℕ) (a b : List ℕ) → IsAscii a → IsAscii b → p < q → first_bytes n p a < first_bytes n q b
before_decides zero p q a b in_a in_b less = less
before_decides (suc n) p q [] [] in_a in_b less = before_decides n (p * 256) (q * 256) [] [] in_a in_b (omega arith)
before_decides (suc n) p q [] (y ∷ b) in_a in_b less = before_decides n (p * 256) (q * 256 + y) [] b in_a (λ i. in_b (suc i)) (omega arith)
before_decides (suc n) p q (x ∷ a) [] in_a in_b less = before_decides n (p * 256 + x) (q * 256) a [] (λ i. in_a (suc i)) in_b (omega (arith, in_a 0))
before_decides (suc n) p q (x ∷ a) (y ∷ b) in_a in_b less =
    before_decides n (p * 256 + x) (q * 256 + y) a b (λ i. in_a (suc i)) (λ i. in_b (suc i)) (omega (arith, in_a 0))

-- nothing stands before a text that is behind at least as much
none_is_least : (n p q : ℕ) (b : List ℕ) → p ≤ q → first_bytes n p [] ≤ first_bytes n q b
none_is_least zero p q b upto = upto
none_is_least (suc n) p q [] upto = none_is_least n (p * 256) (q * 256) [] (omega arith)
none_is_least (suc n) p q (y ∷ b) upto = none_is_least n (p * 256) (q * 256 + y) b (omega arith)

less_by_nat : (m n : ℕ) → m < n → nat_cmp m n ≡ Less
less_by_nat m n less = grind (arith, nat_tests)

greater_by_nat : (m n : ℕ) → n < m → nat_cmp m n ≡ Greater
greater_by_nat m n more = grind (arith, nat_tests)

below : (m n : ℕ) → m ≤ n → (m ≡ n → ⊥) → m < n
below m n upto differ = grind (arith, nat_tests, differ)

-- where the numbers of the first bytes differ, they stand as the texts do
pub first_bytes-order : (n p : ℕ) (a b : List ℕ) → IsAscii a → IsAscii b → (first_bytes n p a ≡ first_bytes n p b → ⊥)
    → slice_cmp nat_cmp a b ≡ nat_cmp (first_bytes n p a) (first_bytes n p b)
first_bytes-order zero p a b in_a in_b differ = absurd (differ refl)
first_bytes-order (suc n) p [] [] in_a in_b differ = absurd (differ refl)
first_bytes-order (suc n) p [] (y ∷ b) in_a in_b differ =
    sym (less_by_nat _ _ (below _ _ (none_is_least n (p * 256) (p * 256 + y) b (omega arith)) differ))
first_bytes-order (suc n) p (x ∷ a) [] in_a in_b differ =
    sym (greater_by_nat _ _ (below _ _ (none_is_least n (p * 256) (p * 256 + x) a (omega arith)) (λ same. differ (sym same))))
first_bytes-order (suc n) p (x ∷ a) (y ∷ b) in_a in_b differ =
    by (nat_cmp x y) refl (first_bytes-order n (p * 256 + x) a b (λ i. in_a (suc i)) (λ i. in_b (suc i)))
  where
    by : (o : Ordering) → o ≡ nat_cmp x y
        → ((first_bytes n (p * 256 + x) a ≡ first_bytes n (p * 256 + x) b → ⊥) → slice_cmp nat_cmp a b ≡ nat_cmp (first_bytes n (p * 256 + x) a) (first_bytes n (p * 256 + x) b))
        → ordering_then o (slice_cmp nat_cmp a b) ≡ nat_cmp (first_bytes n (p * 256 + x) a) (first_bytes n (p * 256 + y) b)
    by Less is rest =
        let less : x < y = ranked x y Less is in
        sym (less_by_nat _ _ (before_decides n (p * 256 + x) (p * 256 + y) a b (λ i. in_a (suc i)) (λ i. in_b (suc i)) (omega arith)))
    by Greater is rest =
        let more : y < x = ranked x y Greater is in
        sym (greater_by_nat _ _ (before_decides n (p * 256 + y) (p * 256 + x) b a (λ i. in_b (suc i)) (λ i. in_a (suc i)) (omega arith)))
    by Equal is rest =
        let same : x ≡ y = ranked x y Equal is in
        let next : first_bytes n (p * 256 + x) b ≡ first_bytes n (p * 256 + y) b = ap (λ byte. first_bytes n (p * 256 + byte) b) same in
        rest (λ equal. differ (equal ∙ next)) ∙ ap (nat_cmp (first_bytes n (p * 256 + x) a)) next

-- zeros behind the text change nothing
first_bytes-zeros : (n p k : ℕ) → first_bytes n p (replicate k 0) ≡ first_bytes n p []
first_bytes-zeros zero p k = refl
first_bytes-zeros (suc n) p zero = refl
first_bytes-zeros (suc n) p (suc k) = ap (λ before. first_bytes n before (replicate k 0)) (omega arith) ∙ first_bytes-zeros n (p * 256) k

pub first_bytes-padded : (n p k : ℕ) (text : List ℕ) → first_bytes n p (text ++ replicate k 0) ≡ first_bytes n p text
first_bytes-padded n p k [] = first_bytes-zeros n p k
first_bytes-padded zero p k (x ∷ text) = refl
first_bytes-padded (suc n) p k (x ∷ text) = first_bytes-padded n (p * 256 + x) k text

-- nor does what stands behind the first bytes
pub first_bytes-take : (n p : ℕ) (text : List ℕ) → first_bytes n p (take n text) ≡ first_bytes n p text
first_bytes-take zero p text = refl
first_bytes-take (suc n) p [] = refl
first_bytes-take (suc n) p (x ∷ text) = first_bytes-take n (p * 256 + x) text

both_longer : (m n : ℕ) → nat_cmp m n ≡ nat_cmp (suc m) (suc n)
both_longer m n = grind (arith, nat_tests)

-- texts no longer than their first bytes that have the same number of them differ at most in zeros at the end of one
pub first_bytes-same : (n p : ℕ) (a b : List ℕ) → IsAscii a → IsAscii b → length a ≤ n → length b ≤ n → first_bytes n p a ≡ first_bytes n p b
    → slice_cmp nat_cmp a b ≡ nat_cmp (length a) (length b)
first_bytes-same n p [] [] in_a in_b short_a short_b same = refl
first_bytes-same n p [] (y ∷ b) in_a in_b short_a short_b same = sym (less_by_nat 0 (suc (length b)) (omega arith))
first_bytes-same n p (x ∷ a) [] in_a in_b short_a short_b same = sym (greater_by_nat (suc (length a)) 0 (omega arith))
first_bytes-same zero p (x ∷ a) (y ∷ b) in_a in_b short_a short_b same = absurd (omega (arith, short_a))
first_bytes-same (suc n) p (x ∷ a) (y ∷ b) in_a in_b short_a short_b same =
    by (nat_cmp x y) refl
    (λ equal. first_bytes-same n (p * 256 + x) a b tail_a tail_b (omega (arith, short_a)) (omega (arith, short_b)) (same ∙ ap (λ byte. first_bytes n (p * 256 + byte) b) (sym equal)))
  where
    tail_a : IsAscii a
    tail_a i = in_a (suc i)

    tail_b : IsAscii b
    tail_b i = in_b (suc i)

    by : (o : Ordering) → o ≡ nat_cmp x y → (x ≡ y → slice_cmp nat_cmp a b ≡ nat_cmp (length a) (length b)) → ordering_then o (slice_cmp nat_cmp a b) ≡ nat_cmp (suc (length a)) (suc (length b))
    by Less is rest =
        let less : x < y = ranked x y Less is in
        absurd (omega (arith, same, before_decides n (p * 256 + x) (p * 256 + y) a b tail_a tail_b (omega arith)))
    by Greater is rest =
        let more : y < x = ranked x y Greater is in
        absurd (omega (arith, same, before_decides n (p * 256 + y) (p * 256 + x) b a tail_b tail_a (omega arith)))
    by Equal is rest = rest (ranked x y Equal is) ∙ both_longer (length a) (length b)

-- sixteen bytes are the number that the library reads of them
pub first_bytes-be : (bytes : List ℕ) → length bytes ≡ 16 → from_be_bytes w128 bytes ≡ first_bytes 16 0 bytes
first_bytes-be [] long = absurd (omega arith)
first_bytes-be (a ∷ []) long = absurd (omega arith)
first_bytes-be (a ∷ b ∷ []) long = absurd (omega arith)
first_bytes-be (a ∷ b ∷ c ∷ []) long = absurd (omega arith)
first_bytes-be (a ∷ b ∷ c ∷ d ∷ []) long = absurd (omega arith)
first_bytes-be (a ∷ b ∷ c ∷ d ∷ e ∷ []) long = absurd (omega arith)
first_bytes-be (a ∷ b ∷ c ∷ d ∷ e ∷ f ∷ []) long = absurd (omega arith)
first_bytes-be (a ∷ b ∷ c ∷ d ∷ e ∷ f ∷ g ∷ []) long = absurd (omega arith)
first_bytes-be (a ∷ b ∷ c ∷ d ∷ e ∷ f ∷ g ∷ h ∷ []) long = absurd (omega arith)
first_bytes-be (a ∷ b ∷ c ∷ d ∷ e ∷ f ∷ g ∷ h ∷ i ∷ []) long = absurd (omega arith)
first_bytes-be (a ∷ b ∷ c ∷ d ∷ e ∷ f ∷ g ∷ h ∷ i ∷ j ∷ []) long = absurd (omega arith)
first_bytes-be (a ∷ b ∷ c ∷ d ∷ e ∷ f ∷ g ∷ h ∷ i ∷ j ∷ k ∷ []) long = absurd (omega arith)
first_bytes-be (a ∷ b ∷ c ∷ d ∷ e ∷ f ∷ g ∷ h ∷ i ∷ j ∷ k ∷ l ∷ []) long = absurd (omega arith)
first_bytes-be (a ∷ b ∷ c ∷ d ∷ e ∷ f ∷ g ∷ h ∷ i ∷ j ∷ k ∷ l ∷ m ∷ []) long = absurd (omega arith)
first_bytes-be (a ∷ b ∷ c ∷ d ∷ e ∷ f ∷ g ∷ h ∷ i ∷ j ∷ k ∷ l ∷ m ∷ n ∷ []) long = absurd (omega arith)
first_bytes-be (a ∷ b ∷ c ∷ d ∷ e ∷ f ∷ g ∷ h ∷ i ∷ j ∷ k ∷ l ∷ m ∷ n ∷ o ∷ []) long = absurd (omega arith)
first_bytes-be (a ∷ b ∷ c ∷ d ∷ e ∷ f ∷ g ∷ h ∷ i ∷ j ∷ k ∷ l ∷ m ∷ n ∷ o ∷ p ∷ []) long = omega arith
first_bytes-be (a ∷ b ∷ c ∷ d ∷ e ∷ f ∷ g ∷ h ∷ i ∷ j ∷ k ∷ l ∷ m ∷ n ∷ o ∷ p ∷ q ∷ rest) long = absurd (omega arith)
