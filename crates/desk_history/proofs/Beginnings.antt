-- Beginnings of histories, and the numbers that name them.
use Rattle.std.proofs.Common.{◌≡◌, ℕ, zero, suc, ◌+◌, ◌-◌, ◌≤◌, List, [], ◌∷◌, ◌++◌, length, take, refl, sym, ap, ◌∙◌, append-nil, append_assoc, length-append, arith}
use Rattle.desk_model.specs.Lists.{number_at}
use Rattle.desk_history.specs.History.{Begins, History, IsHistory, number_of, up_to}
use Rattle.desk_history.proofs.Histories.{number_of-up_to, tickets-tables_after, up_to-IsHistory, up_to-begins, up_to-only}

pub begins_itself : (history : History) → Begins history history
begins_itself history = record { opening = refl; rest = []; edits = sym (append-nil history.edits) }

pub begins_onward : (a b c : History) → Begins a b → Begins b c → Begins a c
begins_onward a b c x y = record {
  opening = x.opening ∙ y.opening;
  rest = x.rest ++ y.rest;
  edits = y.edits ∙ ap (λ l. l ++ y.rest) x.edits ∙ append_assoc a.edits x.rest y.rest;
}

-- a beginning's number is no greater
pub begins_number : (part history : History) → IsHistory part → IsHistory history → Begins part history → number_of part ≤ number_of history
begins_number part history a b x =
    let opened = ap number_at x.opening in
    let parts = ap length x.edits ∙ length-append part.edits x.rest in
    omega (arith, tickets-tables_after part.opening part.edits a.accepted, tickets-tables_after history.opening history.edits b.accepted, opened, parts)

pub opening_number : (history : History) → IsHistory history → number_at history.opening ≤ number_of history
opening_number history h = omega (arith, tickets-tables_after history.opening history.edits h.accepted)

-- two histories of the same opening and edits
same_history : (a b : History) → a.opening ≡ b.opening → a.edits ≡ b.edits → a ≡ b
same_history a b x y = λ i. record { opening = x i; edits = y i }

-- the number of all of a history names all of it
pub up_to_all : (history : History) → IsHistory history → up_to history (number_of history) ≡ history
up_to_all history h = sym (same_history history (up_to history (number_of history)) refl (up_to-only history history h (begins_itself history)))

take_le : {X : Type 0} (m n : ℕ) (xs : List X) → m ≤ n → (rest : List X) × (take n xs ≡ take m xs ++ rest)
take_le zero n xs h = (take n xs, refl)
take_le (suc m) zero xs h = absurd (omega (arith, h))
take_le (suc m) (suc n) [] h = ([], refl)
take_le (suc m) (suc n) (x ∷ xs) h = let others = take_le m n xs (omega (arith, h)) in (others.0, ap (λ l. x ∷ l) others.1)

-- of two numbers the smaller names a beginning of what the other names
pub up_to_up_to : (history : History) (m n : ℕ) → m ≤ n → Begins (up_to history m) (up_to history n)
up_to_up_to history m n h =
    let x = take_le (m - number_at history.opening) (n - number_at history.opening) history.edits (omega (arith, h)) in
    record { opening = refl; rest = x.0; edits = x.1 }

-- a number of a history names the same beginning of every longer one
pub up_to_longer : (part history : History) (n : ℕ) → IsHistory part → IsHistory history → Begins part history → number_at part.opening ≤ n → n ≤ number_of part
    → up_to history n ≡ up_to part n
up_to_longer part history n a b x low high =
    let piece = up_to part n in
    let is : IsHistory piece = up_to-IsHistory part n a in
    let begins : Begins piece history = begins_onward piece part history (up_to-begins part n) x in
    let number : number_of piece ≡ n = number_of-up_to part n a low high in
    sym (same_history piece (up_to history n) x.opening (up_to-only history piece is begins ∙ ap (λ k. (up_to history k).edits) number))
