-- What is said in a turn, and in a conversation, whoever takes the turns.
use Rattle.std.proofs.Common.{◌≡◌, ◌⊎◌, ℕ, Bool, IfErr, OnOk, List, [], ◌∷◌, ◌++◌, Result, Ok, Err, refl, sym, ap, ◌∙◌, subst, inl, inr}
use Rattle.std.specs.List.{concat}
use Rattle.desk_http.specs.Reply.{Reply, bytes_with, fixed, fixed_reply}
use Rattle.desk_http.specs.Rest.{Message}
use Rattle.desk_http.specs.declared.fixed.Fixed.{Fixed}
use Rattle.desk_http.specs.declared.fixed.Fixed.TheVariants as refusal
use Rattle.desk_front.specs.Asked.{Asked, nothing}
use Rattle.desk_front.specs.InOrder.{InOrder}
use Rattle.desk_front.specs.Replies.{all_bytes, reply_bytes}
use Rattle.desk_front.specs.Service.{Replies}
use Rattle.desk_front.specs.Told.{Conversation, Says, Told, Turns, replies_of}
use Rattle.desk_front.proofs.InOrder.{in_order_relates}

pub fixed_bytes : (refused : Fixed) (close : Bool) → fixed_reply refused close ≡ bytes_with close (fixed refused)
unfolding fixed_reply
fixed_bytes refused close = refl

pub if_err_weaker : {T E : Type 0} (P Q : E → Type 0) (r : Result T E) → ((e : E) → P e → Q e) → IfErr r P → IfErr r Q
if_err_weaker P Q (Ok value) weaker h = tt
if_err_weaker P Q (Err e) weaker h = weaker e h

pub on_ok_weaker : {T E : Type 0} {P Q : Type 0} (r : Result T E) → (P → Q) → OnOk r P → OnOk r Q
on_ok_weaker (Ok value) weaker h = weaker h
on_ok_weaker (Err e) weaker h = tt

-- ---- turns in which nothing happens: what asks nothing gets its reply, and whatever is asked may lack memory

module _ {S A : Type 0} (Turn : S → Asked → Reply → List A → S → Type 0) (refuses : (s : S) (reply : Reply) → Turn s (nothing reply) reply [] s)
    (lacks : (s : S) (asked : Asked) → Turn s asked (fixed refusal.Memory) [] s) where
  pub says_memory : (old : S) (asked : Asked) (close : Bool) (refused : Fixed) → refused ≡ refusal.Memory → Says Turn old asked close (fixed_reply refused close) old
  says_memory old asked close refused e =
      subst (λ r. Says Turn old asked close (fixed_reply r close) old) (sym e)
      (fixed refusal.Memory, [], lacks old asked, fixed_bytes refusal.Memory close)

  pub says_memory_of : (old : S) (asked : Asked) (close : Bool) (r : Result (Unit {0}) Fixed) → IfErr r (λ told. told ≡ refusal.Memory)
      → IfErr r (λ told. Says Turn old asked close (fixed_reply told close) old)
  says_memory_of old asked close (Ok done) h = tt
  says_memory_of old asked close (Err told) h = says_memory old asked close told h

  -- the reply is appended, where it is what is asked for
  pub says_told : (Q : Type 0) (old : S) (asked : Asked) (close : Bool) (told : Reply) (before after : List ℕ) (r : Result (Unit {0}) Fixed) → (Q → asked ≡ nothing told)
      → OnOk r (Q × (after ≡ before ++ bytes_with close told)) → OnOk r ((said : List ℕ) × (after ≡ before ++ said) × Says Turn old asked close said old)
  says_told Q old asked close told before after (Ok done) same h =
      (bytes_with close told, h.1, subst (λ a. Says Turn old a close (bytes_with close told) old) (sym (same h.0)) (told, [], refuses old told, refl))
  says_told Q old asked close told before after (Err fixed) same h = tt

  pub says_refusal : (Q : Type 0) (old : S) (asked : Asked) (close : Bool) (reply : Reply) (r : Result (Unit {0}) Fixed) → (Q → asked ≡ nothing reply)
      → IfErr r (λ told. (told ≡ refusal.Memory) ⊎ (Q × (reply ≡ fixed told))) → IfErr r (λ told. Says Turn old asked close (fixed_reply told close) old)
  says_refusal Q old asked close reply (Ok done) same h = tt
  says_refusal Q old asked close reply (Err told) same (inl h) = says_memory old asked close told h
  says_refusal Q old asked close reply (Err told) same (inr h) =
      subst (λ a. Says Turn old a close (fixed_reply told close) old) (ap nothing (sym h.1) ∙ sym (same h.0))
      (fixed told, [], refuses old (fixed told), fixed_bytes told close)

-- ---- what answers by turns converses

module _ {A S T : Type 0} (R : A → Message → List ℕ → A → Type 0) (state : A → S) (Turn : S → Asked → Reply → List T → S → Type 0) (last_seen : S → ℕ)
    (turns : (a b : A) (m : Message) (said : List ℕ) → R a m said b → Turns Turn (state a) m said (state b)) where
  conversation_of_each : (old new : A) (ms : List Message) (each : List (List ℕ)) → InOrder R old ms each new
      → (told : List (Told T)) × Conversation Turn last_seen (state old) ms told (state new) × (concat each ≡ all_bytes ms (replies_of told))
  conversation_of_each old new [] [] x = ([], ap state x, refl)
  conversation_of_each old new [] (said ∷ each) x = absurd x
  conversation_of_each old new (m ∷ ms) [] x = absurd x
  conversation_of_each old new (m ∷ ms) (said ∷ each) x =
      let first = turns old x.0 m said x.1 in
      let others = conversation_of_each x.0 new ms each x.2 in (
        record { reply = first.0; last_seen = last_seen (state x.0); added = first.1 } ∷ others.0,
        (state x.0, (first.2, refl), others.1),
        ap (λ l. l ++ concat each) first.3 ∙ ap (λ l. reply_bytes m first.0 ++ l) others.2,
      )

  pub conversation_of : (old new : A) (ms : List Message) (said : List ℕ) → Replies R old ms said new
      → (told : List (Told T)) × Conversation Turn last_seen (state old) ms told (state new) × (said ≡ all_bytes ms (replies_of told))
  conversation_of old new ms said x = let y = conversation_of_each old new ms x.0 x.1 in (y.0, y.1, x.2 ∙ y.2)

-- what each turn keeps is kept
pub kept_throughout : {A X : Type 0} (R : A → Message → List ℕ → A → Type 0) (name : A → X) → ((a b : A) (m : Message) (said : List ℕ) → R a m said b → name b ≡ name a)
    → (old new : A) (ms : List Message) (said : List ℕ) → Replies R old ms said new → name new ≡ name old
kept_throughout R name keeps old new ms said x = in_order_relates R (λ a b. name b ≡ name a) (λ a. refl) (λ a b c f g. g ∙ f) keeps old new ms x.0 x.1

-- what each turn leads back from the end to the start is led back through all
pub told_throughout : {A : Type 0} (R : A → Message → List ℕ → A → Type 0) (P : A → Type 0) → ((a b : A) (m : Message) (said : List ℕ) → R a m said b → P b → P a)
    → (old new : A) (ms : List Message) (said : List ℕ) → Replies R old ms said new → P new → P old
told_throughout R P back old new ms said x = in_order_relates R (λ a b. P b → P a) (λ a p. p) (λ a b c f g p. f (g p)) back old new ms x.0 x.1
