-- The damage of records as the fault of an opening.
use Rattle.std.proofs.Common.{◌≡◌, ℕ, List, inl, inr, subst}
use Rattle.desk_edge.specs.declared.key.Key.{Key}
use Rattle.desk_edge.specs.declared.record.Record.{Record}
use Rattle.desk_records.specs.Damage.{HasNoRowAt, HasOtherVersionAt, IsDamage, IsUnsoundAt}
use Rattle.desk_records.specs.Gathered.{NamesDamage}
use Rattle.desk_records.specs.declared.gather_fault.GatherFault.{GatherFault}
use Rattle.desk_records.specs.declared.gather_fault.GatherFault.TheVariants as gather_fault
use Rattle.desk_clerk.specs.Faults.{gathered_as_open}
use Rattle.desk_clerk.specs.declared.open_fault.OpenFault.TheVariants as open_fault

-- what is known at the key is known at the kind and the code that are told
told_at : (Holds : ℕ → List ℕ → Type 0) (key : Key) (kind : ℕ) (code : List ℕ) → open_fault.Damaged key.kind key.code ≡ open_fault.Damaged kind code → Holds key.kind key.code → Holds kind code
told_at Holds key kind code e holds = subst (λ k. Holds k code) (same_kind e) (subst (λ c. Holds key.kind c) (same_code e) holds)
  where
    same_kind : open_fault.Damaged key.kind key.code ≡ open_fault.Damaged kind code → key.kind ≡ kind
    same_kind e = cc

    same_code : open_fault.Damaged key.kind key.code ≡ open_fault.Damaged kind code → key.code ≡ code
    same_code e = cc

not_memory : (kind : ℕ) (code : List ℕ) {G : Type 0} → open_fault.OutOfMemory ≡ open_fault.Damaged kind code → G
not_memory kind code e = cc

-- the key that is told is that of the damage
pub told_damage : (fault : GatherFault) (kind : ℕ) (code : List ℕ) (records : List Record) → gathered_as_open fault ≡ open_fault.Damaged kind code → NamesDamage records fault → IsDamage records kind code
unfolding NamesDamage
told_damage (gather_fault.OtherVersion key) kind code records e named = inl (told_at (HasOtherVersionAt records) key kind code e named)
told_damage (gather_fault.NoRow key) kind code records e named = inr (inl (told_at (HasNoRowAt records) key kind code e named))
told_damage (gather_fault.Unsound key) kind code records e named = inr (inr (told_at (IsUnsoundAt records) key kind code e named))
told_damage gather_fault.OutOfMemory kind code records e named = not_memory kind code e

-- and memory wasn't wanting
pub told_not_memory : (fault : GatherFault) (kind : ℕ) (code : List ℕ) → gathered_as_open fault ≡ open_fault.Damaged kind code → fault ≡ gather_fault.OutOfMemory → ⊥
told_not_memory fault kind code e wanting = not_memory kind code (subst (λ f. gathered_as_open f ≡ open_fault.Damaged kind code) wanting e)
