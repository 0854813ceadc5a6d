-- What a keeper over a database holds.
use Rattle.std.specs.Prelude.{ℕ, Bool, refl}
use Rattle.std.specs.Coded.{Coded, code_by, coded×, coded_ℕ, coded_bool}
use Rattle.sqlite.specs.Held.{Held, held_code}

-- a keeper, as its calls see it
pub record Keeping (S : Type 0) : Type 0 where
  -- the connection to the database
  pub connection : Held S
  -- whether it was made ready
  pub is_ready : Bool
  -- whether the database was found to be a store
  pub is_ours : Bool
  -- how many faults were counted, up to the last value of the count
  pub faults : ℕ

-- a keeper can be told by the code of its connection, so that a keeper may stand within another value
abbrev pub keeping_code : {S : Type 0} → Coded S → Coded (Keeping S)
keeping_code {S} store =
    code_by (Held S × (Bool × (Bool × ℕ)))
    (coded× (held_code store) (coded× coded_bool (coded× coded_bool coded_ℕ)))
    (λ k. (k.connection, (k.is_ready, (k.is_ours, k.faults))))
    (λ p. record { connection = p.0; is_ready = p.1.0; is_ours = p.1.1.0; faults = p.1.1.1 }) (λ _. refl)
