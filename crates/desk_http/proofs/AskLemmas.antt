-- What a row asks once the bytes behind its word are taken.
use Rattle.std.proofs.Common.{◌≡◌, ◌==◌, ◌∙◌, ap, refl, arith, ℕ, false, Ok, Err, List, [], ◌∷◌, length, Option, Some, None, option_map}
use Rattle.std.specs.Prelude.{if◌then◌else◌}
use Rattle.std.proofs.lemmas.Bool.{ne_eqb}
use Rattle.std.specs.Option.{ok_or, option_map_or}
use Rattle.desk_http.specs.declared.http_fault.HttpFault.TheVariants.{NoRoute}
use Rattle.desk_http.specs.Query.{Pair}
use Rattle.desk_http.specs.Routes.{FromQuery, asked_by, ends, taken_from_path}

-- a code or a year was taken
pub on_found : {X : Type 0} (found : Option X) (x : X) (next : X → FromQuery) (pairs : List Pair) → Ok x ≡ ok_or found NoRoute
    → asked_by [] (next x) pairs ≡ option_map_or (λ left. asked_by [] left pairs) (option_map next found) (Err NoRoute)
on_found None x next pairs e = cc
on_found (Some y) x next pairs e = let same : x ≡ y = cc in ap (λ z. asked_by [] (next z) pairs) same

-- nothing is behind the word
pub on_end : (behind : List ℕ) (next : FromQuery) (pairs : List Pair) (u : Unit {0}) → Ok u ≡ (if length behind == 0 then Ok tt else Err NoRoute)
    → asked_by [] next pairs ≡ option_map_or (λ left. asked_by [] left pairs) (taken_from_path (ends next) behind) (Err NoRoute)
on_end [] next pairs u e = refl
on_end (b ∷ behind) next pairs u e =
    let some : (length (b ∷ behind) == 0) ≡ false = ne_eqb (length (b ∷ behind)) 0 (λ none. omega (arith, none)) in
    absurd (apart (e ∙ ap (λ is. if is then Ok tt else Err NoRoute) some))
  where
    apart : Ok u ≡ Err NoRoute → ⊥
    apart same = cc
