-- What is found going down from a part.
use Rattle.std.proofs.Common.{◌≡◌, ℕ, ◌*◌, ◌<◌, ◌≤◌, List, [], get_or, length, map, take, sum_by, Some, None, Option, is_some, sym, ap, subst, ◌∙◌, arith}
use Rattle.std.proofs.Math.Seq.{take-length}
use Rattle.std.proofs.lemmas.List.{get_or-map, get_or-take, length-map, length-take-le}
use Rattle.std.specs.Option.{IfSome, SomeIff, option_map_or}
use Rattle.desk_model.specs.declared.rows.material.MaterialRow.{MaterialRow}
use Rattle.desk_model.specs.Lists.{Lists, material_row}
use Rattle.desk_findings.specs.Mass.{mass, own_mass}
use Rattle.desk_findings.specs.Reaches.{lines_of}
use Rattle.desk_findings.proofs.Bill.{lines_of-none}
use Rattle.desk_findings.proofs.Children.{not_part}
use Rattle.desk_findings.proofs.Loads.{mass-step}
use Rattle.desk_history.specs.Sound.{Sound}
use Rattle.desk_history.proofs.SoundClauses.{bill_of, parents_of}
use Rattle.desk_scratch.specs.SubBill.{AreOf}

-- the amount at a place is that of the code there
pub amount_at : (amount : List ℕ → ℕ) (amounts : List ℕ) (codes : List (List ℕ)) (place d : ℕ) → AreOf amount amounts codes → place < length amounts → get_or amounts place d ≡ amount (get_or codes place [])
amount_at amount amounts codes place d are inside =
    let size : length amounts ≡ length (take (length amounts) codes) = ap length are ∙ length-map (take (length amounts) codes) amount in
    ap (λ list. get_or list place d) are
    ∙ get_or-map amount (take (length amounts) codes) place [] d (subst (λ n. place < n) size inside)
    ∙ ap amount (get_or-take (length amounts) codes place [] inside)

-- amounts of all codes
pub of_all : (amount : List ℕ → ℕ) (amounts : List ℕ) (codes : List (List ℕ)) → amounts ≡ map amount codes → AreOf amount amounts codes
of_all amount amounts codes are =
    are ∙ ap (map amount) (sym (take-length codes) ∙ ap (λ n. take n codes) (sym (ap length are ∙ length-map codes amount)))

-- amounts of the first codes
pub of_first : (amount : List ℕ → ℕ) (amounts : List ℕ) (codes : List (List ℕ)) (count : ℕ) → amounts ≡ map amount (take count codes) → count ≤ length codes → AreOf amount amounts codes
of_first amount amounts codes count are within =
    let size : length amounts ≡ count = ap length are ∙ length-map (take count codes) amount ∙ length-take-le count codes within in
    are ∙ ap (λ n. map amount (take n codes)) (sym size)

-- a value that is there is what it is said to be
pub known_some : (o : Option ℕ) (P : Type 0) (n m : ℕ) → SomeIff o P n → n ≡ m → IfSome o (λ x. x ≡ m)
known_some None P n m h e = tt
known_some (Some x) P n m h e = h.1 ∙ e

module _ (t : Lists) (s : Sound t) where
  mass_by : (code : List ℕ) (o : Option MaterialRow) → material_row t code ≡ o → own_mass t code ≡ option_map_or (λ material. material.mass) o 0
  mass_by code o e = ap (λ found. option_map_or (λ material. material.mass) found 0) e

  -- what a material weighs
  pub material_weighs : (code : List ℕ) (material : MaterialRow) → material_row t code ≡ Some material → mass t code ≡ material.mass
  material_weighs code material found =
      let absent = not_part t s.consistent.codes_apart code (ap is_some found) in
      mass-step t (bill_of t s.consistent) code
      ∙ rw (lines_of-none t (parents_of t s.consistent) code absent) (omega (arith, mass_by code (Some material) found))

  -- what weighs nothing by itself weighs what its lines come to
  pub lines_weigh : (code : List ℕ) → material_row t code ≡ None → mass t code ≡ sum_by (λ line. line.count * mass t line.child) (lines_of t.lines code)
  lines_weigh code none =
      mass-step t (bill_of t s.consistent) code ∙ omega (arith, mass_by code None none)
