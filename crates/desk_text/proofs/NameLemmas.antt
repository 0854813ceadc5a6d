-- Texts of names.
use Rattle.std.proofs.Common.{◌≡◌, ℕ, Bool, true, false, not, ◌&&◌, List, refl, sym, ◌∙◌, ap, Ok, Err, length}
use Rattle.std.specs.Prelude.{◌==◌, nat_lt, if◌then◌else◌, IsUtf8}
use Rattle.std.proofs.lemmas.Str.{IsUtf8-from_is_utf8, is_utf8-from_IsUtf8}
use Rattle.std.specs.Char.{is_control}
use Rattle.std.specs.List.{list_any}
use Rattle.std.specs.Str.{chars, is_utf8}
use Rattle.desk_text.specs.Name.{is_name_text, name_of}
use Rattle.desk_text.specs.declared.name.NameFault.TheVariants.{Empty, TooLong, BadText}

-- of a text, only a control character can spoil a name
pub name_text-found : (bytes text : List ℕ) (control : Bool) → text ≡ bytes → IsUtf8 bytes → control ≡ list_any is_control (chars text) → is_name_text bytes ≡ not control
name_text-found bytes text control same utf8 found =
    let test : is_utf8 bytes ≡ true = is_utf8-from_IsUtf8 bytes utf8 in
    ap (λ b. b && not (list_any is_control (chars bytes))) test ∙ ap not (ap (λ t. list_any is_control (chars t)) (sym same) ∙ sym found)

-- other bytes are no name
pub name_text-none : (bytes : List ℕ) → ¬ (IsUtf8 bytes) → is_name_text bytes ≡ false
name_text-none bytes none = ap (λ b. b && not (list_any is_control (chars bytes))) (by (is_utf8 bytes) refl)
  where
    by : (b : Bool) → is_utf8 bytes ≡ b → b ≡ false
    by true utf8 = absurd (none (IsUtf8-from_is_utf8 bytes utf8))
    by false utf8 = refl

-- a name is read only where no fault is found
no_fault : (bytes name : List ℕ) (empty long text : Bool) → (if empty then Err Empty else (if long then Err TooLong else (if text then Ok bytes else Err BadText))) ≡ Ok name → (name ≡ bytes) × (text ≡ true)
no_fault bytes name true long text e = cc
no_fault bytes name false true text e = cc
no_fault bytes name false false false e = cc
no_fault bytes name false false true e = (cc, refl)

pub name_of-Ok : (bytes name : List ℕ) → name_of bytes ≡ Ok name → (name ≡ bytes) × (is_name_text bytes ≡ true)
unfolding name_of
name_of-Ok bytes name e = no_fault bytes name (length bytes == 0) (nat_lt 200 (length bytes)) (is_name_text bytes) e
