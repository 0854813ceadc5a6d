-- Edits in form are told by the codes of their tickets and their fields.
use Rattle.std.proofs.Common.{◌≡◌, ℕ, ◌<◌, ◌≤◌, ◌^◌, Bool, true, ◌&&◌, is_ok, List, [], ◌∷◌, ◌++◌, length, Option, Some, None, arith, refl, sym, ap, ◌∙◌, subst, append_assoc}
use Rattle.std.specs.Prelude.{codes, decimal, nat_le, nat_lt}
use Rattle.std.specs.List.{AllByRecursion, flat_map}
use Rattle.std.proofs.lemmas.Bool.{and_parts, false≢true, leb-true, ltb-true}
use Rattle.std.proofs.lemmas.Fmt.{decimal_is_IsNumeral}
use Rattle.std.proofs.lemmas.List.Elements.{All-nil}
use Rattle.desk_text.specs.Cas.{cas_of}
use Rattle.desk_text.specs.Code.{code_of}
use Rattle.desk_text.specs.Day.{date_text, is_day}
use Rattle.desk_text.proofs.FieldLemmas.{IsField}
use Rattle.desk_text.proofs.Fields.{AreFields-append, AreTold, IsTold, cas_reader, code_reader, counted_told, day_told, exemption_number_reader, name_reader, number_told}
use Rattle.desk_law.specs.declared.claim.Claim.{Claim}
use Rattle.desk_law.specs.Annex.{annex_number}
use Rattle.desk_law.specs.KindSet.{kinds_text}
use Rattle.desk_law.specs.Rule.{rule_code}
use Rattle.desk_law.proofs.Told.{annex_told, kinds_told, rule_told}
use Rattle.desk_model.specs.declared.limits.TheConstants.{CLAIM_LIMIT, CONTENT_LIMIT, DECLARED_LIMIT, MASS_LIMIT}
use Rattle.desk_model.specs.declared.material_decl.MaterialDecl.{MaterialDecl}
use Rattle.desk_model.specs.declared.part_sort.PartSort.{PartSort}
use Rattle.desk_model.specs.declared.part_sort.PartSort.TheVariants.{Article, Assembly}
use Rattle.desk_model.specs.declared.rows.exemption.ExemptionRow.{ExemptionRow}
use Rattle.desk_model.specs.declared.substance_mass.SubstanceMass.{SubstanceMass}
use Rattle.desk_model.specs.Declaration.{Declared, is_declaration_in_form, is_declaration_number, is_material_in_form}
use Rattle.desk_model.specs.EditText.{claim_fields, declaration_fields, exemption_fields, material_fields, optional_field, optional_number, sort_word, substance_fields}
use Rattle.desk_model.specs.Forms.{are_terms, is_exemption_row, is_optional_cas}
use Rattle.desk_model.specs.Terms.{are_kinds, are_terms_in_range, is_ppm}
use Rattle.desk_model.specs.Values.{is_code, is_exemption_number, is_name}
use Rattle.desk_model.proofs.Content.{claim_parts, content_parts, is_light, substance_parts}
use Rattle.desk_model.proofs.Declaring.{is_good, parts}
use Rattle.desk_model.proofs.Elements.{each_from_all}
use Rattle.desk_model.proofs.InForm.{form_parts, material_forms}

-- fields of two lists that are one
pub two_inside : {A : Type 0} (a b c d : A) (r s : List A) → a ∷ b ∷ r ≡ c ∷ d ∷ s → (a ≡ c) × (b ≡ d) × (r ≡ s)
two_inside a b c d r s e = (cc, cc, cc)

pub three_inside : {A : Type 0} (a b c d e f : A) (r s : List A) → a ∷ b ∷ c ∷ r ≡ d ∷ e ∷ f ∷ s → (a ≡ d) × (b ≡ e) × (c ≡ f) × (r ≡ s)
three_inside a b c d e f r s h = (cc, cc, cc, cc)

five_inside : {A : Type 0} (a b c d e f g h i j : A) (r s : List A) → a ∷ b ∷ c ∷ d ∷ e ∷ r ≡ f ∷ g ∷ h ∷ i ∷ j ∷ s → (a ≡ f) × (b ≡ g) × (c ≡ h) × (d ≡ i) × (e ≡ j) × (r ≡ s)
five_inside a b c d e f g h i j r s same = (cc, cc, cc, cc, cc, cc)

-- facts of tests that are joined
pub three_parts : (a b c : Bool) → (a && b && c) ≡ true → (a ≡ true) × (b ≡ true) × (c ≡ true)
three_parts a b c h = let outer = and_parts (a && b) c h in let inner = and_parts a b outer.0 in (inner.0, inner.1, outer.1)

pub four_parts : (a b c d : Bool) → (a && b && c && d) ≡ true → (a ≡ true) × (b ≡ true) × (c ≡ true) × (d ≡ true)
four_parts a b c d h = let outer = and_parts (a && b && c) d h in let inner = three_parts a b c outer.0 in (inner.0, inner.1, inner.2, outer.1)

-- an absent CAS number is told by an empty field
no_empty_cas : (cas : List ℕ) → is_ok (cas_of cas) ≡ true → [] ≡ cas → ⊥
unfolding cas_of
no_empty_cas cas good e = false≢true (subst (λ c. is_ok (cas_of c) ≡ true) (sym e) good)

pub optional_cas_told : IsTold optional_field (λ cas. is_optional_cas cas ≡ true)
optional_cas_told = record { apart = apart; field = field }
  where
    apart : (a b : Option (List ℕ)) → is_optional_cas a ≡ true → is_optional_cas b ≡ true → optional_field a ≡ optional_field b → a ≡ b
    apart None None good other e = refl
    apart None (Some b) good other e = absurd (no_empty_cas b other e)
    apart (Some a) None good other e = absurd (no_empty_cas a good (sym e))
    apart (Some a) (Some b) good other e = ap (λ x. Some x) e

    field : (a : Option (List ℕ)) → is_optional_cas a ≡ true → IsField (optional_field a)
    field None good = All-nil (λ b. 32 ≤ b)
    field (Some a) good = cas_reader.field a good

-- and so is an absent bound
no_empty_number : (n : ℕ) → n < 2 ^ 64 → [] ≡ decimal n → ⊥
no_empty_number n small e = let some : 0 < length (decimal n) = (decimal_is_IsNumeral n small).0.0 in omega (arith, ap length e)

ppm_told : IsTold optional_number (λ ppm. is_ppm ppm ≡ true)
ppm_told = record { apart = apart; field = field }
  where
    small : (n : ℕ) → is_ppm (Some n) ≡ true → n < 2 ^ 64
    small n good = omega (arith, leb-true n 1000000 good)

    apart : (a b : Option ℕ) → is_ppm a ≡ true → is_ppm b ≡ true → optional_number a ≡ optional_number b → a ≡ b
    apart None None good other e = refl
    apart None (Some b) good other e = absurd (no_empty_number b (small b other) e)
    apart (Some a) None good other e = absurd (no_empty_number a (small a good) (sym e))
    apart (Some a) (Some b) good other e = ap (λ x. Some x) (number_told.apart a b (small a good) (small b other) e)

    field : (a : Option ℕ) → is_ppm a ≡ true → IsField (optional_number a)
    field None good = All-nil (λ b. 32 ≤ b)
    field (Some a) good = number_told.field a (small a good)

-- sorts of parts
pub sort_told : IsTold sort_word (λ _. Unit {0})
unfolding code_of
sort_told = record { apart = apart; field = field }
  where
    apart : (a b : PartSort) → Unit {0} → Unit {0} → sort_word a ≡ sort_word b → a ≡ b
    apart Article Article _ _ e = refl
    apart Article Assembly _ _ e = absurd (omega (arith, ap length e))
    apart Assembly Article _ _ e = absurd (omega (arith, ap length e))
    apart Assembly Assembly _ _ e = refl

    field : (a : PartSort) → Unit {0} → IsField (sort_word a)
    field Article _ = code_reader.field (codes "article") refl
    field Assembly _ = code_reader.field (codes "assembly") refl

-- what a material holds
IsHeld : SubstanceMass → Type 0
IsHeld one = (is_code one.substance ≡ true) × (one.mass < 2 ^ 64)

held_told : AreTold (λ one. one.substance ∷ decimal one.mass ∷ []) IsHeld
unfolding IsHeld
held_told = record {
  apart = λ a b rest more first second e.
      let inside = two_inside a.substance (decimal a.mass) b.substance (decimal b.mass) rest more e in
      let mass = number_told.apart a.mass b.mass first.1 second.1 inside.1 in
      (λ i. record { substance = inside.0 i; mass = mass i }, inside.2);
  are = λ a good. (code_reader.field a.substance good.0, (number_told.field a.mass good.1, tt));
}

IsClaim : Claim → Type 0
IsClaim claim = is_exemption_number claim.number ≡ true

claim_told : AreTold (λ claim. rule_code claim.rule ∷ claim.number ∷ []) IsClaim
unfolding IsClaim
claim_told = record {
  apart = λ a b rest more first second e.
      let inside = two_inside (rule_code a.rule) a.number (rule_code b.rule) b.number rest more e in
      let rule = rule_told.apart a.rule b.rule tt tt inside.0 in
      (λ i. record { rule = rule i; number = inside.1 i }, inside.2);
  are = λ a good. (rule_told.field a.rule tt, (exemption_number_reader.field a.number good, tt));
}

-- a declared material of its form and in its range
IsMaterial : MaterialDecl → Type 0
IsMaterial m = (is_good m ≡ true) × (is_material_in_form m ≡ true)

few : (n limit : ℕ) → n ≤ limit → limit ≤ 256 → n < 2 ^ 64
few n limit fits small = omega arith

-- the lists of a material
abbrev AreHeld : List SubstanceMass → Type 0
AreHeld held = (length held < 2 ^ 64) × AllByRecursion IsHeld held

abbrev AreClaims : List Claim → Type 0
AreClaims claims = (length claims < 2 ^ 64) × AllByRecursion IsClaim claims

each_held : (held : List SubstanceMass) → AllByRecursion (λ one. is_code one.substance ≡ true) held → AllByRecursion (λ one. is_light one ≡ true) held → AllByRecursion IsHeld held
unfolding IsHeld
each_held [] codes light = tt
each_held (one ∷ held) codes light =
    let mass : one.mass ≤ MASS_LIMIT = leb-true one.mass MASS_LIMIT light.0 in
    ((codes.0, omega arith), each_held held codes.1 light.1)

are_held : (m : MaterialDecl) → IsMaterial m → AreHeld m.substances
unfolding IsMaterial
are_held m good =
    let p = substance_parts m.substances (content_parts m.mass m.substances m.claims good.0).substances in (
      few (length m.substances) CONTENT_LIMIT p.fits (omega arith),
      each_held m.substances (each_from_all (λ one. is_code one.substance) m.substances (material_forms m good.1).held) (each_from_all is_light m.substances p.light),
    )

each_claim : (claims : List Claim) → AllByRecursion (λ claim. is_exemption_number claim.number ≡ true) claims → AllByRecursion IsClaim claims
unfolding IsClaim
each_claim claims all = all

are_claimed : (m : MaterialDecl) → IsMaterial m → AreClaims m.claims
unfolding IsMaterial
are_claimed m good =
    let p = claim_parts m.claims (content_parts m.mass m.substances m.claims good.0).claimed in (
      few (length m.claims) CLAIM_LIMIT p.fits (omega arith),
      each_claim m.claims (each_from_all (λ claim. is_exemption_number claim.number) m.claims (material_forms m good.1).claimed),
    )

mass_small : (m : MaterialDecl) → IsMaterial m → m.mass < 2 ^ 64
unfolding IsMaterial
mass_small m good =
    let range = and_parts (nat_le 1 m.mass) (nat_le m.mass MASS_LIMIT) (content_parts m.mass m.substances m.claims good.0).in_range in
    let light : m.mass ≤ MASS_LIMIT = leb-true m.mass MASS_LIMIT range.1 in
    omega arith

names_good : (m : MaterialDecl) → IsMaterial m → (is_code m.code ≡ true) × (is_name m.name ≡ true)
unfolding IsMaterial
names_good m good = and_parts (is_code m.code) (is_name m.name) (material_forms m good.1).names

abbrev held_list : AreTold substance_fields AreHeld
held_list = counted_told (λ one. one.substance ∷ decimal one.mass ∷ []) IsHeld held_told

abbrev claim_list : AreTold claim_fields AreClaims
claim_list = counted_told (λ claim. rule_code claim.rule ∷ claim.number ∷ []) IsClaim claim_told

material_apart : (a b : MaterialDecl) (rest more : List (List ℕ)) → IsMaterial a → IsMaterial b → material_fields a ++ rest ≡ material_fields b ++ more → (a ≡ b) × (rest ≡ more)
material_apart a b rest more first second e =
    let heads = three_inside a.code a.name (decimal a.mass) b.code b.name (decimal b.mass)
    ((substance_fields a.substances ++ claim_fields a.claims) ++ rest) ((substance_fields b.substances ++ claim_fields b.claims) ++ more) e in
    let lists : substance_fields a.substances ++ (claim_fields a.claims ++ rest) ≡ substance_fields b.substances ++ (claim_fields b.claims ++ more) =
    sym (append_assoc (substance_fields a.substances) (claim_fields a.claims) rest) ∙ heads.3 ∙ append_assoc (substance_fields b.substances) (claim_fields b.claims) more in
    let held = held_list.apart a.substances b.substances (claim_fields a.claims ++ rest) (claim_fields b.claims ++ more) (are_held a first) (are_held b second) lists in
    let claims = claim_list.apart a.claims b.claims rest more (are_claimed a first) (are_claimed b second) held.1 in
    let mass = number_told.apart a.mass b.mass (mass_small a first) (mass_small b second) heads.2 in
    (λ i. record { code = heads.0 i; name = heads.1 i; mass = mass i; substances = held.0 i; claims = claims.0 i }, claims.1)

material_told : AreTold material_fields IsMaterial
material_told = record {
  apart = material_apart;
  are = λ m good.
      let names = names_good m good in (
        code_reader.field m.code names.0,
        (
          name_reader.field m.name names.1,
          (
            number_told.field m.mass (mass_small m good),
            AreFields-append (substance_fields m.substances) (claim_fields m.claims) (held_list.are m.substances (are_held m good)) (claim_list.are m.claims (are_claimed m good)),
          ),
        ),
      );
}

-- a declaration
each_material : (ms : List MaterialDecl) → AllByRecursion (λ m. is_good m ≡ true) ms → AllByRecursion (λ m. is_material_in_form m ≡ true) ms → AllByRecursion IsMaterial ms
unfolding IsMaterial
each_material [] goods forms = tt
each_material (m ∷ ms) goods forms = ((goods.0, forms.0), each_material ms goods.1 forms.1)

abbrev AreMaterials : List MaterialDecl → Type 0
AreMaterials ms = (length ms < 2 ^ 64) × AllByRecursion IsMaterial ms

materials_good : (d : Declared) → is_declaration_in_form d ≡ true → AreMaterials d.materials
materials_good d form =
    let f = form_parts d form in
    let p = parts d f.declared in (
      few (length d.materials) DECLARED_LIMIT p.fits (omega arith),
      each_material d.materials (each_from_all is_good d.materials p.contents) (each_from_all is_material_in_form d.materials f.materials),
    )

abbrev material_list : AreTold (λ ms. decimal (length ms) ∷ flat_map material_fields ms) AreMaterials
material_list = counted_told material_fields IsMaterial material_told

pub number_small : (n : ℕ) → is_declaration_number n ≡ true → n < 2 ^ 64
number_small n good = ltb-true n (2 ^ 64) (and_parts (nat_le 1 n) (nat_lt n (2 ^ 64)) good).1

pub declaration_told : AreTold declaration_fields (λ d. is_declaration_in_form d ≡ true)
declaration_told = record {
  apart = λ a b rest more first second e.
      let f = form_parts a first in
      let g = form_parts b second in
      let heads = three_inside a.supplier (decimal a.number) (date_text a.day) b.supplier (decimal b.number) (date_text b.day)
      ((decimal (length a.materials) ∷ flat_map material_fields a.materials) ++ rest) ((decimal (length b.materials) ∷ flat_map material_fields b.materials) ++ more) e in
      let number = number_told.apart a.number b.number (number_small a.number f.number) (number_small b.number g.number) heads.1 in
      let day = day_told.apart a.day b.day f.day g.day heads.2 in
      let materials = material_list.apart a.materials b.materials rest more (materials_good a first) (materials_good b second) heads.3 in
      (λ i. record { supplier = heads.0 i; number = number i; day = day i; materials = materials.0 i }, materials.1);
  are = λ d good.
      let f = form_parts d good in (
        code_reader.field d.supplier f.supplier,
        (
          number_told.field d.number (number_small d.number f.number),
          (
            day_told.field d.day f.day,
            material_list.are d.materials (materials_good d good),
          ),
        ),
      );
}

-- an exemption row
record Row (row : ExemptionRow) : Type 0 where
  code : is_code row.terms.row ≡ true
  number : is_exemption_number row.terms.number ≡ true
  first : is_day row.terms.first ≡ true
  last : is_day row.terms.last ≡ true
  kinds : 0 < length row.terms.kinds
  floor : is_ppm row.terms.floor ≡ true
  cap : is_ppm row.terms.cap ≡ true
  application : is_name row.application ≡ true

row_parts : (row : ExemptionRow) → is_exemption_row row ≡ true → Row row
unfolding is_exemption_row
row_parts row good =
    let t = row.terms in
    let outer = and_parts (are_terms t) (is_name row.application) good in
    let terms = and_parts (is_code t.row && is_exemption_number t.number && is_day t.first && is_day t.last) (are_terms_in_range t) outer.0 in
    let texts = four_parts (is_code t.row) (is_exemption_number t.number) (is_day t.first) (is_day t.last) terms.0 in
    let ranges = three_parts (are_kinds t.kinds) (is_ppm t.floor) (is_ppm t.cap) terms.1 in
    let some = and_parts (nat_lt 0 (length t.kinds)) _ ranges.0 in
    record {
      code = texts.0;
      number = texts.1;
      first = texts.2;
      last = texts.3;
      kinds = ltb-true 0 (length t.kinds) some.0;
      floor = ranges.1;
      cap = ranges.2;
      application = outer.1;
    }

pub exemption_told : AreTold exemption_fields (λ row. is_exemption_row row ≡ true)
exemption_told = record {
  apart = λ a b rest more first second e.
      let t = a.terms in
      let u = b.terms in
      let f = row_parts a first in
      let g = row_parts b second in
      let heads = five_inside t.row (decimal (annex_number t.annex)) t.number (rule_code t.rule) (kinds_text t.kinds) u.row (decimal (annex_number u.annex)) u.number (rule_code u.rule) (kinds_text u.kinds)
      (date_text t.first ∷ date_text t.last ∷ optional_number t.floor ∷ optional_number t.cap ∷ a.application ∷ rest)
      (date_text u.first ∷ date_text u.last ∷ optional_number u.floor ∷ optional_number u.cap ∷ b.application ∷ more) e in
      let tails = five_inside (date_text t.first) (date_text t.last) (optional_number t.floor) (optional_number t.cap) a.application (date_text u.first) (date_text u.last) (optional_number u.floor) (optional_number u.cap) b.application rest more heads.5 in
      let annex = annex_told.apart t.annex u.annex tt tt heads.1 in
      let rule = rule_told.apart t.rule u.rule tt tt heads.3 in
      let kinds = kinds_told.apart t.kinds u.kinds f.kinds g.kinds heads.4 in
      let from = day_told.apart t.first u.first f.first g.first tails.0 in
      let last = day_told.apart t.last u.last f.last g.last tails.1 in
      let floor = ppm_told.apart t.floor u.floor f.floor g.floor tails.2 in
      let cap = ppm_told.apart t.cap u.cap f.cap g.cap tails.3 in (
        λ i. record {
          terms = record {
            row = heads.0 i;
            annex = annex i;
            number = heads.2 i;
            rule = rule i;
            kinds = kinds i;
            first = from i;
            last = last i;
            floor = floor i;
            cap = cap i;
          };
          application = tails.4 i;
        },
        tails.5,
      );
  are = λ row good.
      let t = row.terms in
      let f = row_parts row good in (
        code_reader.field t.row f.code,
        (
          annex_told.field t.annex tt,
          (
            exemption_number_reader.field t.number f.number,
            (
              rule_told.field t.rule tt,
              (
                kinds_told.field t.kinds f.kinds,
                (day_told.field t.first f.first, (day_told.field t.last f.last, (ppm_told.field t.floor f.floor, (ppm_told.field t.cap f.cap, (name_reader.field row.application f.application, tt))))),
              ),
            ),
          ),
        ),
      );
}
