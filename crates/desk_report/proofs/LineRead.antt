-- The line of a row's record is read as that record, and what is read of a line has it.
use Rattle.std.proofs.Common.{◌≡◌, ℕ, ◌<◌, List, [], ◌∷◌, ◌++◌, length, refl, sym, ap, subst, ◌∙◌, append_assoc, Option, Some, None, arith}
use Rattle.std.specs.Prelude.{◌==◌, decimal, option_map}
use Rattle.std.specs.Result.{result_ok}
use Rattle.std.specs.List.{join_with_byte, slice_split}
use Rattle.std.proofs.lemmas.List.Splits.{join_with_byte-slice_split, length-slice_split, slice_split_at}
use Rattle.desk_edge.specs.declared.record.Record.{Record}
use Rattle.desk_text.specs.Number.{number_below}
use Rattle.desk_text.proofs.Fields.{Lacks, number_reader}
use Rattle.desk_model.specs.declared.row.Row.{Row}
use Rattle.desk_fields.proofs.Codec.{ok_of_some}
use Rattle.desk_fields.proofs.RowFields.{number_lacks}
use Rattle.desk_records.specs.Records.{IsRecordOf}
use Rattle.desk_report.specs.Lines.{line_of}
use Rattle.desk_report.specs.Reading.{kind_written, record_in, record_of_fields}
use Rattle.desk_report.proofs.CodesLack.{code_lacks_tab, table_small}

-- a list with one more behind isn't empty
not_nil : (xs : List ℕ) (c : ℕ) {G : Type 0} → [] ≡ xs ++ c ∷ [] → G
not_nil [] c e = cc
not_nil (x ∷ xs) c e = cc

heads : (x y : ℕ) (xs ys : List ℕ) → x ∷ xs ≡ y ∷ ys → (x ≡ y) × (xs ≡ ys)
heads x y xs ys e = (cc, cc)

-- what stands before the same last byte is the same
pub same_front : (xs ys : List ℕ) (c : ℕ) → xs ++ c ∷ [] ≡ ys ++ c ∷ [] → xs ≡ ys
same_front [] [] c e = refl
same_front [] (y ∷ ys) c e = not_nil ys c (heads c y [] (ys ++ c ∷ []) e).1
same_front (x ∷ xs) [] c e = not_nil xs c (sym (heads x c (xs ++ c ∷ []) [] e).1)
same_front (x ∷ xs) (y ∷ ys) c e =
    let both = heads x y (xs ++ c ∷ []) (ys ++ c ∷ []) e in
    let later = same_front xs ys c both.1 in
    λ i. both.0 i ∷ later i

none_some : {X : Type 0} {x : X} {G : Type 0} → None ≡ Some x → G
none_some e = cc

pub some_same : {X : Type 0} (a b : X) → Some a ≡ Some b → a ≡ b
some_same a b e = cc

-- the three parts of a line, without its LF
abbrev front_of : Record → List ℕ
front_of kept = decimal kept.kind ++ 9 ∷ kept.code ++ 9 ∷ kept.body

-- what is read of a line in one, two and three parts
pub no_code : (line : List ℕ) → slice_split (λ b. b == 9) line ≡ line ∷ [] → None ≡ record_in line
no_code line e = sym (ap record_of_fields e)

pub no_body : (line kind rest : List ℕ) → slice_split (λ b. b == 9) line ≡ kind ∷ slice_split (λ b. b == 9) rest → slice_split (λ b. b == 9) rest ≡ rest ∷ [] → None ≡ record_in line
no_body line kind rest e more = sym (ap record_of_fields (e ∙ ap (λ fields. kind ∷ fields) more))

no_number : (kind code : List ℕ) (parts : List (List ℕ)) → kind_written kind ≡ None → record_of_fields (kind ∷ code ∷ parts) ≡ None
no_number kind code [] none = refl
no_number kind code (field ∷ fields) none = ap (option_map (λ k. record { kind = k; code = code; body = join_with_byte 9 (field ∷ fields) })) none

pub no_kind : (line kind rest code body : List ℕ) → slice_split (λ b. b == 9) line ≡ kind ∷ slice_split (λ b. b == 9) rest → slice_split (λ b. b == 9) rest ≡ code ∷ slice_split (λ b. b == 9) body
    → None ≡ kind_written kind → None ≡ record_in line
no_kind line kind rest code body e more none =
    sym (ap record_of_fields (e ∙ ap (λ fields. kind ∷ fields) more) ∙ no_number kind code (slice_split (λ b. b == 9) body) (sym none))

with_number : (kind code : List ℕ) (parts : List (List ℕ)) (k : ℕ) → 0 < length parts → kind_written kind ≡ Some k
    → record_of_fields (kind ∷ code ∷ parts) ≡ Some (record { kind = k; code = code; body = join_with_byte 9 parts })
with_number kind code [] k some is = absurd (omega (arith, some))
with_number kind code (field ∷ fields) k some is = ap (option_map (λ k. record { kind = k; code = code; body = join_with_byte 9 (field ∷ fields) })) is

pub whole : (line kind rest code body : List ℕ) (k : ℕ) → slice_split (λ b. b == 9) line ≡ kind ∷ slice_split (λ b. b == 9) rest → slice_split (λ b. b == 9) rest ≡ code ∷ slice_split (λ b. b == 9) body
    → Some k ≡ kind_written kind → Some (record { kind = k; code = code; body = body }) ≡ record_in line
whole line kind rest code body k e more is =
    sym (ap record_of_fields (e ∙ ap (λ fields. kind ∷ fields) more)
    ∙ with_number kind code (slice_split (λ b. b == 9) body) k (omega (arith, length-slice_split (λ b. b == 9) body)) (sym is)
    ∙ ap (λ body. Some (record { kind = k; code = code; body = body })) (join_with_byte-slice_split 9 body))

-- a record whose code has no TAB is read of its line
read_front : (kept : Record) → kept.kind < 256 → Lacks 9 kept.code → record_in (front_of kept) ≡ Some kept
read_front kept small lack =
    let tab = λ (b : ℕ). b == 9 in
    let kind : kind_written (decimal kept.kind) ≡ Some kept.kind = ap result_ok ((number_reader 256 (omega arith)).back kept.kind small) in
    let parts : slice_split tab (front_of kept) ≡ decimal kept.kind ∷ kept.code ∷ slice_split tab kept.body =
    ap (slice_split tab) (append_assoc (decimal kept.kind) (9 ∷ kept.code) (9 ∷ kept.body))
    ∙ slice_split_at tab (decimal kept.kind) 9 (kept.code ++ 9 ∷ kept.body) (number_lacks 9 refl kept.kind (omega (arith, small))) refl
    ∙ ap (λ rest. decimal kept.kind ∷ rest) (slice_split_at tab kept.code 9 kept.body lack refl) in
    ap record_of_fields parts
    ∙ with_number (decimal kept.kind) kept.code (slice_split tab kept.body) kept.kind (omega (arith, length-slice_split tab kept.body)) kind
    ∙ ap (λ body. Some (record { kind = kept.kind; code = kept.code; body = body })) (join_with_byte-slice_split 9 kept.body)

-- so is that of a row
pub read_line : (kept : Record) (row : Row) (line : List ℕ) → IsRecordOf row kept → line_of kept ≡ line ++ 10 ∷ [] → record_in line ≡ Some kept
read_line kept row line is e =
    ap record_in (sym (same_front (front_of kept) line 10 e))
    ∙ read_front kept (subst (λ (r : Record). r.kind < 256) (sym is.is_written) (table_small row)) (subst (λ (r : Record). Lacks 9 r.code) (sym is.is_written) (code_lacks_tab row is.form))

fields_front : (kind code : List ℕ) (parts : List (List ℕ)) (kept : Record) → record_of_fields (kind ∷ code ∷ parts) ≡ Some kept
    → (decimal kept.kind ≡ kind) × (kept.code ≡ code) × (kept.body ≡ join_with_byte 9 parts)
fields_front kind code [] kept e = none_some e
fields_front kind code (field ∷ fields) kept e = by (kind_written kind) refl e
  where
    by : (o : Option ℕ) → kind_written kind ≡ o → option_map (λ k. record { kind = k; code = code; body = join_with_byte 9 (field ∷ fields) }) o ≡ Some kept
        → (decimal kept.kind ≡ kind) × (kept.code ≡ code) × (kept.body ≡ join_with_byte 9 (field ∷ fields))
    by None is e = none_some e
    by (Some k) is e =
        let same = some_same (record { kind = k; code = code; body = join_with_byte 9 (field ∷ fields) }) kept e in
        let read = (number_reader 256 (omega arith)).exact kind k (ok_of_some (number_below 256 kind) k is) in
        (ap (λ (r : Record). decimal r.kind) (sym same) ∙ read.1, ap (λ (r : Record). r.code) (sym same), ap (λ (r : Record). r.body) (sym same))

-- what is read of a line has it
pub line_read : (line : List ℕ) (kept : Record) → record_in line ≡ Some kept → line_of kept ≡ line ++ 10 ∷ []
line_read line kept e = by (slice_split (λ b. b == 9) line) refl e
  where
    by : (fields : List (List ℕ)) → slice_split (λ b. b == 9) line ≡ fields → record_of_fields fields ≡ Some kept → line_of kept ≡ line ++ 10 ∷ []
    by [] is e = none_some e
    by (kind ∷ []) is e = none_some e
    by (kind ∷ code ∷ []) is e = none_some e
    by (kind ∷ code ∷ field ∷ fields) is e =
        let told = fields_front kind code (field ∷ fields) kept e in
        let whole : kind ++ (9 ∷ (code ++ (9 ∷ join_with_byte 9 (field ∷ fields)))) ≡ line = sym (ap (join_with_byte 9) is) ∙ join_with_byte-slice_split 9 line in
        ap (λ (front : List ℕ). front ++ 10 ∷ [])
        ((λ i. told.0 i ++ 9 ∷ told.1 i ++ 9 ∷ told.2 i) ∙ append_assoc kind (9 ∷ code) (9 ∷ join_with_byte 9 (field ∷ fields)) ∙ whole)

-- the record of a line is the one that is read of it
pub only : (line : List ℕ) (found : Option Record) (kept : Record) (row : Row) → found ≡ record_in line → IsRecordOf row kept → line_of kept ≡ line ++ 10 ∷ [] → found ≡ Some kept
only line found kept row e is same = e ∙ read_line kept row line is same
