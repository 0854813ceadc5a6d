-- What was read is handed on.
use Rattle.std.proofs.Common.{◌≡◌, ◌∙◌, ℕ, ◌≤◌, List, [], ◌++◌, Option, None, Some, Ok, Err, ap, append-nil, length, subst, sym}
use Rattle.std.specs.Io.KnownBytes.{Consumes, IsAtEnd}
use Rattle.std.specs.Prelude.{IfNone, IfOk, IfSome, Result}
use Rattle.desk_edge.specs.Content.{key_cmp, key_of}
use Rattle.desk_edge.specs.declared.record.Record.{Record}
use Rattle.desk_rows.specs.Rows.{IsByKey}
use Rattle.desk_report.specs.Imported.{IsRead, import_limit}
use Rattle.desk_report.specs.Lines.{record_lines}
use Rattle.desk_report.specs.ReadLines.{AreLinesOf}
use Rattle.desk_report.specs.Reading.{GoodRead, HasBadLine, IsReadTo}
use Rattle.desk_report.specs.declared.lines.Lines.{Lines}
use Rattle.desk_report.specs.declared.lines.Lines.TheVariants.{Good, Bad}
use Rattle.desk_report.specs.declared.report_fault.ReportFault.{ReportFault}
use Rattle.desk_report.specs.declared.report_fault.ReportFault.TheVariants.{Damaged}

-- the faults of two lines are one where the lines are
pub same_line : {T : Type 0} (a b : ℕ) → ◌≡◌ {A = Result T ReportFault} (Err (Damaged a)) (Err (Damaged b)) → a ≡ b
same_line a b e = cc

-- what is known where nothing was found
pub where_none : {X P : Type 0} (found : Option X) → found ≡ None → IfNone found P → P
where_none {X} {P} found e h = subst (λ f. IfNone f P) e h

-- and where something was
pub where_some : {X : Type 0} (P : X → Type 0) (found : Option X) (x : X) → found ≡ Some x → IfSome found P → P x
where_some P found x e h = subst (λ f. IfSome f P) e h

pub read_good : (bytes : List ℕ) (lines : Lines) (good : GoodRead) → lines ≡ Good good → AreLinesOf bytes lines → IsReadTo bytes good
unfolding AreLinesOf
read_good bytes lines good e are = subst (AreLinesOf bytes) e are

pub read_bad : (bytes : List ℕ) (lines : Lines) (line : ℕ) → lines ≡ Bad line → AreLinesOf bytes lines → HasBadLine bytes line
unfolding AreLinesOf
read_bad bytes lines line e are = subst (AreLinesOf bytes) e are

pub are_bad : (bytes : List ℕ) (line : ℕ) → HasBadLine bytes line → AreLinesOf bytes (Bad line)
unfolding AreLinesOf
are_bad bytes line bad = bad

-- good lines with nothing behind are the lines of their records
pub all_read : {V E : Type 0} (items : V → List Record) (r : Result V E) (old new : Option (List ℕ)) (bytes : List ℕ) (good : GoodRead)
    → Consumes old new bytes → IsAtEnd new → length bytes ≤ import_limit → IsReadTo bytes good
    → IfOk r (λ v. (items v ≡ good.records) × (good.held ≡ []) × IsByKey key_of key_cmp (items v)) → IfOk r (λ v. IsRead old new (items v))
all_read items (Err e) old new bytes good given at_end within read h = tt
all_read items (Ok v) old new bytes good given at_end within read h = record {
  bytes = bytes;
  given = given;
  at_end = at_end;
  within = within;
  lines = read ∙ ap (λ (held : List ℕ). record_lines good.records ++ held) h.1 ∙ append-nil (record_lines good.records) ∙ ap record_lines (sym h.0);
  by_key = h.2;
}
