-- The lines of a part among lines in order, and after one is put in or taken out.
use Rattle.std.proofs.Common.{◌≡◌, ℕ, true, List, subst, Ordering, Less, Equal, Greater}
use Rattle.std.specs.Ordering.{ordering_then}
use Rattle.desk_text.specs.Code.{code_cmp, same_code}
use Rattle.desk_rows.specs.Rows.{IsByKey, with_row, without_row}
use Rattle.desk_rows.specs.Runs.{IsOneRun}
use Rattle.desk_rows.proofs.Runs.{filter_is_one_run}
use Rattle.desk_model.specs.declared.rows.line.LineRow.{LineRow}
use Rattle.desk_model.specs.Lists.{line_key, line_key_cmp}
use Rattle.desk_model.proofs.Kept.{code_cmp_total, line_key_cmp_total, same_code-true}
use Rattle.desk_findings.specs.Reaches.{lines_of}
use Rattle.desk_bridge.proofs.KeptLines.{lines-with_own, lines-without_own}
use Rattle.desk_bridge.proofs.RowsAfter.{by_key-filter}

first_decides : (first second : Ordering) → ordering_then first second ≡ Less → first ≡ Greater → ⊥
first_decides Less second e f = cc
first_decides Equal second e f = cc
first_decides Greater second e f = cc

module _ (rows : List LineRow) (h : IsByKey line_key line_key_cmp rows) (code : List ℕ) where
  -- they are one run
  pub run_is : (run : List LineRow) → ((found : List LineRow) → IsOneRun (λ line. line.parent) code_cmp code rows found → run ≡ found) → run ≡ lines_of rows code
  run_is run f =
      f (lines_of rows code)
      (filter_is_one_run line_key line_key_cmp line_key_cmp_total (λ line. line.parent) code_cmp code_cmp_total
      (λ first later. first_decides (code_cmp first.parent later.parent) (code_cmp first.child later.child)) code rows h)

  -- and in order
  pub run_by_key : IsByKey line_key line_key_cmp (lines_of rows code)
  run_by_key = by_key-filter line_key line_key_cmp line_key_cmp_total (λ line. same_code line.parent code) rows h

  -- with a line of the part, and without one
  pub run-with : (new : LineRow) → same_code new.parent code ≡ true → lines_of (with_row line_key line_key_cmp new rows) code ≡ with_row line_key line_key_cmp new (lines_of rows code)
  run-with new same =
      subst (λ c. lines_of (with_row line_key line_key_cmp new rows) c ≡ with_row line_key line_key_cmp new (lines_of rows c)) (same_code-true new.parent code same)
      (lines-with_own rows new h)

  pub run-without : (parent child : List ℕ) → same_code parent code ≡ true → lines_of (without_row line_key line_key_cmp (parent, child) rows) code ≡ without_row line_key line_key_cmp (parent, child) (lines_of rows code)
  run-without parent child same =
      subst (λ c. lines_of (without_row line_key line_key_cmp (parent, child) rows) c ≡ without_row line_key line_key_cmp (parent, child) (lines_of rows c)) (same_code-true parent code same)
      (lines-without_own rows parent child)
