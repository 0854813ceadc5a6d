-- Bytes beside the edits that they are, and beside their first faults, worked out by hand. The check computes them.
use Rattle.std.specs.Prelude.{◌≡◌, [], ◌∷◌, codes, Some, None, Ok, Err}
use Rattle.desk_law.specs.declared.annex.Annex.TheVariants.{Three}
use Rattle.desk_law.specs.declared.kind.Kind.TheVariants.{Telecommunications, Toy}
use Rattle.desk_law.specs.declared.rule.Rule.TheVariants.{Lead}
use Rattle.desk_model.specs.declared.part_sort.PartSort.TheVariants.{Article, Assembly}
use Rattle.desk_model.specs.declared.edit.Edit.TheVariants as edit
use Rattle.desk_edits.specs.declared.edit_key.EditKey.TheVariants as key
use Rattle.desk_edits.specs.declared.json_fault.JsonFault.TheVariants as fault
use Rattle.desk_edits.specs.Edit.{edit_of_json}
use Rattle.desk_edits.specs.Faults.{json_fault_words}

-- an edit of each word
pub record WordExamples : Type 0 where
  pub substance : edit_of_json (codes "{\"edit\":\"substance\",\"ticket\":\"t\",\"code\":\"lead\",\"name\":\"Lead\",\"cas\":\"7439-92-1\"}")
      ≡ Ok (edit.Substance (codes "t") (codes "lead") (codes "Lead") (Some (codes "7439-92-1")))
  -- an optional key may be absent, or null
  pub no_cas : edit_of_json (codes "{\"edit\":\"substance\",\"ticket\":\"t\",\"code\":\"pbb\",\"name\":\"PBB\"}")
      ≡ Ok (edit.Substance (codes "t") (codes "pbb") (codes "PBB") None)
  pub null_cas : edit_of_json (codes "{\"edit\":\"substance\",\"ticket\":\"t\",\"code\":\"pbb\",\"name\":\"PBB\",\"cas\":null}")
      ≡ Ok (edit.Substance (codes "t") (codes "pbb") (codes "PBB") None)
  pub member : edit_of_json (codes "{\"edit\":\"member\",\"ticket\":\"t\",\"substance\":\"lead\",\"rule\":\"lead\",\"factor\":0}")
      ≡ Ok (edit.Member (codes "t") (codes "lead") Lead 0)
  pub part : edit_of_json (codes "{\"edit\":\"part\",\"ticket\":\"t\",\"code\":\"A\",\"kind\":\"article\",\"name\":\"Screw\"}")
      ≡ Ok (edit.Part (codes "t") (codes "A") Article (codes "Screw"))
  pub line : edit_of_json (codes "{\"edit\":\"line\",\"ticket\":\"t\",\"parent\":\"A\",\"child\":\"B\",\"count\":1000000}")
      ≡ Ok (edit.Line (codes "t") (codes "A") (codes "B") 1000000)
  pub unline : edit_of_json (codes "{\"edit\":\"unline\",\"ticket\":\"t\",\"parent\":\"A\",\"child\":\"B\"}")
      ≡ Ok (edit.Unline (codes "t") (codes "A") (codes "B"))
  pub product : edit_of_json (codes "{\"edit\":\"product\",\"ticket\":\"t\",\"part\":\"A\",\"kind\":\"7t\"}")
      ≡ Ok (edit.Product (codes "t") (codes "A") Toy)
  pub exemption : edit_of_json (codes "{\"edit\":\"exemption\",\"ticket\":\"t\",\"row\":\"R\",\"annex\":3,\"number\":\"6(c)\",\"rule\":\"lead\",\"kinds\":[\"7t\",\"3\"],\"application\":\"Copper\",\"from\":\"2014-07-22\",\"until\":\"2026-06-30\",\"cap\":40000}")
      ≡ Ok (edit.Exemption (codes "t") (record {
        terms = record {
          row = codes "R";
          annex = Three;
          number = codes "6(c)";
          rule = Lead;
          kinds = Telecommunications ∷ Toy ∷ [];
          first = record { year = 2014; month = 7; day = 22 };
          last = record { year = 2026; month = 6; day = 30 };
          floor = None;
          cap = Some 40000;
        };
        application = codes "Copper";
      }))
  pub unexempt : edit_of_json (codes "{\"edit\":\"unexempt\",\"ticket\":\"t\",\"row\":\"R\"}") ≡ Ok (edit.Unexempt (codes "t") (codes "R"))
  pub candidate : edit_of_json (codes "{\"edit\":\"candidate\",\"ticket\":\"t\",\"substance\":\"dehp\",\"day\":\"2008-10-28\"}")
      ≡ Ok (edit.Candidate (codes "t") (codes "dehp") (record { year = 2008; month = 10; day = 28 }))
  pub ship : edit_of_json (codes "{\"edit\":\"ship\",\"ticket\":\"t\",\"product\":\"A\",\"year\":2024,\"units\":1000000000000}")
      ≡ Ok (edit.Ship (codes "t") (codes "A") 2024 1000000000000)
  pub unship : edit_of_json (codes "{\"edit\":\"unship\",\"ticket\":\"t\",\"product\":\"A\",\"year\":2024,\"units\":1}")
      ≡ Ok (edit.Unship (codes "t") (codes "A") 2024 1)
  -- keys may stand in any order, and of a repeated key the last value counts
  pub repeated_key : edit_of_json (codes "{ \"row\": \"Q\", \"ticket\": \"t\", \"row\": \"R\", \"edit\": \"unexempt\" }") ≡ Ok (edit.Unexempt (codes "t") (codes "R"))

-- each fault, also where another stands behind it
pub record FaultExamples : Type 0 where
  pub nothing : edit_of_json [] ≡ Err fault.NotJson
  pub no_json : edit_of_json (codes "{\"edit\":\"unexempt\"") ≡ Err fault.NotJson
  pub no_text : edit_of_json (34 ∷ 255 ∷ 34 ∷ []) ≡ Err fault.NotJson
  pub no_object : edit_of_json (codes "[\"unexempt\"]") ≡ Err fault.NotAnEdit
  pub no_word : edit_of_json (codes "{\"ticket\":\"t\"}") ≡ Err fault.NotAnEdit
  pub other_word : edit_of_json (codes "{\"edit\":\"Unexempt\"}") ≡ Err fault.NotAnEdit
  -- a declaration comes in CSV
  pub declare : edit_of_json (codes "{\"edit\":\"declare\"}") ≡ Err fault.NotAnEdit
  pub missing_ticket : edit_of_json (codes "{\"edit\":\"unexempt\",\"x\":1}") ≡ Err (fault.MissingKey key.Ticket)
  pub missing_key : edit_of_json (codes "{\"edit\":\"unline\",\"ticket\":\"a b\",\"parent\":\"A\",\"x\":1}") ≡ Err (fault.MissingKey key.Child)
  pub extra_key : edit_of_json (codes "{\"edit\":\"unexempt\",\"ticket\":\"a b\",\"row\":\"R\",\"x\":1}") ≡ Err fault.ExtraKey
  pub bad_ticket : edit_of_json (codes "{\"edit\":\"unexempt\",\"ticket\":\"a b\",\"row\":\"\"}") ≡ Err (fault.BadValue key.Ticket)
  pub bad_row : edit_of_json (codes "{\"edit\":\"unexempt\",\"ticket\":\"t\",\"row\":7}") ≡ Err (fault.BadValue key.Row)
  -- null is no value of a key that has to be there
  pub null_row : edit_of_json (codes "{\"edit\":\"unexempt\",\"ticket\":\"t\",\"row\":null}") ≡ Err (fault.BadValue key.Row)
  pub count_0 : edit_of_json (codes "{\"edit\":\"line\",\"ticket\":\"t\",\"parent\":\"A\",\"child\":\"B\",\"count\":0}") ≡ Err (fault.BadValue key.Count)
  pub count_past : edit_of_json (codes "{\"edit\":\"line\",\"ticket\":\"t\",\"parent\":\"A\",\"child\":\"B\",\"count\":1000001}") ≡ Err (fault.BadValue key.Count)
  pub count_text : edit_of_json (codes "{\"edit\":\"line\",\"ticket\":\"t\",\"parent\":\"A\",\"child\":\"B\",\"count\":\"1\"}") ≡ Err (fault.BadValue key.Count)
  pub words : json_fault_words (fault.MissingKey key.Ticket) ≡ codes "missing-key ticket"
