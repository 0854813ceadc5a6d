-- The words with the space before them and the end of the line behind.
use Rattle.std.proofs.Common.{◌≡◌, ◌∙◌, ℕ, List, Result, Ok, Err, append_assoc}
use Rattle.std.proofs.lemmas.Result.{on_ok_weaker}
use Rattle.std.specs.Prelude.{if◌then◌else◌}
use Rattle.std.specs.Result.{OnOk, is_ok}
use Rattle.desk_scratch.specs.MaterialBlock.{verdict_words}
use Rattle.desk_scratch.proofs.material_block.push_verdict.Goals as goal

-- what is appended where memory serves
appended : {T E : Type 0} (result : Result T E) (new whole old : List ℕ) → new ≡ (if is_ok result then whole else old) → OnOk result (new ≡ whole)
appended (Ok value) new whole old is = is
appended (Err fault) new whole old is = tt

pub returns-in-NotInForce : goal.returns-in-NotInForce
unfolding verdict_words
returns-in-NotInForce c =
    on_ok_weaker c.push_str-in-NotInForce.result (λ is. is ∙ rw c.in-NotInForce.is (simp append_assoc))
    (appended c.push_str-in-NotInForce.result _ _ _ c.push_str-in-NotInForce.ensures.bytes)
