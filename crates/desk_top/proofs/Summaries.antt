-- The answer to a summary.
use Rattle.std.proofs.Common.{◌≡◌, ℕ, List, Ok, sym}
use Rattle.desk_model.specs.Lists.{Lists}
use Rattle.desk_scratch.specs.Eval.{eval}
use Rattle.desk_scratch.specs.Summary.{summary_text}
use Rattle.desk_scratch.specs.declared.question.Question.TheVariants.{Summary}
use Rattle.desk_text.specs.Day.{Date}

pub is_summary : (t : Lists) (day : Date) (text : List ℕ) → eval t (Summary day) ≡ Ok text → text ≡ summary_text t day
unfolding eval
is_summary t day text is =
    let same : summary_text t day ≡ text = cc in
    sym same
