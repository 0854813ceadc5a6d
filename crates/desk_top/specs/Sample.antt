-- What `sample` writes.
use Rattle.std.specs.Prelude.{ℕ}
use Rattle.desk_history.specs.History.{tables_after}
use Rattle.desk_model.specs.Start.{start}
use Rattle.desk_sample.specs.Sample.{sample_edits}
use Rattle.desk_text.specs.Day.{Date}
use Rattle.desk_top.specs.Answer.{Answer, answer_of_summary}

-- the day of a sample's summary
abbrev pub sample_day : Date
sample_day = record { year = 2024; month = 7; day = 22 }

-- the answer to a sample of this size: the summary of the start tables after its edits, each tried in turn
abbrev pub answer_to_sample : ℕ → Answer
answer_to_sample size = answer_of_summary (tables_after start (sample_edits size)) sample_day
