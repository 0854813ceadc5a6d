-- What questions may ask.
use Rattle.std.specs.Prelude.{Bool, true, ◌&&◌}
use Rattle.desk_text.specs.Day.{is_askable}
use Rattle.desk_model.specs.Forms.{is_year}
use Rattle.desk_scratch.specs.declared.question.Question.{Question}
use Rattle.desk_scratch.specs.declared.question.Question.TheVariants.{Material, Rohs, Reach33, Reach7, Part, Uses, Summary, Version}

-- a day in the question is one that may be asked about, and a year one of which shipments are kept
abbrev pub is_question_in_range : Question → Bool
is_question_in_range (Material code kind day) = is_askable day
is_question_in_range (Rohs code day) = is_askable day
is_question_in_range (Reach33 code day) = is_askable day
is_question_in_range (Reach7 year day) = is_year year && is_askable day
is_question_in_range (Part code) = true
is_question_in_range (Uses code) = true
is_question_in_range (Summary day) = is_askable day
is_question_in_range Version = true
