-- The answer to each question, by the tables alone: what every answer of the desk has to be, byte for byte.
use Rattle.std.specs.Prelude.{ℕ, List, Result, Ok, Err, if◌then◌else◌}
use Rattle.std.specs.Option.{option_map_or}
use Rattle.desk_model.specs.Lists.{Lists, is_kept, is_part, material_row, part_row, product_row}
use Rattle.desk_scratch.specs.declared.ask_fault.AskFault.{AskFault}
use Rattle.desk_scratch.specs.declared.ask_fault.AskFault.TheVariants.{NoSuchCode, NotAProduct}
use Rattle.desk_scratch.specs.declared.question.Question.{Question}
use Rattle.desk_scratch.specs.declared.question.Question.TheVariants.{Material, Rohs, Reach33, Reach7, Part, Uses, Summary, Version}
use Rattle.desk_scratch.specs.Material.{material_text}
use Rattle.desk_scratch.specs.Part.{part_text}
use Rattle.desk_scratch.specs.Reach33.{reach33_text}
use Rattle.desk_scratch.specs.Reach7.{reach7_text}
use Rattle.desk_scratch.specs.Rohs.{rohs_text}
use Rattle.desk_scratch.specs.SharedLines.{version_line}
use Rattle.desk_scratch.specs.Summary.{summary_text}
use Rattle.desk_scratch.specs.Uses.{uses_text}

-- the text that answers a question, or why there is none: nothing is kept of the code, or the part is no product
unfoldable pub eval : Lists → Question → Result (List ℕ) AskFault
eval t (Material code kind day) = option_map_or (λ material. Ok (material_text t kind day material)) (material_row t code) (Err (NoSuchCode code))
eval t (Rohs code day) =
    if is_part t code then option_map_or (λ product. Ok (rohs_text t product day)) (product_row t code) (Err (NotAProduct code))
    else Err (NoSuchCode code)
eval t (Reach33 code day) = if is_part t code then Ok (reach33_text t code day) else Err (NoSuchCode code)
eval t (Reach7 year day) = Ok (reach7_text t year day)
eval t (Part code) = option_map_or (λ part. Ok (part_text t part)) (part_row t code) (Err (NoSuchCode code))
eval t (Uses code) = if is_kept t code then Ok (uses_text t code) else Err (NoSuchCode code)
eval t (Summary day) = Ok (summary_text t day)
eval t Version = Ok (version_line t)
