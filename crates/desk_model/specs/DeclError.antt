-- How the errors of a declaration that grows are told.
use Rattle.std.specs.Prelude.{ℕ, List, codes}
use Rattle.desk_model.specs.declared.decl_error.DeclError.{DeclError}
use Rattle.desk_model.specs.declared.decl_error.DeclError.TheVariants.{Repeated, TooMany, Orphan, OutOfMemory}

-- the words of an error
abbrev pub error_text : DeclError → List ℕ
error_text Repeated = codes "listed already"
error_text TooMany = codes "too many"
error_text Orphan = codes "of a material that isn't listed"
error_text OutOfMemory = codes "out of memory"
