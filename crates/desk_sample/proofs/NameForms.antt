-- The names of a sample are names.
use Rattle.std.proofs.Common.{◌≡◌, ℕ, true, Result, Ok, Err, List, refl, ap, ◌∙◌}
use Rattle.std.specs.Prelude.{codes, is_ok}
use Rattle.std.proofs.lemmas.Bool.{false≢true}
use Rattle.desk_text.specs.Name.{name_of}
use Rattle.desk_text.specs.declared.name.NameFault.{NameFault}
use Rattle.desk_text.proofs.NameLemmas.{name_of-Ok}
use Rattle.desk_model.specs.Values.{is_name}
use Rattle.desk_model.proofs.Names.{name_from}

spelled : (bytes : List ℕ) (read : Result (List ℕ) NameFault) → name_of bytes ≡ read → is_ok read ≡ true → name_of bytes ≡ Ok bytes
spelled bytes (Ok name) e f = e ∙ ap Ok (name_of-Ok bytes name e).0
spelled bytes (Err fault) e f = absurd (false≢true f)

named : (bytes : List ℕ) → is_name bytes ≡ true → name_of bytes ≡ Ok bytes
named bytes is = spelled bytes (name_of bytes) refl is

pub material_name : name_of (codes "Material") ≡ Ok (codes "Material")
material_name = named (codes "Material") (name_from (codes "Material") refl refl refl refl)

pub article_name : name_of (codes "Article") ≡ Ok (codes "Article")
article_name = named (codes "Article") (name_from (codes "Article") refl refl refl refl)

pub assembly_name : name_of (codes "Assembly") ≡ Ok (codes "Assembly")
assembly_name = named (codes "Assembly") (name_from (codes "Assembly") refl refl refl refl)
