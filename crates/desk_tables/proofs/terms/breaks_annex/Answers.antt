use Rattle.std.proofs.Common.{◌∙◌, ap, not}
use Rattle.std.specs.List.{list_all}
use Rattle.desk_law.specs.KindSet.{has_kind}
use Rattle.desk_law.proofs.KindSets.{is_subset-set_of}
use Rattle.desk_tables.proofs.terms.breaks_annex.Goals as goal

pub returns : goal.returns
returns c =
    let terms = c.args.terms.now in
    ap not (c.is_subset.ensures ∙ is_subset-set_of terms.kinds _ c.is_empty.ensures.form ∙ ap (λ kinds. list_all (has_kind kinds) terms.kinds) c.kinds.ensures)
