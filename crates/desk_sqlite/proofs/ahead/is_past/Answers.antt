use Rattle.std.proofs.Common.{◌≡◌, ap, sym, subst, ◌∙◌}
use Rattle.std.specs.Option.{option_copied}
use Rattle.std.specs.Ordering.{is_gt}
use Rattle.desk_edge.specs.Content.{is_past, key_cmp, key_of}
use Rattle.desk_sqlite.proofs.FindLemmas.{past_gt}
use Rattle.desk_sqlite.proofs.ahead.is_past.Goals as goal

pub returns-in-Some : goal.returns-in-Some
returns-in-Some c =
    let own = key_of c.args.kept.now in
    let key = c.in-Some.key.now in
    let order : c.compare.result ≡ key_cmp own key = c.compare.ensures in
    subst (λ after. c.is_gt.result ≡ is_past (option_copied after) own) (sym c.in-Some.is) (c.is_gt.ensures ∙ ap is_gt order ∙ past_gt own key)
