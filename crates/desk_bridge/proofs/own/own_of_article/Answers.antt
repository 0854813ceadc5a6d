use Rattle.std.proofs.Common.{◌≡◌, ◌∙◌, true, ap, length, map, refl, subst, sym}
use Rattle.std.specs.List.{All, list_any}
use Rattle.std.specs.Prelude.{nat_lt, if◌then◌else◌}
use Rattle.std.proofs.lemmas.List.Elements.{All-from_recursion}
use Rattle.desk_text.specs.Code.{same_code}
use Rattle.desk_graph.specs.Graph.{label_of}
use Rattle.desk_bridge.specs.declared.holdings.Holding.{Holding}
use Rattle.desk_bridge.specs.Own.{amount_held, holding_mark}
use Rattle.desk_bridge.proofs.OwnRight.{article_own, names_of}
use Rattle.desk_bridge.proofs.own.own_of_article.Goals as goal

pub marks_of-requires-clause-named : goal.marks_of-requires-clause-named
marks_of-requires-clause-named c =
    subst (All (λ holding. list_any (λ listed. same_code listed holding.substance) c.args.names.now ≡ true)) (sym c.as_slice.ensures.value)
    (All-from_recursion (λ (holding : Holding). list_any (λ listed. same_code listed holding.substance) c.args.names.now ≡ true) c.in_ok-above.above.items
    (names_of c.args.lists.now c.args.code.now c.args.names.now c.requires.named c.in_ok-above.above.items c.in_ok-above.ensures))

pub returns-clause-own : goal.returns-clause-own
returns-clause-own c = λ labels place.
    article_own c.args.lists.now c.requires.consistent c.args.names.now labels c.args.code.now c.args.node place c.requires.none c.requires.article c.in_ok-above.above.items c.in_ok-above.ensures c.requires.named
    (record { node = c.args.node; weight = 0; marks = c.in_ok-marks.marks.items; loads = c.in_ok-loads.loads.items }) refl
    (c.in_ok-marks.ensures ∙ ap (map (holding_mark c.args.names.now c.args.node)) c.as_slice.ensures.value)
    (λ n. c.in_ok-loads.ensures n ∙ ap (λ held. if nat_lt n (length c.args.names.now) then amount_held held (label_of c.args.names.now n) else 0) c.as_slice-2.ensures.value)
