use Rattle.std.proofs.Common.{◌≡◌, ◌+◌, ◌++◌, [], ◌∷◌, drop, length, take, arith, rules, refl, sym, ap, subst, subst₂, ◌∙◌}
use Rattle.std.proofs.lemmas.List.{length-append, length-take-le, take-append-drop, take_all, take_more}
use Rattle.desk_sqlite.specs.Content.{AreShown, IsShown}
use Rattle.desk_sqlite.proofs.FindLemmas.{shown_more, shown_push}
use Rattle.desk_sqlite.proofs.find.records_of.Goals as goal

pub rows-init : goal.rows-init
rows-init c = subst (λ records. AreShown records [] × (length records ≡ 0)) (sym c.new-records.ensures.items) (tt, refl)

pub rows-preserved : goal.rows-preserved
rows-preserved c =
    let records = c.rows.records.items in
    let before = take c.rows.at c.args.rows.now in
    let pushed : c.push_back.new.self.items ≡ records ++ c.in-Ok-Some.kept ∷ [] = search rules in
    let more : take (c.rows.at + 1) c.args.rows.now ≡ before ++ c.index-rows-at.result ∷ [] =
    take_more c.args.rows.now c.rows.at c.index-rows-at.result c.rows-test.true ∙ ap (λ row. before ++ row ∷ []) (sym c.index-rows-at.is) in
    let shown : IsShown c.in-Ok-Some.kept c.index-rows-at.result = search rules in
    let long : length records ≡ length before = c.rows.invariant.1 ∙ sym (length-take-le c.rows.at c.args.rows.now (omega (arith, c.rows-test.true))) in (
      subst₂ AreShown (sym pushed) (sym more) (shown_push records before c.in-Ok-Some.kept c.index-rows-at.result long c.rows.invariant.0 shown),
      ap length pushed ∙ length-append records (c.in-Ok-Some.kept ∷ []) ∙ ap (λ n. n + 1) c.rows.invariant.1,
    )

pub returns-clause-shown : goal.returns-clause-shown
returns-clause-shown c =
    let all : take c.rows.at c.args.rows.now ≡ c.args.rows.now = take_all c.rows.at c.args.rows.now c.rows-test.false in
    subst (AreShown c.rows.records.items) all c.rows.invariant.0

pub returns-in-Ok-None-clause-shown : goal.returns-in-Ok-None-clause-shown
returns-in-Ok-None-clause-shown c =
    let rows = c.args.rows.now in
    subst (AreShown c.rows.records.items) (take-append-drop c.rows.at rows) (shown_more c.rows.records.items (take c.rows.at rows) (drop c.rows.at rows) c.rows.invariant.0)
