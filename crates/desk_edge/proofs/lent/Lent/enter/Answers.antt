use Rattle.std.proofs.Common.{◌≡◌, ◌++◌, [], ◌∷◌, false, ap, sym, ◌∙◌, subst, rules}
use Rattle.desk_edge.specs.Shelves.{AreApart, is_name_among}
use Rattle.desk_edge.proofs.Lending.{itself, pushed_apart, pushed_is_there, pushed_stay}
use Rattle.desk_edge.proofs.lent.Lent.enter.Goals as goal

pub invariant_of-self-2 : goal.invariant_of-self-2
invariant_of-self-2 c =
    let name = c.args.name.now in
    let names = c.self.inside.names.items in
    let own : c.push_all.new.self ≡ name = c.in_ok-push_all.ensures.ok ∙ ap (λ front. front ++ name) c.start-own.ensures in
    let then : c.push_reserved.new.self.items ≡ names ++ name ∷ [] =
    c.push_reserved.ensures.items ∙ ap (λ front. front ++ c.push_all.new.self ∷ []) c.in_ok-reserve.ensures.items ∙ ap (λ last. names ++ last ∷ []) own in
    let apart : is_name_among names name ≡ false = search rules in
    subst AreApart (sym then) (pushed_apart names name apart c.self.invariant)

pub returns-clause-there : goal.returns-clause-there
returns-clause-there c =
    let name = c.args.name.now in
    let names = c.self.inside.names.items in
    let own : c.push_all.new.self ≡ name = c.in_ok-push_all.ensures.ok ∙ ap (λ front. front ++ name) c.start-own.ensures in
    let then : c.push_reserved.new.self.items ≡ names ++ name ∷ [] =
    c.push_reserved.ensures.items ∙ ap (λ front. front ++ c.push_all.new.self ∷ []) c.in_ok-reserve.ensures.items ∙ ap (λ last. names ++ last ∷ []) own in
    ap (λ all. is_name_among all name) then ∙ pushed_is_there (λ own. own) name names name (itself name)

pub returns-clause-stay : goal.returns-clause-stay
returns-clause-stay c other was =
    let name = c.args.name.now in
    let names = c.self.inside.names.items in
    let own : c.push_all.new.self ≡ name = c.in_ok-push_all.ensures.ok ∙ ap (λ front. front ++ name) c.start-own.ensures in
    let then : c.push_reserved.new.self.items ≡ names ++ name ∷ [] =
    c.push_reserved.ensures.items ∙ ap (λ front. front ++ c.push_all.new.self ∷ []) c.in_ok-reserve.ensures.items ∙ ap (λ last. names ++ last ∷ []) own in
    ap (λ all. is_name_among all other) then ∙ pushed_stay name other names (ap (λ all. is_name_among all other) c.self.view_is ∙ was)
