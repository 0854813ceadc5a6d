use Rattle.std.proofs.Common.{◌<◌, ◌^◌, ap, sym, subst, ◌∙◌}
use Rattle.desk_model.specs.Lists.{is_part}
use Rattle.desk_findings.specs.Above.{content}
use Rattle.desk_scratch.proofs.Light.{content_light}
use Rattle.desk_scratch.proofs.sub_bill.SubBill.load_of_article.Goals as goal

pub is_above-requires-clause-fits : goal.is_above-requires-clause-fits
is_above-requires-clause-fits c =
    subst (λ t. content t c.args.code.now c.args.substance.now < 2 ^ 128) (sym c.lists-lists.ensures)
    (content_light c.self.inside.tables.now.lists c.self.invariant.0 c.args.code.now c.args.substance.now
    (ap (λ v. is_part v.lists c.args.code.now) c.self.view_is ∙ c.requires.kept))

pub content-requires-clause-fits : goal.content-requires-clause-fits
content-requires-clause-fits c =
    subst (λ t. content t c.args.code.now c.args.substance.now < 2 ^ 128) (sym c.lists-lists.ensures)
    (content_light c.self.inside.tables.now.lists c.self.invariant.0 c.args.code.now c.args.substance.now
    (ap (λ v. is_part v.lists c.args.code.now) c.self.view_is ∙ c.requires.kept))
