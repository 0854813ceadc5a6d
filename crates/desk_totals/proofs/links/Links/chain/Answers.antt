use Rattle.std.proofs.Common.{sym, ap, ◌∙◌}
use Rattle.desk_findings.specs.Chain.{chain}
use Rattle.desk_totals.proofs.Walks.{chain_alone}
use Rattle.desk_totals.proofs.links.Links.chain.Goals.{in-Some+in_ok-codes-in-Some, in-None+in_ok-codes-in-None}
use Rattle.desk_totals.proofs.links.Links.chain.Goals as goal

pub returns : goal.returns
returns c t of is_bill =
    let bill = c.args.self.now in
    c.new.ensures
    ∙ elim c.match-place_of.branch [
      | in-Some+in_ok-codes-in-Some w ↦
          ap (λ codes. codes.items) w.codes-is ∙ w.in_ok-codes-in-Some.ensures t of is_bill ∙ ap (λ code. chain t code c.args.target.now) w.in-Some.ensures.1
      | in-None+in_ok-codes-in-None w ↦
          ap (λ codes. codes.items) w.codes-is ∙ w.in_ok-codes-in-None.ensures ∙ sym (chain_alone t is_bill bill of c.args.from.now c.args.target.now w.in-None.ensures)
    ]
