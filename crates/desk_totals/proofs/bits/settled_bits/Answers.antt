use Rattle.std.proofs.Common.{◌≡◌, ◌+◌, length, ap, ◌∙◌}
use Rattle.std.proofs.lemmas.Result.{IfOk-weaker}
use Rattle.desk_totals.proofs.Settle.{rounds-length}
use Rattle.desk_totals.specs.Marks.{with_bits}
use Rattle.desk_totals.specs.Rounds.{rounds}
use Rattle.desk_totals.proofs.bits.settled_bits.Goals as goal

pub returns-clause-len : goal.returns-clause-len
returns-clause-len c =
    let bill = c.args.bill.now in
    let own = c.args.own.now in
    let guess = c.in_ok-guess.guess.items in
    IfOk-weaker c.rounds_of_bits.result (λ bits. bits.items ≡ rounds with_bits 0 bill own (length bill.nodes + 2) guess) (λ bits. length bits.items ≡ length bill.nodes)
    (λ bits e. ap length e ∙ rounds-length with_bits 0 bill own (length bill.nodes + 2) guess (c.in_ok-guess.ensures ∙ c.requires))
    c.rounds_of_bits.ensures.bits
