use Rattle.desk_scratch.proofs.ExampleProofs.{chain_answers, duty_answers, gateway_answers, notice_answers, sum_answers}
use Rattle.desk_scratch.proofs.examples.examples_hold.Goals as goal

pub returns : goal.returns
returns c = record { chains = chain_answers; duties = duty_answers; notices = notice_answers; gateway = gateway_answers; sums = sum_answers }
