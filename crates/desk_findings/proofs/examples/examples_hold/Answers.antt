use Rattle.desk_findings.proofs.ExampleProofs.{candidate_examples, chain_examples, duty_examples, gateway_examples, notice_examples, share_examples}
use Rattle.desk_findings.proofs.examples.examples_hold.Goals as goal

pub returns : goal.returns
returns c = record {
  duties = duty_examples;
  notices = notice_examples;
  candidates = candidate_examples;
  chains = chain_examples;
  gateway = gateway_examples;
  shares = share_examples;
}
