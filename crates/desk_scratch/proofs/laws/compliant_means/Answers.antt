use Rattle.desk_history.proofs.SoundClauses.{bill_of}
use Rattle.desk_scratch.proofs.Breaches.{none-counted}
use Rattle.desk_scratch.proofs.Compliant.{check-means, material-means, rohs-chained, rohs-means, rohs-pieces}
use Rattle.desk_scratch.proofs.laws.compliant_means.Goals as goal

pub returns : goal.returns
returns c = record {
  rohs = rohs-means;
  chained = λ t sound code day product text kept answer. rohs-chained t code day product text kept answer (bill_of t sound.consistent);
  pieces = rohs-pieces;
  material = material-means;
  check = check-means;
  counted = none-counted;
}
