use Rattle.desk_text.proofs.WordLemmas.{IsPadded-new}
use Rattle.desk_text.proofs.word.Word.new.Goals as goal

pub invariant_of-result : goal.invariant_of-result
invariant_of-result g c = rw c.copy_from_slice.ensures.after (IsPadded-new g.row.N c.args.text.now c.requires.fits c.requires.ascii)
