use Rattle.std.proofs.Common.{length}
use Rattle.desk_text.proofs.picture.+fits.Given as goal

-- proposed from what the function passes where it calls itself
abbrev pub decreases-fits : goal.decreases-fits
decreases-fits l = length l.picture.now
