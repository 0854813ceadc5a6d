use Rattle.std.proofs.Common.{IsAscii, rules, sym}
use Rattle.desk_text.proofs.WordLemmas.{IsAscii-none_bad}
use Rattle.desk_text.proofs.word.Word.read.Goals as goal

pub new-requires : goal.new-requires
new-requires g c =
    let ascii : IsAscii c.args.bytes.now = IsAscii-none_bad g.A.Alphabet.has g.met.A.Alphabet.is_ascii c.args.bytes.now (sym c.in-None.ensures) in
    search (rules, ascii)
