-- The first places are the text's first bytes, and zeros where it ends before.
use Rattle.std.proofs.Common.{◌≡◌, ℕ, ◌-◌, List, ◌++◌, length, take, replicate, sym, ◌∙◌, ap, subst, IsAscii, length-take-le}
use Rattle.desk_text.specs.Padding.{padded-text}
use Rattle.desk_text.specs.Word.{first_bytes}
use Rattle.desk_text.proofs.HeadLemmas.{first_bytes-be, first_bytes-padded, first_bytes-take}
use Rattle.desk_text.proofs.word.Word.head.Goals as goal

pub returns-clause-ascii : goal.returns-clause-ascii
returns-clause-ascii g c = subst IsAscii c.self.view_is c.self.invariant.ascii

pub returns-clause-value : goal.returns-clause-value
returns-clause-value g c =
    let places : List ℕ = c.self.inside.places in
    let text : List ℕ = take c.self.inside.len places in
    let chunk : List ℕ = c.in-Some.places.now in
    let first : chunk ≡ take 16 places = c.in-Some.ensures.cases.same in
    let long : length chunk ≡ 16 = ap length first ∙ length-take-le 16 places c.in-Some.ensures.cases.enough in
    let whole : text ++ replicate (g.row.N - length text) 0 ≡ places =
    padded-text g.row.N c.self.inside.len places (record { size = c.self.invariant.size; fits = c.self.invariant.fits; ascii = c.self.invariant.ascii; padding = c.self.invariant.padding }) in
    c.from_be_bytes.ensures
    ∙ first_bytes-be chunk long
    ∙ ap (first_bytes 16 0) first
    ∙ first_bytes-take 16 0 places
    ∙ ap (first_bytes 16 0) (sym whole)
    ∙ first_bytes-padded 16 0 (g.row.N - length text) text
    ∙ ap (first_bytes 16 0) c.self.view_is
