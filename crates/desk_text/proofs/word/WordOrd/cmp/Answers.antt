-- Heads that differ tell the words apart, and short words with one head their lengths.
use Rattle.std.proofs.Common.{arith, nat_cmp, sym, ◌∙◌}
use Rattle.desk_text.proofs.HeadLemmas.{first_bytes-order, first_bytes-same}
use Rattle.desk_text.proofs.word.WordOrd.cmp.Goals as goal

pub returns-then-head-other_head : goal.returns-then-head-other_head
returns-then-head-other_head g c =
    let own = c.head-head.ensures in
    let others = c.head-other_head.ensures in
    c.cmp.ensures
    ∙ (λ i. nat_cmp (own.value i) (others.value i))
    ∙ sym (first_bytes-order 16 0 c.args.self.now c.args.other.now own.ascii others.ascii (λ same. c.if-head-other_head.true (own.value ∙ same ∙ sym others.value)))

pub returns-then-other_len-le-HEAD_LEN : goal.returns-then-other_len-le-HEAD_LEN
returns-then-other_len-le-HEAD_LEN g c =
    let own = c.head-head.ensures in
    let others = c.head-other_head.ensures in
    let same = sym own.value ∙ c.if-head-other_head.false ∙ others.value in
    c.cmp-then-other_len-le-HEAD_LEN.ensures
    ∙ (λ i. nat_cmp (c.len-len.ensures i) (c.len-other_len.ensures i))
    ∙ sym (first_bytes-same 16 0 c.args.self.now c.args.other.now own.ascii others.ascii
    (omega (arith, c.len-len.ensures, c.if-len-le-HEAD_LEN.true)) (omega (arith, c.len-other_len.ensures, c.if-other_len-le-HEAD_LEN.true)) same)
