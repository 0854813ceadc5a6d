-- The buffer begins with the bytes that were given.
use Rattle.std.proofs.Common.{◌≡◌, ◌∙◌, ℕ, ◌+◌, ◌≤◌, List, ◌++◌, length, take, drop, sym, ap, arith, length-append, length-drop}
use Rattle.std.proofs.lemmas.List.{take-append-drop, length-take, length-take-le, drop-drop}
use Rattle.std.proofs.Math.Seq.{take-append_seam}
use Rattle.std.proofs.Math.ListN.{drop_of_length-le}
use Rattle.desk_edge.specs.Memory.{Memory}
use Rattle.desk_edge.proofs.memory_link.MemoryLinkLink.read.Goals as goal

-- n bytes from the front of what is left were copied to the front of a buffer
given : (left copied behind : List ℕ) (n : ℕ) → copied ≡ take n left → n ≤ length left → left ≡ take n (copied ++ behind) ++ drop n left
given left copied behind n e h =
    let whole : length (take n left) ≡ n = length-take-le n left h in
    let front : take n (take n left ++ behind) ≡ take n left =
    ap (λ (k : ℕ). take k (take n left ++ behind)) (sym whole) ∙ take-append_seam (take n left) behind in
    rw (e, front) (sym (take-append-drop n left))

pub returns-clause-gives : goal.returns-clause-gives
returns-clause-gives c =
    let n = c.min-n.result in
    let left = c.split_at.result.1.now in
    let copied = c.copy_from_slice.new.self in
    let behind = drop n c.args.into.now in
    let is_left : left ≡ drop c.self.inside.at c.self.inside.input =
    c.split_at.ensures.back ∙ ap (λ (l : List ℕ). drop c.self.inside.at l) c.as_slice.ensures in
    let rest : drop n left ≡ drop (c.self.inside.at + n) c.self.inside.input =
    ap (λ (l : List ℕ). drop n l) is_left ∙ drop-drop n c.self.inside.at c.self.inside.input in
    let whole : length (copied ++ behind) ≡ length c.args.into.now = simp length-append (omega (arith, length-take {A = ℕ}, length-drop {A = ℕ})) in
    rw (← rest) (
      ap (λ (m : Memory). m.unread) (sym c.self.view_is) ∙ sym is_left
          ∙ given left copied behind n (c.copy_from_slice.ensures.after ∙ c.split_at-2.ensures.front) (omega arith),
      λ none room. drop_of_length-le left (omega arith),
    )
