-- A line that is written in three pieces.
use Rattle.std.proofs.Common.{◌≡◌, ℕ, List, [], ◌++◌, length, take, drop, ap, sym, ◌∙◌, subst, append_assoc, length-append, Option, arith}
use Rattle.std.specs.Io.KnownBytes.{Appends}
use Rattle.std.proofs.KnownBytes.{Appends-nil, Appends-trans}
use Rattle.std.proofs.Math.Seq.{take-append_seam}
use Rattle.std.proofs.lemmas.List.{append-nil, length-drop, take-append-drop, take_all}
use Rattle.desk_edge.specs.Transfer.{AppendsBeginning, AppendsPart}

pub all_written : (a b c d : Option (List ℕ)) (x y z : List ℕ) → Appends a b x → Appends b c y → Appends c d z → Appends a d (x ++ y ++ z)
all_written a b c d x y z first second third = Appends-trans a c d (x ++ y) z (Appends-trans a b c x y first second) third

-- all of the bytes are a beginning of them, and so is a part
pub all_begun : (a b : Option (List ℕ)) (bytes : List ℕ) → Appends a b bytes → AppendsBeginning a b bytes
all_begun a b bytes whole = (length bytes, subst (Appends a b) (sym (take_all (length bytes) bytes (omega arith))) whole)

pub part_begun : (a b : Option (List ℕ)) (bytes : List ℕ) → AppendsPart a b bytes → AppendsBeginning a b bytes
part_begun a b bytes (n, less, part) = (n, part)

-- a part behind whole bytes is a part of them with more
part_behind : (old mid new : Option (List ℕ)) (front piece behind : List ℕ) → Appends old mid front → AppendsPart mid new piece
    → AppendsPart old new (front ++ piece ++ behind)
part_behind old mid new front piece behind whole (n, less, part) =
    let done = front ++ take n piece in
    let rest = drop n piece ++ behind in
    let parts : front ++ piece ++ behind ≡ done ++ rest =
    ap (λ (l : List ℕ). front ++ l ++ behind) (sym (take-append-drop n piece))
    ∙ ap (λ (l : List ℕ). l ++ behind) (sym (append_assoc front (take n piece) (drop n piece)))
    ∙ append_assoc done (drop n piece) behind in
    let all : length (front ++ piece ++ behind) ≡ length (done ++ rest) = ap length parts in (
      length done,
      omega (arith, less, all, length-append done rest, length-append (drop n piece) behind, length-drop n piece),
      subst (Appends old new) (sym (ap (take (length done)) parts ∙ take-append_seam done rest)) (Appends-trans _ _ _ front (take n piece) whole part),
    )

pub first_part : (a b : Option (List ℕ)) (x y z : List ℕ) → AppendsPart a b x → AppendsPart a b (x ++ y ++ z)
first_part a b x y z part = subst (AppendsPart a b) (sym (append_assoc x y z)) (part_behind a a b [] x (y ++ z) (Appends-nil a) part)

pub second_part : (a b c : Option (List ℕ)) (x y z : List ℕ) → Appends a b x → AppendsPart b c y → AppendsPart a c (x ++ y ++ z)
second_part a b c x y z first part = part_behind a b c x y z first part

pub third_part : (a b c d : Option (List ℕ)) (x y z : List ℕ) → Appends a b x → Appends b c y → AppendsPart c d z → AppendsPart a d (x ++ y ++ z)
third_part a b c d x y z first second part =
    subst (AppendsPart a d) (append-nil (x ++ y ++ z)) (part_behind a c d (x ++ y) z [] (Appends-trans a b c x y first second) part)
