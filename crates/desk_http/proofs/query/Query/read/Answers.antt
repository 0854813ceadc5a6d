-- The query has one pair more, and one is left less.
use Rattle.std.proofs.Common.{◌≡◌, ◌∙◌, [], ◌∷◌, ◌++◌, sym, ap, refl, subst, append_assoc}
use Rattle.std.specs.Cow.{cow_str_bytes}
use Rattle.form_urlencoded.specs.Parse.{pairs_left}
use Rattle.desk_http.specs.Query.{ArePlain, Pair, decoded}
use Rattle.desk_http.proofs.query.Query.read.Goals as goal

pub loop-pair-preserved : goal.loop-pair-preserved
loop-pair-preserved c =
    let (done, is, left, plain) = c.loop-pair.invariant in
    let (name, value, rest, ok) = c.in-Some.ensures.steps.0 in
    let texts = rw c.in_ok-pair.was at ok in
    let pair : Pair = (cow_str_bytes c.in_ok-pair.field-0.0, cow_str_bytes c.in_ok-pair.field-0.1) in
    let later = decoded (pairs_left c.next.new.self) in (
      done ++ pair ∷ [],
      c.with_pair-query.ensures done is,
      append_assoc done (pair ∷ []) later ∙ rw (texts.0.2, texts.1.2) refl ∙ ap (λ raw. done ++ decoded raw) (sym rest) ∙ left,
      (λ all. (subst ArePlain rest (plain all)).1),
    )
