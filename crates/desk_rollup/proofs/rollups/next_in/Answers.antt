use Rattle.std.proofs.Common.{◌≤◌, ◌<◌, Option, None, length, option_map, unwrap_or, sym, ap, ◌∙◌, arith}
use Rattle.desk_rollup.specs.declared.hop.Hop.{Hop}
use Rattle.desk_rollup.proofs.Halves.{found_at, not_at, not_there}
use Rattle.desk_rollup.proofs.rollups.next_in.Goals as goal

pub returns-then-at-hops : goal.returns-then-at-hops
returns-then-at-hops c =
    let hops = c.args.hops.now in
    let n = c.args.number in
    let at = c.place_of-at.result in
    let half = c.place_of-at.ensures.place c.requires in
    let past : length hops ≤ at = omega (arith, c.if-at-hops.true) in
    sym (ap (λ (o : Option Hop). unwrap_or (option_map (λ hop. hop.next) o) None) (not_there n hops at past half))

pub returns-then-number : goal.returns-then-number
returns-then-number c =
    let hops = c.args.hops.now in
    let n = c.args.number in
    let at = c.place_of-at.result in
    let half = c.place_of-at.ensures.place c.requires in
    let there : at < length hops = omega (arith, c.if-at-hops.false) in
    sym (ap (λ (o : Option Hop). unwrap_or (option_map (λ hop. hop.next) o) None)
    (not_at 0 n hops c.requires at (record { mark = record { node = 0; what = 0 }; next = None }) there half (λ same. omega (arith, same, c.number.ensures, c.if-number.true))))

pub returns : goal.returns
returns c =
    let hops = c.args.hops.now in
    let n = c.args.number in
    let at = c.place_of-at.result in
    let half = c.place_of-at.ensures.place c.requires in
    let there : at < length hops = omega (arith, c.if-at-hops.false) in
    sym (ap (λ (o : Option Hop). unwrap_or (option_map (λ hop. hop.next) o) None)
    (found_at 0 n hops c.requires at (record { mark = record { node = 0; what = 0 }; next = None }) there half (sym c.number.ensures ∙ omega (arith, c.if-number.false))))
