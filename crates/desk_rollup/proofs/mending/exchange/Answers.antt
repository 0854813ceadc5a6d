use Rattle.std.specs.Prelude.{is_ok}
use Rattle.std.specs.List.{insert}
use Rattle.std.proofs.Common.{◌≡◌, cond, ◌<◌, ◌≤◌, None, Some, get_or, length, sym, ap, ◌∙◌, subst, arith}
use Rattle.std.proofs.lemmas.List.{set_split}
use Rattle.desk_rollup.specs.declared.hop.Hop.{Hop}
use Rattle.desk_rollup.specs.Changed.{with_hop}
use Rattle.desk_rollup.specs.Numbers.{IsPlaceOf, Rises, hop_numbers}
use Rattle.desk_rollup.proofs.Halves.{number_of}
use Rattle.desk_rollup.proofs.Mends.{none_out, put_in, put_over}
use Rattle.desk_rollup.proofs.mending.exchange.Goals as goal

abbrev none : Hop
none = record { mark = record { node = 0; what = 0 }; next = None }

pub returns-in_default-clause-hops : goal.returns-in_default-clause-hops
returns-in_default-clause-hops c =
    let hops = c.args.hops.now.items in
    let n = c.args.number in
    let at = c.place_of-at.result in
    let place : IsPlaceOf n hops at = subst (λ l. IsPlaceOf n l at) c.as_slice.ensures.value (c.place_of-at.ensures.place (subst (λ l. Rises (hop_numbers l)) (sym c.as_slice.ensures.value) c.requires.rises)) in
    let within : at ≤ length hops = omega (arith, c.place_of-at.ensures.within, ap length c.as_slice.ensures.value) in
    let other : at < length hops → number_of (get_or hops at none) ≡ n → ⊥ = λ low same.
    c.stands_at.ensures.other c.if-not-stands_at.true none (subst (λ l. at < length l) (sym c.as_slice-2.ensures.value) low) (ap (λ l. number_of (get_or l at none)) c.as_slice-2.ensures.value ∙ same) in
    sym (ap (λ o. with_hop n o hops) c.in_default.is ∙ none_out n hops at none within place other)

pub returns-then-not-stands_at-clause-hops : goal.returns-then-not-stands_at-clause-hops
returns-then-not-stands_at-clause-hops c =
    let hops = c.args.hops.now.items in
    let n = c.args.number in
    let at = c.place_of-at.result in
    let place : IsPlaceOf n hops at = subst (λ l. IsPlaceOf n l at) c.as_slice.ensures.value (c.place_of-at.ensures.place (subst (λ l. Rises (hop_numbers l)) (sym c.as_slice.ensures.value) c.requires.rises)) in
    let within : at ≤ length hops = omega (arith, c.place_of-at.ensures.within, ap length c.as_slice.ensures.value) in
    let other : at < length hops → number_of (get_or hops at none) ≡ n → ⊥ = λ low same.
    c.stands_at.ensures.other c.if-not-stands_at.true none (subst (λ l. at < length l) (sym c.as_slice-2.ensures.value) low) (ap (λ l. number_of (get_or l at none)) c.as_slice-2.ensures.value ∙ same) in
    c.insert.ensures.items
    ∙ ap (λ r. cond (is_ok r) (insert hops at c.in-Some.hop) hops) c.in_ok-insert.was
    ∙ sym (ap (λ o. with_hop n o hops) c.in-Some.is ∙ put_in n (Some c.in-Some.hop) hops at none within place other)

pub returns-in_default-hop-clause-hops : goal.returns-in_default-hop-clause-hops
returns-in_default-hop-clause-hops c =
    let hops = c.args.hops.now.items in
    let n = c.args.number in
    let at = c.place_of-at.result in
    let place : IsPlaceOf n hops at = subst (λ l. IsPlaceOf n l at) c.as_slice.ensures.value (c.place_of-at.ensures.place (subst (λ l. Rises (hop_numbers l)) (sym c.as_slice.ensures.value) c.requires.rises)) in
    let there : at < length hops = subst (λ l. at < length l) c.as_slice-2.ensures.value (c.stands_at.ensures.within c.if-not-stands_at.false) in
    let same : number_of (get_or hops at none) ≡ n = ap (λ l. number_of (get_or l at none)) (sym c.as_slice-2.ensures.value) ∙ c.stands_at.ensures.there c.if-not-stands_at.false none in
    c.remove.ensures.items
    ∙ sym (ap (λ o. with_hop n o hops) c.in_default-hop.is ∙ put_over n None hops at none there place same)

pub returns-clause-hops : goal.returns-clause-hops
returns-clause-hops c =
    let hops = c.args.hops.now.items in
    let n = c.args.number in
    let at = c.place_of-at.result in
    let place : IsPlaceOf n hops at = subst (λ l. IsPlaceOf n l at) c.as_slice.ensures.value (c.place_of-at.ensures.place (subst (λ l. Rises (hop_numbers l)) (sym c.as_slice.ensures.value) c.requires.rises)) in
    let there : at < length hops = subst (λ l. at < length l) c.as_slice-2.ensures.value (c.stands_at.ensures.within c.if-not-stands_at.false) in
    let same : number_of (get_or hops at none) ≡ n = ap (λ l. number_of (get_or l at none)) (sym c.as_slice-2.ensures.value) ∙ c.stands_at.ensures.there c.if-not-stands_at.false none in
    set_split hops at c.in-Some-hop.hop there
    ∙ sym (ap (λ o. with_hop n o hops) c.in-Some-hop.is ∙ put_over n (Some c.in-Some-hop.hop) hops at none there place same)
