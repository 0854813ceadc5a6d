use Rattle.std.proofs.Common.{◌-◌, ◌≤◌, filter, drop, get_or, arith}
use Rattle.std.proofs.Math.Nat.{mul-le-mul}
use Rattle.std.proofs.lemmas.List.{length-map, length-drop}
use Rattle.std.proofs.lemmas.List.Sums.{length-filter}
use Rattle.std.specs.Char.{is_ascii_digit, digit_value}
use Rattle.desk_text.proofs.CasLemmas.{length-digits_of, weighted_sum-le}
use Rattle.desk_text.proofs.cas.weighted_sum.Goals as goal

pub loop-byte-init : goal.loop-byte-init
loop-byte-init c = record {
  place = rw (length-map (filter is_ascii_digit c.args.bytes.now) digit_value, length-filter is_ascii_digit c.args.bytes.now) c.digit_count-place.ensures;
  sum = omega arith;
}

pub overflow_mul-sum : goal.overflow_mul-sum
overflow_mul-sum c =
    let few : c.loop-byte.place ≤ 12 = omega (arith, length-digits_of (drop c.loop-byte.byte-index c.args.bytes.now), length-drop c.loop-byte.byte-index c.args.bytes.now) in
    let digit : get_or c.args.bytes.now c.loop-byte.byte-index 0 - 48 ≤ 9 = omega (arith, c.if-is_ascii_digit.ensures.cases) in
    omega (arith, mul-le-mul few digit)

pub overflow_add-sum : goal.overflow_add-sum
overflow_add-sum c =
    let few : c.loop-byte.place ≤ 12 = omega (arith, length-digits_of (drop c.loop-byte.byte-index c.args.bytes.now), length-drop c.loop-byte.byte-index c.args.bytes.now) in
    let digit : get_or c.args.bytes.now c.loop-byte.byte-index 0 - 48 ≤ 9 = omega (arith, c.if-is_ascii_digit.ensures.cases) in
    omega (arith, mul-le-mul few digit, weighted_sum-le c.args.bytes.now c.requires)
