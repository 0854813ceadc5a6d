use Rattle.std.proofs.Common.{◌≡◌, ◌≢◌, ◌-◌, ℕ, List, length, get_or, take, true, Err, Ok, arith, rules, sym, ◌∙◌}
use Rattle.std.proofs.lemmas.Bool.Decides.{nat_tests}
use Rattle.std.proofs.lemmas.Grind.{common_steps}
use Rattle.desk_text.proofs.CasLemmas.{IsCasText, IsCasText-shape, cas_of-valid}
use Rattle.desk_text.specs.Cas.{cas_of, check_digit, has_cas_shape}
use Rattle.desk_text.specs.declared.cas.CasFault.TheVariants.{CheckDigit}
use Rattle.desk_text.proofs.cas.Cas.read.Goals as goal

-- a number whose last digit is another than the check digit is refused
cas_of-invalid : (bytes : List ℕ) → has_cas_shape bytes ≡ true → get_or bytes (length bytes - 1) 0 - 48 ≢ check_digit (take (length bytes - 1) bytes) → cas_of bytes ≡ Err CheckDigit
unfolding cas_of
cas_of-invalid bytes shape invalid =
    let text : IsCasText bytes = IsCasText-shape bytes shape in
    grind (arith, nat_tests, text.last_digit)

pub overflow_sub-bytes : goal.overflow_sub-bytes
overflow_sub-bytes c =
    let text : IsCasText c.args.bytes.now = IsCasText-shape c.args.bytes.now (sym c.has_cas_shape.ensures ∙ c.if-not-has_cas_shape.false) in
    grind (arith, nat_tests, text.last_digit)

pub check_digit-requires : goal.check_digit-requires
check_digit-requires c =
    let text : IsCasText c.args.bytes.now = IsCasText-shape c.args.bytes.now (sym c.has_cas_shape.ensures ∙ c.if-not-has_cas_shape.false) in
    grind (arith, common_steps, text.short)

pub new-requires : goal.new-requires
new-requires c =
    let text : IsCasText c.args.bytes.now = IsCasText-shape c.args.bytes.now (sym c.has_cas_shape.ensures ∙ c.if-not-has_cas_shape.false) in
    search (rules, text.short, text.ascii)

pub invariant_of-result : goal.invariant_of-result
invariant_of-result c =
    rw c.new.ensures
    (cas_of-valid c.args.bytes.now (sym c.has_cas_shape.ensures ∙ c.if-not-has_cas_shape.false) (c.if-bytes-last.false ∙ c.check_digit.ensures))

pub returns : goal.returns
returns c =
    let valid : cas_of c.args.bytes.now ≡ Ok c.args.bytes.now =
    cas_of-valid c.args.bytes.now (sym c.has_cas_shape.ensures ∙ c.if-not-has_cas_shape.false) (c.if-bytes-last.false ∙ c.check_digit.ensures) in
    cc

pub returns-then-bytes-last : goal.returns-then-bytes-last
returns-then-bytes-last c =
    sym (cas_of-invalid c.args.bytes.now (sym c.has_cas_shape.ensures ∙ c.if-not-has_cas_shape.false) (λ e. c.if-bytes-last.true (e ∙ sym c.check_digit.ensures)))
