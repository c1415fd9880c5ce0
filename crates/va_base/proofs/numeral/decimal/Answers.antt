use Rattle.std.proofs.Common.{◌≡◌, ◌<◌, ◌^◌, ℕ, List, subst, sym, ◌∙◌, ap, arith}
use Rattle.std.specs.Prelude.{pos, ◌-ℤ◌}
use Rattle.std.proofs.lemmas.Int.{ints}
use mir.Val.{to_z, of_z}
use mir.Syntax.{w32}
use Rattle.va_base.specs.Numerals.{number_of, mantissa_of, tail_power, is_power}
use Rattle.va_base.proofs.Decimals.{decimal-not_numeral, decimal-large, decimal-power, decimal-some, power-parts, power_of, decimal-same, power-some, power-none}
use Rattle.va_base.proofs.numeral.decimal.Goals as goal

pub returns-then-not-is_numeral : goal.returns-then-not-is_numeral
returns-then-not-is_numeral c =
    sym (decimal-not_numeral c.args.bytes.now (sym c.is_numeral.ensures ∙ c.if-not-is_numeral.true))

pub returns-in_err-mantissa : goal.returns-in_err-mantissa
returns-in_err-mantissa c =
    let P : List ℕ → Type 0 = λ digits. number_of digits < 2 ^ 127 in
    c.from_residual.ensures
    ∙ sym (decimal-large c.args.bytes.now (λ small. c.in_err-mantissa.ensures (subst P (sym c.split_mantissa.ensures.mantissa) small)))

pub returns-in_err-power : goal.returns-in_err-power
returns-in_err-power c =
    let digits = c.split_mantissa.result.0.now in
    let tail = c.split_mantissa.result.1.now in
    let parts : tail_power tail -ℤ pos c.fraction_digits.result ≡ power_of c.args.bytes.now =
    ap (λ n. tail_power tail -ℤ pos n) c.fraction_digits.ensures
    ∙ power-parts digits tail c.args.bytes.now c.split_mantissa.ensures.mantissa c.split_mantissa.ensures.tail in
    c.from_residual-in_err-power.ensures
    ∙ sym (decimal-power c.args.bytes.now (ap is_power (sym parts) ∙ power-none (tail_power tail -ℤ pos c.fraction_digits.result) c.in_err-power.ensures))

pub returns : goal.returns
returns c =
    let bytes = c.args.bytes.now in
    let digits = c.split_mantissa.result.0.now in
    let tail = c.split_mantissa.result.1.now in
    let parts : tail_power tail -ℤ pos c.fraction_digits.result ≡ power_of bytes =
    ap (λ n. tail_power tail -ℤ pos n) c.fraction_digits.ensures
    ∙ power-parts digits tail bytes c.split_mantissa.ensures.mantissa c.split_mantissa.ensures.tail in
    let power = power-some (tail_power tail -ℤ pos c.fraction_digits.result) c.in_ok-power.power c.in_ok-power.ensures in
    let mantissa : c.in_ok-mantissa.mantissa ≡ number_of (mantissa_of bytes) =
    c.in_ok-mantissa.ensures.1 ∙ ap number_of c.split_mantissa.ensures.mantissa in
    let small : number_of (mantissa_of bytes) < 2 ^ 127 =
    let P : List ℕ → Type 0 = λ digits. number_of digits < 2 ^ 127 in subst P c.split_mantissa.ensures.mantissa c.in_ok-mantissa.ensures.0 in
    let fits : to_z w32 (of_z w32 c.in_ok-power.power) ≡ c.in_ok-power.power = omega (arith, ints) in
    let whole = decimal-some bytes (sym c.is_numeral.ensures ∙ c.if-not-is_numeral.false) small (ap is_power (sym parts) ∙ power.1) in
    decimal-same mantissa (fits ∙ power.0 ∙ parts) ∙ sym whole
