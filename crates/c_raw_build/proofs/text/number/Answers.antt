use Rattle.std.proofs.Common.{refl, arith, ◌≡◌, get_or, true}
use Rattle.std.proofs.lemmas.Bool.Decides.{nat_tests}
use Rattle.va_base.specs.Numerals.{number_of}
use Rattle.va_base.specs.Spelling.{is_digit}
use Rattle.c_raw_build.proofs.TokenValues.{digit_fits}
use Rattle.c_raw_build.proofs.text.number.Goals as goal

pub loop-byte-init : goal.loop-byte-init
unfolding number_of
loop-byte-init c = refl

pub overflow_mul-number : goal.overflow_mul-number
overflow_mul-number c =
    let digit : is_digit (get_or c.args.bytes.now c.loop-byte.byte-index 0) ≡ true = grind (arith, nat_tests) in
    let fits = digit_fits c.args.bytes.now c.loop-byte.byte-index c.loop-byte.number c.loop-byte-test.true c.loop-byte.invariant digit in
    omega (arith, fits, c.requires)

pub overflow_add-number : goal.overflow_add-number
overflow_add-number c =
    let digit : is_digit (get_or c.args.bytes.now c.loop-byte.byte-index 0) ≡ true = grind (arith, nat_tests) in
    let fits = digit_fits c.args.bytes.now c.loop-byte.byte-index c.loop-byte.number c.loop-byte-test.true c.loop-byte.invariant digit in
    grind arith
