use Rattle.std.proofs.Common.{ap, subst, sym, ◌∙◌, ◌<◌, ◌^◌}
use Rattle.va_base.specs.Numerals.{number_of}
use Rattle.c_raw_build.proofs.TokenValues.{behind_front}
use Rattle.c_raw_build.proofs.text.second_number.Goals as goal

pub number-requires : goal.number-requires
number-requires c =
    let rest = behind_front c.args.word.now c.front_len.result c.front_len.ensures.count in
    subst (λ l. number_of l < 2 ^ 32) (sym rest) c.requires.fits

pub returns : goal.returns
returns c = c.number.ensures ∙ ap number_of (behind_front c.args.word.now c.front_len.result c.front_len.ensures.count)
