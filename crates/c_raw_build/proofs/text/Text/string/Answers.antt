use Rattle.std.proofs.Common.{ap, ◌∙◌}
use Rattle.c_tree.specs.Spelling.{are_bytes}
use Rattle.c_raw_build.specs.Words.{between_quotes, string_bytes}
use Rattle.c_raw_build.proofs.TokenValues.{string_fits}
use Rattle.c_raw_build.proofs.text.Text.string.Goals as goal

pub string_bytes-requires : goal.string_bytes-requires
string_bytes-requires c =
    ap (λ w. are_bytes (string_bytes w)) (c.between_quotes.ensures ∙ ap between_quotes c.word-word.ensures) ∙ string_fits c.requires
