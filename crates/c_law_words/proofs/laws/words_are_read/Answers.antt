use Rattle.c_law_words.proofs.Reading.{words_are_read}
use Rattle.c_law_words.proofs.laws.words_are_read.Goals as goal

pub returns : goal.returns
returns c = words_are_read
