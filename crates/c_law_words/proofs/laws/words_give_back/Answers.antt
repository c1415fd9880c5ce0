use Rattle.c_law_words.proofs.Values.{words_give_back}
use Rattle.c_law_words.proofs.laws.words_give_back.Goals as goal

pub returns : goal.returns
returns c = words_give_back
