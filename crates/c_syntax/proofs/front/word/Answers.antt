use Rattle.std.proofs.Common.{ap, sym, ◌∙◌, Some}
use Rattle.c_tree.specs.declared.token.CTokenKind.TheVariants.{Word}
use Rattle.c_syntax.specs.Fronts.{front}
use Rattle.c_syntax.proofs.Fronts.{front-word}
use Rattle.c_syntax.proofs.front.word.Goals as goal

pub returns : goal.returns
returns c = ap (λ n. Some (front Word n)) c.front_len.ensures.count ∙ sym (front-word c.args.text.now c.requires)
