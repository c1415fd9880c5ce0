use Rattle.std.proofs.Common.{ap, arith, ◌∙◌, ◌++◌, map}
use Rattle.c_raw.specs.Blocks.{at_view}
use Rattle.c_raw_build.proofs.Numbering.{one_further}
use Rattle.c_raw_build.proofs.text.Text.module_numbers.Goals as goal

pub tokens-preserved : goal.tokens-preserved
tokens-preserved c = record {
  numbers =
      one_further c.args.self.now _ _ c.tokens.at c.args.end c.tokens-test.true (c.in_ok-push_number.ensures ∙ ap (λ l. map at_view c.tokens.numbers.items ++ l) c.module_number-value.ensures)
      ∙ c.tokens.invariant.numbers;
  from = omega arith;
}

pub module_number-value-requires : goal.module_number-value-requires
module_number-value-requires c = c.requires c.tokens.at c.tokens.invariant.from c.tokens-test.true
