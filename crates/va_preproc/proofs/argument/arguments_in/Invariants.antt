use Rattle.std.proofs.Common.{◌≡◌, ◌≤◌, ◌-◌, take, drop}
use Rattle.std.specs.Prelude.{map}
use Rattle.va_preproc.specs.Uses.{arguments_form}
use Rattle.va_preproc.specs.Values.{lexemes_in}
use Rattle.va_preproc.proofs.Lists.{joined}
use Rattle.va_preproc.proofs.argument.arguments_in.Given as goal

-- the arguments so far and the rest of the tokens
abbrev pub invariant-loop-at : goal.invariant-loop-at
invariant-loop-at l = record {
  all : arguments_form 0 (lexemes_in l.fn.files l.fn.tokens)
      ≡ joined (map (λ argument. lexemes_in l.fn.files argument.now) l.arguments.items) (lexemes_in l.fn.files (take (l.at - l.begin) (drop l.begin l.fn.tokens))) l.at
      (arguments_form l.pairs (lexemes_in l.fn.files (drop l.at l.fn.tokens)));
  begun : l.begin ≤ l.at;
  nested : l.pairs ≤ l.at;
}
