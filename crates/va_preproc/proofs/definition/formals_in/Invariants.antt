use Rattle.std.proofs.Common.{◌≡◌, ◌≤◌, ◌-◌, [], drop, length}
use Rattle.std.specs.Prelude.{map}
use Rattle.va_preproc.specs.Definitions.{formals_form}
use Rattle.va_preproc.specs.Values.{lexemes_in}
use Rattle.va_preproc.proofs.Lists.{more}
use Rattle.va_preproc.proofs.definition.formals_in.Given as goal

-- the names so far, and the rest of the list
abbrev pub invariant-formals : goal.invariant-formals
invariant-formals l = record {
  all : formals_form [] (lexemes_in l.fn.files l.fn.tokens)
      ≡ more l.at (formals_form (map (λ name. name.items) l.seen.keys) (lexemes_in l.fn.files (drop l.at l.fn.tokens)));
  within : l.at ≤ length l.fn.tokens;
}

abbrev pub decreases-formals : goal.decreases-formals
decreases-formals l = length l.fn.tokens - l.at
