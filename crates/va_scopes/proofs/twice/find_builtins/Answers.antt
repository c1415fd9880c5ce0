use Rattle.std.proofs.Common.{arith}
use Rattle.std.specs.Prelude.{map}
use Rattle.va_scopes.specs.Bindings.{name_at}
use Rattle.va_scopes.proofs.SecondDeclarations.{builtins_step, builtins_end, builtins_listed, finds_if}
use Rattle.va_scopes.proofs.Finding.{finds_same}
use Rattle.va_scopes.proofs.twice.find_builtins.Goals as goal

pub loop-binding-preserved : goal.loop-binding-preserved
loop-binding-preserved c = λ new more.
    c.loop-binding.invariant new
    (builtins_step _ _ new c.args.names.now c.loop-binding.binding-index _ (omega arith)
    (finds_if _ _ _ _ _ _ c.is_builtin-builtin.ensures c.note_if.ensures) more)

pub returns : goal.returns
returns c =
    finds_same _ _ _ _ (builtins_listed (map name_at c.args.names.now))
    (c.loop-binding.invariant _ (builtins_end _ c.args.names.now c.loop-binding.binding-index (omega arith)))
