use Rattle.std.proofs.Common.{◌≡◌, ◌++◌, drop}
use Rattle.std.specs.Prelude.{map}
use Rattle.va_scopes.specs.Bindings.{declared_by}
use Rattle.va_scopes.specs.Blocks.{names_of_block}
use Rattle.va_scopes.proofs.blocks.block_bindings.Given as goal

abbrev pub invariant-loop-declaration : goal.invariant-loop-declaration
invariant-loop-declaration l =
    map declared_by l.bindings.items ++ names_of_block (drop l.declaration-index l.declarations) ≡ names_of_block l.declarations
