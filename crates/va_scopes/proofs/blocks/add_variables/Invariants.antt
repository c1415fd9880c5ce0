use Rattle.std.proofs.Common.{◌≡◌, [], ◌∷◌, ◌++◌, drop}
use Rattle.std.specs.Prelude.{map, flat_map}
use Rattle.va_tree.specs.declared.module.Variable.{Variable}
use Rattle.va_scopes.specs.Bindings.{declared_by}
use Rattle.va_scopes.specs.Blocks.{declared_by_variable}
use Rattle.va_scopes.proofs.blocks.add_variables.Given as goal

abbrev pub invariant-loop-v : goal.invariant-loop-v
invariant-loop-v l =
    map declared_by l.bindings.items ++ flat_map (λ (v : Variable). declared_by_variable v ∷ []) (drop l.v-index l.variables)
    ≡ map declared_by l.fn.bindings.items ++ flat_map (λ (v : Variable). declared_by_variable v ∷ []) l.variables
