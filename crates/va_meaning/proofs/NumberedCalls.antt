-- Where the functions that names mean are functions of the module, and none leads back to itself, an evaluation is the same however
-- deeper functions are seen.
use Rattle.std.specs.Prelude.{◌≡◌, ℕ, ◌<◌, ◌≤◌, List, Option, Some, None, length}
use Rattle.alg_laws.specs.Outcome.{◌>>=◌}
use Rattle.va_sem.specs.declared.builtin.SystemName.{SystemName}
use Rattle.va_sem.specs.declared.builtin.SystemName.TheVariants as system_name
use Rattle.va_sem.specs.declared.names.Meaning.TheVariants as means
use Rattle.va_sem.specs.Builtins.{system_name_of}
use Rattle.va_sem.specs.Lookup.{Bytes}
use Rattle.va_tree.specs.declared.expr.Callee.{Callee}
use Rattle.va_tree.specs.declared.expr.Callee.TheVariants as callee_of
use Rattle.va_meaning.specs.Called.{called, system_called}
use Rattle.va_meaning.specs.Elaborated.{Elaborated}
use Rattle.va_meaning.specs.Evaluation.{zeros, started, functions, functions_to, evaluated, evaluated_to}
use Rattle.va_meaning.specs.Nesting.{IfFunction, IsWithoutCycle}
use Rattle.va_meaning.specs.Points.{Context, Result, without_unknowns}
use Rattle.va_meaning.specs.Values.{Functions}
use Rattle.va_meaning.proofs.CycleCalls.{if_function}
use Rattle.va_meaning.proofs.Everywhere.{initialisers_everywhere, blocks_everywhere}
use Rattle.va_meaning.proofs.Nesting.{initialised_same, blocks_same, called_agree, functions_same}

module _ (M : Elaborated) (R : ℕ → Type 0) (numbered : (at g : ℕ) → M.meaning at ≡ Some (means.Function g) → R g) where
  system_numbered : (n : Option SystemName) → IfFunction R (system_called n)
  system_numbered None = tt
  system_numbered (Some system_name.Task) = tt
  system_numbered (Some (system_name.Function f)) = tt

  pub call_numbered : (at : ℕ) (callee : Callee) (bytes : Bytes) → IfFunction R (called (M.meaning at) callee bytes)
  call_numbered at callee_of.Function bytes = if_function R (M.meaning at) (λ g e. numbered at g e)
  call_numbered at callee_of.System bytes = system_numbered (system_name_of bytes)

-- an evaluation where functions are seen deeper than there are functions
pub evaluated_deeper : {E V : Type 0} (M : Elaborated) (c : Context E V) → IsWithoutCycle M
    → ((at g : ℕ) → M.meaning at ≡ Some (means.Function g) → g < length M.functions) → (depth : ℕ) → length M.functions ≤ depth
    → evaluated_to M c depth ≡ evaluated M c
evaluated_deeper {E} {V} M c nested numbered depth le =
    let R : ℕ → Type 0 = λ g. g < length M.functions in
    let F : Functions E V = functions_to M (without_unknowns c) depth in
    let G : Functions E V = functions M c in
    let agree : (g : ℕ) → g < length M.functions → (outs : List (Result E V)) → F g outs ≡ G g outs =
    λ g less outs. functions_same M (without_unknowns c) (length M.functions) depth g outs le (nested g less) in
    λ j. initialised_same M (without_unknowns c) (without_unknowns c).point.unknowns (IfFunction R) F G (called_agree M (without_unknowns c) R F G agree) M.initialisers (zeros M c.ops) (initialisers_everywhere M (IfFunction R) (call_numbered M R numbered) M.initialisers) j
    >>= λ vars. blocks_same M c c.point.unknowns (IfFunction R) F G (called_agree M c R F G agree) 0 M.blocks (started M c.ops vars) (blocks_everywhere M (IfFunction R) (call_numbered M R numbered) M.blocks) j
