-- What the rules look at in a module (Analog procedural block, User-defined analog functions).
use Rattle.std.specs.Prelude.{ℕ, List, map}
use Rattle.va_tree.specs.declared.module.Module.{Module}
use Rattle.va_tree.specs.Parts.{Part, module_parts}
use Rattle.va_tree.specs.Statements.{Statement}
use Rattle.va_sem.specs.Declarations.{FunctionEntry, functions_of, analog_bodies}

pub record ModuleBody : Type 0 where
  -- the token of the module's name
  pub at : ℕ
  -- the statements of its analogue blocks, in order
  pub blocks : List Statement
  -- those of its functions
  pub functions : List Statement
  -- all its outermost expressions and statements, those of attributes, declarations and functions too
  pub parts : List Part

abbrev pub body_of : Module → ModuleBody
body_of m = record {
  at = m.at;
  blocks = analog_bodies m;
  functions = map (λ (f : FunctionEntry). f.body) (functions_of m);
  parts = module_parts m;
}
