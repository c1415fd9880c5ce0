-- What is called (Mathematical functions, Environment parameter functions, User-defined analog functions, Signal access functions).
use Rattle.std.specs.Prelude.{ℕ, Bool, Option, Some, None}
use Rattle.va_sem.specs.declared.builtin.Builtin.{Builtin}
use Rattle.va_sem.specs.declared.builtin.SystemFunction.{SystemFunction}
use Rattle.va_sem.specs.declared.builtin.SystemName.{SystemName}
use Rattle.va_sem.specs.declared.builtin.SystemName.TheVariants as system_name
use Rattle.va_sem.specs.declared.names.Meaning.{Meaning}
use Rattle.va_sem.specs.declared.names.Meaning.TheVariants as meaning
use Rattle.va_sem.specs.Builtins.{builtin_at, system_name_of}
use Rattle.va_sem.specs.Lookup.{Bytes}
use Rattle.va_tree.specs.declared.expr.Callee.{Callee}
use Rattle.va_tree.specs.declared.expr.Callee.TheVariants.{Function, System}

pub data Called : Type 0 where
  builtin : Builtin → Called
  system : SystemFunction → Called
  -- a function of the module, by its number
  function : ℕ → Called
  -- an access to a branch, by its number: whether its sign is turned, and whether to its flow
  access : ℕ → Bool → Bool → Called
  -- nothing that stands in an expression
  none : Called

abbrev pub builtin_called : Option Builtin → Called
builtin_called (Some b) = builtin b
builtin_called None = none

-- by the meaning of a word
abbrev pub word_called : Option Meaning → Called
word_called (Some (meaning.Builtin row)) = builtin_called (builtin_at row)
word_called (Some (meaning.Function f)) = function f
word_called (Some (meaning.Access branch turned flow)) = access branch turned flow
word_called m = none

abbrev pub system_called : Option SystemName → Called
system_called (Some (system_name.Function f)) = system f
system_called s = none

-- by what the name of a call means, and a system name by itself
abbrev pub called : Option Meaning → Callee → Bytes → Called
called m Function bytes = word_called m
called m System bytes = system_called (system_name_of bytes)
