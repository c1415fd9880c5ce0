-- The arguments of a call that are looked at, and what names mean (Expressions, Signal access functions).
use Rattle.std.specs.Prelude.{ℕ, ◌+◌, ◌==◌, Bool, true, false, List, [], ◌∷◌, ◌++◌, Option, Some, None, if◌then◌else◌}
use Rattle.va_tree.specs.declared.expr.Callee.{Callee}
use Rattle.va_tree.specs.Expressions.{Expression, Arguments, literal, infinity, name, group, unary, binary, choose, call, no_more, text_then, expression_then}
use Rattle.va_sem.specs.declared.builtin.Builtin.{Builtin}
use Rattle.va_sem.specs.declared.builtin.Builtin.TheVariants.{Ddt}
use Rattle.va_sem.specs.declared.names.Meaning.{Meaning}
use Rattle.va_sem.specs.declared.names.Meaning.TheVariants as means
use Rattle.va_sem.specs.Builtins.{builtin_at}
use Rattle.va_sem.specs.Lookup.{Bytes}
use Rattle.va_sem.specs.LookedAt.{call_looks}
use Rattle.alg_laws.specs.declared.number.Ty.{Ty}
use Rattle.alg_laws.specs.declared.number.Ty.TheVariants.{Integer, Real}

-- the expressions among arguments for whose places a test holds; the first of the list stands at a place
abbrev pub arguments_at : (ℕ → Bool) → ℕ → Arguments → List Expression
arguments_at test place no_more = []
arguments_at test place (text_then text rest) = arguments_at test (place + 1) rest
arguments_at test place (expression_then e rest) = (if test place then e ∷ [] else []) ++ arguments_at test (place + 1) rest

-- the arguments of a call that are looked at
abbrev pub arguments_of_call : Callee → Bytes → Arguments → List Expression
arguments_of_call callee bytes args = arguments_at (call_looks callee bytes) 0 args

-- what an expression that is a name or a call means
abbrev pub meaning_of : (ℕ → Option Meaning) → Expression → Option Meaning
meaning_of meaning (literal at value integer) = None
meaning_of meaning (infinity at) = None
meaning_of meaning (name at bytes) = meaning at
meaning_of meaning (group at inner) = None
meaning_of meaning (unary at op operand) = None
meaning_of meaning (binary at left op right) = None
meaning_of meaning (choose at test a b) = None
meaning_of meaning (call at callee bytes args) = meaning at

abbrev pub is_ddt_function : Option Builtin → Bool
is_ddt_function (Some Ddt) = true
is_ddt_function _ = false

-- whether it is the time derivative operator
abbrev pub is_ddt : Option Meaning → Bool
is_ddt (Some (means.Builtin row)) = is_ddt_function (builtin_at row)
is_ddt _ = false

-- whether it is a variable of a set
abbrev pub is_variable_in : (ℕ → Bool) → Option Meaning → Bool
is_variable_in set (Some (means.Var variable)) = set variable
is_variable_in set _ = false

-- whether it is a potential or a flow of a branch
abbrev pub is_access : Option Meaning → Bool
is_access (Some (means.Access branch turned flow)) = true
is_access _ = false

-- whether it is the potential or the flow of this branch
abbrev pub is_access_to : ℕ → Option Meaning → Bool
is_access_to wanted (Some (means.Access branch turned flow)) = branch == wanted
is_access_to wanted _ = false

-- whether it is the flow of this branch
abbrev pub is_flow_of : ℕ → Option Meaning → Bool
is_flow_of wanted (Some (means.Access branch turned true)) = branch == wanted
is_flow_of wanted _ = false

abbrev pub is_integer : Ty → Bool
is_integer Integer = true
is_integer Real = false
