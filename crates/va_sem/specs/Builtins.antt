-- The built-in functions, system functions and tasks by their names; how many arguments they take, and the types of their answers.
use Rattle.std.specs.Prelude.{ℕ, zero, suc, option_map, ◌+◌, ◌==◌, nat_le, Bool, true, false, List, [], ◌∷◌, Option, Some, None, if◌then◌else◌, codes}
use Rattle.alg_laws.specs.declared.function.Fun1.TheVariants.{Exp, Ln, Log, Sqrt, Sin, Cos, Tan, Asin, Acos, Atan, Sinh, Cosh, Tanh, Asinh, Acosh, Atanh, Floor, Ceil}
use Rattle.alg_laws.specs.declared.function.Fun2.TheVariants.{Pow, Atan2, Hypot}
use Rattle.alg_laws.specs.declared.number.Ty.{Ty}
use Rattle.alg_laws.specs.declared.number.Ty.TheVariants.{Integer, Real}
use Rattle.va_tree.specs.declared.expr.Callee.{Callee}
use Rattle.va_tree.specs.declared.expr.Callee.TheVariants as callee
use Rattle.va_sem.specs.declared.builtin.Builtin.{Builtin}
use Rattle.va_sem.specs.declared.builtin.Builtin.TheVariants.{One, Two, Abs, Min, Max, LimExp, Ddt, LeftOut}
use Rattle.va_sem.specs.declared.builtin.SystemFunction.{SystemFunction}
use Rattle.va_sem.specs.declared.builtin.SystemFunction.TheVariants.{Temperature, ThermalVoltage, Limit, SimParam, ParamGiven}
use Rattle.va_sem.specs.declared.builtin.SystemName.{SystemName}
use Rattle.va_sem.specs.declared.builtin.SystemName.TheVariants.{Function, Task}
use Rattle.va_sem.specs.Lookup.{Bytes, place_of, words_of, entry_at, found}

-- The built-in functions (Mathematical functions, Limited exponential, Time derivative operator). The first is row 1. Rows are
-- only ever added at the end.
abbrev pub builtins : List (Bytes × Builtin)
builtins =
    (codes "exp", One Exp)
    ∷ (codes "ln", One Ln)
    ∷ (codes "log", One Log)
    ∷ (codes "sqrt", One Sqrt)
    ∷ (codes "sin", One Sin)
    ∷ (codes "cos", One Cos)
    ∷ (codes "tan", One Tan)
    ∷ (codes "asin", One Asin)
    ∷ (codes "acos", One Acos)
    ∷ (codes "atan", One Atan)
    ∷ (codes "sinh", One Sinh)
    ∷ (codes "cosh", One Cosh)
    ∷ (codes "tanh", One Tanh)
    ∷ (codes "asinh", One Asinh)
    ∷ (codes "acosh", One Acosh)
    ∷ (codes "atanh", One Atanh)
    ∷ (codes "floor", One Floor)
    ∷ (codes "ceil", One Ceil)
    ∷ (codes "pow", Two Pow)
    ∷ (codes "atan2", Two Atan2)
    ∷ (codes "hypot", Two Hypot)
    ∷ (codes "abs", Abs)
    ∷ (codes "min", Min)
    ∷ (codes "max", Max)
    ∷ (codes "limexp", LimExp)
    ∷ (codes "ddt", Ddt)
    ∷ (codes "ddx", LeftOut)
    ∷ (codes "white_noise", LeftOut)
    ∷ (codes "flicker_noise", LeftOut)
    ∷ (codes "idt", LeftOut)
    ∷ (codes "idtmod", LeftOut)
    ∷ (codes "laplace_zp", LeftOut)
    ∷ (codes "laplace_zd", LeftOut)
    ∷ (codes "laplace_np", LeftOut)
    ∷ (codes "laplace_nd", LeftOut)
    ∷ (codes "zi_zp", LeftOut)
    ∷ (codes "zi_zd", LeftOut)
    ∷ (codes "zi_np", LeftOut)
    ∷ (codes "zi_nd", LeftOut)
    ∷ (codes "transition", LeftOut)
    ∷ (codes "slew", LeftOut)
    ∷ (codes "absdelay", LeftOut)
    ∷ (codes "last_crossing", LeftOut)
    ∷ (codes "cross", LeftOut)
    ∷ (codes "timer", LeftOut)
    ∷ (codes "above", LeftOut)
    ∷ (codes "ac_stim", LeftOut)
    ∷ (codes "noise_table", LeftOut)
    ∷ (codes "analysis", LeftOut)
    ∷ []

abbrev pub builtin_of : Bytes → Option Builtin
builtin_of = found builtins

-- the function of a row
abbrev pub builtin_at : ℕ → Option Builtin
builtin_at zero = None
builtin_at (suc place) = entry_at builtins place

-- the row of a name
abbrev pub builtin_row : Bytes → Option ℕ
builtin_row name = option_map (λ place. place + 1) (place_of (words_of builtins) name)

-- the system names that have a meaning (Environment parameter functions, Simulation control and display tasks)
abbrev pub system_names : List (Bytes × SystemName)
system_names =
    (codes "$temperature", Function Temperature)
    ∷ (codes "$vt", Function ThermalVoltage)
    ∷ (codes "$limit", Function Limit)
    ∷ (codes "$simparam", Function SimParam)
    ∷ (codes "$param_given", Function ParamGiven)
    ∷ (codes "$strobe", Task)
    ∷ (codes "$display", Task)
    ∷ (codes "$write", Task)
    ∷ (codes "$warning", Task)
    ∷ (codes "$error", Task)
    ∷ (codes "$info", Task)
    ∷ (codes "$debug", Task)
    ∷ (codes "$finish", Task)
    ∷ (codes "$stop", Task)
    ∷ (codes "$fatal", Task)
    ∷ (codes "$discontinuity", Task)
    ∷ (codes "$bound_step", Task)
    ∷ []

abbrev pub system_name_of : Bytes → Option SystemName
system_name_of = found system_names

-- whether a function takes so many arguments; of one that is left out none is known
abbrev pub takes : Builtin → ℕ → Bool
takes (One f) n = n == 1
takes (Two f) n = n == 2
takes Abs n = n == 1
takes Min n = n == 2
takes Max n = n == 2
takes LimExp n = n == 1
takes Ddt n = n == 1
takes LeftOut n = true

abbrev pub system_takes : SystemFunction → ℕ → Bool
system_takes Temperature n = n == 0
system_takes ThermalVoltage n = nat_le n 1
system_takes Limit n = nat_le 1 n
system_takes SimParam n = n == 2
system_takes ParamGiven n = n == 1

-- what a function takes as its argument at a place
pub data Taken : Type 0 where
  a_number : Taken
  a_string : Taken
  an_access : Taken
  a_parameter : Taken
  anything : Taken

-- of a system function, at a place from 0 on (Environment parameter functions)
abbrev pub taken_by : SystemFunction → ℕ → Taken
taken_by Temperature place = a_number
taken_by ThermalVoltage place = a_number
taken_by Limit place = if place == 0 then an_access else anything
taken_by SimParam place = if place == 0 then a_string else a_number
taken_by ParamGiven place = a_parameter

abbrev pub taken_by_name : Option SystemName → ℕ → Taken
taken_by_name (Some (Function f)) place = taken_by f place
taken_by_name other place = anything

abbrev pub taken_at : Callee → Bytes → ℕ → Taken
taken_at callee.Function bytes place = a_number
taken_at callee.System bytes place = taken_by_name (system_name_of bytes) place

abbrev pub string_fits : Taken → Bool
string_fits a_number = false
string_fits a_string = true
string_fits an_access = false
string_fits a_parameter = false
string_fits anything = true

-- The types of arguments are listed in order; a string has none.

-- integer where all arguments are
abbrev pub common : List (Option Ty) → Ty
common [] = Integer
common (Some Integer ∷ rest) = common rest
common (Some Real ∷ rest) = Real
common (None ∷ rest) = Real

-- the type of a function's answer, by those of its arguments
abbrev pub answer_type : Builtin → List (Option Ty) → Ty
answer_type (One f) arguments = Real
answer_type (Two f) arguments = Real
answer_type Abs arguments = common arguments
answer_type Min arguments = common arguments
answer_type Max arguments = common arguments
answer_type LimExp arguments = Real
answer_type Ddt arguments = Real
answer_type LeftOut arguments = Real

-- the type of `$simparam`, which is its second argument
abbrev pub default_type : List (Option Ty) → Ty
default_type (first ∷ Some ty ∷ rest) = ty
default_type (first ∷ None ∷ rest) = Real
default_type (first ∷ []) = Real
default_type [] = Real

abbrev pub system_answer_type : SystemFunction → List (Option Ty) → Ty
system_answer_type Temperature arguments = Real
system_answer_type ThermalVoltage arguments = Real
system_answer_type Limit arguments = Real
system_answer_type SimParam arguments = default_type arguments
system_answer_type ParamGiven arguments = Integer

-- The arguments of a function that are looked at, by their places from 0 on, strings counted. Of `$limit` this is the first
-- alone, since this profile leaves to the simulator how it limits; a task has none.
abbrev pub argument_looked_at : SystemFunction → ℕ → Bool
argument_looked_at Temperature place = true
argument_looked_at ThermalVoltage place = true
argument_looked_at Limit place = place == 0
argument_looked_at SimParam place = true
argument_looked_at ParamGiven place = true
