-- The types of expressions (Operators, Expressions): integer or real.
use Rattle.std.specs.Prelude.{ℕ, zero, suc, ◌+◌, Bool, true, false, ◌==◌, ◌&&◌, ◌||◌, List, [], ◌∷◌, ◌++◌, map, find, length, flat_map, filter_map, get_or, Option, Some, None, option_map, unwrap_or, zip, if◌then◌else◌}
use Rattle.std.specs.Option.{is_some}
use Rattle.std.specs.List.{list_any, enumerate_from}
use Rattle.alg_laws.specs.declared.number.Ty.{Ty}
use Rattle.alg_laws.specs.declared.number.Ty.TheVariants.{Integer, Real}
use Rattle.alg_laws.specs.Least.{least}
use Rattle.va_tree.specs.declared.expr.UnaryOp.{UnaryOp}
use Rattle.va_tree.specs.declared.expr.UnaryOp.TheVariants.{Plus, Minus, Not}
use Rattle.va_tree.specs.declared.expr.BinaryOp.{BinaryOp}
use Rattle.va_tree.specs.declared.expr.BinaryOp.TheVariants.{Or, And, Equal, NotEqual, Less, AtMost, Greater, AtLeast, Add, Subtract, Multiply, Divide, Remainder, Power}
use Rattle.va_tree.specs.declared.expr.Callee.{Callee}
use Rattle.va_tree.specs.declared.expr.Callee.TheVariants as callee
use Rattle.va_tree.specs.declared.source.Source.{Source}
use Rattle.va_tree.specs.declared.module.Item.{Item}
use Rattle.va_tree.specs.declared.module.Module.{Module}
use Rattle.va_tree.specs.Expressions.{Expression, Arguments, literal, infinity, name, group, unary, binary, choose, call, no_more, text_then, expression_then}
use Rattle.va_tree.specs.Statements.{Statement, Statements, Items, Defaults, null, block, only_if, if_else, cases, for_loop, while_loop, repeat_loop, event, assign, contribute, task, no_more as no_statement, statement_then, no_items, item_then, no_defaults, default_then}
use Rattle.va_tree.specs.Declarations.{declared}
use Rattle.va_tree.specs.Parts.{Part, expression, statement, nature_parts, discipline_parts, attributes_parts, body_parts}
use Rattle.va_tree.specs.Preorder.{expressions_in, expressions_in_arguments, expressions_of_part}
use Rattle.va_sem.specs.declared.builtin.SystemName.{SystemName}
use Rattle.va_sem.specs.declared.builtin.SystemName.TheVariants as system
use Rattle.va_sem.specs.declared.names.Names.{Names}
use Rattle.va_sem.specs.declared.names.ModuleNames.{ModuleNames}
use Rattle.va_sem.specs.declared.names.NameUse.{NameUse}
use Rattle.va_sem.specs.declared.names.Meaning.{Meaning}
use Rattle.va_sem.specs.declared.names.Meaning.TheVariants as means
use Rattle.va_sem.specs.declared.typed.Typed.{Typed}
use Rattle.va_sem.specs.Lookup.{Bytes}
use Rattle.va_sem.specs.Builtins.{builtin_at, takes, system_takes, Taken, a_number, a_string, an_access, a_parameter, anything, taken_at, string_fits, answer_type, system_answer_type, common, system_name_of}
use Rattle.va_sem.specs.declared.builtin.Builtin.{Builtin}
use Rattle.va_sem.specs.LookedAt.{looked_at, call_looks}
use Rattle.va_sem.specs.Declarations.{VariableEntry, ParameterEntry, FunctionEntry, variables_of, parameters_of, functions_of, arguments_of_function}

-- the types of a function's arguments and of its result
pub record Signature : Type 0 where
  pub arguments : List Ty
  pub result : Ty

-- What types rest on: what the names of a module mean, and the types of its variables, parameters and functions by their numbers.
pub record Typing : Type 0 where
  pub uses : List NameUse
  pub variables : List Ty
  pub parameters : List Ty
  pub functions : List Signature

-- what a name at a token means
abbrev pub meaning_at : List NameUse → ℕ → Option Meaning
meaning_at uses at = option_map (λ (u : NameUse). u.meaning) (find (λ (u : NameUse). u.at == at) uses)

abbrev pub signature_at : List Signature → ℕ → Signature
signature_at functions n = get_or functions n (record { arguments = []; result = Real })

abbrev pub argument_count : Arguments → ℕ
argument_count no_more = 0
argument_count (text_then text rest) = argument_count rest + 1
argument_count (expression_then e rest) = argument_count rest + 1

-- whether a call takes so many arguments (Mathematical functions, User-defined analog functions)
abbrev pub builtin_takes : Option Builtin → ℕ → Bool
builtin_takes None n = true
builtin_takes (Some b) n = takes b n

abbrev pub meaning_takes : Typing → Option Meaning → ℕ → Bool
meaning_takes t (Some (means.Builtin row)) n = builtin_takes (builtin_at row) n
meaning_takes t (Some (means.Function f)) n = length (signature_at t.functions f).arguments == n
meaning_takes t other n = true

abbrev pub system_name_takes : Option SystemName → ℕ → Bool
system_name_takes (Some (system.Function f)) n = system_takes f n
system_name_takes other n = true

abbrev pub call_takes : Typing → ℕ → Callee → Bytes → ℕ → Bool
call_takes t at callee.Function bytes n = meaning_takes t (meaning_at t.uses at) n
call_takes t at callee.System bytes n = system_name_takes (system_name_of bytes) n

abbrev pub means_access : Option Meaning → Bool
means_access (Some (means.Access branch turned flow)) = true
means_access other = false

abbrev pub means_parameter : Option Meaning → Bool
means_parameter (Some (means.Param n)) = true
means_parameter other = false

-- an access and no more, and the bare name of a parameter
abbrev pub is_access_call : List NameUse → Expression → Bool
is_access_call uses (call at callee.Function bytes args) = means_access (meaning_at uses at)
is_access_call uses other = false

abbrev pub is_parameter_name : List NameUse → Expression → Bool
is_parameter_name uses (name at bytes) = means_parameter (meaning_at uses at)
is_parameter_name uses other = false

abbrev pub expression_fits : List NameUse → Taken → Expression → Bool
expression_fits uses a_number e = true
expression_fits uses a_string e = false
expression_fits uses an_access e = is_access_call uses e
expression_fits uses a_parameter e = is_parameter_name uses e
expression_fits uses anything e = true

-- whether all arguments are of the kinds that are taken, where the first of the list stands at a place
abbrev pub kinds_fit : List NameUse → (ℕ → Taken) → ℕ → Arguments → Bool
kinds_fit uses taken place no_more = true
kinds_fit uses taken place (text_then text rest) = string_fits (taken place) && kinds_fit uses taken (place + 1) rest
kinds_fit uses taken place (expression_then e rest) = expression_fits uses (taken place) e && kinds_fit uses taken (place + 1) rest

-- whether a call has as many arguments as it takes, and of these kinds
abbrev pub arguments_fit : Typing → ℕ → Callee → Bytes → Arguments → Bool
arguments_fit t at callee bytes args = call_takes t at callee bytes (argument_count args) && kinds_fit t.uses (taken_at callee bytes) 0 args

-- of a name that is read; where it has no type it is real
abbrev pub type_of_meaning : Typing → Option Meaning → Ty
type_of_meaning t (Some (means.Var n)) = get_or t.variables n Real
type_of_meaning t (Some (means.Param n)) = get_or t.parameters n Real
type_of_meaning t other = Real

abbrev pub either_type : Ty → Ty → Ty
either_type a b = common (Some a ∷ Some b ∷ [])

abbrev pub type_of_unary : UnaryOp → Ty → Ty
type_of_unary Plus ty = ty
type_of_unary Minus ty = ty
type_of_unary Not ty = Integer

abbrev pub type_of_binary : BinaryOp → Ty → Ty → Ty
type_of_binary Or a b = Integer
type_of_binary And a b = Integer
type_of_binary Equal a b = Integer
type_of_binary NotEqual a b = Integer
type_of_binary Less a b = Integer
type_of_binary AtMost a b = Integer
type_of_binary Greater a b = Integer
type_of_binary AtLeast a b = Integer
type_of_binary Add a b = either_type a b
type_of_binary Subtract a b = either_type a b
type_of_binary Multiply a b = either_type a b
type_of_binary Divide a b = either_type a b
type_of_binary Remainder a b = either_type a b
type_of_binary Power a b = Real

-- Of a call, by whether its arguments fit, and by their types: a string has none. A call of a built-in or system function whose
-- arguments don't fit has no type.
abbrev pub type_of_builtin : Option Builtin → List (Option Ty) → Ty
type_of_builtin None arguments = Real
type_of_builtin (Some b) arguments = answer_type b arguments

abbrev pub type_of_called : Typing → Bool → List (Option Ty) → Option Meaning → Ty
type_of_called t fit arguments (Some (means.Builtin row)) = if fit then type_of_builtin (builtin_at row) arguments else Real
type_of_called t fit arguments (Some (means.Function n)) = (signature_at t.functions n).result
type_of_called t fit arguments other = Real

abbrev pub type_of_system : Bool → List (Option Ty) → Option SystemName → Ty
type_of_system fit arguments (Some (system.Function f)) = if fit then system_answer_type f arguments else Real
type_of_system fit arguments other = Real

abbrev pub type_of_call : Typing → ℕ → Callee → Bytes → Bool → List (Option Ty) → Ty
type_of_call t at callee.Function bytes fit arguments = type_of_called t fit arguments (meaning_at t.uses at)
type_of_call t at callee.System bytes fit arguments = type_of_system fit arguments (system_name_of bytes)

-- of a numeral
abbrev pub type_of_literal : Bool → Ty
type_of_literal true = Integer
type_of_literal false = Real

abbrev mutual
  pub type_of : Typing → Expression → Ty
  type_of t (literal at value integer) = type_of_literal integer
  type_of t (infinity at) = Real
  type_of t (name at bytes) = type_of_meaning t (meaning_at t.uses at)
  type_of t (group at inner) = type_of t inner
  type_of t (unary at op operand) = type_of_unary op (type_of t operand)
  type_of t (binary at left op right) = type_of_binary op (type_of t left) (type_of t right)
  type_of t (choose at test a b) = either_type (type_of t a) (type_of t b)
  type_of t (call at callee bytes args) = type_of_call t at callee bytes (arguments_fit t at callee bytes args) (types_of_arguments t args)

  pub types_of_arguments : Typing → Arguments → List (Option Ty)
  types_of_arguments t no_more = []
  types_of_arguments t (text_then text rest) = None ∷ types_of_arguments t rest
  types_of_arguments t (expression_then e rest) = Some (type_of t e) ∷ types_of_arguments t rest

-- the parameters that an expression reads
abbrev pub parameter_number : Option Meaning → Option ℕ
parameter_number (Some (means.Param n)) = Some n
parameter_number other = None

abbrev pub parameter_read : List NameUse → Expression → Option ℕ
parameter_read uses (name at bytes) = parameter_number (meaning_at uses at)
parameter_read uses other = None

-- those that the type of a parameter rests on; a written type rests on none
abbrev pub reads_for_type : List NameUse → ParameterEntry → List ℕ
reads_for_type uses p = if is_some p.ty then [] else filter_map (parameter_read uses) (looked_at p.default)

abbrev pub is_in : List ℕ → ℕ → Bool
is_in numbers n = list_any (λ k. k == n) numbers

-- whether a parameter's default leads back to it, where each parameter's type rests on these
abbrev pub leads_back : List (List ℕ) → ℕ → Bool
leads_back reads p =
    let follows : (ℕ → Bool) → ℕ → Bool =
    λ set q. is_in (get_or reads p []) q || list_any (λ (e : ℕ × List ℕ). set e.0 && is_in e.1 q) (enumerate_from 0 reads) in
    least (length reads) follows p

-- A parameter has its written type, else that of its default; one whose default leads back to it is real (Parameters). The types
-- of all are found by going that deep into defaults as there are parameters.
abbrev pub default_type_or : Typing → Bool → ParameterEntry → Option Ty → Ty
default_type_or t back p (Some written) = written
default_type_or t back p None = if back then Real else type_of t p.default

abbrev pub parameter_types : List (List ℕ) → List ParameterEntry → Typing → ℕ → List Ty
parameter_types reads parameters t zero = map (λ (p : ParameterEntry). unwrap_or p.ty Real) parameters
parameter_types reads parameters t (suc depth) =
    let deeper : Typing = record t { parameters = parameter_types reads parameters t depth } in
    map (λ (e : ℕ × ParameterEntry). default_type_or deeper (leads_back reads e.0) e.1 e.1.ty) (enumerate_from 0 parameters)

abbrev pub signature_of : FunctionEntry → Signature
signature_of f = record { arguments = map (λ (v : VariableEntry). v.ty) (arguments_of_function f); result = f.ty }

-- the types in a module whose names mean this
abbrev pub typing_of : List NameUse → Module → Typing
typing_of uses m =
    let parameters = parameters_of m in
    let without : Typing = record {
      uses = uses;
      variables = map (λ (v : VariableEntry). v.ty) (variables_of m);
      parameters = [];
      functions = map signature_of (functions_of m);
    } in
    record without { parameters = parameter_types (map (reads_for_type uses) parameters) parameters without (length parameters) }

-- Types in pre-order, each before those in it. Where an expression isn't looked at, it and those in it are real.
abbrev pub all_real : List Expression → List Ty
all_real = map (λ e. Real)

abbrev mutual
  pub types_in : Typing → Expression → List Ty
  types_in t (literal at value integer) = type_of_literal integer ∷ []
  types_in t (infinity at) = Real ∷ []
  types_in t (name at bytes) = type_of t (name at bytes) ∷ []
  types_in t (group at inner) = type_of t (group at inner) ∷ types_in t inner
  types_in t (unary at op operand) = type_of t (unary at op operand) ∷ types_in t operand
  types_in t (binary at left op right) = type_of t (binary at left op right) ∷ types_in t left ++ types_in t right
  types_in t (choose at test a b) = type_of t (choose at test a b) ∷ types_in t test ++ types_in t a ++ types_in t b
  types_in t (call at callee bytes args) = type_of t (call at callee bytes args) ∷ types_in_arguments t (call_looks callee bytes) 0 args

  pub types_in_arguments : Typing → (ℕ → Bool) → ℕ → Arguments → List Ty
  types_in_arguments t looks place no_more = []
  types_in_arguments t looks place (text_then text rest) = types_in_arguments t looks (place + 1) rest
  types_in_arguments t looks place (expression_then e rest) =
      (if looks place then types_in t e else all_real (expressions_in e)) ++ types_in_arguments t looks (place + 1) rest

abbrev mutual
  pub types_in_statement : Typing → Statement → List Ty
  types_in_statement t (null at) = []
  types_in_statement t (block at label declarations body) = flat_map (types_in t) (declared declarations) ++ types_in_statements t body
  types_in_statement t (only_if at test a) = types_in t test ++ types_in_statement t a
  types_in_statement t (if_else at test a b) = types_in t test ++ types_in_statement t a ++ types_in_statement t b
  types_in_statement t (cases at selector items defaults) = types_in t selector ++ types_in_items t items ++ types_in_defaults t defaults
  types_in_statement t (for_loop at target first test target' step body) = types_in t first ++ types_in t test ++ types_in t step ++ types_in_statement t body
  types_in_statement t (while_loop at test body) = types_in t test ++ types_in_statement t body
  types_in_statement t (repeat_loop at count body) = types_in t count ++ types_in_statement t body
  types_in_statement t (event at kind analyses body) = types_in_statement t body
  types_in_statement t (assign at target value) = types_in t value
  types_in_statement t (contribute at access first second value) = types_in t value
  types_in_statement t (task at bytes args) = all_real (expressions_in_arguments args)

  pub types_in_statements : Typing → Statements → List Ty
  types_in_statements t no_statement = []
  types_in_statements t (statement_then s rest) = types_in_statement t s ++ types_in_statements t rest

  pub types_in_items : Typing → Items → List Ty
  types_in_items t no_items = []
  types_in_items t (item_then at values body rest) = flat_map (types_in t) values ++ types_in_statement t body ++ types_in_items t rest

  pub types_in_defaults : Typing → Defaults → List Ty
  types_in_defaults t no_defaults = []
  types_in_defaults t (default_then at body rest) = types_in_statement t body ++ types_in_defaults t rest

abbrev pub types_in_part : Typing → Part → List Ty
types_in_part t (expression e) = types_in t e
types_in_part t (statement s) = types_in_statement t s

-- in parts that have no types
abbrev pub no_types : List Part → List Ty
no_types parts = all_real (flat_map expressions_of_part parts)

abbrev pub types_in_item : Typing → Item → List Ty
types_in_item t i = no_types (attributes_parts i.attributes) ++ flat_map (types_in_part t) (body_parts i.body)

abbrev pub types_in_module : ModuleNames → Module → List Ty
types_in_module names m = no_types (attributes_parts m.attributes) ++ flat_map (types_in_item (typing_of names.uses m)) m.items

-- each module with its names
abbrev pub modules_with : Source → Names → List (Module × ModuleNames)
modules_with s names = zip s.modules names.modules

-- the types of all expressions of a text
abbrev pub types_of : Source → Names → Typed
types_of s names = record {
  exprs =
      no_types (flat_map nature_parts s.natures ++ flat_map discipline_parts s.disciplines)
      ++ flat_map (λ (e : Module × ModuleNames). types_in_module e.1 e.0) (modules_with s names);
}
