-- Small texts for rows that are worked out by hand. Each part knows how many tokens it has, so that tokens have the numbers that
-- they have in the text; names have no bytes but those of built-in functions, since what they mean stands beside them.
use Rattle.std.specs.Prelude.{ℕ, ◌+◌, ◌*◌, length, pos, true, false, Bool, List, [], ◌∷◌, ◌++◌, Option, Some, None, codes, unwrap_or}
use Rattle.va_tree.specs.declared.name.NameAt.{NameAt}
use Rattle.va_tree.specs.declared.expr.UnaryOp.{UnaryOp}
use Rattle.va_tree.specs.declared.expr.BinaryOp.{BinaryOp}
use Rattle.va_tree.specs.declared.expr.Callee.TheVariants.{Function, System}
use Rattle.va_tree.specs.declared.stmt.EventKind.TheVariants.{FinalStep}
use Rattle.va_tree.specs.Expressions.{Expression, Arguments, literal, name, group, unary, binary, choose, call, no_more, expression_then}
use Rattle.va_tree.specs.Statements.{Statement, Statements, null, block, only_if, if_else, cases, for_loop, while_loop, event, assign, contribute, no_more as no_statement, statement_then, no_items, item_then, no_defaults, default_then}
use Rattle.va_sem.specs.declared.names.Meaning.{Meaning}
use Rattle.va_sem.specs.declared.names.Meaning.TheVariants as means
use Rattle.va_sem.specs.declared.names.NameUse.{NameUse}
use Rattle.va_sem.specs.Builtins.{builtin_row}
use Rattle.va_sem.specs.Lookup.{Bytes}

-- what a part of a text is, what its names mean, and the token after it
pub record Part (T : Type 0) : Type 0 where
  pub is : T
  pub uses : List NameUse
  pub after : ℕ

-- a part, by the token at which it begins
abbrev pub Written : Type 0 → Type 0
Written T = ℕ → Part T

abbrev pub part : {T : Type 0} → T → List NameUse → ℕ → Part T
part is uses after = record { is = is; uses = uses; after = after }

abbrev pub use_of : ℕ → Meaning → List NameUse
use_of at m = record { at = at; meaning = m } ∷ []

abbrev pub no_name : ℕ → NameAt
no_name at = record { at = at; name = [] }

-- an integer numeral
abbrev pub number : ℕ → Written Expression
number mantissa at = part (literal at (record { mantissa = mantissa; power = pos 0 }) true) [] (at + 1)

abbrev pub variable : ℕ → Written Expression
variable x at = part (name at []) (use_of at (means.Var x)) (at + 1)

abbrev pub parameter : ℕ → Written Expression
parameter p at = part (name at []) (use_of at (means.Param p)) (at + 1)

-- an access: its branch, whether it is of the flow, and what the names in its parentheses mean
pub record Access : Type 0 where
  pub branch : ℕ
  pub flow : Bool
  pub names : List Meaning

abbrev pub name_arguments : ℕ → List Meaning → Arguments
name_arguments at [] = no_more
name_arguments at (m ∷ rest) = expression_then (name at []) (name_arguments (at + 2) rest)

abbrev pub name_uses : ℕ → List Meaning → List NameUse
name_uses at [] = []
name_uses at (m ∷ rest) = use_of at m ++ name_uses (at + 2) rest

abbrev pub access_uses : Access → ℕ → List NameUse
access_uses x at = use_of at (means.Access x.branch false x.flow) ++ name_uses (at + 2) x.names

-- the token after an access: there is one token between each two names
abbrev pub after_access : Access → ℕ → ℕ
after_access x at = at + 2 + 2 * length x.names

abbrev pub reads : Access → Written Expression
reads x at = part (call at Function [] (name_arguments (at + 2) x.names)) (access_uses x at) (after_access x at)

abbrev pub in_parentheses : Written Expression → Written Expression
in_parentheses e at = let inner = e (at + 1) in part (group at inner.is) inner.uses (inner.after + 1)

abbrev pub signed : UnaryOp → Written Expression → Written Expression
signed op e at = let inner = e (at + 1) in part (unary at op inner.is) inner.uses inner.after

abbrev pub between : Written Expression → BinaryOp → Written Expression → Written Expression
between left op right at =
    let l = left at in
    let r = right (l.after + 1) in
    part (binary at l.is op r.is) (l.uses ++ r.uses) r.after

abbrev pub choice : Written Expression → Written Expression → Written Expression → Written Expression
choice test first second at =
    let t = test at in
    let a = first (t.after + 1) in
    let b = second (a.after + 1) in
    part (choose at t.is a.is b.is) (t.uses ++ a.uses ++ b.uses) b.after

-- a call of a built-in function of one argument
abbrev pub of : Bytes → Written Expression → Written Expression
of function e at =
    let inner = e (at + 2) in
    part (call at Function function (expression_then inner.is no_more))
    (use_of at (means.Builtin (unwrap_or (builtin_row function) 0)) ++ inner.uses)
    (inner.after + 1)

abbrev pub ddt : Written Expression → Written Expression
ddt = of (codes "ddt")

-- a call of a function of the module with two arguments
abbrev pub calls : ℕ → Written Expression → Written Expression → Written Expression
calls function first second at =
    let a = first (at + 2) in
    let b = second (a.after + 1) in
    part (call at Function [] (expression_then a.is (expression_then b.is no_more))) (use_of at (means.Function function) ++ a.uses ++ b.uses) (b.after + 1)

-- `$limit` of two arguments
abbrev pub limited : Written Expression → Written Expression → Written Expression
limited first second at =
    let a = first (at + 2) in
    let b = second (a.after + 1) in
    part (call at System (codes "$limit") (expression_then a.is (expression_then b.is no_more))) (a.uses ++ b.uses) (b.after + 1)

-- `;`
abbrev pub nothing : Written Statement
nothing at = part (null at) [] (at + 1)

-- `x = e;`
abbrev pub assigns : ℕ → Written Expression → Written Statement
assigns x e at = let value = e (at + 2) in part (assign at [] value.is) (use_of at (means.Var x) ++ value.uses) (value.after + 1)

abbrev pub second_name : ℕ → List Meaning → Option NameAt
second_name at (first ∷ second ∷ rest) = Some (no_name at)
second_name at _ = None

-- `I(a, c) <+ e;`
abbrev pub contributes : Access → Written Expression → Written Statement
contributes x e at =
    let value = e (after_access x at + 1) in
    part (contribute at [] (no_name (at + 2)) (second_name (at + 4) x.names) value.is) (access_uses x at ++ value.uses) (value.after + 1)

-- `if (t) s`
abbrev pub if_only : Written Expression → Written Statement → Written Statement
if_only test s at =
    let t = test (at + 2) in
    let a = s (t.after + 1) in
    part (only_if at t.is a.is) (t.uses ++ a.uses) a.after

-- `if (t) s else r`
abbrev pub if_or_else : Written Expression → Written Statement → Written Statement → Written Statement
if_or_else test first second at =
    let t = test (at + 2) in
    let a = first (t.after + 1) in
    let b = second (a.after + 1) in
    part (if_else at t.is a.is b.is) (t.uses ++ a.uses ++ b.uses) b.after

-- `case (e) default : s v : r endcase`, in which the default stands first
abbrev pub case_default_first : Written Expression → Written Statement → Written Expression → Written Statement → Written Statement
case_default_first selector default value body at =
    let e = selector (at + 2) in
    let s = default (e.after + 3) in
    let v = value s.after in
    let r = body (v.after + 1) in
    part (cases at e.is (item_then s.after (v.is ∷ []) r.is no_items) (default_then (e.after + 1) s.is no_defaults)) (e.uses ++ s.uses ++ v.uses ++ r.uses) (r.after + 1)

-- `while (t) s`
abbrev pub during : Written Expression → Written Statement → Written Statement
during test s at =
    let t = test (at + 2) in
    let a = s (t.after + 1) in
    part (while_loop at t.is a.is) (t.uses ++ a.uses) a.after

-- `for (x = e; t; x = f) s`
abbrev pub counting : ℕ → Written Expression → Written Expression → Written Expression → Written Statement → Written Statement
counting x first test step s at =
    let e = first (at + 4) in
    let t = test (e.after + 1) in
    let f = step (t.after + 3) in
    let a = s (f.after + 1) in
    part (for_loop at (no_name (at + 2)) e.is t.is (no_name (t.after + 1)) f.is a.is)
    (use_of (at + 2) (means.Var x) ++ e.uses ++ t.uses ++ use_of (t.after + 1) (means.Var x) ++ f.uses ++ a.uses)
    a.after

-- `@(final_step) s`
abbrev pub finally : Written Statement → Written Statement
finally s at = let a = s (at + 4) in part (event at FinalStep [] a.is) a.uses a.after

abbrev pub sequence : List (Written Statement) → Written Statements
sequence [] at = part no_statement [] at
sequence (s ∷ rest) at =
    let first = s at in
    let others = sequence rest first.after in
    part (statement_then first.is others.is) (first.uses ++ others.uses) others.after

-- `begin statements end`
abbrev pub begins : List (Written Statement) → Written Statement
begins all at = let body = sequence all (at + 1) in part (block at None [] body.is) body.uses (body.after + 1)
