-- A short notation for the trees of small texts. A piece of text knows how many tokens it has, so that every part of a tree has
-- the index that its first token has in the text.
use Rattle.std.specs.Prelude.{ℕ, ◌+◌, ℤ, pos, Bool, true, false, List, [], ◌∷◌, Option, Some, None, codes}
use Rattle.va_tree.specs.declared.name.NameAt.{NameAt}
use Rattle.va_tree.specs.declared.expr.Arg.{Arg}
use Rattle.va_tree.specs.declared.expr.Arg.TheVariants as arg
use Rattle.va_tree.specs.declared.expr.BinaryOp.{BinaryOp}
use Rattle.va_tree.specs.declared.expr.Callee.TheVariants as callee
use Rattle.va_tree.specs.declared.expr.Expr.{Expr}
use Rattle.va_tree.specs.declared.expr.Expr.TheVariants.{Literal, Inf, Name, Group, Unary, Binary, Choose, Call}
use Rattle.va_tree.specs.declared.expr.UnaryOp.{UnaryOp}
use Rattle.va_tree.specs.declared.module.Declaration.{Declaration}
use Rattle.va_tree.specs.declared.module.FunctionItem.TheVariants as function_item
use Rattle.va_tree.specs.declared.module.Item.{Item}
use Rattle.va_tree.specs.declared.module.ItemBody.{ItemBody}
use Rattle.va_tree.specs.declared.module.ItemBody.TheVariants as item
use Rattle.va_tree.specs.declared.module.Parameter.{Parameter}
use Rattle.va_tree.specs.declared.module.Range.{Range}
use Rattle.va_tree.specs.declared.module.Range.TheVariants as range
use Rattle.va_tree.specs.declared.module.Ty.{Ty}
use Rattle.va_tree.specs.declared.module.Variable.{Variable}
use Rattle.va_tree.specs.declared.source.AttributeGroup.{AttributeGroup}
use Rattle.va_tree.specs.declared.source.Attribute.{Attribute}
use Rattle.va_tree.specs.declared.stmt.Assignment.{Assignment}
use Rattle.va_tree.specs.declared.stmt.CaseDefault.{CaseDefault}
use Rattle.va_tree.specs.declared.stmt.CaseItem.{CaseItem}
use Rattle.va_tree.specs.declared.stmt.EventKind.{EventKind}
use Rattle.va_tree.specs.declared.stmt.Stmt.{Stmt}
use Rattle.va_tree.specs.declared.stmt.Stmt.TheVariants.{Null, Block, If, Case, For, While, Repeat, Event, Assign, Contribute, Task}
use Rattle.va_sem.specs.Lookup.{Bytes}

-- a tree, and the index of the token after it
pub record Piece (T : Type 0) : Type 0 where
  pub is : T
  pub after : ℕ

-- a piece of text, by the index of its first token
abbrev pub Text : Type 0 → Type 0
Text T = ℕ → Piece T

abbrev pub piece : {T : Type 0} → T → ℕ → Piece T
piece is after = record { is = is; after = after }

abbrev pub n : ℕ → Bytes → NameAt
n at name = record { at = at; name = name }

-- pieces with a token after each of them, as commas and brackets stand
abbrev pub listed : {T : Type 0} → List (Text T) → Text (List T)
listed [] at = piece [] at
listed (one ∷ rest) at =
    let first = one at in
    let others = listed rest (first.after + 1) in
    piece (first.is ∷ others.is) others.after

-- pieces with nothing between them
abbrev pub row : {T : Type 0} → List (Text T) → Text (List T)
row [] at = piece [] at
row (one ∷ rest) at =
    let first = one at in
    let others = row rest first.after in
    piece (first.is ∷ others.is) others.after

-- An integer numeral; a real one, by its mantissa and its power of ten; a name.
abbrev pub whole : ℕ → Text Expr
whole value at = piece (Literal at (record { mantissa = value; power = pos 0 }) true) (at + 1)

abbrev pub decimal : ℕ → ℤ → Text Expr
decimal mantissa power at = piece (Literal at (record { mantissa = mantissa; power = power }) false) (at + 1)

abbrev pub name : Bytes → Text Expr
name bytes at = piece (Name at bytes) (at + 1)

abbrev pub infinity : Text Expr
infinity at = piece (Inf at) (at + 1)

-- (e), op e, e op f, t ? e : f
abbrev pub in_parentheses : Text Expr → Text Expr
in_parentheses e at = let inner = e (at + 1) in piece (Group at inner.is) (inner.after + 1)

abbrev pub signed : UnaryOp → Text Expr → Text Expr
signed op e at = let operand = e (at + 1) in piece (Unary at op operand.is) operand.after

abbrev pub between : Text Expr → BinaryOp → Text Expr → Text Expr
between e op f at =
    let left = e at in
    let right = f (left.after + 1) in
    piece (Binary at left.is op right.is) right.after

abbrev pub choice : Text Expr → Text Expr → Text Expr → Text Expr
choice t e f at =
    let test = t at in
    let first = e (test.after + 1) in
    let second = f (first.after + 1) in
    piece (Choose at test.is first.is second.is) second.after

-- arguments
abbrev pub expression : Text Expr → Text Arg
expression e at = let inner = e at in piece (arg.Expr inner.is) inner.after

abbrev pub string : Bytes → Text Arg
string bytes at = piece (arg.Text (n at bytes)) (at + 1)

-- f(e, ..), and a system name with arguments or without
abbrev pub called : Bytes → List (Text Arg) → Text Expr
called f args at = let inner = listed args (at + 2) in piece (Call at callee.Function f inner.is) inner.after

abbrev pub system : Bytes → List (Text Arg) → Text Expr
system f args at = let inner = listed args (at + 2) in piece (Call at callee.System f inner.is) inner.after

abbrev pub system_alone : Bytes → Text Expr
system_alone f at = piece (Call at callee.System f []) (at + 1)

-- a call with one expression, and with two
abbrev pub of : Bytes → Text Expr → Text Expr
of f e = called f (expression e ∷ [])

abbrev pub of_two : Bytes → Text Expr → Text Expr → Text Expr
of_two f e g = called f (expression e ∷ expression g ∷ [])

-- V(a), V(a, c)
abbrev pub to_ground : Bytes → Bytes → Text Expr
to_ground access a = of access (name a)

abbrev pub across : Bytes → Bytes → Bytes → Text Expr
across access a c = of_two access (name a) (name c)

-- x = e;  I(a) <+ e;  I(a, c) <+ e;
abbrev pub assign : Bytes → Text Expr → Text Stmt
assign x e at = let value = e (at + 2) in piece (Assign at x value.is) (value.after + 1)

abbrev pub contribute_alone : Bytes → Bytes → Text Expr → Text Stmt
contribute_alone access a e at = let value = e (at + 5) in piece (Contribute at access (n (at + 2) a) None value.is) (value.after + 1)

abbrev pub contribute : Bytes → Bytes → Bytes → Text Expr → Text Stmt
contribute access a c e at = let value = e (at + 7) in piece (Contribute at access (n (at + 2) a) (Some (n (at + 4) c)) value.is) (value.after + 1)

-- ;  begin .. end  if (t) s  if (t) s else r
abbrev pub nothing : Text Stmt
nothing at = piece (Null at) (at + 1)

abbrev pub begins : List (Text Stmt) → Text Stmt
begins all at = let body = row all (at + 1) in piece (Block at None [] body.is) (body.after + 1)

abbrev pub if_only : Text Expr → Text Stmt → Text Stmt
if_only t s at =
    let test = t (at + 2) in
    let first = s (test.after + 1) in
    piece (If at test.is first.is None) first.after

abbrev pub if_or_else : Text Expr → Text Stmt → Text Stmt → Text Stmt
if_or_else t s r at =
    let test = t (at + 2) in
    let first = s (test.after + 1) in
    let second = r (first.after + 1) in
    piece (If at test.is first.is (Some second.is)) second.after

-- e : s, and case (e) .. endcase without a default
abbrev pub case_item : Text Expr → Text Stmt → Text CaseItem
case_item e s at =
    let value = e at in
    let body = s (value.after + 1) in
    piece (record { at = at; values = value.is ∷ []; body = body.is }) body.after

abbrev pub cases : Text Expr → List (Text CaseItem) → Text Stmt
cases e all at =
    let selector = e (at + 2) in
    let items = row all (selector.after + 1) in
    piece (Case at selector.is items.is []) (items.after + 1)

-- x = e without `;`, and for (..; t; ..) s  while (t) s  repeat (e) s
abbrev pub sets : Bytes → Text Expr → Text Assignment
sets x e at = let value = e (at + 2) in piece (record { target = n at x; value = value.is }) value.after

abbrev pub counting : Text Assignment → Text Expr → Text Assignment → Text Stmt → Text Stmt
counting f t g s at =
    let first = f (at + 2) in
    let test = t (first.after + 1) in
    let step = g (test.after + 1) in
    let body = s (step.after + 1) in
    piece (For at first.is test.is step.is body.is) body.after

abbrev pub during : Text Expr → Text Stmt → Text Stmt
during t s at =
    let test = t (at + 2) in
    let body = s (test.after + 1) in
    piece (While at test.is body.is) body.after

abbrev pub repeats : Text Expr → Text Stmt → Text Stmt
repeats e s at =
    let count = e (at + 2) in
    let body = s (count.after + 1) in
    piece (Repeat at count.is body.is) body.after

abbrev pub waits : EventKind → Text Stmt → Text Stmt
waits event s at = let body = s (at + 4) in piece (Event at event [] body.is) body.after

-- $strobe(..); and its like
abbrev pub task : Bytes → List (Text Arg) → Text Stmt
task f args at = let inner = listed args (at + 2) in piece (Task at f inner.is) (inner.after + 1)

-- default : s, and case (e) default : .. items endcase
abbrev pub default_first : Text Expr → Text Stmt → List (Text CaseItem) → Text Stmt
default_first e s all at =
    let selector = e (at + 2) in
    let body = s (selector.after + 3) in
    let items = row all body.after in
    let default : CaseDefault = record { at = selector.after + 1; body = body.is } in
    piece (Case at selector.is items.is (default ∷ [])) (items.after + 1)

-- items, without attributes
abbrev pub plain : ItemBody → Item
plain body = record { attributes = []; body = body }

-- a variable without an initialiser, and with one
abbrev pub variable : Bytes → Text Variable
variable x at = piece (record { name = n at x; initialiser = None }) (at + 1)

abbrev pub initialised : Bytes → Text Expr → Text Variable
initialised x e at = let value = e (at + 2) in piece (record { name = n at x; initialiser = Some value.is }) value.after

abbrev pub variables : Ty → List (Text Variable) → Text Item
variables ty all at = let list = listed all (at + 1) in piece (plain (item.Variables (record { at = at; ty = ty; variables = list.is }))) list.after

-- begin : b variables statements end, with the variables of one declaration
abbrev pub labelled : Bytes → Ty → List (Text Variable) → List (Text Stmt) → Text Stmt
labelled b ty all statements at =
    let list = listed all (at + 4) in
    let body = row statements list.after in
    piece (Block at (Some (n (at + 2) b)) ((let d : Declaration = record { at = at + 3; ty = ty; variables = list.is } in d) ∷ []) body.is) (body.after + 1)

-- a parameter with its default, and with ranges
abbrev pub defaulted : Bytes → Text Expr → List (Text Range) → Text Parameter
defaulted p e all at =
    let default = e (at + 2) in
    let ranges = row all default.after in
    piece (record { name = n at p; default = default.is; ranges = ranges.is }) ranges.after

-- from [low:high) and its like: whether the ends are closed
abbrev pub from : Bool → Text Expr → Text Expr → Bool → Text Range
from low_closed e f high_closed at =
    let low = e (at + 2) in
    let high = f (low.after + 1) in
    piece (range.From (record { low = record { closed = low_closed; value = low.is }; high = record { closed = high_closed; value = high.is } })) (high.after + 1)

abbrev pub excluding : Text Expr → Text Range
excluding e at = let value = e (at + 1) in piece (range.ExcludeValue value.is) value.after

-- parameter p;  localparam p;
abbrev pub parameters : Bool → Option Ty → List (Text Parameter) → Text Item
parameters local ty all at = let list = listed all (at + 2) in piece (plain (item.Parameters at local ty list.is)) list.after

-- (* type = "instance" *) parameter p;
abbrev pub instance_parameters : Option Ty → List (Text Parameter) → Text Item
instance_parameters ty all at =
    let list = listed all (at + 7) in
    let attribute : Attribute = record { at = at + 1; name = codes "type"; value = Some (arg.Text (n (at + 3) (codes "instance"))) } in
    let group : AttributeGroup = record { attributes = attribute ∷ [] } in
    piece (record { attributes = group ∷ []; body = item.Parameters (at + 5) false ty list.is }) list.after

-- aliasparam q = p;
abbrev pub alias : Bytes → Bytes → Text Item
alias q p at = piece (plain (item.Alias at (n (at + 1) q) (n (at + 3) p))) (at + 5)

-- branch (a, c) b;
abbrev pub branch : Bytes → Bytes → Bytes → Text Item
branch a c b at = piece (plain (item.Branch at (n (at + 2) a) (Some (n (at + 4) c)) (n (at + 6) b ∷ []))) (at + 8)

-- electrical i;
abbrev pub node : Bytes → Text Item
node i at = piece (plain (item.Nodes at (codes "electrical") (n (at + 1) i ∷ []))) (at + 3)

-- analog function ty f; input x, ..; s endfunction, of real arguments
abbrev pub names : List Bytes → Text (List NameAt)
names [] at = piece [] at
names (x ∷ xs) at = let rest = names xs (at + 2) in piece (n at x ∷ rest.is) rest.after

abbrev pub function : Option Ty → Bytes → List Bytes → Text Stmt → Text Item
function ty f inputs s at =
    let arguments = names inputs (at + 6) in
    let body = s arguments.after in
    piece (plain (item.Function at ty (n (at + 3) f) (function_item.Input (at + 5) arguments.is ∷ []) body.is)) (body.after + 1)

-- analog s
abbrev pub analog : Text Stmt → Text Item
analog s at = let body = s (at + 1) in piece (plain (item.Analog at body.is)) body.after
