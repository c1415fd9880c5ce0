-- What the functions that read the source promise to each other. It follows the program; no public contract names it.
use Rattle.std.specs.Prelude.{◌≡◌, ◌≤◌, ◌<◌, ◌+◌, ◌&&◌, ℕ, Bool, false, List, [], ◌∷◌, ◌++◌, length, Contains, Some, IsTrue}
use Rattle.std.specs.List.{IsDistinct, list_all}
use Rattle.std.specs.Str.{bytes_eq}
use Rattle.c_tree.specs.declared.short.Atom.{Atom}
use Rattle.c_tree.specs.declared.short.Atom.TheVariants.{Local}
use Rattle.c_tree.specs.declared.short.Right.{Right}
use Rattle.c_tree.specs.declared.short.Field.{Field}
use Rattle.c_tree.specs.declared.short.Statement.TheVariants.{Declare, Set}
use Rattle.c_tree.specs.declared.short.ShortModule.{ShortModule}
use Rattle.va_tree.specs.declared.expr.Expr.{Expr, Name}
use Rattle.va_tree.specs.declared.expr.Arg.{Arg}
use Rattle.va_tree.specs.declared.expr.Arg.TheVariants as arg
use Rattle.va_tree.specs.declared.module.Item.{Item}
use Rattle.va_tree.specs.declared.module.Module.{Module}
use Rattle.va_tree.specs.declared.source.Source.{Source}
use Rattle.va_tree.specs.Expressions.{Expression, expression_of}
use Rattle.first_form.specs.declared.code.Writer.{Writer}
use Rattle.first_form.specs.declared.sums.Scope.{Scope}
use Rattle.first_form.specs.declared.shape.Shape.{Shape}
use Rattle.first_form.specs.Form.{FirstForm, parameter_name, AreNamed, is_free, IsSum, open_in, IsSourceOfForm}
use Rattle.first_form.specs.Code.{Code, sum_code, flow_statements, form_statements, form_loads}

-- one declaration was added, of a local that is the atom
pub record HasDeclared (old : Writer) (right : Right) (new : Writer) (atom : Atom) : Type 0 where
  pub statements : new.statements.items ≡ old.statements.items ++ Declare old.next right ∷ []
  pub next : new.next ≡ old.next + 1
  pub local : atom ≡ Local old.next

-- one field was set
pub record HasSet (old : Writer) (field : Field) (value : Atom) (new : Writer) : Type 0 where
  pub statements : new.statements.items ≡ old.statements.items ++ Set field value ∷ []
  pub next : new.next ≡ old.next

-- the code of an expression was added, and the atom is its value
pub record HasWritten (old : Writer) (code : Code) (new : Writer) (atom : Atom) : Type 0 where
  pub statements : new.statements.items ≡ old.statements.items ++ code.statements
  pub next : new.next ≡ code.next
  pub value : atom ≡ code.atom

-- an expression of the program is this name alone, and so is an argument
abbrev pub is_name_of : List ℕ → Expr → Bool
is_name_of wanted (Name at bytes) = bytes_eq bytes wanted
is_name_of wanted others = false

abbrev pub is_name_argument : List ℕ → Arg → Bool
is_name_argument wanted (arg.Text text) = false
is_name_argument wanted (arg.Expr e) = is_name_of wanted e

-- the arguments of the program are the two ports, in order
abbrev pub are_port_arguments : List ℕ → List ℕ → List Arg → Bool
are_port_arguments first second (a ∷ c ∷ []) = is_name_argument first a && is_name_argument second c
are_port_arguments first second others = false

-- an expression of the form, with at most so many open parentheses
pub record IsSumIn (scope : Scope) (depth : ℕ) (e : Expression) : Type 0 where
  pub sum : IsSum scope.first.now scope.second.now scope.names e
  pub shallow : open_in e ≤ depth

-- An expression of the form was read, and its code was written.
pub record ReadsSum (scope : Scope) (depth : ℕ) (e : Expression) (old : Writer) (value : Atom) (new : Writer) : Type 0 where
  pub is : IsSumIn scope depth e
  pub written : HasWritten old (sum_code scope.names e old.next) new value

-- the flow was read, and the module is made of it
pub record ReadsFlow (scope : Scope) (flow : Expression) (tree : ShortModule) : Type 0 where
  pub is : IsSumIn scope 100 flow
  pub unknowns : tree.unknowns ≡ 2
  pub params : tree.params ≡ length scope.names
  pub eval : tree.eval ≡ flow_statements scope.names flow
  pub loads : tree.loads ≡ form_loads

-- a source has this module and nothing else, and the module has no attributes
pub record HasOnly (source : Source) (only : Module) : Type 0 where
  pub natures : source.natures ≡ []
  pub disciplines : source.disciplines ≡ []
  pub modules : source.modules ≡ only ∷ []
  pub attributes : only.attributes ≡ []

-- the names of the module and of its ports may stand, and those of the ports differ
pub record IsHeader (name first second : List ℕ) : Type 0 where
  pub name_free : IsTrue (is_free name)
  pub first_free : IsTrue (is_free first)
  pub second_free : IsTrue (is_free second)
  pub apart : first ≡ second → ⊥

-- some items declare parameters of these names, which may stand beside those of the ports
pub record HasNames (first second : List ℕ) (items : List Item) (names : List (List ℕ)) : Type 0 where
  pub named : AreNamed items names
  pub free : IsTrue (list_all is_free names)
  pub distinct : IsDistinct bytes_eq (first ∷ second ∷ names)
  pub few : length names ≤ 4096

-- an item declares a parameter of this name, which may stand beside those of the ports and of some parameters
pub record MayFollow (first second : List ℕ) (item : Item) (names : List (List ℕ)) (name : List ℕ) : Type 0 where
  pub named : parameter_name item.body ≡ Some name
  pub free : IsTrue (is_free name)
  pub fresh : Contains (first ∷ second ∷ names) name → ⊥
  pub few : length names < 4096

-- the name of an item's parameter was added
pub record AddsName (first second : List ℕ) (item : Item) (old new : List (List ℕ)) : Type 0 where
  pub name : List ℕ
  pub may : MayFollow first second item old name
  pub added : new ≡ old ++ name ∷ []

-- the parts of a shape keep the conditions of the form, where its parameters have these names
pub record IsShapeOfForm (shape : Shape) (names : List (List ℕ)) : Type 0 where
  pub header : IsHeader shape.name.now shape.first.now shape.second.now
  pub params : HasNames shape.first.now shape.second.now shape.parameters.now names
  pub sum : IsSum shape.first.now shape.second.now names (expression_of shape.flow.now)
  pub shallow : open_in (expression_of shape.flow.now) ≤ 100

-- a module is made of the parts of a shape
pub record ReadsShape (shape : Shape) (tree : ShortModule) : Type 0 where
  pub names : List (List ℕ)
  pub is : IsShapeOfForm shape names
  pub unknowns : tree.unknowns ≡ 2
  pub params : tree.params ≡ length names
  pub eval : tree.eval ≡ flow_statements names (expression_of shape.flow.now)
  pub loads : tree.loads ≡ form_loads

-- the source has parts of the form, and no others, and the module is made of them
pub record ReadsSource (source : Source) (tree : ShortModule) : Type 0 where
  pub form : FirstForm
  pub parts : IsSourceOfForm source form
  pub only : (other : FirstForm) → IsSourceOfForm source other → other ≡ form
  pub unknowns : tree.unknowns ≡ 2
  pub params : tree.params ≡ length form.params
  pub eval : tree.eval ≡ form_statements form
  pub loads : tree.loads ≡ form_loads
