-- What is known of the values of two evaluations, where it isn't the same for all: some variables may have equal values in both, some
-- values that don't move, and of some nothing may be known. A class says how two values are related. Variables, sums that branches hold
-- and unknowns have classes, and a module keeps to them where each value that is assigned or contributed is of the class that its
-- place has.
use Rattle.std.specs.Prelude.{◌≡◌, ℕ, ◌⊎◌, Bool, true, false, List, [], ◌∷◌, Option, Some, None}
use Rattle.std.specs.List.{position, slice_get}
use Rattle.alg_laws.specs.declared.number.Number.{Number}
use Rattle.alg_laws.specs.declared.number.Reason.{Reason}
use Rattle.alg_laws.specs.declared.number.Reason.TheVariants.{Turns}
use Rattle.alg_laws.specs.declared.number.Ty.{Ty}
use Rattle.alg_laws.specs.declared.number.Ty.TheVariants.{Integer, Real}
use Rattle.alg_laws.specs.Related.{Relates, NumbersRelated, ListsRelated}
use Rattle.va_sem.specs.declared.branch.Unknown.TheVariants.{Node, Branch}
use Rattle.va_sem.specs.declared.builtin.Builtin.{Builtin}
use Rattle.va_sem.specs.declared.builtin.Builtin.TheVariants.{Ddt, LeftOut}
use Rattle.va_sem.specs.declared.builtin.SystemFunction.TheVariants.{ThermalVoltage, Limit, SimParam}
use Rattle.va_sem.specs.declared.names.Meaning.{Meaning}
use Rattle.va_sem.specs.declared.names.Meaning.TheVariants.{Var, Access}
use Rattle.va_tree.specs.declared.expr.BinaryOp.{BinaryOp}
use Rattle.va_tree.specs.declared.expr.BinaryOp.TheVariants.{Add, Subtract, Multiply, Divide, Power}
use Rattle.va_tree.specs.declared.expr.UnaryOp.TheVariants.{Not}
use Rattle.va_tree.specs.declared.stmt.EventKind.TheVariants.{InitialStep, FinalStep}
use Rattle.va_tree.specs.Expressions.{Expression, Arguments, literal, infinity, name, group, unary, binary, choose, call, no_more, text_then, expression_then}
use Rattle.va_tree.specs.Statements.{Statement, Statements, Items, Defaults, null, block, only_if, if_else, cases, for_loop, while_loop, repeat_loop, event, assign, contribute, task, no_more as no_statement, statement_then, no_items, item_then, no_defaults, default_then}
use Rattle.va_meaning.specs.Called.{Called, builtin, system, function, access, none, called}
use Rattle.va_meaning.specs.Elaborated.{Elaborated, Function, Initialiser}
use Rattle.va_meaning.specs.Points.{Context, Result, State}
use Rattle.va_meaning.specs.Related.{Endings, Alike, ResultsRelated, BoundsRelated, HeldRelated}
use Rattle.va_meaning.specs.Runs.{under, under_all, item_values}
use Rattle.va_meaning.specs.Types.{result_type}
use Rattle.va_meaning.specs.Unknowns.{is_unknown, branch_of}

-- Classes of values, and how they go together.
pub record Classes (C : Type 0) : Type 1 where
  -- what is of the first class is of the second
  pub below : C → C → Type 0
  -- every operation on values of the class gives values of it
  pub closed : C → Type 0
  -- a product of a value of the first and one of the second class is of the third
  pub times : C → C → C → Type 0
  -- the time derivative of a value of the first class is of the second
  pub derives : C → C → Type 0
  -- the class of literals, parameters and the temperature, which is below all; and one above all, on which tests rest
  pub rest : C
  pub top : C
  -- the class of the answers of numbered calls
  pub answer : C

pub record AreOrdered {C : Type 0} (K : Classes C) : Type 0 where
  pub itself : (k : C) → K.below k k
  pub further : (k l m : C) → K.below k l → K.below l m → K.below k m
  pub from_rest : (k : C) → K.below K.rest k
  pub to_top : (k : C) → K.below k K.top
  pub rest_closed : K.closed K.rest
  pub top_closed : K.closed K.top
  pub products : (k l : C) → K.closed k → K.below k l → K.times k k l
  pub derivatives : (k l m : C) → K.derives k l → K.below l m → K.derives k m

-- The classes of variables, of what branches hold, and of unknowns, where something is known of them; of which branches the marks are
-- the same; and whether conditions may be unsure.
pub record Slots (C : Type 0) : Type 0 where
  pub variable : ℕ → Option C
  pub held : ℕ → Option C
  pub unknown : ℕ → Option C
  pub mark : ℕ → Bool
  pub unsure : Bool

-- something that is known, if there is a class for it
abbrev pub IfSure : {C : Type 0} → (C → Type 0) → Option C → Type 0
IfSure P None = Unit {0}
IfSure P (Some k) = P k

-- and something that is known and fits
abbrev pub IsSure : {C : Type 0} → (C → Type 0) → Option C → Type 0
IsSure P None = ⊥
IsSure P (Some k) = P k

module _ {C : Type 0} (K : Classes C) where
  -- Integers are the same on both sides, whatever class they are of. So where an integer is wanted, a value of any class will do.
  abbrev pub in_place : Ty → C → C
  in_place Integer k = K.top
  in_place Real k = k

  -- Something of a closed class that is below another.
  abbrev pub Within : C → (C → Type 0) → Type 0
  Within k P = (l : C) × K.closed l × K.below l k × P l

  -- an operator, by what is said of its sides
  abbrev pub OperatorIn : C → BinaryOp → (C → Type 0) → (C → Type 0) → Type 0
  OperatorIn k Add left right = left k × right k
  OperatorIn k Subtract left right = left k × right k
  OperatorIn k Multiply left right = (l : C) × (m : C) × K.times l m k × left l × right m
  OperatorIn k Divide left right = (l : C) × (m : C) × K.times l m k × K.closed m × left l × right m
  OperatorIn k Power left right = Within k (λ l. left l × right l)
  -- `&&`, `||`, comparisons and remainders are integers
  OperatorIn k op left right = left K.top × right K.top

  abbrev pub BuiltinIn : C → Builtin → (C → Type 0) → Type 0
  BuiltinIn k Ddt all = (l : C) × K.derives l k × all l
  BuiltinIn k LeftOut all = K.below K.answer k × all K.top
  BuiltinIn k b all = Within k all

  -- A call of a function is of a closed class where its real arguments are.
  abbrev pub FunctionIn : C → Ty → (C → Type 0) → Type 0
  FunctionIn k Integer arguments = arguments K.top
  FunctionIn k Real arguments = Within k arguments

-- the types of a function's arguments
abbrev pub types_of : Elaborated → List ℕ → List Ty
types_of M [] = []
types_of M (x ∷ xs) = M.variable_type x ∷ types_of M xs

abbrev pub argument_types : Elaborated → Option Function → List Ty
argument_types M None = []
argument_types M (Some f) = types_of M f.arguments

module _ {C : Type 0} (M : Elaborated) (K : Classes C) (slots : Slots C) where
  abbrev pub UnknownIn : C → Option ℕ → Type 0
  UnknownIn k None = Unit {0}
  UnknownIn k (Some i) = IsSure (λ l. K.below l k) (slots.unknown i)

  abbrev pub NodeIn : C → ℕ → Type 0
  NodeIn k node = UnknownIn k (position (is_unknown (Node node)) M.unknowns)

  abbrev pub NodesIn : C → ℕ → Option ℕ → Type 0
  NodesIn k plus None = NodeIn k plus
  NodesIn k plus (Some minus) = NodeIn k plus × NodeIn k minus

  -- an access is of a class where the unknowns that it reads are
  abbrev pub AccessIn : C → ℕ → Bool → Type 0
  AccessIn k b true = UnknownIn k (position (is_unknown (Branch b)) M.unknowns)
  AccessIn k b false = NodesIn k (branch_of M b).plus (branch_of M b).minus

  abbrev pub VariableIn : C → Ty → Option C → Type 0
  VariableIn k Integer known = IsSure (λ l. Unit {0}) known
  VariableIn k Real known = IsSure (λ l. K.below l k) known

  abbrev pub NameIn : C → Option Meaning → Type 0
  NameIn k (Some (Var x)) = VariableIn k (M.variable_type x) (slots.variable x)
  NameIn k m = Unit {0}

  -- A call, by what is said of its first argument, of all, and of the arguments of a function.
  abbrev pub CallIn : C → Called → (C → Type 0) → (C → Type 0) → (List Ty → C → Type 0) → Type 0
  CallIn k (builtin b) first all arguments = BuiltinIn K k b all
  CallIn k (system Limit) first all arguments = first k
  CallIn k (system SimParam) first all arguments = all k
  CallIn k (system ThermalVoltage) first all arguments = Within K k all
  CallIn k (system s) first all arguments = Unit {0}
  CallIn k (function f) first all arguments =
      FunctionIn K k (result_type (slice_get M.functions f)) (arguments (argument_types M (slice_get M.functions f)))
  CallIn k (access b turned flow) first all arguments = AccessIn k b flow
  CallIn k none first all arguments = Unit {0}

  abbrev mutual
    -- An expression is of a class.
    pub IsIn : C → Expression → Type 0
    IsIn k (literal at value integer) = Unit {0}
    IsIn k (infinity at) = Unit {0}
    IsIn k (name at bytes) = NameIn k (M.meaning at)
    IsIn k (group at inner) = IsIn k inner
    IsIn k (unary at Not operand) = IsIn K.top operand
    IsIn k (unary at op operand) = IsIn k operand
    IsIn k (binary at left op right) = OperatorIn K k op (λ l. IsIn l left) (λ l. IsIn l right)
    IsIn k (choose at test a b) = IsIn K.top test × IsIn k a × IsIn k b
    IsIn k (call at callee bytes args) =
        CallIn k (called (M.meaning at) callee bytes) (λ l. FirstIn l args) (λ l. AllIn l args) (λ types l. ArgumentsIn types l args)

    -- all expressions among arguments
    pub AllIn : C → Arguments → Type 0
    AllIn k no_more = Unit {0}
    AllIn k (text_then text rest) = AllIn k rest
    AllIn k (expression_then e rest) = IsIn k e × AllIn k rest

    pub FirstIn : C → Arguments → Type 0
    FirstIn k no_more = Unit {0}
    FirstIn k (text_then text rest) = Unit {0}
    FirstIn k (expression_then e rest) = IsIn k e

    -- those for arguments of some types
    pub ArgumentsIn : List Ty → C → Arguments → Type 0
    ArgumentsIn types k no_more = Unit {0}
    ArgumentsIn [] k (text_then text rest) = Unit {0}
    ArgumentsIn (ty ∷ types) k (text_then text rest) = ArgumentsIn types k rest
    ArgumentsIn [] k (expression_then e rest) = Unit {0}
    ArgumentsIn (ty ∷ types) k (expression_then e rest) = IsIn (in_place K ty k) e × ArgumentsIn types k rest

  abbrev pub AreIn : C → List Expression → Type 0
  AreIn k [] = Unit {0}
  AreIn k (e ∷ es) = IsIn k e × AreIn k es

  -- an expression is evaluated in both, and they end alike, or nothing is said of that
  abbrev pub EvaluatedIn : Expression → Type 0
  EvaluatedIn e = IsIn K.top e ⊎ (slots.unsure ≡ true)

  -- what is said of a value, by what is known of the place that it goes to
  abbrev pub Fits : Expression → (C → Type 0) → Option C → Type 0
  Fits e P None = EvaluatedIn e
  Fits e P (Some k) = P k

  -- What is assigned to a variable is of its class, and not under an unsure condition. If nothing is known of the variable, it may be
  -- anything.
  abbrev pub AssignmentIn : Bool → Option Meaning → Expression → Type 0
  AssignmentIn here (Some (Var x)) e = Fits e (λ k. (here ≡ false) × IsIn (in_place K (M.variable_type x) k) e) (slots.variable x)
  AssignmentIn here m e = EvaluatedIn e

  -- The same of contributions. Under an unsure condition a mark that is to be the same is left: what is contributed is a flow, and a
  -- condition over it is biased.
  abbrev pub ContributionIn : Bool → Bool → Option Meaning → Expression → Type 0
  ContributionIn biased here (Some (Access b turned flow)) e =
      Fits e (λ k. (here ≡ false) × IsIn k e) (slots.held b) × (slots.mark b ≡ true → here ≡ true → (flow ≡ true) × (biased ≡ true))
  ContributionIn biased here m e = EvaluatedIn e

  -- What stands under conditions: these are sure, or it keeps to the classes as under an unsure one.
  abbrev pub Under : Bool → List Expression → (Bool → Type 0) → Type 0
  Under here conditions inside = (AreIn K.top conditions × inside here) ⊎ ((slots.unsure ≡ true) × inside true)

  abbrev mutual
    -- All assignments and contributions in a statement keep to the classes, by whether a condition over it is biased, and whether one
    -- is unsure.
    pub Keeps : Bool → Bool → Statement → Type 0
    Keeps biased here (null at) = Unit {0}
    Keeps biased here (block at label declarations body) = AllKeep biased here body
    Keeps biased here (only_if at test a) = Under here (test ∷ []) (λ inside. Keeps (under M biased test) inside a)
    Keeps biased here (if_else at test a b) =
        Under here (test ∷ []) (λ inside. Keeps (under M biased test) inside a × Keeps (under M biased test) inside b)
    Keeps biased here (cases at selector items defaults) =
        Under here (selector ∷ item_values items)
        (λ inside. ItemsKeep (under_all M biased (selector ∷ item_values items)) inside items
        × DefaultsKeep (under_all M biased (selector ∷ item_values items)) inside defaults)
    Keeps biased here (for_loop at target first test target' step body) =
        AssignmentIn here (M.meaning target.at) first
        × Under here (test ∷ []) (λ inside. AssignmentIn inside (M.meaning target'.at) step × Keeps (under M biased test) inside body)
    Keeps biased here (while_loop at test body) = Under here (test ∷ []) (λ inside. Keeps (under M biased test) inside body)
    Keeps biased here (repeat_loop at count body) = Under here (count ∷ []) (λ inside. Keeps (under M biased count) inside body)
    Keeps biased here (event at InitialStep analyses body) = Keeps biased here body
    Keeps biased here (event at FinalStep analyses body) = Unit {0}
    Keeps biased here (assign at target value) = AssignmentIn here (M.meaning at) value
    Keeps biased here (contribute at bytes first second value) = ContributionIn biased here (M.meaning at) value
    Keeps biased here (task at bytes args) = Unit {0}

    pub AllKeep : Bool → Bool → Statements → Type 0
    AllKeep biased here no_statement = Unit {0}
    AllKeep biased here (statement_then s rest) = Keeps biased here s × AllKeep biased here rest

    pub ItemsKeep : Bool → Bool → Items → Type 0
    ItemsKeep biased here no_items = Unit {0}
    ItemsKeep biased here (item_then at values body rest) = Keeps biased here body × ItemsKeep biased here rest

    pub DefaultsKeep : Bool → Bool → Defaults → Type 0
    DefaultsKeep biased here no_defaults = Unit {0}
    DefaultsKeep biased here (default_then at body rest) = Keeps biased here body

  abbrev pub BlocksKeep : List Statement → Type 0
  BlocksKeep [] = Unit {0}
  BlocksKeep (s ∷ rest) = Keeps false false s × BlocksKeep rest

-- Functions and initialisers read no unknown: there everything is of one class.
abbrev pub uniform : {C : Type 0} → C → Slots C
uniform k = record { variable = λ x. Some k; held = λ b. Some k; unknown = λ i. Some k; mark = λ b. true; unsure = false }

module _ {C : Type 0} (M : Elaborated) (K : Classes C) (k : C) where
  -- values of initialisers are of the class, or integers where these are wanted
  abbrev pub InitialisersKeep : List Initialiser → Type 0
  InitialisersKeep [] = Unit {0}
  InitialisersKeep (i ∷ rest) = IsIn M K (uniform k) (in_place K (M.variable_type i.variable) k) i.value × InitialisersKeep rest

  -- A function keeps a class where all in it is of that class.
  abbrev pub FunctionKeeps : Option Function → Type 0
  FunctionKeeps None = Unit {0}
  FunctionKeeps (Some f) = InitialisersKeep f.initialisers × Keeps M K (uniform k) false false f.body

-- A module keeps to classes: so do its statements, each function keeps each closed class, and the initialisers keep that of literals.
pub record KeepsToClasses {C : Type 0} (M : Elaborated) (K : Classes C) (slots : Slots C) : Type 0 where
  pub functions : (f : ℕ) (k : C) → K.closed k → FunctionKeeps M K k (slice_get M.functions f)
  pub initialisers : InitialisersKeep M K K.rest M.initialisers
  pub blocks : BlocksKeep M K slots M.blocks

-- Two contexts in which values of each class are related.
pub record ContextsInClasses {E F V W C : Type 0} (g : Endings E F) (K : Classes C) (R : C → V → W → Type 0) (slots : Slots C) (c : Context E V) (d : Context F W) : Type 0 where
  pub ops : (k : C) → K.closed k → Relates c.ops d.ops (R k)
  pub weaker : (k l : C) → K.below k l → (x : V) (u : W) → R k x u → R l x u
  pub sum : (k : C) (x y : V) (u v : W) → R k x u → R k y v → R k (c.ops.sum x y) (d.ops.sum u v)
  pub negative : (k : C) (x : V) (u : W) → R k x u → R k (c.ops.negative x) (d.ops.negative u)
  pub product : (k l m : C) → K.times k l m → (x y : V) (u v : W) → R k x u → R l y v → R m (c.ops.product x y) (d.ops.product u v)
  pub derivative : (k l : C) → K.derives k l → (x : V) (u : W) → R k x u → R l (c.ops.product c.derivative x) (d.ops.product d.derivative u)
  pub parameters : (p : ℕ) → NumbersRelated (R K.rest) (c.point.parameters p) (d.point.parameters p)
  pub given : (p : ℕ) → c.point.given p ≡ d.point.given p
  pub temperature : R K.rest c.point.temperature d.point.temperature
  pub unknowns : (i : ℕ) → IfSure (λ k. R k (c.point.unknowns i) (d.point.unknowns i)) (slots.unknown i)
  pub bound : BoundsRelated g (c.stops Turns) c.bound d.bound
  pub stops : (reason : Reason) → g.together (c.stops reason) (d.stops reason)
  pub answers : (number : ℕ) (outs : List (Result E V)) (outs' : List (Result F W)) → ListsRelated (ResultsRelated g (R K.top)) outs outs'
      → Alike g (R K.answer) (c.answers number outs) (d.answers number outs')

-- Values of a type: the same integers, or reals that are related as a class says.
abbrev pub ValuesIn : {C V W : Type 0} → (C → V → W → Type 0) → Ty → C → Number V → Number W → Type 0
ValuesIn R Integer k = NumbersRelated (λ x u. ⊥)
ValuesIn R Real k = NumbersRelated (R k)

-- States in which variables and what branches hold are related as their classes say, with the same marks where they are to be the same.
pub record StatesInClasses {C V W : Type 0} (M : Elaborated) (R : C → V → W → Type 0) (slots : Slots C) (s : State V) (t : State W) : Type 0 where
  pub variables : (x : ℕ) → IfSure (λ k. ValuesIn R (M.variable_type x) k (s.variables x) (t.variables x)) (slots.variable x)
  pub held : (b : ℕ) → IfSure (λ k. HeldRelated (R k) (s.held b) (t.held b)) (slots.held b)
  pub marks : (b : ℕ) → slots.mark b ≡ true → s.marks b ≡ t.marks b
