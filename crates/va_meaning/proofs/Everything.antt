-- Where all that is known is below a class, and time derivatives and numbered calls stay in it, everything is of it.
use Rattle.std.specs.Prelude.{ℕ, Bool, true, false, List, [], ◌∷◌, ◌++◌, Option, Some, None}
use Rattle.std.specs.List.{position, slice_get}
use Rattle.std.proofs.Common.{refl, inl}
use Rattle.alg_laws.specs.declared.number.Ty.{Ty}
use Rattle.alg_laws.specs.declared.number.Ty.TheVariants.{Integer, Real as RealTy}
use Rattle.va_sem.specs.declared.branch.Unknown.TheVariants.{Node, Branch}
use Rattle.va_sem.specs.declared.builtin.Builtin.TheVariants.{One, Two, Abs, Min, Max, LimExp, Ddt, LeftOut}
use Rattle.va_sem.specs.declared.builtin.SystemFunction.TheVariants.{Temperature, ThermalVoltage, Limit, SimParam, ParamGiven}
use Rattle.va_sem.specs.declared.names.Meaning.{Meaning}
use Rattle.va_sem.specs.declared.names.Meaning.TheVariants.{Var, Access}
use Rattle.va_tree.specs.declared.expr.BinaryOp.{BinaryOp}
use Rattle.va_tree.specs.declared.expr.BinaryOp.TheVariants.{Or, And, Equal, NotEqual, Less, AtMost, Greater, AtLeast, Add, Subtract, Multiply, Divide, Remainder, Power}
use Rattle.va_tree.specs.declared.expr.UnaryOp.TheVariants.{Plus, Minus, Not}
use Rattle.va_tree.specs.declared.stmt.EventKind.TheVariants.{InitialStep, FinalStep}
use Rattle.va_tree.specs.Expressions.{Expression, Arguments, literal, infinity, name, group, unary, binary, choose, call, no_more, text_then, expression_then}
use Rattle.va_tree.specs.Statements.{Statement, Statements, Items, Defaults, null, block, only_if, if_else, cases, for_loop, while_loop, repeat_loop, event, assign, contribute, task, no_more as no_statement, statement_then, no_items, item_then, no_defaults, default_then}
use Rattle.va_meaning.specs.Called.{Called, builtin, system, function, access, none, called}
use Rattle.va_meaning.specs.Classes.{Classes, AreOrdered, Slots, IsSure, in_place, OperatorIn, FunctionIn, argument_types, UnknownIn, NodesIn, AccessIn, VariableIn, NameIn, CallIn, IsIn, AllIn, FirstIn, ArgumentsIn, AreIn, AssignmentIn, ContributionIn, Keeps, AllKeep, ItemsKeep, DefaultsKeep, uniform, InitialisersKeep, FunctionKeeps}
use Rattle.va_meaning.specs.Elaborated.{Elaborated, Initialiser, Function}
use Rattle.va_meaning.specs.Runs.{under, under_all, item_values}
use Rattle.va_meaning.specs.Types.{result_type}
use Rattle.va_meaning.specs.Unknowns.{is_unknown, branch_of}

module _ {C : Type 0} (K : Classes C) (ordered : AreOrdered K) (k : C) (closed : K.closed k) where
  pub operator_any : (l : C) → K.below k l → (op : BinaryOp) (left right : C → Type 0) → ((j : C) → K.below k j → left j) → ((j : C) → K.below k j → right j) → OperatorIn K l op left right
  operator_any l up Add left right f h = (f l up, h l up)
  operator_any l up Subtract left right f h = (f l up, h l up)
  operator_any l up Multiply left right f h = (k, k, ordered.products k l closed up, f k (ordered.itself k), h k (ordered.itself k))
  operator_any l up Divide left right f h = (k, k, ordered.products k l closed up, closed, f k (ordered.itself k), h k (ordered.itself k))
  operator_any l up Power left right f h = (k, closed, up, (f k (ordered.itself k), h k (ordered.itself k)))
  operator_any l up Or left right f h = (f K.top (ordered.to_top k), h K.top (ordered.to_top k))
  operator_any l up And left right f h = (f K.top (ordered.to_top k), h K.top (ordered.to_top k))
  operator_any l up Equal left right f h = (f K.top (ordered.to_top k), h K.top (ordered.to_top k))
  operator_any l up NotEqual left right f h = (f K.top (ordered.to_top k), h K.top (ordered.to_top k))
  operator_any l up Less left right f h = (f K.top (ordered.to_top k), h K.top (ordered.to_top k))
  operator_any l up AtMost left right f h = (f K.top (ordered.to_top k), h K.top (ordered.to_top k))
  operator_any l up Greater left right f h = (f K.top (ordered.to_top k), h K.top (ordered.to_top k))
  operator_any l up AtLeast left right f h = (f K.top (ordered.to_top k), h K.top (ordered.to_top k))
  operator_any l up Remainder left right f h = (f K.top (ordered.to_top k), h K.top (ordered.to_top k))

  pub up_in_place : (ty : Ty) (l : C) → K.below k l → K.below k (in_place K ty l)
  up_in_place Integer l up = ordered.to_top k
  up_in_place RealTy l up = up

  pub function_any : (l : C) → K.below k l → (ty : Ty) (arguments : C → Type 0) → ((j : C) → K.below k j → arguments j) → FunctionIn K l ty arguments
  function_any l up Integer arguments f = f K.top (ordered.to_top k)
  function_any l up RealTy arguments f = (k, closed, up, f k (ordered.itself k))

pub are_both : {C : Type 0} (M : Elaborated) (K : Classes C) (slots : Slots C) (es fs : List Expression) → AreIn M K slots K.top es → AreIn M K slots K.top fs → AreIn M K slots K.top (es ++ fs)
are_both M K slots [] fs i j = j
are_both M K slots (e ∷ es) fs i j = (i.0, are_both M K slots es fs i.1 j)

-- what the class is, and what is below it
pub record IsUnder {C : Type 0} (K : Classes C) (slots : Slots C) (k : C) : Type 0 where
  pub closed : K.closed k
  pub derives : K.derives k k
  pub answer : K.below K.answer k
  pub variables : (x : ℕ) → IsSure (λ l. K.below l k) (slots.variable x)
  pub unknowns : (i : ℕ) → IsSure (λ l. K.below l k) (slots.unknown i)

module _ {C : Type 0} (M : Elaborated) (K : Classes C) (ordered : AreOrdered K) (slots : Slots C) (k : C) (h : IsUnder K slots k) where
  further : (l : C) → K.below k l → (known : Option C) → IsSure (λ j. K.below j k) known → IsSure (λ j. K.below j l) known
  further l up None i = i
  further l up (Some j) i = ordered.further j k l i up

  unknown_any : (l : C) → K.below k l → (i : Option ℕ) → UnknownIn M K slots l i
  unknown_any l up None = tt
  unknown_any l up (Some i) = further l up (slots.unknown i) (h.unknowns i)

  nodes_any : (l : C) → K.below k l → (plus : ℕ) (minus : Option ℕ) → NodesIn M K slots l plus minus
  nodes_any l up plus None = unknown_any l up (position (is_unknown (Node plus)) M.unknowns)
  nodes_any l up plus (Some minus) = (unknown_any l up (position (is_unknown (Node plus)) M.unknowns), unknown_any l up (position (is_unknown (Node minus)) M.unknowns))

  access_any : (l : C) → K.below k l → (b : ℕ) (flow : Bool) → AccessIn M K slots l b flow
  access_any l up b true = unknown_any l up (position (is_unknown (Branch b)) M.unknowns)
  access_any l up b false = nodes_any l up (branch_of M b).plus (branch_of M b).minus

  variable_any : (l : C) → K.below k l → (ty : Ty) (known : Option C) → IsSure (λ j. K.below j k) known → VariableIn M K slots l ty known
  variable_any l up Integer None i = i
  variable_any l up Integer (Some j) i = tt
  variable_any l up RealTy known i = further l up known i

  name_any : (l : C) → K.below k l → (m : Option Meaning) → NameIn M K slots l m
  name_any l up (Some (Var x)) = variable_any l up (M.variable_type x) (slots.variable x) (h.variables x)
  name_any l up m = tt

  call_any : (l : C) → K.below k l → (what : Called) → (first all : C → Type 0) (arguments : List Ty → C → Type 0)
      → ((j : C) → K.below k j → first j) → ((j : C) → K.below k j → all j) → ((types : List Ty) (j : C) → K.below k j → arguments types j)
      → CallIn M K slots l what first all arguments
  call_any l up (builtin Ddt) first all arguments f i a = (k, ordered.derivatives k k l h.derives up, i k (ordered.itself k))
  call_any l up (builtin LeftOut) first all arguments f i a = (ordered.further K.answer k l h.answer up, i K.top (ordered.to_top k))
  call_any l up (builtin (One b)) first all arguments f i a = (k, h.closed, up, i k (ordered.itself k))
  call_any l up (builtin (Two b)) first all arguments f i a = (k, h.closed, up, i k (ordered.itself k))
  call_any l up (builtin Abs) first all arguments f i a = (k, h.closed, up, i k (ordered.itself k))
  call_any l up (builtin Min) first all arguments f i a = (k, h.closed, up, i k (ordered.itself k))
  call_any l up (builtin Max) first all arguments f i a = (k, h.closed, up, i k (ordered.itself k))
  call_any l up (builtin LimExp) first all arguments f i a = (k, h.closed, up, i k (ordered.itself k))
  call_any l up (system Limit) first all arguments f i a = f l up
  call_any l up (system SimParam) first all arguments f i a = i l up
  call_any l up (system ThermalVoltage) first all arguments f i a = (k, h.closed, up, i k (ordered.itself k))
  call_any l up (system Temperature) first all arguments f i a = tt
  call_any l up (system ParamGiven) first all arguments f i a = tt
  call_any l up (function n) first all arguments f i a =
      function_any K ordered k h.closed l up (result_type (slice_get M.functions n)) (arguments (argument_types M (slice_get M.functions n))) (a (argument_types M (slice_get M.functions n)))
  call_any l up (access b turned flow) first all arguments f i a = access_any l up b flow
  call_any l up none first all arguments f i a = tt

  mutual
    pub everything_in : (l : C) → K.below k l → (e : Expression) → IsIn M K slots l e
    everything_in l up (literal at value integer) = tt
    everything_in l up (infinity at) = tt
    everything_in l up (name at bytes) = name_any l up (M.meaning at)
    everything_in l up (group at inner) = everything_in l up inner
    everything_in l up (unary at Plus operand) = everything_in l up operand
    everything_in l up (unary at Minus operand) = everything_in l up operand
    everything_in l up (unary at Not operand) = everything_in K.top (ordered.to_top k) operand
    everything_in l up (binary at left op right) =
        operator_any K ordered k h.closed l up op _ _ (λ j up. everything_in j up left) (λ j up. everything_in j up right)
    everything_in l up (choose at test a b) = (everything_in K.top (ordered.to_top k) test, everything_in l up a, everything_in l up b)
    everything_in l up (call at callee bytes args) =
        call_any l up (called (M.meaning at) callee bytes) _ _ _ (λ j up. first_any j up args) (λ j up. all_any j up args) (λ types j up. arguments_any types j up args)

    all_any : (l : C) → K.below k l → (args : Arguments) → AllIn M K slots l args
    all_any l up no_more = tt
    all_any l up (text_then text rest) = all_any l up rest
    all_any l up (expression_then e rest) = (everything_in l up e, all_any l up rest)

    first_any : (l : C) → K.below k l → (args : Arguments) → FirstIn M K slots l args
    first_any l up no_more = tt
    first_any l up (text_then text rest) = tt
    first_any l up (expression_then e rest) = everything_in l up e

    arguments_any : (types : List Ty) (l : C) → K.below k l → (args : Arguments) → ArgumentsIn M K slots types l args
    arguments_any types l up no_more = tt
    arguments_any [] l up (text_then text rest) = tt
    arguments_any (ty ∷ types) l up (text_then text rest) = arguments_any types l up rest
    arguments_any [] l up (expression_then e rest) = tt
    arguments_any (ty ∷ types) l up (expression_then e rest) =
        (everything_in (in_place K ty l) (up_in_place K ordered k h.closed ty l up) e, arguments_any types l up rest)

  pub are_any : (es : List Expression) → AreIn M K slots K.top es
  are_any [] = tt
  are_any (e ∷ es) = (everything_in K.top (ordered.to_top k) e, are_any es)

  pub values_any : (items : Items) → AreIn M K slots K.top (item_values items)
  values_any no_items = tt
  values_any (item_then at values body rest) = are_both M K slots values (item_values rest) (are_any values) (values_any rest)

pub uniform_under : {C : Type 0} (K : Classes C) (ordered : AreOrdered K) (k : C) → K.closed k → K.derives k k → K.below K.answer k → IsUnder K (uniform k) k
uniform_under K ordered k closed derives answer = record {
  closed = closed;
  derives = derives;
  answer = answer;
  variables = λ x. ordered.itself k;
  unknowns = λ i. ordered.itself k;
}

-- functions and initialisers keep such a class
module _ {C : Type 0} (M : Elaborated) (K : Classes C) (ordered : AreOrdered K) (k : C) (closed : K.closed k) (derives : K.derives k k) (answer : K.below K.answer k) where
  below : IsUnder K (uniform k) k
  below = uniform_under K ordered k closed derives answer

  any : (l : C) → K.below k l → (e : Expression) → IsIn M K (uniform k) l e
  any l up e = everything_in M K ordered (uniform k) k below l up e

  top_in : (e : Expression) → IsIn M K (uniform k) K.top e
  top_in e = any K.top (ordered.to_top k) e

  assignment_any : (m : Option Meaning) (e : Expression) → AssignmentIn M K (uniform k) false m e
  assignment_any (Some (Var x)) e = (refl, any (in_place K (M.variable_type x) k) (up_in_place K ordered k closed (M.variable_type x) k (ordered.itself k)) e)
  assignment_any m e = inl (top_in e)

  contribution_any : (biased : Bool) (m : Option Meaning) (e : Expression) → ContributionIn M K (uniform k) biased false m e
  contribution_any biased (Some (Access b turned flow)) e = ((refl, any k (ordered.itself k) e), λ j d. absurd (cc (d)))
  contribution_any biased m e = inl (top_in e)

  mutual
    everything_keeps : (b : Bool) (p : Statement) → Keeps M K (uniform k) b false p
    everything_keeps b (null at) = tt
    everything_keeps b (block at label declarations body) = all_keep b body
    everything_keeps b (only_if at test first) = inl ((top_in test, tt), everything_keeps (under M b test) first)
    everything_keeps b (if_else at test first second) =
        inl ((top_in test, tt), (everything_keeps (under M b test) first, everything_keeps (under M b test) second))
    everything_keeps b (cases at selector items defaults) =
        let below_all = under_all M b (selector ∷ item_values items) in
        inl ((top_in selector, values_any M K ordered (uniform k) k below items), (items_keep below_all items, defaults_keep below_all defaults))
    everything_keeps b (for_loop at target first test target' step body) = (
      assignment_any (M.meaning target.at) first,
      inl ((top_in test, tt), (assignment_any (M.meaning target'.at) step, everything_keeps (under M b test) body)),
    )
    everything_keeps b (while_loop at test body) = inl ((top_in test, tt), everything_keeps (under M b test) body)
    everything_keeps b (repeat_loop at count body) = inl ((top_in count, tt), everything_keeps (under M b count) body)
    everything_keeps b (event at InitialStep analyses body) = everything_keeps b body
    everything_keeps b (event at FinalStep analyses body) = tt
    everything_keeps b (assign at target value) = assignment_any (M.meaning at) value
    everything_keeps b (contribute at bytes first second value) = contribution_any b (M.meaning at) value
    everything_keeps b (task at bytes args) = tt

    all_keep : (b : Bool) (ps : Statements) → AllKeep M K (uniform k) b false ps
    all_keep b no_statement = tt
    all_keep b (statement_then p ps) = (everything_keeps b p, all_keep b ps)

    items_keep : (b : Bool) (items : Items) → ItemsKeep M K (uniform k) b false items
    items_keep b no_items = tt
    items_keep b (item_then at values body rest) = (everything_keeps b body, items_keep b rest)

    defaults_keep : (b : Bool) (defaults : Defaults) → DefaultsKeep M K (uniform k) b false defaults
    defaults_keep b no_defaults = tt
    defaults_keep b (default_then at body rest) = everything_keeps b body

  pub initialisers_any : (is : List Initialiser) → InitialisersKeep M K k is
  initialisers_any [] = tt
  initialisers_any (i ∷ is) =
      (any (in_place K (M.variable_type i.variable) k) (up_in_place K ordered k closed (M.variable_type i.variable) k (ordered.itself k)) i.value, initialisers_any is)

  pub function_any_keeps : (f : Option Function) → FunctionKeeps M K k f
  function_any_keeps None = tt
  function_any_keeps (Some f) = (initialisers_any f.initialisers, everything_keeps false f.body)
