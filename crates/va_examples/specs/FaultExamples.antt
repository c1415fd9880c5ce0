-- One module for each fault of names, types and rules, with the token and the code of the answered fault, worked out by hand. Above
-- each stands the text of its items, the first of which begins at token 93.
use Rattle.std.specs.Prelude.{◌≡◌, ◌+◌, false, List, [], ◌∷◌, Option, Some, None, codes}
use Rattle.va_base.specs.declared.fault.FaultCode.TheVariants.{UnknownName, TwiceDeclared, WrongKind, WrongAccess, DisciplinesDiffer, NotDeclaredNode, FunctionCycle, OutOfProfile, ArgumentCount, ArgumentKind, NotConstant, RealOperand, DdtNonLinear, DdtUnderBias, DdtInLoop, DdtInFunction, DdtTwice, SwitchBranch, FlowProbe, CollapseProbed, UnknownsMany, ParamsMany, NodesMany}
use Rattle.va_tree.specs.declared.expr.BinaryOp.TheVariants.{Greater, Add, Multiply, Remainder}
use Rattle.va_tree.specs.declared.expr.Expr.{Expr}
use Rattle.va_tree.specs.declared.module.Direction.TheVariants.{Inout}
use Rattle.va_tree.specs.declared.module.FunctionItem.TheVariants as function_item
use Rattle.va_tree.specs.declared.module.Item.{Item}
use Rattle.va_tree.specs.declared.module.ItemBody.TheVariants as item
use Rattle.va_tree.specs.declared.module.Module.{Module}
use Rattle.va_tree.specs.declared.module.Ty.TheVariants as ty
use Rattle.va_sem.specs.Faults.{answered, module_rules_faults}
use Rattle.va_sem.specs.Lookup.{Bytes}
use Rattle.va_sem.specs.Meanings.{names_of_module}
use Rattle.va_sem.specs.NamesFaults.{FaultAt}
use Rattle.va_sem.specs.SmallTrees.{module_at}
use Rattle.va_sem.specs.rules.Limits.{Limits, limits}
use Rattle.va_examples.specs.Examples.{source_of, module_of, v_a, v_c, to_a, to_a_c}
use Rattle.va_examples.specs.Notation.{Text, n, piece, plain, whole, name, between, expression, system, system_alone, called, of, of_two, to_ground, across, assign, contribute, contribute_alone, begins, if_only, repeats, variable, variables, defaulted, parameters, analog, function}

-- the fault that is answered
abbrev pub fault_in : List (Text Item) → Option FaultAt
fault_in items = answered (source_of (module_of items))

-- real x;
abbrev real_x : Text Item
real_x = variables ty.Real (variable (codes "x") ∷ [])

-- parameter real p = 0;
abbrev real_p : Text Item
real_p = parameters false (Some ty.Real) (defaulted (codes "p") (whole 0) [] ∷ [])

-- thermal t;
abbrev thermal_t : Text Item
thermal_t at = piece (plain (item.Nodes at (codes "thermal") (n (at + 1) (codes "t") ∷ []))) (at + 3)

-- analog function real f; input x; f = e; endfunction
abbrev function_of : Bytes → Text Expr → Text Item
function_of f e = function (Some ty.Real) f (codes "x" ∷ []) (assign f e)

-- analog function real f; real f; input f; f = 1; endfunction
abbrev typed_by_own_name : Text Item
typed_by_own_name at =
    let body = assign (codes "f") (whole 1) (at + 11) in
    piece (plain (item.Function at (Some ty.Real) (n (at + 3) (codes "f")) (function_item.Variables (at + 5) ty.Real (n (at + 6) (codes "f") ∷ []) ∷ function_item.Input (at + 8) (n (at + 9) (codes "f") ∷ []) ∷ []) body.is)) (body.after + 1)

-- module m(a, c); inout a, c; electrical a; endmodule
abbrev port_without_discipline : Module
port_without_discipline =
    module_at [] 76 (codes "m") (n 78 (codes "a") ∷ n 80 (codes "c") ∷ [])
    (plain (item.Direction 83 Inout None (n 84 (codes "a") ∷ n 86 (codes "c") ∷ [])) ∷ plain (item.Nodes 88 (codes "electrical") (n 89 (codes "a") ∷ [])) ∷ [])

-- each fault once
pub record WorkedFaults : Type 0 where
  -- analog I(a) <+ z;
  pub unknown_name : fault_in (analog (to_a (name (codes "z"))) ∷ []) ≡ Some (99, UnknownName)
  -- real x; real x;
  pub twice_declared : fault_in (real_x ∷ real_x ∷ []) ≡ Some (97, TwiceDeclared)
  -- analog function real f; real f; input f; f = 1; endfunction
  pub own_name_with_a_type : fault_in (typed_by_own_name ∷ []) ≡ Some (99, TwiceDeclared)
  -- parameter real p = 0; analog p = 2;
  pub wrong_kind : fault_in (real_p ∷ analog (assign (codes "p") (whole 2)) ∷ []) ≡ Some (100, WrongKind)
  -- analog Temp(a) <+ 1;
  pub wrong_access : fault_in (analog (contribute_alone (codes "Temp") (codes "a") (whole 1)) ∷ []) ≡ Some (94, WrongAccess)
  -- thermal t; analog I(a, t) <+ 1;
  pub disciplines_differ : fault_in (thermal_t ∷ analog (contribute (codes "I") (codes "a") (codes "t") (whole 1)) ∷ []) ≡ Some (97, DisciplinesDiffer)
  pub not_declared_node : answered (source_of port_without_discipline) ≡ Some (80, NotDeclaredNode)
  -- analog function real f; input x; f = g(x); endfunction analog function real g; input x; g = f(x); endfunction
  pub function_cycle : fault_in (function_of (codes "f") (of (codes "g") (name (codes "x"))) ∷ function_of (codes "g") (of (codes "f") (name (codes "x"))) ∷ [])
      ≡ Some (103, FunctionCycle)
  -- real x; analog x = $abstime;
  pub out_of_profile : fault_in (real_x ∷ analog (assign (codes "x") (system_alone (codes "$abstime"))) ∷ []) ≡ Some (99, OutOfProfile)
  -- analog I(a) <+ exp(V(a), 1);
  pub argument_count : fault_in (analog (to_a (of_two (codes "exp") v_a (whole 1))) ∷ []) ≡ Some (99, ArgumentCount)
  -- analog I(a) <+ $limit(1);
  pub argument_kind : fault_in (analog (to_a (system (codes "$limit") (expression (whole 1) ∷ []))) ∷ []) ≡ Some (101, ArgumentKind)
  -- parameter real p = q; parameter real q = 1;
  pub not_constant : fault_in (parameters false (Some ty.Real) (defaulted (codes "p") (name (codes "q")) [] ∷ []) ∷ parameters false (Some ty.Real) (defaulted (codes "q") (whole 1) [] ∷ []) ∷ [])
      ≡ Some (97, NotConstant)
  -- real x; analog x = 7 % x;
  pub real_operand : fault_in (real_x ∷ analog (assign (codes "x") (between (whole 7) Remainder (name (codes "x")))) ∷ []) ≡ Some (99, RealOperand)
  -- real x; analog x = 2 % abs();
  pub operand_without_type : fault_in (real_x ∷ analog (assign (codes "x") (between (whole 2) Remainder (called (codes "abs") []))) ∷ []) ≡ Some (99, RealOperand)
  -- analog I(a) <+ V(a) * ddt(V(c));
  pub ddt_nonlinear : fault_in (analog (to_a (between v_a Multiply (of (codes "ddt") v_c))) ∷ []) ≡ Some (104, DdtNonLinear)
  -- analog if (V(c) > 0) I(a) <+ ddt(V(a));
  pub ddt_under_bias : fault_in (analog (if_only (between v_c Greater (whole 0)) (to_a (of (codes "ddt") v_a))) ∷ []) ≡ Some (108, DdtUnderBias)
  -- analog repeat (2) I(a) <+ ddt(V(a));
  pub ddt_in_loop : fault_in (analog (repeats (whole 2) (to_a (of (codes "ddt") v_a))) ∷ []) ≡ Some (103, DdtInLoop)
  -- analog function real f; input x; f = 2 * ddt(x); endfunction
  pub ddt_in_function : fault_in (function_of (codes "f") (between (whole 2) Multiply (of (codes "ddt") (name (codes "x")))) ∷ []) ≡ Some (105, DdtInFunction)
  -- analog I(a) <+ ddt(V(a) + ddt(V(c)));
  pub ddt_twice : fault_in (analog (to_a (of (codes "ddt") (between v_a Add (of (codes "ddt") v_c)))) ∷ []) ≡ Some (101, DdtTwice)
  -- analog if (V(c) > 0) V(a) <+ 1;
  pub switch_branch : fault_in (analog (if_only (between v_c Greater (whole 0)) (contribute_alone (codes "V") (codes "a") (whole 1))) ∷ []) ≡ Some (103, SwitchBranch)
  -- real x; analog x = I(a, c);
  pub flow_probe : fault_in (real_x ∷ analog (assign (codes "x") (across (codes "I") (codes "a") (codes "c"))) ∷ []) ≡ Some (99, FlowProbe)
  -- parameter real p = 0; real x; analog begin if (p) V(a) <+ 0; x = I(a); end
  pub collapse_probed : fault_in (real_p ∷ real_x ∷ analog (begins (if_only (name (codes "p")) (contribute_alone (codes "V") (codes "a") (whole 0)) ∷ assign (codes "x") (to_ground (codes "I") (codes "a")) ∷ [])) ∷ [])
      ≡ Some (108, CollapseProbed)
  -- analog I(a, c) <+ 1; here no fault stands
  pub none : fault_in (analog (to_a_c (whole 1)) ∷ []) ≡ None

-- the faults of rules of a module under other limits, so that small modules show them
abbrev pub faults_within : Limits → List (Text Item) → List FaultAt
faults_within most items = let m = module_of items in module_rules_faults most (m, names_of_module (source_of m) 0 m)

-- The limits of a module, each at what it allows and at one less. A fault of limits stands at the module's name.
pub record WorkedLimits : Type 0 where
  -- a module with nothing besides its two nodes
  pub two_unknowns : faults_within (record limits { unknowns = 2 }) [] ≡ []
  pub unknowns_many : faults_within (record limits { unknowns = 1 }) [] ≡ (76, UnknownsMany) ∷ []
  -- parameter real p = 0;
  pub one_parameter : faults_within (record limits { parameters = 1 }) (real_p ∷ []) ≡ []
  pub params_many : faults_within (record limits { parameters = 0 }) (real_p ∷ []) ≡ (76, ParamsMany) ∷ []
  -- analog I(a) <+ V(a) + 1; the sum, the access, its node and the numeral
  pub four_nodes : faults_within (record limits { nodes = 4 }) (analog (to_a (between v_a Add (whole 1))) ∷ []) ≡ []
  pub nodes_many : faults_within (record limits { nodes = 3 }) (analog (to_a (between v_a Add (whole 1))) ∷ []) ≡ (76, NodesMany) ∷ []
