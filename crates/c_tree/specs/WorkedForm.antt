-- Which tokens the rules of form blame, worked out by hand on a small file of which one part is replaced. The tokens of a part are
-- counted from 100 on, as the text of the part is written beside it.
use Rattle.std.specs.Prelude.{◌≡◌, ℕ, ◌+◌, true, false, pos, List, [], ◌∷◌, Some, None, codes}
use Rattle.alg_laws.specs.declared.number.Ty.TheVariants.{Integer, Real}
use Rattle.alg_laws.specs.declared.function.Fun1.TheVariants.{Exp}
use Rattle.c_tree.specs.declared.body.CAtom.{CAtom}
use Rattle.c_tree.specs.declared.body.CAtom.TheVariants as atom
use Rattle.c_tree.specs.declared.body.CCallee.TheVariants as callee
use Rattle.c_tree.specs.declared.body.CCell.{CCell}
use Rattle.c_tree.specs.declared.body.CField.{CField}
use Rattle.c_tree.specs.declared.body.CField.TheVariants.{Param, Given, Resist, React, OpVar, Stored, Temperature}
use Rattle.c_tree.specs.declared.body.COperator.TheVariants.{Plus, Remainder, Less}
use Rattle.c_tree.specs.declared.body.Level.TheVariants.{Instance, Model}
use Rattle.c_tree.specs.declared.load.LoadFactor.TheVariants as factor
use Rattle.c_tree.specs.declared.load.LoadSign.TheVariants.{Add}
use Rattle.c_tree.specs.declared.load.LoadTarget.TheVariants as target
use Rattle.c_tree.specs.declared.table.ParamKind.{ParamKind}
use Rattle.c_tree.specs.declared.table.ParamKind.TheVariants.{Inst, Model as OfModel, Opvar}
use Rattle.c_tree.specs.Form.{blamed, least_blamed}
use Rattle.c_tree.specs.Raw.{At, RawRight, same, contrary, to_real, to_integer, call, binary, constant, join, head, assign, set_cell, set_flag, report, RawBlock, closed, simple, leave, choice, loop, RawFunction, RawLoad, RawLoads, RawParam, RawModule, RawDescriptor, RawFile}

abbrev pub on : {T : Type 0} → ℕ → T → At T
on at value = record { at = at; value = value }

abbrev pub local : ℕ → ℕ → At CAtom
local at i = on at (atom.Local i)

abbrev pub whole : ℕ → ℕ → At CAtom
whole at i = on at (atom.Integer i)

abbrev pub real : ℕ → At CAtom
real at = on at (atom.Real (record { mantissa = 1; power = pos 0 }))

abbrev pub inst : ℕ → CField → At CCell
inst at field = on at (record { level = Instance; field = field })

abbrev pub model : ℕ → CField → At CCell
model at field = on at (record { level = Model; field = field })

abbrev pub cell : At CCell → At CAtom
cell c = on c.at (atom.Cell c.value)

-- a module with one node, entry and pair, a parameter of each kind, an operating-point variable and a function of one argument
abbrev pub parameter : ℕ → ParamKind → RawParam
parameter at kind = record {
  names = codes "p" ∷ [];
  num_alias = on at 0;
  description = [];
  units = [];
  integer = false;
  kind = on (at + 1) kind;
}

abbrev pub no_loads : RawLoads
no_loads = record {
  residual_resist = [];
  residual_react = [];
  jacobian_resist = [];
  jacobian_react = [];
  jacobian_tran = [];
  spice_rhs_dc = [];
  spice_rhs_tran = [];
}

abbrev pub square : RawFunction
square = record {
  number = on 20 0;
  result = Real;
  arguments = record { ty = Real; number = on 21 0 } ∷ [];
  body = closed 24;
  value = on 23 (atom.Argument 0);
}

abbrev pub small : RawModule
small = record {
  numbers = on 10 0 ∷ on 30 0 ∷ [];
  model_fields = record { ty = Real; field = on 11 (Param 1) } ∷ record { ty = Integer; field = on 12 (Given 1) } ∷ [];
  sizes = record { node = on 13 1; jr = on 14 1; jq = on 15 1; col = on 16 1 };
  inst_fields =
      record { ty = Real; field = on 17 (Param 0) } ∷ record { ty = Real; field = on 18 (Resist 0) }
      ∷ record { ty = Real; field = on 19 (React 0) } ∷ record { ty = Integer; field = on 20 (OpVar 0) }
      ∷ record { ty = Real; field = on 21 (Stored 0) } ∷ [];
  functions = square ∷ [];
  access = record { id = on 31 1; instance = false; flag = Some (model 32 (Given 1)); cell = model 34 (Param 1) } ∷ [];
  setup_model = closed 40;
  setup_instance = closed 50;
  eval = closed 60;
  loads = no_loads;
  nodes =
      record {
        name = codes "a";
        units = codes "V";
        residual_units = codes "A";
        resist = on 70 (Resist 0);
        react = on 71 (React 0);
        is_flow = 0;
      }
      ∷ [];
  entries =
      record {
        pair = record { first = on 72 0; second = on 73 (Some 0) };
        react_offset = on 74 (Some 0);
        resist = true;
        react = true;
      }
      ∷ [];
  collapse = record { first = on 82 0; second = on 83 None } ∷ [];
  params = parameter 84 Inst ∷ parameter 86 OfModel ∷ parameter 88 Opvar ∷ [];
}

abbrev pub descriptor : RawDescriptor
descriptor = record {
  numbers = on 201 0 ∷ [];
  name = codes "m";
  num_nodes = on 202 1;
  num_terminals = on 203 1;
  num_entries = on 204 1;
  num_collapsible = on 205 1;
  num_params = on 206 2;
  num_instance_params = on 207 1;
  num_opvars = on 208 1;
}

abbrev pub file : RawModule → RawDescriptor → RawFile
file m d = record { modules = m ∷ []; num_descriptors = on 200 1; descriptors = d ∷ [] }

-- what is blamed in the file with another evaluation, set-up of the model, set-up of the instance or function
abbrev pub in_eval : RawBlock → List ℕ
in_eval block = blamed (file (record small { eval = block }) descriptor)

abbrev pub in_setup_model : RawBlock → List ℕ
in_setup_model block = blamed (file (record small { setup_model = block }) descriptor)

abbrev pub in_setup_instance : RawBlock → List ℕ
in_setup_instance block = blamed (file (record small { setup_instance = block }) descriptor)

abbrev pub in_function : RawBlock → List ℕ
in_function block = blamed (file (record small { functions = record square { body = block } ∷ [] }) descriptor)

abbrev pub with_module : RawModule → List ℕ
with_module m = blamed (file m descriptor)

abbrev pub with_descriptor : RawDescriptor → List ℕ
with_descriptor d = blamed (file small d)

-- Numbers in names, fields, and locals.
pub record WorkedNames : Type 0 where
  pub nothing : blamed (file small descriptor) ≡ []
  pub module_number : with_module (record small { numbers = on 10 0 ∷ on 30 1 ∷ [] }) ≡ 30 ∷ []
  pub function_number : with_module (record small { functions = record square { number = on 20 1 } ∷ [] }) ≡ 20 ∷ []
  pub descriptor_number : with_descriptor (record descriptor { numbers = on 201 2 ∷ [] }) ≡ 201 ∷ []
  -- `inst -> o1 = 1 ;`, `model -> temp`, and a flag that is a double
  pub no_field : in_eval (simple (set_cell (inst 100 (OpVar 1)) (whole 104 1)) (closed 106)) ≡ 102 ∷ []
  pub no_temperature_of_a_model :
      in_eval (simple (constant Real (on 102 0) (on 104 (same (cell (model 104 Temperature))))) (closed 108)) ≡ 106 ∷ []
  pub flag_is_a_double : with_module (record small {
    access = record { id = on 31 1; instance = false; flag = Some (model 32 (Param 1)); cell = model 34 (Param 1) } ∷ [];
  }) ≡ 34 ∷ []
  pub field_twice : with_module (record small {
    model_fields = record { ty = Real; field = on 11 (Param 1) } ∷ record { ty = Integer; field = on 12 (Given 1) }
        ∷ record { ty = Real; field = on 13 (Given 1) } ∷ [];
  }) ≡ 13 ∷ []
  -- `const double v1 = v1 ;` reads a local before it is declared
  pub own_right_side : in_eval (simple (constant Real (on 102 1) (on 104 (same (local 104 1)))) (closed 106)) ≡ 104 ∷ []
  -- a local of an arm, used behind the `if`
  pub out_of_its_block : in_eval (choice (whole 102 1) (simple (constant Integer (on 107 3) (on 109 (same (whole 109 1)))) (closed 111))
      (closed 114) (simple (set_cell (inst 115 (OpVar 0)) (local 119 3)) (closed 121))) ≡ 119 ∷ []
  -- two arms declare one local
  pub declared_in_both_arms : in_eval (choice (whole 102 1) (simple (constant Integer (on 107 3) (on 109 (same (whole 109 1)))) (closed 111))
      (simple (constant Integer (on 116 3) (on 118 (same (whole 118 1)))) (closed 120)) (closed 121)) ≡ 116 ∷ []
  pub argument_of_no_function : in_eval (simple (set_cell (inst 100 (Resist 0)) (on 104 (atom.Argument 0))) (closed 106)) ≡ 104 ∷ []
  pub argument_twice : with_module (record small {
    functions = record square { arguments = record { ty = Real; number = on 21 0 } ∷ record { ty = Real; number = on 22 0 } ∷ [] } ∷ [];
  }) ≡ 22 ∷ []

-- `int32_t v0 ;` with what follows
abbrev pub join_then : RawBlock → RawBlock
join_then rest = simple (join Integer (on 101 0)) rest

-- `int32_t v0 = 1 ;` with what follows
abbrev pub head_then : RawBlock → RawBlock
head_then rest = simple (head Integer (on 101 0) (whole 103 1)) rest

-- `v0 = 2 ;` at a token
abbrev pub sets_v0 : ℕ → RawBlock → RawBlock
sets_v0 at rest = simple (assign (on at 0) (whole (at + 2) 2)) rest

-- Settings of locals, and breaks.
pub record WorkedSettings : Type 0 where
  pub join_in_order : in_eval (join_then (choice (whole 105 1) (sets_v0 108 (closed 112)) (sets_v0 115 (closed 119))
      (simple (set_cell (inst 120 (OpVar 0)) (local 124 0)) (closed 126)))) ≡ []
  -- an arm without its setting: its closing brace; a second one: the second
  pub arm_without : in_eval (join_then (choice (whole 105 1) (sets_v0 108 (closed 112)) (closed 115) (closed 116))) ≡ 115 ∷ []
  pub arm_with_two : in_eval (join_then (choice (whole 105 1) (sets_v0 108 (sets_v0 112 (closed 116))) (sets_v0 119 (closed 123)) (closed 124)))
      ≡ 112 ∷ []
  -- a setting in an inner block isn't a direct one
  pub inner_setting : in_eval (join_then (choice (whole 105 1)
      (choice (whole 110 1) (sets_v0 113 (closed 117)) (closed 120) (closed 121)) (sets_v0 124 (closed 128)) (closed 129))) ≡ 113 ∷ 121 ∷ []
  pub setting_behind : in_eval (join_then (choice (whole 105 1) (sets_v0 108 (closed 112)) (sets_v0 115 (closed 119)) (sets_v0 120 (closed 124))))
      ≡ 120 ∷ []
  pub read_too_early : in_eval (join_then (simple (set_cell (inst 103 (OpVar 0)) (local 107 0))
      (choice (whole 111 1) (sets_v0 114 (closed 118)) (sets_v0 121 (closed 125)) (closed 126)))) ≡ 107 ∷ []
  -- no `if` follows: the setting, the reading and the closing brace
  pub no_choice : in_eval (join_then (sets_v0 103 (simple (set_cell (inst 107 (OpVar 0)) (local 111 0)) (closed 113)))) ≡ 103 ∷ 111 ∷ 113 ∷ []
  pub constant_again : in_eval (simple (constant Integer (on 102 0) (on 104 (same (whole 104 1)))) (sets_v0 106 (closed 110))) ≡ 106 ∷ []
  -- of a number that is declared again the first declaration counts, also in another block
  pub declared_again : in_eval (simple (constant Integer (on 102 0) (on 104 (same (whole 104 1))))
      (simple (join Integer (on 107 0)) (sets_v0 109 (closed 113)))) ≡ 107 ∷ 109 ∷ []
  pub declared_in_each_arm : in_eval (choice (whole 102 1) (simple (join Integer (on 106 0)) (closed 108))
      (simple (join Integer (on 112 0)) (closed 114)) (closed 115)) ≡ 112 ∷ 108 ∷ []
  pub head_in_order : in_eval (head_then (loop (leave 110 (local 113 0) (sets_v0 119 (closed 123))) (closed 124))) ≡ []
  -- a setting before the `break` is blamed, and the missing one at the closing brace
  pub before_the_break : in_eval (head_then (loop (sets_v0 110 (leave 114 (local 117 0) (closed 123))) (closed 124))) ≡ 110 ∷ 123 ∷ []
  pub turn_without : in_eval (head_then (loop (leave 110 (local 113 0) (closed 119)) (closed 120))) ≡ 119 ∷ []
  pub no_loop : in_eval (head_then (closed 105)) ≡ 105 ∷ []
  -- a loop without `break`, with two, and a `break` outside of a loop
  pub no_break : in_eval (loop (closed 108) (closed 109)) ≡ 108 ∷ []
  pub two_breaks : in_eval (loop (leave 108 (whole 111 0) (leave 117 (whole 120 0) (closed 126))) (closed 127)) ≡ 117 ∷ []
  pub break_in_an_arm : in_eval (loop (leave 108 (whole 111 0)
      (choice (whole 119 1) (leave 122 (whole 125 0) (closed 131)) (closed 134) (closed 135))) (closed 136)) ≡ 122 ∷ []
  -- without a `break` the setting isn't behind it
  pub head_without_break : in_eval (head_then (loop (sets_v0 110 (closed 114)) (closed 115))) ≡ 110 ∷ 114 ∷ 114 ∷ []

-- `const TYPE v0 = .. ;`, whose right side begins at token 104
abbrev pub real_v0 : RawRight → List ℕ
real_v0 side = in_eval (simple (constant Real (on 102 0) (on 104 side)) (closed 120))

abbrev pub integer_v0 : RawRight → List ℕ
integer_v0 side = in_eval (simple (constant Integer (on 102 0) (on 104 side)) (closed 120))

-- Types and calls.
pub record WorkedTypes : Type 0 where
  pub sum_in_order : real_v0 (binary (real 104) Plus (real 106)) ≡ []
  pub comparison_in_order : integer_v0 (binary (real 104) Less (real 106)) ≡ []
  -- of two types the second operand is blamed, and the declared type isn't tested
  pub two_types : integer_v0 (binary (real 104) Plus (whole 106 1)) ≡ 106 ∷ []
  pub declared_type : integer_v0 (binary (real 104) Plus (real 106)) ≡ 104 ∷ []
  pub comparison_is_an_integer : real_v0 (binary (real 104) Less (real 106)) ≡ 104 ∷ []
  -- with `%` each double is blamed
  pub remainder_of_doubles : real_v0 (binary (real 104) Remainder (real 106)) ≡ 104 ∷ 106 ∷ []
  pub contrary_of_a_double : real_v0 (contrary (real 105)) ≡ 105 ∷ 104 ∷ []
  pub cast_of_a_double : real_v0 (to_real (real 107)) ≡ 107 ∷ []
  pub rounded_integer : integer_v0 (to_integer (whole 109 1)) ≡ 109 ∷ []
  pub test_of_a_double : in_eval (choice (real 102) (closed 105) (closed 108) (closed 109)) ≡ 102 ∷ []
  pub cell_of_another_type : in_eval (simple (set_cell (inst 100 (OpVar 0)) (real 104)) (closed 106)) ≡ 104 ∷ []
  pub flag_from_a_double : in_setup_instance (simple (set_flag (on 100 0) (real 107)) (closed 109)) ≡ 107 ∷ []
  pub result_of_another_type : with_module (record small { functions = record square { value = whole 23 1 } ∷ [] }) ≡ 23 ∷ []
  -- what another rule blames has no type
  pub missing_operand : integer_v0 (binary (local 104 7) Plus (whole 106 1)) ≡ 104 ∷ []
  pub argument_of_another_type : real_v0 (call (callee.Function 0) (whole 106 1 ∷ [])) ≡ 106 ∷ []
  pub call_in_order : real_v0 (call (callee.Function 0) (real 106 ∷ [])) ≡ []
  pub too_many_arguments : real_v0 (call (callee.Fun1 Exp) (real 106 ∷ real 108 ∷ [])) ≡ 104 ∷ []
  pub no_function : real_v0 (call (callee.Function 1) []) ≡ 104 ∷ []
  pub calls_itself : in_function (simple (constant Real (on 102 0) (on 104 (call (callee.Function 0) (real 106 ∷ [])))) (closed 109)) ≡ 104 ∷ []

abbrev pub loads_of_residuals : RawLoad → List ℕ
loads_of_residuals load = with_module (record small { loads = record no_loads { residual_resist = load ∷ [] } })

abbrev pub loads_of_entries : RawLoad → List ℕ
loads_of_entries load = with_module (record small { loads = record no_loads { jacobian_react = load ∷ [] } })

-- Cells, and what bodies and loads may speak of.
pub record WorkedReach : Type 0 where
  pub cell_in_an_arm : in_eval (choice (whole 102 1) (simple (set_cell (inst 105 (OpVar 0)) (whole 109 1)) (closed 111)) (closed 114) (closed 115))
      ≡ 107 ∷ []
  pub cell_twice : in_eval (simple (set_cell (inst 100 (OpVar 0)) (whole 104 1)) (simple (set_cell (inst 106 (OpVar 0)) (whole 110 1)) (closed 112)))
      ≡ 108 ∷ []
  pub set_up_cell_in_an_evaluation : in_eval (simple (set_cell (inst 100 (Stored 0)) (real 104)) (closed 106)) ≡ 102 ∷ []
  pub flag_in_an_evaluation : in_eval (simple (set_flag (on 100 0) (whole 107 1)) (closed 109)) ≡ 102 ∷ []
  pub temperature : in_setup_instance (simple (set_cell (inst 100 Temperature) (real 104)) (closed 106)) ≡ 102 ∷ []
  pub instance_in_a_set_up_of_the_model : in_setup_model (simple (set_cell (inst 100 (Param 0)) (real 104)) (closed 106)) ≡ 100 ∷ []
  -- `x` before its `inst`
  pub solution_in_a_set_up_of_the_model : in_setup_model (simple (constant Real (on 102 0) (on 104 (same (on 104 (atom.Unknown 0))))) (closed 113))
      ≡ 104 ∷ 106 ∷ []
  pub solution_in_a_set_up : in_setup_instance (simple (constant Real (on 102 0) (on 104 (same (on 104 (atom.Unknown 0))))) (closed 113))
      ≡ 104 ∷ []
  pub cell_in_a_function : in_function (simple (constant Real (on 102 0) (on 104 (same (cell (inst 104 (Param 0)))))) (closed 108)) ≡ 106 ∷ []
  pub report_in_an_evaluation : in_eval (simple (report (on 100 0)) (closed 107)) ≡ 100 ∷ []
  pub report_in_a_set_up : in_setup_model (simple (report (on 100 0)) (closed 107)) ≡ []
  pub alpha_in_residuals : loads_of_residuals
      (record { target = on 100 (target.Node 0); sign = Add; first = on 109 factor.Alpha; more = [] }) ≡ 109 ∷ []
  pub vector_in_a_matrix : loads_of_entries
      (record { target = on 100 (target.Node 0); sign = Add; first = on 109 factor.Alpha; more = [] }) ≡ 100 ∷ []
  pub integer_in_a_load : loads_of_residuals
      (record { target = on 100 (target.Node 0); sign = Add; first = on 109 (factor.Cell (OpVar 0)); more = [] }) ≡ 111 ∷ []

-- Numbers and tables.
pub record WorkedNumbering : Type 0 where
  pub node_out_of_range : in_eval (simple (constant Real (on 102 0) (on 104 (same (on 104 (atom.Unknown 1))))) (closed 113)) ≡ 110 ∷ []
  pub flag_out_of_range : in_setup_instance (simple (set_flag (on 100 1) (whole 107 1)) (closed 109)) ≡ 104 ∷ []
  pub id_out_of_range : in_setup_model (simple (report (on 100 3)) (closed 107)) ≡ 104 ∷ []
  pub entry_out_of_range : loads_of_entries
      (record { target = on 100 (target.EntryReact 1); sign = Add; first = on 108 factor.Alpha; more = [] }) ≡ 105 ∷ []
  pub access_out_of_range : with_module (record small {
    access = record { id = on 31 3; instance = false; flag = None; cell = model 34 (Param 1) } ∷ [];
  }) ≡ 31 ∷ []
  pub instance_behind_model : with_module (record small { params = parameter 84 OfModel ∷ parameter 86 Inst ∷ parameter 88 Opvar ∷ [] })
      ≡ 87 ∷ []
  pub array_size : with_module (record small { sizes = record { node = on 13 1; jr = on 14 1; jq = on 15 0; col = on 16 1 } }) ≡ 15 ∷ []
  pub no_offset : with_module (record small {
    entries = record { pair = record { first = on 72 0; second = on 73 (Some 0) }; react_offset = on 74 None; resist = true; react = true } ∷ [];
  }) ≡ 74 ∷ []
  pub offset_of_another : with_module (record small {
    entries = record { pair = record { first = on 72 0; second = on 73 (Some 0) }; react_offset = on 74 (Some 1); resist = true; react = true } ∷ [];
  }) ≡ 80 ∷ []
  pub entry_of_the_reference : with_module (record small {
    entries = record { pair = record { first = on 72 0; second = on 73 None }; react_offset = on 74 None; resist = true; react = false } ∷ [];
  }) ≡ 73 ∷ []
  pub too_many_ports : with_descriptor (record descriptor { num_terminals = on 203 2 }) ≡ 203 ∷ []
  pub number_of_parameters : with_descriptor (record descriptor { num_params = on 206 3 }) ≡ 206 ∷ []
  pub number_of_instance_parameters : with_descriptor (record descriptor { num_instance_params = on 207 2 }) ≡ 207 ∷ []
  -- where the number of modules, of descriptors and the one that the file writes differ, this one is blamed
  pub number_of_descriptors : blamed (record (file small descriptor) { num_descriptors = on 200 2 }) ≡ 200 ∷ []
  pub no_descriptor : blamed (record (file small descriptor) { descriptors = [] }) ≡ 200 ∷ []
  pub least : least_blamed (record (file (record small { numbers = on 30 5 ∷ on 10 5 ∷ [] }) descriptor) { num_descriptors = on 200 2 })
      ≡ Some 10
