-- A C file that has each part of the grammar, and its text, which was written by hand.
use Rattle.std.specs.Prelude.{◌≡◌, ◌^◌, ℕ, true, false, ℤ, pos, negsuc, List, [], ◌∷◌, ◌++◌, Some, None, codes}
use Rattle.alg_laws.specs.declared.function.Fun2.TheVariants.{Pow}
use Rattle.alg_laws.specs.declared.number.Ty.TheVariants.{Integer, Real}
use Rattle.va_base.specs.Tables.{tables_text}
use Rattle.c_tree.specs.declared.body.CAtom.{CAtom}
use Rattle.c_tree.specs.declared.body.CAtom.TheVariants as atom
use Rattle.c_tree.specs.declared.body.CCallee.TheVariants as callee
use Rattle.c_tree.specs.declared.body.CCell.{CCell}
use Rattle.c_tree.specs.declared.body.CField.{CField}
use Rattle.c_tree.specs.declared.body.CField.TheVariants.{Param, Given, Resist, EntryResist, EntryReact, OpVar}
use Rattle.c_tree.specs.declared.body.COperator.TheVariants.{Minus, Remainder, AtMost}
use Rattle.c_tree.specs.declared.body.CRight.TheVariants.{Same, Negated, Contrary, ToReal, ToInteger, Call, Binary}
use Rattle.c_tree.specs.declared.body.CSimple.TheVariants.{Constant, Join, Head, Assign, SetCell, SetCollapse, Report}
use Rattle.c_tree.specs.declared.body.CStatement.{CStatement}
use Rattle.c_tree.specs.declared.body.CStatement.TheVariants.{Simple, If, For}
use Rattle.c_tree.specs.declared.body.Level.TheVariants.{Instance, Model}
use Rattle.c_tree.specs.declared.file.CFile.{CFile}
use Rattle.c_tree.specs.declared.file.CFunction.{CFunction}
use Rattle.c_tree.specs.declared.file.CModule.{CModule}
use Rattle.c_tree.specs.declared.load.CLoad.{CLoad}
use Rattle.c_tree.specs.declared.load.CLoads.{CLoads}
use Rattle.c_tree.specs.declared.load.LoadFactor.{LoadFactor}
use Rattle.c_tree.specs.declared.load.LoadFactor.TheVariants.{Alpha, Cell, Solution}
use Rattle.c_tree.specs.declared.load.LoadSign.{LoadSign}
use Rattle.c_tree.specs.declared.load.LoadSign.TheVariants.{Put, Add, Subtract}
use Rattle.c_tree.specs.declared.load.LoadTarget.{LoadTarget}
use Rattle.c_tree.specs.declared.load.LoadTarget.TheVariants.{Node, EntryResist as EntryResistTarget, EntryReact as EntryReactTarget}
use Rattle.c_tree.specs.declared.table.FieldRow.{FieldRow}
use Rattle.c_tree.specs.declared.table.NodeRow.{NodeRow}
use Rattle.c_tree.specs.declared.table.ParamKind.{ParamKind}
use Rattle.c_tree.specs.declared.table.ParamKind.TheVariants.{Inst, Model as OfModel, Opvar}
use Rattle.c_tree.specs.declared.table.ParamRow.{ParamRow}
use Rattle.c_tree.specs.Blocks.{flat_of, block_of}
use Rattle.c_tree.specs.FileOf.{file_of}
use Rattle.c_tree.specs.Form.{blamed}
use Rattle.c_tree.specs.RawOf.{raw_of}
use Rattle.c_tree.specs.Spelling.{spells_tables, spells_bodies, is_field_name, spells_atom, spells_entry, spells_param}
use Rattle.c_tree.specs.TablesOf.{tables_of}
use Rattle.c_tree.specs.Text.{text_of}

-- cells and fields by short names
abbrev pub inst : CField → CCell
inst field = record { level = Instance; field = field }

abbrev pub model : CField → CCell
model field = record { level = Model; field = field }

abbrev pub local : ℕ → CAtom
local i = atom.Local i

abbrev pub whole : ℕ → CAtom
whole i = atom.Integer i

abbrev pub real : ℕ → ℤ → CAtom
real m p = atom.Real (record { mantissa = m; power = p })

abbrev pub in_inst : CField → CAtom
in_inst field = atom.Cell (inst field)

abbrev pub in_model : CField → CAtom
in_model field = atom.Cell (model field)

abbrev pub double : List ℕ → FieldRow
double name = record { name = name; integer = false }

abbrev pub int32 : List ℕ → FieldRow
int32 name = record { name = name; integer = true }

abbrev pub node : List ℕ → List ℕ → List ℕ → ℕ → NodeRow
node name units residual_units is_flow =
    record { name = name; units = units; residual_units = residual_units; is_flow = is_flow }

abbrev pub load : LoadTarget → LoadSign → LoadFactor → List LoadFactor → CLoad
load target sign first more = record { target = target; sign = sign; first = first; more = more }

abbrev pub parameter : List (List ℕ) → List ℕ → List ℕ → ParamKind → ParamRow
parameter names description units kind =
    record { names = names; description = description; units = units; integer = false; kind = kind }

-- a power of an argument, and a constant
abbrev pub functions : List CFunction
functions =
    record {
      result = Real;
      arguments = record { ty = Real; number = 0 } ∷ record { ty = Integer; number = 1 } ∷ [];
      body = Simple (Constant Real 0 (ToReal (atom.Argument 1)))
          ∷ Simple (Constant Real 1 (Call (callee.Fun2 Pow) (local 0 ∷ atom.Argument 0 ∷ []))) ∷ [];
      value = local 1;
    }
    ∷ record { result = Integer; arguments = []; body = []; value = whole 7 } ∷ []

-- the value of a parameter that may be given, and its test
abbrev pub setup_model : List CStatement
setup_model =
    Simple (Join Real 0) ∷ If (in_model (Given 1)) 1 1 ∷ Simple (Assign 0 (in_model (Param 1)))
    ∷ Simple (Assign 0 (real 15 (negsuc 0))) ∷ Simple (SetCell (model (Param 1)) (local 0))
    ∷ Simple (Constant Integer 1 (Binary (local 0) AtMost (real 0 (pos 0)))) ∷ If (local 1) 1 0 ∷ Simple (Report 1) ∷ []

abbrev pub setup_instance : List CStatement
setup_instance = Simple (SetCell (inst (Param 1)) (in_model (Param 1))) ∷ Simple (SetCollapse 0 (whole 1)) ∷ []

-- a negative, conversions, and a loop that counts down from 3
abbrev pub eval : List CStatement
eval =
    Simple (Constant Real 0 (Same (atom.Unknown 0))) ∷ Simple (Constant Real 1 (Negated (local 0)))
    ∷ Simple (Constant Integer 2 (ToInteger (local 1))) ∷ Simple (Constant Integer 3 (Contrary (local 2)))
    ∷ Simple (Head Integer 4 (whole 3)) ∷ For 1 (local 4) 4
    ∷ Simple (Constant Integer 5 (Binary (local 4) Remainder (whole 2)))
    ∷ If (local 5) 0 1 ∷ Simple (Constant Integer 6 (Call (callee.Function 1) []))
    ∷ Simple (Constant Integer 7 (Binary (local 4) Minus (whole 1))) ∷ Simple (Assign 4 (local 7))
    ∷ Simple (SetCell (inst (OpVar 0)) (local 4)) ∷ []

abbrev pub loads : CLoads
loads = record {
  residual_resist = load (Node 0) Add (Cell (Resist 0)) [] ∷ [];
  residual_react = [];
  jacobian_resist = load (EntryResistTarget 0) Put (Cell (EntryResist 0)) [] ∷ [];
  jacobian_react = load (EntryReactTarget 1) Add Alpha (Cell (EntryReact 1) ∷ []) ∷ [];
  jacobian_tran = [];
  spice_rhs_dc = load (Node 0) Subtract (Cell (EntryResist 0)) (Solution 1 ∷ []) ∷ [];
  spice_rhs_tran = [];
}

abbrev pub sample_module : CModule
sample_module = record {
  name = codes "m";
  nodes = node (codes "a") (codes "V") (codes "A") 0 ∷ node (codes "flow(b)") (codes "A") (codes "V") 1 ∷ [];
  ports = 1;
  entries =
      record { row = 0; col = 0; resist = true; react = false } ∷ record { row = 0; col = 1; resist = false; react = true }
      ∷ record { row = 1; col = 1; resist = true; react = true } ∷ [];
  collapse = record { first = 0; second = None } ∷ [];
  params =
      parameter (codes "area" ∷ codes "ar" ∷ []) [] [] Inst
      ∷ parameter (codes "r" ∷ []) (codes "in \"ohm\" \\") (codes "Ohm") OfModel
      ∷ record { names = codes "n" ∷ []; description = codes "why?"; units = []; integer = true; kind = Opvar } ∷ [];
  model_fields = double (codes "p1") ∷ int32 (codes "g1") ∷ [];
  inst_fields =
      double (codes "p0") ∷ double (codes "p1") ∷ int32 (codes "g0") ∷ double (codes "r0") ∷ double (codes "q0")
      ∷ double (codes "r1") ∷ double (codes "q1") ∷ double (codes "er0") ∷ double (codes "eq1") ∷ int32 (codes "o0")
      ∷ double (codes "h0") ∷ [];
  functions = functions;
  access =
      record { id = 0; instance = true; flag = Some (inst (Given 0)); cell = inst (Param 0) }
      ∷ record { id = 1; instance = false; flag = Some (model (Given 1)); cell = model (Param 1) }
      ∷ record { id = 2; instance = false; flag = None; cell = inst (OpVar 0) } ∷ [];
  setup_model = setup_model;
  setup_instance = setup_instance;
  eval = eval;
  loads = loads;
}

abbrev pub sample : CFile
sample = record { modules = sample_module ∷ [] }

abbrev pub sample_text : List ℕ
sample_text =
    codes "#include \"osdi_0_3.h\"\n#include <math.h>\n#include <stddef.h>\n#include <stdint.h>\n"
    ++ codes "#include <stdlib.h>\nstatic void init_error ( OsdiInitInfo * res , uint32_t id ) {\n"
    ++ codes "OsdiInitError * more = realloc ( res -> errors , ( res -> num_errors + 1u ) * sizeof ( OsdiInitError ) ) ;\n"
    ++ codes "if ( more ) {\nmore [ res -> num_errors ] = ( OsdiInitError ) {\n"
    ++ codes ".code = INIT_ERR_OUT_OF_BOUNDS , .payload.parameter_id = id }\n;\nres -> errors = more ;\n"
    ++ codes "res -> num_errors = res -> num_errors + 1u ;\n}\n}\n"
    ++ codes "static void load_nothing ( void * ip , void * mp , double * dst ) {\n}\ntypedef struct {\n"
    ++ codes "uint32_t tag ;\ndouble p1 ;\nint32_t g1 ;\n}\nmodel_0 ;\ntypedef struct {\nuint32_t node [ 2u ] ;\n"
    ++ codes "double * jr [ 3u ] ;\ndouble * jq [ 3u ] ;\n_Bool col [ 1u ] ;\ndouble temp ;\ndouble p0 ;\n"
    ++ codes "double p1 ;\nint32_t g0 ;\ndouble r0 ;\ndouble q0 ;\ndouble r1 ;\ndouble q1 ;\ndouble er0 ;\n"
    ++ codes "double eq1 ;\nint32_t o0 ;\ndouble h0 ;\n}\ninst_0 ;\n"
    ++ codes "static double fn_0_0 ( double a0 , int32_t a1 ) {\nconst double v0 = ( double ) a1 ;\n"
    ++ codes "const double v1 = pow ( v0 , a0 ) ;\nreturn v1 ;\n}\nstatic int32_t fn_0_1 ( ) {\nreturn 7 ;\n}\n"
    ++ codes "static void * access_0 ( void * ip , void * mp , uint32_t id , uint32_t flags ) {\n"
    ++ codes "inst_0 * inst = ( inst_0 * ) ip ;\nmodel_0 * model = ( model_0 * ) mp ;\n"
    ++ codes "if ( id == 0u && ( flags & ACCESS_FLAG_INSTANCE ) ) {\nif ( flags & ACCESS_FLAG_SET ) {\n"
    ++ codes "inst -> g0 = 1 ;\n}\nreturn & inst -> p0 ;\n}\nif ( id == 1u ) {\nif ( flags & ACCESS_FLAG_SET ) {\n"
    ++ codes "model -> g1 = 1 ;\n}\nreturn & model -> p1 ;\n}\nif ( id == 2u ) {\nreturn & inst -> o0 ;\n}\n"
    ++ codes "return 0 ;\n}\n"
    ++ codes "static void setup_model_0 ( void * handle , void * mp , OsdiSimParas * sim , OsdiInitInfo * res ) {\n"
    ++ codes "model_0 * model = ( model_0 * ) mp ;\nres -> flags = 0u ;\nres -> num_errors = 0u ;\n"
    ++ codes "res -> errors = 0 ;\ndouble v0 ;\nif ( model -> g1 ) {\nv0 = model -> p1 ;\n}\nelse {\n"
    ++ codes "v0 = 15e-1 ;\n}\nmodel -> p1 = v0 ;\nconst int32_t v1 = v0 <= 0e0 ;\nif ( v1 ) {\n"
    ++ codes "init_error ( res , 1u ) ;\n}\nelse {\n}\n}\n"
    ++ codes "static void setup_instance_0 ( void * handle , void * ip , void * mp , double temperature , uint32_t "
    ++ codes "num_terminals , OsdiSimParas * sim , OsdiInitInfo * res ) {\n"
    ++ codes "inst_0 * inst = ( inst_0 * ) ip ;\nmodel_0 * model = ( model_0 * ) mp ;\nres -> flags = 0u ;\n"
    ++ codes "res -> num_errors = 0u ;\nres -> errors = 0 ;\ninst -> temp = temperature ;\n"
    ++ codes "inst -> p1 = model -> p1 ;\ninst -> col [ 0u ] = 1 ;\n}\n"
    ++ codes "static uint32_t eval_0 ( void * handle , void * ip , void * mp , OsdiSimInfo * info ) {\n"
    ++ codes "inst_0 * inst = ( inst_0 * ) ip ;\nmodel_0 * model = ( model_0 * ) mp ;\n"
    ++ codes "const double * x = info -> prev_solve ;\nconst double v0 = x [ inst -> node [ 0u ] ] ;\n"
    ++ codes "const double v1 = - v0 ;\nconst int32_t v2 = ( int32_t ) lround ( v1 ) ;\n"
    ++ codes "const int32_t v3 = ! v2 ;\nint32_t v4 = 3 ;\nfor ( ;\n;\n) {\nconst int32_t v5 = v4 % 2 ;\n"
    ++ codes "if ( ! v4 ) {\nbreak ;\n}\nif ( v5 ) {\n}\nelse {\nconst int32_t v6 = fn_0_1 ( ) ;\n}\n"
    ++ codes "const int32_t v7 = v4 - 1 ;\nv4 = v7 ;\n}\ninst -> o0 = v4 ;\nreturn 0u ;\n}\n"
    ++ codes "static void load_residual_resist_0 ( void * ip , void * mp , double * dst ) {\n"
    ++ codes "inst_0 * inst = ( inst_0 * ) ip ;\ndst [ inst -> node [ 0u ] ] += inst -> r0 ;\n}\n"
    ++ codes "static void load_residual_react_0 ( void * ip , void * mp , double * dst ) {\n"
    ++ codes "inst_0 * inst = ( inst_0 * ) ip ;\n}\n"
    ++ codes "static void load_jacobian_resist_0 ( void * ip , void * mp ) {\ninst_0 * inst = ( inst_0 * ) ip ;\n"
    ++ codes "* inst -> jr [ 0u ] = inst -> er0 ;\n}\n"
    ++ codes "static void load_jacobian_react_0 ( void * ip , void * mp , double alpha ) {\n"
    ++ codes "inst_0 * inst = ( inst_0 * ) ip ;\n* inst -> jq [ 1u ] += alpha * inst -> eq1 ;\n}\n"
    ++ codes "static void load_jacobian_tran_0 ( void * ip , void * mp , double alpha ) {\n"
    ++ codes "inst_0 * inst = ( inst_0 * ) ip ;\n}\n"
    ++ codes "static void load_spice_rhs_dc_0 ( void * ip , void * mp , double * dst , double * x ) {\n"
    ++ codes "inst_0 * inst = ( inst_0 * ) ip ;\n"
    ++ codes "dst [ inst -> node [ 0u ] ] -= inst -> er0 * x [ inst -> node [ 1u ] ] ;\n}\n"
    ++ codes "static void load_spice_rhs_tran_0 ( void * ip , void * mp , double * dst , double * x , double alpha ) {\n"
    ++ codes "inst_0 * inst = ( inst_0 * ) ip ;\n}\nOsdiNode nodes_0 [ ] = {\n{\n"
    ++ codes ".name = \"a\" , .units = \"V\" , .residual_units = \"A\" , .resist_residual_off = offsetof ( inst_0 , "
    ++ codes "r0 ) , .react_residual_off = offsetof ( inst_0 , q0 ) , .resist_limit_rhs_off = UINT32_MAX , "
    ++ codes ".react_limit_rhs_off = UINT32_MAX , .is_flow = 0 }\n"
    ++ codes ", {\n"
    ++ codes ".name = \"flow(b)\" , .units = \"A\" , .residual_units = \"V\" , .resist_residual_off = offsetof ( "
    ++ codes "inst_0 , r1 ) , .react_residual_off = offsetof ( inst_0 , q1 ) , .resist_limit_rhs_off = UINT32_MAX , "
    ++ codes ".react_limit_rhs_off = UINT32_MAX , .is_flow = 1 }\n"
    ++ codes ", {\n0 }\n}\n;\nOsdiJacobianEntry entries_0 [ ] = {\n{\n.nodes = {\n.node_1 = 0u , .node_2 = 0u }\n"
    ++ codes ", .react_ptr_off = UINT32_MAX , .flags = JACOBIAN_ENTRY_RESIST }\n, {\n.nodes = {\n"
    ++ codes ".node_1 = 0u , .node_2 = 1u }\n"
    ++ codes ", .react_ptr_off = offsetof ( inst_0 , jq [ 1u ] ) , .flags = JACOBIAN_ENTRY_REACT }\n, {\n"
    ++ codes ".nodes = {\n.node_1 = 1u , .node_2 = 1u }\n"
    ++ codes ", .react_ptr_off = offsetof ( inst_0 , jq [ 2u ] ) , .flags = JACOBIAN_ENTRY_RESIST | JACOBIAN_ENTRY_REACT }\n"
    ++ codes ", {\n0 }\n}\n;\nOsdiNodePair collapse_0 [ ] = {\n{\n.node_1 = 0u , .node_2 = UINT32_MAX }\n, {\n"
    ++ codes "0 }\n}\n;\nOsdiParamOpvar params_0 [ ] = {\n{\n.name = ( char * [ ] ) {\n\"area\" , \"ar\" }\n"
    ++ codes ", .num_alias = 1u , .description = \"\" , .units = \"\" , .flags = PARA_TY_REAL | PARA_KIND_INST , .len "
    ++ codes "= 0u }\n"
    ++ codes ", {\n.name = ( char * [ ] ) {\n\"r\" }\n"
    ++ codes ", .num_alias = 0u , .description = \"in \\042ohm\\042 \\134\" , .units = \"Ohm\" , .flags = "
    ++ codes "PARA_TY_REAL | PARA_KIND_MODEL , .len = 0u }\n"
    ++ codes ", {\n.name = ( char * [ ] ) {\n\"n\" }\n"
    ++ codes ", .num_alias = 0u , .description = \"why\\077\" , .units = \"\" , .flags = PARA_TY_INT | "
    ++ codes "PARA_KIND_OPVAR , .len = 0u }\n"
    ++ codes ", {\n0 }\n}\n;\nconst uint32_t OSDI_VERSION_MAJOR = 0u ;\nconst uint32_t OSDI_VERSION_MINOR = 3u ;\n"
    ++ codes "const uint32_t OSDI_NUM_DESCRIPTORS = 1u ;\nconst OsdiDescriptor OSDI_DESCRIPTORS [ ] = {\n{\n"
    ++ codes ".name = \"m\" , .num_nodes = 2u , .num_terminals = 1u , .nodes = nodes_0 , .num_jacobian_entries = 3u , "
    ++ codes ".jacobian_entries = entries_0 , .num_collapsible = 1u , .collapsible = collapse_0 , .collapsed_offset = "
    ++ codes "offsetof ( inst_0 , col ) , .noise_sources = 0 , .num_noise_src = 0u , .num_params = 2u , "
    ++ codes ".num_instance_params = 1u , .num_opvars = 1u , .param_opvar = params_0 , .node_mapping_offset = "
    ++ codes "offsetof ( inst_0 , node ) , .jacobian_ptr_resist_offset = offsetof ( inst_0 , jr ) , .num_states = 0u "
    ++ codes ", .state_idx_off = 0u , .bound_step_offset = UINT32_MAX , .instance_size = sizeof ( inst_0 ) , "
    ++ codes ".model_size = sizeof ( model_0 ) , .access = access_0 , .setup_model = setup_model_0 , .setup_instance "
    ++ codes "= setup_instance_0 , .eval = eval_0 , .load_noise = 0 , .load_limit_rhs_resist = load_nothing , "
    ++ codes ".load_limit_rhs_react = load_nothing , .load_residual_resist = load_residual_resist_0 , "
    ++ codes ".load_residual_react = load_residual_react_0 , .load_jacobian_resist = load_jacobian_resist_0 , "
    ++ codes ".load_jacobian_react = load_jacobian_react_0 , .load_jacobian_tran = load_jacobian_tran_0 , "
    ++ codes ".load_spice_rhs_dc = load_spice_rhs_dc_0 , .load_spice_rhs_tran = load_spice_rhs_tran_0 }\n"
    ++ codes ", {\n0 }\n}\n;\n"

-- the texts of the file and of its tables
pub record WorkedText : Type 0 where
  pub text : text_of sample ≡ sample_text
  pub tables : tables_text (tables_of sample)
      ≡ codes "module m\nports 1\nnode 0 a \"V\" \"A\"\nnode 1 flow(b) \"A\" \"V\"\nentry 0 0 r\nentry 0 1 x\nentry 1 1 rx\n"
      ++ codes "collapse 0 ref\nparam 0 area real instance \"\" \"\"\nalias 0 ar\n"
      ++ codes "param 1 r real model \"in \"ohm\" \\\" \"Ohm\"\nopvar 2 n integer \"why?\" \"\"\n"

-- the file obeys the rules of form
pub record WorkedForm : Type 0 where
  pub file : file_of (raw_of sample) ≡ sample
  pub blames_nothing : blamed (raw_of sample) ≡ []

-- what can be spelled
pub record WorkedSpelling : Type 0 where
  pub tables : spells_tables sample_module ≡ true
  pub bodies : spells_bodies sample_module ≡ true
  pub blocks : flat_of (block_of eval) ≡ eval
  pub cut_block : flat_of (block_of (For 1 (local 4) 4 ∷ [])) ≡ For 0 (local 4) 0 ∷ []
  pub field : is_field_name (codes "er12") ≡ true
  pub zero : is_field_name (codes "p0") ≡ true
  pub greatest : is_field_name (codes "g4294967295") ≡ true
  pub too_great : is_field_name (codes "g4294967296") ≡ false
  pub leading_zero : is_field_name (codes "p00") ≡ false
  pub no_number : is_field_name (codes "r") ≡ false
  pub other_letter : is_field_name (codes "x1") ≡ false
  pub temperature : is_field_name (codes "temp") ≡ false
  pub whole : spells_atom (atom.Integer 2147483648) ≡ false
  pub mantissa : spells_atom (real (2 ^ 127) (pos 0)) ≡ false
  pub power : spells_atom (real 1 (negsuc 9999)) ≡ false
  pub no_part : spells_entry (record { row = 0; col = 0; resist = false; react = false }) ≡ false
  pub no_name : spells_param (parameter [] [] [] Inst) ≡ false
