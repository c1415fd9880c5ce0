-- The names of the kinds of tokens and of the nonterminals of a C file. A number of a kind or of a nonterminal is its place in
-- the list, counted from 0.
use Rattle.std.specs.Prelude.{ℕ, suc, List, [], ◌∷◌, ◌++◌, codes, Option, Some, None, if◌then◌else◌}
use Rattle.std.specs.Str.{bytes_eq}
use Rattle.c_tree.specs.Words.{Word, template}

-- Kinds of many tokens: the end of a file, what no row holds, the five includes, strings, numbers, a function of C's library,
-- and names that end with a number. The name of such a kind stands in angle brackets.
unfoldable pub class_names : List Word
class_names =
    template (codes "<end> <other> <osdi_header> <math_header> <stddef_header> <stdint_header> <stdlib_header> <string> <integer>")
    ++ template (codes "<unsigned> <real> <function> <local> <argument> <field> <fn> <model> <inst> <access> <setup_model>")
    ++ template (codes "<setup_instance> <eval> <load_residual_resist> <load_residual_react> <load_jacobian_resist>")
    ++ template (codes "<load_jacobian_react> <load_jacobian_tran> <load_spice_rhs_dc> <load_spice_rhs_tran> <nodes> <entries>")
    ++ template (codes "<collapse> <params>")

-- Kinds of one token each, named by it: numbers that rows hold, marks, words, and names of fields of tables' elements.
unfoldable pub number_names : List Word
number_names = template (codes "0 1 0u 1u 3u")

unfoldable pub mark_names : List Word
mark_names = template (codes "-> && <= >= == != += -= ( ) { } [ ] ; , * = + - / % < > ! & |")

unfoldable pub word_names : List Word
word_names =
    template (codes "static void init_error OsdiInitInfo res uint32_t id OsdiInitError more realloc errors num_errors sizeof if")
    ++ template (codes "INIT_ERR_OUT_OF_BOUNDS load_nothing ip mp double dst typedef struct tag node jr jq _Bool col temp int32_t")
    ++ template (codes "return flags ACCESS_FLAG_INSTANCE ACCESS_FLAG_SET inst model handle OsdiSimParas sim temperature num_terminals")
    ++ template (codes "OsdiSimInfo info const x prev_solve for break else lround alpha OsdiNode OsdiJacobianEntry OsdiNodePair")
    ++ template (codes "OsdiParamOpvar offsetof UINT32_MAX JACOBIAN_ENTRY_RESIST JACOBIAN_ENTRY_REACT char PARA_TY_REAL PARA_TY_INT")
    ++ template (codes "PARA_KIND_INST PARA_KIND_MODEL PARA_KIND_OPVAR OSDI_VERSION_MAJOR OSDI_VERSION_MINOR OSDI_NUM_DESCRIPTORS")
    ++ template (codes "OsdiDescriptor OSDI_DESCRIPTORS")

unfoldable pub field_names : List Word
field_names =
    template (codes ".code .payload.parameter_id .name .units .residual_units .resist_residual_off .react_residual_off")
    ++ template (codes ".resist_limit_rhs_off .react_limit_rhs_off .is_flow .nodes .react_ptr_off .flags .node_1 .node_2 .num_alias")
    ++ template (codes ".description .len .num_nodes .num_terminals .num_jacobian_entries .jacobian_entries .num_collapsible")
    ++ template (codes ".collapsible .collapsed_offset .noise_sources .num_noise_src .num_params .num_instance_params .num_opvars")
    ++ template (codes ".param_opvar .node_mapping_offset .jacobian_ptr_resist_offset .num_states .state_idx_off .bound_step_offset")
    ++ template (codes ".instance_size .model_size .access .setup_model .setup_instance .eval .load_noise .load_limit_rhs_resist")
    ++ template (codes ".load_limit_rhs_react .load_residual_resist .load_residual_react .load_jacobian_resist .load_jacobian_react")
    ++ template (codes ".load_jacobian_tran .load_spice_rhs_dc .load_spice_rhs_tran")

unfoldable pub kind_names : List Word
kind_names = class_names ++ number_names ++ mark_names ++ word_names ++ field_names

unfoldable pub nonterminal_names : List Word
nonterminal_names =
    template (codes "<File> <Help> <Modules> <Module> <Structs> <Fields> <Type> <Functions> <FunctionOrAccess> <Arguments>")
    ++ template (codes "<MoreArguments> <AccessRows> <InstanceTest> <FlagSetting> <Cell> <FieldName> <Instance> <Model> <Reset>")
    ++ template (codes "<SetupModel> <SetupInstance> <Eval> <Statements> <Statement> <FirstValue> <IfRest> <InstanceTarget> <Right>")
    ++ template (codes "<Conversion> <Callee> <Values> <MoreValues> <Operation> <Operator> <Atom> <Node> <Integer> <Number> <Loads>")
    ++ template (codes "<ResidualResist> <ResidualReact> <JacobianResist> <JacobianReact> <JacobianTran> <SpiceRhsDc> <SpiceRhsTran>")
    ++ template (codes "<LoadStatements> <LoadTarget> <MatrixTarget> <LoadSign> <Factor> <MoreFactors> <Tables> <NodeRows> <NodeRow>")
    ++ template (codes "<EntryRows> <EntryRow> <Pair> <SecondNode> <ReactPointer> <EntryParts> <AndReact> <PairRows> <PairRow>")
    ++ template (codes "<ParamRows> <ParamRow> <MoreStrings> <ParamType> <ParamKind> <Exports> <Descriptors> <Descriptor>")

-- one place further
abbrev pub one_further : Option ℕ → Option ℕ
one_further None = None
one_further (Some i) = Some (suc i)

-- the place of a name in a list
abbrev pub place_of : List Word → Word → Option ℕ
place_of [] name = None
place_of (first ∷ names) name = if bytes_eq first name then Some 0 else one_further (place_of names name)
