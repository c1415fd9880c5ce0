-- The rows of the grammar of a C file, in order. A row's number is its place, counted from 0. Names in angle brackets are
-- nonterminals, which begin with a capital letter, and kinds of many tokens; every other word is a token that stands for itself.
-- A row without symbols is written `.`. What several rows begin with is read once, so that the next token tells the row.
use Rattle.std.specs.Prelude.{ℕ, List, [], ◌∷◌, map, codes, Option, Some, None, if◌then◌else◌, ◌++◌}
use Rattle.std.specs.Option.{unwrap_or}
use Rattle.std.specs.Str.{bytes_eq}
use Rattle.predict.specs.declared.symbol.Symbol.{Symbol}
use Rattle.predict.specs.declared.symbol.Symbol.TheVariants.{Kind, Left}
use Rattle.c_tree.specs.Words.{Word, template}
use Rattle.predict.specs.FirstFit.{Written}
use Rattle.c_syntax.specs.grammar.Names.{kind_names, nonterminal_names, place_of}

unfoldable pub row_texts : List (List ℕ)
row_texts =
    codes "<File> = <osdi_header> <math_header> <stddef_header> <stdint_header> <stdlib_header> <Help> <Modules> <Exports>" ∷
    (codes "<Help> = static void init_error ( OsdiInitInfo * res , uint32_t id ) { OsdiInitError * more = realloc ( res ->"
    ++ codes " errors , ( res -> num_errors + 1u ) * sizeof ( OsdiInitError ) ) ; if ( more ) { more [ res -> num_errors ] = ("
    ++ codes " OsdiInitError ) { .code = INIT_ERR_OUT_OF_BOUNDS , .payload.parameter_id = id } ; res -> errors = more ; res ->"
    ++ codes " num_errors = res -> num_errors + 1u ; } } static void load_nothing ( void * ip , void * mp , double * dst ) { }") ∷
    codes "<Modules> = <Module> <Modules>" ∷
    codes "<Modules> = ." ∷
    codes "<Module> = <Structs> <Functions> <SetupModel> <SetupInstance> <Eval> <Loads> <Tables>" ∷
    (codes "<Structs> = typedef struct { uint32_t tag ; <Fields> } <model> ; typedef struct { uint32_t node [ <Number> ] ;"
    ++ codes " double * jr [ <Number> ] ; double * jq [ <Number> ] ; _Bool col [ <Number> ] ; double temp ; <Fields> } <inst> ;") ∷
    codes "<Fields> = <Type> <field> ; <Fields>" ∷
    codes "<Fields> = ." ∷
    codes "<Type> = double" ∷
    codes "<Type> = int32_t" ∷
    codes "<Functions> = static <FunctionOrAccess>" ∷
    codes "<FunctionOrAccess> = <Type> <fn> ( <Arguments> ) { <Statements> return <Atom> ; } <Functions>" ∷
    (codes "<FunctionOrAccess> = void * <access> ( void * ip , void * mp , uint32_t id , uint32_t flags ) { <Instance>"
    ++ codes " <Model> <AccessRows> return 0 ; }") ∷
    codes "<Arguments> = <Type> <argument> <MoreArguments>" ∷
    codes "<Arguments> = ." ∷
    codes "<MoreArguments> = , <Type> <argument> <MoreArguments>" ∷
    codes "<MoreArguments> = ." ∷
    codes "<AccessRows> = if ( id == <Number> <InstanceTest> ) { <FlagSetting> return & <Cell> ; } <AccessRows>" ∷
    codes "<AccessRows> = ." ∷
    codes "<InstanceTest> = && ( flags & ACCESS_FLAG_INSTANCE )" ∷
    codes "<InstanceTest> = ." ∷
    codes "<FlagSetting> = if ( flags & ACCESS_FLAG_SET ) { <Cell> = 1 ; }" ∷
    codes "<FlagSetting> = ." ∷
    codes "<Cell> = inst -> <FieldName>" ∷
    codes "<Cell> = model -> <FieldName>" ∷
    codes "<FieldName> = <field>" ∷
    codes "<FieldName> = temp" ∷
    codes "<Instance> = <inst> * inst = ( <inst> * ) ip ;" ∷
    codes "<Model> = <model> * model = ( <model> * ) mp ;" ∷
    codes "<Reset> = res -> flags = 0u ; res -> num_errors = 0u ; res -> errors = 0 ;" ∷
    (codes "<SetupModel> = static void <setup_model> ( void * handle , void * mp , OsdiSimParas * sim , OsdiInitInfo * res )"
    ++ codes " { <Model> <Reset> <Statements> }") ∷
    (codes "<SetupInstance> = static void <setup_instance> ( void * handle , void * ip , void * mp , double temperature ,"
    ++ codes " uint32_t num_terminals , OsdiSimParas * sim , OsdiInitInfo * res ) { <Instance> <Model> <Reset> inst -> temp ="
    ++ codes " temperature ; <Statements> }") ∷
    (codes "<Eval> = static uint32_t <eval> ( void * handle , void * ip , void * mp , OsdiSimInfo * info ) { <Instance>"
    ++ codes " <Model> const double * x = info -> prev_solve ; <Statements> return 0u ; }") ∷
    codes "<Statements> = <Statement> <Statements>" ∷
    codes "<Statements> = ." ∷
    codes "<Statement> = const <Type> <local> = <Right> ;" ∷
    codes "<Statement> = <Type> <local> <FirstValue> ;" ∷
    codes "<Statement> = <local> = <Atom> ;" ∷
    codes "<Statement> = if ( <IfRest>" ∷
    codes "<Statement> = for ( ; ; ) { <Statements> }" ∷
    codes "<Statement> = model -> <FieldName> = <Atom> ;" ∷
    codes "<Statement> = inst -> <InstanceTarget> = <Atom> ;" ∷
    codes "<Statement> = init_error ( res , <Number> ) ;" ∷
    codes "<FirstValue> = = <Atom>" ∷
    codes "<FirstValue> = ." ∷
    codes "<IfRest> = ! <Atom> ) { break ; }" ∷
    codes "<IfRest> = <Atom> ) { <Statements> } else { <Statements> }" ∷
    codes "<InstanceTarget> = <FieldName>" ∷
    codes "<InstanceTarget> = col [ <Number> ]" ∷
    codes "<Right> = - <Atom>" ∷
    codes "<Right> = ! <Atom>" ∷
    codes "<Right> = ( <Conversion>" ∷
    codes "<Right> = <Callee> ( <Values> )" ∷
    codes "<Right> = <Atom> <Operation>" ∷
    codes "<Conversion> = double ) <Atom>" ∷
    codes "<Conversion> = int32_t ) lround ( <Atom> )" ∷
    codes "<Callee> = <function>" ∷
    codes "<Callee> = <fn>" ∷
    codes "<Values> = <Atom> <MoreValues>" ∷
    codes "<Values> = ." ∷
    codes "<MoreValues> = , <Atom> <MoreValues>" ∷
    codes "<MoreValues> = ." ∷
    codes "<Operation> = <Operator> <Atom>" ∷
    codes "<Operation> = ." ∷
    codes "<Operator> = +" ∷
    codes "<Operator> = -" ∷
    codes "<Operator> = *" ∷
    codes "<Operator> = /" ∷
    codes "<Operator> = %" ∷
    codes "<Operator> = <" ∷
    codes "<Operator> = <=" ∷
    codes "<Operator> = >" ∷
    codes "<Operator> = >=" ∷
    codes "<Operator> = ==" ∷
    codes "<Operator> = !=" ∷
    codes "<Atom> = <local>" ∷
    codes "<Atom> = <argument>" ∷
    codes "<Atom> = <Integer>" ∷
    codes "<Atom> = <real>" ∷
    codes "<Atom> = <Cell>" ∷
    codes "<Atom> = x [ <Node> ]" ∷
    codes "<Node> = inst -> node [ <Number> ]" ∷
    codes "<Integer> = 0" ∷
    codes "<Integer> = 1" ∷
    codes "<Integer> = <integer>" ∷
    codes "<Number> = 0u" ∷
    codes "<Number> = 1u" ∷
    codes "<Number> = 3u" ∷
    codes "<Number> = <unsigned>" ∷
    (codes "<Loads> = <ResidualResist> <ResidualReact> <JacobianResist> <JacobianReact> <JacobianTran> <SpiceRhsDc>"
    ++ codes " <SpiceRhsTran>") ∷
    (codes "<ResidualResist> = static void <load_residual_resist> ( void * ip , void * mp , double * dst ) { <Instance>"
    ++ codes " <LoadStatements> }") ∷
    (codes "<ResidualReact> = static void <load_residual_react> ( void * ip , void * mp , double * dst ) { <Instance>"
    ++ codes " <LoadStatements> }") ∷
    codes "<JacobianResist> = static void <load_jacobian_resist> ( void * ip , void * mp ) { <Instance> <LoadStatements> }" ∷
    (codes "<JacobianReact> = static void <load_jacobian_react> ( void * ip , void * mp , double alpha ) { <Instance>"
    ++ codes " <LoadStatements> }") ∷
    (codes "<JacobianTran> = static void <load_jacobian_tran> ( void * ip , void * mp , double alpha ) { <Instance>"
    ++ codes " <LoadStatements> }") ∷
    (codes "<SpiceRhsDc> = static void <load_spice_rhs_dc> ( void * ip , void * mp , double * dst , double * x ) {"
    ++ codes " <Instance> <LoadStatements> }") ∷
    (codes "<SpiceRhsTran> = static void <load_spice_rhs_tran> ( void * ip , void * mp , double * dst , double * x , double"
    ++ codes " alpha ) { <Instance> <LoadStatements> }") ∷
    codes "<LoadStatements> = <LoadTarget> <LoadSign> <Factor> <MoreFactors> ; <LoadStatements>" ∷
    codes "<LoadStatements> = ." ∷
    codes "<LoadTarget> = dst [ <Node> ]" ∷
    codes "<LoadTarget> = * inst -> <MatrixTarget>" ∷
    codes "<MatrixTarget> = jr [ <Number> ]" ∷
    codes "<MatrixTarget> = jq [ <Number> ]" ∷
    codes "<LoadSign> = =" ∷
    codes "<LoadSign> = +=" ∷
    codes "<LoadSign> = -=" ∷
    codes "<Factor> = alpha" ∷
    codes "<Factor> = inst -> <FieldName>" ∷
    codes "<Factor> = x [ <Node> ]" ∷
    codes "<MoreFactors> = * <Factor> <MoreFactors>" ∷
    codes "<MoreFactors> = ." ∷
    (codes "<Tables> = OsdiNode <nodes> [ ] = { <NodeRows> } ; OsdiJacobianEntry <entries> [ ] = { <EntryRows> } ;"
    ++ codes " OsdiNodePair <collapse> [ ] = { <PairRows> } ; OsdiParamOpvar <params> [ ] = { <ParamRows> } ;") ∷
    codes "<NodeRows> = { <NodeRow>" ∷
    (codes "<NodeRow> = .name = <string> , .units = <string> , .residual_units = <string> , .resist_residual_off = offsetof"
    ++ codes " ( <inst> , <FieldName> ) , .react_residual_off = offsetof ( <inst> , <FieldName> ) , .resist_limit_rhs_off ="
    ++ codes " UINT32_MAX , .react_limit_rhs_off = UINT32_MAX , .is_flow = <Integer> } , <NodeRows>") ∷
    codes "<NodeRow> = 0 }" ∷
    codes "<EntryRows> = { <EntryRow>" ∷
    codes "<EntryRow> = .nodes = { <Pair> } , .react_ptr_off = <ReactPointer> , .flags = <EntryParts> } , <EntryRows>" ∷
    codes "<EntryRow> = 0 }" ∷
    codes "<Pair> = .node_1 = <Number> , .node_2 = <SecondNode>" ∷
    codes "<SecondNode> = <Number>" ∷
    codes "<SecondNode> = UINT32_MAX" ∷
    codes "<ReactPointer> = offsetof ( <inst> , jq [ <Number> ] )" ∷
    codes "<ReactPointer> = UINT32_MAX" ∷
    codes "<EntryParts> = JACOBIAN_ENTRY_RESIST <AndReact>" ∷
    codes "<EntryParts> = JACOBIAN_ENTRY_REACT" ∷
    codes "<AndReact> = | JACOBIAN_ENTRY_REACT" ∷
    codes "<AndReact> = ." ∷
    codes "<PairRows> = { <PairRow>" ∷
    codes "<PairRow> = <Pair> } , <PairRows>" ∷
    codes "<PairRow> = 0 }" ∷
    codes "<ParamRows> = { <ParamRow>" ∷
    (codes "<ParamRow> = .name = ( char * [ ] ) { <string> <MoreStrings> } , .num_alias = <Number> , .description = <string>"
    ++ codes " , .units = <string> , .flags = <ParamType> | <ParamKind> , .len = 0u } , <ParamRows>") ∷
    codes "<ParamRow> = 0 }" ∷
    codes "<MoreStrings> = , <string> <MoreStrings>" ∷
    codes "<MoreStrings> = ." ∷
    codes "<ParamType> = PARA_TY_REAL" ∷
    codes "<ParamType> = PARA_TY_INT" ∷
    codes "<ParamKind> = PARA_KIND_INST" ∷
    codes "<ParamKind> = PARA_KIND_MODEL" ∷
    codes "<ParamKind> = PARA_KIND_OPVAR" ∷
    (codes "<Exports> = const uint32_t OSDI_VERSION_MAJOR = 0u ; const uint32_t OSDI_VERSION_MINOR = 3u ; const uint32_t"
    ++ codes " OSDI_NUM_DESCRIPTORS = <Number> ; const OsdiDescriptor OSDI_DESCRIPTORS [ ] = { <Descriptors> } ;") ∷
    codes "<Descriptors> = { <Descriptor>" ∷
    (codes "<Descriptor> = .name = <string> , .num_nodes = <Number> , .num_terminals = <Number> , .nodes = <nodes> ,"
    ++ codes " .num_jacobian_entries = <Number> , .jacobian_entries = <entries> , .num_collapsible = <Number> , .collapsible ="
    ++ codes " <collapse> , .collapsed_offset = offsetof ( <inst> , col ) , .noise_sources = 0 , .num_noise_src = 0u ,"
    ++ codes " .num_params = <Number> , .num_instance_params = <Number> , .num_opvars = <Number> , .param_opvar = <params> ,"
    ++ codes " .node_mapping_offset = offsetof ( <inst> , node ) , .jacobian_ptr_resist_offset = offsetof ( <inst> , jr ) ,"
    ++ codes " .num_states = 0u , .state_idx_off = 0u , .bound_step_offset = UINT32_MAX , .instance_size = sizeof ( <inst> ) ,"
    ++ codes " .model_size = sizeof ( <model> ) , .access = <access> , .setup_model = <setup_model> , .setup_instance ="
    ++ codes " <setup_instance> , .eval = <eval> , .load_noise = 0 , .load_limit_rhs_resist = load_nothing ,"
    ++ codes " .load_limit_rhs_react = load_nothing , .load_residual_resist = <load_residual_resist> , .load_residual_react ="
    ++ codes " <load_residual_react> , .load_jacobian_resist = <load_jacobian_resist> , .load_jacobian_react ="
    ++ codes " <load_jacobian_react> , .load_jacobian_tran = <load_jacobian_tran> , .load_spice_rhs_dc = <load_spice_rhs_dc> ,"
    ++ codes " .load_spice_rhs_tran = <load_spice_rhs_tran> } , <Descriptors>") ∷
    codes "<Descriptor> = 0 }" ∷
    []

-- a kind or a nonterminal by its place among the names
abbrev pub named : Option ℕ → Option ℕ → Symbol
named (Some left) kind = Left left
named None kind = Kind (unwrap_or kind 1)

-- the symbol that a word of a row names
abbrev pub symbol_named : Word → Symbol
symbol_named name = named (place_of nonterminal_names name) (place_of kind_names name)

-- the symbols that words of a row name: none where a point stands alone
abbrev pub symbols_named : List Word → List Symbol
symbols_named [] = []
symbols_named (name ∷ names) = if bytes_eq name (codes ".") then [] else symbol_named name ∷ map symbol_named names

-- a row by its words: its nonterminal, `=`, and its symbols
abbrev pub row_named : List Word → Written
row_named [] = record { left = 0; symbols = [] }
row_named (left ∷ []) = record { left = 0; symbols = [] }
row_named (left ∷ equals ∷ names) = record { left = unwrap_or (place_of nonterminal_names left) 0; symbols = symbols_named names }

-- the rows
unfoldable pub written_rows : List Written
written_rows = map (λ text. row_named (template text)) row_texts
