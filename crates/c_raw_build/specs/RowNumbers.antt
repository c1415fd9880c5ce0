-- The numbers of the rows of the grammar, by name: the places of their texts among `row_texts` of `c_syntax`, counted from 0.
use Rattle.std.specs.Prelude.{ℕ}

-- <File> = <osdi_header> <math_header> <stddef_header> <stdint_header> <stdlib_header> <Help> <Modules> ..
abbrev pub file_row : ℕ
file_row = 0

-- <Help> = static void init_error ( OsdiInitInfo * res , uint32_t id ) { OsdiInitError * more = realloc ( ..
abbrev pub help_row : ℕ
help_row = 1

-- <Modules> = <Module> <Modules>
abbrev pub modules_row : ℕ
modules_row = 2

-- <Modules> = .
abbrev pub no_modules_row : ℕ
no_modules_row = 3

-- <Module> = <Structs> <Functions> <SetupModel> <SetupInstance> <Eval> <Loads> <Tables>
abbrev pub module_row : ℕ
module_row = 4

-- <Structs> = typedef struct { uint32_t tag ; <Fields> } <model> ; typedef struct { uint32_t node [ ..
abbrev pub structs_row : ℕ
structs_row = 5

-- <Fields> = <Type> <field> ; <Fields>
abbrev pub fields_row : ℕ
fields_row = 6

-- <Fields> = .
abbrev pub no_fields_row : ℕ
no_fields_row = 7

-- <Type> = double
abbrev pub real_type_row : ℕ
real_type_row = 8

-- <Type> = int32_t
abbrev pub integer_type_row : ℕ
integer_type_row = 9

-- <Functions> = static <FunctionOrAccess>
abbrev pub functions_row : ℕ
functions_row = 10

-- <FunctionOrAccess> = <Type> <fn> ( <Arguments> ) { <Statements> return <Atom> ; } <Functions>
abbrev pub function_row : ℕ
function_row = 11

-- <FunctionOrAccess> = void * <access> ( void * ip , void * mp , uint32_t id , uint32_t flags ) { ..
abbrev pub access_row : ℕ
access_row = 12

-- <Arguments> = <Type> <argument> <MoreArguments>
abbrev pub arguments_row : ℕ
arguments_row = 13

-- <Arguments> = .
abbrev pub no_arguments_row : ℕ
no_arguments_row = 14

-- <MoreArguments> = , <Type> <argument> <MoreArguments>
abbrev pub more_arguments_row : ℕ
more_arguments_row = 15

-- <MoreArguments> = .
abbrev pub no_more_arguments_row : ℕ
no_more_arguments_row = 16

-- <AccessRows> = if ( id == <Number> <InstanceTest> ) { <FlagSetting> return & <Cell> ; } <AccessRows>
abbrev pub access_rows_row : ℕ
access_rows_row = 17

-- <AccessRows> = .
abbrev pub no_access_rows_row : ℕ
no_access_rows_row = 18

-- <InstanceTest> = && ( flags & ACCESS_FLAG_INSTANCE )
abbrev pub instance_test_row : ℕ
instance_test_row = 19

-- <InstanceTest> = .
abbrev pub no_instance_test_row : ℕ
no_instance_test_row = 20

-- <FlagSetting> = if ( flags & ACCESS_FLAG_SET ) { <Cell> = 1 ; }
abbrev pub flag_setting_row : ℕ
flag_setting_row = 21

-- <FlagSetting> = .
abbrev pub no_flag_setting_row : ℕ
no_flag_setting_row = 22

-- <Cell> = inst -> <FieldName>
abbrev pub instance_cell_row : ℕ
instance_cell_row = 23

-- <Cell> = model -> <FieldName>
abbrev pub model_cell_row : ℕ
model_cell_row = 24

-- <FieldName> = <field>
abbrev pub numbered_field_row : ℕ
numbered_field_row = 25

-- <FieldName> = temp
abbrev pub temperature_field_row : ℕ
temperature_field_row = 26

-- <Instance> = <inst> * inst = ( <inst> * ) ip ;
abbrev pub instance_row : ℕ
instance_row = 27

-- <Model> = <model> * model = ( <model> * ) mp ;
abbrev pub model_row : ℕ
model_row = 28

-- <Reset> = res -> flags = 0u ; res -> num_errors = 0u ; res -> errors = 0 ;
abbrev pub reset_row : ℕ
reset_row = 29

-- <SetupModel> = static void <setup_model> ( void * handle , void * mp , OsdiSimParas * sim , OsdiInitInfo ..
abbrev pub setup_model_row : ℕ
setup_model_row = 30

-- <SetupInstance> = static void <setup_instance> ( void * handle , void * ip , void * mp , double ..
abbrev pub setup_instance_row : ℕ
setup_instance_row = 31

-- <Eval> = static uint32_t <eval> ( void * handle , void * ip , void * mp , OsdiSimInfo * info ) { ..
abbrev pub eval_row : ℕ
eval_row = 32

-- <Statements> = <Statement> <Statements>
abbrev pub statements_row : ℕ
statements_row = 33

-- <Statements> = .
abbrev pub no_statements_row : ℕ
no_statements_row = 34

-- <Statement> = const <Type> <local> = <Right> ;
abbrev pub constant_row : ℕ
constant_row = 35

-- <Statement> = <Type> <local> <FirstValue> ;
abbrev pub declared_row : ℕ
declared_row = 36

-- <Statement> = <local> = <Atom> ;
abbrev pub assigned_row : ℕ
assigned_row = 37

-- <Statement> = if ( <IfRest>
abbrev pub if_row : ℕ
if_row = 38

-- <Statement> = for ( ; ; ) { <Statements> }
abbrev pub for_row : ℕ
for_row = 39

-- <Statement> = model -> <FieldName> = <Atom> ;
abbrev pub set_model_row : ℕ
set_model_row = 40

-- <Statement> = inst -> <InstanceTarget> = <Atom> ;
abbrev pub set_instance_row : ℕ
set_instance_row = 41

-- <Statement> = init_error ( res , <Number> ) ;
abbrev pub report_row : ℕ
report_row = 42

-- <FirstValue> = = <Atom>
abbrev pub first_value_row : ℕ
first_value_row = 43

-- <FirstValue> = .
abbrev pub no_first_value_row : ℕ
no_first_value_row = 44

-- <IfRest> = ! <Atom> ) { break ; }
abbrev pub break_row : ℕ
break_row = 45

-- <IfRest> = <Atom> ) { <Statements> } else { <Statements> }
abbrev pub two_arms_row : ℕ
two_arms_row = 46

-- <InstanceTarget> = <FieldName>
abbrev pub field_target_row : ℕ
field_target_row = 47

-- <InstanceTarget> = col [ <Number> ]
abbrev pub collapse_target_row : ℕ
collapse_target_row = 48

-- <Right> = - <Atom>
abbrev pub negated_row : ℕ
negated_row = 49

-- <Right> = ! <Atom>
abbrev pub contrary_row : ℕ
contrary_row = 50

-- <Right> = ( <Conversion>
abbrev pub converted_row : ℕ
converted_row = 51

-- <Right> = <Callee> ( <Values> )
abbrev pub called_row : ℕ
called_row = 52

-- <Right> = <Atom> <Operation>
abbrev pub operands_row : ℕ
operands_row = 53

-- <Conversion> = double ) <Atom>
abbrev pub to_real_row : ℕ
to_real_row = 54

-- <Conversion> = int32_t ) lround ( <Atom> )
abbrev pub to_integer_row : ℕ
to_integer_row = 55

-- <Callee> = <function>
abbrev pub named_function_row : ℕ
named_function_row = 56

-- <Callee> = <fn>
abbrev pub module_function_row : ℕ
module_function_row = 57

-- <Values> = <Atom> <MoreValues>
abbrev pub values_row : ℕ
values_row = 58

-- <Values> = .
abbrev pub no_values_row : ℕ
no_values_row = 59

-- <MoreValues> = , <Atom> <MoreValues>
abbrev pub more_values_row : ℕ
more_values_row = 60

-- <MoreValues> = .
abbrev pub no_more_values_row : ℕ
no_more_values_row = 61

-- <Operation> = <Operator> <Atom>
abbrev pub operation_row : ℕ
operation_row = 62

-- <Operation> = .
abbrev pub no_operation_row : ℕ
no_operation_row = 63

-- <Operator> = +
abbrev pub plus_row : ℕ
plus_row = 64

-- <Operator> = -
abbrev pub minus_row : ℕ
minus_row = 65

-- <Operator> = *
abbrev pub times_row : ℕ
times_row = 66

-- <Operator> = /
abbrev pub over_row : ℕ
over_row = 67

-- <Operator> = %
abbrev pub remainder_row : ℕ
remainder_row = 68

-- <Operator> = <
abbrev pub less_row : ℕ
less_row = 69

-- <Operator> = <=
abbrev pub at_most_row : ℕ
at_most_row = 70

-- <Operator> = >
abbrev pub greater_row : ℕ
greater_row = 71

-- <Operator> = >=
abbrev pub at_least_row : ℕ
at_least_row = 72

-- <Operator> = ==
abbrev pub same_row : ℕ
same_row = 73

-- <Operator> = !=
abbrev pub differs_row : ℕ
differs_row = 74

-- <Atom> = <local>
abbrev pub local_atom_row : ℕ
local_atom_row = 75

-- <Atom> = <argument>
abbrev pub argument_atom_row : ℕ
argument_atom_row = 76

-- <Atom> = <Integer>
abbrev pub integer_atom_row : ℕ
integer_atom_row = 77

-- <Atom> = <real>
abbrev pub real_atom_row : ℕ
real_atom_row = 78

-- <Atom> = <Cell>
abbrev pub cell_atom_row : ℕ
cell_atom_row = 79

-- <Atom> = x [ <Node> ]
abbrev pub unknown_atom_row : ℕ
unknown_atom_row = 80

-- <Node> = inst -> node [ <Number> ]
abbrev pub node_row : ℕ
node_row = 81

-- <Integer> = 0
abbrev pub integer_zero_row : ℕ
integer_zero_row = 82

-- <Integer> = 1
abbrev pub integer_one_row : ℕ
integer_one_row = 83

-- <Integer> = <integer>
abbrev pub integer_row : ℕ
integer_row = 84

-- <Number> = 0u
abbrev pub number_zero_row : ℕ
number_zero_row = 85

-- <Number> = 1u
abbrev pub number_one_row : ℕ
number_one_row = 86

-- <Number> = 3u
abbrev pub number_three_row : ℕ
number_three_row = 87

-- <Number> = <unsigned>
abbrev pub number_row : ℕ
number_row = 88

-- <Loads> = <ResidualResist> <ResidualReact> <JacobianResist> <JacobianReact> <JacobianTran> <SpiceRhsDc> ..
abbrev pub loads_row : ℕ
loads_row = 89

-- <ResidualResist> = static void <load_residual_resist> ( void * ip , void * mp , double * dst ) { ..
abbrev pub residual_resist_row : ℕ
residual_resist_row = 90

-- <ResidualReact> = static void <load_residual_react> ( void * ip , void * mp , double * dst ) { ..
abbrev pub residual_react_row : ℕ
residual_react_row = 91

-- <JacobianResist> = static void <load_jacobian_resist> ( void * ip , void * mp ) { <Instance> ..
abbrev pub jacobian_resist_row : ℕ
jacobian_resist_row = 92

-- <JacobianReact> = static void <load_jacobian_react> ( void * ip , void * mp , double alpha ) { ..
abbrev pub jacobian_react_row : ℕ
jacobian_react_row = 93

-- <JacobianTran> = static void <load_jacobian_tran> ( void * ip , void * mp , double alpha ) { <Instance> ..
abbrev pub jacobian_tran_row : ℕ
jacobian_tran_row = 94

-- <SpiceRhsDc> = static void <load_spice_rhs_dc> ( void * ip , void * mp , double * dst , double * x ) { ..
abbrev pub spice_rhs_dc_row : ℕ
spice_rhs_dc_row = 95

-- <SpiceRhsTran> = static void <load_spice_rhs_tran> ( void * ip , void * mp , double * dst , double * x , ..
abbrev pub spice_rhs_tran_row : ℕ
spice_rhs_tran_row = 96

-- <LoadStatements> = <LoadTarget> <LoadSign> <Factor> <MoreFactors> ; <LoadStatements>
abbrev pub load_row : ℕ
load_row = 97

-- <LoadStatements> = .
abbrev pub no_load_row : ℕ
no_load_row = 98

-- <LoadTarget> = dst [ <Node> ]
abbrev pub node_target_row : ℕ
node_target_row = 99

-- <LoadTarget> = * inst -> <MatrixTarget>
abbrev pub matrix_target_row : ℕ
matrix_target_row = 100

-- <MatrixTarget> = jr [ <Number> ]
abbrev pub resist_target_row : ℕ
resist_target_row = 101

-- <MatrixTarget> = jq [ <Number> ]
abbrev pub react_target_row : ℕ
react_target_row = 102

-- <LoadSign> = =
abbrev pub put_row : ℕ
put_row = 103

-- <LoadSign> = +=
abbrev pub add_row : ℕ
add_row = 104

-- <LoadSign> = -=
abbrev pub subtract_row : ℕ
subtract_row = 105

-- <Factor> = alpha
abbrev pub alpha_row : ℕ
alpha_row = 106

-- <Factor> = inst -> <FieldName>
abbrev pub cell_factor_row : ℕ
cell_factor_row = 107

-- <Factor> = x [ <Node> ]
abbrev pub solution_factor_row : ℕ
solution_factor_row = 108

-- <MoreFactors> = * <Factor> <MoreFactors>
abbrev pub more_factors_row : ℕ
more_factors_row = 109

-- <MoreFactors> = .
abbrev pub no_more_factors_row : ℕ
no_more_factors_row = 110

-- <Tables> = OsdiNode <nodes> [ ] = { <NodeRows> } ; OsdiJacobianEntry <entries> [ ] = { <EntryRows> } ; ..
abbrev pub tables_row : ℕ
tables_row = 111

-- <NodeRows> = { <NodeRow>
abbrev pub node_rows_row : ℕ
node_rows_row = 112

-- <NodeRow> = .name = <string> , .units = <string> , .residual_units = <string> , .resist_residual_off = ..
abbrev pub node_row_row : ℕ
node_row_row = 113

-- <NodeRow> = 0 }
abbrev pub no_node_row_row : ℕ
no_node_row_row = 114

-- <EntryRows> = { <EntryRow>
abbrev pub entry_rows_row : ℕ
entry_rows_row = 115

-- <EntryRow> = .nodes = { <Pair> } , .react_ptr_off = <ReactPointer> , .flags = <EntryParts> } , <EntryRows>
abbrev pub entry_row_row : ℕ
entry_row_row = 116

-- <EntryRow> = 0 }
abbrev pub no_entry_row_row : ℕ
no_entry_row_row = 117

-- <Pair> = .node_1 = <Number> , .node_2 = <SecondNode>
abbrev pub pair_row : ℕ
pair_row = 118

-- <SecondNode> = <Number>
abbrev pub second_node_row : ℕ
second_node_row = 119

-- <SecondNode> = UINT32_MAX
abbrev pub no_second_node_row : ℕ
no_second_node_row = 120

-- <ReactPointer> = offsetof ( <inst> , jq [ <Number> ] )
abbrev pub react_pointer_row : ℕ
react_pointer_row = 121

-- <ReactPointer> = UINT32_MAX
abbrev pub no_react_pointer_row : ℕ
no_react_pointer_row = 122

-- <EntryParts> = JACOBIAN_ENTRY_RESIST <AndReact>
abbrev pub resist_parts_row : ℕ
resist_parts_row = 123

-- <EntryParts> = JACOBIAN_ENTRY_REACT
abbrev pub react_part_row : ℕ
react_part_row = 124

-- <AndReact> = | JACOBIAN_ENTRY_REACT
abbrev pub and_react_row : ℕ
and_react_row = 125

-- <AndReact> = .
abbrev pub no_and_react_row : ℕ
no_and_react_row = 126

-- <PairRows> = { <PairRow>
abbrev pub pair_rows_row : ℕ
pair_rows_row = 127

-- <PairRow> = <Pair> } , <PairRows>
abbrev pub pair_row_row : ℕ
pair_row_row = 128

-- <PairRow> = 0 }
abbrev pub no_pair_row_row : ℕ
no_pair_row_row = 129

-- <ParamRows> = { <ParamRow>
abbrev pub param_rows_row : ℕ
param_rows_row = 130

-- <ParamRow> = .name = ( char * [ ] ) { <string> <MoreStrings> } , .num_alias = <Number> , .description = ..
abbrev pub param_row_row : ℕ
param_row_row = 131

-- <ParamRow> = 0 }
abbrev pub no_param_row_row : ℕ
no_param_row_row = 132

-- <MoreStrings> = , <string> <MoreStrings>
abbrev pub more_strings_row : ℕ
more_strings_row = 133

-- <MoreStrings> = .
abbrev pub no_more_strings_row : ℕ
no_more_strings_row = 134

-- <ParamType> = PARA_TY_REAL
abbrev pub real_param_row : ℕ
real_param_row = 135

-- <ParamType> = PARA_TY_INT
abbrev pub integer_param_row : ℕ
integer_param_row = 136

-- <ParamKind> = PARA_KIND_INST
abbrev pub instance_param_row : ℕ
instance_param_row = 137

-- <ParamKind> = PARA_KIND_MODEL
abbrev pub model_param_row : ℕ
model_param_row = 138

-- <ParamKind> = PARA_KIND_OPVAR
abbrev pub opvar_row : ℕ
opvar_row = 139

-- <Exports> = const uint32_t OSDI_VERSION_MAJOR = 0u ; const uint32_t OSDI_VERSION_MINOR = 3u ; const ..
abbrev pub exports_row : ℕ
exports_row = 140

-- <Descriptors> = { <Descriptor>
abbrev pub descriptors_row : ℕ
descriptors_row = 141

-- <Descriptor> = .name = <string> , .num_nodes = <Number> , .num_terminals = <Number> , .nodes = <nodes> , ..
abbrev pub descriptor_row : ℕ
descriptor_row = 142

-- <Descriptor> = 0 }
abbrev pub no_descriptor_row : ℕ
no_descriptor_row = 143
