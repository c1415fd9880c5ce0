-- The nonterminals of the grammar by name: their numbers, which are their places among `nonterminal_names` of `c_syntax`, counted
-- from 0.
use Rattle.std.specs.Prelude.{ℕ, List, [], ◌∷◌}
use Rattle.predict.specs.declared.symbol.Symbol.{Symbol}
use Rattle.predict.specs.declared.symbol.Symbol.TheVariants.{Kind, Left}

-- <File>
abbrev pub file : ℕ
file = 0

-- <Help>
abbrev pub help : ℕ
help = 1

-- <Modules>
abbrev pub modules : ℕ
modules = 2

-- <Module>
abbrev pub one_module : ℕ
one_module = 3

-- <Structs>
abbrev pub structs : ℕ
structs = 4

-- <Fields>
abbrev pub fields : ℕ
fields = 5

-- <Type>
abbrev pub ty : ℕ
ty = 6

-- <Functions>
abbrev pub functions : ℕ
functions = 7

-- <FunctionOrAccess>
abbrev pub function_or_access : ℕ
function_or_access = 8

-- <Arguments>
abbrev pub arguments : ℕ
arguments = 9

-- <MoreArguments>
abbrev pub more_arguments : ℕ
more_arguments = 10

-- <AccessRows>
abbrev pub access_rows : ℕ
access_rows = 11

-- <InstanceTest>
abbrev pub instance_test : ℕ
instance_test = 12

-- <FlagSetting>
abbrev pub flag_setting : ℕ
flag_setting = 13

-- <Cell>
abbrev pub cell : ℕ
cell = 14

-- <FieldName>
abbrev pub field_name : ℕ
field_name = 15

-- <Instance>
abbrev pub instance : ℕ
instance = 16

-- <Model>
abbrev pub model : ℕ
model = 17

-- <Reset>
abbrev pub reset : ℕ
reset = 18

-- <SetupModel>
abbrev pub setup_model : ℕ
setup_model = 19

-- <SetupInstance>
abbrev pub setup_instance : ℕ
setup_instance = 20

-- <Eval>
abbrev pub eval : ℕ
eval = 21

-- <Statements>
abbrev pub statements : ℕ
statements = 22

-- <Statement>
abbrev pub statement : ℕ
statement = 23

-- <FirstValue>
abbrev pub first_value : ℕ
first_value = 24

-- <IfRest>
abbrev pub if_rest : ℕ
if_rest = 25

-- <InstanceTarget>
abbrev pub instance_target : ℕ
instance_target = 26

-- <Right>
abbrev pub right : ℕ
right = 27

-- <Conversion>
abbrev pub conversion : ℕ
conversion = 28

-- <Callee>
abbrev pub callee : ℕ
callee = 29

-- <Values>
abbrev pub values : ℕ
values = 30

-- <MoreValues>
abbrev pub more_values : ℕ
more_values = 31

-- <Operation>
abbrev pub operation : ℕ
operation = 32

-- <Operator>
abbrev pub operator : ℕ
operator = 33

-- <Atom>
abbrev pub atom : ℕ
atom = 34

-- <Node>
abbrev pub node : ℕ
node = 35

-- <Integer>
abbrev pub integer : ℕ
integer = 36

-- <Number>
abbrev pub number : ℕ
number = 37

-- <Loads>
abbrev pub loads : ℕ
loads = 38

-- <ResidualResist>
abbrev pub residual_resist : ℕ
residual_resist = 39

-- <ResidualReact>
abbrev pub residual_react : ℕ
residual_react = 40

-- <JacobianResist>
abbrev pub jacobian_resist : ℕ
jacobian_resist = 41

-- <JacobianReact>
abbrev pub jacobian_react : ℕ
jacobian_react = 42

-- <JacobianTran>
abbrev pub jacobian_tran : ℕ
jacobian_tran = 43

-- <SpiceRhsDc>
abbrev pub spice_rhs_dc : ℕ
spice_rhs_dc = 44

-- <SpiceRhsTran>
abbrev pub spice_rhs_tran : ℕ
spice_rhs_tran = 45

-- <LoadStatements>
abbrev pub load_statements : ℕ
load_statements = 46

-- <LoadTarget>
abbrev pub load_target : ℕ
load_target = 47

-- <MatrixTarget>
abbrev pub matrix_target : ℕ
matrix_target = 48

-- <LoadSign>
abbrev pub load_sign : ℕ
load_sign = 49

-- <Factor>
abbrev pub factor : ℕ
factor = 50

-- <MoreFactors>
abbrev pub more_factors : ℕ
more_factors = 51

-- <Tables>
abbrev pub tables : ℕ
tables = 52

-- <NodeRows>
abbrev pub node_rows : ℕ
node_rows = 53

-- <NodeRow>
abbrev pub node_row : ℕ
node_row = 54

-- <EntryRows>
abbrev pub entry_rows : ℕ
entry_rows = 55

-- <EntryRow>
abbrev pub entry_row : ℕ
entry_row = 56

-- <Pair>
abbrev pub pair : ℕ
pair = 57

-- <SecondNode>
abbrev pub second_node : ℕ
second_node = 58

-- <ReactPointer>
abbrev pub react_pointer : ℕ
react_pointer = 59

-- <EntryParts>
abbrev pub entry_parts : ℕ
entry_parts = 60

-- <AndReact>
abbrev pub and_react : ℕ
and_react = 61

-- <PairRows>
abbrev pub pair_rows : ℕ
pair_rows = 62

-- <PairRow>
abbrev pub pair_row : ℕ
pair_row = 63

-- <ParamRows>
abbrev pub param_rows : ℕ
param_rows = 64

-- <ParamRow>
abbrev pub param_row : ℕ
param_row = 65

-- <MoreStrings>
abbrev pub more_strings : ℕ
more_strings = 66

-- <ParamType>
abbrev pub param_type : ℕ
param_type = 67

-- <ParamKind>
abbrev pub param_kind : ℕ
param_kind = 68

-- <Exports>
abbrev pub exports : ℕ
exports = 69

-- <Descriptors>
abbrev pub descriptors : ℕ
descriptors = 70

-- <Descriptor>
abbrev pub descriptor : ℕ
descriptor = 71

-- those of the load functions
abbrev pub load_functions : List ℕ
load_functions = residual_resist ∷ residual_react ∷ jacobian_resist ∷ jacobian_react ∷ jacobian_tran ∷ spice_rhs_dc ∷ spice_rhs_tran ∷ []

-- what stands behind the opening brace of a load function: the last kind is that of `}`
abbrev pub load_body : List Symbol
load_body = Left instance ∷ Left load_statements ∷ Kind 49 ∷ []
