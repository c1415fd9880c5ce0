-- The numbers of the nonterminals, by name: their places in `nonterminal_names` of `c_syntax`, counted from 0.
use Rattle.std.specs.Prelude.{ℕ}

abbrev pub file_left : ℕ
file_left = 0

abbrev pub help_left : ℕ
help_left = 1

abbrev pub modules_left : ℕ
modules_left = 2

abbrev pub module_left : ℕ
module_left = 3

abbrev pub structs_left : ℕ
structs_left = 4

abbrev pub fields_left : ℕ
fields_left = 5

abbrev pub type_left : ℕ
type_left = 6

abbrev pub functions_left : ℕ
functions_left = 7

abbrev pub function_or_access_left : ℕ
function_or_access_left = 8

abbrev pub arguments_left : ℕ
arguments_left = 9

abbrev pub more_arguments_left : ℕ
more_arguments_left = 10

abbrev pub access_rows_left : ℕ
access_rows_left = 11

abbrev pub instance_test_left : ℕ
instance_test_left = 12

abbrev pub flag_setting_left : ℕ
flag_setting_left = 13

abbrev pub cell_left : ℕ
cell_left = 14

abbrev pub field_name_left : ℕ
field_name_left = 15

abbrev pub instance_left : ℕ
instance_left = 16

abbrev pub model_left : ℕ
model_left = 17

abbrev pub reset_left : ℕ
reset_left = 18

abbrev pub setup_model_left : ℕ
setup_model_left = 19

abbrev pub setup_instance_left : ℕ
setup_instance_left = 20

abbrev pub eval_left : ℕ
eval_left = 21

abbrev pub statements_left : ℕ
statements_left = 22

abbrev pub statement_left : ℕ
statement_left = 23

abbrev pub first_value_left : ℕ
first_value_left = 24

abbrev pub if_rest_left : ℕ
if_rest_left = 25

abbrev pub instance_target_left : ℕ
instance_target_left = 26

abbrev pub right_left : ℕ
right_left = 27

abbrev pub conversion_left : ℕ
conversion_left = 28

abbrev pub callee_left : ℕ
callee_left = 29

abbrev pub values_left : ℕ
values_left = 30

abbrev pub more_values_left : ℕ
more_values_left = 31

abbrev pub operation_left : ℕ
operation_left = 32

abbrev pub operator_left : ℕ
operator_left = 33

abbrev pub atom_left : ℕ
atom_left = 34

abbrev pub node_left : ℕ
node_left = 35

abbrev pub integer_left : ℕ
integer_left = 36

abbrev pub number_left : ℕ
number_left = 37

abbrev pub loads_left : ℕ
loads_left = 38

abbrev pub residual_resist_left : ℕ
residual_resist_left = 39

abbrev pub residual_react_left : ℕ
residual_react_left = 40

abbrev pub jacobian_resist_left : ℕ
jacobian_resist_left = 41

abbrev pub jacobian_react_left : ℕ
jacobian_react_left = 42

abbrev pub jacobian_tran_left : ℕ
jacobian_tran_left = 43

abbrev pub spice_rhs_dc_left : ℕ
spice_rhs_dc_left = 44

abbrev pub spice_rhs_tran_left : ℕ
spice_rhs_tran_left = 45

abbrev pub load_statements_left : ℕ
load_statements_left = 46

abbrev pub load_target_left : ℕ
load_target_left = 47

abbrev pub matrix_target_left : ℕ
matrix_target_left = 48

abbrev pub load_sign_left : ℕ
load_sign_left = 49

abbrev pub factor_left : ℕ
factor_left = 50

abbrev pub more_factors_left : ℕ
more_factors_left = 51

abbrev pub tables_left : ℕ
tables_left = 52

abbrev pub node_rows_left : ℕ
node_rows_left = 53

abbrev pub node_row_left : ℕ
node_row_left = 54

abbrev pub entry_rows_left : ℕ
entry_rows_left = 55

abbrev pub entry_row_left : ℕ
entry_row_left = 56

abbrev pub pair_left : ℕ
pair_left = 57

abbrev pub second_node_left : ℕ
second_node_left = 58

abbrev pub react_pointer_left : ℕ
react_pointer_left = 59

abbrev pub entry_parts_left : ℕ
entry_parts_left = 60

abbrev pub and_react_left : ℕ
and_react_left = 61

abbrev pub pair_rows_left : ℕ
pair_rows_left = 62

abbrev pub pair_row_left : ℕ
pair_row_left = 63

abbrev pub param_rows_left : ℕ
param_rows_left = 64

abbrev pub param_row_left : ℕ
param_row_left = 65

abbrev pub more_strings_left : ℕ
more_strings_left = 66

abbrev pub param_type_left : ℕ
param_type_left = 67

abbrev pub param_kind_left : ℕ
param_kind_left = 68

abbrev pub exports_left : ℕ
exports_left = 69

abbrev pub descriptors_left : ℕ
descriptors_left = 70

abbrev pub descriptor_left : ℕ
descriptor_left = 71
