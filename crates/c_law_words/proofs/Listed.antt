-- The rows of the grammar and the names of the kinds by their numbers: what the texts of `c_syntax` name, worked out once.
use Rattle.std.specs.Prelude.{◌≡◌, ℕ, Bool, true, not, ◌&&◌, ◌||◌, nat_eq, nat_lt, List, [], ◌∷◌, map, refl, codes}
use Rattle.c_tree.specs.Words.{Word, template, include_words}
use Rattle.predict.specs.FirstFit.{Written}
use Rattle.predict.proofs.Lists.{at_each}
use Rattle.predict.proofs.Complete.{all_closed}
use Rattle.c_syntax.specs.grammar.Names.{class_names, number_names, mark_names, word_names, field_names, kind_names, nonterminal_names}
use Rattle.c_syntax.specs.grammar.Rows.{row_texts, written_rows}
use Rattle.c_syntax.specs.grammar.Sets.{c_grammar, c_sets, c_table}
use Rattle.c_syntax.specs.grammar.Choices.{symbol_numbered}
use Rattle.c_syntax.specs.grammar.Kinds.{numbered_names, function_names}
use Rattle.c_syntax.proofs.Tables.{row_numbers}
use Rattle.va_base.specs.Spelling.{is_numeral}
use Rattle.va_base.specs.Numerals.{decimal_of, value_of, number_of, digit_count}
use Rattle.c_law_words.specs.Standing.{is_alone}
use Rattle.c_law_words.specs.Kinds.{kind_of_word}
use Rattle.c_law_words.proofs.Derived.{no_clash}

-- the nonterminal of each row
abbrev pub lefts : List ℕ
lefts =
    0 ∷ 1 ∷ 2 ∷ 2 ∷ 3 ∷ 4 ∷ 5 ∷ 5 ∷ 6 ∷ 6 ∷ 7 ∷ 8 ∷ 8 ∷ 9 ∷ 9 ∷ 10 ∷ 10 ∷ 11 ∷ 11 ∷ 12 ∷ 12 ∷ 13 ∷ 13 ∷ 14 ∷ 14 ∷ 15 ∷
    15 ∷ 16 ∷ 17 ∷ 18 ∷ 19 ∷ 20 ∷ 21 ∷ 22 ∷ 22 ∷ 23 ∷ 23 ∷ 23 ∷ 23 ∷ 23 ∷ 23 ∷ 23 ∷ 23 ∷ 24 ∷ 24 ∷ 25 ∷ 25 ∷ 26 ∷ 26 ∷
    27 ∷ 27 ∷ 27 ∷ 27 ∷ 27 ∷ 28 ∷ 28 ∷ 29 ∷ 29 ∷ 30 ∷ 30 ∷ 31 ∷ 31 ∷ 32 ∷ 32 ∷ 33 ∷ 33 ∷ 33 ∷ 33 ∷ 33 ∷ 33 ∷ 33 ∷ 33 ∷
    33 ∷ 33 ∷ 33 ∷ 34 ∷ 34 ∷ 34 ∷ 34 ∷ 34 ∷ 34 ∷ 35 ∷ 36 ∷ 36 ∷ 36 ∷ 37 ∷ 37 ∷ 37 ∷ 37 ∷ 38 ∷ 39 ∷ 40 ∷ 41 ∷ 42 ∷ 43 ∷
    44 ∷ 45 ∷ 46 ∷ 46 ∷ 47 ∷ 47 ∷ 48 ∷ 48 ∷ 49 ∷ 49 ∷ 49 ∷ 50 ∷ 50 ∷ 50 ∷ 51 ∷ 51 ∷ 52 ∷ 53 ∷ 54 ∷ 54 ∷ 55 ∷ 56 ∷ 56 ∷
    57 ∷ 58 ∷ 58 ∷ 59 ∷ 59 ∷ 60 ∷ 60 ∷ 61 ∷ 61 ∷ 62 ∷ 63 ∷ 63 ∷ 64 ∷ 65 ∷ 65 ∷ 66 ∷ 66 ∷ 67 ∷ 67 ∷ 68 ∷ 68 ∷ 68 ∷ 69 ∷
    70 ∷ 71 ∷ 71 ∷ []

-- rows by their nonterminals and the numbers of their symbols
abbrev pub rows_by : List ℕ → List (List ℕ) → List Written
rows_by [] numbers = []
rows_by (left ∷ more) [] = []
rows_by (left ∷ more) (symbols ∷ numbers) = record { left = left; symbols = map symbol_numbered symbols } ∷ rows_by more numbers

unfoldable pub row_list : List Written
row_list = rows_by lefts row_numbers

-- the names of the kinds
unfoldable pub name_list : List Word
name_list =
    codes "<end>" ∷ codes "<other>" ∷ codes "<osdi_header>" ∷ codes "<math_header>" ∷ codes "<stddef_header>" ∷
    codes "<stdint_header>" ∷ codes "<stdlib_header>" ∷ codes "<string>" ∷ codes "<integer>" ∷ codes "<unsigned>" ∷
    codes "<real>" ∷ codes "<function>" ∷ codes "<local>" ∷ codes "<argument>" ∷ codes "<field>" ∷ codes "<fn>" ∷
    codes "<model>" ∷ codes "<inst>" ∷ codes "<access>" ∷ codes "<setup_model>" ∷ codes "<setup_instance>" ∷
    codes "<eval>" ∷ codes "<load_residual_resist>" ∷ codes "<load_residual_react>" ∷ codes "<load_jacobian_resist>" ∷
    codes "<load_jacobian_react>" ∷ codes "<load_jacobian_tran>" ∷ codes "<load_spice_rhs_dc>" ∷
    codes "<load_spice_rhs_tran>" ∷ codes "<nodes>" ∷ codes "<entries>" ∷ codes "<collapse>" ∷ codes "<params>" ∷
    codes "0" ∷ codes "1" ∷ codes "0u" ∷ codes "1u" ∷ codes "3u" ∷ codes "->" ∷ codes "&&" ∷ codes "<=" ∷ codes ">=" ∷
    codes "==" ∷ codes "!=" ∷ codes "+=" ∷ codes "-=" ∷ codes "(" ∷ codes ")" ∷ codes "{" ∷ codes "}" ∷ codes "[" ∷
    codes "]" ∷ codes ";" ∷ codes "," ∷ codes "*" ∷ codes "=" ∷ codes "+" ∷ codes "-" ∷ codes "/" ∷ codes "%" ∷
    codes "<" ∷ codes ">" ∷ codes "!" ∷ codes "&" ∷ codes "|" ∷ codes "static" ∷ codes "void" ∷ codes "init_error" ∷
    codes "OsdiInitInfo" ∷ codes "res" ∷ codes "uint32_t" ∷ codes "id" ∷ codes "OsdiInitError" ∷ codes "more" ∷
    codes "realloc" ∷ codes "errors" ∷ codes "num_errors" ∷ codes "sizeof" ∷ codes "if" ∷
    codes "INIT_ERR_OUT_OF_BOUNDS" ∷ codes "load_nothing" ∷ codes "ip" ∷ codes "mp" ∷ codes "double" ∷ codes "dst" ∷
    codes "typedef" ∷ codes "struct" ∷ codes "tag" ∷ codes "node" ∷ codes "jr" ∷ codes "jq" ∷ codes "_Bool" ∷
    codes "col" ∷ codes "temp" ∷ codes "int32_t" ∷ codes "return" ∷ codes "flags" ∷ codes "ACCESS_FLAG_INSTANCE" ∷
    codes "ACCESS_FLAG_SET" ∷ codes "inst" ∷ codes "model" ∷ codes "handle" ∷ codes "OsdiSimParas" ∷ codes "sim" ∷
    codes "temperature" ∷ codes "num_terminals" ∷ codes "OsdiSimInfo" ∷ codes "info" ∷ codes "const" ∷ codes "x" ∷
    codes "prev_solve" ∷ codes "for" ∷ codes "break" ∷ codes "else" ∷ codes "lround" ∷ codes "alpha" ∷
    codes "OsdiNode" ∷ codes "OsdiJacobianEntry" ∷ codes "OsdiNodePair" ∷ codes "OsdiParamOpvar" ∷ codes "offsetof" ∷
    codes "UINT32_MAX" ∷ codes "JACOBIAN_ENTRY_RESIST" ∷ codes "JACOBIAN_ENTRY_REACT" ∷ codes "char" ∷
    codes "PARA_TY_REAL" ∷ codes "PARA_TY_INT" ∷ codes "PARA_KIND_INST" ∷ codes "PARA_KIND_MODEL" ∷
    codes "PARA_KIND_OPVAR" ∷ codes "OSDI_VERSION_MAJOR" ∷ codes "OSDI_VERSION_MINOR" ∷ codes "OSDI_NUM_DESCRIPTORS" ∷
    codes "OsdiDescriptor" ∷ codes "OSDI_DESCRIPTORS" ∷ codes ".code" ∷ codes ".payload.parameter_id" ∷ codes ".name" ∷
    codes ".units" ∷ codes ".residual_units" ∷ codes ".resist_residual_off" ∷ codes ".react_residual_off" ∷
    codes ".resist_limit_rhs_off" ∷ codes ".react_limit_rhs_off" ∷ codes ".is_flow" ∷ codes ".nodes" ∷
    codes ".react_ptr_off" ∷ codes ".flags" ∷ codes ".node_1" ∷ codes ".node_2" ∷ codes ".num_alias" ∷
    codes ".description" ∷ codes ".len" ∷ codes ".num_nodes" ∷ codes ".num_terminals" ∷ codes ".num_jacobian_entries" ∷
    codes ".jacobian_entries" ∷ codes ".num_collapsible" ∷ codes ".collapsible" ∷ codes ".collapsed_offset" ∷
    codes ".noise_sources" ∷ codes ".num_noise_src" ∷ codes ".num_params" ∷ codes ".num_instance_params" ∷
    codes ".num_opvars" ∷ codes ".param_opvar" ∷ codes ".node_mapping_offset" ∷ codes ".jacobian_ptr_resist_offset" ∷
    codes ".num_states" ∷ codes ".state_idx_off" ∷ codes ".bound_step_offset" ∷ codes ".instance_size" ∷
    codes ".model_size" ∷ codes ".access" ∷ codes ".setup_model" ∷ codes ".setup_instance" ∷ codes ".eval" ∷
    codes ".load_noise" ∷ codes ".load_limit_rhs_resist" ∷ codes ".load_limit_rhs_react" ∷
    codes ".load_residual_resist" ∷ codes ".load_residual_react" ∷ codes ".load_jacobian_resist" ∷
    codes ".load_jacobian_react" ∷ codes ".load_jacobian_tran" ∷ codes ".load_spice_rhs_dc" ∷
    codes ".load_spice_rhs_tran" ∷
    []

pub rows_same : written_rows ≡ row_list
unfolding row_list template class_names number_names mark_names word_names field_names kind_names nonterminal_names row_texts written_rows
rows_same = refl

-- each name of a kind of one token is such a token
unfoldable pub name_alone : ℕ → Word → Bool
name_alone kind name = not (nat_lt 32 kind) || is_alone name && nat_eq (kind_of_word name) kind

pub names_alone : at_each name_alone 0 name_list ≡ true
unfolding name_list name_alone template class_names number_names mark_names word_names field_names numbered_names function_names include_words decimal_of is_numeral value_of number_of digit_count
names_alone = refl

pub c_closed : all_closed c_grammar c_sets ≡ true
unfolding template class_names number_names mark_names word_names field_names kind_names nonterminal_names row_texts written_rows
c_closed = refl

pub c_apart : no_clash c_table.rows ≡ true
unfolding template class_names number_names mark_names word_names field_names kind_names nonterminal_names row_texts written_rows
c_apart = refl
