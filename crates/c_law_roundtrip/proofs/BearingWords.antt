-- The names of C that hold a module's number.
use Rattle.std.proofs.Common.{◌≡◌, ℕ, ◌++◌, refl}
use Rattle.std.specs.Prelude.{true, codes}
use Rattle.c_tree.specs.declared.load.LoadFunction.{LoadFunction}
use Rattle.c_tree.specs.declared.load.LoadFunction.TheVariants.{ResidualResist, ResidualReact, JacobianResist, JacobianReact, JacobianTran, SpiceRhsDc, SpiceRhsTran}
use Rattle.c_tree.specs.Spelling.{is_unsigned}
use Rattle.c_tree.specs.Text.{function_word, load_name}
use Rattle.c_tree.specs.Words.{numbered}
use Rattle.c_raw_build.specs.Words.{module_number}
use Rattle.c_law_words.proofs.Names as names
use Rattle.c_law_words.proofs.Values.{numbered_back, words_give_back}
use Rattle.c_law_roundtrip.proofs.Bearing.{bears, number_bears}

pub function_bears : (k j : ℕ) → is_unsigned k ≡ true → is_unsigned j ≡ true → bears k (function_word k j) ≡ true
unfolding module_number
function_bears k j u h = number_bears k 15 (function_word k j) (names.module_function_word k j u h) (words_give_back.modules k j u h)

pub model_bears : (k : ℕ) → is_unsigned k ≡ true → bears k (numbered (codes "model_") k) ≡ true
unfolding module_number
model_bears k u = number_bears k 16 (numbered (codes "model_") k) (names.model_word k u) (numbered_back (codes "model_") k refl u)

pub inst_bears : (k : ℕ) → is_unsigned k ≡ true → bears k (numbered (codes "inst_") k) ≡ true
unfolding module_number
inst_bears k u = number_bears k 17 (numbered (codes "inst_") k) (names.inst_word k u) (numbered_back (codes "inst_") k refl u)

pub access_bears : (k : ℕ) → is_unsigned k ≡ true → bears k (numbered (codes "access_") k) ≡ true
unfolding module_number
access_bears k u = number_bears k 18 (numbered (codes "access_") k) (names.access_word k u) (numbered_back (codes "access_") k refl u)

pub setup_model_bears : (k : ℕ) → is_unsigned k ≡ true → bears k (numbered (codes "setup_model_") k) ≡ true
unfolding module_number
setup_model_bears k u = number_bears k 19 (numbered (codes "setup_model_") k) (names.setup_model_word k u) (numbered_back (codes "setup_model_") k refl u)

pub setup_instance_bears : (k : ℕ) → is_unsigned k ≡ true → bears k (numbered (codes "setup_instance_") k) ≡ true
unfolding module_number
setup_instance_bears k u = number_bears k 20 (numbered (codes "setup_instance_") k) (names.setup_instance_word k u) (numbered_back (codes "setup_instance_") k refl u)

pub eval_bears : (k : ℕ) → is_unsigned k ≡ true → bears k (numbered (codes "eval_") k) ≡ true
unfolding module_number
eval_bears k u = number_bears k 21 (numbered (codes "eval_") k) (names.eval_word k u) (numbered_back (codes "eval_") k refl u)

pub load_bears : (k : ℕ) (f : LoadFunction) → is_unsigned k ≡ true → bears k (load_name f ++ numbered (codes "_") k) ≡ true
unfolding module_number
load_bears k ResidualResist u = number_bears k 22 (numbered (codes "load_residual_resist_") k) (names.residual_resist_word k u) (numbered_back (codes "load_residual_resist_") k refl u)
load_bears k ResidualReact u = number_bears k 23 (numbered (codes "load_residual_react_") k) (names.residual_react_word k u) (numbered_back (codes "load_residual_react_") k refl u)
load_bears k JacobianResist u = number_bears k 24 (numbered (codes "load_jacobian_resist_") k) (names.jacobian_resist_word k u) (numbered_back (codes "load_jacobian_resist_") k refl u)
load_bears k JacobianReact u = number_bears k 25 (numbered (codes "load_jacobian_react_") k) (names.jacobian_react_word k u) (numbered_back (codes "load_jacobian_react_") k refl u)
load_bears k JacobianTran u = number_bears k 26 (numbered (codes "load_jacobian_tran_") k) (names.jacobian_tran_word k u) (numbered_back (codes "load_jacobian_tran_") k refl u)
load_bears k SpiceRhsDc u = number_bears k 27 (numbered (codes "load_spice_rhs_dc_") k) (names.spice_rhs_dc_word k u) (numbered_back (codes "load_spice_rhs_dc_") k refl u)
load_bears k SpiceRhsTran u = number_bears k 28 (numbered (codes "load_spice_rhs_tran_") k) (names.spice_rhs_tran_word k u) (numbered_back (codes "load_spice_rhs_tran_") k refl u)

pub nodes_bears : (k : ℕ) → is_unsigned k ≡ true → bears k (numbered (codes "nodes_") k) ≡ true
unfolding module_number
nodes_bears k u = number_bears k 29 (numbered (codes "nodes_") k) (names.nodes_word k u) (numbered_back (codes "nodes_") k refl u)

pub entries_bears : (k : ℕ) → is_unsigned k ≡ true → bears k (numbered (codes "entries_") k) ≡ true
unfolding module_number
entries_bears k u = number_bears k 30 (numbered (codes "entries_") k) (names.entries_word k u) (numbered_back (codes "entries_") k refl u)

pub collapse_bears : (k : ℕ) → is_unsigned k ≡ true → bears k (numbered (codes "collapse_") k) ≡ true
unfolding module_number
collapse_bears k u = number_bears k 31 (numbered (codes "collapse_") k) (names.collapse_word k u) (numbered_back (codes "collapse_") k refl u)

pub params_bears : (k : ℕ) → is_unsigned k ≡ true → bears k (numbered (codes "params_") k) ≡ true
unfolding module_number
params_bears k u = number_bears k 32 (numbered (codes "params_") k) (names.params_word k u) (numbered_back (codes "params_") k refl u)
