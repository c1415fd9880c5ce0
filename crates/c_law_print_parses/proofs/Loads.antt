-- The trees of the set-ups, the evaluation and the load functions, each with the words that it spells.
use Rattle.std.proofs.Common.{◌≡◌, ℕ, List, [], ◌∷◌, ◌++◌, refl}
use Rattle.std.specs.Prelude.{Bool, true, ◌&&◌, codes}
use Rattle.std.specs.List.{list_all, flat_map}
use Rattle.std.proofs.lemmas.Bool.{and_parts}
use Rattle.predict.specs.Tree.{Tree}
use Rattle.c_tree.specs.declared.file.CModule.{CModule}
use Rattle.c_tree.specs.declared.load.CLoad.{CLoad}
use Rattle.c_tree.specs.declared.load.CLoads.{CLoads}
use Rattle.c_tree.specs.declared.load.LoadFactor.{LoadFactor}
use Rattle.c_tree.specs.declared.load.LoadFactor.TheVariants as factor
use Rattle.c_tree.specs.declared.load.LoadFunction.{LoadFunction}
use Rattle.c_tree.specs.declared.load.LoadFunction.TheVariants.{ResidualResist, ResidualReact, JacobianResist, JacobianReact, JacobianTran, SpiceRhsDc, SpiceRhsTran}
use Rattle.c_tree.specs.declared.load.LoadSign.{LoadSign}
use Rattle.c_tree.specs.declared.load.LoadSign.TheVariants.{Put, Add, Subtract}
use Rattle.c_tree.specs.declared.load.LoadTarget.{LoadTarget}
use Rattle.c_tree.specs.declared.load.LoadTarget.TheVariants as target
use Rattle.c_tree.specs.Blocks.{HasBlocks}
use Rattle.c_tree.specs.Spelling.{is_unsigned, spells_statement, spells_target, spells_factor, spells_load}
use Rattle.c_tree.specs.Text.{init_words, setup_model_words, setup_instance_words, eval_words, target_words, sign_word, factor_words, load_words, load_name, load_arguments, loads_of, load_function_words, load_functions, loads_words}
use Rattle.c_tree.specs.Words.{Word, template, word, numbered, unsigned, marked}
use Rattle.c_law_print_parses.proofs.Lefts.{reset_left, setup_model_left, setup_instance_left, eval_left, loads_left, residual_resist_left, residual_react_left, jacobian_resist_left, jacobian_react_left, jacobian_tran_left, spice_rhs_dc_left, spice_rhs_tran_left, load_statements_left, load_target_left, matrix_target_left, load_sign_left, factor_left, more_factors_left, node_left}
use Rattle.c_raw_build.specs.RowNumbers.{reset_row, setup_model_row, setup_instance_row, eval_row, loads_row, residual_resist_row, residual_react_row, jacobian_resist_row, jacobian_react_row, jacobian_tran_row, spice_rhs_dc_row, spice_rhs_tran_row, load_row, no_load_row, node_target_row, matrix_target_row, resist_target_row, react_target_row, put_row, add_row, subtract_row, alpha_row, cell_factor_row, solution_factor_row, more_factors_row, no_more_factors_row}
use Rattle.c_law_words.proofs.Listed.{row_list, name_list}
use Rattle.c_law_words.proofs.Pieces.{◌▹◌, IsWord, Writes, Pieces, Shown, flat, fixed, named, part, ◌⋄◌, line, row_tree, row_written}
use Rattle.c_law_words.proofs.Names as names
use Rattle.c_law_print_parses.proofs.Atoms.{number_part, number_written, node_tree, node_words, node_written, unknown_pieces, field_part, field_written}
use Rattle.c_law_print_parses.proofs.Bodies.{body_part, body_written}
use Rattle.c_law_print_parses.proofs.Functions.{instance_part, instance_written, model_part, model_written}

-- Reset
abbrev reset_tree : Tree
reset_tree = row_tree reset_row (fixed init_words)

abbrev reset_part : Pieces
reset_part = part reset_left reset_tree init_words

pub reset_written : Writes reset_left reset_tree init_words
unfolding row_list name_list template init_words
reset_written = row_written reset_left reset_row (fixed init_words) refl tt

-- SetupModel
abbrev pub setup_model_pieces : ℕ → CModule → Pieces
setup_model_pieces k m =
    line (codes "static void") ⋄ named 19 (numbered (codes "setup_model_") k) ⋄ line (codes "( void * handle , void * mp , OsdiSimParas * sim , OsdiInitInfo * res ) {")
    ⋄ model_part k ⋄ reset_part ⋄ body_part k m.setup_model ⋄ line (codes "}")

abbrev pub setup_model_tree : ℕ → CModule → Tree
setup_model_tree k m = row_tree setup_model_row (setup_model_pieces k m)

pub setup_model_written : (k : ℕ) (m : CModule) → is_unsigned k ≡ true → list_all spells_statement m.setup_model ≡ true → HasBlocks m.setup_model
    → Writes setup_model_left (setup_model_tree k m) (setup_model_words k m)
unfolding row_list name_list template setup_model_words
setup_model_written k m u h has =
    row_written setup_model_left setup_model_row (setup_model_pieces k m) refl
    (names.setup_model_word k u ▹ model_written k u ▹ reset_written ▹ body_written k m.setup_model u h has ▹ tt)

-- SetupInstance
abbrev pub setup_instance_pieces : ℕ → CModule → Pieces
setup_instance_pieces k m =
    line (codes "static void") ⋄ named 20 (numbered (codes "setup_instance_") k)
    ⋄ line (codes "( void * handle , void * ip , void * mp , double temperature , uint32_t num_terminals ,")
    ⋄ line (codes "OsdiSimParas * sim , OsdiInitInfo * res ) {")
    ⋄ instance_part k ⋄ model_part k ⋄ reset_part ⋄ line (codes "inst -> temp = temperature ;")
    ⋄ body_part k m.setup_instance ⋄ line (codes "}")

abbrev pub setup_instance_tree : ℕ → CModule → Tree
setup_instance_tree k m = row_tree setup_instance_row (setup_instance_pieces k m)

pub setup_instance_written : (k : ℕ) (m : CModule) → is_unsigned k ≡ true → list_all spells_statement m.setup_instance ≡ true → HasBlocks m.setup_instance
    → Writes setup_instance_left (setup_instance_tree k m) (setup_instance_words k m)
unfolding row_list name_list template setup_instance_words
setup_instance_written k m u h has =
    row_written setup_instance_left setup_instance_row (setup_instance_pieces k m) refl
    (names.setup_instance_word k u ▹ instance_written k u ▹ model_written k u ▹ reset_written
    ▹ body_written k m.setup_instance u h has ▹ tt)

-- Eval
abbrev pub eval_pieces : ℕ → CModule → Pieces
eval_pieces k m =
    line (codes "static uint32_t") ⋄ named 21 (numbered (codes "eval_") k)
    ⋄ line (codes "( void * handle , void * ip , void * mp , OsdiSimInfo * info ) {")
    ⋄ instance_part k ⋄ model_part k ⋄ line (codes "const double * x = info -> prev_solve ;")
    ⋄ body_part k m.eval ⋄ line (codes "return 0u ; }")

abbrev pub eval_tree : ℕ → CModule → Tree
eval_tree k m = row_tree eval_row (eval_pieces k m)

pub eval_written : (k : ℕ) (m : CModule) → is_unsigned k ≡ true → list_all spells_statement m.eval ≡ true → HasBlocks m.eval
    → Writes eval_left (eval_tree k m) (eval_words k m)
unfolding row_list name_list template eval_words
eval_written k m u h has =
    row_written eval_left eval_row (eval_pieces k m) refl
    (names.eval_word k u ▹ instance_written k u ▹ model_written k u ▹ body_written k m.eval u h has ▹ tt)

-- LoadTarget
abbrev pub resist_pieces : ℕ → Pieces
resist_pieces e = line (codes "jr [") ⋄ number_part e ⋄ line (codes "]")

abbrev resist_words : ℕ → List Word
resist_words e = template (codes "jr [") ++ word (unsigned e) ++ word (codes "]")

abbrev pub react_pieces : ℕ → Pieces
react_pieces e = line (codes "jq [") ⋄ number_part e ⋄ line (codes "]")

abbrev react_words : ℕ → List Word
react_words e = template (codes "jq [") ++ word (unsigned e) ++ word (codes "]")

abbrev pub target_pieces : LoadTarget → Pieces
target_pieces (target.Node i) = line (codes "dst [") ⋄ part node_left (node_tree i) (node_words i) ⋄ line (codes "]")
target_pieces (target.EntryResist e) = line (codes "* inst ->") ⋄ part matrix_target_left (row_tree resist_target_row (resist_pieces e)) (resist_words e)
target_pieces (target.EntryReact e) = line (codes "* inst ->") ⋄ part matrix_target_left (row_tree react_target_row (react_pieces e)) (react_words e)

abbrev pub target_tree : LoadTarget → Tree
target_tree (target.Node i) = row_tree node_target_row (target_pieces (target.Node i))
target_tree (target.EntryResist e) = row_tree matrix_target_row (target_pieces (target.EntryResist e))
target_tree (target.EntryReact e) = row_tree matrix_target_row (target_pieces (target.EntryReact e))

pub resist_written : (e : ℕ) → is_unsigned e ≡ true → Writes matrix_target_left (row_tree resist_target_row (resist_pieces e)) (resist_words e)
unfolding row_list name_list template
resist_written e h = row_written matrix_target_left resist_target_row (resist_pieces e) refl (number_written e h, tt)

pub react_written : (e : ℕ) → is_unsigned e ≡ true → Writes matrix_target_left (row_tree react_target_row (react_pieces e)) (react_words e)
unfolding row_list name_list template
react_written e h = row_written matrix_target_left react_target_row (react_pieces e) refl (number_written e h, tt)

pub target_written : (t : LoadTarget) → spells_target t ≡ true → Writes load_target_left (target_tree t) (target_words t)
unfolding row_list name_list template
target_written (target.Node i) h = row_written load_target_left node_target_row (target_pieces (target.Node i)) refl (node_written i h, tt)
target_written (target.EntryResist e) h = row_written load_target_left matrix_target_row (target_pieces (target.EntryResist e)) refl (resist_written e h, tt)
target_written (target.EntryReact e) h = row_written load_target_left matrix_target_row (target_pieces (target.EntryReact e)) refl (react_written e h, tt)

-- LoadSign
abbrev sign_row : LoadSign → ℕ
sign_row Put = put_row
sign_row Add = add_row
sign_row Subtract = subtract_row

abbrev pub sign_tree : LoadSign → Tree
sign_tree sign = row_tree (sign_row sign) (fixed (word (sign_word sign)))

pub sign_written : (sign : LoadSign) → Writes load_sign_left (sign_tree sign) (word (sign_word sign))
unfolding row_list name_list
sign_written Put = row_written load_sign_left put_row (fixed (word (codes "="))) refl tt
sign_written Add = row_written load_sign_left add_row (fixed (word (codes "+="))) refl tt
sign_written Subtract = row_written load_sign_left subtract_row (fixed (word (codes "-="))) refl tt

-- Factor
abbrev pub factor_tree : LoadFactor → Tree
factor_tree factor.Alpha = row_tree alpha_row (line (codes "alpha"))
factor_tree (factor.Cell field) = row_tree cell_factor_row (line (codes "inst ->") ⋄ field_part field)
factor_tree (factor.Solution i) = row_tree solution_factor_row (unknown_pieces i)

pub factor_written : (f : LoadFactor) → spells_factor f ≡ true → Writes factor_left (factor_tree f) (factor_words f)
unfolding row_list name_list template
factor_written factor.Alpha h = row_written factor_left alpha_row (line (codes "alpha")) refl tt
factor_written (factor.Cell field) h = row_written factor_left cell_factor_row (line (codes "inst ->") ⋄ field_part field) refl (field_written field h, tt)
factor_written (factor.Solution i) h = row_written factor_left solution_factor_row (unknown_pieces i) refl (node_written i h, tt)

abbrev pub factor_part : LoadFactor → Pieces
factor_part f = part factor_left (factor_tree f) (factor_words f)

-- MoreFactors
abbrev pub more_factors_tree : List LoadFactor → Tree
more_factors_tree [] = row_tree no_more_factors_row (fixed [])
more_factors_tree (f ∷ more) = row_tree more_factors_row (line (codes "*") ⋄ factor_part f ⋄ part more_factors_left (more_factors_tree more) (marked (codes "*") factor_words more))

pub more_factors_written : (more : List LoadFactor) → list_all spells_factor more ≡ true → Writes more_factors_left (more_factors_tree more) (marked (codes "*") factor_words more)
unfolding row_list name_list template
more_factors_written [] h = row_written more_factors_left no_more_factors_row (fixed []) refl tt
more_factors_written (f ∷ more) h =
    let p = and_parts (spells_factor f) (list_all spells_factor more) h in
    row_written more_factors_left more_factors_row (line (codes "*") ⋄ factor_part f ⋄ part more_factors_left (more_factors_tree more) (marked (codes "*") factor_words more)) refl
    (factor_written f p.0 ▹ more_factors_written more p.1 ▹ tt)

-- LoadStatements
abbrev pub load_pieces : CLoad → Pieces
load_pieces load =
    part load_target_left (target_tree load.target) (target_words load.target) ⋄ part load_sign_left (sign_tree load.sign) (word (sign_word load.sign))
    ⋄ factor_part load.first ⋄ part more_factors_left (more_factors_tree load.more) (marked (codes "*") factor_words load.more) ⋄ line (codes ";")

abbrev pub load_statements_tree : List CLoad → Tree
load_statements_tree [] = row_tree no_load_row (fixed [])
load_statements_tree (load ∷ loads) = row_tree load_row (load_pieces load ⋄ part load_statements_left (load_statements_tree loads) (flat_map load_words loads))

pub load_statements_written : (loads : List CLoad) → list_all spells_load loads ≡ true → Writes load_statements_left (load_statements_tree loads) (flat_map load_words loads)
unfolding row_list name_list template
load_statements_written [] h = row_written load_statements_left no_load_row (fixed []) refl tt
load_statements_written (load ∷ loads) h =
    let p = and_parts (spells_load load) (list_all spells_load loads) h in
    let q = and_parts (spells_target load.target && spells_factor load.first) (list_all spells_factor load.more) p.0 in
    let r = and_parts (spells_target load.target) (spells_factor load.first) q.0 in
    row_written load_statements_left load_row (load_pieces load ⋄ part load_statements_left (load_statements_tree loads) (flat_map load_words loads)) refl
    (target_written load.target r.0 ▹ sign_written load.sign ▹ factor_written load.first r.1
    ▹ more_factors_written load.more q.1 ▹ load_statements_written loads p.1 ▹ tt)

-- a load function
abbrev load_kind : LoadFunction → ℕ
load_kind ResidualResist = 22
load_kind ResidualReact = 23
load_kind JacobianResist = 24
load_kind JacobianReact = 25
load_kind JacobianTran = 26
load_kind SpiceRhsDc = 27
load_kind SpiceRhsTran = 28

abbrev load_function_row : LoadFunction → ℕ
load_function_row ResidualResist = residual_resist_row
load_function_row ResidualReact = residual_react_row
load_function_row JacobianResist = jacobian_resist_row
load_function_row JacobianReact = jacobian_react_row
load_function_row JacobianTran = jacobian_tran_row
load_function_row SpiceRhsDc = spice_rhs_dc_row
load_function_row SpiceRhsTran = spice_rhs_tran_row

abbrev load_function_left : LoadFunction → ℕ
load_function_left ResidualResist = residual_resist_left
load_function_left ResidualReact = residual_react_left
load_function_left JacobianResist = jacobian_resist_left
load_function_left JacobianReact = jacobian_react_left
load_function_left JacobianTran = jacobian_tran_left
load_function_left SpiceRhsDc = spice_rhs_dc_left
load_function_left SpiceRhsTran = spice_rhs_tran_left

abbrev pub load_function_pieces : ℕ → LoadFunction → List CLoad → Pieces
load_function_pieces k f loads =
    line (codes "static void") ⋄ named (load_kind f) (load_name f ++ numbered (codes "_") k) ⋄ line (codes "( void * ip , void * mp") ⋄ fixed (load_arguments f)
    ⋄ line (codes ") {") ⋄ instance_part k ⋄ part load_statements_left (load_statements_tree loads) (flat_map load_words loads) ⋄ line (codes "}")

abbrev pub load_function_tree : ℕ → LoadFunction → List CLoad → Tree
load_function_tree k f loads = row_tree (load_function_row f) (load_function_pieces k f loads)

pub load_named : (k : ℕ) (f : LoadFunction) → is_unsigned k ≡ true → IsWord (load_kind f) (load_name f ++ numbered (codes "_") k)
load_named k ResidualResist u = names.residual_resist_word k u
load_named k ResidualReact u = names.residual_react_word k u
load_named k JacobianResist u = names.jacobian_resist_word k u
load_named k JacobianReact u = names.jacobian_react_word k u
load_named k JacobianTran u = names.jacobian_tran_word k u
load_named k SpiceRhsDc u = names.spice_rhs_dc_word k u
load_named k SpiceRhsTran u = names.spice_rhs_tran_word k u

pub load_function_written : (k : ℕ) (f : LoadFunction) (loads : List CLoad) → is_unsigned k ≡ true → list_all spells_load loads ≡ true
    → Writes (load_function_left f) (load_function_tree k f loads) (load_function_words k f loads)
unfolding row_list name_list template load_function_words
load_function_written k ResidualResist loads u h =
    row_written residual_resist_left residual_resist_row (load_function_pieces k ResidualResist loads) refl (load_named k ResidualResist u
    ▹ instance_written k u ▹ load_statements_written loads h ▹ tt)
load_function_written k ResidualReact loads u h =
    row_written residual_react_left residual_react_row (load_function_pieces k ResidualReact loads) refl (load_named k ResidualReact u
    ▹ instance_written k u ▹ load_statements_written loads h ▹ tt)
load_function_written k JacobianResist loads u h =
    row_written jacobian_resist_left jacobian_resist_row (load_function_pieces k JacobianResist loads) refl (load_named k JacobianResist u
    ▹ instance_written k u ▹ load_statements_written loads h ▹ tt)
load_function_written k JacobianReact loads u h =
    row_written jacobian_react_left jacobian_react_row (load_function_pieces k JacobianReact loads) refl (load_named k JacobianReact u
    ▹ instance_written k u ▹ load_statements_written loads h ▹ tt)
load_function_written k JacobianTran loads u h =
    row_written jacobian_tran_left jacobian_tran_row (load_function_pieces k JacobianTran loads) refl (load_named k JacobianTran u
    ▹ instance_written k u ▹ load_statements_written loads h ▹ tt)
load_function_written k SpiceRhsDc loads u h =
    row_written spice_rhs_dc_left spice_rhs_dc_row (load_function_pieces k SpiceRhsDc loads) refl (load_named k SpiceRhsDc u
    ▹ instance_written k u ▹ load_statements_written loads h ▹ tt)
load_function_written k SpiceRhsTran loads u h =
    row_written spice_rhs_tran_left spice_rhs_tran_row (load_function_pieces k SpiceRhsTran loads) refl (load_named k SpiceRhsTran u
    ▹ instance_written k u ▹ load_statements_written loads h ▹ tt)

-- Loads
abbrev load_function_part : ℕ → CLoads → LoadFunction → Pieces
load_function_part k loads f = part (load_function_left f) (load_function_tree k f (loads_of loads f)) (load_function_words k f (loads_of loads f))

abbrev pub loads_pieces : ℕ → CLoads → Pieces
loads_pieces k loads =
    load_function_part k loads ResidualResist ⋄ (load_function_part k loads ResidualReact ⋄ (load_function_part k loads JacobianResist
    ⋄ (load_function_part k loads JacobianReact ⋄ (load_function_part k loads JacobianTran ⋄ (load_function_part k loads SpiceRhsDc
    ⋄ (load_function_part k loads SpiceRhsTran ⋄ fixed []))))))

abbrev pub loads_tree : ℕ → CLoads → Tree
loads_tree k loads = row_tree loads_row (loads_pieces k loads)

abbrev pub loads_spelled : CLoads → List LoadFunction → Bool
loads_spelled loads = list_all (λ f. list_all spells_load (loads_of loads f))

-- what can be spelled of the load functions
pub record LoadsSpelled (loads : CLoads) : Type 0 where
  pub residual_resist : list_all spells_load loads.residual_resist ≡ true
  pub residual_react : list_all spells_load loads.residual_react ≡ true
  pub jacobian_resist : list_all spells_load loads.jacobian_resist ≡ true
  pub jacobian_react : list_all spells_load loads.jacobian_react ≡ true
  pub jacobian_tran : list_all spells_load loads.jacobian_tran ≡ true
  pub spice_rhs_dc : list_all spells_load loads.spice_rhs_dc ≡ true
  pub spice_rhs_tran : list_all spells_load loads.spice_rhs_tran ≡ true

pub loads_parts : (loads : CLoads) → loads_spelled loads load_functions ≡ true → LoadsSpelled loads
loads_parts loads h =
    let a = and_parts (list_all spells_load loads.residual_resist) (loads_spelled loads (ResidualReact ∷ JacobianResist ∷ JacobianReact ∷ JacobianTran ∷ SpiceRhsDc ∷ SpiceRhsTran ∷ [])) h in
    let b = and_parts (list_all spells_load loads.residual_react) (loads_spelled loads (JacobianResist ∷ JacobianReact ∷ JacobianTran ∷ SpiceRhsDc ∷ SpiceRhsTran ∷ [])) a.1 in
    let c = and_parts (list_all spells_load loads.jacobian_resist) (loads_spelled loads (JacobianReact ∷ JacobianTran ∷ SpiceRhsDc ∷ SpiceRhsTran ∷ [])) b.1 in
    let d = and_parts (list_all spells_load loads.jacobian_react) (loads_spelled loads (JacobianTran ∷ SpiceRhsDc ∷ SpiceRhsTran ∷ [])) c.1 in
    let e = and_parts (list_all spells_load loads.jacobian_tran) (loads_spelled loads (SpiceRhsDc ∷ SpiceRhsTran ∷ [])) d.1 in
    let f = and_parts (list_all spells_load loads.spice_rhs_dc) (loads_spelled loads (SpiceRhsTran ∷ [])) e.1 in
    let g = and_parts (list_all spells_load loads.spice_rhs_tran) true f.1 in
    record {
      residual_resist = a.0;
      residual_react = b.0;
      jacobian_resist = c.0;
      jacobian_react = d.0;
      jacobian_tran = e.0;
      spice_rhs_dc = f.0;
      spice_rhs_tran = g.0;
    }

pub loads_shown : (k : ℕ) (loads : CLoads) → is_unsigned k ≡ true → LoadsSpelled loads → Shown (flat (loads_pieces k loads))
loads_shown k loads u h =
    (load_function_written k ResidualResist loads.residual_resist u h.residual_resist
    ▹ load_function_written k ResidualReact loads.residual_react u h.residual_react
    ▹ load_function_written k JacobianResist loads.jacobian_resist u h.jacobian_resist
    ▹ load_function_written k JacobianReact loads.jacobian_react u h.jacobian_react
    ▹ load_function_written k JacobianTran loads.jacobian_tran u h.jacobian_tran
    ▹ load_function_written k SpiceRhsDc loads.spice_rhs_dc u h.spice_rhs_dc
    ▹ load_function_written k SpiceRhsTran loads.spice_rhs_tran u h.spice_rhs_tran ▹ tt)

pub loads_written : (k : ℕ) (loads : CLoads) → is_unsigned k ≡ true → loads_spelled loads load_functions ≡ true → Writes loads_left (loads_tree k loads) (loads_words k loads)
unfolding row_list loads_words
loads_written k loads u h = row_written loads_left loads_row (loads_pieces k loads) refl (loads_shown k loads u (loads_parts loads h))
