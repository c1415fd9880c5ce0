-- What the trees of set-ups, evaluations and load functions stand for in a text where their words stand.
use Rattle.std.proofs.Common.{◌≡◌, ◌+◌, ℕ, List, [], ◌∷◌, refl, ap, ◌∙◌}
use Rattle.std.specs.Prelude.{true, ◌&&◌, map, codes}
use Rattle.std.specs.List.{list_all, flat_map}
use Rattle.std.proofs.lemmas.Bool.{and_parts}
use Rattle.va_base.specs.Numerals.{number_of}
use Rattle.c_tree.specs.declared.file.CModule.{CModule}
use Rattle.c_tree.specs.declared.load.CLoad.{CLoad}
use Rattle.c_tree.specs.declared.load.CLoads.{CLoads}
use Rattle.c_tree.specs.declared.load.LoadFactor.{LoadFactor}
use Rattle.c_tree.specs.declared.load.LoadFactor.TheVariants as factor
use Rattle.c_tree.specs.declared.load.LoadFunction.{LoadFunction}
use Rattle.c_tree.specs.declared.load.LoadFunction.TheVariants.{ResidualResist, ResidualReact, JacobianResist, JacobianReact, JacobianTran, SpiceRhsDc, SpiceRhsTran}
use Rattle.c_tree.specs.declared.load.LoadSign.{LoadSign}
use Rattle.c_tree.specs.declared.load.LoadSign.TheVariants.{Put, Add, Subtract}
use Rattle.c_tree.specs.declared.load.LoadTarget.{LoadTarget}
use Rattle.c_tree.specs.declared.load.LoadTarget.TheVariants as target
use Rattle.c_tree.specs.Blocks.{HasBlocks}
use Rattle.c_tree.specs.FileOf as given
use Rattle.c_tree.specs.Raw.{At}
use Rattle.c_tree.specs.Spelling.{is_unsigned, spells_statement, spells_target, spells_factor, spells_load}
use Rattle.c_tree.specs.Text.{setup_model_words, setup_instance_words, eval_words, target_words, factor_words, load_words, load_function_words, load_functions, loads_words}
use Rattle.c_tree.specs.Words.{template, word, marked}
use Rattle.c_raw_build.specs.Placed.{width}
use Rattle.c_raw_build.specs.RawFiles.{setup_model, setup_instance, eval}
use Rattle.c_raw_build.specs.RawTables.{matrix_target, target_of, sign_of, factor_of, more_factors, load, load_statements, load_function, loads}
use Rattle.c_raw_build.specs.Words.{CText}
use Rattle.c_law_words.proofs.Listed.{row_list}
use Rattle.c_law_print_parses.proofs.Lefts.{more_factors_left, load_statements_left}
use Rattle.c_law_words.proofs.Pieces.{◌▹◌, part as piece, ◌⋄◌, line}
use Rattle.c_law_print_parses.proofs.Placing.{StandsAt, stands_split, row_stands}
use Rattle.c_law_print_parses.proofs.AtomValues.{placed, field_value, node_value}
use Rattle.c_law_print_parses.proofs.BodyValues.{body_value}
use Rattle.c_law_words.proofs.Values.{unsigned_back}
use Rattle.c_law_words.proofs.Names as names
use Rattle.c_law_print_parses.proofs.Atoms.{node_words}
use Rattle.c_law_print_parses.proofs.Bodies.{body_written}
use Rattle.c_law_print_parses.proofs.Functions.{instance_written, model_written}
use Rattle.c_law_print_parses.proofs.Loads.{reset_written, setup_model_pieces, setup_model_tree, setup_instance_pieces, setup_instance_tree, eval_pieces, eval_tree, target_tree, target_written, sign_tree, sign_written, factor_tree, factor_part, factor_written, more_factors_tree, more_factors_written, load_pieces, load_statements_tree, load_statements_written, load_function_pieces, load_function_tree, load_named, loads_pieces, loads_tree, loads_spelled, loads_parts, loads_shown}

module _ (text : CText) where
  pub setup_model_value : (at k : ℕ) (m : CModule) → is_unsigned k ≡ true → list_all spells_statement m.setup_model ≡ true → HasBlocks m.setup_model
      → StandsAt text at (setup_model_words k m) → given.body_of (setup_model text (placed at (setup_model_tree k m))) ≡ m.setup_model
  unfolding setup_model setup_model_words row_list template
  setup_model_value at k m u h has s =
      let t = row_stands text at (setup_model_pieces k m) (names.setup_model_word k u ▹ model_written k u
      ▹ reset_written ▹ body_written k m.setup_model u h has ▹ tt) s in
      body_value text _ _ k m.setup_model u h has t.1.1.1.0

  pub setup_instance_value : (at k : ℕ) (m : CModule) → is_unsigned k ≡ true → list_all spells_statement m.setup_instance ≡ true → HasBlocks m.setup_instance
      → StandsAt text at (setup_instance_words k m) → given.body_of (setup_instance text (placed at (setup_instance_tree k m))) ≡ m.setup_instance
  unfolding setup_instance setup_instance_words row_list template
  setup_instance_value at k m u h has s =
      let t = row_stands text at (setup_instance_pieces k m)
      (names.setup_instance_word k u ▹ instance_written k u ▹ model_written k u ▹ reset_written
      ▹ body_written k m.setup_instance u h has ▹ tt) s in
      body_value text _ _ k m.setup_instance u h has t.1.1.1.1.0

  pub eval_value : (at k : ℕ) (m : CModule) → is_unsigned k ≡ true → list_all spells_statement m.eval ≡ true → HasBlocks m.eval
      → StandsAt text at (eval_words k m) → given.body_of (eval text (placed at (eval_tree k m))) ≡ m.eval
  unfolding eval eval_words row_list template
  eval_value at k m u h has s =
      let t = row_stands text at (eval_pieces k m) (names.eval_word k u ▹ instance_written k u ▹ model_written k u
      ▹ body_written k m.eval u h has ▹ tt) s in
      body_value text _ _ k m.eval u h has t.1.1.1.0

  target_value : (at : ℕ) (t : LoadTarget) → spells_target t ≡ true → StandsAt text at (target_words t) → target_of text (placed at (target_tree t)) ≡ t
  unfolding target_of matrix_target row_list template
  target_value at (target.Node i) h s = ap target.Node (node_value text (at + 1 + 1) i h (stands_split text (at + 1 + 1) (node_words i) (word (codes "]")) s.1.1).0)
  target_value at (target.EntryResist e) h s = ap (λ w. target.EntryResist (number_of w)) s.1.1.1.1.1.0 ∙ ap target.EntryResist (unsigned_back e h)
  target_value at (target.EntryReact e) h s = ap (λ w. target.EntryReact (number_of w)) s.1.1.1.1.1.0 ∙ ap target.EntryReact (unsigned_back e h)

  sign_value : (at : ℕ) (sign : LoadSign) → sign_of (placed at (sign_tree sign)) ≡ sign
  unfolding sign_of
  sign_value at Put = refl
  sign_value at Add = refl
  sign_value at Subtract = refl

  factor_value : (at : ℕ) (f : LoadFactor) → spells_factor f ≡ true → StandsAt text at (factor_words f) → factor_of text (placed at (factor_tree f)) ≡ f
  unfolding factor_of row_list template
  factor_value at factor.Alpha h s = refl
  factor_value at (factor.Cell field) h s = ap factor.Cell (field_value text (at + 1 + 1) field h s.1.1)
  factor_value at (factor.Solution i) h s = ap factor.Solution (node_value text (at + 1 + 1) i h (stands_split text (at + 1 + 1) (node_words i) (word (codes "]")) s.1.1).0)

  more_factors_value : (at : ℕ) (list : List LoadFactor) → list_all spells_factor list ≡ true → StandsAt text at (marked (codes "*") factor_words list)
      → map (λ (a : At LoadFactor). a.value) (more_factors text (placed at (more_factors_tree list))) ≡ list
  unfolding more_factors row_list template
  more_factors_value at [] h s = refl
  more_factors_value at (f ∷ list) h s =
      let p = and_parts (spells_factor f) (list_all spells_factor list) h in
      let t = row_stands text at (line (codes "*") ⋄ factor_part f ⋄ piece more_factors_left (more_factors_tree list) (marked (codes "*") factor_words list))
      (factor_written f p.0 ▹ more_factors_written list p.1 ▹ tt) s in
      let first = factor_value (at + 1) f p.0 t.0 in
      let rest = more_factors_value (at + 1 + width (factor_tree f)) list p.1 t.1.0 in
      λ i. first i ∷ rest i

  load_statements_value : (at : ℕ) (list : List CLoad) → list_all spells_load list ≡ true → StandsAt text at (flat_map load_words list)
      → map given.load_of (load_statements text (placed at (load_statements_tree list))) ≡ list
  unfolding load_statements load row_list template
  load_statements_value at [] h s = refl
  load_statements_value at (l ∷ list) h s =
      let p = and_parts (spells_load l) (list_all spells_load list) h in
      let q = and_parts (spells_target l.target && spells_factor l.first) (list_all spells_factor l.more) p.0 in
      let r = and_parts (spells_target l.target) (spells_factor l.first) q.0 in
      let t = row_stands text at (load_pieces l ⋄ piece load_statements_left (load_statements_tree list) (flat_map load_words list))
      (target_written l.target r.0 ▹ sign_written l.sign ▹ factor_written l.first r.1
      ▹ more_factors_written l.more q.1 ▹ load_statements_written list p.1 ▹ tt) s in
      let to = target_value at l.target r.0 t.0 in
      let a1 = at + width (target_tree l.target) in
      let sign = sign_value a1 l.sign in
      let a2 = a1 + width (sign_tree l.sign) in
      let first = factor_value a2 l.first r.1 t.1.1.0 in
      let a3 = a2 + width (factor_tree l.first) in
      let more = more_factors_value a3 l.more q.1 t.1.1.1.0 in
      let a4 = a3 + width (more_factors_tree l.more) + 1 in
      let rest = load_statements_value a4 list p.1 t.1.1.1.1.0 in
      λ i. (let c : CLoad = record { target = to i; sign = sign i; first = first i; more = more i } in c) ∷ rest i

  load_function_value : (at k : ℕ) (f : LoadFunction) (list : List CLoad) → is_unsigned k ≡ true → list_all spells_load list ≡ true → StandsAt text at (load_function_words k f list)
      → map given.load_of (load_function text (placed at (load_function_tree k f list))) ≡ list
  unfolding load_function load_function_words row_list template
  load_function_value at k ResidualResist list u h s =
      let t = row_stands text at (load_function_pieces k ResidualResist list) (load_named k ResidualResist u
      ▹ instance_written k u ▹ load_statements_written list h ▹ tt) s in
      load_statements_value _ list h t.1.1.0
  load_function_value at k ResidualReact list u h s =
      let t = row_stands text at (load_function_pieces k ResidualReact list) (load_named k ResidualReact u
      ▹ instance_written k u ▹ load_statements_written list h ▹ tt) s in
      load_statements_value _ list h t.1.1.0
  load_function_value at k JacobianResist list u h s =
      let t = row_stands text at (load_function_pieces k JacobianResist list) (load_named k JacobianResist u
      ▹ instance_written k u ▹ load_statements_written list h ▹ tt) s in
      load_statements_value _ list h t.1.1.0
  load_function_value at k JacobianReact list u h s =
      let t = row_stands text at (load_function_pieces k JacobianReact list) (load_named k JacobianReact u
      ▹ instance_written k u ▹ load_statements_written list h ▹ tt) s in
      load_statements_value _ list h t.1.1.0
  load_function_value at k JacobianTran list u h s =
      let t = row_stands text at (load_function_pieces k JacobianTran list) (load_named k JacobianTran u
      ▹ instance_written k u ▹ load_statements_written list h ▹ tt) s in
      load_statements_value _ list h t.1.1.0
  load_function_value at k SpiceRhsDc list u h s =
      let t = row_stands text at (load_function_pieces k SpiceRhsDc list) (load_named k SpiceRhsDc u
      ▹ instance_written k u ▹ load_statements_written list h ▹ tt) s in
      load_statements_value _ list h t.1.1.0
  load_function_value at k SpiceRhsTran list u h s =
      let t = row_stands text at (load_function_pieces k SpiceRhsTran list) (load_named k SpiceRhsTran u
      ▹ instance_written k u ▹ load_statements_written list h ▹ tt) s in
      load_statements_value _ list h t.1.1.0

  pub loads_value : (at k : ℕ) (list : CLoads) → is_unsigned k ≡ true → loads_spelled list load_functions ≡ true → StandsAt text at (loads_words k list)
      → given.loads_of_raw (loads text (placed at (loads_tree k list))) ≡ list
  unfolding loads loads_words row_list
  loads_value at k list u h s =
      let p = loads_parts list h in
      let t = row_stands text at (loads_pieces k list) (loads_shown k list u p) s in
      let a = load_function_value _ k ResidualResist list.residual_resist u p.residual_resist t.0 in
      let b = load_function_value _ k ResidualReact list.residual_react u p.residual_react t.1.0 in
      let c = load_function_value _ k JacobianResist list.jacobian_resist u p.jacobian_resist t.1.1.0 in
      let d = load_function_value _ k JacobianReact list.jacobian_react u p.jacobian_react t.1.1.1.0 in
      let e = load_function_value _ k JacobianTran list.jacobian_tran u p.jacobian_tran t.1.1.1.1.0 in
      let f = load_function_value _ k SpiceRhsDc list.spice_rhs_dc u p.spice_rhs_dc t.1.1.1.1.1.0 in
      let g = load_function_value _ k SpiceRhsTran list.spice_rhs_tran u p.spice_rhs_tran t.1.1.1.1.1.1.0 in
      λ i. (let l : CLoads = record {
        residual_resist = a i;
        residual_react = b i;
        jacobian_resist = c i;
        jacobian_react = d i;
        jacobian_tran = e i;
        spice_rhs_dc = f i;
        spice_rhs_tran = g i;
      } in l)
