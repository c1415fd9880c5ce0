-- The raw trees of set-ups, evaluations and load functions in a text where their words stand.
use Rattle.std.proofs.Common.{◌≡◌, ℕ, ap, ◌∙◌}
use Rattle.std.specs.Prelude.{true}
use Rattle.std.specs.List.{list_all}
use Rattle.c_tree.specs.declared.file.CModule.{CModule}
use Rattle.c_tree.specs.declared.load.CLoads.{CLoads}
use Rattle.c_tree.specs.Blocks.{HasBlocks}
use Rattle.c_tree.specs.RawOf.{raw_body, loads_raw}
use Rattle.c_tree.specs.Spelling.{is_unsigned, spells_statement}
use Rattle.c_tree.specs.Text.{setup_model_words, setup_instance_words, eval_words, load_functions, loads_words}
use Rattle.c_tree.specs.Words.{template}
use Rattle.c_raw_build.specs.RawFiles.{setup_model, setup_instance, eval}
use Rattle.c_raw_build.specs.RawTables.{loads}
use Rattle.c_raw_build.specs.Words.{CText}
use Rattle.c_law_print_parses.proofs.AtomValues.{placed}
use Rattle.c_law_print_parses.proofs.Bodies.{body_written}
use Rattle.c_law_print_parses.proofs.Functions.{instance_written, model_written}
use Rattle.c_law_words.proofs.Listed.{row_list}
use Rattle.c_law_print_parses.proofs.Loads.{reset_written, setup_model_pieces, setup_model_tree, setup_instance_pieces, setup_instance_tree, eval_pieces, eval_tree, loads_tree, loads_spelled}
use Rattle.c_law_print_parses.proofs.LoadValues.{loads_value}
use Rattle.c_law_words.proofs.Names as names
use Rattle.c_law_words.proofs.Pieces.{◌▹◌}
use Rattle.c_law_print_parses.proofs.Placing.{StandsAt, row_stands}
use Rattle.c_law_form_ignores_places.specs.Forget.{forget_block, forget_loads}
use Rattle.c_law_roundtrip.proofs.Kept.{loads_kept}
use Rattle.c_law_roundtrip.proofs.BodyRaw.{body_raw}

module _ (text : CText) where
  pub setup_model_raw : (at k : ℕ) (m : CModule) → is_unsigned k ≡ true → list_all spells_statement m.setup_model ≡ true → HasBlocks m.setup_model
      → StandsAt text at (setup_model_words k m) → forget_block (setup_model text (placed at (setup_model_tree k m))) ≡ raw_body m.setup_model
  unfolding setup_model setup_model_words row_list template
  setup_model_raw at k m u h has s =
      let t = row_stands text at (setup_model_pieces k m) (names.setup_model_word k u ▹ model_written k u
      ▹ reset_written ▹ body_written k m.setup_model u h has ▹ tt) s in
      body_raw text _ _ k m.setup_model u h has t.1.1.1.0

  pub setup_instance_raw : (at k : ℕ) (m : CModule) → is_unsigned k ≡ true → list_all spells_statement m.setup_instance ≡ true → HasBlocks m.setup_instance
      → StandsAt text at (setup_instance_words k m) → forget_block (setup_instance text (placed at (setup_instance_tree k m))) ≡ raw_body m.setup_instance
  unfolding setup_instance setup_instance_words row_list template
  setup_instance_raw at k m u h has s =
      let t = row_stands text at (setup_instance_pieces k m)
      (names.setup_instance_word k u ▹ instance_written k u ▹ model_written k u ▹ reset_written
      ▹ body_written k m.setup_instance u h has ▹ tt) s in
      body_raw text _ _ k m.setup_instance u h has t.1.1.1.1.0

  pub eval_raw : (at k : ℕ) (m : CModule) → is_unsigned k ≡ true → list_all spells_statement m.eval ≡ true → HasBlocks m.eval
      → StandsAt text at (eval_words k m) → forget_block (eval text (placed at (eval_tree k m))) ≡ raw_body m.eval
  unfolding eval eval_words row_list template
  eval_raw at k m u h has s =
      let t = row_stands text at (eval_pieces k m) (names.eval_word k u ▹ instance_written k u ▹ model_written k u
      ▹ body_written k m.eval u h has ▹ tt) s in
      body_raw text _ _ k m.eval u h has t.1.1.1.0

  pub loads_are : (at k : ℕ) (list : CLoads) → is_unsigned k ≡ true → loads_spelled list load_functions ≡ true → StandsAt text at (loads_words k list)
      → forget_loads (loads text (placed at (loads_tree k list))) ≡ loads_raw list
  loads_are at k list u h s = loads_kept (loads text (placed at (loads_tree k list))) ∙ ap loads_raw (loads_value text at k list u h s)
