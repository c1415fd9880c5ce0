use Rattle.std.proofs.Common.{refl}
use Rattle.std.specs.Fmt.{digits}
use Rattle.c_tree.specs.Blocks.{nested}
use Rattle.c_tree.specs.Words.{spaced, template, string_word, include_words, cast_words}
use Rattle.c_tree.specs.Text.{help_words, structs_words, function_words, access_words, init_words, setup_model_words, setup_instance_words, eval_words, load_function_words, loads_words, node_words, entry_words, parameter_words, tables_words, module_words, descriptor_words, end_words, words_of, text_of}
use Rattle.c_runs.proofs.inductor.text.Goals as goal

-- by computation
pub returns : goal.returns
unfolding digits nested spaced template string_word include_words cast_words help_words structs_words function_words access_words init_words setup_model_words setup_instance_words eval_words load_function_words loads_words node_words entry_words parameter_words tables_words module_words descriptor_words end_words words_of text_of
returns c = refl
