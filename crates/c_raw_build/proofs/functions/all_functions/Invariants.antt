use Rattle.std.specs.Prelude.{◌≡◌, ◌++◌, true, length, map, [], ◌∷◌}
use Rattle.std.specs.List.{list_all}
use Rattle.c_raw.specs.Blocks.{is_body}
use Rattle.c_raw.specs.Views.{function_view}
use Rattle.c_raw.specs.declared.file.RawFunction.{RawFunction}
use Rattle.c_raw_build.specs.RawFiles.{functions, access}
use Rattle.c_raw_build.specs.Reading.{ReadsOn, next_tree}
use Rattle.c_raw_build.specs.Due.{IsDueIn}
use Rattle.c_raw_build.specs.Nonterminals as nonterminals
use Rattle.c_raw_build.proofs.functions.all_functions.Given as goal

abbrev pub invariant-loop-reader : goal.invariant-loop-reader
invariant-loop-reader l = record {
  due : IsDueIn l.text (nonterminals.functions ∷ nonterminals.function_or_access ∷ []) l.reader;
  read : ReadsOn (λ p. map function_view l.list.items ++ functions l.text p) (functions l.text) l.initial.reader l.reader;
  access : access l.text (next_tree l.reader) ≡ access l.text (next_tree l.initial.reader);
  bodies : list_all (λ f. is_body (RawFunction.body f)) l.list.items ≡ true;
}

abbrev pub decreases-loop-reader : goal.decreases-loop-reader
decreases-loop-reader l = length l.reader.nodes
