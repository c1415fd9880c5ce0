use Rattle.std.specs.Prelude.{◌≡◌, ◌++◌, true, length, map, [], ◌∷◌}
use Rattle.std.specs.List.{list_all}
use Rattle.c_raw.specs.Views.{module_view, module_has_bodies}
use Rattle.c_raw_build.specs.RawFiles.{modules}
use Rattle.c_raw_build.specs.Reading.{ReadsOn}
use Rattle.c_raw_build.specs.Due.{IsDueIn}
use Rattle.c_raw_build.specs.Nonterminals as nonterminals
use Rattle.c_raw_build.proofs.modules.all_modules.Given as goal

abbrev pub invariant-loop-reader : goal.invariant-loop-reader
invariant-loop-reader l = record {
  due : IsDueIn l.text (nonterminals.modules ∷ []) l.reader;
  read : ReadsOn (λ p. map module_view l.list.items ++ modules l.text p) (modules l.text) l.initial.reader l.reader;
  bodies : list_all module_has_bodies l.list.items ≡ true;
}

abbrev pub decreases-loop-reader : goal.decreases-loop-reader
decreases-loop-reader l = length l.reader.nodes
