-- A text of one module without ports and items, its names, and its types.
use Rattle.std.specs.Prelude.{[], ◌∷◌, codes}
use Rattle.va_tree.specs.declared.source.Source.{Source}
use Rattle.va_sem.specs.declared.names.Names.{Names}
use Rattle.va_sem.specs.declared.names.Meaning.TheVariants.{Module}
use Rattle.va_sem.specs.declared.typed.Typed.{Typed}
use Rattle.va_sem.specs.SmallTrees.{module_at}

-- module m; endmodule
abbrev pub lone_module : Source
lone_module = record { natures = []; disciplines = []; modules = module_at [] 1 (codes "m") [] [] ∷ [] }

abbrev pub lone_names : Names
lone_names = record {
  modules =
      record { nodes = []; ports = 0; branches = []; params = []; vars = []; functions = []; uses = record { at = 1; meaning = Module 0 } ∷ [] } ∷ [];
  uses = [];
}

abbrev pub lone_types : Typed
lone_types = record { exprs = [] }
