use Rattle.std.proofs.Common.{◌≡◌, ◌++◌, drop}
use Rattle.std.specs.Prelude.{map}
use Rattle.c_tree.specs.FileOf.{modules_of}
use Rattle.c_raw.specs.Views.{descriptor_view, module_view}
use Rattle.c_raw_file.proofs.file.modules.Given as goal

abbrev pub invariant-loop-index : goal.invariant-loop-index
invariant-loop-index l =
    l.list.items ++ modules_of (map module_view (drop l.index l.raw)) (map descriptor_view (drop l.index l.descriptors))
    ≡ modules_of (map module_view l.raw) (map descriptor_view l.descriptors)
