-- The kinds of branches and the unknowns of all modules of a text.
use Rattle.std.specs.Prelude.{List, map, Option}
use Rattle.va_tree.specs.declared.source.Source.{Source}
use Rattle.va_tree.specs.declared.module.Module.{Module}
use Rattle.va_sem.specs.declared.branch.BranchKind.{BranchKind}
use Rattle.va_sem.specs.declared.branch.Unknown.{Unknown}
use Rattle.va_sem.specs.declared.names.ModuleNames.{ModuleNames}
use Rattle.va_sem.specs.Meanings.{names_of}
use Rattle.va_sem.specs.Typing.{modules_with}
use Rattle.va_sem.specs.rules.Unknowns.{kinds_in, unknowns_in, HasKinds}

-- of a module with its names
abbrev pub module_kinds : Module × ModuleNames → List (Option BranchKind)
module_kinds (m, names) = kinds_in names m

abbrev pub module_unknowns : Module × ModuleNames → List Unknown
module_unknowns (m, names) = unknowns_in names m

-- each branch of the module has a kind
abbrev pub HasAllKinds : Module × ModuleNames → Type 0
HasAllKinds (m, names) = HasKinds names m

-- of each module the kinds of its branches, in the order of `branches`
abbrev pub kinds_of : Source → List (List (Option BranchKind))
kinds_of s = map module_kinds (modules_with s (names_of s))

-- of each module its unknowns in order
abbrev pub unknowns_of : Source → List (List Unknown)
unknowns_of s = map module_unknowns (modules_with s (names_of s))
