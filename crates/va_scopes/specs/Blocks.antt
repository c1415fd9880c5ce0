-- The names of a block.
use Rattle.std.specs.Prelude.{List, map, flat_map, None}
use Rattle.va_tree.specs.declared.module.Declaration.{Declaration}
use Rattle.va_tree.specs.declared.module.Variable.{Variable}
use Rattle.va_tree.specs.Statements.{Statement, block, no_more}
use Rattle.va_sem.specs.Scopes.{Declared, declared_as, variable}

-- what a variable declares
abbrev pub declared_by_variable : Variable → Declared
declared_by_variable v = declared_as variable v.name

-- the names that some declarations declare, in the order of the text
abbrev pub names_of_block : List Declaration → List Declared
names_of_block = flat_map (λ (d : Declaration). map declared_by_variable d.variables)

-- a block with these declarations and no statements: what stands in a block changes nothing of what its names are
abbrev pub block_with : List Declaration → Statement
block_with declarations = block 0 None declarations no_more
