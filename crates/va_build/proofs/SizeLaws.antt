-- What holds of the rows of the grammar: what their trees hold is what begins with them and what is due below them.
use Rattle.std.specs.Prelude.{◌≡◌, ℕ, suc, List, [], ◌∷◌, ◌++◌}
use Rattle.predict.specs.Tree.{Tree, node}
use Rattle.va_base.specs.declared.expanded.Expanded.{Expanded}
use Rattle.predict.specs.FirstFit.{Written}
use Rattle.va_build.specs.Reading.{row_symbols, parts_from}
use Rattle.va_build.specs.SizeDeep.{earlier}
use Rattle.va_build.specs.SizeRows.{links, rule_of, deep_opened, depth_below, depth_last, name_opened, dues, deep_in, deep_due, modules_in, modules_due}
use Rattle.va_build.specs.Due.{AreDerived}

-- what the row's tree holds is the nodes that begin with it, and what is due below it
abbrev pub RowHolds : ℕ → ℕ → Type 0
RowHolds l row =
    (e : Expanded) (depth at : ℕ) (ts : List Tree) → AreDerived (row_symbols row) ts →
    let t : Tree = node row (parts_from (row_symbols row) ts) in
    deep_in e l depth at t ≡ earlier (deep_opened (rule_of l row) at depth (links t)) (deep_due e (dues (row_symbols row) (depth_below (rule_of l row) depth (links t)) (depth_last (rule_of l row) depth)) at ts)

-- the names of modules in the row's tree are those that begin with it, and those that are due below it
abbrev pub NamesHold : ℕ → ℕ → Type 0
NamesHold l row =
    (e : Expanded) (depth last at : ℕ) (ts : List Tree) → AreDerived (row_symbols row) ts →
    modules_in e l at (node row (parts_from (row_symbols row) ts)) ≡ name_opened l at ++ modules_due e (dues (row_symbols row) depth last) at ts

-- both of some rows, of which the first has this number
abbrev pub AllHold : ℕ → List Written → Type 0
AllHold from [] = Unit {0}
AllHold from (row ∷ more) = (RowHolds row.left from × NamesHold row.left from) × AllHold (suc from) more
