-- The nodes of a module with their disciplines, and its branches (Branches, Signal access functions): a named branch is one of its
-- own, and there is one unnamed branch for each pair of nodes, in the direction of its first use.
use Rattle.std.specs.Prelude.{ℕ, Bool, true, false, not, ◌==◌, ◌&&◌, ◌||◌, List, [], ◌∷◌, map, filter, find, filter_map, Option, Some, None, option_map, option_and_then}
use Rattle.std.specs.Str.{bytes_eq}
use Rattle.va_tree.specs.declared.name.NameAt.{NameAt}
use Rattle.va_tree.specs.declared.module.ItemBody.{ItemBody}
use Rattle.va_tree.specs.declared.module.ItemBody.TheVariants as item
use Rattle.va_tree.specs.declared.module.Module.{Module}
use Rattle.va_sem.specs.Lookup.{Bytes}
use Rattle.va_sem.specs.TextOrder.{in_text_order, number_at}
use Rattle.va_sem.specs.Disciplines.{DisciplineEntry, discipline_before}
use Rattle.va_sem.specs.Declarations.{DisciplineGiven, nodes_of, disciplines_given_in}
use Rattle.va_sem.specs.Scopes.{Thing, Declared, node, named}
use Rattle.va_sem.specs.Sites.{Ends, one, two, neither, Role, accesses, contributes, Site, is_access, ends_written}

-- a node, and its discipline if it has one
pub record NodeEntry : Type 0 where
  pub name : NameAt
  pub discipline : Option DisciplineEntry

-- the discipline that a node is given first
abbrev pub discipline_of_node : List DisciplineEntry → List DisciplineGiven → Bytes → Option DisciplineEntry
discipline_of_node disciplines given bytes =
    option_and_then (λ (g : DisciplineGiven). discipline_before disciplines g.discipline) (find (λ (g : DisciplineGiven). bytes_eq g.node.name bytes) given)

abbrev pub node_entries : List DisciplineEntry → Module → List NodeEntry
node_entries disciplines m =
    map (λ (n : NameAt). record { name = n; discipline = discipline_of_node disciplines (disciplines_given_in m) n.name }) (nodes_of m)

-- A branch from a node to a node or to the reference node: the token at which it is declared, or first used where it is unnamed.
pub record BranchEntry : Type 0 where
  pub at : ℕ
  pub plus : ℕ
  pub minus : Option ℕ
  pub name : Option Bytes

-- the number of the node that a name means, if it means one
abbrev pub node_number : List ℕ → Thing → ℕ → Option ℕ
node_number nodes node at = Some (number_at nodes at)
node_number nodes other at = None

abbrev pub node_meant : List ℕ → List Declared → NameAt → Option ℕ
node_meant nodes scope n = option_and_then (λ (d : Declared). node_number nodes d.thing d.at) (named scope n.name)

-- a branch of these nodes
abbrev pub branch_of : ℕ → Option Bytes → Option ℕ → Option (Option ℕ) → Option BranchEntry
branch_of at bytes (Some plus) (Some minus) = Some (record { at = at; plus = plus; minus = minus; name = bytes })
branch_of at bytes (Some plus) None = None
branch_of at bytes None minus = None

-- the branch of a node or a pair of nodes, where they are nodes
abbrev pub branch_between : List ℕ → List Declared → ℕ → Option Bytes → Ends → Option BranchEntry
branch_between nodes scope at bytes (one first) = branch_of at bytes (node_meant nodes scope first) (Some None)
branch_between nodes scope at bytes (two first second) =
    branch_of at bytes (node_meant nodes scope first) (option_map Some (node_meant nodes scope second))
branch_between nodes scope at bytes neither = None

-- the branches that an item declares
abbrev pub named_branches : List ℕ → List Declared → ItemBody → List BranchEntry
named_branches nodes scope (item.Branch at first second names) =
    filter_map (λ (n : NameAt). branch_between nodes scope n.at (Some n.name) (ends_written first second)) names
named_branches nodes scope other = []

-- what an access names; outside of functions alone, since no access stands in one
abbrev pub ends_by_role : Bool → Role → Ends
ends_by_role true (accesses ends) = ends
ends_by_role true (contributes ends) = ends
ends_by_role can_access other = neither

abbrev pub ends_at : Site → Ends
ends_at s = ends_by_role (is_access s.around s.name && not s.around.in_function) s.role

-- the unnamed branch that an access uses, in the direction of this use
abbrev pub used_branch : List ℕ → Site → Option BranchEntry
used_branch nodes s = branch_between nodes s.around.scope s.at None (ends_at s)

abbrev pub same_node : Option ℕ → Option ℕ → Bool
same_node None None = true
same_node (Some i) (Some j) = i == j
same_node None (Some j) = false
same_node (Some i) None = false

abbrev pub same_direction : BranchEntry → BranchEntry → Bool
same_direction b c = b.plus == c.plus && same_node b.minus c.minus

-- the same pair of nodes, in this or the other direction
abbrev pub same_pair : BranchEntry → BranchEntry → Bool
same_pair b c = same_direction b c || same_node (Some b.plus) c.minus && same_node b.minus (Some c.plus)

-- Of each pair the first use, among uses in order of the text.
abbrev pub first_uses : List BranchEntry → List BranchEntry
first_uses [] = []
first_uses (b ∷ rest) = b ∷ filter (λ c. not (same_pair b c)) (first_uses rest)

-- the unnamed branches of a module by their first uses
abbrev pub unnamed_branches : List ℕ → List Site → List BranchEntry
unnamed_branches nodes sites = first_uses (in_text_order (λ (b : BranchEntry). b.at) (filter_map (used_branch nodes) sites))
