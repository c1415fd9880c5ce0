-- What the names of a text mean (Signal access functions, User-defined analog functions).
use Rattle.std.specs.Prelude.{ℕ, Bool, true, false, not, ◌==◌, ◌&&◌, List, [], ◌∷◌, ◌++◌, map, find, length, flat_map, slice_get, Option, Some, None, option_map, option_and_then, option_to_list, if◌then◌else◌}
use Rattle.std.specs.Option.{is_some}
use Rattle.std.specs.List.{position, enumerate_from}
use Rattle.std.specs.Str.{bytes_eq}
use Rattle.va_tree.specs.declared.name.NameAt.{NameAt}
use Rattle.va_tree.specs.declared.source.Nature.{Nature}
use Rattle.va_tree.specs.declared.source.Discipline.{Discipline}
use Rattle.va_tree.specs.declared.source.DisciplineItem.{DisciplineItem}
use Rattle.va_tree.specs.declared.source.DisciplineItem.TheVariants.{Binding}
use Rattle.va_tree.specs.declared.source.Source.{Source}
use Rattle.va_tree.specs.declared.module.Item.{Item}
use Rattle.va_tree.specs.declared.module.Module.{Module}
use Rattle.va_sem.specs.declared.names.Names.{Names}
use Rattle.va_sem.specs.declared.names.ModuleNames.{ModuleNames}
use Rattle.va_sem.specs.declared.names.NodeName.{NodeName}
use Rattle.va_sem.specs.declared.names.BranchName.{BranchName}
use Rattle.va_sem.specs.declared.names.NameUse.{NameUse}
use Rattle.va_sem.specs.declared.names.Meaning.{Meaning}
use Rattle.va_sem.specs.declared.names.Meaning.TheVariants as means
use Rattle.va_sem.specs.Lookup.{Bytes}
use Rattle.va_sem.specs.TextOrder.{in_text_order, number_at}
use Rattle.va_sem.specs.Builtins.{builtin_row}
use Rattle.va_sem.specs.Disciplines.{NatureEntry, DisciplineEntry, natures_of, disciplines_of, nature_before, parent_of, discipline_before, accesses_of, nature_has}
use Rattle.va_sem.specs.Declarations.{VariableEntry, ParameterEntry, FunctionEntry, functions_of, parameters_of, variables_of}
use Rattle.va_sem.specs.Scopes.{Thing, Declared, node, branch, parameter, variable, function, label, alias, nothing, named, module_scope}
use Rattle.va_sem.specs.Sites.{Ends, one, Role, calls, accesses, contributes, discipline, calls_system, task_name, infinite, Site, seen, is_access, module_sites}
use Rattle.va_sem.specs.Branches.{NodeEntry, node_entries, BranchEntry, named_branches, ends_at, used_branch, same_pair, same_direction, unnamed_branches}

-- the tokens of the disciplines, and of the natures, in the order of the tree's lists
abbrev pub discipline_tokens : Source → List ℕ
discipline_tokens s = map (λ (d : Discipline). d.at) s.disciplines

abbrev pub nature_tokens : Source → List ℕ
nature_tokens s = map (λ (n : Nature). n.at) s.natures

-- What is known of a module's names: its sites, nodes and branches, and the tokens by which things are numbered.
pub record Known : Type 0 where
  pub disciplines : List DisciplineEntry
  pub discipline_tokens : List ℕ
  pub sites : List Site
  pub nodes : List NodeEntry
  pub branches : List BranchEntry
  pub parameters : List ℕ
  pub variables : List ℕ
  pub functions : List ℕ

abbrev pub node_tokens : List NodeEntry → List ℕ
node_tokens = map (λ (n : NodeEntry). n.name.at)

abbrev pub known_of : Source → Module → Known
known_of s m =
    let disciplines = disciplines_of s in
    let sites = module_sites (accesses_of (natures_of s)) m in
    let nodes = node_entries disciplines m in
    let declared = flat_map (λ (i : Item). named_branches (node_tokens nodes) (module_scope m) i.body) m.items in
    record {
      disciplines = disciplines;
      discipline_tokens = discipline_tokens s;
      sites = sites;
      nodes = nodes;
      branches = in_text_order (λ (b : BranchEntry). b.at) (declared ++ unnamed_branches (node_tokens nodes) sites);
      parameters = map (λ (p : ParameterEntry). p.name.at) (parameters_of m);
      variables = map (λ (v : VariableEntry). v.name.at) (variables_of m);
      functions = map (λ (f : FunctionEntry). f.name.at) (functions_of m);
    }

abbrev pub branch_tokens : Known → List ℕ
branch_tokens k = map (λ (b : BranchEntry). b.at) k.branches

-- what a declared name means
abbrev pub thing_meaning : Known → ℕ → Thing → Option Meaning
thing_meaning k at node = Some (means.Node (number_at (node_tokens k.nodes) at))
thing_meaning k at branch = Some (means.Branch (number_at (branch_tokens k) at))
thing_meaning k at parameter = Some (means.Param (number_at k.parameters at))
thing_meaning k at variable = Some (means.Var (number_at k.variables at))
thing_meaning k at function = Some (means.Function (number_at k.functions at))
thing_meaning k at label = None
thing_meaning k at (alias target) = None
thing_meaning k at nothing = None

abbrev pub declared_meaning : Known → Option Declared → Option Meaning
declared_meaning k None = None
declared_meaning k (Some d) = thing_meaning k d.at d.thing

-- the branch that an access means, and whether the other way round
pub record Target : Type 0 where
  pub branch : BranchEntry
  pub number : ℕ
  pub turned : Bool

abbrev pub target : List BranchEntry → (BranchEntry → Bool) → (BranchEntry → Bool) → Option Target
target branches wanted turned =
    option_and_then
    (λ n. option_map (λ (b : BranchEntry). record { branch = b; number = n; turned = turned b }) (slice_get branches n))
    (position wanted branches)

-- the branch of a declared name, and the unnamed one of a pair
abbrev pub named_target : Known → ℕ → Thing → Option Target
named_target k at branch = target k.branches (λ (b : BranchEntry). b.at == at && is_some b.name) (λ b. false)
named_target k at other = None

abbrev pub alone_target : Known → List Declared → Ends → Option Target
alone_target k scope (one n) = option_and_then (λ (d : Declared). named_target k d.at d.thing) (named scope n.name)
alone_target k scope other = None

abbrev pub pair_target : Known → BranchEntry → Option Target
pair_target k used = target k.branches (λ (b : BranchEntry). not (is_some b.name) && same_pair b used) (λ b. not (same_direction b used))

abbrev pub target_of : Known → Site → Option Target
target_of k s = elim (used_branch (node_tokens k.nodes) s) [
  | Some used ↦ pair_target k used
  | None ↦ alone_target k s.around.scope (ends_at s)
]

-- the discipline of two nodes that have one and the same, and of a node alone
abbrev pub discipline_numbered : Known → ℕ → Option DisciplineEntry
discipline_numbered k n = option_and_then (λ (e : NodeEntry). e.discipline) (slice_get k.nodes n)

abbrev pub same_discipline : DisciplineEntry → Option DisciplineEntry → Option DisciplineEntry
same_discipline d None = None
same_discipline d (Some e) = if d.at == e.at then Some d else None

abbrev pub shared_discipline : Known → Option DisciplineEntry → Option ℕ → Option DisciplineEntry
shared_discipline k None minus = None
shared_discipline k (Some d) None = Some d
shared_discipline k (Some d) (Some minus) = same_discipline d (discipline_numbered k minus)

abbrev pub discipline_of_branch : Known → BranchEntry → Option DisciplineEntry
discipline_of_branch k b = shared_discipline k (discipline_numbered k b.plus) b.minus

-- Whether an access of a discipline is its flow: it is the potential where both have this access.
abbrev pub is_flow_of : Bytes → DisciplineEntry → Option Bool
is_flow_of access d = if nature_has d.potential access then Some false else (if nature_has d.flow access then Some true else None)

abbrev pub access_to : Target → Bool → Meaning
access_to t flow = means.Access t.number t.turned flow

abbrev pub access_meaning : Known → Bytes → Option Target → Option Meaning
access_meaning k access None = None
access_meaning k access (Some t) = option_map (access_to t) (option_and_then (is_flow_of access) (discipline_of_branch k t.branch))

-- what a name before `(` means where it is no access: what is declared, else a built-in function
abbrev pub called_meaning : Known → Bytes → Option Declared → Option Meaning
called_meaning k bytes None = option_map means.Builtin (builtin_row bytes)
called_meaning k bytes (Some d) = thing_meaning k d.at d.thing

abbrev pub discipline_meaning : List ℕ → DisciplineEntry → Meaning
discipline_meaning tokens e = means.Discipline (number_at tokens e.at)

abbrev pub meaning_by_role : Known → Site → Role → Option Meaning
meaning_by_role k s (accesses ends) = access_meaning k s.name (target_of k s)
meaning_by_role k s (contributes ends) =
    if is_access s.around s.name then access_meaning k s.name (target_of k s) else called_meaning k s.name (seen s)
meaning_by_role k s calls = called_meaning k s.name (seen s)
meaning_by_role k s discipline =
    option_map (discipline_meaning k.discipline_tokens) (discipline_before k.disciplines (record { at = s.at; name = s.name }))
meaning_by_role k s calls_system = None
meaning_by_role k s task_name = None
meaning_by_role k s infinite = None
meaning_by_role k s other = declared_meaning k (seen s)

abbrev pub meaning_of : Known → Site → Option Meaning
meaning_of k s = meaning_by_role k s s.role

abbrev pub use_at : ℕ → Option Meaning → List NameUse
use_at at None = []
use_at at (Some meaning) = record { at = at; meaning = meaning } ∷ []

abbrev pub in_order : List NameUse → List NameUse
in_order = in_text_order (λ (u : NameUse). u.at)

-- the names of a module, and the module's own name under its number
abbrev pub module_uses : Known → ℕ → Module → List NameUse
module_uses k number m = in_order (use_at m.at (Some (means.Module number)) ++ flat_map (λ s. use_at s.at (meaning_of k s)) k.sites)

abbrev pub discipline_number : Known → Option DisciplineEntry → ℕ
discipline_number k None = 0
discipline_number k (Some e) = number_at k.discipline_tokens e.at

abbrev pub names_of_module : Source → ℕ → Module → ModuleNames
names_of_module s number m =
    let k = known_of s m in
    record {
      nodes = map (λ (n : NodeEntry). let node : NodeName = record { name = n.name.name; discipline = discipline_number k n.discipline } in node) k.nodes;
      ports = length m.ports;
      branches = map (λ (b : BranchEntry). let branch : BranchName = record { plus = b.plus; minus = b.minus; name = b.name } in branch) k.branches;
      params = map (λ (p : ParameterEntry). p.name.name) (parameters_of m);
      vars = map (λ (v : VariableEntry). v.name.name) (variables_of m);
      functions = map (λ (f : FunctionEntry). f.name.name) (functions_of m);
      uses = module_uses k number m;
    }

-- the names in natures and disciplines
abbrev pub nature_meaning : Source → NatureEntry → Meaning
nature_meaning s e = means.Nature (number_at (nature_tokens s) e.at)

-- of two natures of one name the first is meant, and likewise of two disciplines
abbrev pub own_nature_meaning : Source → Nature → Option Meaning
own_nature_meaning s n = option_map (nature_meaning s) (find (λ (e : NatureEntry). bytes_eq e.name n.name) (natures_of s))

abbrev pub own_discipline_meaning : Source → Discipline → Option Meaning
own_discipline_meaning s d =
    option_map (discipline_meaning (discipline_tokens s)) (find (λ (e : DisciplineEntry). bytes_eq e.name d.name) (disciplines_of s))

abbrev pub nature_use : Source → ℕ → Option NatureEntry → List NameUse
nature_use s at found = use_at at (option_map (nature_meaning s) found)

abbrev pub nature_uses : Source → Nature → List NameUse
nature_uses s n =
    use_at n.at (own_nature_meaning s n)
    ++ flat_map (λ (parent : NameAt). nature_use s parent.at (parent_of (natures_of s) n parent)) (option_to_list n.parent)

abbrev pub discipline_item_uses : Source → DisciplineItem → List NameUse
discipline_item_uses s (Binding at quantity nature) = nature_use s nature.at (nature_before (natures_of s) nature)
discipline_item_uses s other = []

abbrev pub discipline_uses : Source → Discipline → List NameUse
discipline_uses s d = use_at d.at (own_discipline_meaning s d) ++ flat_map (discipline_item_uses s) d.items

-- the names of a text
abbrev pub names_of : Source → Names
names_of s = record {
  modules = map (λ (e : ℕ × Module). names_of_module s e.0 e.1) (enumerate_from 0 s.modules);
  uses = in_order (flat_map (nature_uses s) s.natures ++ flat_map (discipline_uses s) s.disciplines);
}
