-- The faults of names: which code stands at which token (Natures, Disciplines, Branches, Signal access functions, User-defined
-- analog functions, Aliasparam). What the manual has and this profile leaves out is OutOfProfile.
use Rattle.std.specs.Prelude.{ℕ, Bool, true, false, not, ◌==◌, ◌&&◌, ◌||◌, List, [], ◌∷◌, ◌++◌, map, filter, drop, length, flat_map, Option, Some, None, option_map, option_and_then, option_to_list, filter_map, if◌then◌else◌, codes}
use Rattle.std.specs.Option.{is_some}
use Rattle.std.specs.List.{list_any}
use Rattle.std.specs.Str.{bytes_eq}
use Rattle.va_base.specs.declared.fault.FaultCode.{FaultCode}
use Rattle.va_base.specs.declared.fault.FaultCode.TheVariants.{UnknownName, TwiceDeclared, WrongKind, WrongAccess, DisciplinesDiffer, NotDeclaredNode, FunctionCycle, OutOfProfile}
use Rattle.va_tree.specs.declared.name.NameAt.{NameAt}
use Rattle.va_tree.specs.declared.source.Quantity.TheVariants.{Potential, Flow}
use Rattle.va_tree.specs.declared.source.Nature.{Nature}
use Rattle.va_tree.specs.declared.source.NatureItem.{NatureItem}
use Rattle.va_tree.specs.declared.source.Discipline.{Discipline}
use Rattle.va_tree.specs.declared.source.Source.{Source}
use Rattle.va_tree.specs.declared.module.ItemBody.{ItemBody}
use Rattle.va_tree.specs.declared.module.ItemBody.TheVariants.{Branch}
use Rattle.va_tree.specs.declared.module.Item.{Item}
use Rattle.va_tree.specs.declared.module.Module.{Module}
use Rattle.va_tree.specs.Statements.{Statement}
use Rattle.va_sem.specs.declared.builtin.Builtin.{Builtin}
use Rattle.va_sem.specs.declared.builtin.Builtin.TheVariants.{LeftOut}
use Rattle.va_sem.specs.declared.builtin.SystemName.{SystemName}
use Rattle.va_sem.specs.declared.builtin.SystemName.TheVariants as system
use Rattle.va_sem.specs.Lookup.{Bytes}
use Rattle.va_sem.specs.TextOrder.{in_text_order, number_at}
use Rattle.alg_laws.specs.Least.{least}
use Rattle.va_tree.specs.declared.expr.Arg.{Arg}
use Rattle.va_sem.specs.Builtins.{builtin_of, system_name_of}
use Rattle.va_sem.specs.Walks.{statements_in, defaults_of_case}
use Rattle.va_sem.specs.Disciplines.{NatureEntry, DisciplineEntry, BindingEntry, natures_of, nature_before, parent_of, discipline_before, access_given, units_given, items_named, bindings_of, accesses_of}
use Rattle.va_sem.specs.Declarations.{VariableEntry, FunctionEntry, DisciplineGiven, functions_of, argument_names, is_named, typed_in_function, analog_bodies, disciplines_given_in}
use Rattle.va_sem.specs.Scopes.{Thing, Declared, node, branch, parameter, variable, function, nothing, repeated, is_builtin, module_scope, scopes_of}
use Rattle.va_sem.specs.Sites.{Ends, neither, Role, declares, reads, assigns, calls, accesses, contributes, end, alone, directs, aliased, discipline, calls_system, task_name, infinite, Around, Site, seen, is_access, in_function, in_module, function_sites}
use Rattle.va_sem.specs.Branches.{BranchEntry, named_branches, used_branch}
use Rattle.va_sem.specs.Meanings.{Target, Known, known_of, node_tokens, target_of, discipline_numbered, discipline_of_branch, is_flow_of}

-- a token and the code of a fault that stands there
abbrev pub FaultAt : Type 0
FaultAt = ℕ × FaultCode

-- a code at each of some tokens
abbrev pub all_at : FaultCode → List ℕ → List FaultAt
all_at code = map (λ at. (at, code))

abbrev pub fault_if : Bool → ℕ → FaultCode → List FaultAt
fault_if true at code = (at, code) ∷ []
fault_if false at code = []

-- whether a thing may be used so
abbrev pub fits : Role → Thing → Bool
fits reads parameter = true
fits reads variable = true
fits assigns variable = true
fits calls function = true
fits end node = true
fits alone node = true
fits alone branch = true
fits aliased parameter = true
fits role thing = false

-- a use of a name that has this meaning: without one, of a kind that isn't wanted, and in order
abbrev pub thing_faults : ℕ → Role → Option Thing → List FaultAt
thing_faults at role None = (at, UnknownName) ∷ []
thing_faults at role (Some nothing) = (at, UnknownName) ∷ []
thing_faults at role (Some thing) = fault_if (not (fits role thing)) at WrongKind

abbrev pub is_left_out : Builtin → Bool
is_left_out LeftOut = true
is_left_out other = false

-- a name before `(` that is no access
abbrev pub builtin_faults : ℕ → Role → Option Builtin → List FaultAt
builtin_faults at role None = (at, UnknownName) ∷ []
builtin_faults at calls (Some b) = fault_if (is_left_out b) at OutOfProfile
builtin_faults at role (Some b) = (at, WrongKind) ∷ fault_if (is_left_out b) at OutOfProfile

abbrev pub call_faults : ℕ → Bytes → Role → Option Declared → List FaultAt
call_faults at bytes role None = builtin_faults at role (builtin_of bytes)
call_faults at bytes role (Some d) = thing_faults at role (Some d.thing)

abbrev pub is_neither : Ends → Bool
is_neither neither = true
is_neither other = false

-- two nodes that are one, and two that have different disciplines; where one has none nothing is known
abbrev pub same_number : ℕ → Option ℕ → Bool
same_number plus None = false
same_number plus (Some minus) = plus == minus

abbrev pub differ : Option DisciplineEntry → Option DisciplineEntry → Bool
differ None other = false
differ (Some d) None = false
differ (Some d) (Some e) = not (d.at == e.at)

abbrev pub minus_discipline : Known → Option ℕ → Option DisciplineEntry
minus_discipline k None = None
minus_discipline k (Some n) = discipline_numbered k n

abbrev pub branch_faults : Known → ℕ → BranchEntry → List FaultAt
branch_faults k at b =
    fault_if (differ (discipline_numbered k b.plus) (minus_discipline k b.minus)) at DisciplinesDiffer
    ++ fault_if (same_number b.plus b.minus) at OutOfProfile

-- an access name that is none of the one discipline of the branch's nodes
abbrev pub access_faults : ℕ → Bytes → Option DisciplineEntry → List FaultAt
access_faults at bytes None = []
access_faults at bytes (Some d) = fault_if (not (is_some (is_flow_of bytes d))) at WrongAccess

abbrev pub target_faults : Known → ℕ → Bytes → Option Target → List FaultAt
target_faults k at bytes None = []
target_faults k at bytes (Some t) = access_faults at bytes (discipline_of_branch k t.branch)

-- an access in an expression or on the left of `<+`
abbrev pub access_site_faults : Known → Site → Ends → List FaultAt
access_site_faults k s ends =
    fault_if (s.around.in_function || is_neither ends) s.at WrongKind
    ++ flat_map (branch_faults k s.at) (option_to_list (used_branch (node_tokens k.nodes) s))
    ++ target_faults k s.at s.name (target_of k s)

-- on the left of `<+` a name before `(` that is no access has no kind that is wanted
abbrev pub contribution_faults : Known → Site → Ends → List FaultAt
contribution_faults k s ends =
    if is_access s.around s.name then access_site_faults k s ends else call_faults s.at s.name (contributes ends) (seen s)

-- A discipline of a node is declared before, and it has both natures.
abbrev pub lacks_nature : DisciplineEntry → Bool
lacks_nature d = not (is_some d.potential && is_some d.flow)

abbrev pub discipline_faults : ℕ → Option DisciplineEntry → List FaultAt
discipline_faults at None = (at, UnknownName) ∷ []
discipline_faults at (Some d) = fault_if (lacks_nature d) at OutOfProfile

-- a system name in an expression, and one that is a statement
abbrev pub system_faults : ℕ → Option SystemName → List FaultAt
system_faults at None = (at, OutOfProfile) ∷ []
system_faults at (Some (system.Function f)) = []
system_faults at (Some system.Task) = (at, WrongKind) ∷ []

abbrev pub task_faults : ℕ → Option SystemName → List FaultAt
task_faults at None = (at, OutOfProfile) ∷ []
task_faults at (Some (system.Function f)) = (at, WrongKind) ∷ []
task_faults at (Some system.Task) = []

-- a direction is of a port
abbrev pub direction_faults : List NameAt → ℕ → Bytes → List FaultAt
direction_faults ports at bytes = fault_if (not (is_named ports bytes)) at UnknownName

abbrev pub thing_of : Option Declared → Option Thing
thing_of = option_map (λ (d : Declared). d.thing)

abbrev pub role_faults : Known → List NameAt → Site → Role → List FaultAt
role_faults k ports s declares = []
role_faults k ports s calls = call_faults s.at s.name calls (seen s)
role_faults k ports s (accesses ends) = access_site_faults k s ends
role_faults k ports s (contributes ends) = contribution_faults k s ends
role_faults k ports s directs = direction_faults ports s.at s.name
role_faults k ports s discipline = discipline_faults s.at (discipline_before k.disciplines (record { at = s.at; name = s.name }))
role_faults k ports s calls_system = system_faults s.at (system_name_of s.name)
role_faults k ports s task_name = task_faults s.at (system_name_of s.name)
role_faults k ports s infinite = fault_if s.around.looked_at s.at OutOfProfile
role_faults k ports s role = thing_faults s.at role (thing_of (seen s))

-- the faults at the names of a module
abbrev pub site_faults : Known → Module → List FaultAt
site_faults k m = flat_map (λ s. role_faults k m.ports s s.role) k.sites

-- all elements but the first
abbrev pub seconds : {T : Type 0} → List T → List T
seconds = drop 1

-- second declarations in one scope, and declarations of the names of built-in functions
abbrev pub declaration_faults : List NameAt → List FaultAt
declaration_faults names =
    all_at TwiceDeclared (repeated [] names)
    ++ all_at TwiceDeclared (map (λ (n : NameAt). n.at) (filter (λ (n : NameAt). is_builtin n.name) names))

-- the tokens where one of these names is given a discipline a second time; and likewise an argument a type
abbrev pub second_disciplines : List DisciplineGiven → NameAt → List ℕ
second_disciplines given port =
    map (λ (g : DisciplineGiven). g.node.at) (seconds (filter (λ (g : DisciplineGiven). bytes_eq g.node.name port.name) given))

abbrev pub second_types : FunctionEntry → NameAt → List ℕ
second_types f argument =
    map (λ (v : VariableEntry). v.name.at) (seconds (filter (λ (v : VariableEntry). bytes_eq v.name.name argument.name) (typed_in_function f)))

-- In a function its own name is declared as its result, and the name of a built-in function can't be declared. So a type that one of
-- these is given is a second declaration, also where it is an argument's name.
abbrev pub is_taken : FunctionEntry → Bytes → Bool
is_taken f name = bytes_eq name f.name.name || is_builtin name

abbrev pub types_of_taken : FunctionEntry → List ℕ
types_of_taken f = map (λ (v : VariableEntry). v.name.at) (filter (λ (v : VariableEntry). is_taken f v.name.name) (typed_in_function f))

-- the statements of a module, those in statements and functions with them
abbrev pub all_statements : Module → List Statement
all_statements m = flat_map statements_in (analog_bodies m ++ map (λ (f : FunctionEntry). f.body) (functions_of m))

-- the tokens of second defaults, in order of the text
abbrev pub second_defaults : Statement → List ℕ
second_defaults s = seconds (in_text_order (λ at. at) (defaults_of_case s))

abbrev pub twice_in_module : Module → List FaultAt
twice_in_module m =
    flat_map declaration_faults (scopes_of m)
    ++ all_at TwiceDeclared (flat_map (second_disciplines (disciplines_given_in m)) m.ports)
    ++ all_at TwiceDeclared (flat_map (λ (f : FunctionEntry). flat_map (second_types f) (argument_names f)) (functions_of m))
    ++ all_at TwiceDeclared (flat_map types_of_taken (functions_of m))
    ++ all_at TwiceDeclared (flat_map second_defaults (all_statements m))

-- ports that are given no discipline
abbrev pub port_faults : Module → List FaultAt
port_faults m =
    let given = map (λ (g : DisciplineGiven). g.node) (disciplines_given_in m) in
    all_at NotDeclaredNode (map (λ (n : NameAt). n.at) (filter (λ (n : NameAt). not (is_named given n.name)) m.ports))

-- the faults of declared branches, at the word `branch`
abbrev pub branch_item_faults : Known → Module → ItemBody → List FaultAt
branch_item_faults k m (Branch at first second names) =
    flat_map (branch_faults k at) (named_branches (node_tokens k.nodes) (module_scope m) (Branch at first second names))
branch_item_faults k m other = []

-- a call in a function, that is looked at, by the numbers of both functions, and its token
pub record CallEntry : Type 0 where
  pub at : ℕ
  pub holder : ℕ
  pub called : ℕ

abbrev pub called_function : Known → Thing → ℕ → Option ℕ
called_function k function at = Some (number_at k.functions at)
called_function k other at = None

abbrev pub call_entry : Known → ℕ → Site → Role → Option CallEntry
call_entry k holder s calls =
    option_map (λ called. record { at = s.at; holder = holder; called = called })
    (option_and_then (λ (d : Declared). called_function k d.thing d.at) (if s.around.looked_at then seen s else None))
call_entry k holder s other = None

abbrev pub calls_of : Known → Around → FunctionEntry → List CallEntry
calls_of k a f = filter_map (λ s. call_entry k (number_at k.functions f.name.at) s s.role) (function_sites (in_function a f) f)

-- the functions that are reached by calls from a function, it with them
abbrev pub reached : List CallEntry → ℕ → ℕ → ℕ → Bool
reached made functions from = least functions (λ set x. x == from || list_any (λ (c : CallEntry). c.called == x && set c.holder) made)

-- the calls from whose function the function that holds them is reached
abbrev pub cycle_faults : Known → List CallEntry → List FaultAt
cycle_faults k made =
    let in_cycle : CallEntry → Bool = λ c. reached made (length k.functions) c.called c.holder in
    all_at FunctionCycle (map (λ (c : CallEntry). c.at) (filter in_cycle made))

abbrev pub module_names_faults : Source → Module → List FaultAt
module_names_faults s m =
    let k = known_of s m in
    site_faults k m
    ++ twice_in_module m
    ++ port_faults m
    ++ flat_map (λ (i : Item). branch_item_faults k m i.body) m.items
    ++ cycle_faults k (flat_map (calls_of k (in_module (accesses_of (natures_of s)) m)) (functions_of m))

-- a name of a nature that isn't declared before
abbrev pub nature_name_faults : ℕ → Option NatureEntry → List FaultAt
nature_name_faults at found = fault_if (not (is_some found)) at UnknownName

-- the items of one name of a nature: all but the first, and those whose value is of the wrong kind
abbrev pub item_faults : {T : Type 0} → (Arg → Option T) → List NatureItem → List FaultAt
item_faults given items =
    all_at TwiceDeclared (map (λ (i : NatureItem). i.at) (seconds items))
    ++ all_at WrongKind (map (λ (i : NatureItem). i.at) (filter (λ (i : NatureItem). not (is_some (given i.value))) items))

abbrev pub nature_faults : Source → Nature → List FaultAt
nature_faults s n =
    flat_map (λ (parent : NameAt). nature_name_faults parent.at (parent_of (natures_of s) n parent)) (option_to_list n.parent)
    ++ item_faults access_given (items_named (codes "access") n)
    ++ item_faults units_given (items_named (codes "units") n)

-- the items that bind the nature of one quantity
abbrev pub binding_faults : Source → List BindingEntry → List FaultAt
binding_faults s bindings =
    all_at TwiceDeclared (map (λ (b : BindingEntry). b.at) (seconds bindings))
    ++ flat_map (λ (b : BindingEntry). nature_name_faults b.nature.at (nature_before (natures_of s) b.nature)) bindings

abbrev pub discipline_item_faults : Source → Discipline → List FaultAt
discipline_item_faults s d = binding_faults s (bindings_of Potential d) ++ binding_faults s (bindings_of Flow d)

abbrev pub in_order_of_text : List NameAt → List NameAt
in_order_of_text = in_text_order (λ (n : NameAt). n.at)

-- natures, disciplines and modules are three kinds of names of the whole text
abbrev pub text_names_faults : Source → List FaultAt
text_names_faults s =
    declaration_faults (in_order_of_text (map (λ (n : Nature). record { at = n.at; name = n.name }) s.natures))
    ++ declaration_faults (in_order_of_text (map (λ (d : Discipline). record { at = d.at; name = d.name }) s.disciplines))
    ++ declaration_faults (in_order_of_text (map (λ (m : Module). record { at = m.at; name = m.name }) s.modules))

-- all faults of names
abbrev pub names_faults : Source → List FaultAt
names_faults s =
    text_names_faults s
    ++ flat_map (nature_faults s) s.natures
    ++ flat_map (discipline_item_faults s) s.disciplines
    ++ flat_map (module_names_faults s) s.modules
