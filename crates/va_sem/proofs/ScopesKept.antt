-- What holds of the variables and functions of a module holds of all that is seen in its scopes.
use Rattle.std.specs.Prelude.{ℕ, Bool, true, false, List, [], ◌∷◌, ◌++◌, map, filter, flat_map, length, Option, Some, None, if◌then◌else◌}
use Rattle.std.specs.List.{AllByRecursion}
use Rattle.std.specs.Str.{bytes_eq}
use Rattle.std.proofs.Common.{refl, inl}
use Rattle.va_tree.specs.declared.module.Parameter.{Parameter}
use Rattle.va_tree.specs.declared.module.Variable.{Variable}
use Rattle.va_tree.specs.declared.module.Item.{Item}
use Rattle.va_tree.specs.declared.module.ItemBody.{ItemBody}
use Rattle.va_tree.specs.declared.module.ItemBody.TheVariants.{Nodes, Direction, Branch, Parameters, Alias, Variables, Function, Analog}
use Rattle.va_tree.specs.declared.module.Module.{Module}
use Rattle.va_tree.specs.Statements.{Statement, statement_of}
use Rattle.va_sem.specs.Declarations.{VariableEntry, FunctionEntry, type_of_word, variable as entry_of, own_variables, block_variables, body_variables, inner_nodes, item_functions, functions_of, variables_outside_functions}
use Rattle.va_sem.specs.Lookup.{Bytes}
use Rattle.va_sem.specs.Scopes.{Thing, Declared, node, branch, parameter, variable, function, label, alias, nothing, declared_as, declared_variable, item_names, module_names, block_names, function_names, named, is_first, counting, parameter_by, alias_seen, seen_by_thing, module_scope, block_scope, is_seen_in_functions, function_scope}
use Rattle.va_sem.specs.Walks.{statements_in, label_of}
use Rattle.va_sem.proofs.Contained.{Has, all_join, all_flat_has, all_map, all_map_has, all_mapped, all_filter, has_map, has_flat, all_in_order, into_order}

-- A fact on things and their tokens that is one on variables and functions alone: it holds of all others.
pub record HoldsOfOthers (P : Thing → ℕ → Type 0) : Type 0 where
  pub of_node : (at : ℕ) → P node at
  pub of_branch : (at : ℕ) → P branch at
  pub of_parameter : (at : ℕ) → P parameter at
  pub of_label : (at : ℕ) → P label at
  pub of_alias : (target : Bytes) (at : ℕ) → P (alias target) at
  pub of_nothing : (at : ℕ) → P nothing at

module _ (P : Thing → ℕ → Type 0) where
  abbrev pub IsKept : Declared → Type 0
  IsKept d = P d.thing d.at

  abbrev pub AreKept : List Declared → Type 0
  AreKept scope = AllByRecursion IsKept scope

  abbrev pub MaybeKept : Option Declared → Type 0
  MaybeKept None = Unit {0}
  MaybeKept (Some d) = IsKept d

  found_if : (b : Bool) (d : Declared) (o : Option Declared) → IsKept d → MaybeKept o → MaybeKept (if b then Some d else o)
  found_if true d o h k = h
  found_if false d o h k = k

  pub found : (scope : List Declared) (name : Bytes) → AreKept scope → MaybeKept (named scope name)
  found [] name h = tt
  found (d ∷ scope) name h = found_if (bytes_eq d.name name) d (named scope name) h.0 (found scope name h.1)

  abbrev pub IsKeptVariable : VariableEntry → Type 0
  IsKeptVariable v = P variable v.name.at

  pub counting_kept : (names : List Declared) → AreKept names → AreKept (counting names)
  counting_kept names h = all_filter IsKept (is_first names) _ (all_filter IsKept _ names h)

  pub block_kept : (outer : List Declared) (s : Statement) → AllByRecursion IsKeptVariable (block_variables s) → AreKept outer → AreKept (block_scope outer s)
  block_kept outer s variables h =
      all_join IsKept (counting (block_names s)) outer
      (counting_kept (block_names s) (all_mapped IsKeptVariable IsKept declared_variable (λ v k. k) (block_variables s) variables)) h

  pub function_kept : (outer : List Declared) (f : FunctionEntry) → AllByRecursion IsKeptVariable (own_variables f) → AreKept outer → AreKept (function_scope outer f)
  function_kept outer f variables h =
      all_join IsKept (counting (function_names f)) (filter (λ (d : Declared). is_seen_in_functions d.thing) outer)
      (counting_kept (function_names f)
      (all_in_order (λ (d : Declared). d.at) IsKept (map declared_variable (own_variables f))
      (all_mapped IsKeptVariable IsKept declared_variable (λ v k. k) (own_variables f) variables)))
      (all_filter IsKept (λ (d : Declared). is_seen_in_functions d.thing) outer h)

  module _ (others : HoldsOfOthers P) where
    labels_kept : (s : Statement) → AreKept (map (declared_as label) (flat_map label_of (statements_in s)))
    labels_kept s = all_map IsKept (declared_as label) (flat_map label_of (statements_in s)) (λ n. others.of_label n.at)

    item_kept : (body : ItemBody) → ((f : FunctionEntry) → Has (item_functions body) f → P function f.name.at)
        → ((v : VariableEntry) → Has (body_variables body) v → P variable v.name.at) → AreKept (item_names body)
    item_kept (Direction at direction discipline names) h k = tt
    item_kept (Nodes at discipline names) h k = tt
    item_kept (Branch at first second names) h k = all_map IsKept (declared_as branch) names (λ n. others.of_branch n.at)
    item_kept (Parameters at local ty parameters) h k =
        all_map IsKept (λ (p : Parameter). declared_as parameter p.name) parameters (λ p. others.of_parameter p.name.at)
    item_kept (Alias at name target) h k = (others.of_alias target.name name.at, tt)
    item_kept (Variables declaration) h k =
        all_map_has IsKept (λ (v : Variable). declared_as variable v.name) declaration.variables
        (λ v j. k (entry_of (type_of_word declaration.ty) v) (has_map (entry_of (type_of_word declaration.ty)) declaration.variables v j))
    item_kept (Function at ty name items body) h k = (h _ (inl refl), labels_kept (statement_of body))
    item_kept (Analog at body) h k = labels_kept (statement_of body)

    alias_kept : (d : Declared) (o : Option Declared) → IsKept (alias_seen d o)
    alias_kept d None = others.of_nothing d.at
    alias_kept d (Some p) = others.of_parameter p.at

    seen_kept : (names : List Declared) (d : Declared) (t : Thing) → IsKept d → IsKept (seen_by_thing names d t)
    seen_kept names d (alias target) h = alias_kept d (parameter_by names (length names) target)
    seen_kept names d node h = h
    seen_kept names d branch h = h
    seen_kept names d parameter h = h
    seen_kept names d variable h = h
    seen_kept names d function h = h
    seen_kept names d label h = h
    seen_kept names d nothing h = h

    pub module_kept : (m : Module) → ((f : FunctionEntry) → Has (functions_of m) f → P function f.name.at)
        → ((v : VariableEntry) → Has (variables_outside_functions m) v → P variable v.name.at) → AreKept (module_scope m)
    module_kept m functions variables =
        let names = counting (module_names m) in
        let item : (i : Item) → Has m.items i → AreKept (item_names i.body) = λ i h.
        item_kept i.body
        (λ f k. functions f (into_order (λ (f : FunctionEntry). f.name.at) (flat_map (λ (i : Item). item_functions i.body) m.items) f
        (has_flat (λ (i : Item). item_functions i.body) m.items i f h k)))
        (λ v k. variables v (has_flat (λ (i : Item). body_variables i.body) m.items i v h k)) in
        all_mapped IsKept IsKept (λ (d : Declared). seen_by_thing names d d.thing) (λ d h. seen_kept names d d.thing h) names
        (counting_kept (module_names m)
        (all_in_order (λ (d : Declared). d.at) IsKept (map (declared_as node) (m.ports ++ inner_nodes m) ++ flat_map (λ (i : Item). item_names i.body) m.items)
        (all_join IsKept (map (declared_as node) (m.ports ++ inner_nodes m)) (flat_map (λ (i : Item). item_names i.body) m.items)
        (all_map IsKept (declared_as node) (m.ports ++ inner_nodes m) (λ n. others.of_node n.at))
        (all_flat_has IsKept (λ (i : Item). item_names i.body) m.items item))))
