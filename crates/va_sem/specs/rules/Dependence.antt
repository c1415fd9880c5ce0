-- Which parts of which rows depend on which unknowns: the entries of the Jacobian that are listed (`jacobian_entries` of OSDI 0.3).
-- What depends on what is this profile's own: it knows no order of statements, no values, and none of what is reached.
use Rattle.std.specs.Prelude.{ℕ, ◌+◌, ◌==◌, ◌&&◌, ◌||◌, Bool, true, false, not, List, [], ◌∷◌, ◌++◌, Option, Some, None, if◌then◌else◌, flat_map, length, get_or, slice_get}
use Rattle.std.specs.List.{list_any, enumerate_from}
use Rattle.alg_laws.specs.Least.{least}
use Rattle.alg_laws.specs.declared.number.Ty.TheVariants.{Real}
use Rattle.va_tree.specs.declared.expr.Callee.{Callee}
use Rattle.va_tree.specs.Expressions.{Expression, Arguments, literal, infinity, name, group, unary, binary, choose, call, no_more, text_then, expression_then}
use Rattle.va_sem.specs.declared.branch.Unknown.{Unknown}
use Rattle.va_sem.specs.declared.branch.Unknown.TheVariants.{Node, Branch}
use Rattle.va_sem.specs.declared.names.BranchName.{BranchName}
use Rattle.va_sem.specs.declared.names.Meaning.{Meaning}
use Rattle.va_sem.specs.declared.names.Meaning.TheVariants as means
use Rattle.va_sem.specs.declared.names.ModuleNames.{ModuleNames}
use Rattle.va_sem.specs.declared.pattern.PatternEntry.{PatternEntry}
use Rattle.va_sem.specs.Lookup.{Bytes}
use Rattle.va_sem.specs.LookedAt.{call_looks}
use Rattle.va_sem.specs.Typing.{Typing, type_of, signature_at}
use Rattle.va_sem.specs.rules.Uses.{meaning_of, is_access, is_variable_in, is_ddt, is_integer}
use Rattle.va_sem.specs.rules.Values.{Value}
use Rattle.va_sem.specs.rules.Biased.{Analysis, is_assigned_to}
use Rattle.va_sem.specs.rules.BranchKinds.{Contribution, contributions}
use Rattle.va_sem.specs.rules.Unknowns.{unknowns}

module _ (types : Typing) (meaning : ℕ → Option Meaning) where
  abbrev if_real : Expression → List Expression → List Expression
  if_real e parts = if is_integer (type_of types e) then [] else parts

  -- Whether a call depends on unknowns as its argument at a place does: a function of the module through its real arguments,
  -- any other through those that are looked at.
  abbrev depends_through : Callee → Bytes → Option Meaning → ℕ → Bool
  depends_through callee bytes (Some (means.Function function)) place = not (is_integer (get_or (signature_at types.functions function).arguments place Real))
  depends_through callee bytes _ place = call_looks callee bytes place

  -- The parts through which an expression depends on unknowns: variables, accesses and time derivatives. An integer expression
  -- depends on nothing, and `?:` depends as its arms do.
  abbrev mutual
    pub carriers : Expression → List Expression
    carriers (literal at value integer) = []
    carriers (infinity at) = []
    carriers (name at bytes) = if_real (name at bytes) (name at bytes ∷ [])
    carriers (group at inner) = carriers inner
    carriers (unary at op operand) = if_real (unary at op operand) (carriers operand)
    carriers (binary at left op right) = if_real (binary at left op right) (carriers left ++ carriers right)
    carriers (choose at test first second) = if_real (choose at test first second) (carriers first ++ carriers second)
    carriers (call at callee bytes args) =
        if_real (call at callee bytes args)
        (if is_access (meaning at) || is_ddt (meaning at) then call at callee bytes args ∷ []
        else carriers_in (depends_through callee bytes (meaning at)) 0 args)

    pub carriers_in : (ℕ → Bool) → ℕ → Arguments → List Expression
    carriers_in test place no_more = []
    carriers_in test place (text_then text rest) = carriers_in test (place + 1) rest
    carriers_in test place (expression_then e rest) = (if test place then carriers e else []) ++ carriers_in test (place + 1) rest

  -- those of the argument of a time derivative
  abbrev pub carriers_under_ddt : Expression → List Expression
  carriers_under_ddt (call at callee bytes args) = if is_ddt (meaning at) then carriers_in (λ place. true) 0 args else []
  carriers_under_ddt _ = []

abbrev pub is_node : ℕ → Option ℕ → Bool
is_node wanted (Some node) = node == wanted
is_node wanted None = false

-- whether a node is one of a branch's two
abbrev pub is_end_of : Option BranchName → ℕ → Bool
is_end_of (Some branch) node = branch.plus == node || is_node node branch.minus
is_end_of None node = false

module _ (types : Typing) (names : ModuleNames) (a : Analysis) where
  abbrev ends : ℕ → ℕ → Bool
  ends branch node = is_end_of (slice_get names.branches branch) node

  -- The potential of a branch is one of its nodes, the flow one of itself.
  abbrev pub access_depends : Unknown → ℕ → Bool → Bool
  access_depends (Node node) branch false = ends branch node
  access_depends (Branch other) branch true = branch == other
  access_depends _ branch flow = false

  -- whether a carrier depends resistively on an unknown, if the variables of a set do; a time derivative never does
  abbrev pub carries : Unknown → (ℕ → Bool) → Option Meaning → Bool
  carries u set (Some (means.Var variable)) = set variable
  carries u set (Some (means.Access branch turned flow)) = access_depends u branch flow
  carries u set _ = false

  abbrev pub is_resistive : Unknown → (ℕ → Bool) → Expression → Bool
  is_resistive u resistive e = list_any (λ part. carries u resistive (meaning_of a.meaning part)) (carriers types a.meaning e)

  -- An expression depends reactively on an unknown through a time derivative of what depends resistively on it, or through a
  -- variable that does.
  abbrev pub is_reactive : Unknown → (ℕ → Bool) → (ℕ → Bool) → Expression → Bool
  is_reactive u resistive reactive e =
      list_any (λ part.
      is_variable_in reactive (meaning_of a.meaning part)
      || list_any (λ inner. carries u resistive (meaning_of a.meaning inner)) (carriers_under_ddt types a.meaning part)) (carriers types a.meaning e)

  -- A real variable depends as the values do that are assigned to it.
  abbrev pub resistive_by : Unknown → (ℕ → Bool) → ℕ → Bool
  resistive_by u set variable =
      not (is_integer (get_or types.variables variable Real))
      && list_any (λ (v : Value). is_assigned_to a.meaning variable v.purpose && is_resistive u set v.expression) a.values

  abbrev pub reactive_by : Unknown → (ℕ → Bool) → (ℕ → Bool) → ℕ → Bool
  reactive_by u resistive set variable =
      not (is_integer (get_or types.variables variable Real))
      && list_any (λ (v : Value). is_assigned_to a.meaning variable v.purpose && is_reactive u resistive set v.expression) a.values

  abbrev pub resistive_variables : Unknown → ℕ → Bool
  resistive_variables u = least (length names.vars) (resistive_by u)

  abbrev pub reactive_variables : Unknown → ℕ → Bool
  reactive_variables u = least (length names.vars) (reactive_by u (resistive_variables u))

  -- whether a contribution adds to the row of an unknown: a flow to those of its branch's nodes, a potential to its branch's own
  abbrev adds_to : Unknown → Contribution → Bool
  adds_to (Node node) c = c.is_flow && ends c.branch node
  adds_to (Branch branch) c = not c.is_flow && c.branch == branch

  -- The row of a node has the flows of the potential branches there, and the row of a potential branch its two potentials.
  abbrev is_wired : Unknown → Unknown → Bool
  is_wired (Node node) (Branch branch) = ends branch node
  is_wired (Branch branch) (Node node) = ends branch node
  is_wired _ _ = false

  -- the entry of a row and a column
  abbrev entry_at : ℕ × Unknown → ℕ × Unknown → PatternEntry
  entry_at (i, row) (j, column) =
      let resistive = resistive_variables column in
      let reactive = reactive_variables column in
      record {
        row = i;
        col = j;
        resist = is_wired row column || list_any (λ c. adds_to row c && is_resistive column resistive c.value) (contributions a);
        react = list_any (λ c. adds_to row c && is_reactive column resistive reactive c.value) (contributions a);
      }

  abbrev if_listed : PatternEntry → List PatternEntry
  if_listed entry = if entry.resist || entry.react then entry ∷ [] else []

  -- the entries that are listed, by row and then by column
  abbrev pub pattern : List PatternEntry
  pattern =
      let all = enumerate_from 0 (unknowns names a) in
      flat_map (λ row. flat_map (λ column. if_listed (entry_at row column)) all) all
