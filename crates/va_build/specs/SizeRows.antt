-- How deep what stands below a row of the grammar is: definitions that the contracts of this crate's own functions cite. No public
-- contract names them.
use Rattle.std.specs.Prelude.{ℕ, ◌+◌, ◌==◌, ◌||◌, ◌&&◌, not, Bool, if◌then◌else◌, List, [], ◌∷◌, ◌++◌, Option, None, map, flat_map}
use Rattle.predict.specs.declared.symbol.Symbol.{Symbol}
use Rattle.predict.specs.declared.symbol.Symbol.TheVariants.{Kind, Left}
use Rattle.predict.specs.declared.tree.ParseNode.{ParseNode}
use Rattle.predict.specs.Tree.{Tree, node, no_parts, token, subtree}
use Rattle.va_base.specs.declared.expanded.Expanded.{Expanded}
use Rattle.va_tree.specs.declared.module.Module.{Module}
use Rattle.va_tree.specs.declared.source.Attribute.{Attribute}
use Rattle.va_tree.specs.declared.source.AttributeGroup.{AttributeGroup}
use Rattle.va_tree.specs.declared.source.Discipline.{Discipline}
use Rattle.va_tree.specs.declared.source.Nature.{Nature}
use Rattle.va_tree.specs.declared.source.Discipline.{Discipline}
use Rattle.va_tree.specs.declared.source.Nature.{Nature}
use Rattle.va_tree.specs.declared.source.Discipline.{Discipline}
use Rattle.va_tree.specs.declared.source.Nature.{Nature}
use Rattle.va_tree.specs.declared.source.NatureItem.{NatureItem}
use Rattle.va_tree.specs.declared.source.Quantity.TheVariants.{Potential}
use Rattle.va_tree.specs.Declarations.{if_there}
use Rattle.va_tree.specs.Expressions.{expression_of}
use Rattle.va_tree.specs.Parts.{argument_parts, attribute_parts, attributes_parts, nature_parts, discipline_item_parts, discipline_parts, range_parts, parameter_parts, body_parts, item_parts, module_parts}
use Rattle.va_grammar.specs.declared.nonterminal.Nonterminal.{Nonterminal}
use Rattle.va_grammar.specs.declared.nonterminal.Nonterminal.TheVariants as left
use Rattle.va_build.specs.declared.size_rules.Rule.{Rule}
use Rattle.va_build.specs.declared.size_rules.Rule.TheVariants.{Passes, Opens, Chains, Follows, Chooses}
use Rattle.va_build.specs.declared.size_rules.Due.{Due}
use Rattle.va_grammar.specs.Nonterminals.{nonterminal_number}
use Rattle.va_build.specs.Reading.{first_tree, later_trees, trees_of}
use Rattle.va_build.specs.SizeDeep.{earlier, if_deep, deep_row, deep_expression, deep_arguments, deep_argument, deep_values, deep_variables, deep_declarations, deep_statement, deep_statements, deep_else, deep_items, deep_defaults, deep_parts}
use Rattle.va_build.specs.SourceExpressions.{argument, arguments, more_arguments, expression, operand, primary}
use Rattle.va_build.specs.SourceStatements.{initialiser, variable, more_variables, variables, declaration, declarations, more_values, task_arguments, statement, statements, else_branch, case_items, case_item, case_defaults, case_default}
use Rattle.va_build.specs.SourceItems.{attribute_value, attribute, more_attributes, attribute_groups, interval, exclusion, ranges, parameter, more_parameters, parameters, analog, item_body}
use Rattle.va_build.specs.SourceOf.{nature_items, nature, binding, discipline_item, discipline_items, discipline_of, item, items, module_of, of_sort, all_of_sort}
use Rattle.va_build.specs.Width.{width}

-- how many operators a tail has
abbrev pub operators : Tree → ℕ
operators (node row (token operator (subtree right (subtree rest no_parts)))) = operators rest + 1
operators others = 0

-- 1 for `?` with its two values, else 0
abbrev pub choices : Tree → ℕ
choices (node row (token question (subtree a (token colon (subtree b no_parts))))) = 1
choices others = 0

-- How many operators stand behind the first operand of a tree, or in a tail; of an expression, whether `?` stands behind its test.
abbrev pub links : Tree → ℕ
links (node row (subtree first (subtree tail no_parts))) = if row == 131 then choices tail else operators tail
links (node row (token operator (subtree right (subtree rest no_parts)))) = operators rest + 1
links others = 0

-- whether a number is that of a nonterminal
abbrev pub is_left : ℕ → Nonterminal → Bool
is_left l nonterminal = l == nonterminal_number nonterminal

-- whether a node begins with the row: of a statement, of a sign, or of what stands alone in an expression
abbrev pub does_open : ℕ → ℕ → Bool
does_open l row = is_left l left.Statement || is_left l left.Primary || (is_left l left.Unary && not (row == 165))

-- whether it holds operands and operators between them, or a test and its choice
abbrev pub does_chain : ℕ → Bool
does_chain l = is_left l left.Expression || is_left l left.Or || is_left l left.And || is_left l left.Equality || is_left l left.Relation || is_left l left.Sum || is_left l left.Product || is_left l left.Power

-- whether it holds operators and their right operands
abbrev pub does_follow : ℕ → Bool
does_follow l = is_left l left.OrTail || is_left l left.AndTail || is_left l left.EqualityTail || is_left l left.RelationTail || is_left l left.SumTail || is_left l left.ProductTail || is_left l left.PowerTail

-- What a row does to the depth. A chain of operators has a node for each of them, and its first operand is the deepest.
abbrev pub rule_of : ℕ → ℕ → Rule
rule_of l row = if does_open l row then Opens else (if does_chain l then Chains else (if does_follow l then Follows else (if is_left l left.ConditionalTail then Chooses else Passes)))

-- the lowest index of a node of depth 501 among those that begin with a row, where its depth is this one and its links are so many
abbrev pub deep_opened : Rule → ℕ → ℕ → ℕ → Option ℕ
deep_opened Passes at depth links = None
deep_opened Opens at depth links = if_deep at depth
deep_opened Chains at depth links = deep_row at depth links
deep_opened Follows at depth links = None
deep_opened Chooses at depth links = None

-- the depth of its parts, but for the last
abbrev pub depth_below : Rule → ℕ → ℕ → ℕ
depth_below Passes depth links = depth
depth_below Opens depth links = depth + 1
depth_below Chains depth links = depth + links
depth_below Follows depth links = depth + links
depth_below Chooses depth links = depth + 1

-- the depth of its last part
abbrev pub depth_last : Rule → ℕ → ℕ
depth_last Passes depth = depth
depth_last Opens depth = depth + 1
depth_last Chains depth = depth
depth_last Follows depth = depth
depth_last Chooses depth = depth + 1

abbrev pub due : Symbol → ℕ → Due
due symbol depth = record { symbol = symbol; depth = depth }

-- the symbols of a row with the depths of their trees: the last has one, all others have another
abbrev pub dues : List Symbol → ℕ → ℕ → List Due
dues [] depth last = []
dues (symbol ∷ []) depth last = due symbol last ∷ []
dues (symbol ∷ next ∷ more) depth last = due symbol depth ∷ dues (next ∷ more) depth last

-- ConditionalTail: both values are one deeper than the choice
abbrev pub deep_choices : Expanded → ℕ → ℕ → Tree → Option ℕ
deep_choices e depth at (node row (token question (subtree a (token colon (subtree b no_parts))))) = earlier (deep_expression (depth + 1) (expression e (at + 1) a)) (deep_expression (depth + 1) (expression e (at + 1 + width a + 1) b))
deep_choices e depth at others = None

-- a tail: the right operands, each as deep as operators stand at it and behind it
abbrev pub deep_tail : Expanded → ℕ → ℕ → Tree → Option ℕ
deep_tail e depth at (node row (token operator (subtree right (subtree rest no_parts)))) = earlier (deep_expression (depth + (operators rest + 1)) (operand e (at + 1) right)) (deep_tail e depth (at + 1 + width right) rest)
deep_tail e depth at others = None

-- CallArguments
abbrev pub deep_call : Expanded → ℕ → ℕ → Tree → Option ℕ
deep_call e depth at (node row (token left_ (subtree inner (token close no_parts)))) = deep_arguments depth (arguments e (at + 1) inner)
deep_call e depth at others = None

-- ExclusionRest: the upper bound
abbrev pub deep_upper : Expanded → ℕ → ℕ → Tree → Option ℕ
deep_upper e depth at (node row (token colon (subtree high (subtree upper no_parts)))) = deep_expression depth (expression e (at + 1) high)
deep_upper e depth at others = None

-- StatementRest: the value
abbrev pub deep_named : Expanded → ℕ → ℕ → Tree → Option ℕ
deep_named e depth at (node row (token equals (subtree value (token semicolon no_parts)))) = deep_expression depth (expression e (at + 1) value)
deep_named e depth at (node row (token left_ (token first (subtree second (token close (token contributes (subtree value (token semicolon no_parts)))))))) = deep_expression depth (expression e (at + 2 + width second + 2) value)
deep_named e depth at others = None

abbrev pub name_index : Module → ℕ
name_index m = m.at

-- natures, disciplines and modules
abbrev pub deep_top : ℕ → List Nature → List Discipline → List Module → Option ℕ
deep_top depth natures disciplines modules = earlier (deep_parts depth (flat_map nature_parts natures)) (earlier (deep_parts depth (flat_map discipline_parts disciplines)) (deep_parts depth (flat_map module_parts modules)))

-- TopItemBody: the declaration, without its attributes, where it is of a sort
abbrev pub bare_declaration : {X : Type 0} → (Expanded → List AttributeGroup → ℕ → Tree → List X) → Expanded → ℕ → Tree → List X
bare_declaration sort e at (node row (subtree declaration no_parts)) = sort e [] at declaration
bare_declaration sort e at others = []

-- The lowest index at which a node of depth 501 begins in a tree of a nonterminal, where its outermost nodes have this depth. Names
-- and what has names alone hold no nodes.
unfoldable pub deep_in : Expanded → ℕ → ℕ → ℕ → Tree → Option ℕ
deep_in e l depth at t =
    if is_left l left.Source then deep_top depth (all_of_sort nature e at t) (all_of_sort discipline_of e at t) (all_of_sort module_of e at t)
    else (if is_left l left.TopItem then deep_top depth (of_sort nature e at t) (of_sort discipline_of e at t) (of_sort module_of e at t)
    else (if is_left l left.TopItemBody then deep_top depth (bare_declaration nature e at t) (bare_declaration discipline_of e at t) (bare_declaration module_of e at t)
    else (if is_left l left.Attributes then deep_parts depth (attributes_parts (attribute_groups e at t))
    else (if is_left l left.MoreAttributes then deep_parts depth (flat_map (λ (a : Attribute). attribute_parts a.value) (more_attributes e at t))
    else (if is_left l left.Attribute then deep_parts depth (flat_map (λ (a : Attribute). attribute_parts a.value) (attribute e at t))
    else (if is_left l left.AttributeValue then deep_parts depth (attribute_parts (attribute_value e at t))
    else (if is_left l left.Argument then deep_argument depth (argument e at t)
    else (if is_left l left.NatureDeclaration then deep_parts depth (flat_map nature_parts (nature e [] at t))
    else (if is_left l left.NatureItems then deep_parts depth (flat_map (λ (i : NatureItem). argument_parts i.value) (nature_items e at t))
    else (if is_left l left.DisciplineDeclaration then deep_parts depth (flat_map discipline_parts (discipline_of e [] at t))
    else (if is_left l left.DisciplineItems then deep_parts depth (flat_map discipline_item_parts (discipline_items e at t))
    else (if is_left l left.DisciplineItem then deep_parts depth (discipline_item_parts (discipline_item e at t))
    else (if is_left l left.NatureBinding then deep_parts depth (discipline_item_parts (binding e at Potential at t))
    else (if is_left l left.ModuleDeclaration then deep_parts depth (flat_map module_parts (module_of e [] at t))
    else (if is_left l left.Items then deep_parts depth (flat_map item_parts (items e at t))
    else (if is_left l left.Item then deep_parts depth (flat_map item_parts (item e at t))
    else (if is_left l left.ItemBody then deep_parts depth (flat_map body_parts (item_body e at t))
    else (if is_left l left.ParameterAssignments then deep_parts depth (flat_map parameter_parts (parameters e at t))
    else (if is_left l left.MoreParameterAssignments then deep_parts depth (flat_map parameter_parts (more_parameters e at t))
    else (if is_left l left.ParameterAssignment then deep_parts depth (flat_map parameter_parts (parameter e at t))
    else (if is_left l left.Ranges then deep_parts depth (flat_map range_parts (ranges e at t))
    else (if is_left l left.Interval then deep_parts depth (flat_map range_parts (interval e at t))
    else (if is_left l left.Exclusion then deep_parts depth (flat_map range_parts (exclusion e at t))
    else (if is_left l left.ExclusionRest then deep_upper e depth at t
    else (if is_left l left.Variables then deep_variables depth (variables e at t)
    else (if is_left l left.MoreVariables then deep_variables depth (more_variables e at t)
    else (if is_left l left.Variable then deep_variables depth (variable e at t)
    else (if is_left l left.Initialiser then deep_values depth (if_there (initialiser e at t))
    else (if is_left l left.AnalogItem then deep_parts depth (body_parts (analog e at at t))
    else (if is_left l left.Statement then deep_statement depth (statement e at t)
    else (if is_left l left.Declarations then deep_declarations depth (declarations e at t)
    else (if is_left l left.Declaration then deep_declarations depth (declaration e at t)
    else (if is_left l left.Statements then deep_statements depth (statements e at t)
    else (if is_left l left.ElseBranch then deep_else depth (else_branch e at t)
    else (if is_left l left.CaseItems then earlier (deep_items depth (case_items e at t)) (deep_defaults depth (case_defaults e at t))
    else (if is_left l left.CaseItem then earlier (deep_items depth (case_item e at t)) (deep_defaults depth (case_default e at t))
    else (if is_left l left.MoreCaseValues then deep_values depth (map expression_of (more_values e at t))
    else (if is_left l left.StatementRest then deep_named e depth at t
    else (if is_left l left.TaskArguments then deep_arguments depth (task_arguments e at t)
    else (if is_left l left.Arguments then deep_arguments depth (arguments e at t)
    else (if is_left l left.MoreArguments then deep_arguments depth (more_arguments e at t)
    else (if is_left l left.Expression then deep_expression depth (expression e at t)
    else (if is_left l left.ConditionalTail then deep_choices e depth at t
    else (if is_left l left.Or then deep_expression depth (operand e at t)
    else (if is_left l left.OrTail then deep_tail e depth at t
    else (if is_left l left.And then deep_expression depth (operand e at t)
    else (if is_left l left.AndTail then deep_tail e depth at t
    else (if is_left l left.Equality then deep_expression depth (operand e at t)
    else (if is_left l left.EqualityTail then deep_tail e depth at t
    else (if is_left l left.Relation then deep_expression depth (operand e at t)
    else (if is_left l left.RelationTail then deep_tail e depth at t
    else (if is_left l left.Sum then deep_expression depth (operand e at t)
    else (if is_left l left.SumTail then deep_tail e depth at t
    else (if is_left l left.Product then deep_expression depth (operand e at t)
    else (if is_left l left.ProductTail then deep_tail e depth at t
    else (if is_left l left.Power then deep_expression depth (operand e at t)
    else (if is_left l left.PowerTail then deep_tail e depth at t
    else (if is_left l left.Unary then deep_expression depth (operand e at t)
    else (if is_left l left.Primary then deep_expression depth (primary e at t)
    else (if is_left l left.CallArguments then deep_call e depth at t
    else None))))))))))))))))))))))))))))))))))))))))))))))))))))))))))))

-- the indices of the names of modules in a tree of a nonterminal
unfoldable pub modules_in : Expanded → ℕ → ℕ → Tree → List ℕ
modules_in e l at t =
    if is_left l left.Source then map name_index (all_of_sort module_of e at t)
    else (if is_left l left.TopItem then map name_index (of_sort module_of e at t)
    else (if is_left l left.TopItemBody then map name_index (bare_declaration module_of e at t)
    else (if is_left l left.ModuleDeclaration then map name_index (module_of e [] at t)
    else [])))

-- the index of the name of a module that begins with a row
abbrev pub name_opened : ℕ → ℕ → List ℕ
name_opened l at = if is_left l left.ModuleDeclaration then (at + 1) ∷ [] else []

-- by whether a symbol is a kind or a nonterminal
abbrev pub by_symbol : {X : Type 0} → Symbol → X → (ℕ → X) → X
by_symbol (Kind k) a b = a
by_symbol (Left l) a b = b l

-- the lowest index at which a node of depth 501 begins in what is due, by the trees that are left to read
abbrev pub deep_due : Expanded → List Due → ℕ → List Tree → Option ℕ
deep_due e [] at ts = None
deep_due e (d ∷ more) at ts = by_symbol d.symbol (deep_due e more (at + 1) ts) (λ l. earlier (deep_in e l d.depth at (first_tree ts)) (deep_due e more (at + width (first_tree ts)) (later_trees ts)))

-- the indices of the names of modules in what is due
abbrev pub modules_due : Expanded → List Due → ℕ → List Tree → List ℕ
modules_due e [] at ts = []
modules_due e (d ∷ more) at ts = by_symbol d.symbol (modules_due e more (at + 1) ts) (λ l. modules_in e l at (first_tree ts) ++ modules_due e more (at + width (first_tree ts)) (later_trees ts))

-- what is behind each tree that begins with one of these nodes
abbrev pub links_of : List ParseNode → List ℕ
links_of [] = []
links_of (n ∷ nodes) = links (first_tree (trees_of (n ∷ nodes))) ∷ links_of nodes
