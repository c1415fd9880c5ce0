-- The lowest index at which a node of depth 501 begins, in several parts.
use Rattle.std.specs.Prelude.{◌≡◌, ℕ, List, [], ◌∷◌, ◌++◌, Option, Some, None, refl, map, flat_map}
use Rattle.std.proofs.Common.{ap, sym, ◌∙◌, arith}
use Rattle.va_build.specs.SizeDeep.{earlier, first_deep, if_deep, nodes_from, deep_values, deep_variables, deep_declarations, deep_items, deep_defaults, deep_parts, deep_argument, deep_arguments}
use Rattle.va_tree.specs.Declarations.{if_there, initialisers, declared}
use Rattle.va_tree.specs.Expressions.{Expression, expression_of, arguments_of}
use Rattle.va_tree.specs.Nodes.{Node, nodes_of, nodes_of_arguments, nodes_of_statement, nodes_of_items, nodes_of_defaults}
use Rattle.va_tree.specs.Parts.{Part, expression, argument_parts}
use Rattle.va_tree.specs.Statements.{statement_of, items_of, defaults_of}
use Rattle.va_tree.specs.declared.expr.Arg.{Arg}
use Rattle.va_tree.specs.declared.expr.Arg.TheVariants as arg
use Rattle.va_tree.specs.declared.module.Declaration.{Declaration}
use Rattle.va_tree.specs.declared.module.Variable.{Variable}
use Rattle.va_tree.specs.declared.stmt.CaseDefault.{CaseDefault}
use Rattle.va_tree.specs.declared.stmt.CaseItem.{CaseItem}

pub earlier_none : (a : Option ℕ) → earlier a None ≡ a
earlier_none None = refl
earlier_none (Some a) = refl

pub earlier_assoc : (a b c : Option ℕ) → earlier (earlier a b) c ≡ earlier a (earlier b c)
earlier_assoc None b c = refl
earlier_assoc (Some a) None c = refl
earlier_assoc (Some a) (Some b) None = refl
earlier_assoc (Some a) (Some b) (Some c) = ap Some (omega arith)

pub earlier_comm : (a b : Option ℕ) → earlier a b ≡ earlier b a
earlier_comm None None = refl
earlier_comm None (Some b) = refl
earlier_comm (Some a) None = refl
earlier_comm (Some a) (Some b) = ap Some (omega arith)

-- the second and the third of four change places
pub earlier_swap : (a b c d : Option ℕ) → earlier (earlier a b) (earlier c d) ≡ earlier (earlier a c) (earlier b d)
earlier_swap a b c d =
    earlier_assoc a b (earlier c d)
    ∙ ap (earlier a) (sym (earlier_assoc b c d) ∙ ap (λ (x : Option ℕ). earlier x d) (earlier_comm b c) ∙ earlier_assoc c b d)
    ∙ sym (earlier_assoc a c (earlier b d))

-- None stands behind the last of several
pub ends_one : (a b : Option ℕ) → a ≡ b → a ≡ earlier b None
ends_one a b p = p ∙ sym (earlier_none b)

pub ends_two : (a b c : Option ℕ) → a ≡ earlier b c → a ≡ earlier b (earlier c None)
ends_two a b c p = p ∙ ap (earlier b) (sym (earlier_none c))

pub ends_three : (a b c d : Option ℕ) → a ≡ earlier b (earlier c d) → a ≡ earlier b (earlier c (earlier d None))
ends_three a b c d p = p ∙ ap (λ (x : Option ℕ). earlier b (earlier c x)) (sym (earlier_none d))

pub ends_four : (a b c d f : Option ℕ) → a ≡ earlier b (earlier c (earlier d f)) → a ≡ earlier b (earlier c (earlier d (earlier f None)))
ends_four a b c d f p = p ∙ ap (λ (x : Option ℕ). earlier b (earlier c (earlier d x))) (sym (earlier_none f))

pub ends_five : (a b c d f g : Option ℕ) → a ≡ earlier b (earlier c (earlier d (earlier f g))) → a ≡ earlier b (earlier c (earlier d (earlier f (earlier g None))))
ends_five a b c d f g p = p ∙ ap (λ (x : Option ℕ). earlier b (earlier c (earlier d (earlier f x)))) (sym (earlier_none g))

pub deep_two : (xs ys : List Node) → first_deep (xs ++ ys) ≡ earlier (first_deep xs) (first_deep ys)
deep_two [] ys = refl
deep_two (x ∷ xs) ys = ap (earlier (if_deep x.at x.depth)) (deep_two xs ys) ∙ sym (earlier_assoc (if_deep x.at x.depth) (first_deep xs) (first_deep ys))

pub deep_three : (xs ys zs : List Node) → first_deep ((xs ++ ys) ++ zs) ≡ earlier (first_deep xs) (earlier (first_deep ys) (first_deep zs))
deep_three xs ys zs = deep_two (xs ++ ys) zs ∙ ap (λ (o : Option ℕ). earlier o (first_deep zs)) (deep_two xs ys) ∙ earlier_assoc (first_deep xs) (first_deep ys) (first_deep zs)

pub deep_four : (xs ys zs ws : List Node) → first_deep (((xs ++ ys) ++ zs) ++ ws) ≡ earlier (first_deep xs) (earlier (first_deep ys) (earlier (first_deep zs) (first_deep ws)))
deep_four xs ys zs ws =
    deep_two ((xs ++ ys) ++ zs) ws
    ∙ ap (λ (o : Option ℕ). earlier o (first_deep ws)) (deep_three xs ys zs)
    ∙ earlier_assoc (first_deep xs) (earlier (first_deep ys) (first_deep zs)) (first_deep ws)
    ∙ ap (earlier (first_deep xs)) (earlier_assoc (first_deep ys) (first_deep zs) (first_deep ws))

-- of expressions
pub values_append : (depth : ℕ) (xs ys : List Expression) → deep_values depth (xs ++ ys) ≡ earlier (deep_values depth xs) (deep_values depth ys)
values_append depth [] ys = refl
values_append depth (x ∷ xs) ys =
    deep_two (nodes_of depth x) (flat_map (nodes_of depth) (xs ++ ys))
    ∙ ap (earlier (first_deep (nodes_of depth x))) (values_append depth xs ys)
    ∙ sym (earlier_assoc (first_deep (nodes_of depth x)) (deep_values depth xs) (deep_values depth ys))
    ∙ ap (λ (o : Option ℕ). earlier o (deep_values depth ys)) (sym (deep_two (nodes_of depth x) (flat_map (nodes_of depth) xs)))

pub value_then : (depth : ℕ) (x : Expression) (xs : List Expression) → deep_values depth (x ∷ xs) ≡ earlier (first_deep (nodes_of depth x)) (deep_values depth xs)
value_then depth x xs = deep_two (nodes_of depth x) (flat_map (nodes_of depth) xs)

pub value_alone : (depth : ℕ) (x : Expression) → deep_values depth (x ∷ []) ≡ first_deep (nodes_of depth x)
value_alone depth x = value_then depth x [] ∙ earlier_none (first_deep (nodes_of depth x))

-- of variables and declarations
pub variables_append : (depth : ℕ) (xs ys : List Variable) → deep_variables depth (xs ++ ys) ≡ earlier (deep_variables depth xs) (deep_variables depth ys)
variables_append depth [] ys = refl
variables_append depth (x ∷ xs) ys =
    values_append depth (if_there x.initialiser) (initialisers (xs ++ ys))
    ∙ ap (earlier (deep_values depth (if_there x.initialiser))) (variables_append depth xs ys)
    ∙ sym (earlier_assoc (deep_values depth (if_there x.initialiser)) (deep_variables depth xs) (deep_variables depth ys))
    ∙ ap (λ (o : Option ℕ). earlier o (deep_variables depth ys)) (sym (values_append depth (if_there x.initialiser) (initialisers xs)))

pub declarations_append : (depth : ℕ) (xs ys : List Declaration) → deep_declarations depth (xs ++ ys) ≡ earlier (deep_declarations depth xs) (deep_declarations depth ys)
declarations_append depth [] ys = refl
declarations_append depth (x ∷ xs) ys =
    values_append depth (initialisers x.variables) (declared (xs ++ ys))
    ∙ ap (earlier (deep_values depth (initialisers x.variables))) (declarations_append depth xs ys)
    ∙ sym (earlier_assoc (deep_values depth (initialisers x.variables)) (deep_declarations depth xs) (deep_declarations depth ys))
    ∙ ap (λ (o : Option ℕ). earlier o (deep_declarations depth ys)) (sym (values_append depth (initialisers x.variables) (declared xs)))

-- of the items and defaults of a `case`
pub item_then_deep : (depth : ℕ) (x : CaseItem) (xs : List CaseItem) → deep_items depth (x ∷ xs) ≡ earlier (deep_values depth (map expression_of x.values)) (earlier (first_deep (nodes_of_statement depth (statement_of x.body))) (deep_items depth xs))
item_then_deep depth x xs = deep_three (flat_map (nodes_of depth) (map expression_of x.values)) (nodes_of_statement depth (statement_of x.body)) (nodes_of_items depth (items_of xs))

pub items_append : (depth : ℕ) (xs ys : List CaseItem) → deep_items depth (xs ++ ys) ≡ earlier (deep_items depth xs) (deep_items depth ys)
items_append depth [] ys = refl
items_append depth (x ∷ xs) ys =
    let v : Option ℕ = deep_values depth (map expression_of x.values) in
    let s : Option ℕ = first_deep (nodes_of_statement depth (statement_of x.body)) in
    item_then_deep depth x (xs ++ ys)
    ∙ ap (λ (o : Option ℕ). earlier v (earlier s o)) (items_append depth xs ys)
    ∙ ap (earlier v) (sym (earlier_assoc s (deep_items depth xs) (deep_items depth ys)))
    ∙ sym (earlier_assoc v (earlier s (deep_items depth xs)) (deep_items depth ys))
    ∙ ap (λ (o : Option ℕ). earlier o (deep_items depth ys)) (sym (item_then_deep depth x xs))

pub default_then_deep : (depth : ℕ) (x : CaseDefault) (xs : List CaseDefault) → deep_defaults depth (x ∷ xs) ≡ earlier (first_deep (nodes_of_statement depth (statement_of x.body))) (deep_defaults depth xs)
default_then_deep depth x xs = deep_two (nodes_of_statement depth (statement_of x.body)) (nodes_of_defaults depth (defaults_of xs))

pub defaults_append : (depth : ℕ) (xs ys : List CaseDefault) → deep_defaults depth (xs ++ ys) ≡ earlier (deep_defaults depth xs) (deep_defaults depth ys)
defaults_append depth [] ys = refl
defaults_append depth (x ∷ xs) ys =
    let s : Option ℕ = first_deep (nodes_of_statement depth (statement_of x.body)) in
    default_then_deep depth x (xs ++ ys)
    ∙ ap (earlier s) (defaults_append depth xs ys)
    ∙ sym (earlier_assoc s (deep_defaults depth xs) (deep_defaults depth ys))
    ∙ ap (λ (o : Option ℕ). earlier o (deep_defaults depth ys)) (sym (default_then_deep depth x xs))

-- of outermost statements and expressions
pub parts_append : (depth : ℕ) (xs ys : List Part) → deep_parts depth (xs ++ ys) ≡ earlier (deep_parts depth xs) (deep_parts depth ys)
parts_append depth [] ys = refl
parts_append depth (x ∷ xs) ys =
    deep_two (nodes_from depth x) (flat_map (nodes_from depth) (xs ++ ys))
    ∙ ap (earlier (first_deep (nodes_from depth x))) (parts_append depth xs ys)
    ∙ sym (earlier_assoc (first_deep (nodes_from depth x)) (deep_parts depth xs) (deep_parts depth ys))
    ∙ ap (λ (o : Option ℕ). earlier o (deep_parts depth ys)) (sym (deep_two (nodes_from depth x) (flat_map (nodes_from depth) xs)))

pub part_then : (depth : ℕ) (x : Part) (xs : List Part) → deep_parts depth (x ∷ xs) ≡ earlier (first_deep (nodes_from depth x)) (deep_parts depth xs)
part_then depth x xs = deep_two (nodes_from depth x) (flat_map (nodes_from depth) xs)

pub part_alone : (depth : ℕ) (x : Part) → deep_parts depth (x ∷ []) ≡ first_deep (nodes_from depth x)
part_alone depth x = part_then depth x [] ∙ earlier_none (first_deep (nodes_from depth x))

pub parts_of_each : {X : Type 0} (depth : ℕ) (parts : X → List Part) (xs ys : List X) → deep_parts depth (flat_map parts (xs ++ ys)) ≡ earlier (deep_parts depth (flat_map parts xs)) (deep_parts depth (flat_map parts ys))
parts_of_each depth parts [] ys = refl
parts_of_each depth parts (x ∷ xs) ys =
    parts_append depth (parts x) (flat_map parts (xs ++ ys))
    ∙ ap (earlier (deep_parts depth (parts x))) (parts_of_each depth parts xs ys)
    ∙ sym (earlier_assoc (deep_parts depth (parts x)) (deep_parts depth (flat_map parts xs)) (deep_parts depth (flat_map parts ys)))
    ∙ ap (λ (o : Option ℕ). earlier o (deep_parts depth (flat_map parts ys))) (sym (parts_append depth (parts x) (flat_map parts xs)))

pub parts_of_one : {X : Type 0} (depth : ℕ) (parts : X → List Part) (x : X) → deep_parts depth (flat_map parts (x ∷ [])) ≡ deep_parts depth (parts x)
parts_of_one depth parts x = parts_append depth (parts x) [] ∙ earlier_none (deep_parts depth (parts x))

pub parts_of_values : (depth : ℕ) (xs : List Expression) → deep_parts depth (map expression xs) ≡ deep_values depth xs
parts_of_values depth [] = refl
parts_of_values depth (x ∷ xs) = part_then depth (expression x) (map expression xs) ∙ ap (earlier (first_deep (nodes_of depth x))) (parts_of_values depth xs) ∙ sym (value_then depth x xs)

pub parts_of_argument : (depth : ℕ) (a : Arg) → deep_parts depth (argument_parts a) ≡ deep_argument depth a
parts_of_argument depth (arg.Text text) = refl
parts_of_argument depth (arg.Expr e) = part_alone depth (expression (expression_of e))

pub argument_then : (depth : ℕ) (a : Arg) (rest : List Arg) → deep_arguments depth (a ∷ rest) ≡ earlier (deep_argument depth a) (deep_arguments depth rest)
argument_then depth (arg.Text text) rest = refl
argument_then depth (arg.Expr e) rest = deep_two (nodes_of depth (expression_of e)) (nodes_of_arguments depth (arguments_of rest))
