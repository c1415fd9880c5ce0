-- The list of types is as long as that of expressions.
use Rattle.std.specs.Prelude.{◌≡◌, ◌+◌, ℕ, suc, Bool, true, false, List, [], ◌∷◌, ◌++◌, length, flat_map, zip, if◌then◌else◌}
use Rattle.std.proofs.Common.{refl, ap, sym, ◌∙◌, arith}
use Rattle.std.proofs.lemmas.List.{length-append, length-map}
use Rattle.std.proofs.lemmas.Grind.{flat_map-append}
use Rattle.alg_laws.specs.declared.number.Ty.{Ty}
use Rattle.alg_laws.specs.declared.number.Ty.TheVariants.{Real}
use Rattle.va_tree.specs.declared.module.Item.{Item}
use Rattle.va_tree.specs.declared.module.Module.{Module}
use Rattle.va_tree.specs.Expressions.{Expression, Arguments, literal, infinity, name, group, unary, binary, choose, call, no_more, text_then, expression_then}
use Rattle.va_tree.specs.Declarations.{declared}
use Rattle.va_tree.specs.Parts.{Part, expression, statement, nature_parts, discipline_parts, module_parts, item_parts, attributes_parts, body_parts}
use Rattle.va_tree.specs.Preorder.{expressions_in, expressions_in_arguments, expressions_of_statement, expressions_of_statements, expressions_of_items, expressions_of_defaults, expressions_of_part}
use Rattle.va_tree.specs.Statements.{Statement, Statements, Items, Defaults, null, block, only_if, if_else, cases, for_loop, while_loop, repeat_loop, event, assign, contribute, task, no_more as no_statement, statement_then, no_items, item_then, no_defaults, default_then}
use Rattle.va_sem.specs.declared.names.ModuleNames.{ModuleNames}
use Rattle.va_sem.specs.LookedAt.{call_looks}
use Rattle.va_sem.specs.Meanings.{names_of}
use Rattle.va_sem.specs.Typing.{Typing, typing_of, all_real, types_in, types_in_arguments, types_in_statement, types_in_statements, types_in_items, types_in_defaults, types_in_part, no_types, types_in_item, types_in_module}
use Rattle.va_sem.specs.TypingLaws.{EachHasAType}
use Rattle.va_sem.proofs.Modules.{modules_named}

joined : (a b : List Ty) (c d : List Expression) → length a ≡ length c → length b ≡ length d → length (a ++ b) ≡ length (c ++ d)
joined a b c d p q = length-append a b ∙ (λ j. p j + q j) ∙ sym (length-append c d)

first_too : (a : List Ty) (c : List Expression) → length a ≡ length c → suc (length a) ≡ suc (length c)
first_too a c p = ap suc p

reals : (es : List Expression) → length (all_real es) ≡ length es
reals es = length-map es (λ (e : Expression). Real)

either_list : (b : Bool) (a c : List Ty) (es : List Expression) → length a ≡ length es → length c ≡ length es → length (if b then a else c) ≡ length es
either_list true a c es p q = p
either_list false a c es p q = q

each_list : {X : Type 0} (f : X → List Ty) (g : X → List Expression) → ((x : X) → length (f x) ≡ length (g x)) → (xs : List X) → length (flat_map f xs) ≡ length (flat_map g xs)
each_list f g same [] = refl
each_list f g same (x ∷ xs) = joined (f x) (flat_map f xs) (g x) (flat_map g xs) (same x) (each_list f g same xs)

mutual
  of_expression : (t : Typing) (e : Expression) → length (types_in t e) ≡ length (expressions_in e)
  of_expression t (literal at value integer) = refl
  of_expression t (infinity at) = refl
  of_expression t (name at bytes) = refl
  of_expression t (group at inner) = first_too (types_in t inner) (expressions_in inner) (of_expression t inner)
  of_expression t (unary at op operand) = first_too (types_in t operand) (expressions_in operand) (of_expression t operand)
  of_expression t (binary at left op right) =
      first_too (types_in t left ++ types_in t right) (expressions_in left ++ expressions_in right)
      (joined (types_in t left) (types_in t right) (expressions_in left) (expressions_in right) (of_expression t left) (of_expression t right))
  of_expression t (choose at test a b) =
      first_too (types_in t test ++ types_in t a ++ types_in t b) (expressions_in test ++ expressions_in a ++ expressions_in b)
      (joined (types_in t test ++ types_in t a) (types_in t b) (expressions_in test ++ expressions_in a) (expressions_in b)
      (joined (types_in t test) (types_in t a) (expressions_in test) (expressions_in a) (of_expression t test) (of_expression t a))
      (of_expression t b))
  of_expression t (call at callee bytes args) =
      first_too (types_in_arguments t (call_looks callee bytes) 0 args) (expressions_in_arguments args) (of_arguments t (call_looks callee bytes) 0 args)

  of_arguments : (t : Typing) (looks : ℕ → Bool) (place : ℕ) (args : Arguments) → length (types_in_arguments t looks place args) ≡ length (expressions_in_arguments args)
  of_arguments t looks place no_more = refl
  of_arguments t looks place (text_then text rest) = of_arguments t looks (place + 1) rest
  of_arguments t looks place (expression_then e rest) =
      joined (if looks place then types_in t e else all_real (expressions_in e)) (types_in_arguments t looks (place + 1) rest) (expressions_in e) (expressions_in_arguments rest)
      (either_list (looks place) (types_in t e) (all_real (expressions_in e)) (expressions_in e) (of_expression t e) (reals (expressions_in e)))
      (of_arguments t looks (place + 1) rest)

of_expressions : (t : Typing) (es : List Expression) → length (flat_map (types_in t) es) ≡ length (flat_map expressions_in es)
of_expressions t = each_list (types_in t) expressions_in (of_expression t)

-- three lists after each other
joined_three : (a b c : List Ty) (d e f : List Expression) → length a ≡ length d → length b ≡ length e → length c ≡ length f → length (a ++ b ++ c) ≡ length (d ++ e ++ f)
joined_three a b c d e f p q r = joined (a ++ b) c (d ++ e) f (joined a b d e p q) r

mutual
  of_statement : (t : Typing) (s : Statement) → length (types_in_statement t s) ≡ length (expressions_of_statement s)
  of_statement t (null at) = refl
  of_statement t (block at label declarations body) =
      joined (flat_map (types_in t) (declared declarations)) (types_in_statements t body) (flat_map expressions_in (declared declarations)) (expressions_of_statements body)
      (of_expressions t (declared declarations)) (of_statements t body)
  of_statement t (only_if at test a) = joined (types_in t test) (types_in_statement t a) (expressions_in test) (expressions_of_statement a) (of_expression t test) (of_statement t a)
  of_statement t (if_else at test a b) =
      joined_three (types_in t test) (types_in_statement t a) (types_in_statement t b) (expressions_in test) (expressions_of_statement a) (expressions_of_statement b)
      (of_expression t test) (of_statement t a) (of_statement t b)
  of_statement t (cases at selector items defaults) =
      joined_three (types_in t selector) (types_in_items t items) (types_in_defaults t defaults) (expressions_in selector) (expressions_of_items items) (expressions_of_defaults defaults)
      (of_expression t selector) (of_items t items) (of_defaults t defaults)
  of_statement t (for_loop at target first test target' step body) =
      joined (types_in t first ++ types_in t test ++ types_in t step) (types_in_statement t body) (expressions_in first ++ expressions_in test ++ expressions_in step) (expressions_of_statement body)
      (joined_three (types_in t first) (types_in t test) (types_in t step) (expressions_in first) (expressions_in test) (expressions_in step)
      (of_expression t first) (of_expression t test) (of_expression t step))
      (of_statement t body)
  of_statement t (while_loop at test body) = joined (types_in t test) (types_in_statement t body) (expressions_in test) (expressions_of_statement body) (of_expression t test) (of_statement t body)
  of_statement t (repeat_loop at count body) = joined (types_in t count) (types_in_statement t body) (expressions_in count) (expressions_of_statement body) (of_expression t count) (of_statement t body)
  of_statement t (event at kind analyses body) = of_statement t body
  of_statement t (assign at target value) = of_expression t value
  of_statement t (contribute at access first second value) = of_expression t value
  of_statement t (task at bytes args) = reals (expressions_in_arguments args)

  of_statements : (t : Typing) (body : Statements) → length (types_in_statements t body) ≡ length (expressions_of_statements body)
  of_statements t no_statement = refl
  of_statements t (statement_then s rest) =
      joined (types_in_statement t s) (types_in_statements t rest) (expressions_of_statement s) (expressions_of_statements rest) (of_statement t s) (of_statements t rest)

  of_items : (t : Typing) (items : Items) → length (types_in_items t items) ≡ length (expressions_of_items items)
  of_items t no_items = refl
  of_items t (item_then at values body rest) =
      joined_three (flat_map (types_in t) values) (types_in_statement t body) (types_in_items t rest) (flat_map expressions_in values) (expressions_of_statement body) (expressions_of_items rest)
      (of_expressions t values) (of_statement t body) (of_items t rest)

  of_defaults : (t : Typing) (defaults : Defaults) → length (types_in_defaults t defaults) ≡ length (expressions_of_defaults defaults)
  of_defaults t no_defaults = refl
  of_defaults t (default_then at body rest) =
      joined (types_in_statement t body) (types_in_defaults t rest) (expressions_of_statement body) (expressions_of_defaults rest) (of_statement t body) (of_defaults t rest)

of_part : (t : Typing) (p : Part) → length (types_in_part t p) ≡ length (expressions_of_part p)
of_part t (expression e) = of_expression t e
of_part t (statement s) = of_statement t s

-- the expressions of two lists of parts
split : (ps qs : List Part) → length (flat_map expressions_of_part ps ++ flat_map expressions_of_part qs) ≡ length (flat_map expressions_of_part (ps ++ qs))
split ps qs = ap length (sym (flat_map-append expressions_of_part ps qs))

of_item : (t : Typing) (i : Item) → length (types_in_item t i) ≡ length (flat_map expressions_of_part (item_parts i))
of_item t i =
    joined (no_types (attributes_parts i.attributes)) (flat_map (types_in_part t) (body_parts i.body)) (flat_map expressions_of_part (attributes_parts i.attributes)) (flat_map expressions_of_part (body_parts i.body))
    (reals (flat_map expressions_of_part (attributes_parts i.attributes)))
    (each_list (types_in_part t) expressions_of_part (of_part t) (body_parts i.body))
    ∙ split (attributes_parts i.attributes) (body_parts i.body)

nested : {X : Type 0} (f : X → List Part) (xs : List X) → flat_map (λ x. flat_map expressions_of_part (f x)) xs ≡ flat_map expressions_of_part (flat_map f xs)
nested f [] = refl
nested f (x ∷ xs) =
    ap (λ l. flat_map expressions_of_part (f x) ++ l) (nested f xs) ∙ sym (flat_map-append expressions_of_part (f x) (flat_map f xs))

of_module : (names : ModuleNames) (m : Module) → length (types_in_module names m) ≡ length (flat_map expressions_of_part (module_parts m))
of_module names m =
    joined (no_types (attributes_parts m.attributes)) (flat_map (types_in_item (typing_of names.uses m)) m.items) (flat_map expressions_of_part (attributes_parts m.attributes)) (flat_map (λ i. flat_map expressions_of_part (item_parts i)) m.items)
    (reals (flat_map expressions_of_part (attributes_parts m.attributes)))
    (each_list (types_in_item (typing_of names.uses m)) (λ i. flat_map expressions_of_part (item_parts i)) (of_item (typing_of names.uses m)) m.items)
    ∙ ap (λ l. length (flat_map expressions_of_part (attributes_parts m.attributes) ++ l)) (nested item_parts m.items)
    ∙ split (attributes_parts m.attributes) (flat_map item_parts m.items)

of_modules : (ms : List Module) (names : List ModuleNames) → length names ≡ length ms → length (flat_map (λ (e : Module × ModuleNames). types_in_module e.1 e.0) (zip ms names)) ≡ length (flat_map (λ m. flat_map expressions_of_part (module_parts m)) ms)
of_modules [] names same = refl
of_modules (m ∷ ms) [] same = absurd (omega (arith, same))
of_modules (m ∷ ms) (n ∷ names) same =
    joined (types_in_module n m) (flat_map (λ (e : Module × ModuleNames). types_in_module e.1 e.0) (zip ms names)) (flat_map expressions_of_part (module_parts m)) (flat_map (λ k. flat_map expressions_of_part (module_parts k)) ms)
    (of_module n m) (of_modules ms names (omega (arith, same)))

pub each_has_a_type : EachHasAType
each_has_a_type s =
    let before : List Part = flat_map nature_parts s.natures ++ flat_map discipline_parts s.disciplines in
    joined (no_types before) (flat_map (λ (e : Module × ModuleNames). types_in_module e.1 e.0) (zip s.modules (names_of s).modules)) (flat_map expressions_of_part before) (flat_map (λ m. flat_map expressions_of_part (module_parts m)) s.modules)
    (reals (flat_map expressions_of_part before))
    (of_modules s.modules (names_of s).modules (modules_named s))
    ∙ ap (λ l. length (flat_map expressions_of_part before ++ l)) (nested module_parts s.modules)
    ∙ split before (flat_map module_parts s.modules)
