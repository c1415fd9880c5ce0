-- A node that is deeper than 500 stands in one of depth 501.
use Rattle.std.specs.Prelude.{◌≡◌, ◌<◌, ◌≤◌, ◌⊎◌, ◌+◌, ℕ, Bool, true, false, nat_lt, List, [], ◌∷◌, ◌++◌, refl, flat_map, Contains}
use Rattle.std.proofs.Common.{ap, sym, ◌∙◌, subst, arith, append_assoc, inl, inr, ltb-true, ltb-false}
use Rattle.std.proofs.lemmas.List.Elements.{Contains-append_left, Contains-append_right, Contains-append_cases, Contains-push, Contains-push_cases}
use Rattle.va_tree.specs.declared.source.Source.{Source}
use Rattle.va_tree.specs.Declarations.{declared}
use Rattle.va_tree.specs.DepthLimit.{At501, IsInOrder, DepthLimit}
use Rattle.va_tree.specs.Expressions.{Expression, Arguments, literal, infinity, name, group, unary, binary, choose, call, no_more, text_then, expression_then}
use Rattle.va_tree.specs.Nodes.{Node, node, nodes_of, nodes_of_arguments, nodes_of_statement, nodes_of_statements, nodes_of_items, nodes_of_defaults, nodes_of_part, nodes_of_source}
use Rattle.va_tree.specs.Parts.{Part, expression, statement, parts_of}
use Rattle.va_tree.specs.Statements.{Statement, Statements, Items, Defaults, null, block, only_if, if_else, cases, for_loop, while_loop, repeat_loop, event, assign, contribute, task, no_more as no_statement, statement_then, no_items, item_then, no_defaults, default_then}

-- each node that is deeper than 500 is one of depth 501, or stands in one
abbrev HasAll : List Node → Type 0
HasAll ns = (n : Node) → Contains ns n → 500 < n.depth → At501 ns n

none : HasAll []
none n h d = absurd (omega (arith, h.1))

both : (xs ys : List Node) → HasAll xs → HasAll ys → HasAll (xs ++ ys)
both xs ys h k n c d =
    elim (Contains-append_cases xs ys n c) [
      | inl a ↦
          let f = h n a d in
          let w = f.stand in
          let block : List Node = node f.at 501 ∷ f.inside in
          record {
            at = f.at;
            inside = f.inside;
            stand = record { before = w.before; after = w.after ++ ys; whole = ap (λ (l : List Node). l ++ ys) w.whole ∙ append_assoc (w.before ++ block) w.after ys; deeper = w.deeper };
            there = f.there;
          }
      | inr b ↦
          let f = k n b d in
          let w = f.stand in
          let block : List Node = node f.at 501 ∷ f.inside in
          record {
            at = f.at;
            inside = f.inside;
            stand = record {
              before = xs ++ w.before;
              after = w.after;
              whole = ap (λ (l : List Node). xs ++ l) w.whole ∙ sym (append_assoc xs (w.before ++ block) w.after) ∙ ap (λ (l : List Node). l ++ w.after) (sym (append_assoc xs w.before block));
              deeper = w.deeper;
            };
            there = f.there;
          }
    ]

three : (xs ys zs : List Node) → HasAll xs → HasAll ys → HasAll zs → HasAll (xs ++ ys ++ zs)
three xs ys zs h k l = both (xs ++ ys) zs (both xs ys h k) l

-- each node is at least so deep
abbrev AtLeast : ℕ → List Node → Type 0
AtLeast depth ns = (n : Node) → Contains ns n → depth ≤ n.depth

least_none : (depth : ℕ) → AtLeast depth []
least_none depth n h = absurd (omega (arith, h.1))

least_both : (depth : ℕ) (xs ys : List Node) → AtLeast depth xs → AtLeast depth ys → AtLeast depth (xs ++ ys)
least_both depth xs ys h k n c = elim (Contains-append_cases xs ys n c) [ inl a ↦ h n a | inr b ↦ k n b ]

least_three : (depth : ℕ) (xs ys zs : List Node) → AtLeast depth xs → AtLeast depth ys → AtLeast depth zs → AtLeast depth (xs ++ ys ++ zs)
least_three depth xs ys zs h k l = least_both depth (xs ++ ys) zs (least_both depth xs ys h k) l

least_above : (at depth : ℕ) (ns : List Node) → AtLeast (depth + 1) ns → AtLeast depth (node at depth ∷ ns)
least_above at depth ns h n c =
    elim (Contains-append_cases (node at depth ∷ []) ns n c) [
      | inl a ↦ elim (Contains-push_cases [] (node at depth) n a) [
        | inl f ↦ absurd (omega (arith, f.1))
        | inr e ↦ let same : depth ≡ n.depth = ap (λ (m : Node). m.depth) e in omega (arith, same)
      ]
      | inr b ↦ omega (arith, h n b)
    ]

lower : (m n : ℕ) → (m < n) ⊎ (n ≤ m)
lower m n = told (nat_lt m n) refl
  where
    told : (b : Bool) → nat_lt m n ≡ b → (m < n) ⊎ (n ≤ m)
    told true h = inl (ltb-true m n h)
    told false h = inr (ltb-false m n h)

nothing_behind : (xs : List Node) → xs ≡ xs ++ []
nothing_behind [] = refl
nothing_behind (x ∷ xs) = ap (λ (l : List Node). x ∷ l) (nothing_behind xs)

-- a node that is not deeper than 501, before the nodes that stand in it
above : (at depth : ℕ) (ns : List Node) → AtLeast (depth + 1) ns → depth ≤ 501 → (depth + 1 ≤ 501 → HasAll ns) → HasAll (node at depth ∷ ns)
above at depth ns deep limit inside n c d =
    elim (lower depth 501) [
      | inl less ↦ both (node at depth ∷ []) ns (λ m a e. elim (Contains-push_cases [] (node at depth) m a) [
        | inl f ↦ absurd (omega (arith, f.1))
        | inr g ↦ let same : depth ≡ m.depth = ap (λ (x : Node). x.depth) g in absurd (omega (arith, same, less, e))
      ]) (inside (omega (arith, less))) n c d
      | inr more ↦
          let same : depth ≡ 501 = omega (arith, limit, more) in
          record {
            at = at;
            inside = ns;
            stand = record {
              before = [];
              after = [];
              whole = ap (λ (k : ℕ). node at k ∷ ns) same ∙ nothing_behind (node at 501 ∷ ns);
              deeper = λ m b. omega (arith, deep m b, more);
            };
            there = subst (λ (k : ℕ). Contains (node at k ∷ ns) n) same c;
          }
    ]

mutual
  least_expression : (depth : ℕ) (e : Expression) → AtLeast depth (nodes_of depth e)
  least_expression depth (literal at value integer) = least_above at depth [] (least_none (depth + 1))
  least_expression depth (infinity at) = least_above at depth [] (least_none (depth + 1))
  least_expression depth (name at bytes) = least_above at depth [] (least_none (depth + 1))
  least_expression depth (group at inner) = least_above at depth _ (least_expression (depth + 1) inner)
  least_expression depth (unary at op operand) = least_above at depth _ (least_expression (depth + 1) operand)
  least_expression depth (binary at left op right) = least_above at depth _ (least_both (depth + 1) _ _ (least_expression (depth + 1) left) (least_expression (depth + 1) right))
  least_expression depth (choose at test a b) = least_above at depth _ (least_three (depth + 1) _ _ _ (least_expression (depth + 1) test) (least_expression (depth + 1) a) (least_expression (depth + 1) b))
  least_expression depth (call at callee bytes args) = least_above at depth _ (least_arguments (depth + 1) args)

  least_arguments : (depth : ℕ) (args : Arguments) → AtLeast depth (nodes_of_arguments depth args)
  least_arguments depth no_more = least_none depth
  least_arguments depth (text_then text rest) = least_arguments depth rest
  least_arguments depth (expression_then e rest) = least_both depth _ _ (least_expression depth e) (least_arguments depth rest)

least_values : (depth : ℕ) (values : List Expression) → AtLeast depth (flat_map (nodes_of depth) values)
least_values depth [] = least_none depth
least_values depth (e ∷ rest) = least_both depth (nodes_of depth e) (flat_map (nodes_of depth) rest) (least_expression depth e) (least_values depth rest)

mutual
  least_statement : (depth : ℕ) (s : Statement) → AtLeast depth (nodes_of_statement depth s)
  least_statement depth (null at) = least_above at depth [] (least_none (depth + 1))
  least_statement depth (block at label declarations body) = least_above at depth _ (least_both (depth + 1) _ _ (least_values (depth + 1) (declared declarations)) (least_statements (depth + 1) body))
  least_statement depth (only_if at test a) = least_above at depth _ (least_both (depth + 1) _ _ (least_expression (depth + 1) test) (least_statement (depth + 1) a))
  least_statement depth (if_else at test a b) = least_above at depth _ (least_three (depth + 1) _ _ _ (least_expression (depth + 1) test) (least_statement (depth + 1) a) (least_statement (depth + 1) b))
  least_statement depth (cases at selector items defaults) = least_above at depth _ (least_three (depth + 1) _ _ _ (least_expression (depth + 1) selector) (least_items (depth + 1) items) (least_defaults (depth + 1) defaults))
  least_statement depth (for_loop at target first test target' step body) = least_above at depth _ (least_both (depth + 1) _ _ (least_three (depth + 1) _ _ _ (least_expression (depth + 1) first) (least_expression (depth + 1) test) (least_expression (depth + 1) step)) (least_statement (depth + 1) body))
  least_statement depth (while_loop at test body) = least_above at depth _ (least_both (depth + 1) _ _ (least_expression (depth + 1) test) (least_statement (depth + 1) body))
  least_statement depth (repeat_loop at count body) = least_above at depth _ (least_both (depth + 1) _ _ (least_expression (depth + 1) count) (least_statement (depth + 1) body))
  least_statement depth (event at kind analyses body) = least_above at depth _ (least_statement (depth + 1) body)
  least_statement depth (assign at target value) = least_above at depth _ (least_expression (depth + 1) value)
  least_statement depth (contribute at access first second value) = least_above at depth _ (least_expression (depth + 1) value)
  least_statement depth (task at bytes args) = least_above at depth _ (least_arguments (depth + 1) args)

  least_statements : (depth : ℕ) (body : Statements) → AtLeast depth (nodes_of_statements depth body)
  least_statements depth no_statement = least_none depth
  least_statements depth (statement_then s rest) = least_both depth _ _ (least_statement depth s) (least_statements depth rest)

  least_items : (depth : ℕ) (items : Items) → AtLeast depth (nodes_of_items depth items)
  least_items depth no_items = least_none depth
  least_items depth (item_then at values body rest) = least_three depth _ _ _ (least_values depth values) (least_statement depth body) (least_items depth rest)

  least_defaults : (depth : ℕ) (defaults : Defaults) → AtLeast depth (nodes_of_defaults depth defaults)
  least_defaults depth no_defaults = least_none depth
  least_defaults depth (default_then at body rest) = least_both depth _ _ (least_statement depth body) (least_defaults depth rest)

mutual
  of_expression : (depth : ℕ) (e : Expression) → depth ≤ 501 → HasAll (nodes_of depth e)
  of_expression depth (literal at value integer) l = above at depth [] (least_none (depth + 1)) l (λ m. none)
  of_expression depth (infinity at) l = above at depth [] (least_none (depth + 1)) l (λ m. none)
  of_expression depth (name at bytes) l = above at depth [] (least_none (depth + 1)) l (λ m. none)
  of_expression depth (group at inner) l = above at depth _ (least_expression (depth + 1) inner) l (λ m. of_expression (depth + 1) inner m)
  of_expression depth (unary at op operand) l = above at depth _ (least_expression (depth + 1) operand) l (λ m. of_expression (depth + 1) operand m)
  of_expression depth (binary at left op right) l = above at depth _ (least_both (depth + 1) _ _ (least_expression (depth + 1) left) (least_expression (depth + 1) right)) l (λ m. both _ _ (of_expression (depth + 1) left m) (of_expression (depth + 1) right m))
  of_expression depth (choose at test a b) l = above at depth _ (least_three (depth + 1) _ _ _ (least_expression (depth + 1) test) (least_expression (depth + 1) a) (least_expression (depth + 1) b)) l (λ m. three _ _ _ (of_expression (depth + 1) test m) (of_expression (depth + 1) a m) (of_expression (depth + 1) b m))
  of_expression depth (call at callee bytes args) l = above at depth _ (least_arguments (depth + 1) args) l (λ m. of_arguments (depth + 1) args m)

  of_arguments : (depth : ℕ) (args : Arguments) → depth ≤ 501 → HasAll (nodes_of_arguments depth args)
  of_arguments depth no_more l = none
  of_arguments depth (text_then text rest) l = of_arguments depth rest l
  of_arguments depth (expression_then e rest) l = both _ _ (of_expression depth e l) (of_arguments depth rest l)

of_values : (depth : ℕ) (values : List Expression) → depth ≤ 501 → HasAll (flat_map (nodes_of depth) values)
of_values depth [] l = none
of_values depth (e ∷ rest) l = both (nodes_of depth e) (flat_map (nodes_of depth) rest) (of_expression depth e l) (of_values depth rest l)

mutual
  of_statement : (depth : ℕ) (s : Statement) → depth ≤ 501 → HasAll (nodes_of_statement depth s)
  of_statement depth (null at) l = above at depth [] (least_none (depth + 1)) l (λ m. none)
  of_statement depth (block at label declarations body) l = above at depth _ (least_both (depth + 1) _ _ (least_values (depth + 1) (declared declarations)) (least_statements (depth + 1) body)) l (λ m. both _ _ (of_values (depth + 1) (declared declarations) m) (of_statements (depth + 1) body m))
  of_statement depth (only_if at test a) l = above at depth _ (least_both (depth + 1) _ _ (least_expression (depth + 1) test) (least_statement (depth + 1) a)) l (λ m. both _ _ (of_expression (depth + 1) test m) (of_statement (depth + 1) a m))
  of_statement depth (if_else at test a b) l = above at depth _ (least_three (depth + 1) _ _ _ (least_expression (depth + 1) test) (least_statement (depth + 1) a) (least_statement (depth + 1) b)) l (λ m. three _ _ _ (of_expression (depth + 1) test m) (of_statement (depth + 1) a m) (of_statement (depth + 1) b m))
  of_statement depth (cases at selector items defaults) l = above at depth _ (least_three (depth + 1) _ _ _ (least_expression (depth + 1) selector) (least_items (depth + 1) items) (least_defaults (depth + 1) defaults)) l (λ m. three _ _ _ (of_expression (depth + 1) selector m) (of_items (depth + 1) items m) (of_defaults (depth + 1) defaults m))
  of_statement depth (for_loop at target first test target' step body) l = above at depth _ (least_both (depth + 1) _ _ (least_three (depth + 1) _ _ _ (least_expression (depth + 1) first) (least_expression (depth + 1) test) (least_expression (depth + 1) step)) (least_statement (depth + 1) body)) l (λ m. both _ _ (three _ _ _ (of_expression (depth + 1) first m) (of_expression (depth + 1) test m) (of_expression (depth + 1) step m)) (of_statement (depth + 1) body m))
  of_statement depth (while_loop at test body) l = above at depth _ (least_both (depth + 1) _ _ (least_expression (depth + 1) test) (least_statement (depth + 1) body)) l (λ m. both _ _ (of_expression (depth + 1) test m) (of_statement (depth + 1) body m))
  of_statement depth (repeat_loop at count body) l = above at depth _ (least_both (depth + 1) _ _ (least_expression (depth + 1) count) (least_statement (depth + 1) body)) l (λ m. both _ _ (of_expression (depth + 1) count m) (of_statement (depth + 1) body m))
  of_statement depth (event at kind analyses body) l = above at depth _ (least_statement (depth + 1) body) l (λ m. of_statement (depth + 1) body m)
  of_statement depth (assign at target value) l = above at depth _ (least_expression (depth + 1) value) l (λ m. of_expression (depth + 1) value m)
  of_statement depth (contribute at access first second value) l = above at depth _ (least_expression (depth + 1) value) l (λ m. of_expression (depth + 1) value m)
  of_statement depth (task at bytes args) l = above at depth _ (least_arguments (depth + 1) args) l (λ m. of_arguments (depth + 1) args m)

  of_statements : (depth : ℕ) (body : Statements) → depth ≤ 501 → HasAll (nodes_of_statements depth body)
  of_statements depth no_statement l = none
  of_statements depth (statement_then s rest) l = both _ _ (of_statement depth s l) (of_statements depth rest l)

  of_items : (depth : ℕ) (items : Items) → depth ≤ 501 → HasAll (nodes_of_items depth items)
  of_items depth no_items l = none
  of_items depth (item_then at values body rest) l = three _ _ _ (of_values depth values l) (of_statement depth body l) (of_items depth rest l)

  of_defaults : (depth : ℕ) (defaults : Defaults) → depth ≤ 501 → HasAll (nodes_of_defaults depth defaults)
  of_defaults depth no_defaults l = none
  of_defaults depth (default_then at body rest) l = both _ _ (of_statement depth body l) (of_defaults depth rest l)

of_parts : (parts : List Part) → HasAll (flat_map nodes_of_part parts)
of_parts [] = none
of_parts (expression e ∷ rest) = both (nodes_of 1 e) (flat_map nodes_of_part rest) (of_expression 1 e (omega arith)) (of_parts rest)
of_parts (statement s ∷ rest) = both (nodes_of_statement 1 s) (flat_map nodes_of_part rest) (of_statement 1 s (omega arith)) (of_parts rest)

-- one of depth 501 is a node of the text
among : (ns : List Node) (n : Node) (f : At501 ns n) → Contains ns (node f.at 501)
among ns n f =
    subst (λ (l : List Node). Contains l (node f.at 501)) (sym f.stand.whole)
    (Contains-append_left (f.stand.before ++ (node f.at 501 ∷ f.inside)) f.stand.after (node f.at 501)
    (Contains-append_right f.stand.before (node f.at 501 ∷ f.inside) (node f.at 501)
    (Contains-append_left (node f.at 501 ∷ []) f.inside (node f.at 501) (Contains-push [] (node f.at 501)))))

begins : (ns : List Node) (n : Node) (f : At501 ns n) → IsInOrder ns → f.at ≤ n.at
begins ns n f order =
    elim (Contains-append_cases (node f.at 501 ∷ []) f.inside n f.there) [
      | inl a ↦ elim (Contains-push_cases [] (node f.at 501) n a) [
        | inl g ↦ absurd (omega (arith, g.1))
        | inr e ↦ let same : f.at ≡ n.at = ap (λ (m : Node). m.at) e in omega (arith, same)
      ]
      | inr b ↦ order (node f.at 501) f.inside f.stand n b
    ]

pub depth_limit : (s : Source) → DepthLimit s
depth_limit s = record {
  shallow = (
    λ shallow at c. omega (arith, shallow (node at 501) c),
    λ lacks n c. elim (lower 500 n.depth) [ inl d ↦ (let f = of_parts (parts_of s) n c d in absurd (lacks f.at (among (nodes_of_source s) n f))) | inr d ↦ d ],
  );
  around = λ n c d. of_parts (parts_of s) n c d;
  first = λ order n c d. let f = of_parts (parts_of s) n c d in (f.at, among (nodes_of_source s) n f, begins (nodes_of_source s) n f order);
}
