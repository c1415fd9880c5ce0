-- The rows of expressions hold.
use Rattle.std.specs.Prelude.{◌≡◌, ℕ, suc, ◌+◌, List, [], Option, None, refl}
use Rattle.std.proofs.Common.{ap, sym, ◌∙◌, arith}
use Rattle.predict.specs.Tree.{Tree, node, no_parts, token, subtree}
use Rattle.va_base.specs.declared.expanded.Expanded.{Expanded}
use Rattle.va_build.specs.Reading.{row_symbols, first_tree, later_trees}
use Rattle.va_build.specs.SizeDeep.{earlier, first_deep, if_deep, deep_row, deep_expression, deep_argument, deep_arguments}
use Rattle.va_build.specs.SizeRows.{deep_in, deep_choices, deep_tail, deep_call, choices, operators}
use Rattle.va_build.proofs.SizeLaws.{RowHolds}
use Rattle.va_build.specs.SourceExpressions.{argument, arguments, more_arguments, bare, expression, choice, operand, chain, primary, called}
use Rattle.va_build.specs.TokensAt.{name_at, binary_op}
use Rattle.va_build.specs.Width.{width}
use Rattle.va_build.proofs.SizeAlgebra.{earlier_none, earlier_assoc, ends_one, ends_two, ends_three, deep_two, deep_three, argument_then}
use Rattle.va_tree.specs.Expressions.{Expression, expression_of}
use Rattle.va_tree.specs.ExpressionLaws.{expression-Group, expression-Unary, expression-Binary, expression-Choose, expression-Call}
use Rattle.va_tree.specs.Nodes.{nodes_of}
use Rattle.va_tree.specs.declared.expr.Arg.{Arg}
use Rattle.va_tree.specs.declared.expr.BinaryOp.{BinaryOp}
use Rattle.va_tree.specs.declared.expr.Callee.{Callee}
use Rattle.va_tree.specs.declared.expr.Callee.TheVariants as callee
use Rattle.va_tree.specs.declared.expr.UnaryOp.TheVariants as sign
use Rattle.va_tree.specs.declared.expr.Expr.{Expr}
use Rattle.va_tree.specs.declared.expr.Expr.TheVariants.{Binary, Choose, Call}

-- the depth of nothing more
same_depth : (depth : ℕ) (x : Expr) → deep_expression depth x ≡ deep_expression (depth + 0) x
same_depth depth x = ap (λ (n : ℕ). deep_expression n x) (omega arith)

without : (depth : ℕ) (x : Expr) → deep_expression depth x ≡ earlier (deep_expression (depth + 0) x) None
without depth x = same_depth depth x ∙ sym (earlier_none (deep_expression (depth + 0) x))

deep_choose : (depth first : ℕ) (test a b : Expr) → deep_expression depth (Choose first test a b) ≡ earlier (if_deep first depth) (earlier (deep_expression (depth + 1) test) (earlier (deep_expression (depth + 1) a) (deep_expression (depth + 1) b)))
deep_choose depth first test a b =
    ap (λ (x : Expression). first_deep (nodes_of depth x)) (expression-Choose first test a b)
    ∙ ap (earlier (if_deep first depth)) (deep_three (nodes_of (depth + 1) (expression_of test)) (nodes_of (depth + 1) (expression_of a)) (nodes_of (depth + 1) (expression_of b)))

deep_binary : (depth first : ℕ) (a : Expr) (op : BinaryOp) (b : Expr) → deep_expression depth (Binary first a op b) ≡ earlier (if_deep first depth) (earlier (deep_expression (depth + 1) a) (deep_expression (depth + 1) b))
deep_binary depth first a op b =
    ap (λ (x : Expression). first_deep (nodes_of depth x)) (expression-Binary first a op b)
    ∙ ap (earlier (if_deep first depth)) (deep_two (nodes_of (depth + 1) (expression_of a)) (nodes_of (depth + 1) (expression_of b)))

-- what stands behind a test
choice_deep : (e : Expanded) (depth first at : ℕ) (test : Expr) (t : Tree) → deep_expression depth (choice e first test at t) ≡ earlier (deep_row first depth (choices t)) (earlier (deep_expression (depth + choices t) test) (deep_choices e depth at t))
choice_deep e depth first at test (node row (token question (subtree a (token colon (subtree b no_parts))))) =
    deep_choose depth first test (expression e (at + 1) a) (expression e (at + 1 + width a + 1) b)
    ∙ ap (λ (n : ℕ). earlier (if_deep first n) (earlier (deep_expression (depth + 1) test) (earlier (deep_expression (depth + 1) (expression e (at + 1) a)) (deep_expression (depth + 1) (expression e (at + 1 + width a + 1) b))))) (omega arith)
choice_deep e depth first at test others = without depth test

-- one more operator
one_more : (depth first n : ℕ) (left right : Expr) (op : BinaryOp) (rest : Option ℕ) →
    earlier (deep_row first depth n) (earlier (deep_expression (depth + n) (Binary first left op right)) rest)
    ≡ earlier (deep_row first depth (n + 1)) (earlier (deep_expression (depth + (n + 1)) left) (earlier (deep_expression (depth + (n + 1)) right) rest))
one_more depth first n left right op rest =
    let row : Option ℕ = deep_row first depth n in
    let mark : Option ℕ = if_deep first (depth + n) in
    let l : Option ℕ = deep_expression (depth + (n + 1)) left in
    let r : Option ℕ = deep_expression (depth + (n + 1)) right in
    let parts : deep_expression (depth + n) (Binary first left op right) ≡ earlier mark (earlier l r) =
    deep_binary (depth + n) first left op right ∙ ap (λ (k : ℕ). earlier mark (earlier (deep_expression k left) (deep_expression k right))) (omega arith) in
    let more : suc n ≡ n + 1 = omega arith in
    ap (λ (x : Option ℕ). earlier row (earlier x rest)) parts
    ∙ ap (earlier row) (earlier_assoc mark (earlier l r) rest ∙ ap (earlier mark) (earlier_assoc l r rest))
    ∙ sym (earlier_assoc row mark (earlier l (earlier r rest)))
    ∙ ap (λ (k : ℕ). earlier (deep_row first depth k) (earlier l (earlier r rest))) more

-- a chain of operators
chain_deep : (e : Expanded) (depth first : ℕ) (left : Expr) (at : ℕ) (t : Tree) → deep_expression depth (chain e first left at t) ≡ earlier (deep_row first depth (operators t)) (earlier (deep_expression (depth + operators t) left) (deep_tail e depth at t))
chain_deep e depth first left at (node row (token operator (subtree right (subtree rest no_parts)))) =
    chain_deep e depth first (Binary first left (binary_op operator) (operand e (at + 1) right)) (at + 1 + width right) rest
    ∙ one_more depth first (operators rest) left (operand e (at + 1) right) (binary_op operator) (deep_tail e depth (at + 1 + width right) rest)
chain_deep e depth first left at others = without depth left

deep_called : (depth name : ℕ) (who : Callee) (bytes : List ℕ) (args : List Arg) → deep_expression depth (Call name who bytes args) ≡ earlier (if_deep name depth) (deep_arguments (depth + 1) args)
deep_called depth name who bytes args = ap (λ (x : Expression). first_deep (nodes_of depth x)) (expression-Call name who bytes args)

bare_deep : (e : Expanded) (depth name : ℕ) (who : Callee) → deep_expression depth (bare e name who) ≡ earlier (if_deep name depth) None
bare_deep e depth name callee.Function = refl
bare_deep e depth name callee.System = deep_called depth name callee.System (name_at e name) []

called_deep : (e : Expanded) (depth name : ℕ) (who : Callee) (at : ℕ) (t : Tree) → deep_expression depth (called e name who at t) ≡ earlier (if_deep name depth) (deep_call e (depth + 1) at t)
called_deep e depth name who at (node row (token left (subtree inner (token close no_parts)))) = deep_called depth name who (name_at e name) (arguments e (at + 1) inner)
called_deep e depth name who at others = bare_deep e depth name who

pub row_127 : RowHolds 58 127
unfolding row_symbols deep_in
row_127 e depth at ts h =
    let first : Tree = first_tree ts in
    let second : Tree = first_tree (later_trees ts) in
    ends_two _ (deep_argument depth (argument e at first)) (deep_arguments depth (more_arguments e (at + width first) second)) (argument_then depth (argument e at first) (more_arguments e (at + width first) second))

pub row_129 : RowHolds 59 129
unfolding row_symbols deep_in
row_129 e depth at ts h =
    let first : Tree = first_tree ts in
    let second : Tree = first_tree (later_trees ts) in
    ends_two _ (deep_argument depth (argument e (at + 1) first)) (deep_arguments depth (more_arguments e (at + 1 + width first) second)) (argument_then depth (argument e (at + 1) first) (more_arguments e (at + 1 + width first) second))

pub row_131 : RowHolds 60 131
unfolding row_symbols deep_in
row_131 e depth at ts h =
    let first : Tree = first_tree ts in
    let second : Tree = first_tree (later_trees ts) in
    ends_three _ (deep_row at depth (choices second)) (deep_expression (depth + choices second) (operand e at first)) (deep_choices e depth (at + width first) second) (choice_deep e depth at (at + width first) (operand e at first) second)

pub row_132 : RowHolds 61 132
unfolding row_symbols deep_in
row_132 e depth at ts h =
    let first : Tree = first_tree ts in
    let second : Tree = first_tree (later_trees ts) in
    ends_two _ (deep_expression (depth + 1) (expression e (at + 1) first)) (deep_expression (depth + 1) (expression e (at + 1 + width first + 1) second)) refl

pub row_134 : RowHolds 62 134
unfolding row_symbols deep_in
row_134 e depth at ts h =
    let first : Tree = first_tree ts in
    let second : Tree = first_tree (later_trees ts) in
    ends_three _ (deep_row at depth (operators second)) (deep_expression (depth + operators second) (operand e at first)) (deep_tail e depth (at + width first) second) (chain_deep e depth at (operand e at first) (at + width first) second)

pub row_137 : RowHolds 64 137
unfolding row_symbols deep_in
row_137 e depth at ts h =
    let first : Tree = first_tree ts in
    let second : Tree = first_tree (later_trees ts) in
    ends_three _ (deep_row at depth (operators second)) (deep_expression (depth + operators second) (operand e at first)) (deep_tail e depth (at + width first) second) (chain_deep e depth at (operand e at first) (at + width first) second)

pub row_140 : RowHolds 66 140
unfolding row_symbols deep_in
row_140 e depth at ts h =
    let first : Tree = first_tree ts in
    let second : Tree = first_tree (later_trees ts) in
    ends_three _ (deep_row at depth (operators second)) (deep_expression (depth + operators second) (operand e at first)) (deep_tail e depth (at + width first) second) (chain_deep e depth at (operand e at first) (at + width first) second)

pub row_144 : RowHolds 68 144
unfolding row_symbols deep_in
row_144 e depth at ts h =
    let first : Tree = first_tree ts in
    let second : Tree = first_tree (later_trees ts) in
    ends_three _ (deep_row at depth (operators second)) (deep_expression (depth + operators second) (operand e at first)) (deep_tail e depth (at + width first) second) (chain_deep e depth at (operand e at first) (at + width first) second)

pub row_150 : RowHolds 70 150
unfolding row_symbols deep_in
row_150 e depth at ts h =
    let first : Tree = first_tree ts in
    let second : Tree = first_tree (later_trees ts) in
    ends_three _ (deep_row at depth (operators second)) (deep_expression (depth + operators second) (operand e at first)) (deep_tail e depth (at + width first) second) (chain_deep e depth at (operand e at first) (at + width first) second)

pub row_154 : RowHolds 72 154
unfolding row_symbols deep_in
row_154 e depth at ts h =
    let first : Tree = first_tree ts in
    let second : Tree = first_tree (later_trees ts) in
    ends_three _ (deep_row at depth (operators second)) (deep_expression (depth + operators second) (operand e at first)) (deep_tail e depth (at + width first) second) (chain_deep e depth at (operand e at first) (at + width first) second)

pub row_159 : RowHolds 74 159
unfolding row_symbols deep_in
row_159 e depth at ts h =
    let first : Tree = first_tree ts in
    let second : Tree = first_tree (later_trees ts) in
    ends_three _ (deep_row at depth (operators second)) (deep_expression (depth + operators second) (operand e at first)) (deep_tail e depth (at + width first) second) (chain_deep e depth at (operand e at first) (at + width first) second)

pub row_135 : RowHolds 63 135
unfolding row_symbols deep_in
row_135 e depth at ts h =
    let first : Tree = first_tree ts in
    let second : Tree = first_tree (later_trees ts) in
    ends_two _ (deep_expression (depth + (operators second + 1)) (operand e (at + 1) first)) (deep_tail e depth (at + 1 + width first) second) refl

pub row_138 : RowHolds 65 138
unfolding row_symbols deep_in
row_138 e depth at ts h =
    let first : Tree = first_tree ts in
    let second : Tree = first_tree (later_trees ts) in
    ends_two _ (deep_expression (depth + (operators second + 1)) (operand e (at + 1) first)) (deep_tail e depth (at + 1 + width first) second) refl

pub row_141 : RowHolds 67 141
unfolding row_symbols deep_in
row_141 e depth at ts h =
    let first : Tree = first_tree ts in
    let second : Tree = first_tree (later_trees ts) in
    ends_two _ (deep_expression (depth + (operators second + 1)) (operand e (at + 1) first)) (deep_tail e depth (at + 1 + width first) second) refl

pub row_142 : RowHolds 67 142
unfolding row_symbols deep_in
row_142 e depth at ts h =
    let first : Tree = first_tree ts in
    let second : Tree = first_tree (later_trees ts) in
    ends_two _ (deep_expression (depth + (operators second + 1)) (operand e (at + 1) first)) (deep_tail e depth (at + 1 + width first) second) refl

pub row_145 : RowHolds 69 145
unfolding row_symbols deep_in
row_145 e depth at ts h =
    let first : Tree = first_tree ts in
    let second : Tree = first_tree (later_trees ts) in
    ends_two _ (deep_expression (depth + (operators second + 1)) (operand e (at + 1) first)) (deep_tail e depth (at + 1 + width first) second) refl

pub row_146 : RowHolds 69 146
unfolding row_symbols deep_in
row_146 e depth at ts h =
    let first : Tree = first_tree ts in
    let second : Tree = first_tree (later_trees ts) in
    ends_two _ (deep_expression (depth + (operators second + 1)) (operand e (at + 1) first)) (deep_tail e depth (at + 1 + width first) second) refl

pub row_147 : RowHolds 69 147
unfolding row_symbols deep_in
row_147 e depth at ts h =
    let first : Tree = first_tree ts in
    let second : Tree = first_tree (later_trees ts) in
    ends_two _ (deep_expression (depth + (operators second + 1)) (operand e (at + 1) first)) (deep_tail e depth (at + 1 + width first) second) refl

pub row_148 : RowHolds 69 148
unfolding row_symbols deep_in
row_148 e depth at ts h =
    let first : Tree = first_tree ts in
    let second : Tree = first_tree (later_trees ts) in
    ends_two _ (deep_expression (depth + (operators second + 1)) (operand e (at + 1) first)) (deep_tail e depth (at + 1 + width first) second) refl

pub row_151 : RowHolds 71 151
unfolding row_symbols deep_in
row_151 e depth at ts h =
    let first : Tree = first_tree ts in
    let second : Tree = first_tree (later_trees ts) in
    ends_two _ (deep_expression (depth + (operators second + 1)) (operand e (at + 1) first)) (deep_tail e depth (at + 1 + width first) second) refl

pub row_152 : RowHolds 71 152
unfolding row_symbols deep_in
row_152 e depth at ts h =
    let first : Tree = first_tree ts in
    let second : Tree = first_tree (later_trees ts) in
    ends_two _ (deep_expression (depth + (operators second + 1)) (operand e (at + 1) first)) (deep_tail e depth (at + 1 + width first) second) refl

pub row_155 : RowHolds 73 155
unfolding row_symbols deep_in
row_155 e depth at ts h =
    let first : Tree = first_tree ts in
    let second : Tree = first_tree (later_trees ts) in
    ends_two _ (deep_expression (depth + (operators second + 1)) (operand e (at + 1) first)) (deep_tail e depth (at + 1 + width first) second) refl

pub row_156 : RowHolds 73 156
unfolding row_symbols deep_in
row_156 e depth at ts h =
    let first : Tree = first_tree ts in
    let second : Tree = first_tree (later_trees ts) in
    ends_two _ (deep_expression (depth + (operators second + 1)) (operand e (at + 1) first)) (deep_tail e depth (at + 1 + width first) second) refl

pub row_157 : RowHolds 73 157
unfolding row_symbols deep_in
row_157 e depth at ts h =
    let first : Tree = first_tree ts in
    let second : Tree = first_tree (later_trees ts) in
    ends_two _ (deep_expression (depth + (operators second + 1)) (operand e (at + 1) first)) (deep_tail e depth (at + 1 + width first) second) refl

pub row_160 : RowHolds 75 160
unfolding row_symbols deep_in
row_160 e depth at ts h =
    let first : Tree = first_tree ts in
    let second : Tree = first_tree (later_trees ts) in
    ends_two _ (deep_expression (depth + (operators second + 1)) (operand e (at + 1) first)) (deep_tail e depth (at + 1 + width first) second) refl

pub row_162 : RowHolds 76 162
unfolding row_symbols deep_in
row_162 e depth at ts h =
    let first : Tree = first_tree ts in
    let second : Tree = first_tree (later_trees ts) in
    ends_two _ (if_deep at depth) (deep_expression (depth + 1) (operand e (at + 1) first)) (ap (λ (x : Expression). first_deep (nodes_of depth x)) (expression-Unary at sign.Plus (operand e (at + 1) first)))

pub row_163 : RowHolds 76 163
unfolding row_symbols deep_in
row_163 e depth at ts h =
    let first : Tree = first_tree ts in
    let second : Tree = first_tree (later_trees ts) in
    ends_two _ (if_deep at depth) (deep_expression (depth + 1) (operand e (at + 1) first)) (ap (λ (x : Expression). first_deep (nodes_of depth x)) (expression-Unary at sign.Minus (operand e (at + 1) first)))

pub row_164 : RowHolds 76 164
unfolding row_symbols deep_in
row_164 e depth at ts h =
    let first : Tree = first_tree ts in
    let second : Tree = first_tree (later_trees ts) in
    ends_two _ (if_deep at depth) (deep_expression (depth + 1) (operand e (at + 1) first)) (ap (λ (x : Expression). first_deep (nodes_of depth x)) (expression-Unary at sign.Not (operand e (at + 1) first)))

pub row_165 : RowHolds 76 165
unfolding row_symbols deep_in
row_165 e depth at ts h =
    let first : Tree = first_tree ts in
    let second : Tree = first_tree (later_trees ts) in
    ends_one _ (deep_expression depth (primary e at first)) refl

pub row_168 : RowHolds 77 168
unfolding row_symbols deep_in
row_168 e depth at ts h =
    let first : Tree = first_tree ts in
    let second : Tree = first_tree (later_trees ts) in
    ends_two _ (if_deep at depth) (deep_expression (depth + 1) (expression e (at + 1) first)) (ap (λ (x : Expression). first_deep (nodes_of depth x)) (expression-Group at (expression e (at + 1) first)))

pub row_169 : RowHolds 77 169
unfolding row_symbols deep_in
row_169 e depth at ts h =
    let first : Tree = first_tree ts in
    let second : Tree = first_tree (later_trees ts) in
    ends_two _ (if_deep at depth) (deep_call e (depth + 1) (at + 1) first) (called_deep e depth at callee.Function (at + 1) first)

pub row_170 : RowHolds 77 170
unfolding row_symbols deep_in
row_170 e depth at ts h =
    let first : Tree = first_tree ts in
    let second : Tree = first_tree (later_trees ts) in
    ends_two _ (if_deep at depth) (deep_call e (depth + 1) (at + 1) first) (called_deep e depth at callee.System (at + 1) first)

pub row_171 : RowHolds 78 171
unfolding row_symbols deep_in
row_171 e depth at ts h =
    let first : Tree = first_tree ts in
    let second : Tree = first_tree (later_trees ts) in
    ends_one _ (deep_arguments depth (arguments e (at + 1) first)) refl
