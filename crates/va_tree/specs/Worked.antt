-- Rows that were worked out by hand: the nodes of some statements with their depths, the order of their expressions, and the
-- lengths of some tokens. Tokens are numbered from 0.
use Rattle.std.specs.Prelude.{◌≡◌, ℕ, pos, true, [], ◌∷◌, Some, codes}
use Rattle.va_base.specs.declared.exact.Decimal.{Decimal}
use Rattle.va_base.specs.declared.token.TokenKind.TheVariants.{Word, System, Text}
use Rattle.va_tree.specs.declared.name.NameAt.{NameAt}
use Rattle.va_tree.specs.declared.expr.UnaryOp.TheVariants.{Minus}
use Rattle.va_tree.specs.declared.expr.BinaryOp.TheVariants.{Add, Multiply}
use Rattle.va_tree.specs.declared.expr.Expr.{Literal}
use Rattle.va_tree.specs.declared.module.Declaration.{Declaration}
use Rattle.va_tree.specs.declared.module.Variable.{Variable}
use Rattle.va_tree.specs.declared.module.Ty.TheVariants.{Real}
use Rattle.va_tree.specs.Expressions.{Expression, literal, name, unary, binary, no_more, text_then, expression_then}
use Rattle.va_tree.specs.Statements.{Statement, null, assign, only_if, if_else, cases, for_loop, block, task, no_more as no_statement, statement_then, no_items, item_then, no_defaults, default_then}
use Rattle.va_tree.specs.Nodes.{node, nodes_of_statement}
use Rattle.va_tree.specs.Preorder.{expressions_of_statement}
use Rattle.va_tree.specs.Size.{counted_len}
use Rattle.va_tree.specs.OrderedNames.{ordered_in_statement}
use Rattle.va_tree.specs.OwnTokens.{names_in_statement}

abbrev pub number_one : Decimal
number_one = record { mantissa = 1; power = pos 0 }

-- a numeral at a token
abbrev pub one : ℕ → Expression
one at = literal at number_one true

abbrev pub named : ℕ → NameAt
named at = record { at = at; name = [] }

-- x = 1 + 1 * 1;
abbrev pub sum_and_product : Statement
sum_and_product = assign 0 [] (binary 2 (one 2) Add (binary 4 (one 4) Multiply (one 6)))

-- x = 1 + 1 + 1;
abbrev pub chain : Statement
chain = assign 0 [] (binary 2 (binary 2 (one 2) Add (one 4)) Add (one 6))

-- if (1) ; else if (1) ;
abbrev pub else_if : Statement
else_if = if_else 0 (one 2) (null 4) (only_if 6 (one 8) (null 10))

-- case (1) default : $strobe("t", 1); 1 : ; endcase
abbrev pub default_first : Statement
default_first = cases 0 (one 2) (item_then 13 (one 13 ∷ []) (null 15) no_items) (default_then 4 (task 6 [] (text_then (named 8) (expression_then (one 10) no_more))) no_defaults)

-- for (x = 1; 1; x = -1) ;
abbrev pub counting : Statement
counting = for_loop 0 (named 2) (one 4) (one 6) (named 8) (unary 10 Minus (one 11)) (null 13)

-- real y = 1;
abbrev pub declaration : Declaration
declaration = record { at = 3; ty = Real; variables = (let v : Variable = record { name = named 4; initialiser = Some (Literal 6 number_one true) } in v ∷ []) }

-- begin : b real y = 1; ; end
abbrev pub labelled : Statement
labelled = block 0 (Some (named 2)) (declaration ∷ []) (statement_then (null 8) no_statement)

-- case (x) default : $strobe("t", x); x : ; endcase
abbrev pub case_of_names : Statement
case_of_names = cases 0 (name 2 []) (item_then 13 (name 13 [] ∷ []) (null 15) no_items) (default_then 4 (task 6 [] (text_then (named 8) (expression_then (name 10 []) no_more))) no_defaults)

pub record WorkedNodes : Type 0 where
  -- the operand that binds closer is deeper
  pub precedence : nodes_of_statement 1 sum_and_product ≡ node 0 1 ∷ node 2 2 ∷ node 2 3 ∷ node 4 3 ∷ node 4 4 ∷ node 6 4 ∷ []
  -- the first operand of a chain is its deepest
  pub first_operand_deepest : nodes_of_statement 1 chain ≡ node 0 1 ∷ node 2 2 ∷ node 2 3 ∷ node 2 4 ∷ node 4 4 ∷ node 6 3 ∷ []
  -- an `else if` is one deeper
  pub else_if_deeper : nodes_of_statement 1 else_if ≡ node 0 1 ∷ node 2 2 ∷ node 4 2 ∷ node 6 2 ∷ node 8 3 ∷ node 10 3 ∷ []
  -- a string is no node, and the default comes last
  pub default_last : nodes_of_statement 1 default_first ≡ node 0 1 ∷ node 2 2 ∷ node 13 2 ∷ node 15 2 ∷ node 6 2 ∷ node 10 3 ∷ []
  -- the assignments in the head of a `for` are no statements
  pub heads_are_no_statements : nodes_of_statement 1 counting ≡ node 0 1 ∷ node 4 2 ∷ node 6 2 ∷ node 10 2 ∷ node 11 3 ∷ node 13 2 ∷ []
  -- an initialiser is one deeper than its block
  pub initialiser_in_block : nodes_of_statement 1 labelled ≡ node 0 1 ∷ node 6 2 ∷ node 8 2 ∷ []
  -- the expressions of a default come after all others of its `case`
  pub expressions_of_default_last : expressions_of_statement default_first ≡ one 2 ∷ one 13 ∷ one 10 ∷ []
  -- the `\` of an escaped word and the quotes of a string do not count, and a system name has no limit
  pub word : counted_len Word (codes "abc") ≡ 3
  pub escaped_word : counted_len Word (codes "\\abc") ≡ 3
  pub string : counted_len Text (codes "\"a\\n\"") ≡ 3
  pub system_name : counted_len System (codes "$abc") ≡ 0

-- The tokens of names in the order of the text.
pub record WorkedOrder : Type 0 where
  -- both assignments in the head of a `for`; numerals and signs are no names
  pub head_of_for : ordered_in_statement counting ≡ 2 ∷ 8 ∷ []
  -- a label and a variable
  pub block_with_variable : ordered_in_statement labelled ≡ 2 ∷ 4 ∷ []
  -- a default comes where it stands: case (x) default : $strobe("t", x); x : ; endcase
  pub default_where_it_stands : ordered_in_statement case_of_names ≡ 2 ∷ 6 ∷ 10 ∷ 13 ∷ []
  -- and last in the order of the tree
  pub default_last_in_tree : names_in_statement case_of_names ≡ 2 ∷ 13 ∷ 6 ∷ 10 ∷ []
