-- What is read of the tokens of a text: names, strings and numerals; and the operators that kinds stand for.
use Rattle.std.specs.Prelude.{ℕ, ◌-◌, ◌==◌, ◌&&◌, nat_lt, pos, Bool, if◌then◌else◌, List, [], ◌∷◌, take, drop, length, Option, Some, None, slice_get, unwrap_or}
use Rattle.std.specs.List.{list_all}
use Rattle.va_base.specs.declared.exact.Decimal.{Decimal}
use Rattle.va_base.specs.declared.expanded.Expanded.{Expanded}
use Rattle.va_base.specs.declared.token.Token.{Token}
use Rattle.va_base.specs.declared.token.TokenKind.{TokenKind}
use Rattle.va_base.specs.declared.token.TokenKind.TheVariants.{Word, System, Tick, Number, Text, Mark, Newline, Bad, End}
use Rattle.va_base.specs.Expansion.{token_bytes}
use Rattle.va_base.specs.Numerals.{decimal_of}
use Rattle.va_base.specs.Spelling.{is_digit_byte}
use Rattle.va_tree.specs.declared.expr.UnaryOp.{UnaryOp}
use Rattle.va_tree.specs.declared.expr.UnaryOp.TheVariants as unary
use Rattle.va_tree.specs.declared.expr.BinaryOp.{BinaryOp}
use Rattle.va_tree.specs.declared.expr.BinaryOp.TheVariants as binary
use Rattle.va_tree.specs.declared.expr.Expr.{Expr}
use Rattle.va_tree.specs.declared.expr.Expr.TheVariants.{Literal}
use Rattle.va_tree.specs.declared.name.NameAt.{NameAt}
use Rattle.va_grammar.specs.Terminals.{terminal_number}
use Rattle.va_grammar.specs.declared.terminal.Terminal.{Terminal}
use Rattle.va_grammar.specs.declared.terminal.Terminal.TheVariants as kind

-- a word without the `\` of its escaped form
abbrev pub word_name : List ℕ → List ℕ
word_name [] = []
word_name (byte ∷ rest) = if byte == 92 then rest else byte ∷ rest

-- what names a thing: a word without its `\`, a system name with its `$`, and a string between its quotes
abbrev pub name_of : TokenKind → List ℕ → List ℕ
name_of Word bytes = word_name bytes
name_of Text bytes = take (length bytes - 2) (drop 1 bytes)
name_of System bytes = bytes
name_of Tick bytes = bytes
name_of Number bytes = bytes
name_of Mark bytes = bytes
name_of Newline bytes = bytes
name_of Bad bytes = bytes
name_of End bytes = bytes

abbrev pub name_of_token : Expanded → Option Token → List ℕ
name_of_token e None = []
name_of_token e (Some token) = name_of token.kind (token_bytes e.files token)

-- the name or string at the token with this index
abbrev pub name_at : Expanded → ℕ → List ℕ
name_at e at = name_of_token e (slice_get e.tokens at)

-- with its index
abbrev pub named : Expanded → ℕ → NameAt
named e at = record { at = at; name = name_at e at }

abbrev pub bytes_of_token : Expanded → Option Token → List ℕ
bytes_of_token e None = []
bytes_of_token e (Some token) = token_bytes e.files token

-- the bytes of the token with this index
abbrev pub bytes_at : Expanded → ℕ → List ℕ
bytes_at e at = bytes_of_token e (slice_get e.tokens at)

-- A numeral of digits alone is an integer, where it is at most 2147483647; every other is real (Numbers).
abbrev pub is_integer : List ℕ → Decimal → Bool
is_integer bytes value = list_all is_digit_byte bytes && nat_lt value.mantissa 2147483648

abbrev pub number_zero : Decimal
number_zero = record { mantissa = 0; power = pos 0 }

-- the exact value of the numeral at a token
abbrev pub value_at : Expanded → ℕ → Decimal
value_at e at = unwrap_or (decimal_of (bytes_at e at)) number_zero

-- the numeral at a token
abbrev pub literal_at : Expanded → ℕ → Expr
literal_at e at = Literal at (value_at e at) (is_integer (bytes_at e at) (value_at e at))

-- whether a number is that of a kind
abbrev pub is_kind : ℕ → Terminal → Bool
is_kind k terminal = k == terminal_number terminal

-- a sign, or the logical not, by its kind
abbrev pub unary_op : ℕ → UnaryOp
unary_op k = if is_kind k kind.Plus then unary.Plus else (if is_kind k kind.Minus then unary.Minus else unary.Not)

-- an operator between two operands, by its kind
abbrev pub binary_op : ℕ → BinaryOp
binary_op k =
    if is_kind k kind.OrOr then binary.Or
    else (if is_kind k kind.AndAnd then binary.And
    else (if is_kind k kind.EqualTo then binary.Equal
    else (if is_kind k kind.NotEqualTo then binary.NotEqual
    else (if is_kind k kind.Less then binary.Less
    else (if is_kind k kind.LessOrEqual then binary.AtMost
    else (if is_kind k kind.Greater then binary.Greater
    else (if is_kind k kind.GreaterOrEqual then binary.AtLeast
    else (if is_kind k kind.Plus then binary.Add
    else (if is_kind k kind.Minus then binary.Subtract
    else (if is_kind k kind.Times then binary.Multiply
    else (if is_kind k kind.DividedBy then binary.Divide
    else (if is_kind k kind.Modulo then binary.Remainder
    else binary.Power))))))))))))
