-- Rows that were worked out by hand: what small texts expand to, and where which fault stands.
use Rattle.std.specs.Prelude.{◌≡◌, ℕ, zero, suc, List, [], ◌∷◌, ◌++◌, length, codes}
use Rattle.std.specs.Fmt.{decimal}
use Rattle.va_preproc.specs.Lexemes.{Bytes}
use Rattle.va_preproc.specs.Expansion.{limits, reads}
use Rattle.va_preproc.specs.SmallTexts.{no_file, text, fault, file, small, files_give, files_give_within, gives, spots, gives_spots, fault_at}

-- the definitions of so many macros, each but the first of which uses the one before it
abbrev pub chain : ℕ → List Bytes
chain zero = []
chain (suc zero) = codes "`define M0 1" ∷ []
chain (suc (suc n)) = chain (suc n) ++ (codes "`define M" ++ decimal (suc n) ++ codes " `M" ++ decimal n) ∷ []

-- Uses of macros that are in order (Using a text macro).
pub record WorkedUses : Type 0 where
  -- without arguments
  pub plain : gives (codes "`define A 1 + 2" ∷ codes "x = `A;" ∷ []) ≡ text (codes "x = 1 + 2 ;")
  -- two macros are defined at the start, with empty bodies
  pub start : gives (codes "`__VAMS_ENABLE__ x `__VAMS_COMPACT_MODELING__" ∷ []) ≡ text (codes "x")
  -- with an argument
  pub division :
      gives (codes "`define D(x) V(a, c) / x" ∷ codes "<+ `D(r);" ∷ [])
      ≡ text (codes "<+ V ( a , c ) / r ;")
  -- a macro is not open in its own arguments
  pub nested :
      gives (codes "`define MAX2(x, y) ((x) > (y) ? (x) : (y))" ∷ codes "`MAX2(min(1, 2), `MAX2(3, 4))" ∷ [])
      ≡ text (codes "( ( min ( 1 , 2 ) ) > ( ( ( 3 ) > ( 4 ) ? ( 3 ) : ( 4 ) ) ) ? ( min ( 1 , 2 ) ) : ( ( ( 3 ) > ( 4 ) ? ( 3 ) : ( 4 ) ) ) )")
  -- commas inside pairs of brackets part nothing; a pair may open with `[` and close with `)`
  pub pairs :
      gives (codes "`define R(x, y) x y" ∷ codes "`R([0:inf), f[(a,b),c])" ∷ [])
      ≡ text (codes "[ 0 : inf ) f [ ( a , b ) , c ]")
  -- a `]` at which no pair is open is an ordinary token
  pub square_at_none : gives (codes "`define O(x) [x]" ∷ codes "`O(])" ∷ []) ≡ text (codes "[ ] ]")
  -- attribute marks open and close nothing
  pub attribute_marks : gives (codes "`define P(x, y) y x" ∷ codes "`P((*a, b*))" ∷ []) ≡ text (codes "b *) (* a")
  -- nothing between the parentheses is one empty argument
  pub empty_argument : gives (codes "`define O(x) [x]" ∷ codes "`O()" ∷ []) ≡ text (codes "[ ]")
  -- line ends before and inside the list give nothing
  pub over_lines :
      gives (codes "`define O(x) [x]" ∷ codes "`O" ∷ codes "(1" ∷ codes "2)" ∷ [])
      ≡ text (codes "[ 1 2 ]")
  -- what a formal gives is not looked at again
  pub not_again :
      gives (codes "`define P(x, y) y x" ∷ codes "`define Q(x, y) x y" ∷ codes "`P(x, 2) `Q(y, 1)" ∷ [])
      ≡ text (codes "2 x y 1")
  -- a formal in the list of a use in a body
  pub inner_formal :
      gives (codes "`define G(x) <x>" ∷ codes "`define F(x) `G(x)" ∷ codes "`F(7)" ∷ [])
      ≡ text (codes "< 7 >")
  -- a name is the same in both forms of a word
  pub two_forms :
      gives (codes "`define \\A 1" ∷ codes "`define B(x) \\x" ∷ codes "`A `B(2)" ∷ [])
      ≡ text (codes "1 2")
  -- a `(` that does not directly follow the name belongs to the body
  pub space_before_list : gives (codes "`define A (x) y" ∷ codes "`A" ∷ []) ≡ text (codes "( x ) y")
  -- and so does `(*`
  pub attribute_body : gives (codes "`define A(*x*) y" ∷ codes "`A" ∷ []) ≡ text (codes "(* x *) y")
  -- a later definition replaces an earlier one
  pub replaced : gives (codes "`define A 1" ∷ codes "`define A(x) x 2" ∷ codes "`A(3)" ∷ []) ≡ text (codes "3 2")
  -- a use in a body means what is defined where the outermost use stands
  pub late_body :
      gives (codes "`define A `B" ∷ codes "`define B 1" ∷ codes "`A" ∷ codes "`define B 2" ∷ codes "`A" ∷ [])
      ≡ text (codes "1 2")
  -- what follows the name of `undef` is ordinary text, and it may be undefined already
  pub undefined : gives (codes "`define A 1" ∷ codes "`undef A 2" ∷ codes "`undef A 3" ∷ []) ≡ text (codes "2 3")
  -- a Bad token that does not reach the result is not refused
  pub unused_bad : gives (codes "`define K(x) 1" ∷ codes "`K(')" ∷ []) ≡ text (codes "1")
  -- a body that is not used may hold any tokens
  pub unused_body : gives (codes "`define A ' `include `B" ∷ []) ≡ text (codes "")
  -- directives without effect are read to the end of their line
  pub ignored : gives (codes "`timescale 1 ' `define" ∷ codes "x" ∷ []) ≡ text (codes "x")

-- Places: files, lines and columns, the end included.
pub record WorkedPlaces : Type 0 where
  -- tokens of a body have the place of the use; the last place is that of the end
  pub body :
      gives_spots (codes "`define A 1 + 2" ∷ codes "x = `A;" ∷ [])
      ≡ (0, 2, 1) ∷ (0, 2, 3) ∷ (0, 2, 5) ∷ (0, 2, 5) ∷ (0, 2, 5) ∷ (0, 2, 7) ∷ (0, 3, 1) ∷ []
  -- so have tokens of an argument, also where the list stands in the file
  pub argument :
      gives_spots (codes "`define O(x) [x]" ∷ codes " `O(1" ∷ codes " 2) 3" ∷ [])
      ≡ (0, 2, 2) ∷ (0, 2, 2) ∷ (0, 2, 2) ∷ (0, 2, 2) ∷ (0, 3, 5) ∷ (0, 4, 1) ∷ []
  -- and tokens of a use in a body have that of the outermost use
  pub nested :
      gives_spots (codes "`define A 1" ∷ codes "`define B `A `A" ∷ codes "  `B" ∷ [])
      ≡ (0, 3, 3) ∷ (0, 3, 3) ∷ (0, 4, 1) ∷ []
  -- a file that is included has the next number
  pub included :
      spots (small (file (codes "m.va") (codes "`include \"b.h\" x" ∷ codes "y" ∷ []) ∷ file (codes "b.h") (codes " b" ∷ []) ∷ []))
      ≡ (1, 1, 2) ∷ (0, 1, 16) ∷ (0, 2, 1) ∷ (0, 3, 1) ∷ []
  -- a fault tells how many tokens the result had
  pub before_fault :
      fault_at (small (file (codes "m.va") (codes "`define A 1" ∷ codes "x `A" ∷ codes "y `B z" ∷ []) ∷ []))
      ≡ 3

-- Uses that are refused (Using a text macro), at the outermost use.
pub record WorkedRefusals : Type 0 where
  -- a Bad token stands at its place in the result
  pub bad : gives (codes "a b" ∷ codes "c 'd" ∷ []) ≡ fault (codes "m.va:2:3: BadToken")
  pub bad_string : gives (codes "a" ∷ codes "b \"c" ∷ []) ≡ fault (codes "m.va:2:3: BadToken")
  pub bad_body : gives (codes "`define A 1 '" ∷ codes " `A" ∷ []) ≡ fault (codes "m.va:2:2: BadToken")
  -- no macro of that name
  pub unknown : gives (codes "x `NO" ∷ []) ≡ fault (codes "m.va:1:3: UnknownMacro")
  pub unknown_inside : gives (codes "`define A `NO" ∷ codes "`A" ∷ []) ≡ fault (codes "m.va:2:1: UnknownMacro")
  -- all arguments are expanded, unused ones too
  pub unknown_unused : gives (codes "`define K(x) 1" ∷ codes "`K(`NO)" ∷ []) ≡ fault (codes "m.va:2:1: UnknownMacro")
  -- a Bad token of an argument is looked at after the expansion of a later one
  pub bad_after :
      gives (codes "`define P(x, y) y x" ∷ codes "`P(', `NO)" ∷ [])
      ≡ fault (codes "m.va:2:1: UnknownMacro")
  pub undefined :
      gives (codes "`define A 1" ∷ codes "`undef A" ∷ codes "`A" ∷ [])
      ≡ fault (codes "m.va:3:1: UnknownMacro")
  -- no list, a list that is not closed, and other numbers of arguments
  pub no_list : gives (codes "`define O(x) [x]" ∷ codes "x `O 1" ∷ []) ≡ fault (codes "m.va:2:3: MacroArgs")
  pub no_list_at_end : gives (codes "`define O(x) [x]" ∷ codes "`O" ∷ []) ≡ fault (codes "m.va:2:1: MacroArgs")
  pub attribute_list : gives (codes "`define O(x) [x]" ∷ codes "`O(*1*)" ∷ []) ≡ fault (codes "m.va:2:1: MacroArgs")
  pub not_closed : gives (codes "`define O(x) [x]" ∷ codes "`O((1)" ∷ []) ≡ fault (codes "m.va:2:1: MacroArgs")
  pub too_many : gives (codes "`define O(x) [x]" ∷ codes "`O(1, 2)" ∷ []) ≡ fault (codes "m.va:2:1: MacroArgs")
  pub too_few : gives (codes "`define P(x, y) y x" ∷ codes "`P()" ∷ []) ≡ fault (codes "m.va:2:1: MacroArgs")
  -- the list of a use in a body is read in the body as it is written
  pub list_in_body :
      gives (codes "`define D(x) `E x" ∷ codes "`define E(x) x" ∷ codes "`D((1))" ∷ [])
      ≡ fault (codes "m.va:3:1: MacroArgs")
  -- a list closes in the file in which it opens
  pub list_in_other_file :
      files_give (file (codes "m.va") (codes "`include \"b.h\"" ∷ codes "1)" ∷ []) ∷ file (codes "b.h") (codes "`define O(x) [x]" ∷ codes "`O(" ∷ []) ∷ [])
      ≡ fault (codes "b.h:2:1: MacroArgs")
  -- a macro whose body is open
  pub self :
      gives (codes "`define A `B" ∷ codes "`define B `A" ∷ codes "real x;" ∷ codes "analog x = `A;" ∷ [])
      ≡ fault (codes "m.va:4:12: MacroSelf")
  pub self_in_argument :
      gives (codes "`define G(x) x" ∷ codes "`define F(x) `G(`F(1))" ∷ codes "`F(2)" ∷ [])
      ≡ fault (codes "m.va:3:1: MacroSelf")
  -- the first in reading order
  pub unknown_first : gives (codes "`define A `A `NO" ∷ codes "`A" ∷ []) ≡ fault (codes "m.va:2:1: MacroSelf")
  -- a directive in a body or an argument
  pub directive_in_body : gives (codes "`define A `undef A" ∷ codes "`A" ∷ []) ≡ fault (codes "m.va:2:1: Directive")
  pub directive_in_argument :
      gives (codes "`define K(x) 1" ∷ codes "`K(1" ∷ codes "`timescale)" ∷ [])
      ≡ fault (codes "m.va:2:1: Directive")

-- Definitions and includes that are no directives of their form (`define and `undef).
pub record WorkedDirectives : Type 0 where
  pub no_name : gives (codes "x `define" ∷ []) ≡ fault (codes "m.va:1:3: Directive")
  pub number_for_name : gives (codes "`define 1" ∷ []) ≡ fault (codes "m.va:1:1: Directive")
  -- names of directives, the ones without effect and both forms of a word included
  pub own_name : gives (codes "`define include 1" ∷ []) ≡ fault (codes "m.va:1:1: Directive")
  pub own_name_ignored : gives (codes "`define timescale" ∷ []) ≡ fault (codes "m.va:1:1: Directive")
  pub own_name_escaped : gives (codes "`define \\define 1" ∷ []) ≡ fault (codes "m.va:1:1: Directive")
  -- a list of formals is one or more distinct names with commas, closed on the line
  pub no_formals : gives (codes "`define A() 1" ∷ []) ≡ fault (codes "m.va:1:1: Directive")
  pub number_for_formal : gives (codes "`define A(1) 1" ∷ []) ≡ fault (codes "m.va:1:1: Directive")
  pub formal_twice : gives (codes "`define A(x, y, x) 1" ∷ []) ≡ fault (codes "m.va:1:1: Directive")
  pub no_comma : gives (codes "`define A(x y) 1" ∷ []) ≡ fault (codes "m.va:1:1: Directive")
  pub comma_at_end : gives (codes "`define A(x,) 1" ∷ []) ≡ fault (codes "m.va:1:1: Directive")
  pub formals_not_closed : gives (codes "`define A(x, y" ∷ codes ") 1" ∷ []) ≡ fault (codes "m.va:1:1: Directive")
  pub undef_no_name : gives (codes "`undef" ∷ codes "A" ∷ []) ≡ fault (codes "m.va:1:1: Directive")
  pub undef_own_name : gives (codes "`undef define" ∷ []) ≡ fault (codes "m.va:1:1: Directive")
  -- an include takes a string on its line
  pub include_no_string : gives (codes "`include b" ∷ []) ≡ fault (codes "m.va:1:1: Directive")
  pub include_at_line_end : gives (codes "`include" ∷ codes "\"b.h\"" ∷ []) ≡ fault (codes "m.va:1:1: Directive")

-- Conditional text (Conditional compilation).
pub record WorkedConditionals : Type 0 where
  -- skipped text is never refused
  pub skipped : gives (codes "`ifdef NOPE" ∷ codes "it's \"odd" ∷ codes "`endif" ∷ codes "x" ∷ []) ≡ text (codes "x")
  -- the first arm whose name is defined, and no later one; what follows a name is ordinary text
  pub first :
      gives (codes "`define A" ∷ codes "`ifdef A 1" ∷ codes "`elsif A 2" ∷ codes "`else 3" ∷ codes "`endif 4" ∷ [])
      ≡ text (codes "1 4")
  pub second :
      gives (codes "`define A" ∷ codes "`ifdef B 1" ∷ codes "`elsif A 2" ∷ codes "`elsif A 3" ∷ codes "`else 4" ∷ codes "`endif" ∷ [])
      ≡ text (codes "2")
  pub last :
      gives (codes "`ifdef B 1" ∷ codes "`elsif C 2" ∷ codes "`else 3" ∷ codes "`endif" ∷ [])
      ≡ text (codes "3")
  pub not_defined : gives (codes "`ifndef B 1" ∷ codes "`else 2" ∷ codes "`endif" ∷ []) ≡ text (codes "1")
  -- a conditional in skipped text has no arm that is read
  pub inner :
      gives (codes "`ifdef B" ∷ codes "`ifndef C 1" ∷ codes "`elsif C 2" ∷ codes "`else 3" ∷ codes "`endif 4" ∷ codes "`else 5" ∷ codes "`endif" ∷ [])
      ≡ text (codes "5")
  -- a directive of conditional text counts in the line of a skipped definition
  pub skipped_define : gives (codes "`ifdef B" ∷ codes "`define C `endif" ∷ codes "x" ∷ []) ≡ text (codes "x")
  -- and it belongs to the body of one that is not skipped
  pub define_takes : gives (codes "`define C `endif" ∷ codes "x" ∷ []) ≡ text (codes "x")
  -- other directives and uses are not looked at there
  pub skipped_directives :
      gives (codes "`ifdef B" ∷ codes "`define define `include `undef `NO" ∷ codes "`endif" ∷ codes "x" ∷ [])
      ≡ text (codes "x")
  pub start : gives (codes "`ifdef __VAMS_ENABLE__" ∷ codes "x" ∷ codes "`endif" ∷ []) ≡ text (codes "x")
  -- no conditional is open
  pub elsif_alone : gives (codes "`elsif" ∷ []) ≡ fault (codes "m.va:1:1: Conditional")
  pub else_alone : gives (codes "x `else" ∷ []) ≡ fault (codes "m.va:1:3: Conditional")
  pub endif_alone : gives (codes "`ifdef A" ∷ codes "`endif `endif" ∷ []) ≡ fault (codes "m.va:2:8: Conditional")
  -- after `else`
  pub else_twice :
      gives (codes "`ifdef A" ∷ codes "`else" ∷ codes "`else" ∷ [])
      ≡ fault (codes "m.va:3:1: Conditional")
  pub elsif_after_else :
      gives (codes "`ifdef A" ∷ codes "`else" ∷ codes "`elsif A" ∷ [])
      ≡ fault (codes "m.va:3:1: Conditional")
  -- no name on the line, in skipped text too
  pub no_name : gives (codes "`ifdef" ∷ codes "A" ∷ []) ≡ fault (codes "m.va:1:1: Conditional")
  pub number_for_name : gives (codes "`ifndef 1" ∷ []) ≡ fault (codes "m.va:1:1: Conditional")
  pub skipped_no_name :
      gives (codes "`ifdef A" ∷ codes "`ifdef" ∷ codes "`endif" ∷ [])
      ≡ fault (codes "m.va:2:1: Conditional")
  pub elsif_no_name :
      gives (codes "`ifndef A" ∷ codes "`elsif" ∷ codes "`endif" ∷ [])
      ≡ fault (codes "m.va:2:1: Conditional")
  pub skipped_else_twice :
      gives (codes "`ifdef A" ∷ codes "`ifdef B" ∷ codes "`else" ∷ codes "`else" ∷ [])
      ≡ fault (codes "m.va:4:1: Conditional")
  -- a file that ends in an open conditional, at its beginning
  pub open_at_end :
      gives (codes "`ifdef A" ∷ codes "`endif" ∷ codes " `ifdef A" ∷ codes "x `elsif B" ∷ codes "`else" ∷ [])
      ≡ fault (codes "m.va:3:2: Conditional")
  pub inner_open_at_end : gives (codes "`ifdef A" ∷ codes " `ifndef B" ∷ []) ≡ fault (codes "m.va:2:2: Conditional")
  -- conditionals are closed in the file that opens them
  pub closed_elsewhere :
      files_give (file (codes "m.va") (codes "`ifndef A" ∷ codes "`include \"b.h\"" ∷ codes "`endif" ∷ []) ∷ file (codes "b.h") (codes "x `endif" ∷ []) ∷ [])
      ≡ fault (codes "b.h:1:3: Conditional")
  pub opened_elsewhere :
      files_give (file (codes "m.va") (codes "`include \"b.h\"" ∷ codes "`endif" ∷ []) ∷ file (codes "b.h") (codes "`ifdef A" ∷ []) ∷ [])
      ≡ fault (codes "b.h:1:1: Conditional")

-- Includes, and the names that are read (`include).
pub record WorkedIncludes : Type 0 where
  -- the file stands where the directive does, and what follows on the line is read after it
  pub line_goes_on :
      files_give (file (codes "m.va") (codes "a `include \"b.h\" c" ∷ codes "`B d" ∷ []) ∷ file (codes "b.h") (codes "`define B b" ∷ codes "`B" ∷ []) ∷ [])
      ≡ text (codes "a b c b d")
  -- an include in skipped text is not read
  pub skipped :
      files_give (file (codes "m.va") (codes "`ifdef B" ∷ codes "`include \"gone.h\"" ∷ codes "`endif" ∷ codes "x" ∷ []) ∷ [])
      ≡ text (codes "x")
  -- a name is found from the folder of the file that includes
  pub folder :
      files_give (file (codes "d/e/m.va") (codes "`include \"f/b.h\"" ∷ []) ∷ file (codes "d/e/f/b.h") (codes "`include \"c.h\"" ∷ codes "`include \"/g.h\"" ∷ []) ∷ file (codes "d/e/f/c.h") (codes "c" ∷ []) ∷ file (codes "/g.h") (codes "g" ∷ []) ∷ [])
      ≡ text (codes "c g")
  -- no such file
  pub missing :
      files_give (file (codes "m.va") (codes "`include \"gone.h\"" ∷ []) ∷ [])
      ≡ fault (codes "m.va:1:1: MissingInclude")
  -- a 33rd include that is open
  pub itself :
      files_give (file (codes "m.va") (codes "`include \"a.h\"" ∷ []) ∷ file (codes "a.h") (codes "`include \"a.h\"" ∷ []) ∷ [])
      ≡ fault (codes "a.h:1:1: IncludeDeep")
  -- a name that is no UTF-8
  pub no_utf8 : gives ((codes "`include " ++ 34 ∷ 255 ∷ 34 ∷ []) ∷ []) ≡ fault (codes "m.va:1:1: Directive")
  -- there is no main file
  pub no_main : files_give [] ≡ no_file
  -- a file that is included twice is read twice
  pub reads_twice :
      reads (small (file (codes "m.va") (codes "`include \"b.h\" `include \"b.h\"" ∷ []) ∷ file (codes "b.h") (codes "b" ∷ []) ∷ []))
      ≡ codes "m.va" ∷ codes "b.h" ∷ codes "b.h" ∷ []
  -- the name of a missing file is read, and nothing after it
  pub reads_missing :
      reads (small (file (codes "m.va") (codes "`include \"b.h\" `include \"gone.h\" `include \"b.h\"" ∷ []) ∷ file (codes "b.h") (codes "b" ∷ []) ∷ []))
      ≡ codes "m.va" ∷ codes "b.h" ∷ codes "gone.h" ∷ []
  -- nothing is read after a fault
  pub reads_until_fault :
      reads (small (file (codes "m.va") (codes "`include \"b.h\" `NO" ∷ codes "`include \"b.h\"" ∷ []) ∷ file (codes "b.h") (codes "b" ∷ []) ∷ []))
      ≡ codes "m.va" ∷ codes "b.h" ∷ []
  -- a name that is refused before its file is read
  pub reads_deep :
      length (reads (small (file (codes "m.va") (codes "`include \"a.h\"" ∷ []) ∷ file (codes "a.h") (codes "`include \"a.h\"" ∷ []) ∷ [])))
      ≡ 33

-- The limits, by small ones.
pub record WorkedLimits : Type 0 where
  -- tokens that are read, line ends among them
  pub read :
      files_give_within (record limits { read = 5 }) (file (codes "m.va") (codes "a b" ∷ codes "c" ∷ []) ∷ [])
      ≡ text (codes "a b c")
  pub read_past :
      files_give_within (record limits { read = 4 }) (file (codes "m.va") (codes "a b" ∷ codes "c" ∷ []) ∷ [])
      ≡ fault (codes "m.va:2:2: TokensMany")
  -- skipped tokens are read
  pub read_skipped :
      files_give_within (record limits { read = 6 }) (file (codes "m.va") (codes "`ifdef A" ∷ codes "x" ∷ codes "y z" ∷ []) ∷ [])
      ≡ fault (codes "m.va:3:3: TokensMany")
  -- the tokens of a body are read where it is defined and where it is used
  pub read_in_use :
      files_give_within (record limits { read = 9 }) (file (codes "m.va") (codes "`define A 1 2" ∷ codes "`A" ∷ []) ∷ [])
      ≡ text (codes "1 2")
  -- past it, a use is blamed
  pub read_in_use_past :
      files_give_within (record limits { read = 7 }) (file (codes "m.va") (codes "`define A 1 2" ∷ codes " `A" ∷ []) ∷ [])
      ≡ fault (codes "m.va:2:2: TokensMany")
  -- an argument is read in its list and where it is expanded, and what a formal gives is read
  pub read_argument :
      files_give_within (record limits { read = 15 }) (file (codes "m.va") (codes "`define O(x) x" ∷ codes "`O(1)" ∷ []) ∷ [])
      ≡ text (codes "1")
  pub read_argument_past :
      files_give_within (record limits { read = 13 }) (file (codes "m.va") (codes "`define O(x) x" ∷ codes " `O(1)" ∷ []) ∷ [])
      ≡ fault (codes "m.va:2:2: TokensMany")
  -- a token of the list is blamed at the use
  pub read_list_past :
      files_give_within (record limits { read = 9 }) (file (codes "m.va") (codes "`define O(x) x" ∷ codes " `O" ∷ codes "(1)" ∷ []) ∷ [])
      ≡ fault (codes "m.va:2:2: TokensMany")
  -- a token that shows that a directive is not of its form is read first
  pub before_no_name :
      files_give_within (record limits { read = 1 }) (file (codes "m.va") (codes "`ifdef" ∷ codes "A" ∷ []) ∷ [])
      ≡ fault (codes "m.va:1:7: TokensMany")
  pub before_no_list :
      files_give_within (record limits { read = 8 }) (file (codes "m.va") (codes "`define O(x) x" ∷ codes "`O 1" ∷ []) ∷ [])
      ≡ fault (codes "m.va:2:1: TokensMany")
  pub after_no_list :
      files_give_within (record limits { read = 9 }) (file (codes "m.va") (codes "`define O(x) x" ∷ codes "`O 1" ∷ []) ∷ [])
      ≡ fault (codes "m.va:2:1: MacroArgs")
  -- tokens of the result
  pub result :
      files_give_within (record limits { result = 2 }) (file (codes "m.va") (codes "a b" ∷ []) ∷ [])
      ≡ text (codes "a b")
  -- past it, before the token is found Bad
  pub result_past :
      files_give_within (record limits { result = 2 }) (file (codes "m.va") (codes "a b" ∷ codes "'" ∷ []) ∷ [])
      ≡ fault (codes "m.va:2:1: TokensMany")
  -- directives, uses and arguments are not of the result
  pub result_not_taken :
      files_give_within (record limits { result = 2 }) (file (codes "m.va") (codes "a b" ∷ codes "`define A 1" ∷ codes "`define K(x) 1" ∷ codes "`K(2)" ∷ []) ∷ [])
      ≡ fault (codes "m.va:4:1: TokensMany")
  -- macros that double
  pub bomb :
      files_give_within (record limits { result = 15 }) (file (codes "m.va") (codes "`define M0 1 1" ∷ codes "`define M1 `M0 `M0" ∷ codes "`define M2 `M1 `M1" ∷ codes "`define M3 `M2 `M2" ∷ codes " `M3" ∷ []) ∷ [])
      ≡ fault (codes "m.va:5:2: TokensMany")
  -- uses that are open at once
  pub uses :
      files_give_within (record limits { uses = 2 }) (file (codes "m.va") (codes "`define A 1" ∷ codes "`define B `A" ∷ codes "`B" ∷ []) ∷ [])
      ≡ text (codes "1")
  pub uses_past :
      files_give_within (record limits { uses = 2 }) (file (codes "m.va") (codes "`define A 1" ∷ codes "`define B `A" ∷ codes "`define C `B" ∷ codes "`C" ∷ []) ∷ [])
      ≡ fault (codes "m.va:4:1: MacroDeep")
  -- a use is open while its arguments are expanded
  pub uses_in_argument :
      files_give_within (record limits { uses = 2 }) (file (codes "m.va") (codes "`define O(x) [x]" ∷ codes "`O(`O(`O(1)))" ∷ []) ∷ [])
      ≡ fault (codes "m.va:2:1: MacroDeep")
  -- a macro that is open or unknown comes first
  pub self_before_deep :
      files_give_within (record limits { uses = 1 }) (file (codes "m.va") (codes "`define A `A" ∷ codes "`A" ∷ []) ∷ [])
      ≡ fault (codes "m.va:2:1: MacroSelf")
  pub unknown_before_deep :
      files_give_within (record limits { uses = 1 }) (file (codes "m.va") (codes "`define A `NO" ∷ codes "`A" ∷ []) ∷ [])
      ≡ fault (codes "m.va:2:1: UnknownMacro")
  -- includes that are open at once, the main file aside
  pub includes :
      files_give_within (record limits { includes = 2 }) (file (codes "m.va") (codes "`include \"b.h\"" ∷ []) ∷ file (codes "b.h") (codes "`include \"c.h\"" ∷ []) ∷ file (codes "c.h") (codes "c" ∷ []) ∷ [])
      ≡ text (codes "c")
  -- past it, before the file is read
  pub includes_past :
      files_give_within (record limits { includes = 1 }) (file (codes "m.va") (codes "`include \"b.h\"" ∷ []) ∷ file (codes "b.h") (codes " `include \"c.h\"" ∷ []) ∷ [])
      ≡ fault (codes "b.h:1:2: IncludeDeep")
  pub string_before_deep :
      files_give_within (record limits { includes = 1 }) (file (codes "m.va") (codes "`include \"b.h\"" ∷ []) ∷ file (codes "b.h") (codes "`include c" ∷ []) ∷ [])
      ≡ fault (codes "b.h:1:1: Directive")
  -- bytes of a file
  pub bytes :
      files_give_within (record limits { bytes = 15 }) (file (codes "m.va") (codes "`include \"b.h\"" ∷ []) ∷ file (codes "b.h") (codes "b" ∷ []) ∷ [])
      ≡ text (codes "b")
  pub bytes_past :
      files_give_within (record limits { bytes = 14 }) (file (codes "m.va") (codes "`include \"b.h\"" ∷ []) ∷ [])
      ≡ fault (codes "m.va:1:1: FileLarge")
  pub bytes_past_include :
      files_give_within (record limits { bytes = 17 }) (file (codes "m.va") (codes "x `include \"b.h\"" ∷ []) ∷ file (codes "b.h") (codes "" ∷ codes "b c d e f g h i j" ∷ []) ∷ [])
      ≡ fault (codes "b.h:1:1: FileLarge")
  -- 64 uses that are open at once, and 65
  pub deepest : gives (chain 64 ++ codes "`M63" ∷ []) ≡ text (codes "1")
  pub too_deep : gives (chain 65 ++ codes "`M64" ∷ []) ≡ fault (codes "m.va:66:1: MacroDeep")
