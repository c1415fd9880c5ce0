-- Uses of macros (Using a text macro): their lists, their arguments, their bodies.
use Rattle.std.specs.Prelude.{ℕ, zero, suc, ◌+◌, Bool, true, false, ◌==◌, ◌||◌, List, [], ◌∷◌, length, Option, Some, None, Ok, option_map, unwrap_or, if◌then◌else◌, codes}
use Rattle.std.specs.List.{zip, onto_first}
use Rattle.va_base.specs.declared.place.Place.{Place}
use Rattle.va_base.specs.declared.fault.FaultCode.TheVariants.{UnknownMacro, MacroArgs, MacroSelf, MacroDeep, Directive}
use Rattle.va_preproc.specs.Lexemes.{Bytes, Lexeme, Role, line_end, a_directive, a_use, a_name, another, role_of, is_line_end, is_spelled, is_among, found}
use Rattle.va_preproc.specs.Reading.{Macro, State, Step, ◌>>=◌, stopped, read_one, read_some, give, give_all}
use Rattle.va_preproc.specs.Definitions.{Form}

-- What a token is to the list of a use, inside so many open pairs of brackets: the list's own `)`; a comma outside every
-- pair; or a token of an argument, after which so many pairs are open.
pub data Part : Type 0 where
  list_end : Part
  argument_end : Part
  part_of_argument : ℕ → Part

abbrev pub opens : Lexeme → Bool
opens t = is_spelled (codes "(") t || is_spelled (codes "[") t

abbrev pub closes : Lexeme → Bool
closes t = is_spelled (codes ")") t || is_spelled (codes "]") t

-- each `(` or `[` opens a pair, and each `)` or `]` closes the innermost open one, whichever it is; at none a `]` is ordinary
abbrev pub part : ℕ → Lexeme → Part
part zero t =
    if is_spelled (codes ")") t then list_end
    else (if is_spelled (codes ",") t then argument_end
    else part_of_argument (if opens t then 1 else 0))
part (suc pairs) t = part_of_argument (if opens t then suc (suc pairs) else (if closes t then pairs else suc pairs))

-- one token more is read, which does something to the list
abbrev pub one_more : (List (List Lexeme) → List (List Lexeme)) → Form (List (List Lexeme)) → Form (List (List Lexeme))
one_more change form = record { taken = 1 + form.taken; meaning = option_map change form.meaning }

-- the arguments from a token on, and after it inside so many pairs
abbrev pub arguments_from : Part → Lexeme → (ℕ → Form (List (List Lexeme))) → Form (List (List Lexeme))
arguments_from list_end t after = record { taken = 1; meaning = Some ([] ∷ []) }
arguments_from argument_end t after = one_more (λ arguments. [] ∷ arguments) (after 0)
arguments_from (part_of_argument pairs) t after = one_more (onto_first t) (after pairs)

-- the arguments from here on, inside so many pairs, where the list closes
abbrev pub arguments_form : ℕ → List Lexeme → Form (List (List Lexeme))
arguments_form pairs [] = record { taken = 0; meaning = None }
arguments_form pairs (t ∷ rest) = arguments_from (part pairs t) t (λ more. arguments_form more rest)

-- from a token on, that is a line end or not, and `(` or not: what the rest gives as more of the same, and as arguments
abbrev pub list_from : Bool → Bool → (ℕ → Form (List (List Lexeme))) → List Lexeme → Form (List (List Lexeme))
list_from true is_open same rest = one_more (λ arguments. arguments) (same 0)
list_from false true same rest = one_more (λ arguments. arguments) (arguments_form 0 rest)
list_from false false same rest = record { taken = 1; meaning = None }

-- the list of a use: `(` as the next token, line ends aside, and the arguments. Nothing between the parentheses is one empty
-- argument.
abbrev pub list_form : List Lexeme → Form (List (List Lexeme))
list_form [] = record { taken = 0; meaning = None }
list_form (t ∷ rest) = list_from (is_line_end t) (is_spelled (codes "(") t) (λ none. list_form rest) rest

-- Where an argument or a body stands that is expanded.
pub record Inside : Type 0 where
  -- the place of the outermost use, at which faults stand and which the tokens of the result have
  pub outermost : Place
  -- the macros whose bodies are open
  pub opened : List Bytes
  -- the formals of the body, with their expanded arguments
  pub formals : List (Bytes × List Lexeme)

-- What a use does: by where it stands, its macro's name, and the tokens that follow it in its list. It tells how many of
-- those were read.
abbrev pub Use : Type 0
Use = Inside → Bytes → List Lexeme → State → Step (ℕ × State)

-- the same, of a macro that is defined and may be opened
abbrev pub Opened : Type 0
Opened = Inside → Bytes → Macro → List Lexeme → State → Step (ℕ × State)

-- The expansion of an argument or a body, in which uses do so.
module _ (at_use : Use) (i : Inside) where
  -- a name that is a formal gives its expanded argument, which isn't expanded again; another one gives itself
  abbrev pub at_name : Option (List Lexeme) → Lexeme → State → Step State
  at_name None t s = give i.outermost t s
  at_name (Some given) t s = give_all i.outermost given s

  -- no token after this one was read
  abbrev pub no_more : State → Step (ℕ × State)
  no_more s = Ok (0, s)

  -- a directive is refused; line ends give nothing
  abbrev pub at_role : Role → Lexeme → List Lexeme → State → Step (ℕ × State)
  at_role line_end t rest s = no_more s
  at_role (a_directive d) t rest s = stopped Directive i.outermost s
  at_role (a_use macro) t rest s = at_use i macro rest s
  at_role (a_name word) t rest s = at_name (found i.formals word) t s >>= no_more
  at_role another t rest s = give i.outermost t s >>= no_more

  -- from a token of the list on, where so many were read by the use before it
  abbrev pub expand_list : ℕ → List Lexeme → State → Step State
  expand_list taken [] s = Ok s
  expand_list (suc taken) (t ∷ rest) s = expand_list taken rest s
  expand_list zero (t ∷ rest) s =
      read_one i.outermost s >>= at_role (role_of t) t rest >>= λ next. expand_list next.0 rest next.1

-- an argument's expansion: what it gives, and the state, in which tokens are given to where they were before
abbrev pub expand_argument : Use → Inside → List Lexeme → State → Step (List Lexeme × State)
expand_argument at_use i argument s =
    expand_list at_use i 0 argument (record s { argument = Some [] })
    >>= λ after. Ok (unwrap_or after.argument [], record after { argument = s.argument })

-- the arguments of a use are expanded from left to right, where the use stands
abbrev pub expand_arguments : Use → Inside → List (List Lexeme) → State → Step (List (List Lexeme) × State)
expand_arguments at_use i [] s = Ok ([], s)
expand_arguments at_use i (first ∷ more) s =
    expand_argument at_use i first s >>= λ one. expand_arguments at_use i more one.1 >>= λ others. Ok (one.0 ∷ others.0, others.1)

-- then the body is expanded with the macro open
abbrev pub expand_body : Use → Inside → Bytes → List Lexeme → ℕ → List (Bytes × List Lexeme) → State → Step (ℕ × State)
expand_body at_use i macro body taken formals s =
    expand_list at_use (record { outermost = i.outermost; opened = macro ∷ i.opened; formals = formals }) 0 body s
    >>= λ after. Ok (taken, after)

-- as many arguments as formals
abbrev pub matching : List Bytes → Option (List (List Lexeme)) → Option (List (List Lexeme))
matching formals None = None
matching formals (Some arguments) = if length arguments == length formals then Some arguments else None

-- the arguments of a use, where its list has them
abbrev pub with_arguments : Use → Inside → Option (List (List Lexeme)) → State → Step (List (List Lexeme) × State)
with_arguments at_use i None s = stopped MacroArgs i.outermost s
with_arguments at_use i (Some arguments) s = expand_arguments at_use i arguments s

-- a use of a macro without formals, and one of a macro with formals, whose list is read first
abbrev pub by_formals : Use → Inside → Bytes → List Lexeme → Option (List Bytes) → List Lexeme → State → Step (ℕ × State)
by_formals at_use i name body None rest s = expand_body at_use i name body 0 [] s
by_formals at_use i name body (Some formals) rest s =
    let list = list_form rest in
    read_some (λ t. i.outermost) list.taken rest s
    >>= with_arguments at_use i (matching formals list.meaning)
    >>= λ given. expand_body at_use i name body list.taken (zip formals given.0) given.1

-- A use that is open; the uses in its arguments and its body do so.
abbrev pub open_use : Use → Opened
open_use at_use i name macro rest s = by_formals at_use i name macro.body macro.formals rest s

abbrev pub unless_open : Bool → Opened → Inside → Bytes → Macro → List Lexeme → State → Step (ℕ × State)
unless_open true opened i name macro rest s = stopped MacroSelf i.outermost s
unless_open false opened i name macro rest s = opened i name macro rest s

abbrev pub of_macro : Option Macro → Opened → Use
of_macro None opened i name rest s = stopped UnknownMacro i.outermost s
of_macro (Some macro) opened i name rest s = unless_open (is_among i.opened name) opened i name macro rest s

-- a use of what is no macro then, or of a macro whose body is open; else it is opened
abbrev pub checked_use : Opened → Use
checked_use opened i name rest s = of_macro (s.macros name) opened i name rest s

-- A use where so many uses may be open inside each other from here on, itself among them.
abbrev pub use_within : ℕ → Use
use_within zero = checked_use (λ i name macro rest s. stopped MacroDeep i.outermost s)
use_within (suc more) = checked_use (open_use (use_within more))
