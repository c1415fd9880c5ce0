-- What the values of the code are to the definitions of the expansion.
use Rattle.std.specs.Prelude.{◌≡◌, ℕ, Bool, true, false, List, ◌∷◌, map, reverse, Option, option_map, Result, Ok, Err}
use Rattle.std.specs.Borrow.{Bor}
use Rattle.std.specs.Global.{Vec}
use Rattle.std.specs.List.{zip}
use Rattle.std.specs.Str.{bytes_eq}
use Rattle.va_base.specs.declared.file.FileText.{FileText}
use Rattle.va_base.specs.declared.token.Token.{Token}
use Rattle.va_base.specs.declared.fault.Fault.{Fault}
use Rattle.va_base.specs.declared.fault.FaultCode.{FaultCode}
use Rattle.va_base.specs.Expansion.{token_bytes}
use Rattle.indexmap.specs.IndexMap.{IndexMap, get_by}
use Rattle.indexmap.specs.IndexSet.{IndexSet}
use Rattle.va_preproc.specs.declared.directive.Directive.TheVariants.{Include}
use Rattle.va_preproc.specs.declared.known.Macro.{Macro as OwnedMacro}
use Rattle.va_preproc.specs.declared.known.Known.{Known}
use Rattle.va_preproc.specs.declared.progress.Progress.{Progress}
use Rattle.va_preproc.specs.declared.role.Role.{Role as SeenRole}
use Rattle.va_preproc.specs.declared.role.Role.TheVariants as role
use Rattle.va_preproc.specs.Lexemes.{Bytes, Lexeme, Role, line_end, a_directive, a_use, a_name, another}
use Rattle.va_preproc.specs.declared.argument.ArgumentList.{ArgumentList}
use Rattle.va_preproc.specs.declared.argument.Part.{Part as SeenPart}
use Rattle.va_preproc.specs.declared.argument.Part.TheVariants as part
use Rattle.va_preproc.specs.declared.uses.Inside.{Inside as SeenInside}
use Rattle.smallvec.specs.SmallVec.{SmallVec}
use Rattle.va_preproc.specs.declared.condition.Branch.{Branch}
use Rattle.va_preproc.specs.declared.definition.Separator.{Separator as SeenSeparator}
use Rattle.va_preproc.specs.declared.definition.Separator.TheVariants as separator
use Rattle.va_preproc.specs.declared.definition.Formals.{Formals}
use Rattle.va_preproc.specs.declared.definition.Definition.{Definition as SeenDefinition}
use Rattle.va_preproc.specs.Definitions.{Form, Definition, Separator, comma, closing, neither, next_token}
use Rattle.va_preproc.specs.Conditionals.{Onward, open_branch, with_form}
use Rattle.va_preproc.specs.Uses.{Part, list_end, argument_end, part_of_argument, Inside}
use Rattle.va_preproc.specs.Reading.{Macro, Macros, State, Step, ◌>>=◌}

-- a token with the bytes that spell it, among the files by their numbers
abbrev pub lexeme_in : List FileText → Token → Lexeme
lexeme_in files t = record { token = t; bytes = token_bytes files t }

abbrev pub lexemes_in : List FileText → List Token → List Lexeme
lexemes_in files = map (lexeme_in files)

abbrev pub macro_in : List FileText → OwnedMacro → Macro
macro_in files m = record {
  formals = option_map (λ formals. map (λ formal. formal.items) formals.keys) m.formals;
  body = lexemes_in files m.body.items;
}

-- the same of its parts
abbrev pub macro_seen : {S : Type 0} → List FileText → Option (IndexSet (Vec ℕ) S) → List Token → Macro
macro_seen files formals body = record {
  formals = option_map (λ formals. map (λ formal. formal.items) formals.keys) formals;
  body = lexemes_in files body;
}

-- what a token is to the expansion
abbrev pub role_seen : SeenRole → Role
role_seen role.LineEnd = line_end
role_seen (role.Directive directive) = a_directive directive
role_seen (role.Use name) = a_use name.now
role_seen (role.Name name) = a_name name.now
role_seen role.Another = another

-- the macros of a table by their names
abbrev pub macros_in : {S : Type 0} → List FileText → IndexMap (Vec ℕ) OwnedMacro S → Macros
macros_in files table name = option_map (macro_in files) (get_by (λ key. bytes_eq name key.items) table)

-- the macros that are known
abbrev pub macros_of : Known → Macros
macros_of k = macros_in k.files.items k.macros

-- the names of the files that were read
abbrev pub names_of : Known → List Bytes
names_of k = map (λ file. file.name) k.files.items

abbrev pub state_of : Known → Progress → State
state_of k p = record {
  macros = macros_of k;
  asked = names_of k;
  unread = p.unread;
  result = p.result.items;
  free = p.free;
  argument = option_map (λ given. lexemes_in k.files.items given.items) p.argument;
}

-- the step of the expansion that a call follows: it gives what the call gives, as that is seen, or stops at the call's fault,
-- after these names were read
abbrev pub step_of : {T V : Type 0} → (T → V) → List Bytes → Result T Fault → Step V
step_of view asked (Ok x) = Ok (view x)
step_of view asked (Err fault) = Err (record { fault = fault; asked = asked })

-- what a token is to the list of a use
abbrev pub part_seen : SeenPart → Part
part_seen part.ListEnd = list_end
part_seen part.ArgumentEnd = argument_end
part_seen (part.OfArgument pairs) = part_of_argument pairs

-- the arguments of a list, if it has them
abbrev pub arguments_seen : List FileText → Option (Vec (Bor (List Token))) → Option (List (List Lexeme))
arguments_seen files = option_map (λ arguments. map (λ argument. lexemes_in files argument.now) arguments.items)

-- the list of a use
abbrev pub list_seen : List FileText → ArgumentList → Form (List (List Lexeme))
list_seen files list = record {
  taken = list.taken;
  meaning = arguments_seen files list.arguments;
}

-- where an argument or a body stands that is expanded
abbrev pub inside_of : List FileText → SeenInside → Inside
inside_of files i = record {
  outermost = i.outermost;
  opened = map (λ name. name.now) i.opened.now;
  formals = zip (map (λ formal. formal.items) i.formals.now.keys) (map (λ argument. lexemes_in files argument.items) i.arguments.now);
}

-- where the body of a macro stands
abbrev pub body_inside : List FileText → SeenInside → Bytes → List (Vec ℕ) → List (Vec Token) → Inside
body_inside files i name formals arguments = record {
  outermost = i.outermost;
  opened = name ∷ map (λ name. name.now) i.opened.now;
  formals = zip (map (λ formal. formal.items) formals) (map (λ argument. lexemes_in files argument.items) arguments);
}

-- where a file goes on
abbrev pub onward_seen : Known → Progress → SmallVec Branch → ℕ → Onward
onward_seen k p branches taken = record { taken = taken; branches = reverse branches.items; state = state_of k p }

-- the same where the conditionals stay as they are
abbrev pub onward_same : Known → Progress → List Branch → ℕ → Onward
onward_same k p branches taken = record { taken = taken; branches = branches; state = state_of k p }

-- the innermost open conditional, and those that are left, or the fault of a directive that needs one
abbrev pub IsOpenBranch : Lexeme → State → List Bytes → List Branch → List Branch → Result Branch Fault → Type 0
IsOpenBranch t s asked before now result =
    (next : Branch → List Branch → State → Step Onward)
    → open_branch t before s next ≡ (step_of (λ b. b) asked result >>= λ b. next b now s)

-- a directive takes the next token, which has to mean something
abbrev pub next_read : {T : Type 0} → (Lexeme → Option T) → FaultCode → Lexeme → List Lexeme → State → Step (T × State)
next_read read code t rest s = with_form (next_token read rest) code t rest (λ meaning s. Ok (meaning, s)) s

-- what stands after a formal
abbrev pub separator_seen : SeenSeparator → Separator
separator_seen separator.Comma = comma
separator_seen separator.Closing = closing
separator_seen separator.Neither = neither

-- the formals of a definition
abbrev pub formals_seen : Formals → Form (List Bytes)
formals_seen formals = record { taken = formals.taken; meaning = option_map (λ names. map (λ name. name.items) names.keys) formals.names }

-- a definition
abbrev pub definition_seen : List FileText → SeenDefinition → Form Definition
definition_seen files d = record {
  taken = d.taken;
  meaning = option_map (λ name. (name.now, macro_seen files d.formals d.body.now)) d.name;
}

-- a token is an include that is to be read
abbrev pub is_include_by : Role → Bool
is_include_by (a_directive Include) = true
is_include_by _ = false
