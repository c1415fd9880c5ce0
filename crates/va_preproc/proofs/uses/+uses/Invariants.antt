use Rattle.std.proofs.Common.{◌≡◌, ◌+◌, ◌*◌, ◌-◌, ◌++◌, drop, length, Ok, List}
use Rattle.std.specs.Prelude.{map}
use Rattle.va_base.specs.declared.token.Token.{Token}
use Rattle.std.specs.Borrow.{Bor}
use Rattle.std.specs.Global.{Vec}
use Rattle.va_preproc.specs.Reading.{◌>>=◌}
use Rattle.va_preproc.specs.Uses.{expand_list, expand_arguments, use_within}
use Rattle.va_preproc.specs.Values.{state_of, lexemes_in, inside_of}
use Rattle.va_preproc.proofs.uses.+uses.Given as goal

abbrev pub decreases-expand_use : goal.decreases-expand_use
decreases-expand_use l = 8 * l.inside.now.depth

abbrev pub decreases-expand_token : goal.decreases-expand_token
decreases-expand_token l = 8 * l.inside.now.depth + 1

abbrev pub decreases-expand_list : goal.decreases-expand_list
decreases-expand_list l = 8 * l.inside.now.depth + 2

abbrev pub decreases-expand_argument : goal.decreases-expand_argument
decreases-expand_argument l = 8 * l.inside.now.depth + 3

abbrev pub decreases-expand_body : goal.decreases-expand_body
decreases-expand_body l = 8 * l.inside.now.depth + 3

abbrev pub decreases-expand_arguments : goal.decreases-expand_arguments
decreases-expand_arguments l = 8 * l.inside.now.depth + 4

abbrev pub decreases-expand_with_list : goal.decreases-expand_with_list
decreases-expand_with_list l = 8 * l.inside.now.depth + 5

abbrev pub decreases-open_use : goal.decreases-open_use
decreases-open_use l = 8 * l.inside.now.depth + 6

-- what is left of the list gives the rest of what the whole list gives
abbrev pub invariant-expand_list-tokens : goal.invariant-expand_list-tokens
invariant-expand_list-tokens l =
    let files = l.fn.known.files.items in
    let at_use = use_within l.fn.inside.depth in
    let inside = inside_of files l.fn.inside in
    expand_list at_use inside 0 (lexemes_in files (drop l.at l.fn.tokens)) (state_of l.fn.known l.progress)
    ≡ expand_list at_use inside 0 (lexemes_in files l.fn.tokens) (state_of l.fn.known l.initial.progress)

abbrev pub decreases-expand_list-tokens : goal.decreases-expand_list-tokens
decreases-expand_list-tokens l = length l.fn.tokens - l.at

-- the arguments so far, and those that are left
abbrev pub invariant-expand_arguments-loop-argument : goal.invariant-expand_arguments-loop-argument
invariant-expand_arguments-loop-argument l =
    let files = l.fn.known.files.items in
    let at_use = use_within l.fn.inside.depth in
    let inside = inside_of files l.fn.inside in
    let see = λ (argument : Bor (List Token)). lexemes_in files argument.now in
    let seen = λ (argument : Vec Token). lexemes_in files argument.items in
    (expand_arguments at_use inside (map see (drop l.argument-index l.fn.arguments)) (state_of l.fn.known l.progress)
    >>= λ others. Ok (map seen l.all.items ++ others.0, others.1))
    ≡ expand_arguments at_use inside (map see l.fn.arguments) (state_of l.fn.known l.initial.progress)
