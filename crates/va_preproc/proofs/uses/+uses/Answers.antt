use Rattle.std.proofs.Common.{◌≡◌, ◌+◌, ℕ, List, sym, ap, ◌∙◌, drop, subst}
use Rattle.std.specs.Borrow.{Bor}
use Rattle.std.specs.Prelude.{map, Ok}
use Rattle.std.specs.Global.{Vec}
use Rattle.va_base.specs.declared.token.Token.{Token}
use Rattle.va_preproc.specs.Lexemes.{role_of}
use Rattle.va_preproc.specs.Reading.{◌>>=◌}
use Rattle.va_preproc.specs.Uses.{use_within, list_form, expand_arguments, expand_list, no_more}
use Rattle.va_preproc.specs.Values.{step_of, state_of, lexeme_in, lexemes_in, inside_of, body_inside, list_seen}
use Rattle.va_preproc.proofs.Following.{stop_then}
use Rattle.va_preproc.proofs.Lists.{map_push}
use Rattle.va_preproc.proofs.Loops.{no_token}
use Rattle.va_preproc.proofs.UseTurns.{onto, onto_none, arguments_preserved, arguments_stop, arguments_end, list_turn, list_preserved, at_a_name, with_list, rest_all}
use Rattle.va_preproc.proofs.uses.+uses.Goals as goal

pub expand_arguments-loop-argument-init : goal.expand_arguments-loop-argument-init
expand_arguments-loop-argument-init t c =
    let files = c.args.known.now.files.items in
    let seen = λ (argument : Vec Token). lexemes_in files argument.items in
    ap (λ (all : List (Vec Token)). expand_arguments (use_within c.args.inside.now.depth) (inside_of files c.args.inside.now)
    (map (λ (argument : Bor (List Token)). lexemes_in files argument.now) c.args.arguments.now) (state_of c.args.known.now c.args.progress.now) >>= onto (map seen all)) c.new-all.ensures.items
    ∙ onto_none _

pub expand_arguments-returns-in-Err : goal.expand_arguments-returns-in-Err
expand_arguments-returns-in-Err t c =
    let files = c.args.known.now.files.items in
    let seen = λ (argument : Vec Token). lexemes_in files argument.items in
    arguments_stop (use_within c.args.inside.now.depth) (inside_of files c.args.inside.now) files (map seen c.loop-argument.all.items)
    c.args.arguments.now c.loop-argument.argument-index _ (state_of c.args.known.now c.loop-argument.progress) _ _ c.loop-argument-test.true
    (c.in_ok-value.ensures ∙ ap (step_of _ _) c.in-Err.is) c.loop-argument.invariant

pub expand_arguments-loop-argument-preserved : goal.expand_arguments-loop-argument-preserved
expand_arguments-loop-argument-preserved t c =
    let files = c.args.known.now.files.items in
    let seen = λ (argument : Vec Token). lexemes_in files argument.items in
    ap (λ done. expand_arguments (use_within c.args.inside.now.depth) (inside_of files c.args.inside.now)
    (map (λ (argument : Bor (List Token)). lexemes_in files argument.now) (drop (c.loop-argument.argument-index + 1) c.args.arguments.now)) (state_of c.args.known.now c.expand_argument.new.progress) >>= onto done)
    (ap (map seen) c.in_ok-push.ensures.items ∙ map_push seen c.loop-argument.all.items _)
    ∙ arguments_preserved (use_within c.args.inside.now.depth) (inside_of files c.args.inside.now) files (map seen c.loop-argument.all.items)
    c.args.arguments.now c.loop-argument.argument-index _ (state_of c.args.known.now c.loop-argument.progress) _ _ _ c.loop-argument-test.true
    (c.in_ok-value.ensures ∙ ap (step_of _ _) c.in-Ok.is) c.loop-argument.invariant

pub expand_arguments-returns : goal.expand_arguments-returns
expand_arguments-returns t c =
    let files = c.args.known.now.files.items in
    let seen = λ (argument : Vec Token). lexemes_in files argument.items in
    arguments_end (use_within c.args.inside.now.depth) (inside_of files c.args.inside.now) files (map seen c.loop-argument.all.items)
    c.args.arguments.now c.loop-argument.argument-index (state_of c.args.known.now c.loop-argument.progress) _ c.loop-argument-test.false
    c.loop-argument.invariant

pub expand_list-returns-in-Err : goal.expand_list-returns-in-Err
expand_list-returns-in-Err t c =
    let files = c.args.known.now.files.items in
    sym c.tokens.invariant
    ∙ list_turn (use_within c.args.inside.now.depth) (inside_of files c.args.inside.now) files c.args.tokens.now c.tokens.at no_token (state_of c.args.known.now c.tokens.progress) c.tokens-test.true
    ∙ stop_then _ _ _ (stop_then _ _ _ (c.in-Err.ensures c.args.known.now))

pub expand_list-tokens-preserved : goal.expand_list-tokens-preserved
expand_list-tokens-preserved t c =
    let files = c.args.known.now.files.items in
    list_preserved (use_within c.args.inside.now.depth) (inside_of files c.args.inside.now) files c.args.tokens.now _ c.tokens.at c.in-Ok-2.value _ no_token
    (state_of c.args.known.now c.tokens.progress) (state_of c.args.known.now c.read_one.new.progress) (state_of c.args.known.now c.expand_token.new.progress) _
    c.tokens-test.true (rest_all (c.tokens.at + 1) c.args.tokens.now) (ap (λ m. c.tokens.at + (1 + m)) c.min.ensures) (c.in-Ok.ensures c.args.known.now)
    (c.in_ok-value.ensures ∙ ap (step_of _ _) c.in-Ok-2.is) c.tokens.invariant

pub expand_with_list-returns-in-Err-3 : goal.expand_with_list-returns-in-Err-3
expand_with_list-returns-in-Err-3 t c =
    let files = c.args.known.now.files.items in
    let at_use = use_within c.args.inside.now.depth in
    let i = inside_of files c.args.inside.now in
    let see = λ (argument : Bor (List Token)). lexemes_in files argument.now in
    let formals = map (λ (formal : Vec ℕ). formal.items) c.args.formals.now.keys in
    with_list at_use i c.args.name.now (lexemes_in files c.args.body.now) formals (lexemes_in files c.args.rest.now)
    (state_of c.args.known.now c.args.progress.now) (state_of c.args.known.now c.read_at.new.progress) (state_of c.args.known.now c.expand_arguments.new.progress)
    (list_seen files c.in_ok-taken.field-0) (map see c.in-Some.arguments.items) _
    (subst (λ f. list_seen f c.in_ok-taken.field-0 ≡ list_form (lexemes_in f c.args.rest.now)) c.as_slice.ensures.value c.in_ok-taken.ensures.arguments)
    (c.in-Ok.ensures c.args.known.now)
    (c.in-Some.ensures files)
    (ap (λ l. expand_arguments at_use i (map see l) (state_of c.args.known.now c.read_at.new.progress)) (sym c.as_slice-2.ensures.value)
    ∙ c.in_ok-value.ensures ∙ ap (step_of _ _) c.in-Ok-2.is)
    ∙ ap (λ step. step >>= λ after. Ok (c.in_ok-taken.field-0.taken, after))
    (ap (λ l. expand_list at_use (body_inside files c.args.inside.now c.args.name.now c.args.formals.now.keys l) 0 (lexemes_in files c.args.body.now) (state_of c.args.known.now c.expand_arguments.new.progress))
    (sym c.as_slice-3.ensures.value) ∙ c.in_ok-value-2.ensures ∙ ap (step_of _ _) c.in-Err-3.is)

pub expand_with_list-returns : goal.expand_with_list-returns
expand_with_list-returns t c =
    let files = c.args.known.now.files.items in
    let at_use = use_within c.args.inside.now.depth in
    let i = inside_of files c.args.inside.now in
    let see = λ (argument : Bor (List Token)). lexemes_in files argument.now in
    let formals = map (λ (formal : Vec ℕ). formal.items) c.args.formals.now.keys in
    with_list at_use i c.args.name.now (lexemes_in files c.args.body.now) formals (lexemes_in files c.args.rest.now)
    (state_of c.args.known.now c.args.progress.now) (state_of c.args.known.now c.read_at.new.progress) (state_of c.args.known.now c.expand_arguments.new.progress)
    (list_seen files c.in_ok-taken.field-0) (map see c.in-Some.arguments.items) _
    (subst (λ f. list_seen f c.in_ok-taken.field-0 ≡ list_form (lexemes_in f c.args.rest.now)) c.as_slice.ensures.value c.in_ok-taken.ensures.arguments)
    (c.in-Ok.ensures c.args.known.now)
    (c.in-Some.ensures files)
    (ap (λ l. expand_arguments at_use i (map see l) (state_of c.args.known.now c.read_at.new.progress)) (sym c.as_slice-2.ensures.value)
    ∙ c.in_ok-value.ensures ∙ ap (step_of _ _) c.in-Ok-2.is)
    ∙ ap (λ step. step >>= λ after. Ok (c.in_ok-taken.field-0.taken, after))
    (ap (λ l. expand_list at_use (body_inside files c.args.inside.now c.args.name.now c.args.formals.now.keys l) 0 (lexemes_in files c.args.body.now) (state_of c.args.known.now c.expand_arguments.new.progress))
    (sym c.as_slice-3.ensures.value) ∙ c.in_ok-value-2.ensures ∙ ap (step_of _ _) c.in-Ok-3.is)

pub expand_token-returns-in-Err-2 : goal.expand_token-returns-in-Err-2
expand_token-returns-in-Err-2 t c =
    let files = c.args.known.now.files.items in
    let at_use = use_within c.args.inside.now.depth in
    let i = inside_of files c.args.inside.now in
    at_a_name at_use i (role_of (lexeme_in files c.args.token.now)) c.in-Name.name.now _ (lexeme_in files c.args.token.now) (lexemes_in files c.args.rest.now) _
    (c.in-Name.ensures ∙ ap (λ f. role_of (lexeme_in f c.args.token.now)) c.as_slice.ensures.value) (c.argument_of-argument.ensures files)
    ∙ ap (λ step. step >>= no_more at_use i) (c.in_ok-value-in-Name.ensures c.args.known.now at_use ∙ ap (step_of _ _) c.in-Err-2.is)

pub expand_token-returns-in-Ok-2 : goal.expand_token-returns-in-Ok-2
expand_token-returns-in-Ok-2 t c =
    let files = c.args.known.now.files.items in
    let at_use = use_within c.args.inside.now.depth in
    let i = inside_of files c.args.inside.now in
    at_a_name at_use i (role_of (lexeme_in files c.args.token.now)) c.in-Name.name.now _ (lexeme_in files c.args.token.now) (lexemes_in files c.args.rest.now) _
    (c.in-Name.ensures ∙ ap (λ f. role_of (lexeme_in f c.args.token.now)) c.as_slice.ensures.value) (c.argument_of-argument.ensures files)
    ∙ ap (λ step. step >>= no_more at_use i) (c.in_ok-value-in-Name.ensures c.args.known.now at_use ∙ ap (step_of _ _) c.in-Ok-2.is)
