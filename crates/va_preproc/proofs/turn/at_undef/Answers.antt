use Rattle.std.proofs.Common.{sym, ap, ◌∙◌, subst, length}
use Rattle.std.specs.Prelude.{Ok, None, IfSome}
use Rattle.va_preproc.specs.Reading.{Macros}
use Rattle.va_preproc.specs.Definitions.{macro_name, next_token}
use Rattle.va_preproc.specs.Values.{state_of, lexeme_in, lexemes_in, macros_of}
use Rattle.va_preproc.proofs.Turns.{undef_later}
use Rattle.va_preproc.proofs.Stable.{Low, within_with}
use Rattle.va_preproc.proofs.turn.at_undef.Goals as goal

pub returns-clause-follows : goal.returns-clause-follows
returns-clause-follows c = λ u i n b.
    let k = c.args.known.now in
    let files = k.files.items in
    let s = state_of k c.read_next.new.progress in
    undef_later u i n (lexeme_in files c.args.token.now) (lexemes_in files c.args.rest.now) b (state_of k c.args.progress.now) s c.in-Ok.value.now
    (c.in-Ok.ensures k macro_name
    (c.first_macro_name-meaning.ensures ∙ ap (λ f. (next_token macro_name (lexemes_in f c.args.rest.now)).meaning) c.as_slice.ensures.value))
    ∙ ap (λ (macros : Macros). Ok (record { taken = 1; branches = b; state = record s { macros = macros } })) (sym (c.undefine.ensures files))

pub returns-clause-within : goal.returns-clause-within
returns-clause-within c = λ within other.
    let files = c.args.known.now.files.items in
    subst (λ (m : Macros). IfSome (m other) (Low (length files))) (sym (c.undefine.ensures files))
    (within_with (length files) c.in-Ok.value.now None (macros_of c.args.known.now) tt within other)
