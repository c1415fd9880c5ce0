use Rattle.std.proofs.Common.{◌≡◌, sym, ap, ◌∙◌, subst, length}
use Rattle.std.specs.Prelude.{Ok, Some, IfSome, option_map}
use Rattle.std.specs.Borrow.{Bor}
use Rattle.std.proofs.Common.{List, ℕ}
use Rattle.va_preproc.specs.Reading.{Macros}
use Rattle.va_preproc.specs.Definitions.{definition_form}
use Rattle.va_preproc.specs.Values.{state_of, lexeme_in, lexemes_in, definition_seen, macro_seen, macros_of}
use Rattle.va_preproc.proofs.Turns.{define_later}
use Rattle.va_preproc.proofs.Stable.{Low, within_with, defined_within}
use Rattle.va_preproc.proofs.turn.at_define.Goals as goal

pub returns-clause-follows : goal.returns-clause-follows
returns-clause-follows c = λ u i n b.
    let k = c.args.known.now in
    let files = k.files.items in
    let d = c.in_ok-taken.field-0 in
    let s = state_of k c.read_own.new.progress in
    define_later u i n (lexeme_in files c.args.token.now) (lexemes_in files c.args.rest.now) b (state_of k c.args.progress.now) s
    (definition_seen files d) c.in-Some.name.now (macro_seen files d.formals d.body.now)
    (subst (λ f. definition_seen f d ≡ definition_form (lexemes_in f c.args.rest.now)) c.as_slice.ensures.value c.in_ok-taken.ensures)
    (c.in-Ok.ensures k)
    (ap (option_map (λ (name : Bor (List ℕ)). (name.now, macro_seen files d.formals d.body.now))) c.in-Some.is)
    ∙ ap (λ (macros : Macros). Ok (record { taken = d.taken; branches = b; state = record s { macros = macros } })) (sym (c.in_ok-define.ensures files))

pub returns-clause-within : goal.returns-clause-within
returns-clause-within c = λ within low other.
    let k = c.args.known.now in
    let files = k.files.items in
    let d = c.in_ok-taken.field-0 in
    subst (λ (m : Macros). IfSome (m other) (Low (length files))) (sym (c.in_ok-define.ensures files))
    (within_with (length files) c.in-Some.name.now (Some (macro_seen files d.formals d.body.now)) (macros_of k)
    (defined_within files (length files) c.args.rest.now d c.in-Some.name
    (subst (λ f. definition_seen f d ≡ definition_form (lexemes_in f c.args.rest.now)) c.as_slice.ensures.value c.in_ok-taken.ensures)
    c.in-Some.is low) within other)
