use Rattle.std.proofs.Common.{◌≡◌, List, Some, ap, subst, sym, ◌∙◌}
use Rattle.std.specs.Prelude.{slice_get}
use Rattle.std.proofs.lemmas.Option.{slice_get-get_or}
use Rattle.va_base.proofs.Longest.{some_same}
use Rattle.c_tree.specs.declared.token.CToken.{CToken}
use Rattle.c_syntax.specs.grammar.Kinds.{kind_of}
use Rattle.c_raw_build.specs.Due.{IsOfKind}
use Rattle.c_raw_build.specs.Words.{CText}
use Rattle.c_raw_build.proofs.TokenValues.{kind_given}
use Rattle.c_raw_build.proofs.text.Text.module_number.Goals as goal

pub module_number-requires-clause-of_kind : goal.module_number-requires-clause-of_kind
module_number-requires-clause-of_kind c =
    let w = c.word-word.result.now in
    let tokens : c.self.inside.tokens.now ≡ c.args.self.now.tokens = ap (λ (text : CText). text.tokens) c.self.view_is in
    let found = slice_get-get_or c.self.inside.tokens.now c.args.at c.in-Some.token.now c.in-Some.ensures.lookup.3.0 ∙ ap Some (sym c.in-Some.ensures.lookup.1) in
    let same : c.in-Some.token.now ≡ c.requires.has.token = some_same (sym found ∙ ap (λ (l : List CToken). slice_get l c.args.at) tokens ∙ c.requires.has.there) in
    let kind : c.kind_of-kind.result ≡ kind_of c.requires.has.token.kind w = c.kind_of-kind.ensures ∙ ap (λ (t : CToken). kind_of t.kind w) same in
    subst (λ k. IsOfKind k w) (sym kind) (kind_given w c.requires.has c.word-word.ensures)
