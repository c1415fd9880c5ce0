use Rattle.std.proofs.Common.{ap, sym, ◌∙◌, List}
use Rattle.va_base.specs.declared.token.TokenKind.{TokenKind}
use Rattle.va_grammar.specs.Kinds.{kind_of, spelled_among}
use Rattle.va_grammar.specs.Terminals.{keywords, marks}
use Rattle.va_grammar.specs.declared.terminal.Terminal.{Terminal}
use Rattle.va_grammar.specs.declared.terminal.Terminal.TheVariants.{Name, EndOfText}
use Rattle.va_grammar.proofs.Spellings.{among_as_long}
use Rattle.va_grammar.proofs.token_kinds.kind_of.Goals as goal

pub returns-in-Word : goal.returns-in-Word
returns-in-Word c =
    c.spelled.ensures
    ∙ ap (λ (l : List Terminal). spelled_among l c.args.bytes.now Name) c.keywords_of.ensures
    ∙ among_as_long keywords c.args.bytes.now Name
    ∙ sym (ap (λ (k : TokenKind). kind_of k c.args.bytes.now) c.in-Word.is)

pub returns-in-Mark : goal.returns-in-Mark
returns-in-Mark c =
    c.spelled-in-Mark.ensures
    ∙ ap (λ (l : List Terminal). spelled_among l c.args.bytes.now EndOfText) c.marks_of.ensures
    ∙ among_as_long marks c.args.bytes.now EndOfText
    ∙ sym (ap (λ (k : TokenKind). kind_of k c.args.bytes.now) c.in-Mark.is)
