-- The kinds of an expanded text end with that of its end.
use Rattle.std.specs.Prelude.{◌≡◌, ℕ, List, [], ◌∷◌, ◌++◌, map, refl}
use Rattle.std.proofs.Common.{ap, ◌∙◌}
use Rattle.predict.specs.Sentence.{EndsWith}
use Rattle.va_base.specs.declared.expanded.Expanded.{Expanded}
use Rattle.va_base.specs.declared.file.FileText.{FileText}
use Rattle.va_base.specs.declared.token.Token.{Token}
use Rattle.va_base.specs.declared.token.TokenKind.{TokenKind}
use Rattle.va_base.specs.declared.token.TokenKind.TheVariants.{End}
use Rattle.va_base.specs.Expansion.{IsExpanded, token_bytes}
use Rattle.va_grammar.specs.Kinds.{kind_in, kind_of, kinds_of}
use Rattle.va_grammar.specs.Sets.{va_rules}
use Rattle.va_grammar.specs.Terminals.{terminal_number}

mapped : (f : Token → ℕ) (before : List Token) (end : Token) → map f (before ++ end ∷ []) ≡ map f before ++ f end ∷ []
mapped f [] end = refl
mapped f (t ∷ before) end = ap (λ (l : List ℕ). f t ∷ l) (mapped f before end)

end_kind_of : (files : List FileText) (end : Token) → end.kind ≡ End → kind_in files end ≡ va_rules.end_kind
unfolding va_rules
end_kind_of files end h = ap (λ (k : TokenKind). terminal_number (kind_of k (token_bytes files end))) h

pub kinds_end : (e : Expanded) → IsExpanded e → EndsWith va_rules.end_kind (kinds_of e)
kinds_end e x = (
  map (kind_in e.files) x.before,
  ap (map (kind_in e.files)) x.ends ∙ mapped (kind_in e.files) x.before x.end ∙ ap (λ (k : ℕ). map (kind_in e.files) x.before ++ k ∷ []) (end_kind_of e.files x.end x.end_kind),
)
