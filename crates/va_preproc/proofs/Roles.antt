-- The kinds of tokens and their roles.
use Rattle.std.proofs.Common.{◌≡◌, refl, true, false}
use Rattle.std.specs.Prelude.{Option, Some, None, drop}
use Rattle.va_base.specs.declared.token.TokenKind.{TokenKind}
use Rattle.va_base.specs.declared.token.TokenKind.TheVariants.{Word, System, Tick, Number, Text, Mark, Newline, Bad, End}
use Rattle.va_preproc.specs.declared.directive.Directive.{Directive}
use Rattle.va_preproc.specs.Lexemes.{Bytes, is_line_end_by, role_by, tick_role, directive_of}

tick_ends_no_line : (o : Option Directive) (name : Bytes) → is_line_end_by (tick_role o name) ≡ false
tick_ends_no_line None name = refl
tick_ends_no_line (Some d) name = refl

pub line_end_kind : (kind : TokenKind) (bytes : Bytes) → kind ≡ Newline → is_line_end_by (role_by kind bytes) ≡ true
line_end_kind Word bytes e = cc
line_end_kind System bytes e = cc
line_end_kind Tick bytes e = cc
line_end_kind Number bytes e = cc
line_end_kind Text bytes e = cc
line_end_kind Mark bytes e = cc
line_end_kind Newline bytes e = refl
line_end_kind Bad bytes e = cc
line_end_kind End bytes e = cc

pub other_kind : (kind : TokenKind) (bytes : Bytes) → (kind ≡ Newline → ⊥) → is_line_end_by (role_by kind bytes) ≡ false
other_kind Word bytes h = refl
other_kind System bytes h = refl
other_kind Tick bytes h = tick_ends_no_line (directive_of (drop 1 bytes)) (drop 1 bytes)
other_kind Number bytes h = refl
other_kind Text bytes h = refl
other_kind Mark bytes h = refl
other_kind Newline bytes h = absurd (h refl)
other_kind Bad bytes h = refl
other_kind End bytes h = refl
