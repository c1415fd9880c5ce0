-- The loops of the expansion, a turn at a time.
use Rattle.std.proofs.Common.{◌≡◌, ◌<◌, ◌≤◌, ◌+◌, ◌-◌, ℕ, zero, suc, List, [], ◌∷◌, length, drop, get_or, min, refl, sym, ap, subst, ◌∙◌, arith}
use Rattle.std.proofs.lemmas.List.{drop_more, length-map}
use Rattle.std.specs.Prelude.{Ok}
use Rattle.va_base.specs.declared.file.FileText.{FileText}
use Rattle.va_base.specs.declared.fault.FaultCode.TheVariants.{TokensMany}
use Rattle.va_base.specs.declared.place.Place.{Place}
use Rattle.va_base.specs.declared.token.Token.{Token}
use Rattle.va_base.specs.declared.token.TokenKind.TheVariants.{Word}
use Rattle.va_preproc.specs.Lexemes.{Lexeme}
use Rattle.va_preproc.specs.Reading.{State, ◌>>=◌, stopped, read_one, read_some, give, give_all}
use Rattle.va_preproc.specs.Values.{lexeme_in, lexemes_in}
use Rattle.va_preproc.proofs.Following.{regroup}

-- any token, where a list has none
abbrev pub no_token : Token
no_token = record { kind = Word; file = 0; first = 0; len = 0; place = record { file = 0; line = 0; col = 0 } }

-- the lexemes from an index on
pub lexemes_more : (files : List FileText) (ts : List Token) (i : ℕ) (d : Token) → i < length ts
    → lexemes_in files (drop i ts) ≡ lexeme_in files (get_or ts i d) ∷ lexemes_in files (drop (i + 1) ts)
lexemes_more files ts i d h = ap (lexemes_in files) (drop_more ts i d h)

pub give_all_turn : (files : List FileText) (place : Place) (ts : List Token) (i : ℕ) (d : Token) (s : State) → i < length ts
    → give_all place (lexemes_in files (drop i ts)) s
    ≡ (read_one place s >>= λ v. give place (lexeme_in files (get_or ts i d)) v >>= give_all place (lexemes_in files (drop (i + 1) ts)))
give_all_turn files place ts i d s h =
    ap (λ t. give_all place t s) (lexemes_more files ts i d h)
    ∙ regroup (read_one place s) (give place (lexeme_in files (get_or ts i d))) (give_all place (lexemes_in files (drop (i + 1) ts)))

-- so many tokens are read where so many may be
enough_of : (blamed : Lexeme → Place) (n : ℕ) (ts : List Lexeme) (u : ℕ) (s : State) → min n (length ts) ≤ u
    → read_some blamed n ts (record s { unread = u }) ≡ Ok (record s { unread = u - min n (length ts) })
enough_of blamed n [] u s h = ap (λ v. Ok (record s { unread = v })) less
  where
    less : u ≡ u - min n 0
    less = omega arith
enough_of blamed zero (t ∷ ts) u s h = ap (λ v. Ok (record s { unread = v })) less
  where
    less : u ≡ u - min 0 (suc (length ts))
    less = omega arith
enough_of blamed (suc n) (t ∷ ts) zero s h = absurd (omega arith)
enough_of blamed (suc n) (t ∷ ts) (suc u) s h =
    enough_of blamed n ts u s (omega arith) ∙ ap (λ v. Ok (record s { unread = v })) less
  where
    less : u - min n (length ts) ≡ suc u - min (suc n) (suc (length ts))
    less = omega arith

pub enough : (blamed : Lexeme → Place) (files : List FileText) (n m : ℕ) (ts : List Token) (s : State) → m ≡ min n (length ts)
    → m ≤ s.unread → read_some blamed n (lexemes_in files ts) s ≡ Ok (record s { unread = s.unread - m })
enough blamed files n m ts s e h =
    enough_of blamed n (lexemes_in files ts) s.unread s (subst (λ v. v ≤ s.unread) same h)
    ∙ ap (λ v. Ok (record s { unread = s.unread - v })) (sym same)
  where
    same : m ≡ min n (length (lexemes_in files ts))
    same = e ∙ ap (min n) (sym (length-map ts (lexeme_in files)))

-- the first token past them is blamed
short_of : (blamed : Lexeme → Place) (files : List FileText) (n : ℕ) (ts : List Token) (u : ℕ) (d : Token) (s : State) → u < min n (length ts)
    → read_some blamed n (lexemes_in files ts) (record s { unread = u }) ≡ stopped TokensMany (blamed (lexeme_in files (get_or ts u d))) s
short_of blamed files n [] u d s h = absurd (omega arith)
short_of blamed files zero (t ∷ ts) u d s h = absurd (omega arith)
short_of blamed files (suc n) (t ∷ ts) zero d s h = refl
short_of blamed files (suc n) (t ∷ ts) (suc u) d s h = short_of blamed files n ts u d s (omega arith)

pub short : (blamed : Lexeme → Place) (files : List FileText) (n m : ℕ) (ts : List Token) (d : Token) (s : State) → m ≡ min n (length ts)
    → s.unread < m
    → read_some blamed n (lexemes_in files ts) s ≡ stopped TokensMany (blamed (lexeme_in files (get_or ts s.unread d))) s
short blamed files n m ts d s e h = short_of blamed files n ts s.unread d s (subst (λ v. s.unread < v) e h)
