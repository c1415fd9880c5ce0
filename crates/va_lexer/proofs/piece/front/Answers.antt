use Rattle.std.proofs.Common.{◌<◌, ◌≤◌, ℕ, length, sym, ap, subst}
use Rattle.va_lexer.proofs.TokenLists.{front-fits}
use Rattle.va_lexer.proofs.piece.front.Goals as goal

pub returns-clause-some : goal.returns-clause-some
returns-clause-some c =
    let P : ℕ → Type 0 = λ n. 0 < n in
    subst P (ap (λ p. p.len) (sym c.piece_by_first_byte.ensures)) (front-fits c.args.text.now c.requires).some

pub returns-clause-within : goal.returns-clause-within
returns-clause-within c =
    let P : ℕ → Type 0 = λ n. n ≤ length c.args.text.now in
    subst P (ap (λ p. p.len) (sym c.piece_by_first_byte.ensures)) (front-fits c.args.text.now c.requires).within
