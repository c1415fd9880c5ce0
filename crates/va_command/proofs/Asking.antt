-- The words make one request.
use Rattle.std.proofs.Common.{◌≡◌, ℕ, List, [], ◌∷◌, sym, ap, ◌∙◌}
use Rattle.std.specs.Prelude.{true, false, codes}
use Rattle.std.specs.Str.{bytes_eq}
use Rattle.va_command.specs.Requests.{Request, compile, read, IsRequest, IsNoCommand, IsNoRequest}

-- the first of some words, and the second
first : List (List ℕ) → List ℕ
first [] = []
first (word ∷ words) = word

second : List (List ℕ) → List ℕ
second [] = []
second (v ∷ []) = []
second (v ∷ w ∷ words) = w

pub same_file : (words : List (List ℕ)) (file other : List ℕ) → IsRequest words (compile file) → IsRequest words (compile other) → file ≡ other
unfolding second
same_file words file other p q = ap second (sym p ∙ q)

pub same_read : (words : List (List ℕ)) (file other : List ℕ) → IsRequest words (read file) → IsRequest words (read other) → file ≡ other
unfolding second
same_read words file other p q = ap second (sym p ∙ q)

pub two_requests : (words : List (List ℕ)) (file other : List ℕ) → IsRequest words (compile file) → IsRequest words (read other) → ⊥
unfolding first
two_requests words file other r q =
    let e : true ≡ false = ap (λ ws. bytes_eq (first ws) (codes "compile")) (sym r ∙ q) in cc e

pub one_request : (words : List (List ℕ)) (a b : Request) → IsRequest words a → IsRequest words b → a ≡ b
one_request words (compile a) (compile b) p q = ap (λ file. compile file) (same_file words a b p q)
one_request words (compile a) (read b) p q = absurd (two_requests words a b p q)
one_request words (read a) (compile b) p q = absurd (two_requests words b a q p)
one_request words (read a) (read b) p q = ap (λ file. read file) (same_read words a b p q)

-- words that are of no command make no request
pub no_request : (words : List (List ℕ)) → IsNoCommand (codes "compile") words → IsNoCommand (codes "read") words → IsNoRequest words
no_request words a b (compile file) e = a file e
no_request words a b (read file) e = b file e
