use Rattle.std.proofs.Common.{◌≡◌, ℕ, List, [], ◌∷◌, length, get_or, true, false, ap, sym, ◌∙◌, arith}
use Rattle.std.specs.Prelude.{map, string_bytes}
use Rattle.std.proofs.lemmas.List.{length-map}
use Rattle.std.proofs.lemmas.Slice.Eq.{bytes_eq-Decides}
use Rattle.va_command.proofs.Reading.{two_words}
use Rattle.va_command.proofs.request.file_of.Goals.{else-words-eq2-via-then-words-eq2+else-eq, else-words-eq2-via-else-words-eq2}
use Rattle.va_command.proofs.request.file_of.Goals as goal

-- words that are not two
not_two : {X : Type 0} (f : X → List ℕ) (words : List X) (command file : List ℕ) → (length words ≡ 2 → ⊥) → map f words ≡ command ∷ file ∷ [] → ⊥
not_two f words command file other e = other (sym (length-map words f) ∙ ap length e)

-- words of which the first is another
not_first : {X : Type 0} (f : X → List ℕ) (words : List X) (x : X) (command file : List ℕ) → length words ≡ 2 → x ≡ get_or words 0 x
    → (f x ≡ command → ⊥) → map f words ≡ command ∷ file ∷ [] → ⊥
not_first f [] x command file two p other e = omega (arith, two)
not_first f (v ∷ vs) x command file two p other e =
    let same : x ≡ v = p in
    let all : f v ∷ map f vs ≡ command ∷ file ∷ [] = e in
    other (cc)

pub returns-else-words-eq2 : goal.returns-else-words-eq2
returns-else-words-eq2 c = λ file e.
    elim c.else-words-eq2.branch [
      | else-words-eq2-via-then-words-eq2+else-eq w ↦
          not_first string_bytes c.args.words.now w.index-words-0.result c.args.command.now file w.if-words-eq2.true w.index-words-0.is
          (λ same. let both : false ≡ true =
          sym w.if-eq.false ∙ w.eq.ensures ∙ (bytes_eq-Decides w.as_str.result.now c.args.command.now).1 (w.as_str.ensures.value ∙ same) in cc both)
          e
      | else-words-eq2-via-else-words-eq2 w ↦
          not_two string_bytes c.args.words.now c.args.command.now file (λ two. omega (arith, two, w.if-words-eq2.false)) e
    ]

pub returns-then-eq : goal.returns-then-eq
returns-then-eq c =
    let first = (bytes_eq-Decides c.as_str.result.now c.args.command.now).0 (sym c.eq.ensures ∙ c.if-eq.true) in
    two_words string_bytes c.args.words.now c.index-words-0.result c.index-words-1.result c.if-words-eq2.true c.index-words-0.is c.index-words-1.is
    ∙ ap (λ w. w ∷ string_bytes c.index-words-1.result ∷ []) (sym c.as_str.ensures.value ∙ first)
    ∙ ap (λ w. c.args.command.now ∷ w ∷ []) (sym c.as_str-then-eq.ensures.value)
