-- Each text has one reading at most.
use Rattle.std.proofs.Common.{◌≡◌, ◌≤◌, ◌<◌, ◌+◌, ℕ, zero, suc, List, [], ◌∷◌, ◌++◌, nat_lt, refl, ap, sym, ◌∙◌, subst, append_assoc, arith, ltb-true, ltb-false}
use Rattle.std.specs.Prelude.{Bool, true, false, Option, Some, None, Result, Ok, Err, IfOk, IsErrOf, take, drop}
use Rattle.predict.specs.declared.tree.ParseNode.{ParseNode}
use Rattle.predict.specs.Rules.{Rules}
use Rattle.predict.specs.Sentence.{IsSentence, BeginsSentence, IsFirstBad}
use Rattle.predict.proofs.Text.{not_sentence}
use Rattle.c_tree.specs.declared.file.CFile.{CFile}
use Rattle.c_tree.specs.FileOf.{file_of}
use Rattle.c_tree.specs.Form.{HasForm, blamed, least_of, least_blamed}
use Rattle.c_tree.specs.Raw.{RawFile}
use Rattle.c_tree.specs.declared.token.CToken.{CToken}
use Rattle.c_tree.specs.tokens.Tokens.{CTokens, c_tokens_of}
use Rattle.c_syntax.specs.declared.error.CErr.{CErr}
use Rattle.c_syntax.specs.declared.error.CErr.TheVariants.{BadByte, Syntax, Form, NoMemory}
use Rattle.c_syntax.specs.Syntax.{text_kinds, IsSpelled, IsSyntax, IsSyntaxFault}
use Rattle.c_syntax.specs.grammar.Sets.{c_rules}
use Rattle.c_raw_build.specs.RawOf.{IsRawOf}
use Rattle.c_reader.specs.Answers.{Reading, file, bad_byte, syntax, form, IsReading, Answers}
use Rattle.c_reader.specs.Reading.{IsFileOf, IsBadByte, IsFormFault}

-- a number, or none
none_some : (o : Option ℕ) (at : ℕ) → o ≡ None → o ≡ Some at → ⊥
none_some o at e f = cc

some_same : (o : Option ℕ) (a b : ℕ) → o ≡ Some a → o ≡ Some b → a ≡ b
some_same o a b e f = cc

-- a first part of a first part
first_part : (m n : ℕ) (xs : List ℕ) → m ≤ n → take n xs ≡ take m xs ++ drop m (take n xs)
first_part zero n xs h = refl
first_part (suc m) zero xs h = let no : ⊥ = omega (arith, h) in absurd no
first_part (suc m) (suc n) [] h = refl
first_part (suc m) (suc n) (x ∷ xs) h = ap (λ l. x ∷ l) (first_part m n xs (omega (arith, h)))

begins_before : (rules : Rules) (kinds : List ℕ) (m n : ℕ) → m ≤ n → BeginsSentence rules (take n kinds) → BeginsSentence rules (take m kinds)
begins_before rules kinds m n h (more, s) =
    let middle : List ℕ = drop m (take n kinds) in
    (middle ++ more, subst (IsSentence rules) (ap (λ xs. xs ++ more) (first_part m n kinds h) ∙ append_assoc (take m kinds) middle more) s)

-- a first bad kind is not before another
not_before : (rules : Rules) (kinds : List ℕ) (m n : ℕ) → IsFirstBad rules kinds m → IsFirstBad rules kinds n → m < n → ⊥
not_before rules kinds m n a b h = a.bad (begins_before rules kinds (m + 1) n (omega (arith, h)) b.good)

one_bad : (rules : Rules) (kinds : List ℕ) (m n : ℕ) → IsFirstBad rules kinds m → IsFirstBad rules kinds n → m ≡ n
one_bad rules kinds m n a b = by_less (nat_lt m n) refl (nat_lt n m) refl
  where
    by_less : (x : Bool) → nat_lt m n ≡ x → (y : Bool) → nat_lt n m ≡ y → m ≡ n
    by_less true e y f = absurd (not_before rules kinds m n a b (ltb-true m n e))
    by_less false e true f = absurd (not_before rules kinds n m b a (ltb-true n m f))
    by_less false e false f = omega (arith, ltb-false m n e, ltb-false n m f)

-- what the parser and the reader of the raw tree tell
module _ (text : List ℕ) (tokens : List CToken) (nodes : List ParseNode) (spelled : IsSpelled text tokens nodes) (raw : RawFile) (read : IsRawOf text raw) where
  is_syntax : IsSyntax text
  is_syntax = record { all = ap (λ t. CTokens.bad t) spelled.all; sentence = (spelled.parsed.tree, spelled.parsed.sentence) }

  pub file_read : (f : CFile) → HasForm raw → f ≡ file_of raw → IsFileOf text f
  file_read f kept e = record { syntax = is_syntax; raw = raw; read = read; form = kept; file = sym e }

  pub fault_read : (at : ℕ) → least_blamed raw ≡ Some at → IsFormFault text at
  fault_read at e = record { syntax = is_syntax; raw = raw; read = read; least = e }

module _ (text : List ℕ) where
  -- the raw tree of a text is one alone
  same_raw : (r s : RawFile) → IsSyntax text → IsRawOf text r → IsRawOf text s → r ≡ s
  same_raw r s x a b = sym (a x.sentence.0 x.sentence.1) ∙ b x.sentence.0 x.sentence.1

  same_file : (f g : CFile) → IsFileOf text f → IsFileOf text g → f ≡ g
  same_file f g a b = sym a.file ∙ ap file_of (same_raw a.raw b.raw a.syntax a.read b.read) ∙ b.file

  same_fault : (a b : ℕ) → IsFormFault text a → IsFormFault text b → a ≡ b
  same_fault a b x y =
      some_same (least_blamed x.raw) a b x.least (ap least_blamed (same_raw x.raw y.raw x.syntax x.read y.read) ∙ y.least)

  not_formed : (f : CFile) (at : ℕ) → IsFileOf text f → IsFormFault text at → ⊥
  not_formed f at a b =
      none_some (least_blamed a.raw) at (ap least_of a.form) (ap least_blamed (same_raw a.raw b.raw a.syntax a.read b.read) ∙ b.least)

  not_byte : (at : ℕ) → (c_tokens_of text).bad ≡ None → IsBadByte text at → ⊥
  not_byte at all b = none_some (c_tokens_of text).bad at all b

  not_syntax : (at : ℕ) → IsSyntax text → IsSyntaxFault text at → ⊥
  not_syntax at a b = not_sentence c_rules (text_kinds text) at b.first a.sentence

  pub one_reading : (r s : Reading) → IsReading text r → IsReading text s → r ≡ s
  one_reading (file f) (file g) a b = ap file (same_file f g a b)
  one_reading (file f) (bad_byte i) a b = absurd (not_byte i a.syntax.all b)
  one_reading (file f) (syntax i) a b = absurd (not_syntax i a.syntax b)
  one_reading (file f) (form i) a b = absurd (not_formed f i a b)
  one_reading (bad_byte i) (file f) a b = absurd (not_byte i b.syntax.all a)
  one_reading (bad_byte i) (bad_byte j) a b = ap bad_byte (some_same (c_tokens_of text).bad i j a b)
  one_reading (bad_byte i) (syntax j) a b = absurd (not_byte i b.all a)
  one_reading (bad_byte i) (form j) a b = absurd (not_byte i b.syntax.all a)
  one_reading (syntax i) (file f) a b = absurd (not_syntax i b.syntax a)
  one_reading (syntax i) (bad_byte j) a b = absurd (not_byte j a.all b)
  one_reading (syntax i) (syntax j) a b = ap syntax (one_bad c_rules (text_kinds text) i j a.first b.first)
  one_reading (syntax i) (form j) a b = absurd (not_syntax i b.syntax a)
  one_reading (form i) (file f) a b = absurd (not_formed f i b a)
  one_reading (form i) (bad_byte j) a b = absurd (not_byte j a.syntax.all b)
  one_reading (form i) (syntax j) a b = absurd (not_syntax j a.syntax b)
  one_reading (form i) (form j) a b = ap form (same_fault i j a b)

  -- what is answered is what is so of the text
  pub answered : (r : Reading) (result : Result CFile CErr) → IfOk result (IsFileOf text) → ((at : ℕ) → IsErrOf result (BadByte at) → IsBadByte text at)
      → ((at : ℕ) → IsErrOf result (Syntax at) → IsSyntaxFault text at) → ((at : ℕ) → IsErrOf result (Form at) → IsFormFault text at)
      → IsReading text r → Answers r result
  answered r (Ok f) is bad blamed broken a = one_reading r (file f) a is
  answered r (Err (BadByte at)) is bad blamed broken a = one_reading r (bad_byte at) a (bad at refl)
  answered r (Err (Syntax at)) is bad blamed broken a = one_reading r (syntax at) a (blamed at refl)
  answered r (Err (Form at)) is bad blamed broken a = one_reading r (form at) a (broken at refl)
  answered r (Err NoMemory) is bad blamed broken a = tt
