-- Uses, a step at a time.
use Rattle.std.proofs.Common.{◌≡◌, ◌<◌, ◌≤◌, ◌+◌, ◌-◌, ℕ, zero, suc, List, [], ◌∷◌, ◌++◌, length, take, drop, get_or, min, refl, sym, ap, ◌∙◌, arith, append_assoc}
use Rattle.std.proofs.lemmas.List.{drop_more, length-drop, append-nil}
use Rattle.std.proofs.Math.Seq.{take-length}
use Rattle.std.proofs.Math.ListN.{drop_of_length-le}
use Rattle.std.specs.Borrow.{Bor}
use Rattle.std.specs.Prelude.{Option, Some, Ok, Err, map}
use Rattle.std.specs.List.{zip}
use Rattle.va_base.specs.declared.file.FileText.{FileText}
use Rattle.va_base.specs.declared.token.Token.{Token}
use Rattle.va_preproc.specs.Lexemes.{Bytes, Lexeme, Role, a_name, role_of, found}
use Rattle.va_preproc.specs.Reading.{State, Step, Stop, ◌>>=◌, read_one, read_some}
use Rattle.va_preproc.specs.Definitions.{Form}
use Rattle.va_preproc.specs.Uses.{Use, Inside, at_name, no_more, at_role, expand_list, expand_argument, expand_arguments, expand_body, with_arguments, matching, by_formals, list_form}
use Rattle.va_preproc.specs.Values.{lexeme_in, lexemes_in}
use Rattle.va_preproc.proofs.Loops.{lexemes_more}

-- what was given before
abbrev pub onto : {X : Type 0} → List X → List X × State → Step (List X × State)
onto done others = Ok (done ++ others.0, others.1)

pub onto_none : {X : Type 0} (m : Step (List X × State)) → (m >>= onto []) ≡ m
onto_none (Ok x) = refl
onto_none (Err stop) = refl

onto_more : {X : Type 0} (done : List X) (x : X) (m : Step (List X × State))
    → ((m >>= λ others. Ok (x ∷ others.0, others.1)) >>= onto done) ≡ (m >>= onto (done ++ x ∷ []))
onto_more done x (Ok others) = ap (λ l. Ok (l, others.1)) (sym (append_assoc done (x ∷ []) others.0))
onto_more done x (Err stop) = refl

onto_turn : {X : Type 0} (done : List X) (m : Step (X × State)) (next : State → Step (List X × State))
    → ((m >>= λ one. next one.1 >>= λ others. Ok (one.0 ∷ others.0, others.1)) >>= onto done)
    ≡ (m >>= λ one. next one.1 >>= onto (done ++ one.0 ∷ []))
onto_turn done (Ok one) next = onto_more done one.0 (next one.1)
onto_turn done (Err stop) next = refl

module _ (at_use : Use) (i : Inside) (files : List FileText) where
  abbrev see : Bor (List Token) → List Lexeme
  see argument = lexemes_in files argument.now

  pub arguments_turn : (done : List (List Lexeme)) (arguments : List (Bor (List Token))) (k : ℕ) (d : Bor (List Token)) (s : State)
      → k < length arguments
      → (expand_arguments at_use i (map see (drop k arguments)) s >>= onto done)
      ≡ (expand_argument at_use i (see (get_or arguments k d)) s
      >>= λ one. expand_arguments at_use i (map see (drop (k + 1) arguments)) one.1 >>= onto (done ++ one.0 ∷ []))
  arguments_turn done arguments k d s h =
      ap (λ rest. expand_arguments at_use i (map see rest) s >>= onto done) (drop_more arguments k d h)
      ∙ onto_turn done (expand_argument at_use i (see (get_or arguments k d)) s) (expand_arguments at_use i (map see (drop (k + 1) arguments)))

  pub list_turn : (ts : List Token) (k : ℕ) (d : Token) (s : State) → k < length ts
      → expand_list at_use i 0 (lexemes_in files (drop k ts)) s
      ≡ (read_one i.outermost s >>= at_role at_use i (role_of (lexeme_in files (get_or ts k d))) (lexeme_in files (get_or ts k d)) (lexemes_in files (drop (k + 1) ts))
      >>= λ next. expand_list at_use i next.0 (lexemes_in files (drop (k + 1) ts)) next.1)
  list_turn ts k d s h = ap (λ l. expand_list at_use i 0 l s) (lexemes_more files ts k d h)

  list_past : (n : ℕ) (ts : List Token) (s : State) → expand_list at_use i n (lexemes_in files ts) s ≡ expand_list at_use i 0 (lexemes_in files (drop n ts)) s
  list_past zero ts s = refl
  list_past (suc n) [] s = refl
  list_past (suc n) (t ∷ ts) s = list_past n ts s

-- the index after so many tokens more
pub drop_sum : {X : Type 0} (k n m : ℕ) (xs : List X) → m ≡ k + n → drop n (drop k xs) ≡ drop m xs
drop_sum zero n m xs e = ap (λ j. drop j xs) (omega (arith, e))
drop_sum (suc k) n m [] e = nothing n ∙ sym (nothing m)
  where
    nothing : {X : Type 0} (j : ℕ) → drop {A = X} j [] ≡ []
    nothing zero = refl
    nothing (suc j) = refl
drop_sum (suc k) n zero (x ∷ xs) e = absurd (omega (arith, e))
drop_sum (suc k) n (suc m) (x ∷ xs) e = drop_sum k n m xs (omega (arith, e))

-- no more are passed over than there are
pub drop_most : {X : Type 0} (n : ℕ) (xs : List X) → drop (min n (length xs)) xs ≡ drop n xs
drop_most zero xs = ap (λ j. drop j xs) (none (length xs))
  where
    none : (k : ℕ) → min 0 k ≡ 0
    none k = omega arith
drop_most (suc n) [] = ap (λ j. drop j []) (none (suc n))
  where
    none : (k : ℕ) → min k 0 ≡ 0
    none k = omega arith
drop_most (suc n) (x ∷ xs) = ap (λ j. drop j (x ∷ xs)) (one (length xs)) ∙ drop_most n xs
  where
    one : (k : ℕ) → min (suc n) (suc k) ≡ suc (min n k)
    one k = omega arith

-- where the list goes on after a token and so many more
pub list_goes_on : (at_use : Use) (i : Inside) (files : List FileText) (ts rest : List Token) (k n next : ℕ) (s : State)
    → rest ≡ drop (k + 1) ts → next ≡ k + (1 + min n (length rest))
    → expand_list at_use i n (lexemes_in files (drop (k + 1) ts)) s ≡ expand_list at_use i 0 (lexemes_in files (drop next ts)) s
list_goes_on at_use i files ts rest k n next s r e =
    list_past at_use i files n (drop (k + 1) ts) s
    ∙ ap (λ l. expand_list at_use i 0 (lexemes_in files l) s)
    (sym (drop_most n (drop (k + 1) ts)) ∙ drop_sum (k + 1) (min n (length (drop (k + 1) ts))) next ts there)
  where
    there : next ≡ k + 1 + min n (length (drop (k + 1) ts))
    there = omega (arith, e, ap length r)

-- a name
pub at_a_name : (at_use : Use) (i : Inside) (role : Role) (word : Bytes) (o : Option (List Lexeme)) (t : Lexeme) (rest : List Lexeme) (s : State)
    → a_name word ≡ role → o ≡ found i.formals word
    → at_role at_use i role t rest s ≡ (at_name at_use i o t s >>= no_more at_use i)
at_a_name at_use i role word o t rest s e f =
    ap (λ r. at_role at_use i r t rest s) (sym e) ∙ ap (λ x. at_name at_use i x t s >>= no_more at_use i) (sym f)

-- a use with a list
pub with_list : (at_use : Use) (i : Inside) (name : Bytes) (body : List Lexeme) (formals : List Bytes) (rest : List Lexeme) (s v w : State)
    (list : Form (List (List Lexeme))) (arguments lists : List (List Lexeme))
    → list ≡ list_form rest → read_some (λ t. i.outermost) list.taken rest s ≡ Ok v
    → Some arguments ≡ matching formals list.meaning → expand_arguments at_use i arguments v ≡ Ok (lists, w)
    → by_formals at_use i name body (Some formals) rest s ≡ expand_body at_use i name body list.taken (zip formals lists) w
with_list at_use i name body formals rest s v w list arguments lists e r m x =
    ap (λ form. read_some (λ t. i.outermost) form.taken rest s >>= with_arguments at_use i (matching formals form.meaning)
    >>= λ given. expand_body at_use i name body form.taken (zip formals given.0) given.1) (sym e)
    ∙ ap (λ step. step >>= with_arguments at_use i (matching formals list.meaning)
    >>= λ given. expand_body at_use i name body list.taken (zip formals given.0) given.1) r
    ∙ ap (λ o. with_arguments at_use i o v >>= λ given. expand_body at_use i name body list.taken (zip formals given.0) given.1) (sym m)
    ∙ ap (λ step. step >>= λ given. expand_body at_use i name body list.taken (zip formals given.0) given.1) x

module _ (at_use : Use) (i : Inside) (files : List FileText) where
  -- a token more of a list
  pub list_preserved : (ts rest : List Token) (k n next : ℕ) (d : Token) (s v w : State) (whole : Step State)
      → k < length ts → rest ≡ drop (k + 1) ts → next ≡ k + (1 + min n (length rest))
      → read_one i.outermost s ≡ Ok v
      → at_role at_use i (role_of (lexeme_in files (get_or ts k d))) (lexeme_in files (get_or ts k d)) (lexemes_in files rest) v ≡ Ok (n, w)
      → expand_list at_use i 0 (lexemes_in files (drop k ts)) s ≡ whole
      → expand_list at_use i 0 (lexemes_in files (drop next ts)) w ≡ whole
  list_preserved ts rest k n next d s v w whole h r e one role before =
      let t = lexeme_in files (get_or ts k d) in
      let later = lexemes_in files (drop (k + 1) ts) in
      sym (list_goes_on at_use i files ts rest k n next w r e)
      ∙ sym (ap (λ step. step >>= λ next. expand_list at_use i next.0 later next.1)
      (ap (λ l. at_role at_use i (role_of t) t (lexemes_in files l) v) (sym r) ∙ role))
      ∙ sym (ap (λ step. step >>= at_role at_use i (role_of t) t later >>= λ next. expand_list at_use i next.0 later next.1) one)
      ∙ sym (list_turn at_use i files ts k d s h) ∙ before

  -- the second exit of a turn
  pub list_stops : (ts rest : List Token) (k : ℕ) (d : Token) (s v : State) (stop : Stop) (whole : Step State)
      → k < length ts → rest ≡ drop (k + 1) ts → read_one i.outermost s ≡ Ok v
      → at_role at_use i (role_of (lexeme_in files (get_or ts k d))) (lexeme_in files (get_or ts k d)) (lexemes_in files rest) v ≡ Err stop
      → expand_list at_use i 0 (lexemes_in files (drop k ts)) s ≡ whole → whole ≡ Err stop
  list_stops ts rest k d s v stop whole h r one role before =
      let t = lexeme_in files (get_or ts k d) in
      let later = lexemes_in files (drop (k + 1) ts) in
      sym before ∙ list_turn at_use i files ts k d s h
      ∙ ap (λ step. step >>= at_role at_use i (role_of t) t later >>= λ next. expand_list at_use i next.0 later next.1) one
      ∙ ap (λ step. step >>= λ next. expand_list at_use i next.0 later next.1)
      (ap (λ l. at_role at_use i (role_of t) t (lexemes_in files l) v) (sym r) ∙ role)

  -- an argument more
  pub arguments_preserved : (done : List (List Lexeme)) (arguments : List (Bor (List Token))) (k : ℕ) (d : Bor (List Token)) (s w : State)
      (given : List Lexeme) (whole : Step (List (List Lexeme) × State)) → k < length arguments
      → expand_argument at_use i (lexemes_in files (get_or arguments k d).now) s ≡ Ok (given, w)
      → (expand_arguments at_use i (map (λ argument. lexemes_in files argument.now) (drop k arguments)) s >>= onto done) ≡ whole
      → (expand_arguments at_use i (map (λ argument. lexemes_in files argument.now) (drop (k + 1) arguments)) w >>= onto (done ++ given ∷ [])) ≡ whole
  arguments_preserved done arguments k d s w given whole h e before =
      sym (ap (λ step. step >>= λ one. expand_arguments at_use i (map (λ argument. lexemes_in files argument.now) (drop (k + 1) arguments)) one.1 >>= onto (done ++ one.0 ∷ [])) e)
      ∙ sym (arguments_turn at_use i files done arguments k d s h) ∙ before

  pub arguments_stop : (done : List (List Lexeme)) (arguments : List (Bor (List Token))) (k : ℕ) (d : Bor (List Token)) (s : State)
      (stop : Stop) (whole : Step (List (List Lexeme) × State)) → k < length arguments
      → expand_argument at_use i (lexemes_in files (get_or arguments k d).now) s ≡ Err stop
      → (expand_arguments at_use i (map (λ argument. lexemes_in files argument.now) (drop k arguments)) s >>= onto done) ≡ whole
      → whole ≡ Err stop
  arguments_stop done arguments k d s stop whole h e before =
      sym before ∙ arguments_turn at_use i files done arguments k d s h
      ∙ ap (λ step. step >>= λ one. expand_arguments at_use i (map (λ argument. lexemes_in files argument.now) (drop (k + 1) arguments)) one.1 >>= onto (done ++ one.0 ∷ [])) e

  pub arguments_end : (done : List (List Lexeme)) (arguments : List (Bor (List Token))) (k : ℕ) (s : State)
      (whole : Step (List (List Lexeme) × State)) → length arguments ≤ k
      → (expand_arguments at_use i (map (λ argument. lexemes_in files argument.now) (drop k arguments)) s >>= onto done) ≡ whole
      → whole ≡ Ok (done, s)
  arguments_end done arguments k s whole h before =
      sym before
      ∙ ap (λ l. expand_arguments at_use i (map (λ argument. lexemes_in files argument.now) l) s >>= onto done) (drop_of_length-le arguments h)
      ∙ ap (λ l. Ok (l, s)) (append-nil done)

-- a slice up to the end
pub rest_all : {X : Type 0} (k : ℕ) (xs : List X) → take (length xs - k) (drop k xs) ≡ drop k xs
rest_all k xs = ap (λ n. take n (drop k xs)) (sym (length-drop k xs)) ∙ take-length (drop k xs)
