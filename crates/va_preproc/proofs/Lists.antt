-- The lists of uses, a token at a time.
use Rattle.std.proofs.Common.{◌≡◌, ◌<◌, ◌≤◌, ◌+◌, ◌-◌, ℕ, zero, suc, List, [], ◌∷◌, ◌++◌, length, take, drop, get_or, refl, sym, ap, subst, ◌∙◌, arith, append_assoc, Bool, true, false}
use Rattle.std.proofs.lemmas.List.{take_more, get_or-drop, length-drop}
use Rattle.std.specs.Prelude.{Option, Some, None, option_map, map, codes, if◌then◌else◌}
use Rattle.std.specs.List.{onto_first}
use Rattle.va_base.specs.declared.file.FileText.{FileText}
use Rattle.va_base.specs.declared.token.Token.{Token}
use Rattle.va_preproc.specs.Lexemes.{Lexeme, is_line_end, is_spelled}
use Rattle.va_preproc.specs.Definitions.{Form}
use Rattle.va_preproc.specs.Uses.{Part, list_end, argument_end, part_of_argument, part, opens, closes, one_more, arguments_from, arguments_form, list_from, list_form}
use Rattle.va_preproc.specs.Values.{lexeme_in, lexemes_in}
use Rattle.va_preproc.proofs.Loops.{lexemes_more}

abbrev pub Lists : Type 0
Lists = List (List Lexeme)

-- so many tokens are read before
abbrev pub more : {T : Type 0} → ℕ → Form T → Form T
more n form = record { taken = n + form.taken; meaning = form.meaning }

same_option : {T : Type 0} (o : Option T) → option_map (λ x. x) o ≡ o
same_option None = refl
same_option (Some x) = refl

one_more_same : (form : Form Lists) → one_more (λ lists. lists) form ≡ more 1 form
one_more_same form = ap (λ o. record { taken = 1 + form.taken; meaning = o }) (same_option form.meaning)

pub more_none : {T : Type 0} (form : Form T) → form ≡ more 0 form
more_none form = ap (λ n. record { taken = n; meaning = form.meaning }) from_nothing
  where
    from_nothing : form.taken ≡ 0 + form.taken
    from_nothing = omega arith

pub more_twice : {T : Type 0} (n m : ℕ) (form : Form T) → more n (more m form) ≡ more (n + m) form
more_twice n m form = ap (λ k. record { taken = k; meaning = form.meaning }) sums
  where
    sums : n + (m + form.taken) ≡ n + m + form.taken
    sums = omega arith

list_from_end : (is_open : Bool) (same : ℕ → Form Lists) (rest : List Lexeme) (ends : Bool) → ends ≡ true
    → list_from ends is_open same rest ≡ more 1 (same 0)
list_from_end is_open same rest true e = one_more_same (same 0)
list_from_end is_open same rest false e = cc

list_from_open : (is_open ends : Bool) (same : ℕ → Form Lists) (rest : List Lexeme) → ends ≡ false → is_open ≡ true
    → list_from ends is_open same rest ≡ more 1 (arguments_form 0 rest)
list_from_open true false same rest e f = one_more_same (arguments_form 0 rest)
list_from_open true true same rest e f = cc
list_from_open false ends same rest e f = cc

list_from_other : (is_open ends : Bool) (same : ℕ → Form Lists) (rest : List Lexeme) → ends ≡ false → is_open ≡ false
    → list_from ends is_open same rest ≡ record { taken = 1; meaning = None }
list_from_other false false same rest e f = refl
list_from_other false true same rest e f = cc
list_from_other true ends same rest e f = cc

module _ (files : List FileText) (ts : List Token) (i : ℕ) (d : Token) (below : i < length ts) where
  abbrev here : Lexeme
  here = lexeme_in files (get_or ts i d)

  abbrev later : List Lexeme
  later = lexemes_in files (drop (i + 1) ts)

  list_here : list_form (lexemes_in files (drop i ts)) ≡ list_form (here ∷ later)
  list_here = ap list_form (lexemes_more files ts i d below)

  -- a line's end before the list
  pub list_skip : is_line_end here ≡ true → list_form (lexemes_in files (drop i ts)) ≡ more 1 (list_form later)
  list_skip e = list_here ∙ list_from_end _ _ later (is_line_end here) e

  -- the list opens, or it doesn't
  pub list_opens : is_line_end here ≡ false → is_spelled (codes "(") here ≡ true
      → list_form (lexemes_in files (drop i ts)) ≡ more 1 (arguments_form 0 later)
  list_opens e f = list_here ∙ list_from_open (is_spelled (codes "(") here) (is_line_end here) _ later e f

  pub list_fails : is_line_end here ≡ false → is_spelled (codes "(") here ≡ false
      → list_form (lexemes_in files (drop i ts)) ≡ record { taken = 1; meaning = None }
  list_fails e f = list_here ∙ list_from_other (is_spelled (codes "(") here) (is_line_end here) _ later e f

-- tokens put before the first argument
abbrev pub onto_all : List Lexeme → Lists → Lists
onto_all [] lists = lists
onto_all (t ∷ ts) lists = onto_first t (onto_all ts lists)

onto_all_one : (ts : List Lexeme) (t : Lexeme) (lists : Lists) → onto_all ts (onto_first t lists) ≡ onto_all (ts ++ t ∷ []) lists
onto_all_one [] t lists = refl
onto_all_one (u ∷ ts) t lists = ap (onto_first u) (onto_all_one ts t lists)

onto_all_new : (ts : List Lexeme) (lists : Lists) → onto_all ts ([] ∷ lists) ≡ ts ∷ lists
onto_all_new [] lists = refl
onto_all_new (t ∷ ts) lists = ap (onto_first t) (onto_all_new ts lists)

-- the arguments that ended, what was read of the next, how many tokens were read, and the rest
abbrev pub joined : Lists → List Lexeme → ℕ → Form Lists → Form Lists
joined done current n form = record { taken = n + form.taken; meaning = option_map (λ lists. done ++ onto_all current lists) form.meaning }

pub joined_none : (form : Form Lists) → form ≡ joined [] [] 0 form
joined_none form = λ j. record { taken = from_nothing j; meaning = sym (same_option form.meaning) j }
  where
    from_nothing : form.taken ≡ 0 + form.taken
    from_nothing = omega arith

-- the list ends
pub joined_end : (done : Lists) (current : List Lexeme) (n : ℕ)
    → joined done current n (record { taken = 1; meaning = Some ([] ∷ []) }) ≡ record { taken = n + 1; meaning = Some (done ++ current ∷ []) }
joined_end done current n = ap (λ lists. record { taken = n + 1; meaning = Some (done ++ lists) }) (onto_all_new current [])

pub map_push : {X Y : Type 0} (f : X → Y) (xs : List X) (x : X) → map f (xs ++ x ∷ []) ≡ map f xs ++ f x ∷ []
map_push f [] x = refl
map_push f (y ∷ xs) x = ap (λ ys. f y ∷ ys) (map_push f xs x)

counted : (n k : ℕ) → n + (1 + k) ≡ n + 1 + k
counted n k = omega arith

-- a token more of the present argument
joined_onto : (done : Lists) (current : List Lexeme) (n : ℕ) (t : Lexeme) (form : Form Lists)
    → joined done current n (one_more (onto_first t) form) ≡ joined done (current ++ t ∷ []) (n + 1) form
joined_onto done current n t form = λ j. record { taken = counted n form.taken j; meaning = by_option form.meaning j }
  where
    by_option : (o : Option Lists) → option_map (λ lists. done ++ onto_all current lists) (option_map (onto_first t) o)
        ≡ option_map (λ lists. done ++ onto_all (current ++ t ∷ []) lists) o
    by_option None = refl
    by_option (Some lists) = ap (λ x. Some (done ++ x)) (onto_all_one current t lists)

-- the present argument ends
joined_next : (done : Lists) (current : List Lexeme) (n : ℕ) (form : Form Lists)
    → joined done current n (one_more (λ lists. [] ∷ lists) form) ≡ joined (done ++ current ∷ []) [] (n + 1) form
joined_next done current n form = λ j. record { taken = counted n form.taken j; meaning = by_option form.meaning j }
  where
    by_option : (o : Option Lists) → option_map (λ lists. done ++ onto_all current lists) (option_map (λ lists. [] ∷ lists) o)
        ≡ option_map (λ lists. (done ++ current ∷ []) ++ lists) o
    by_option None = refl
    by_option (Some lists) =
        ap (λ x. Some (done ++ x)) (onto_all_new current lists) ∙ ap Some (sym (append_assoc done (current ∷ []) lists))

module _ (files : List FileText) (ts : List Token) (i : ℕ) (d : Token) (below : i < length ts) (pairs : ℕ) where
  arguments_here : (p : Part) → part pairs (lexeme_in files (get_or ts i d)) ≡ p → arguments_form pairs (lexemes_in files (drop i ts))
      ≡ arguments_from p (lexeme_in files (get_or ts i d)) (λ n. arguments_form n (lexemes_in files (drop (i + 1) ts)))
  arguments_here p e =
      ap (arguments_form pairs) (lexemes_more files ts i d below)
      ∙ ap (λ q. arguments_from q (lexeme_in files (get_or ts i d)) (λ n. arguments_form n (lexemes_in files (drop (i + 1) ts)))) e

  pub at_list_end : part pairs (lexeme_in files (get_or ts i d)) ≡ list_end
      → arguments_form pairs (lexemes_in files (drop i ts)) ≡ record { taken = 1; meaning = Some ([] ∷ []) }
  at_list_end e = arguments_here list_end e

  pub at_argument_end : (done : Lists) (current : List Lexeme) → part pairs (lexeme_in files (get_or ts i d)) ≡ argument_end
      → joined done current i (arguments_form pairs (lexemes_in files (drop i ts)))
      ≡ joined (done ++ current ∷ []) [] (i + 1) (arguments_form 0 (lexemes_in files (drop (i + 1) ts)))
  at_argument_end done current e =
      ap (joined done current i) (arguments_here argument_end e)
      ∙ joined_next done current i (arguments_form 0 (lexemes_in files (drop (i + 1) ts)))

  pub at_part : (done : Lists) (current : List Lexeme) (n : ℕ) → part pairs (lexeme_in files (get_or ts i d)) ≡ part_of_argument n
      → joined done current i (arguments_form pairs (lexemes_in files (drop i ts)))
      ≡ joined done (current ++ lexeme_in files (get_or ts i d) ∷ []) (i + 1) (arguments_form n (lexemes_in files (drop (i + 1) ts)))
  at_part done current n e =
      ap (joined done current i) (arguments_here (part_of_argument n) e)
      ∙ joined_onto done current i (lexeme_in files (get_or ts i d)) (arguments_form n (lexemes_in files (drop (i + 1) ts)))

-- the tokens from an index on, up to another
pub between_more : (files : List FileText) (ts : List Token) (b i : ℕ) (d : Token) → b ≤ i → i < length ts
    → lexemes_in files (take (i + 1 - b) (drop b ts)) ≡ lexemes_in files (take (i - b) (drop b ts)) ++ lexeme_in files (get_or ts i d) ∷ []
between_more files ts b i d h below =
    ap (λ n. lexemes_in files (take n (drop b ts))) one
    ∙ ap (lexemes_in files) (take_more (drop b ts) (i - b) d inside)
    ∙ map_push (lexeme_in files) (take (i - b) (drop b ts)) (get_or (drop b ts) (i - b) d)
    ∙ ap (λ t. lexemes_in files (take (i - b) (drop b ts)) ++ lexeme_in files t ∷ []) (get_or-drop b ts (i - b) d ∙ ap (λ n. get_or ts n d) back)
  where
    one : i + 1 - b ≡ i - b + 1
    one = omega arith

    back : b + (i - b) ≡ i
    back = omega arith

    inside : i - b < length (drop b ts)
    inside = omega (arith, length-drop b ts)

-- how many pairs are open after a token
bound_of : Part → ℕ
bound_of list_end = 0
bound_of argument_end = 0
bound_of (part_of_argument n) = n

chosen_part : (b : Bool) (x y : Part) (m : ℕ) → bound_of x ≤ m → bound_of y ≤ m → bound_of (if b then x else y) ≤ m
chosen_part true x y m h k = h
chosen_part false x y m h k = k

chosen_number : (b : Bool) (x y m : ℕ) → x ≤ m → y ≤ m → (if b then x else y) ≤ m
chosen_number true x y m h k = h
chosen_number false x y m h k = k

part_bound : (pairs : ℕ) (t : Lexeme) → bound_of (part pairs t) ≤ suc pairs
unfolding bound_of
part_bound zero t =
    chosen_part (is_spelled (codes ")") t) list_end _ 1 (omega arith)
    (chosen_part (is_spelled (codes ",") t) argument_end _ 1 (omega arith) (chosen_number (opens t) 1 0 1 (omega arith) (omega arith)))
part_bound (suc pairs) t =
    chosen_number (opens t) (suc (suc pairs)) _ (suc (suc pairs)) (omega arith)
    (chosen_number (closes t) pairs (suc pairs) (suc (suc pairs)) (omega arith) (omega arith))

pub pairs_bound : (pairs : ℕ) (t : Lexeme) (n : ℕ) → part_of_argument n ≡ part pairs t → n ≤ suc pairs
unfolding bound_of
pairs_bound pairs t n e = subst (λ p. bound_of p ≤ suc pairs) (sym e) (part_bound pairs t)

pub joined_same : (done done' : Lists) (current current' : List Lexeme) (n p p' : ℕ) (rest : List Lexeme)
    → done ≡ done' → current ≡ current' → p ≡ p'
    → joined done current n (arguments_form p rest) ≡ joined done' current' n (arguments_form p' rest)
joined_same done done' current current' n p p' rest d e f = λ j. joined (d j) (e j) n (arguments_form (f j) rest)
