-- How walking over one part after another walks over the whole.
use Rattle.std.specs.Prelude.{◌≡◌, ℕ, zero, suc, ◌+◌, ◌-◌, ◌<◌, ◌≤◌, ◌||◌, Bool, true, false, List, [], ◌∷◌, ◌++◌, Option, None, map, flat_map, drop, length, get_or}
use Rattle.std.proofs.Common.{refl, sym, ◌∙◌, ap, subst, arith}
use Rattle.std.proofs.Math.ListN.{drop_of_length-le}
use Rattle.std.proofs.Math.Seq.{drop-cons}
use Rattle.std.proofs.lemmas.List.{append_assoc, append-nil}
use Rattle.std.proofs.lemmas.Grind.{flat_map-append}
use Rattle.std.proofs.lemmas.List.Folds.{list_any-append}
use Rattle.va_tree.specs.declared.expr.Arg.{Arg}
use Rattle.va_tree.specs.declared.expr.BinaryOp.{BinaryOp}
use Rattle.va_tree.specs.declared.expr.Callee.{Callee}
use Rattle.va_tree.specs.declared.expr.Expr.{Expr}
use Rattle.va_tree.specs.declared.expr.Expr.TheVariants.{Group, Unary, Binary, Choose, Call}
use Rattle.va_tree.specs.declared.expr.UnaryOp.{UnaryOp}
use Rattle.va_tree.specs.Expressions.{Expression, expression_of, arguments_of}
use Rattle.va_tree.specs.ExpressionLaws.{at_group, at_unary, at_binary, at_choose, at_call}
use Rattle.va_sem.specs.declared.findings.Finding.{Finding}
use Rattle.va_sem.specs.declared.names.Meaning.{Meaning}
use Rattle.va_sem.specs.LookedAt.{looked_at, looked_at_in_arguments, call_looks}
use Rattle.va_sem.specs.rules.Uses.{meaning_of}
use Rattle.va_sem.specs.rules.Findings.{IsRead, meanings_in, flows_read, reads_biased, looked_at_first, looked_at_if}

-- what is found in one list and then in another is found in both together
pub found_then : {S T : Type 0} (f : S → List T) (xs ys : List S) (a b c : List T) → b ≡ a ++ flat_map f xs → c ≡ b ++ flat_map f ys → c ≡ a ++ flat_map f (xs ++ ys)
found_then f xs ys a b c p q =
    q ∙ ap (λ list. list ++ flat_map f ys) p ∙ append_assoc a (flat_map f xs) (flat_map f ys) ∙ ap (λ list. a ++ list) (sym (flat_map-append f xs ys))

or_assoc : (a b c : Bool) → (a || b) || c ≡ a || (b || c)
or_assoc true b c = refl
or_assoc false b c = refl

or_false : (a : Bool) → a || false ≡ a
or_false true = refl
or_false false = refl

pub map_append : {S T : Type 0} (f : S → T) (xs ys : List S) → map f (xs ++ ys) ≡ map f xs ++ map f ys
map_append f [] ys = refl
map_append f (x ∷ xs) ys = ap (λ list. f x ∷ list) (map_append f xs ys)

-- one name list after another
both_read : (biased : ℕ → Bool) (xs ys : List (Option Meaning)) (f g h : List Finding) (a b : Bool) → IsRead biased xs f g a → IsRead biased ys g h b → IsRead biased (xs ++ ys) f h (a || b)
both_read biased xs ys f g h a b r s = record {
  answer_is = (λ j. r.answer_is j || s.answer_is j) ∙ sym (list_any-append (reads_biased biased) xs ys);
  found = found_then flows_read xs ys f g h r.found s.found;
}

pub nothing_read : (biased : ℕ → Bool) (f : List Finding) → IsRead biased [] f f false
nothing_read biased f = record { answer_is = refl; found = sym (append-nil f) }

-- a part that is no name
pub no_name_read : (biased : ℕ → Bool) (names : List (Option Meaning)) (f g : List Finding) (a : Bool) → IsRead biased names f g a → IsRead biased (None ∷ names) f g a
no_name_read biased names f g a r = record { answer_is = r.answer_is; found = r.found }

module _ (meaning : ℕ → Option Meaning) (biased : ℕ → Bool) where
  -- reading expressions one after another
  abbrev pub Read : List Expression → List Finding → List Finding → Bool → Type 0
  Read parts f g a = IsRead biased (meanings_in meaning parts) f g a

  pub read_then : (xs ys : List Expression) (f g h : List Finding) (a b : Bool) → Read xs f g a → Read ys g h b → Read (xs ++ ys) f h (a || b)
  read_then xs ys f g h a b r s =
      subst (λ (names : List (Option Meaning)). IsRead biased names f h (a || b)) (sym (map_append (meaning_of meaning) xs ys))
      (both_read biased (meanings_in meaning xs) (meanings_in meaning ys) f g h a b r s)

  pub read_group : (e : Expr) (at : ℕ) (inner inner' : Expr) (f g : List Finding) (a : Bool) → e ≡ Group at inner → inner ≡ inner' → Read (looked_at (expression_of inner')) f g a → Read (looked_at (expression_of e)) f g a
  read_group e at inner inner' f g a h p r = rw (at_group e at inner inner' h p) (no_name_read biased (meanings_in meaning (looked_at (expression_of inner'))) f g a r)

  pub read_unary : (e : Expr) (at : ℕ) (op : UnaryOp) (operand operand' : Expr) (f g : List Finding) (a : Bool) → e ≡ Unary at op operand → operand ≡ operand' → Read (looked_at (expression_of operand')) f g a → Read (looked_at (expression_of e)) f g a
  read_unary e at op operand operand' f g a h p r = rw (at_unary e at op operand operand' h p) (no_name_read biased (meanings_in meaning (looked_at (expression_of operand'))) f g a r)

  pub read_binary : (e : Expr) (at : ℕ) (left : Expr) (op : BinaryOp) (right left' right' : Expr) (f g h : List Finding) (a b d : Bool) → e ≡ Binary at left op right → left ≡ left' → right ≡ right'
      → Read (looked_at (expression_of left')) f g a → Read (looked_at (expression_of right')) g h b → d ≡ a || b → Read (looked_at (expression_of e)) f h d
  read_binary e at left op right left' right' f g h a b d i p q r s k =
      rw (at_binary e at left op right left' right' i p q, k)
      (no_name_read biased (meanings_in meaning (looked_at (expression_of left') ++ looked_at (expression_of right'))) f h (a || b)
      (read_then (looked_at (expression_of left')) (looked_at (expression_of right')) f g h a b r s))

  pub read_choose : (e : Expr) (at : ℕ) (test x y test' x' y' : Expr) (f g h i : List Finding) (a b c d k : Bool) → e ≡ Choose at test x y → test ≡ test' → x ≡ x' → y ≡ y'
      → Read (looked_at (expression_of test')) f g a → Read (looked_at (expression_of x')) g h b → Read (looked_at (expression_of y')) h i c → d ≡ a || b → k ≡ d || c
      → Read (looked_at (expression_of e)) f i k
  read_choose e at test x y test' x' y' f g h i a b c d k e1 e2 e3 e4 r s t u w =
      rw (at_choose e at test x y test' x' y' e1 e2 e3 e4, w, u)
      (no_name_read biased (meanings_in meaning (looked_at (expression_of test') ++ looked_at (expression_of x') ++ looked_at (expression_of y'))) f i ((a || b) || c)
      (read_then (looked_at (expression_of test') ++ looked_at (expression_of x')) (looked_at (expression_of y')) f h i (a || b) c
      (read_then (looked_at (expression_of test')) (looked_at (expression_of x')) f g h a b r s) t))

  pub read_call : (e : Expr) (at : ℕ) (callee : Callee) (bytes : List ℕ) (args args' : List Arg) (count : ℕ) (m : Option Meaning) (f g h : List Finding) (a b d : Bool) → e ≡ Call at callee bytes args → args ≡ args' → m ≡ meaning at
      → looked_at_in_arguments (call_looks callee bytes) 0 (arguments_of args') ≡ looked_at_first count args'
      → IsRead biased (m ∷ []) f g a → Read (looked_at_first count args') g h b → d ≡ a || b → Read (looked_at (expression_of e)) f h d
  read_call e at callee bytes args args' count m f g h a b d i p q k r s w =
      rw (at_call e at callee bytes args args' i p, k, ← q, w)
      (both_read biased (m ∷ []) (meanings_in meaning (looked_at_first count args')) f g h a b r s)

  -- What is left of the arguments from a place on, read after those before it, completes them.
  abbrev pub Completes : List Arg → ℕ → List Finding → ℕ → ℕ → List Finding → Bool → Type 0
  Completes args count start i left f answer =
      (h : List Finding) (b : Bool) → Read (looked_at_first left (drop i args)) f h b → Read (looked_at_first count args) start h (answer || b)

  first_split : (left : ℕ) (a : Arg) (rest : List Arg) → looked_at_first left (a ∷ rest) ≡ looked_at_if left a ++ looked_at_first (left - 1) rest
  first_split zero a rest = refl
  first_split (suc left) a rest = (let e : suc left - 1 ≡ left = omega arith in rw e refl)

  pub completes_next : (args : List Arg) (count : ℕ) (start : List Finding) (i left left' : ℕ) (f g : List Finding) (answer next answer' : Bool) (a : Arg) → i < length args → a ≡ get_or args i a → left' ≡ left - 1
      → Read (looked_at_if left a) f g next → answer' ≡ answer || next → Completes args count start i left f answer → Completes args count start (i + 1) left' g answer'
  completes_next args count start i left left' f g answer next answer' a lt is less r w completes h b s =
      let here : drop i args ≡ a ∷ drop (suc i) args = drop-cons args i a lt ∙ ap (λ (x : Arg). x ∷ drop (suc i) args) (sym is) in
      let one : i + 1 ≡ suc i = omega arith in
      let after : drop (i + 1) args ≡ drop (suc i) args = ap (λ (n : ℕ). drop n args) one in
      let rest : Read (looked_at_first (left - 1) (drop (suc i) args)) g h b = subst (λ (n : ℕ). Read (looked_at_first n (drop (suc i) args)) g h b) less (subst (λ (xs : List Arg). Read (looked_at_first left' xs) g h b) after s) in
      let both = read_then (looked_at_if left a) (looked_at_first (left - 1) (drop (suc i) args)) f g h next b r rest in
      let split : looked_at_first left (drop i args) ≡ looked_at_if left a ++ looked_at_first (left - 1) (drop (suc i) args) = ap (looked_at_first left) here ∙ first_split left a (drop (suc i) args) in
      let whole = completes h (next || b) (subst (λ (xs : List Expression). Read xs f h (next || b)) (sym split) both) in
      subst (λ (d : Bool). Read (looked_at_first count args) start h d) (sym (or_assoc answer next b) ∙ ap (λ (d : Bool). d || b) (sym w)) whole

  first_of_none : (left : ℕ) → looked_at_first left [] ≡ []
  first_of_none zero = refl
  first_of_none (suc left) = refl

  pub completes_end : (args : List Arg) (count : ℕ) (start : List Finding) (i left : ℕ) (f : List Finding) (answer : Bool) → length args ≤ i → Completes args count start i left f answer → Read (looked_at_first count args) start f answer
  completes_end args count start i left f answer h completes =
      let none : looked_at_first left (drop i args) ≡ [] = ap (looked_at_first left) (drop_of_length-le args h) ∙ first_of_none left in
      let read : Read (looked_at_first left (drop i args)) f f false = subst (λ (xs : List Expression). Read xs f f false) (sym none) (nothing_read biased f) in
      subst (λ (d : Bool). Read (looked_at_first count args) start f d) (or_false answer) (completes f false read)

  pub completes_start : (args : List Arg) (count : ℕ) (start : List Finding) → Completes args count start 0 count start false
  completes_start args count start h b r = r

  -- The same over any list whose elements have parts.
  abbrev pub ReadsOn : {X : Type 0} → (X → List Expression) → List X → List Finding → ℕ → List Finding → Bool → Type 0
  ReadsOn parts xs start i f answer =
      (h : List Finding) (b : Bool) → Read (flat_map parts (drop i xs)) f h b → Read (flat_map parts xs) start h (answer || b)

  pub reads_next : {X : Type 0} (parts : X → List Expression) (xs : List X) (start : List Finding) (i : ℕ) (f g : List Finding) (answer next answer' : Bool) (x : X) (own : List Expression) → i < length xs → x ≡ get_or xs i x → own ≡ parts x
      → Read own f g next → answer' ≡ answer || next → ReadsOn parts xs start i f answer → ReadsOn parts xs start (i + 1) g answer'
  reads_next {X} parts xs start i f g answer next answer' x own lt is p r w on h b s =
      let here : drop i xs ≡ x ∷ drop (suc i) xs = drop-cons xs i x lt ∙ ap (λ (y : X). y ∷ drop (suc i) xs) (sym is) in
      let one : i + 1 ≡ suc i = omega arith in
      let rest : Read (flat_map parts (drop (suc i) xs)) g h b = subst (λ (n : ℕ). Read (flat_map parts (drop n xs)) g h b) one s in
      let mine : Read (parts x) f g next = subst (λ (es : List Expression). Read es f g next) p r in
      let both = read_then (parts x) (flat_map parts (drop (suc i) xs)) f g h next b mine rest in
      let split : flat_map parts (drop i xs) ≡ parts x ++ flat_map parts (drop (suc i) xs) = ap (flat_map parts) here in
      let whole = on h (next || b) (subst (λ (es : List Expression). Read es f h (next || b)) (sym split) both) in
      subst (λ (d : Bool). Read (flat_map parts xs) start h d) (sym (or_assoc answer next b) ∙ ap (λ (d : Bool). d || b) (sym w)) whole

  pub reads_end : {X : Type 0} (parts : X → List Expression) (xs : List X) (start : List Finding) (i : ℕ) (f : List Finding) (answer : Bool) → length xs ≤ i → ReadsOn parts xs start i f answer → Read (flat_map parts xs) start f answer
  reads_end {X} parts xs start i f answer h on =
      let none : flat_map parts (drop i xs) ≡ [] = ap (flat_map parts) (drop_of_length-le xs h) in
      let read : Read (flat_map parts (drop i xs)) f f false = subst (λ (es : List Expression). Read es f f false) (sym none) (nothing_read biased f) in
      subst (λ (d : Bool). Read (flat_map parts xs) start f d) (or_false answer) (on f false read)
