-- Expressions that are looked at, variant by variant, and the arguments of calls.
use Rattle.std.specs.Prelude.{◌≡◌, ℕ, suc, ◌+◌, ◌<◌, ◌≤◌, ◌&&◌, ◌||◌, not, Bool, true, List, [], ◌∷◌, ◌++◌, flat_map, drop, length, get_or, slice_set, Option, Some, None, if◌then◌else◌}
use Rattle.std.proofs.Common.{refl, sym, ap, subst, ◌∙◌, arith}
use Rattle.std.proofs.Math.ListN.{drop_of_length-le}
use Rattle.std.proofs.Math.Seq.{drop-cons}
use Rattle.std.proofs.lemmas.List.{append_assoc, append-nil}
use Rattle.std.proofs.lemmas.Grind.{flat_map-append}
use Rattle.alg_laws.specs.declared.number.Ty.{Ty}
use Rattle.alg_laws.specs.declared.number.Ty.TheVariants.{Real}
use Rattle.va_base.specs.declared.fault.FaultCode.TheVariants.{ArgumentCount, RealOperand}
use Rattle.va_tree.specs.declared.expr.Arg.{Arg}
use Rattle.va_tree.specs.declared.expr.Arg.TheVariants as arg
use Rattle.va_tree.specs.declared.expr.BinaryOp.{BinaryOp}
use Rattle.va_tree.specs.declared.expr.UnaryOp.{UnaryOp}
use Rattle.va_tree.specs.declared.expr.Callee.{Callee}
use Rattle.va_tree.specs.declared.expr.Callee.TheVariants as callee
use Rattle.va_tree.specs.declared.expr.Expr.{Expr}
use Rattle.va_tree.specs.declared.expr.Expr.TheVariants.{Group, Unary, Binary, Choose, Call}
use Rattle.va_tree.specs.Expressions.{Expression, Arguments, group, unary, binary, choose, call, no_more, text_then, expression_then, expression_of, arguments_of}
use Rattle.va_tree.specs.ExpressionLaws.{at_group, at_unary, at_binary, at_choose, at_call}
use Rattle.va_sem.specs.declared.builtin.SystemFunction.TheVariants.{Temperature, ThermalVoltage, Limit, SimParam, ParamGiven}
use Rattle.va_sem.specs.declared.builtin.SystemName.{SystemName}
use Rattle.va_sem.specs.declared.builtin.SystemName.TheVariants as system
use Rattle.va_sem.specs.Builtins.{system_name_of, taken_at}
use Rattle.va_sem.specs.LookedAt.{looked_at, looked_at_in_arguments, looks, call_looks}
use Rattle.va_sem.specs.NamesFaults.{FaultAt, fault_if}
use Rattle.va_sem.specs.Typing.{Typing, type_of, types_of_arguments, types_in, types_in_arguments, type_of_call, type_of_called, type_of_system, type_of_unary, type_of_binary, either_type, arguments_fit, argument_count, call_takes, meaning_at}
use Rattle.va_sem.specs.TypesFaults.{expression_faults, kind_faults, is_real, is_remainder}
use Rattle.va_types.specs.declared.found.Found.{Found}
use Rattle.va_types.specs.Found.{Finds, IsRead, AreRead, IsArgumentRead, types_given, type_given, types_in_argument, looked_at_in_argument}
use Rattle.va_types.proofs.Finding.{finds_then, finds_faults, finds_turned, closes, Remains, remains_next, remains_end}

module _ (t : Typing) where
  abbrev faults_in : List Expression → List FaultAt
  faults_in = flat_map (expression_faults t)

  -- the types of arguments that aren't looked at play no part
  all_given : (test : ℕ → Bool) (place : ℕ) (args : Arguments) → ((p : ℕ) → test p ≡ true) → types_given t test place args ≡ types_of_arguments t args
  all_given test place no_more all = refl
  all_given test place (text_then text rest) all = ap (λ l. None ∷ l) (all_given test (place + 1) rest all)
  all_given test place (expression_then e rest) all = λ j. Some (if all place j then type_of t e else Real) ∷ all_given test (place + 1) rest all j

  by_name : (s : Option SystemName) (fit : Bool) (args : Arguments) → type_of_system fit (types_given t (looks s) 0 args) s ≡ type_of_system fit (types_of_arguments t args) s
  by_name None fit args = refl
  by_name (Some system.Task) fit args = refl
  by_name (Some (system.Function Temperature)) fit args = refl
  by_name (Some (system.Function ThermalVoltage)) fit args = refl
  by_name (Some (system.Function Limit)) fit args = refl
  by_name (Some (system.Function ParamGiven)) fit args = refl
  by_name (Some (system.Function SimParam)) fit args =
      ap (λ types. type_of_system fit types (Some (system.Function SimParam))) (all_given (looks (Some (system.Function SimParam))) 0 args (λ p. refl))

  given_type : (at : ℕ) (c : Callee) (bytes : List ℕ) (fit : Bool) (args : Arguments)
      → type_of_call t at c bytes fit (types_given t (call_looks c bytes) 0 args) ≡ type_of_call t at c bytes fit (types_of_arguments t args)
  given_type at callee.Function bytes fit args =
      ap (λ types. type_of_called t fit types (meaning_at t.uses at)) (all_given (call_looks callee.Function bytes) 0 args (λ p. refl))
  given_type at callee.System bytes fit args = by_name (system_name_of bytes) fit args

  -- an expression whose room was made first
  pub node : (e : Expression) (inner : List Ty) (f : List FaultAt) (place : ℕ) (ty answer : Ty) (x y z w : Found) → types_in t e ≡ type_of t e ∷ inner → faults_in (looked_at e) ≡ f
      → place ≡ length x.types.items → Finds (Real ∷ []) [] x y → Finds inner f y z → ty ≡ type_of t e → answer ≡ ty → w.types.items ≡ slice_set z.types.items place ty → w.least ≡ z.least → IsRead t e x w answer
  node e inner f place ty answer x y z w types faults at room finds is answers new kept = record {
    answer_is = answers ∙ is;
    finds =
        subst (λ (l : List Ty). Finds l (faults_in (looked_at e)) x w) (sym types)
        (subst (λ (g : List FaultAt). Finds (type_of t e ∷ inner) g x w) (sym faults)
        (closes Real ty (type_of t e) place inner f x z w at (finds_then (Real ∷ []) inner [] f x y z room finds) new kept is));
  }

  pub read_group : (e : Expr) (at : ℕ) (inner inner' : Expr) (place : ℕ) (a answer : Ty) (x y z w : Found) → e ≡ Group at inner → inner ≡ inner' → place ≡ length x.types.items → Finds (Real ∷ []) [] x y
      → IsRead t (expression_of inner') y z a → answer ≡ a → w.types.items ≡ slice_set z.types.items place a → w.least ≡ z.least → IsRead t (expression_of e) x w answer
  read_group e at inner inner' place a answer x y z w h p m room r answers new kept =
      rw (at_group e at inner inner' h p)
      (node (group at (expression_of inner')) (types_in t (expression_of inner')) (faults_in (looked_at (expression_of inner'))) place a answer x y z w refl refl m room r.finds r.answer_is answers new kept)

  pub read_unary : (e : Expr) (at : ℕ) (op : UnaryOp) (operand operand' : Expr) (place : ℕ) (a ty answer : Ty) (x y z w : Found) → e ≡ Unary at op operand → operand ≡ operand' → place ≡ length x.types.items → Finds (Real ∷ []) [] x y
      → IsRead t (expression_of operand') y z a → ty ≡ type_of_unary op a → answer ≡ ty → w.types.items ≡ slice_set z.types.items place ty → w.least ≡ z.least → IsRead t (expression_of e) x w answer
  read_unary e at op operand operand' place a ty answer x y z w h p m room r is answers new kept =
      rw (at_unary e at op operand operand' h p)
      (node (unary at op (expression_of operand')) (types_in t (expression_of operand')) (faults_in (looked_at (expression_of operand'))) place ty answer x y z w refl refl m room r.finds (is ∙ ap (type_of_unary op) r.answer_is) answers new kept)

  pub read_binary : (e : Expr) (at : ℕ) (left : Expr) (op : BinaryOp) (right left' right' : Expr) (place : ℕ) (a b ty answer : Ty) (broken : Bool) (x y z v u w : Found) → e ≡ Binary at left op right → left ≡ left' → right ≡ right'
      → place ≡ length x.types.items → Finds (Real ∷ []) [] x y → IsRead t (expression_of left') y z a → IsRead t (expression_of right') z v b → broken ≡ is_remainder op && (is_real a || is_real b)
      → Finds [] (fault_if broken at RealOperand) v u → ty ≡ type_of_binary op a b → answer ≡ ty → w.types.items ≡ slice_set u.types.items place ty → w.least ≡ u.least → IsRead t (expression_of e) x w answer
  read_binary e at left op right left' right' place a b ty answer broken x y z v u w h p q m room r s breaks fault is answers new kept =
      let l : Expression = expression_of left' in
      let k : Expression = expression_of right' in
      let own : List FaultAt = fault_if (is_remainder op && (is_real (type_of t l) || is_real (type_of t k))) at RealOperand in
      let both : Finds (types_in t l ++ types_in t k) (faults_in (looked_at l) ++ faults_in (looked_at k)) y v = finds_then (types_in t l) (types_in t k) (faults_in (looked_at l)) (faults_in (looked_at k)) y z v r.finds s.finds in
      let told : broken ≡ is_remainder op && (is_real (type_of t l) || is_real (type_of t k)) = breaks ∙ (λ j. is_remainder op && (is_real (r.answer_is j) || is_real (s.answer_is j))) in
      let mine : Finds [] own v u = subst (λ (c : Bool). Finds [] (fault_if c at RealOperand) v u) told fault in
      let all : Finds (types_in t l ++ types_in t k) (own ++ (faults_in (looked_at l) ++ faults_in (looked_at k))) y u =
      finds_turned (types_in t l ++ types_in t k) (faults_in (looked_at l) ++ faults_in (looked_at k)) own y u (finds_faults (types_in t l ++ types_in t k) (faults_in (looked_at l) ++ faults_in (looked_at k)) own y v u both mine) in
      rw (at_binary e at left op right left' right' h p q)
      (node (binary at l op k) (types_in t l ++ types_in t k) (own ++ (faults_in (looked_at l) ++ faults_in (looked_at k))) place ty answer x y u w refl
      (ap (λ list. own ++ list) (flat_map-append (expression_faults t) (looked_at l) (looked_at k))) m room all (is ∙ (λ j. type_of_binary op (r.answer_is j) (s.answer_is j))) answers new kept)

  pub read_choose : (e : Expr) (at : ℕ) (test f g test' f' g' : Expr) (place : ℕ) (c a b ty answer : Ty) (x y z v u w : Found) → e ≡ Choose at test f g → test ≡ test' → f ≡ f' → g ≡ g'
      → place ≡ length x.types.items → Finds (Real ∷ []) [] x y → IsRead t (expression_of test') y z c → IsRead t (expression_of f') z v a → IsRead t (expression_of g') v u b
      → ty ≡ either_type a b → answer ≡ ty → w.types.items ≡ slice_set u.types.items place ty → w.least ≡ u.least → IsRead t (expression_of e) x w answer
  read_choose e at test f g test' f' g' place c a b ty answer x y z v u w h p q r m room i k n is answers new kept =
      let o : Expression = expression_of test' in
      let l : Expression = expression_of f' in
      let d : Expression = expression_of g' in
      let first : Finds (types_in t o ++ types_in t l) (faults_in (looked_at o) ++ faults_in (looked_at l)) y v = finds_then (types_in t o) (types_in t l) (faults_in (looked_at o)) (faults_in (looked_at l)) y z v i.finds k.finds in
      let all : Finds ((types_in t o ++ types_in t l) ++ types_in t d) ((faults_in (looked_at o) ++ faults_in (looked_at l)) ++ faults_in (looked_at d)) y u =
      finds_then (types_in t o ++ types_in t l) (types_in t d) (faults_in (looked_at o) ++ faults_in (looked_at l)) (faults_in (looked_at d)) y v u first n.finds in
      let fall : faults_in ((looked_at o ++ looked_at l) ++ looked_at d) ≡ (faults_in (looked_at o) ++ faults_in (looked_at l)) ++ faults_in (looked_at d) =
      flat_map-append (expression_faults t) (looked_at o ++ looked_at l) (looked_at d) ∙ ap (λ list. list ++ faults_in (looked_at d)) (flat_map-append (expression_faults t) (looked_at o) (looked_at l)) in
      rw (at_choose e at test f g test' f' g' h p q r)
      (node (choose at o l d) ((types_in t o ++ types_in t l) ++ types_in t d) ((faults_in (looked_at o) ++ faults_in (looked_at l)) ++ faults_in (looked_at d)) place ty answer x y u w refl fall m room all
      (is ∙ (λ j. either_type (k.answer_is j) (n.answer_is j))) answers new kept)

  pub read_call : (e : Expr) (at : ℕ) (c : Callee) (bytes : List ℕ) (args args' : List Arg) (place : ℕ) (fit : Bool) (tys : List (Option Ty)) (ty answer : Ty) (x y z v w : Found) → e ≡ Call at c bytes args → args ≡ args'
      → place ≡ length x.types.items → Finds (Real ∷ []) [] x y → fit ≡ arguments_fit t at c bytes (arguments_of args')
      → Finds [] (fault_if (not (call_takes t at c bytes (argument_count (arguments_of args')))) at ArgumentCount ++ kind_faults t.uses (taken_at c bytes) 0 (arguments_of args')) y z
      → AreRead t (call_looks c bytes) (arguments_of args') z v tys → ty ≡ type_of_call t at c bytes fit tys → answer ≡ ty → w.types.items ≡ slice_set v.types.items place ty → w.least ≡ v.least → IsRead t (expression_of e) x w answer
  read_call e at c bytes args args' place fit tys ty answer x y z v w h p m room fits own r is answers new kept =
      let all : Arguments = arguments_of args' in
      let mine : List FaultAt = fault_if (not (call_takes t at c bytes (argument_count all))) at ArgumentCount ++ kind_faults t.uses (taken_at c bytes) 0 all in
      let inner : List FaultAt = faults_in (looked_at_in_arguments (call_looks c bytes) 0 all) in
      rw (at_call e at c bytes args args' h p)
      (node (call at c bytes all) (types_in_arguments t (call_looks c bytes) 0 all) (mine ++ inner) place ty answer x y v w refl refl m room
      (finds_then [] (types_in_arguments t (call_looks c bytes) 0 all) mine inner y z v own r.finds)
      (is ∙ (λ j. type_of_call t at c bytes (fits j) (r.answer_is j)) ∙ given_type at c bytes (arguments_fit t at c bytes all) all) answers new kept)

  -- arguments one after another
  pub record ReadsOn (test : ℕ → Bool) (args : List Arg) (start : Found) (i : ℕ) (x : Found) (tys : List (Option Ty)) : Type 0 where
    pub answer_is : tys ++ types_given t test i (arguments_of (drop i args)) ≡ types_given t test 0 (arguments_of args)
    pub finds :
        Remains (types_in_arguments t test i (arguments_of (drop i args))) (types_in_arguments t test 0 (arguments_of args))
        (faults_in (looked_at_in_arguments test i (arguments_of (drop i args)))) (faults_in (looked_at_in_arguments test 0 (arguments_of args))) start x

  pub reads_start : (test : ℕ → Bool) (args : List Arg) (x : Found) → ReadsOn test args x 0 x []
  reads_start test args x = record { answer_is = refl; finds = record { types_are = refl; least_is = refl } }

  given_split : (test : ℕ → Bool) (i : ℕ) (a : Arg) (rest : List Arg) → types_given t test i (arguments_of (a ∷ rest)) ≡ type_given t (test i) a ∷ types_given t test (i + 1) (arguments_of rest)
  given_split test i (arg.Text text) rest = refl
  given_split test i (arg.Expr e) rest = refl

  types_split : (test : ℕ → Bool) (i : ℕ) (a : Arg) (rest : List Arg)
      → types_in_arguments t test i (arguments_of (a ∷ rest)) ≡ types_in_argument t (test i) a ++ types_in_arguments t test (i + 1) (arguments_of rest)
  types_split test i (arg.Text text) rest = refl
  types_split test i (arg.Expr e) rest = refl

  faults_split : (test : ℕ → Bool) (i : ℕ) (a : Arg) (rest : List Arg)
      → faults_in (looked_at_in_arguments test i (arguments_of (a ∷ rest))) ≡ faults_in (looked_at_in_argument (test i) a) ++ faults_in (looked_at_in_arguments test (i + 1) (arguments_of rest))
  faults_split test i (arg.Text text) rest = refl
  faults_split test i (arg.Expr e) rest =
      flat_map-append (expression_faults t) (if test i then looked_at (expression_of e) else []) (looked_at_in_arguments test (i + 1) (arguments_of rest))

  pub reads_next : (test : ℕ → Bool) (args : List Arg) (start x y : Found) (i : ℕ) (a : Arg) (looked : Bool) (tys tys' : List (Option Ty)) (ty : Option Ty) → i < length args → a ≡ get_or args i a → looked ≡ test i
      → IsArgumentRead t looked a x y ty → tys' ≡ tys ++ ty ∷ [] → ReadsOn test args start i x tys → ReadsOn test args start (i + 1) y tys'
  reads_next test args start x y i a looked tys tys' ty lt is told r new on =
      let rest : List Arg = drop (i + 1) args in
      let here : drop i args ≡ a ∷ drop (suc i) args = drop-cons args i a lt ∙ ap (λ (z : Arg). z ∷ drop (suc i) args) (sym is) in
      let one : drop (suc i) args ≡ rest = (let e : suc i ≡ i + 1 = omega arith in ap (λ (n : ℕ). drop n args) e) in
      let there : drop i args ≡ a ∷ rest = here ∙ ap (λ (l : List Arg). a ∷ l) one in
      let mine : IsArgumentRead t (test i) a x y ty = subst (λ (b : Bool). IsArgumentRead t b a x y ty) told r in
      let own : List Ty = types_in_argument t (test i) a in
      let others : List Ty = types_in_arguments t test (i + 1) (arguments_of rest) in
      let whole : List Ty = types_in_arguments t test 0 (arguments_of args) in
      let own_faults : List FaultAt = faults_in (looked_at_in_argument (test i) a) in
      let other_faults : List FaultAt = faults_in (looked_at_in_arguments test (i + 1) (arguments_of rest)) in
      let whole_faults : List FaultAt = faults_in (looked_at_in_arguments test 0 (arguments_of args)) in
      let types : types_in_arguments t test i (arguments_of (drop i args)) ≡ own ++ others = ap (λ (l : List Arg). types_in_arguments t test i (arguments_of l)) there ∙ types_split test i a rest in
      let faults : faults_in (looked_at_in_arguments test i (arguments_of (drop i args))) ≡ own_faults ++ other_faults =
      ap (λ (l : List Arg). faults_in (looked_at_in_arguments test i (arguments_of l))) there ∙ faults_split test i a rest in
      record {
        answer_is =
            ap (λ l. l ++ types_given t test (i + 1) (arguments_of rest)) new
            ∙ append_assoc tys (ty ∷ []) (types_given t test (i + 1) (arguments_of rest))
            ∙ ap (λ (o : Option Ty). tys ++ o ∷ types_given t test (i + 1) (arguments_of rest)) mine.answer_is
            ∙ ap (λ l. tys ++ l) (sym (ap (λ (l : List Arg). types_given t test i (arguments_of l)) there ∙ given_split test i a rest))
            ∙ on.answer_is;
        finds =
            remains_next own others whole own_faults other_faults whole_faults start x y
            (subst (λ (l : List Ty). Remains l whole (own_faults ++ other_faults) whole_faults start x) types
            (subst (λ (f : List FaultAt). Remains (types_in_arguments t test i (arguments_of (drop i args))) whole f whole_faults start x) faults on.finds)) mine.finds;
      }

  pub reads_end : (test : ℕ → Bool) (args : List Arg) (start x : Found) (i : ℕ) (tys : List (Option Ty)) → length args ≤ i → ReadsOn test args start i x tys → AreRead t test (arguments_of args) start x tys
  reads_end test args start x i tys h on =
      let none : drop i args ≡ [] = drop_of_length-le args h in
      let whole : List Ty = types_in_arguments t test 0 (arguments_of args) in
      let whole_faults : List FaultAt = faults_in (looked_at_in_arguments test 0 (arguments_of args)) in
      record {
        answer_is = sym (append-nil tys) ∙ ap (λ (l : List Arg). tys ++ types_given t test i (arguments_of l)) (sym none) ∙ on.answer_is;
        finds =
            remains_end whole whole_faults start x
            (subst (λ (l : List Arg). Remains (types_in_arguments t test i (arguments_of l)) whole (faults_in (looked_at_in_arguments test i (arguments_of l))) whole_faults start x) none on.finds);
      }
