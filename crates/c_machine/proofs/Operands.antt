-- Atoms and right sides of bodies that obey the rules of form: they aren't stuck, and have the types that the rules give them.
use Rattle.std.specs.Prelude.{◌≡◌, ℕ, ◌==◌, not, Bool, true, false, if◌then◌else◌, pos, nat_lt, List, [], ◌∷◌, ◌++◌, length, map, slice_get, Option, Some, None}
use Rattle.std.proofs.Common.{refl, sym, ap, ◌∙◌, subst, arith}
use Rattle.alg_laws.specs.declared.function.Fun1.{Fun1}
use Rattle.alg_laws.specs.declared.function.Fun2.{Fun2}
use Rattle.alg_laws.specs.declared.number.Number.{Number}
use Rattle.alg_laws.specs.declared.number.Number.TheVariants.{Real, Int}
use Rattle.alg_laws.specs.declared.number.Ty.{Ty}
use Rattle.alg_laws.specs.declared.number.Ty.TheVariants.{Integer, Real as RealTy}
use Rattle.alg_laws.specs.NumberOps.{type_of, is_true, converted, negative_of}
use Rattle.alg_laws.specs.Operations.{Operations}
use Rattle.alg_laws.specs.Outcome.{Outcome, gives, ◌>>=◌}
use Rattle.c_tree.specs.declared.body.CAtom.{CAtom}
use Rattle.c_tree.specs.declared.body.CAtom.TheVariants as atom
use Rattle.c_tree.specs.declared.body.CCallee.{CCallee}
use Rattle.c_tree.specs.declared.body.CCallee.TheVariants as callee
use Rattle.c_tree.specs.declared.body.CCell.{CCell}
use Rattle.c_tree.specs.declared.body.COperator.{COperator}
use Rattle.c_machine.specs.Execution.{Scope, State, has, holds, local_value, atom_value, atom_values, operated, integer_value, test_value, called, right_value}
use Rattle.c_tree.specs.FileOf.{right_of}
use Rattle.c_tree.specs.SameType.{same_type}
use Rattle.c_machine.specs.Machine.{Stop, found, only_if, typed, Machine, place_of, cells_of, flag_count, at_place}
use Rattle.c_tree.specs.Raw.{At, RawRight, same, negated, contrary, to_real, to_integer, call, binary, RawArgument, RawFunction, RawModule}
use Rattle.c_tree.specs.Spelling.{EachHas}
use Rattle.c_tree.specs.rules.Bodies.{Declared, RawBody, atoms_of_right}
use Rattle.c_tree.specs.rules.Fields.{cell_type}
use Rattle.c_tree.specs.rules.Types.{type_of_local, type_of_argument, function_called, Signature, signature_of, signature, fitting, differs, is_comparison, is_remainder, type_of_atom, wanted, arguments_differ, call_differs, wanted_by, operands_differ, operand_differs, type_of_right, right_differs, not_fitting, right_calls, or_else, joint, result_of}
use Rattle.c_tree.proofs.Blameless.{no_parts, same_test}
use Rattle.c_machine.proofs.Endings.{then_gives, value_given}
use Rattle.c_machine.proofs.Keeping.{one_type}
use Rattle.c_machine.proofs.Unstuck.{Goes, goes_gives, goes_given, goes_then, goes_defined, defined_gives, only_if_true, found_some, typed_as, same_itself, type_of_truth, type_of_negative, type_of_converted, operated_goes, operated_type}

-- what goes and, where it gives a value, gives one of a type
pub record Fits {V : Type 0} (a : Outcome Stop (Number V)) (ty : Ty) : Type 0 where
  pub goes : Goes a
  pub typed : (v : Number V) → a ≡ gives v → type_of v ≡ ty

pub at_its_place : {V : Type 0} (places : List ℕ) (values : List V) (i p : ℕ) (x : V) → slice_get places i ≡ Some p
    → slice_get values p ≡ Some x → at_place places values i ≡ gives x
at_its_place places values i p x h k = (λ z. found (h z) >>= λ place. found (slice_get values place)) ∙ found_some _ _ k

pub differs_none : (t ty : Ty) (at : ℕ) → differs (Some t) ty at ≡ [] → t ≡ ty
differs_none t ty at h = by_test (same_type t ty) refl h
  where
    by_test : (test : Bool) → same_type t ty ≡ test → (if test then (let none : List ℕ = [] in none) else at ∷ []) ≡ [] → t ≡ ty
    by_test true e k = one_type t ty e
    by_test false e k = cc (k)

module _ {V : Type 0} (o : Operations V) (m : RawModule) (b : RawBody) (c : Scope V) (nodes : List ℕ) where
  -- what a body may rely on, of its functions and arguments
  pub record ScopeOk : Type 0 where
    pub calls : (j : ℕ) (f : RawFunction) (vs : List (Number V)) → function_called m b j ≡ Some f
        → map (λ v. type_of v) vs ≡ map (λ a. RawArgument.ty a) f.arguments → Fits (c.calls j vs) f.result
    pub arguments : (i : ℕ) (ty : Ty) → type_of_argument i b.arguments ≡ Some ty
        → (v : Number V) × (c.arguments i ≡ Some v) × (type_of v ≡ ty)

  -- what it may rely on, of the machine
  pub record MachineOk (s : Machine V) : Type 0 where
    pub cells : (cell : CCell) (ty : Ty) → has c cell.level ≡ true → cell_type m cell ≡ Some ty
        → (p : ℕ) × (v : Number V) × (place_of c.tree cell ≡ Some p) × (slice_get (cells_of s cell.level) p ≡ Some v) × (type_of v ≡ ty)
    pub flags : c.has_instance ≡ true → (pair : ℕ) → nat_lt pair (flag_count c.tree) ≡ true
        → (v : Number V) × (slice_get s.instance pair ≡ Some v) × (type_of v ≡ Integer)
    pub node : s.node ≡ nodes

  -- an unknown of the solution
  pub record UnknownOk (i : ℕ) : Type 0 where
    pub reached : c.has_instance ≡ true
    pub solution : List V
    pub given : c.solution ≡ Some solution
    pub place : ℕ
    pub mapped : slice_get nodes i ≡ Some place
    pub value : V
    pub there : slice_get solution place ≡ Some value

  module _ (known : List Declared) (st : State V) where
    -- what the rules ask of an atom
    abbrev pub AtomOk : CAtom → Type 0
    AtomOk (atom.Local i) = (ty : Ty) × (v : Number V) × (type_of_local i known ≡ Some ty) × (st.locals i ≡ holds v) × (type_of v ≡ ty)
    AtomOk (atom.Argument i) = (ty : Ty) × (type_of_argument i b.arguments ≡ Some ty)
    AtomOk (atom.Integer i) = Unit {0}
    AtomOk (atom.Real d) = Unit {0}
    AtomOk (atom.Cell cell) = (ty : Ty) × (has c cell.level ≡ true) × (cell_type m cell ≡ Some ty)
    AtomOk (atom.Unknown i) = UnknownOk i

    -- an atom gives a value of its type
    pub record Valued (a : CAtom) : Type 0 where
      pub ty : Ty
      pub static : type_of_atom m b known a ≡ Some ty
      pub value : Number V
      pub given : atom_value o c st a ≡ gives value
      pub fits : type_of value ≡ ty

    pub atom_valued : ScopeOk → MachineOk st.machine → (a : CAtom) → AtomOk a → Valued a
    atom_valued sc ma (atom.Local i) h =
        record { ty = h.0; static = h.2; value = h.1; given = ap local_value h.3; fits = h.4 }
    atom_valued sc ma (atom.Argument i) h =
        let a = sc.arguments i h.0 h.1 in
        record { ty = h.0; static = h.1; value = a.0; given = found_some _ _ a.1; fits = a.2 }
    atom_valued sc ma (atom.Integer i) h =
        record { ty = Integer; static = refl; value = Int (pos i); given = refl; fits = refl }
    atom_valued sc ma (atom.Real d) h = record { ty = RealTy; static = refl; value = _; given = refl; fits = refl }
    atom_valued sc ma (atom.Cell cell) h =
        let a = ma.cells cell h.0 h.1 h.2 in
        record {
          ty = h.0;
          static = h.2;
          value = a.1;
          given = only_if_true (has c cell.level) _ h.1
              ∙ (λ i. found (a.2 i) >>= λ place. found (slice_get (cells_of st.machine cell.level) place)) ∙ found_some _ _ a.3;
          fits = a.4;
        }
    atom_valued sc ma (atom.Unknown i) h = record {
      ty = RealTy;
      static = refl;
      value = Real h.value;
      given = (λ z. found (h.given z) >>= λ solution. at_place (ma.node z) solution i >>= λ x. only_if c.has_instance (gives (Real x)))
          ∙ (λ z. at_its_place nodes h.solution i h.place h.value h.mapped h.there z >>= λ x. only_if c.has_instance (gives (Real x)))
          ∙ only_if_true c.has_instance _ h.reached;
      fits = refl;
    }

    static_type : (ty : Ty) (at : ℕ) (a : CAtom) (v : Valued a) → differs (type_of_atom m b known a) ty at ≡ [] → type_of v.value ≡ ty
    static_type ty at a v h = v.fits ∙ differs_none v.ty ty at ((λ i. differs (sym v.static i) ty at) ∙ h)

    -- an atom that a rule finds to have the type that is wanted
    pub wanted_type : (ty : Ty) (a : At CAtom) (v : Valued a.value) → wanted m b known ty a ≡ [] → type_of v.value ≡ ty
    wanted_type ty a v h = v.fits ∙ differs_none v.ty ty a.at ((λ i. differs (sym v.static i) ty a.at) ∙ h)

    pub integer_given : (a : At CAtom) (v : Valued a.value) → wanted m b known Integer a ≡ []
        → integer_value o c st a.value ≡ gives v.value
    integer_given a v h = (λ i. v.given i >>= λ w. typed Integer w) ∙ typed_as Integer v.value (wanted_type Integer a v h)

    pub test_goes : (a : At CAtom) (v : Valued a.value) → wanted m b known Integer a ≡ [] → Goes (test_value o c st a.value)
    test_goes a v h = goes_given _ (is_true o v.value) (λ i. integer_given a v h i >>= λ w. gives (is_true o w))

    -- the values of arguments, whose types are those that are wanted
    pub record ValuesOf (args : List (At CAtom)) (types : List Ty) : Type 0 where
      pub values : List (Number V)
      pub given : atom_values o c st (map (λ a. a.value) args) ≡ gives values
      pub fits : map (λ v. type_of v) values ≡ types

    pub arguments_valued : (args : List (At CAtom)) (types : List Ty) → EachHas (λ a. Valued (At.value a)) args
        → length types ≡ length args → arguments_differ m b known types args ≡ [] → ValuesOf args types
    arguments_valued [] [] h n k = record { values = []; given = refl; fits = refl }
    arguments_valued [] (ty ∷ types) h n k = absurd (let no : ⊥ = omega (arith, n) in no)
    arguments_valued (a ∷ args) [] h n k = absurd (let no : ⊥ = omega (arith, n) in no)
    arguments_valued (a ∷ args) (ty ∷ types) h n k =
        let p = no_parts (wanted m b known ty a) (arguments_differ m b known types args) k in
        let rest = arguments_valued args types h.1 (omega (arith, n)) p.1 in
        record {
          values = h.0.value ∷ rest.values;
          given = λ i. h.0.given i >>= λ v. rest.given i >>= λ vs. gives (v ∷ vs);
          fits = λ i. wanted_type ty a h.0 p.0 i ∷ rest.fits i;
        }

    fitting_some : (x : Option Signature) (at : ℕ) → not_fitting x at ≡ [] → (s : Signature) × (x ≡ Some s)
    fitting_some None at h = cc (h)
    fitting_some (Some s) at h = (s, refl)

    fitting_parts : (x : Option Signature) (count : ℕ) (s : Signature) → fitting x count ≡ Some s
        → (x ≡ Some s) × (length s.arguments ≡ count)
    fitting_parts None count s h = cc (h)
    fitting_parts (Some t) count s h = by_test (length t.arguments == count) refl h
      where
        by_test : (test : Bool) → (length t.arguments == count) ≡ test → (if test then Some t else None) ≡ Some s
            → (Some t ≡ Some s) × (length s.arguments ≡ count)
        by_test true e k =
            let is : t ≡ s = cc (k) in
            (k, ap (λ z. length (Signature.arguments z)) (sym is) ∙ same_test _ _ e)
        by_test false e k = cc (k)

    -- a function of C's library
    one_argument : (f : Fun1) (s : Signature) (vs : List (Number V)) → map (λ v. type_of v) vs ≡ RealTy ∷ [] → RealTy ≡ s.result
        → Fits (called o c.calls (callee.Fun1 f) vs) s.result
    one_argument f s [] q r = cc (q)
    one_argument f s (v ∷ []) q r =
        let e : type_of v ≡ RealTy = cc (q) in
        record {
          goes = goes_then (typed RealTy v) _ (goes_given _ v (typed_as RealTy v e)) (λ x g. goes_gives _);
          typed = λ w g. (let a = then_gives (typed RealTy v) _ w g in ap (λ u. type_of u) (sym (value_given _ _ a.2)) ∙ r);
        }
    one_argument f s (v ∷ w ∷ rest) q r = cc (q)

    two_arguments : (f : Fun2) (s : Signature) (vs : List (Number V)) → map (λ v. type_of v) vs ≡ RealTy ∷ RealTy ∷ []
        → RealTy ≡ s.result → Fits (called o c.calls (callee.Fun2 f) vs) s.result
    two_arguments f s [] q r = cc (q)
    two_arguments f s (v ∷ []) q r = cc (q)
    two_arguments f s (v ∷ w ∷ []) q r =
        let e : type_of v ≡ RealTy = cc (q) in
        let d : type_of w ≡ RealTy = cc (q) in
        record {
          goes = goes_then (typed RealTy v) _ (goes_given _ v (typed_as RealTy v e))
              (λ x g. goes_then (typed RealTy w) _ (goes_given _ w (typed_as RealTy w d)) (λ y k. goes_gives _));
          typed = λ u g. (
              let a = then_gives (typed RealTy v) _ u g in
              let b' = then_gives (typed RealTy w) _ u a.2 in
              ap (λ z. type_of z) (sym (value_given _ _ b'.2)) ∙ r);
        }
    two_arguments f s (v ∷ w ∷ x ∷ rest) q r = cc (q)

    a_function : (j : ℕ) (vs : List (Number V)) → called o c.calls (callee.Function j) vs ≡ c.calls j vs
    a_function j [] = refl
    a_function j (v ∷ []) = refl
    a_function j (v ∷ w ∷ []) = refl
    a_function j (v ∷ w ∷ x ∷ rest) = refl

    function_found : (x : Option RawFunction) (s : Signature) → signature_of x ≡ Some s
        → (f : RawFunction) × (x ≡ Some f) × (s.arguments ≡ map (λ a. RawArgument.ty a) f.arguments) × (s.result ≡ f.result)
    function_found None s h = cc (h)
    function_found (Some f) s h =
        let is : _ ≡ s = cc (h) in
        (f, refl, ap (λ z. Signature.arguments z) (sym is), ap (λ z. Signature.result z) (sym is))

    called_fits : ScopeOk → (f : CCallee) (s : Signature) (vs : List (Number V)) → signature m b f ≡ Some s
        → map (λ v. type_of v) vs ≡ s.arguments → Fits (called o c.calls f vs) s.result
    called_fits sc (callee.Fun1 f) s vs h k =
        let library : Signature = record { arguments = RealTy ∷ []; result = RealTy } in
        let is : library ≡ s = cc (h) in
        one_argument f s vs (k ∙ ap (λ z. Signature.arguments z) (sym is)) (ap (λ z. Signature.result z) is)
    called_fits sc (callee.Fun2 f) s vs h k =
        let library : Signature = record { arguments = RealTy ∷ RealTy ∷ []; result = RealTy } in
        let is : library ≡ s = cc (h) in
        two_arguments f s vs (k ∙ ap (λ z. Signature.arguments z) (sym is)) (ap (λ z. Signature.result z) is)
    called_fits sc (callee.Function j) s vs h k =
        let a = function_found (function_called m b j) s h in
        let d = sc.calls j a.0 vs a.1 (k ∙ a.2) in
        record {
          goes = subst Goes (sym (a_function j vs)) d.goes;
          typed = λ v g. d.typed v (sym (a_function j vs) ∙ g) ∙ sym a.3;
        }

    -- where nothing else is blamed, the declared type is that of the right side
    declared : (faults others : List ℕ) → or_else faults others ≡ [] → (faults ≡ []) × (others ≡ [])
    declared [] others h = (refl, h)
    declared (at ∷ faults) others h = cc (h)

    abbrev RightFits : Ty → At RawRight → Type 0
    RightFits ty side = Fits (right_value o c st (right_of side.value)) ty

    -- the rules on a right side, part by part
    parts : (ty : Ty) (side : At RawRight) → right_differs m b known ty side ≡ []
        → (operand_differs m b known side.value ≡ []) × (operands_differ m b known side.value ≡ [])
        × (differs (type_of_right m b known side.value) ty side.at ≡ [])
    parts ty side h =
        let p = no_parts (operand_differs m b known side.value) _ h in
        let q = declared (operands_differ m b known side.value) _ p.1 in
        (p.0, q.0, q.1)

    by_kind : (op : COperator) (a d : At CAtom) (v : Valued a.value) (w : Valued d.value) (r : Bool) → is_remainder op ≡ r
        → (if r then wanted m b known Integer a ++ wanted m b known Integer d else wanted_by m b known (type_of_atom m b known a.value) d) ≡ []
        → (type_of v.value ≡ type_of w.value) × (is_remainder op ≡ true → type_of v.value ≡ Integer)
    by_kind op a d v w true e h =
        let p = no_parts (wanted m b known Integer a) _ h in
        let first = wanted_type Integer a v p.0 in
        (first ∙ sym (wanted_type Integer d w p.1), λ k. first)
    by_kind op a d v w false e h =
        let k : wanted m b known v.ty d ≡ [] = (λ i. wanted_by m b known (sym v.static i) d) ∙ h in
        (v.fits ∙ sym (wanted_type v.ty d w k), λ q. cc (sym e ∙ q))

    by_result : (ty other : Ty) (at : ℕ) (value : Ty) (t r : Bool) → value ≡ other
        → differs (if t then Some Integer else (if r then Some Integer else Some other)) ty at ≡ []
        → (if t then Integer else (if r then Integer else value)) ≡ ty
    by_result ty other at value true r e h = differs_none Integer ty at h
    by_result ty other at value false true e h = differs_none Integer ty at h
    by_result ty other at value false false e h = e ∙ differs_none other ty at h

    -- a right side whose atoms have values
    pub right_fits : ScopeOk → (ty : Ty) (side : At RawRight) → right_differs m b known ty side ≡ [] → right_calls m b side ≡ []
        → EachHas (λ a. Valued (At.value a)) (atoms_of_right side.value) → RightFits ty side
    right_fits sc ty side h k vs = by_side side.value vs (parts ty side h) k
      where
        by_side : (r : RawRight) → EachHas (λ a. Valued (At.value a)) (atoms_of_right r)
            → (operand_differs m b known r ≡ []) × (operands_differ m b known r ≡ []) × (differs (type_of_right m b known r) ty side.at ≡ [])
            → right_calls m b (record { at = side.at; value = r }) ≡ []
            → Fits (right_value o c st (right_of r)) ty
        by_side (same a) vs p q = record {
          goes = goes_given _ _ vs.0.given;
          typed = λ v g. ap (λ u. type_of u) (value_given _ _ (sym g ∙ vs.0.given)) ∙ static_type ty side.at a.value vs.0 p.2;
        }
        by_side (negated a) vs p q = record {
          goes = goes_then (atom_value o c st a.value) _ (goes_given _ _ vs.0.given) (λ v g. goes_defined (negative_of o v));
          typed = λ v g. (
              let d = then_gives (atom_value o c st a.value) _ v g in
              type_of_negative o d.0 v (defined_gives _ _ d.2)
              ∙ ap (λ u. type_of u) (value_given _ _ (sym d.1 ∙ vs.0.given)) ∙ static_type ty side.at a.value vs.0 p.2);
        }
        by_side (contrary a) vs p q =
            let i = integer_given a vs.0 p.0 in
            record {
              goes = goes_then (integer_value o c st a.value) _ (goes_given _ _ i) (λ v g. goes_gives _);
              typed = λ v g. (
                  let d = then_gives (integer_value o c st a.value) _ v g in
                  ap (λ u. type_of u) (sym (value_given _ _ d.2)) ∙ type_of_truth V (not (is_true o d.0)) ∙ differs_none Integer ty side.at p.2);
            }
        by_side (to_real a) vs p q =
            let i = integer_given a vs.0 p.0 in
            record {
              goes = goes_then (integer_value o c st a.value) _ (goes_given _ _ i) (λ v g. goes_defined (converted o RealTy v));
              typed = λ v g. (
                  let d = then_gives (integer_value o c st a.value) _ v g in
                  type_of_converted o RealTy d.0 v (defined_gives _ _ d.2) ∙ differs_none RealTy ty side.at p.2);
            }
        by_side (to_integer a) vs p q = record {
          goes = goes_then (atom_value o c st a.value) _ (goes_given _ _ vs.0.given)
              (λ v g. goes_then (typed RealTy v) _
              (goes_given _ v (typed_as RealTy v (ap (λ u. type_of u) (value_given _ _ (sym g ∙ vs.0.given)) ∙ wanted_type RealTy a vs.0 p.0)))
              (λ x k. goes_defined (converted o Integer x)));
          typed = λ v g. (
              let d = then_gives (atom_value o c st a.value) _ v g in
              let e = then_gives (typed RealTy d.0) _ v d.2 in
              type_of_converted o Integer e.0 v (defined_gives _ _ e.2) ∙ differs_none Integer ty side.at p.2);
        }
        by_side (call f args) vs p q =
            let s = fitting_some (fitting (signature m b f) (length args)) side.at q in
            let t = fitting_parts (signature m b f) (length args) s.0 s.1 in
            let differ : call_differs m b known (Some s.0) args ≡ [] = (λ i. call_differs m b known (sym s.1 i) args) ∙ p.0 in
            let values = arguments_valued args (Signature.arguments s.0) vs t.1 differ in
            let fits = called_fits sc f s.0 values.values t.0 values.fits in
            let result : Signature.result s.0 ≡ ty =
            differs_none (Signature.result s.0) ty side.at ((λ i. differs (result_of m b known (sym s.1 i)) ty side.at) ∙ p.2) in
            record {
              goes = goes_then (atom_values o c st (map (λ a. a.value) args)) _ (goes_given _ _ values.given)
                  (λ ws g. subst (λ us. Goes (called o c.calls f us)) (value_given _ _ (sym values.given ∙ g)) fits.goes);
              typed = λ v g. (
                  let d = then_gives (atom_values o c st (map (λ a. a.value) args)) _ v g in
                  fits.typed v ((λ i. called o c.calls f (value_given _ _ (sym values.given ∙ d.1) i)) ∙ d.2) ∙ result);
            }
        by_side (binary a op d) vs p q =
            let kinds = by_kind op a d vs.0 vs.1.0 (is_remainder op) refl p.1 in
            let static : differs (joint m b known op (Some vs.0.ty) (Some vs.1.0.ty)) ty side.at ≡ [] =
            (λ i. differs (joint m b known op (sym vs.0.static i) (sym vs.1.0.static i)) ty side.at) ∙ p.2 in
            let result = by_result ty vs.1.0.ty side.at (type_of vs.1.0.value) (is_comparison op) (is_remainder op) vs.1.0.fits static in
            let computed : right_value o c st (right_of (binary a op d)) ≡ operated o op vs.0.value vs.1.0.value =
            (λ i. vs.0.given i >>= λ v. vs.1.0.given i >>= λ w. only_if (same_type (type_of v) (type_of w)) (operated o op v w))
            ∙ only_if_true _ _ ((λ i. same_type (kinds.0 i) (type_of vs.1.0.value)) ∙ same_itself (type_of vs.1.0.value)) in
            record {
              goes = subst Goes (sym computed) (operated_goes o op vs.0.value vs.1.0.value kinds.0 kinds.1);
              typed = λ v g. operated_type o op vs.0.value vs.1.0.value v kinds.0 kinds.1 (sym computed ∙ g) ∙ result;
            }
