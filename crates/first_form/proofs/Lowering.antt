-- The straight code of a form gives the values of its residuals, so that a module of that code loads them.
use Rattle.std.proofs.Common.{◌≡◌, ◌≢◌, ◌<◌, ◌≤◌, ℕ, List, [], ◌∷◌, ◌++◌, refl, ap, sym, ◌∙◌, subst, arith}
use Rattle.std.specs.Prelude.{Bool, true, false, ◌==◌, if◌then◌else◌}
use Rattle.std.proofs.lemmas.Bool.{false≢true}
use Rattle.std.proofs.lemmas.Bool.Decides.{nat_tests}
use Rattle.alg_laws.specs.Operations.{Operations, IsAlgebra}
use Rattle.alg_laws.specs.AtFour.{AtFour, at_four}
use Rattle.c_tree.specs.declared.short.Field.TheVariants.{Param, Row}
use Rattle.c_tree.specs.declared.short.Atom.{Atom}
use Rattle.c_tree.specs.declared.short.Atom.TheVariants.{Local, Field, Unknown}
use Rattle.c_tree.specs.declared.short.Operator.{Operator}
use Rattle.c_tree.specs.declared.short.Operator.TheVariants.{Plus, Minus, Times, Over}
use Rattle.c_tree.specs.declared.short.Right.TheVariants.{Negated, Binary}
use Rattle.c_tree.specs.declared.short.Statement.{Statement}
use Rattle.c_tree.specs.declared.short.Statement.TheVariants.{Declare, Set}
use Rattle.c_tree.specs.declared.short.ShortModule.{ShortModule}
use Rattle.c_tree.specs.short.Machine.{Values, Cells, with_value, operate, atom_value, right_value, evaluated}
use Rattle.c_tree.specs.short.Run.{AreValid, params_of, LoadsRows}
use Rattle.c_tree.proofs.Runs.{row_list, SetsRows, SetsRows-loads}
use Rattle.va_tree.specs.declared.expr.BinaryOp.{BinaryOp}
use Rattle.va_tree.specs.declared.expr.BinaryOp.TheVariants.{Or, And, Equal, NotEqual, Less, AtMost, Greater, AtLeast, Add, Subtract, Multiply, Divide, Remainder, Power}
use Rattle.va_tree.specs.Expressions.{Expression, literal, infinity, name, group, unary, binary, choose, call}
use Rattle.first_form.specs.Form.{FirstForm, is_arithmetic, IsSum}
use Rattle.first_form.specs.Residuals.{number_in, combined, sum_value, residuals}
use Rattle.first_form.specs.Code.{Code, joined, operator_of, sum_code, form_statements, form_loads}

-- declarations alone
abbrev pub Declares : List Statement → Type 0
Declares [] = Unit {0}
Declares (Declare i right ∷ rest) = Declares rest
Declares (Set field value ∷ rest) = ⊥

-- both are declarations
declares-append : (xs ys : List Statement) → Declares xs → Declares ys → Declares (xs ++ ys)
declares-append [] ys d e = e
declares-append (Declare i right ∷ xs) ys d e = declares-append xs ys d e
declares-append (Set field value ∷ xs) ys d e = absurd d

-- a local of a number below this, or no local
abbrev pub IsBelow : Atom → ℕ → Type 0
IsBelow (Local i) next = i < next
IsBelow (Field field) next = Unit {0}
IsBelow (Unknown i) next = Unit {0}

at_same : {V : Type 0} (v : Values V) (at : ℕ) (x : V) → with_value v at x at ≡ x
at_same {V} v at x = by_test (at == at) (grind (arith, nat_tests))
  where
    by_test : (test : Bool) → test ≡ true → (if test then x else v at) ≡ x
    by_test test e = ap (λ t. if t then x else v at) e

at_other : {V : Type 0} (v : Values V) (at i : ℕ) (x : V) → i ≢ at → with_value v at x i ≡ v i
at_other {V} v at i x h = by_test (i == at) (grind (arith, nat_tests))
  where
    by_test : (test : Bool) → test ≡ false → (if test then x else v i) ≡ v i
    by_test test e = ap (λ t. if t then x else v i) e

-- the value of a parameter of this name
abbrev pub param_of : {V : Type 0} → List (List ℕ) → Cells V → List ℕ → V
param_of names cells bytes = params_of cells (number_in names bytes)

-- the potential of the branch between the ports
abbrev pub voltage_of : {V : Type 0} → Operations V → Values V → V
voltage_of o unknowns = o.sum (unknowns 0) (o.negative (unknowns 1))

-- a run of straight code on these cells and unknowns
module _ {V : Type 0} (o : Operations V) (cells : Cells V) (unknowns : Values V) where
  -- the locals after some declarations
  abbrev pub after : List Statement → Values V → Values V
  after [] locals = locals
  after (Declare i right ∷ rest) locals = after rest (with_value locals i (right_value o unknowns locals cells right))
  after (Set field value ∷ rest) locals = after rest locals

  after-append : (xs ys : List Statement) (locals : Values V) → after (xs ++ ys) locals ≡ after ys (after xs locals)
  after-append [] ys locals = refl
  after-append (Declare i right ∷ xs) ys locals =
      after-append xs ys (with_value locals i (right_value o unknowns locals cells right))
  after-append (Set field value ∷ xs) ys locals = after-append xs ys locals

  -- what stands behind declarations begins with the locals that they leave
  evaluated-declares : (xs ys : List Statement) (locals : Values V) → Declares xs
      → evaluated o unknowns (xs ++ ys) locals cells ≡ evaluated o unknowns ys (after xs locals) cells
  evaluated-declares [] ys locals d = refl
  evaluated-declares (Declare i right ∷ xs) ys locals d =
      evaluated-declares xs ys (with_value locals i (right_value o unknowns locals cells right)) d
  evaluated-declares (Set field value ∷ xs) ys locals d = absurd d

  -- an atom keeps its value where the locals below a number are kept
  atom-kept : (a : Atom) (next : ℕ) (old new : Values V) → IsBelow a next → ((i : ℕ) → i < next → new i ≡ old i)
      → atom_value unknowns new cells a ≡ atom_value unknowns old cells a
  atom-kept (Local i) next old new b k = k i b
  atom-kept (Field field) next old new b k = refl
  atom-kept (Unknown i) next old new b k = refl

  -- The code gives the value from any locals. It declares locals from a number on, and keeps those below.
  pub record Gives (code : Code) (next : ℕ) (v : V) : Type 0 where
    pub declares : Declares code.statements
    pub grows : next ≤ code.next
    pub below : IsBelow code.atom code.next
    pub value : (locals : Values V) → atom_value unknowns (after code.statements locals) cells code.atom ≡ v
    pub keeps : (locals : Values V) (i : ℕ) → i < next → after code.statements locals i ≡ locals i

  -- two codes and an operator between their values
  joined-gives : (left right : Code) (op : Operator) (next : ℕ) (v w : V) → Gives left next v → Gives right left.next w
      → Gives (joined left op right) next (operate o op v w)
  joined-gives left right op next v w a b =
      let last = Declare right.next (Binary left.atom op right.atom) ∷ [] in
      let first : Values V → Values V = after left.statements in
      let second : Values V → Values V = λ locals. after right.statements (first locals) in
      let result : Values V → V =
      λ locals. right_value o unknowns (second locals) cells (Binary left.atom op right.atom) in
      let ends : (locals : Values V)
      → after (joined left op right).statements locals ≡ with_value (second locals) right.next (result locals) =
      λ locals. after-append (left.statements ++ right.statements) last locals
      ∙ ap (after last) (after-append left.statements right.statements locals) in
      record {
        declares = declares-append (left.statements ++ right.statements) last
            (declares-append left.statements right.statements a.declares b.declares) tt;
        grows = let g = a.grows in let h = b.grows in omega arith;
        below = omega arith;
        value = λ locals.
            ap (λ ls. ls right.next) (ends locals) ∙ at_same (second locals) right.next (result locals)
            ∙ ap (λ x. operate o op x (atom_value unknowns (second locals) cells right.atom))
            (atom-kept left.atom left.next (first locals) (second locals) a.below (b.keeps (first locals)) ∙ a.value locals)
            ∙ ap (λ y. operate o op v y) (b.value (first locals));
        keeps = λ locals i lt.
            let g = a.grows in let h = b.grows in
            ap (λ ls. ls i) (ends locals) ∙ at_other (second locals) right.next i (result locals) (omega arith)
            ∙ b.keeps (first locals) i (omega arith) ∙ a.keeps locals i lt;
      }

  -- the statements behind the code of a flow, and the cells that they leave
  abbrev pub ending : Code → List Statement
  ending flow = Declare flow.next (Negated flow.atom) ∷ Set (Row 0) flow.atom ∷ Set (Row 1) (Local flow.next) ∷ []

  ends-with : (flow : Code) (v : V) (locals : Values V) → Gives flow 0 v
      → row_list (evaluated o unknowns (ending flow) (after flow.statements locals) cells) 0 2 ≡ v ∷ o.negative v ∷ []
  ends-with flow v locals g =
      let before = after flow.statements locals in
      let negative = o.negative (atom_value unknowns before cells flow.atom) in
      let last = with_value before flow.next negative in
      let first : atom_value unknowns last cells flow.atom ≡ v =
      atom-kept flow.atom flow.next before last g.below (λ i lt. at_other before flow.next i negative (omega arith))
      ∙ g.value locals in
      let second : last flow.next ≡ o.negative v = at_same before flow.next negative ∙ ap o.negative (g.value locals) in
      λ j. first j ∷ second j ∷ []

  -- the evaluation of a flow and its ending sets two rows, and keeps the parameters
  flow-rows : (flow : Code) (v : V) (locals : Values V) → Gives flow 0 v
      → v ∷ o.negative v ∷ [] ≡ row_list (evaluated o unknowns (flow.statements ++ ending flow) locals cells) 0 2
  flow-rows flow v locals g =
      sym (ap (λ end. row_list end 0 2) (evaluated-declares flow.statements (ending flow) locals g.declares)
      ∙ ends-with flow v locals g)

  flow-keeps : (flow : Code) (v : V) (locals : Values V) → Gives flow 0 v → (i : ℕ)
      → evaluated o unknowns (flow.statements ++ ending flow) locals cells (Param i) ≡ cells (Param i)
  flow-keeps flow v locals g i =
      ap (λ end. end (Param i)) (evaluated-declares flow.statements (ending flow) locals g.declares)

  -- the operator of the C file does what that of the form does
  operator-same : (op : BinaryOp) (x y : V) → is_arithmetic op ≡ true → operate o (operator_of op) x y ≡ combined o op x y
  operator-same Add x y e = refl
  operator-same Subtract x y e = refl
  operator-same Multiply x y e = refl
  operator-same Divide x y e = refl
  operator-same Or x y e = absurd (false≢true e)
  operator-same And x y e = absurd (false≢true e)
  operator-same Equal x y e = absurd (false≢true e)
  operator-same NotEqual x y e = absurd (false≢true e)
  operator-same Less x y e = absurd (false≢true e)
  operator-same AtMost x y e = absurd (false≢true e)
  operator-same Greater x y e = absurd (false≢true e)
  operator-same AtLeast x y e = absurd (false≢true e)
  operator-same Remainder x y e = absurd (false≢true e)
  operator-same Power x y e = absurd (false≢true e)

  -- The code of an expression of the form over these names gives its value: by induction on the expression.
  module _ (first second : List ℕ) (names : List (List ℕ)) where
    abbrev value : Expression → V
    value = sum_value o (param_of names cells) (voltage_of o unknowns)

    sum-gives : (e : Expression) (next : ℕ) → IsSum first second names e → Gives (sum_code names e next) next (value e)
    sum-gives (name at bytes) next s = record {
      declares = tt;
      grows = omega arith;
      below = tt;
      value = λ locals. refl;
      keeps = λ locals i lt. refl;
    }
    sum-gives (group at inner) next s = sum-gives inner next s
    sum-gives (binary at left op right) next s =
        let code = sum_code names left next in
        let P : V → Type 0 = λ v. Gives (joined code (operator_of op) (sum_code names right code.next)) next v in
        subst P (operator-same op (value left) (value right) s.0)
        (joined-gives code (sum_code names right code.next) (operator_of op) next (value left) (value right)
        (sum-gives left next s.1) (sum-gives right code.next s.2))
    sum-gives (call at callee access args) next s = record {
      declares = tt;
      grows = omega arith;
      below = omega arith;
      value = λ locals. at_same locals next (voltage_of o unknowns);
      keeps = λ locals i lt. at_other locals next i (voltage_of o unknowns) (omega arith);
    }
    sum-gives (literal at number integer) next s = absurd s
    sum-gives (infinity at) next s = absurd s
    sum-gives (unary at op operand) next s = absurd s
    sum-gives (choose at test a b) next s = absurd s

-- an operator between valid values gives a valid one
combined-valid : {V : Type 0} (o : Operations V) (valid unit : V → Type 0) → IsAlgebra o valid unit → (op : BinaryOp) (x y : V)
    → valid x → valid y → valid (combined o op x y)
combined-valid o valid unit l Add x y h k = l.valid_sum x y h k
combined-valid o valid unit l Subtract x y h k = l.valid_sum x (o.negative y) h (l.valid_negative y k)
combined-valid o valid unit l Multiply x y h k = l.valid_product x y h k
combined-valid o valid unit l Divide x y h k = l.valid_product x (o.recip y) h (l.valid_recip y k)
combined-valid o valid unit l Or x y h k = l.valid_zero
combined-valid o valid unit l And x y h k = l.valid_zero
combined-valid o valid unit l Equal x y h k = l.valid_zero
combined-valid o valid unit l NotEqual x y h k = l.valid_zero
combined-valid o valid unit l Less x y h k = l.valid_zero
combined-valid o valid unit l AtMost x y h k = l.valid_zero
combined-valid o valid unit l Greater x y h k = l.valid_zero
combined-valid o valid unit l AtLeast x y h k = l.valid_zero
combined-valid o valid unit l Remainder x y h k = l.valid_zero
combined-valid o valid unit l Power x y h k = l.valid_zero

-- expressions over valid values have valid ones
module _ {V : Type 0} (o : Operations V) (valid unit : V → Type 0) (l : IsAlgebra o valid unit)
    (param : List ℕ → V) (voltage : V)
    (params_valid : (bytes : List ℕ) → valid (param bytes)) (voltage_valid : valid voltage) where
  pub sum-valid : (e : Expression) → valid (sum_value o param voltage e)
  sum-valid (name at bytes) = params_valid bytes
  sum-valid (group at inner) = sum-valid inner
  sum-valid (binary at left op right) =
      combined-valid o valid unit l op (sum_value o param voltage left) (sum_value o param voltage right) (sum-valid left) (sum-valid right)
  sum-valid (call at callee access args) = voltage_valid
  sum-valid (literal at number integer) = l.valid_zero
  sum-valid (infinity at) = l.valid_zero
  sum-valid (unary at op operand) = l.valid_zero
  sum-valid (choose at test a b) = l.valid_zero

-- A module of the code of a form sets the form's residuals, so its runs load them.
module _ {V : Type 0} (o : Operations V) (valid unit : V → Type 0) (l : IsAlgebra o valid unit)
    (form : FirstForm) (is : IsSum form.first form.second form.params form.flow) (tree : ShortModule)
    (eval : tree.eval ≡ form_statements form) (loads : tree.loads ≡ form_loads) where
  abbrev flow : Code
  flow = sum_code form.params form.flow 0

  flow-gives : (cells : Cells V) (unknowns : Values V)
      → Gives o cells unknowns flow 0 (sum_value o (param_of form.params cells) (voltage_of o unknowns) form.flow)
  flow-gives cells unknowns = sum-gives o cells unknowns form.first form.second form.params form.flow 0 is

  flow-valid : (cells : Cells V) (unknowns : Values V) → AreValid valid (params_of cells) → AreValid valid unknowns
      → valid (sum_value o (param_of form.params cells) (voltage_of o unknowns) form.flow)
  flow-valid cells unknowns p u =
      sum-valid o valid unit l (param_of form.params cells) (voltage_of o unknowns)
      (λ bytes. p (number_in form.params bytes))
      (l.valid_sum (unknowns 0) (o.negative (unknowns 1)) (u 0) (l.valid_negative (unknowns 1) (u 1))) form.flow

  sets_residuals : SetsRows tree (residuals form) 2 o valid
  sets_residuals = record {
    rows_are = λ cells unknowns p u.
        flow-rows o cells unknowns flow _ (λ _. o.zero) (flow-gives cells unknowns)
        ∙ ap (λ statements. row_list (evaluated o unknowns statements (λ _. o.zero) cells) 0 2) (sym eval);
    are_valid = λ cells unknowns p u.
        let h = flow-valid cells unknowns p u in (h, (l.valid_negative _ h, tt));
    keeps = λ cells unknowns i.
        ap (λ statements. evaluated o unknowns statements (λ _. o.zero) cells (Param i)) eval
        ∙ flow-keeps o cells unknowns flow _ (λ _. o.zero) (flow-gives cells unknowns) i;
    loads = loads;
  }

  pub loads_residuals : LoadsRows tree (residuals form) V o valid
  loads_residuals = SetsRows-loads o valid unit l tree (residuals form) 2 sets_residuals

-- the same at the four algebras, as the contract of the translation says it
pub loads_at_four : {V : Type 0} (o : Operations V) (valid unit : V → Type 0) → IsAlgebra o valid unit
    → (form : FirstForm) → IsSum form.first form.second form.params form.flow → (tree : ShortModule) → tree.eval ≡ form_statements form → tree.loads ≡ form_loads
    → AtFour o valid (LoadsRows tree (residuals form))
loads_at_four o valid unit l form is tree eval loads =
    at_four o valid unit l (LoadsRows tree (residuals form)) (λ D e v u k. loads_residuals e v u k form is tree eval loads)
