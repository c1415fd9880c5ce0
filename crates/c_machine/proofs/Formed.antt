-- Functions and bodies of a module whose rules of form hold are never stuck.
use Rattle.std.specs.Prelude.{◌≡◌, ℕ, suc, ◌+◌, ◌==◌, Bool, true, false, if◌then◌else◌, nat_lt, List, [], ◌∷◌, ◌++◌, length, map, slice_get, Option, Some, None}
use Rattle.std.specs.List.{flat_map}
use Rattle.std.proofs.Common.{refl, sym, ap, ◌∙◌, subst, arith, inl}
use Rattle.std.proofs.lemmas.List.{append-nil}
use Rattle.std.proofs.lemmas.Bool.Decides.{nat_tests}
use Rattle.std.proofs.lemmas.Grind.{flat_map-append}
use Rattle.alg_laws.specs.declared.number.Number.{Number}
use Rattle.alg_laws.specs.declared.number.Ty.{Ty}
use Rattle.alg_laws.specs.NumberOps.{type_of}
use Rattle.alg_laws.specs.Operations.{Operations}
use Rattle.alg_laws.specs.Outcome.{Outcome, gives, ends, ◌>>=◌}
use Rattle.c_tree.specs.declared.body.CCell.{CCell}
use Rattle.c_tree.specs.declared.body.Level.{Level}
use Rattle.c_tree.specs.declared.body.Level.TheVariants.{Instance, Model}
use Rattle.c_tree.specs.declared.file.CModule.{CModule}
use Rattle.c_tree.specs.Blocks.{block_of}
use Rattle.c_machine.specs.Execution.{Calls, Scope, State, has, no_locals, atom_value, run_block, arguments_of, call_function, calls_from, calls_of}
use Rattle.c_tree.specs.FileOf.{block_in, body_of, function_of}
use Rattle.c_machine.specs.Machine.{Stop, stuck, typed, Machine, no_machine}
use Rattle.c_tree.specs.Raw.{At, RawArgument, RawFunction, RawModule}
use Rattle.c_machine.specs.Runs.{run_body}
use Rattle.c_tree.specs.Spelling.{EachHas}
use Rattle.c_tree.specs.rules.Bodies.{Declared, of_value, Scoped, scoped, locals_of, a_function, RawBody, function_body, items_of, items_in, of_statement, repeated}
use Rattle.c_tree.specs.rules.Breaks.{breaks_in}
use Rattle.c_tree.specs.rules.Reach.{out_of_reach}
use Rattle.c_tree.specs.rules.Fields.{cell_missing, cells_in, body_cells}
use Rattle.c_tree.specs.rules.Locals.{used_locals, used_arguments, declared, locals_in_body}
use Rattle.c_tree.specs.rules.Settings.{settings_in}
use Rattle.c_tree.specs.rules.Tables.{item_numbers}
use Rattle.c_tree.specs.rules.Types.{type_of_local, type_of_argument, function_before, item_differs, item_calls}
use Rattle.c_tree.proofs.Blameless.{no_parts, flat_none, each_split, each_both, each_weaker, turned_true, turned_test, same_test}
use Rattle.c_machine.proofs.Declarations.{all_kept}
use Rattle.c_machine.proofs.Endings.{then_gives, value_given}
use Rattle.c_machine.proofs.Keeping.{typed_gives}
use Rattle.c_tree.proofs.Nesting.{block-flat}
use Rattle.c_machine.proofs.Operands.{Fits, ScopeOk, MachineOk, Valued, wanted_type}
use Rattle.c_machine.proofs.Reach.{Reached, function_reached}
use Rattle.c_machine.proofs.Sound.{ItemOk, BlockOk, Inv, ReadReady, item_valued, nowhere, sound, block_machine, ends_ready}
use Rattle.c_machine.proofs.Unstuck.{Goes, goes_gives, goes_given, goes_then, typed_as}

-- what the rules blame in a body: nothing
pub record BodyForm (m : RawModule) (b : RawBody) : Type 0 where
  pub locals : locals_in_body m b ≡ []
  pub settings : settings_in b.block ≡ []
  pub breaks : breaks_in false b.block ≡ []
  pub types : flat_map (λ s. item_differs m b (Scoped.known s) (Scoped.item s)) (items_of b) ≡ []
  pub calls : flat_map (item_calls m b) (items_of b) ≡ []
  pub reach : flat_map (out_of_reach b.kind) (items_of b) ≡ []
  pub cells : flat_map (cell_missing m) (body_cells b) ≡ []
  pub numbers : flat_map (item_numbers m) (items_of b) ≡ []

some_same : {T : Type 0} (x y : T) → Some x ≡ Some y → x ≡ y
some_same x y h = cc (h)

-- what nothing blames in lists of lists
pub flat_flat : {R S T : Type 0} (f : S → List T) (g : R → List S) (xs : List R) → flat_map f (flat_map g xs) ≡ []
    → EachHas (λ x. flat_map f (g x) ≡ []) xs
flat_flat f g [] h = tt
flat_flat f g (x ∷ xs) h =
    let p = no_parts (flat_map f (g x)) (flat_map f (flat_map g xs)) (sym (flat_map-append f (g x) (flat_map g xs)) ∙ h) in
    (p.0, flat_flat f g xs p.1)

module _ {V : Type 0} (o : Operations V) (n : ℕ) (m : RawModule) where
  module _ (b : RawBody) (c : Scope V) (nodes : List ℕ) (form : BodyForm m b)
      (reached : (s : Scoped) → out_of_reach b.kind s ≡ [] → item_numbers m s ≡ [] → Reached o n m b c nodes s) where
    one_ok : (s : Scoped)
        → ((used_locals s ≡ []) × (used_arguments b s ≡ [])) × ((item_differs m b s.known s.item ≡ []) × (item_calls m b s ≡ []))
        × ((flat_map (cell_missing m) (cells_in s) ≡ []) × ((out_of_reach b.kind s ≡ []) × (item_numbers m s ≡ [])))
        → ItemOk o n m b c nodes s
    one_ok s h =
        let r = reached s h.2.1.0 h.2.1.1 in
        record {
          locals = h.0.0;
          arguments = h.0.1;
          types = h.1.0;
          calls = h.1.1;
          cells = h.2.0;
          atoms = r.0;
          statement = r.1;
        }

    items_ok : EachHas (ItemOk o n m b c nodes) (items_of b)
    items_ok =
        let p3 = no_parts (flat_map used_locals (items_of b) ++ flat_map (used_arguments b) (items_of b)
        ++ repeated (flat_map (of_statement declared) (items_in b.block))) _ form.locals in
        let p2 = no_parts (flat_map used_locals (items_of b) ++ flat_map (used_arguments b) (items_of b)) _ p3.0 in
        let p1 = no_parts (flat_map used_locals (items_of b)) (flat_map (used_arguments b) (items_of b)) p2.0 in
        let first = each_both _ _ (items_of b) (flat_none used_locals (items_of b) p1.0) (flat_none (used_arguments b) (items_of b) p1.1) in
        let second = each_both _ _ (items_of b) (flat_none (λ s. item_differs m b (Scoped.known s) (Scoped.item s)) (items_of b) form.types)
        (flat_none (item_calls m b) (items_of b) form.calls) in
        let reach = each_both _ _ (items_of b) (flat_none (out_of_reach b.kind) (items_of b) form.reach)
        (flat_none (item_numbers m) (items_of b) form.numbers) in
        let third = each_both _ _ (items_of b) (flat_flat (cell_missing m) cells_in (items_of b) form.cells) reach in
        each_weaker _ _ (λ s h. one_ok s (h.0.0, h.0.1, h.1)) (items_of b) (each_both _ _ (items_of b) (each_both _ _ (items_of b) first second) third)

    pub block_ok : BlockOk o n m b c nodes [] b.block
    block_ok =
        let p3 = no_parts (flat_map used_locals (items_of b) ++ flat_map (used_arguments b) (items_of b)
        ++ repeated (flat_map (of_statement declared) (items_in b.block))) _ form.locals in
        let p2 = no_parts (flat_map used_locals (items_of b) ++ flat_map (used_arguments b) (items_of b)) _ p3.0 in
        let items = each_split (ItemOk o n m b c nodes) (scoped [] b.block) _ items_ok in
        record { items = items.0; settings = all_kept b.block p2.1 form.settings; fresh = λ i ty e. cc (e); distinct = p2.1 }

    pub last_ok : EachHas (ItemOk o n m b c nodes) (map (λ item. record { known = locals_of b.block; item = item }) b.last)
    last_ok = (each_split (ItemOk o n m b c nodes) (scoped [] b.block) _ items_ok).1

    -- at its begin a body knows no local
    pub at_begin : (x : State V) → Inv o n m b c nodes (nowhere o n m b c nodes) [] b.block x
    at_begin x i ty e = cc (e)

    pub body_goes : ScopeOk o m b c nodes → (s : State V) → MachineOk o m b c nodes s.machine → Goes (run_block o n c (block_of (body_of b.block)) s)
    body_goes sc s ma =
        subst (λ x. Goes (run_block o n c x s)) (sym (block-flat (block_in b.block)))
        (sound o n m b c nodes sc (nowhere o n m b c nodes) [] b.block block_ok form.breaks s (at_begin s) ma)

  -- the functions of the module that stand before a number
  abbrev FunctionsOk : ℕ → Calls V → Type 0
  FunctionsOk limit calls =
      (j : ℕ) (f : RawFunction) (vs : List (Number V)) → nat_lt j limit ≡ true → slice_get m.functions j ≡ Some f
      → map (λ v. type_of v) vs ≡ map (λ a. RawArgument.ty a) f.arguments → Fits (calls j vs) f.result

  -- the value that is found for an argument
  argument_found : (a : RawArgument) (args : List RawArgument) (v : Number V) (given : ℕ → Option (Number V)) → type_of v ≡ a.ty
      → ((i : ℕ) (ty : Ty) → type_of_argument i args ≡ Some ty → (w : Number V) × (given i ≡ Some w) × (type_of w ≡ ty))
      → (i : ℕ) (ty : Ty) → type_of_argument i (a ∷ args) ≡ Some ty
      → (w : Number V) × ((if i == a.number.value then Some v else given i) ≡ Some w) × (type_of w ≡ ty)
  argument_found a args v given first rest i ty e = by_test (a.number.value == i) refl e
    where
      by_test : (test : Bool) → (a.number.value == i) ≡ test → (if test then Some a.ty else type_of_argument i args) ≡ Some ty
          → (w : Number V) × ((if i == a.number.value then Some v else given i) ≡ Some w) × (type_of w ≡ ty)
      by_test true q k =
          let same : a.ty ≡ ty = cc (k) in
          (v, ap (λ t. if t then Some v else given i) (turned_true a.number.value i q), first ∙ same)
      by_test false q k =
          let later = rest i ty k in
          (later.0, ap (λ t. if t then Some v else given i) (turned_test a.number.value i q) ∙ later.1, later.2)

  -- the arguments of a call
  arguments_given : (args : List RawArgument) (vs : List (Number V)) → map (λ v. type_of v) vs ≡ map (λ a. RawArgument.ty a) args
      → (given : ℕ → Option (Number V))
      × (arguments_of o (map (λ a. record { ty = RawArgument.ty a; number = At.value (RawArgument.number a) }) args) vs ≡ gives given)
      × ((i : ℕ) (ty : Ty) → type_of_argument i args ≡ Some ty → (v : Number V) × (given i ≡ Some v) × (type_of v ≡ ty))
  arguments_given [] [] h = ((λ i. None), refl, λ i ty e. cc (e))
  arguments_given [] (v ∷ vs) h = cc (h)
  arguments_given (a ∷ args) [] h = cc (h)
  arguments_given (a ∷ args) (v ∷ vs) h =
      let first : type_of v ≡ a.ty = cc (h) in
      let others : map (λ u. type_of u) vs ≡ map (λ x. RawArgument.ty x) args = cc (h) in
      let rest = arguments_given args vs others in (
        (λ i. if i == a.number.value then Some v else rest.0 i),
        (λ z. typed_as a.ty v first z >>= λ w. rest.1 z >>= λ later. gives (λ i. if i == a.number.value then Some w else later i)),
        argument_found a args v rest.0 first rest.2,
      )

  called_parts : {T : Type 0} (test : Bool) (x : Option T) (f : T) → (if test then x else None) ≡ Some f → (test ≡ true) × (x ≡ Some f)
  called_parts true x f h = (refl, h)
  called_parts false x f h = cc (h)

  module _ (tree : CModule) where
    -- what a function speaks of
    abbrev function_scope : Calls V → (ℕ → Option (Number V)) → Scope V
    function_scope before given = record {
      tree = tree;
      has_model = false;
      has_instance = false;
      reports = false;
      solution = None;
      arguments = given;
      calls = before;
    }

    abbrev at_start : State V
    at_start = record { locals = no_locals; machine = no_machine }

    abbrev value_part : RawFunction → Scope V → Outcome Stop (Number V)
    value_part f c = do
      last ← run_block o n c (block_of (body_of f.body)) at_start
      v ← atom_value o c last f.value.value
      typed f.result v

    no_cells : (before : Calls V) (given : ℕ → Option (Number V)) (b : RawBody) → MachineOk o m b (function_scope before given) [] no_machine
    no_cells before given b = record {
      cells = λ cell ty h k. by_level (CCell.level cell) h;
      flags = λ h pair k. cc (h);
      node = refl;
    }
      where
        by_level : {T : Type 0} (level : Level) → has (function_scope before given) level ≡ true → T
        by_level Instance h = cc (h)
        by_level Model h = cc (h)

    value_fits : (j : ℕ) (f : RawFunction) → BodyForm m (function_body (j, f)) → (before : Calls V) → FunctionsOk j before
        → (given : ℕ → Option (Number V))
        → ((i : ℕ) (ty : Ty) → type_of_argument i f.arguments ≡ Some ty → (v : Number V) × (given i ≡ Some v) × (type_of v ≡ ty))
        → Fits (value_part f (function_scope before given)) f.result
    value_fits j f form before earlier given arguments = record {
      goes = goes_then (run_block o n c (block_of (body_of f.body)) at_start) _ (body_goes b c [] form reached sc at_start ma)
          (λ last e. (
          let v = valued last e in
          goes_then (atom_value o c last f.value.value) _ (goes_given _ _ v.given)
          (λ w k. goes_given _ w (typed_as f.result w (ap (λ u. type_of u) (value_given _ _ (sym k ∙ v.given)) ∙ is_result last e)))));
      typed = λ w g. (
          let a = then_gives (run_block o n c (block_of (body_of f.body)) at_start) _ w g in
          let d = then_gives (atom_value o c a.0 f.value.value) _ w a.2 in
          let t = typed_gives f.result d.0 w d.2 in
          ap (λ u. type_of u) t.0 ∙ t.1);
    }
      where
        b : RawBody
        b = function_body (j, f)

        c : Scope V
        c = function_scope before given

        reached : (s : Scoped) → out_of_reach (a_function j) s ≡ [] → item_numbers m s ≡ [] → Reached o n m b c [] s
        reached s h k = function_reached o n m b c [] j s h

        sc : ScopeOk o m b c []
        sc = record {
          calls = λ i g vs e k. (
              let p = called_parts (nat_lt i j) (slice_get m.functions i) g e in
              earlier i g vs p.0 p.1 k);
          arguments = arguments;
        }

        ma : MachineOk o m b c [] no_machine
        ma = no_cells before given b

        known : List Declared
        known = locals_of f.body

        item : Scoped
        item = record { known = known; item = of_value f.result f.value }

        ok : ItemOk o n m b c [] item
        ok = (last_ok b c [] form reached).0

        ready : (last : State V) → run_block o n c (block_of (body_of f.body)) at_start ≡ gives last → ReadReady o n m b c [] known last (f.value ∷ [])
        ready last e i ty k =
            inl (ends_ready o n m b c [] [] f.body (block_ok b c [] form reached) form.breaks at_start last (at_begin b c [] form reached at_start)
            (ap (λ x. run_block o n c x at_start) (sym (block-flat (block_in f.body))) ∙ e) i ty
            (ap (type_of_local i) (append-nil known) ∙ k))

        valued : (last : State V) → run_block o n c (block_of (body_of f.body)) at_start ≡ gives last → Valued o m b c [] known last f.value.value
        valued last e =
            (item_valued o n m b c [] item ok last sc (block_machine o n m b c [] (block_of (body_of f.body)) at_start last ma e) (ready last e)).0

        is_result : (last : State V) (e : run_block o n c (block_of (body_of f.body)) at_start ≡ gives last)
            → type_of (Valued.value (valued last e)) ≡ f.result
        is_result last e = wanted_type o m b c [] known last f.result f.value (valued last e) ok.types

    call_fits : (j : ℕ) (f : RawFunction) → BodyForm m (function_body (j, f)) → (before : Calls V) → FunctionsOk j before
        → (vs : List (Number V)) → map (λ v. type_of v) vs ≡ map (λ a. RawArgument.ty a) f.arguments
        → Fits (call_function o n tree before (function_of f) vs) f.result
    call_fits j f form before earlier vs h =
        let given = arguments_given f.arguments vs h in
        let computed : call_function o n tree before (function_of f) vs ≡ value_part f (function_scope before given.0) =
        (λ z. given.1 z >>= λ arguments. value_part f (function_scope before arguments)) in
        subst (λ a. Fits a f.result) (sym computed) (value_fits j f form before earlier given.0 given.2)

    functions_ok : ((j : ℕ) (f : RawFunction) → slice_get m.functions j ≡ Some f → BodyForm m (function_body (j, f)))
        → (j : ℕ) (rest : List RawFunction) → ((i : ℕ) (f : RawFunction) → slice_get rest i ≡ Some f → slice_get m.functions (j + i) ≡ Some f)
        → (before : Calls V) → FunctionsOk j before
        → FunctionsOk (j + length rest) (calls_from o n tree j before (map function_of rest))
    functions_ok forms j [] part before h =
        let here : j ≡ j + 0 = omega arith in
        subst (λ k. FunctionsOk k before) here h
    functions_ok forms j (f ∷ rest) part before h =
        let more : j + 1 + length rest ≡ j + suc (length rest) = omega arith in
        let zeroth : slice_get m.functions j ≡ Some f =
        (let here : j ≡ j + 0 = omega arith in ap (slice_get m.functions) here ∙ part 0 f refl) in
        subst (λ k. FunctionsOk k (calls_from o n tree (j + 1) (λ i args. if i == j then call_function o n tree before (function_of f) args else before i args) (map function_of rest)))
        more
        (functions_ok forms (j + 1) rest
        (λ i g e. (let next : j + 1 + i ≡ j + suc i = omega arith in ap (slice_get m.functions) next ∙ part (suc i) g e)) _
        (λ i g vs lt e k. by_test zeroth i g vs lt e k (i == j) refl))
      where
        by_test : slice_get m.functions j ≡ Some f → (i : ℕ) (g : RawFunction) (vs : List (Number V)) → nat_lt i (j + 1) ≡ true
            → slice_get m.functions i ≡ Some g → map (λ v. type_of v) vs ≡ map (λ a. RawArgument.ty a) g.arguments
            → (test : Bool) → (i == j) ≡ test
            → Fits (if test then call_function o n tree before (function_of f) vs else before i vs) g.result
        by_test zeroth i g vs lt e k true q =
            let same : i ≡ j = same_test i j q in
            let is : f ≡ g = some_same f g (sym zeroth ∙ ap (slice_get m.functions) (sym same) ∙ e) in
            subst (λ x. Fits (call_function o n tree before (function_of f) vs) (RawFunction.result x)) is
            (call_fits j f (forms j f zeroth) before h vs (k ∙ ap (λ x. map (λ a. RawArgument.ty a) (RawFunction.arguments x)) (sym is)))
        by_test zeroth i g vs lt e k false q = h i g vs (grind (arith, nat_tests)) e k

    no_functions : FunctionsOk 0 (λ i args. ends stuck)
    no_functions j f vs lt e k = absurd (let no : ⊥ = grind (arith, nat_tests) in no)

    module _ (forms : (j : ℕ) (f : RawFunction) → slice_get m.functions j ≡ Some f → BodyForm m (function_body (j, f)))
        (functions : tree.functions ≡ map function_of m.functions) where
      all_functions : FunctionsOk (length m.functions) (calls_of o n tree)
      all_functions =
          subst (λ fs. FunctionsOk (length m.functions) (calls_from o n tree 0 (λ i args. ends stuck) fs)) (sym functions)
          (let all = functions_ok forms 0 m.functions (λ i f e. (let here : i ≡ 0 + i = omega arith in ap (slice_get m.functions) (sym here) ∙ e))
          (λ i args. ends stuck) no_functions in
          let none : 0 + length m.functions ≡ length m.functions = omega arith in
          subst (λ k. FunctionsOk k (calls_from o n tree 0 (λ i args. ends stuck) (map function_of m.functions))) none all)

      -- the three bodies that the host calls
      pub run_body_goes : (b : RawBody) (c : Scope V) (nodes : List ℕ) → BodyForm m b
          → ((s : Scoped) → out_of_reach b.kind s ≡ [] → item_numbers m s ≡ [] → Reached o n m b c nodes s)
          → function_before b.kind (length m.functions) ≡ length m.functions → b.arguments ≡ [] → c.calls ≡ calls_of o n tree
          → (s : Machine V) → MachineOk o m b c nodes s → Goes (run_body o n tree c (body_of b.block) s)
      run_body_goes b c nodes form reached limit none calls s ma =
          goes_then (run_block o n c (block_of (body_of b.block)) (record { locals = no_locals; machine = s })) _
          (body_goes b c nodes form reached sc (record { locals = no_locals; machine = s }) ma) (λ last e. goes_gives _)
        where
          sc : ScopeOk o m b c nodes
          sc = record {
            calls = λ i g vs e k. (
                let p = called_parts (nat_lt i (function_before b.kind (length m.functions))) (slice_get m.functions i) g e in
                subst (λ cs. Fits (cs i vs) (RawFunction.result g)) (sym calls)
                (all_functions i g vs (ap (λ z. nat_lt i z) (sym limit) ∙ p.0) p.1 k));
            arguments = λ i ty e. (let no : None ≡ Some ty = ap (type_of_argument i) (sym none) ∙ e in cc (no));
          }
