-- Where no call leads back, calls are never nested deeper than there are functions.
use Rattle.std.specs.Prelude.{◌≡◌, ℕ, zero, suc, ◌+◌, ◌<◌, ◌≤◌, Bool, true, false, List, [], ◌++◌, map, filter, flat_map, length, Option, Some, None, option_map, option_and_then, if◌then◌else◌}
use Rattle.std.specs.List.{AllByRecursion, slice_get}
use Rattle.std.proofs.Common.{refl, sym, ◌∙◌, ap, subst, arith}
use Rattle.std.proofs.lemmas.List.{length-map}
use Rattle.std.proofs.lemmas.Option.{slice_get-map, slice_get_within}
use Rattle.va_base.specs.declared.fault.FaultCode.TheVariants.{FunctionCycle}
use Rattle.alg_laws.specs.Operations.{Operations}
use Rattle.va_sem.proofs.NumberedNames.{names_are_numbered}
use Rattle.va_sem.proofs.OwnTokens.{own_tokens}
use Rattle.va_sem.specs.declared.names.Meaning.TheVariants as means
use Rattle.va_sem.specs.Declarations.{VariableEntry, FunctionEntry, functions_of, variables_of}
use Rattle.va_sem.specs.Meanings.{Known, known_of}
use Rattle.va_sem.specs.NamesFaults.{CallEntry, called_function, reached, calls_of, call_entry, cycle_faults, module_names_faults, site_faults, twice_in_module, port_faults, branch_item_faults, text_names_faults, nature_faults, discipline_item_faults}
use Rattle.va_sem.specs.Scopes.{Declared, module_scope}
use Rattle.va_sem.specs.Sites.{Site, Role, calls, seen, in_function, function_sites}
use Rattle.va_sem.specs.TextOrder.{number_at}
use Rattle.va_tree.specs.declared.module.Item.{Item}
use Rattle.va_tree.specs.declared.module.Module.{Module}
use Rattle.va_tree.specs.declared.source.Source.{Source}
use Rattle.va_meaning.specs.CycleLaws.{IsOfSoundNames, CycleLaws, DepthsInModules}
use Rattle.va_meaning.specs.Elaborated.{Elaborated}
use Rattle.va_meaning.specs.Elaboration.{function_of, module_seen}
use Rattle.va_meaning.specs.Points.{over}
use Rattle.va_meaning.specs.Nesting.{IfFunction, FunctionCallsOnly, IsNested}
use Rattle.va_meaning.proofs.CycleCalls.{IsMade, IsPlaced, around, made_in, names_fit}
use Rattle.va_sem.proofs.Contained.{element_at, Has, all_of_has, from_flat, from_filter_map, has_map, has_filter, index_has, placed, right_empty, each_empty, map_empty}
use Rattle.va_meaning.proofs.CycleReach.{count, count_most, fewer, some_reached}
use Rattle.va_meaning.proofs.CycleScopes.{function_numbered, module_numbered}
use Rattle.va_meaning.proofs.CycleSites.{function_calls_only}
use Rattle.va_meaning.proofs.EvaluationLaws.{depths_of_functions}
use Rattle.va_meaning.proofs.NumberedCalls.{evaluated_deeper}

-- an element of which another is made, at the same place
record Made {X Y : Type 0} (f : X → Y) (o : Option X) (y : Y) : Type 0 where
  source : X
  is : o ≡ Some source
  gives : f source ≡ y

made_of : {X Y : Type 0} (f : X → Y) (o : Option X) (y : Y) → option_map f o ≡ Some y → Made f o y
made_of f None y e = absurd (cc (e))
made_of f (Some x) y e = record { source = x; is = refl; gives = cc (e) }

held : (k : Known) (holder : ℕ) (x : Site) (role : Role) (c : CallEntry) → call_entry k holder x role ≡ Some c → c.holder ≡ holder
held k holder x calls c e =
    let r = made_of (λ called. let entry : CallEntry = record { at = x.at; holder = holder; called = called } in entry)
    (option_and_then (λ (d : Declared). called_function k d.thing d.at) (if x.around.looked_at then seen x else None)) c e in
    ap (λ (z : CallEntry). z.holder) (sym r.gives)
held k holder x role c e = absurd (cc (e))

is_not : (b : Bool) → (b ≡ true → ⊥) → b ≡ false
is_not true h = absurd (h refl)
is_not false h = refl

module _ (s : Source) (number : ℕ) (m : Module) (sound : IsOfSoundNames s number m) where
  abbrev made : List CallEntry
  made = made_in s m

  abbrev tokens : List ℕ
  tokens = (known_of s m).functions

  abbrev n : ℕ
  n = length tokens

  abbrev M : Elaborated
  M = module_seen s number m

  abbrev token : FunctionEntry → ℕ
  token f = f.name.at

  no_faults : module_names_faults s m ≡ []
  no_faults =
      each_empty (module_names_faults s) s.modules m
      (right_empty (text_names_faults s ++ flat_map (nature_faults s) s.natures ++ flat_map (discipline_item_faults s) s.disciplines) (flat_map (module_names_faults s) s.modules) sound.names)
      (index_has s.modules number m sound.stands)

  no_cycle : cycle_faults (known_of s m) made ≡ []
  no_cycle =
      let k = known_of s m in
      let branches = flat_map (λ (i : Item). branch_item_faults k m i.body) m.items in
      right_empty (site_faults k m ++ twice_in_module m ++ port_faults m ++ branches) (cycle_faults k made) no_faults

  -- no call leads back
  never_back : (c : CallEntry) → Has made c → reached made n c.called c.holder ≡ false
  never_back c h =
      let in_cycle : CallEntry → Bool = λ c. reached made n c.called c.holder in
      let none : filter in_cycle made ≡ [] =
      map_empty (λ (c : CallEntry). c.at) (filter in_cycle made) (map_empty (λ at. (at, FunctionCycle)) (map (λ (c : CallEntry). c.at) (filter in_cycle made)) no_cycle) in
      is_not (in_cycle c) (λ e. subst (λ cs. Has cs c) none (has_filter in_cycle made c h e))

  number_within : (f : FunctionEntry) → Has (functions_of m) f → number_at tokens (token f) < n
  number_within f h = slice_get_within tokens (number_at tokens (token f)) (token f) (placed tokens (token f) (has_map token (functions_of m) f h))

  -- the functions that hold calls have numbers below that of functions
  holders : AllByRecursion (λ (c : CallEntry). c.holder < n) made
  holders = all_of_has (λ (c : CallEntry). c.holder < n) made (λ c h.
      let r = from_flat (calls_of (known_of s m) (around s m)) (functions_of m) c h in
      let w = from_filter_map (λ (x : Site). call_entry (known_of s m) (number_at tokens (token r.source)) x x.role) (function_sites (in_function (around s m) r.source) r.source) c r.gives in
      subst (λ x. x < n) (sym (held (known_of s m) (number_at tokens (token r.source)) w.source w.source.role c w.gives)) (number_within r.source r.has))

  abbrev reach : ℕ → ℕ
  reach x = count n (reached made n x)

  -- what a call leads to is a function, and it reaches less
  record Leads (holder g : ℕ) : Type 0 where
    function : FunctionEntry
    is : slice_get (functions_of m) g ≡ Some function
    less : reach (number_at tokens (token function)) + 1 ≤ reach holder

  leads : (holder g : ℕ) → holder < n → IsMade made holder g → IsPlaced tokens g → Leads holder g
  leads holder g less call place =
      let here : slice_get tokens g ≡ Some place.at = subst (λ x. slice_get tokens x ≡ Some place.at) place.is (placed tokens place.at place.has) in
      let f = made_of token (slice_get (functions_of m) g) place.at (sym (slice_get-map token (functions_of m) g) ∙ here) in
      let own : number_at tokens (token f.source) ≡ g = ap (number_at tokens) f.gives ∙ place.is in
      let holds : call.entry.holder < n = subst (λ x. x < n) (sym call.holds) less in
      let calls_within : call.entry.called < n = subst (λ x. x < n) (sym call.calls) (slice_get_within tokens g place.at here) in
      let fewer_reached = fewer n made holders call.entry call.has holds calls_within (never_back call.entry call.has) in
      let from : reach call.entry.called ≡ reach (number_at tokens (token f.source)) = ap reach (call.calls ∙ sym own) in
      let to : reach call.entry.holder ≡ reach holder = ap reach call.holds in
      record { function = f.source; is = f.is; less = subst (λ x. x + 1 ≤ reach holder) from (subst (λ x. reach call.entry.called + 1 ≤ x) to fewer_reached) }

  nested_to : (depth p : ℕ) (f : FunctionEntry) → slice_get (functions_of m) p ≡ Some f → reach (number_at tokens (token f)) ≤ depth → IsNested M depth p
  nested_to zero p f is le =
      absurd (omega (arith, le, some_reached n made holders (number_at tokens (token f)) (number_within f (index_has (functions_of m) p f is))))
  nested_to (suc depth) p f is le =
      let has = index_has (functions_of m) p f is in
      let numbers = map (λ (v : VariableEntry). v.name.at) (variables_of m) in
      let go : (g : ℕ) → IsMade made (number_at tokens (token f)) g → IsPlaced tokens g → IsNested M depth g = λ g call place.
      (let r = leads (number_at tokens (token f)) g (number_within f has) call place in nested_to depth g r.function r.is (omega (arith, le, r.less))) in
      let found : slice_get M.functions p ≡ Some (function_of numbers f) =
      slice_get-map (function_of numbers) (functions_of m) p ∙ ap (option_map (function_of numbers)) is in
      subst (FunctionCallsOnly M (IfFunction (IsNested M depth))) (sym found)
      (function_calls_only M (IsNested M depth) tokens numbers (in_function (around s m) f) f
      (refl, function_numbered tokens (module_scope m) f (module_numbered m))
      (names_fit s number m sound.tokens M (λ at. refl) (IsNested M depth) f has go))

  pub nested : (f : ℕ) → f < length M.functions → IsNested M (length M.functions) f
  nested f less =
      let numbers = map (λ (v : VariableEntry). v.name.at) (variables_of m) in
      let long : length M.functions ≡ length (functions_of m) = length-map (functions_of m) (function_of numbers) in
      let as_long : n ≡ length (functions_of m) = length-map (functions_of m) token in
      let r = element_at (functions_of m) f (subst (λ x. f < x) long less) in
      subst (λ depth. IsNested M depth f) (as_long ∙ sym long)
      (nested_to n f r.element r.is (count_most n (reached made n (number_at tokens (token r.element)))))

pub cycle_laws : CycleLaws
cycle_laws = record {
  nested = nested;
  in_texts = λ s number m stands names own.
      record { stands = stands; names = names; tokens = own_tokens s own m (index_has s.modules number m stands) };
}

-- the functions that names mean are functions of the module
called_within : (s : Source) (number : ℕ) (m : Module) (at g : ℕ) → (module_seen s number m).meaning at ≡ Some (means.Function g) → g < length (module_seen s number m).functions
called_within s number m at g e =
    let numbers = map (λ (v : VariableEntry). v.name.at) (variables_of m) in
    let long : length (map (λ (f : FunctionEntry). f.name.name) (functions_of m)) ≡ length (functions_of m) = length-map (functions_of m) (λ (f : FunctionEntry). f.name.name) in
    let seen_long : length (map (function_of numbers) (functions_of m)) ≡ length (functions_of m) = length-map (functions_of m) (function_of numbers) in
    subst (λ n. g < n) (long ∙ sym seen_long) (names_are_numbered.functions s number m at g e)

pub depths_in_modules : {E V : Type 0} (o : Operations V) (valid : V → Type 0) → DepthsInModules E V o valid
depths_in_modules o valid = record {
  deeper = λ s number m sound x P n stops answers depth le f less outs.
      (depths_of_functions o valid).deeper (module_seen s number m) x P n stops answers (nested s number m sound) depth le f less outs;
  evaluation = λ s number m sound x P n stops answers depth le.
      evaluated_deeper (module_seen s number m) (over o x P n stops answers) (nested s number m sound) (called_within s number m) depth le;
}
