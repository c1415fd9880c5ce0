-- Each call of a function that is made in a function is among the calls of which it is asked whether they lead back.
use Rattle.std.specs.Prelude.{◌≡◌, ◌⊎◌, ℕ, Bool, List, ◌++◌, map, flat_map, Option, Some, None, option_map, option_and_then, if◌then◌else◌}
use Rattle.std.specs.List.{AllByRecursion, slice_get}
use Rattle.std.proofs.Common.{refl, sym, ◌∙◌, ap, inl, inr}
use Rattle.va_sem.specs.declared.names.Meaning.{Meaning}
use Rattle.va_sem.specs.declared.names.Meaning.TheVariants as means
use Rattle.va_sem.specs.declared.names.NameUse.{NameUse}
use Rattle.va_sem.specs.Builtins.{builtin_row, builtin_at}
use Rattle.va_sem.specs.declared.builtin.Builtin.{Builtin}
use Rattle.va_sem.specs.Declarations.{FunctionEntry, item_functions, functions_of}
use Rattle.va_sem.specs.Disciplines.{accesses_of, natures_of}
use Rattle.va_sem.specs.Lookup.{Bytes}
use Rattle.va_sem.specs.Meanings.{Known, Target, known_of, thing_meaning, called_meaning, access_meaning, access_to, target_of, is_flow_of, discipline_of_branch, meaning_of, meaning_by_role, use_at, module_uses}
use Rattle.va_sem.specs.OwnTokens.{HasOwnTokens}
use Rattle.va_sem.specs.NamesFaults.{CallEntry, called_function, call_entry, calls_of}
use Rattle.va_sem.specs.Scopes.{Thing, Declared, node, branch, parameter, variable, function, label, alias, nothing}
use Rattle.va_sem.specs.Sites.{Role, declares, calls, accesses, Around, Site, seen, in_function, in_module, function_sites, body_sites, site_of}
use Rattle.va_sem.specs.TextOrder.{number_at}
use Rattle.va_sem.specs.Typing.{meaning_at}
use Rattle.va_tree.specs.declared.module.Item.{Item}
use Rattle.va_tree.specs.declared.module.ItemBody.{ItemBody}
use Rattle.va_tree.specs.declared.module.ItemBody.TheVariants.{Function}
use Rattle.va_tree.specs.declared.module.Module.{Module}
use Rattle.va_tree.specs.declared.source.Source.{Source}
use Rattle.va_meaning.specs.Called.{called, word_called, builtin_called}
use Rattle.va_meaning.specs.Elaborated.{Elaborated}
use Rattle.va_meaning.specs.Nesting.{IfFunction}
use Rattle.va_sem.proofs.Contained.{Has, all_of_has, from_flat, from_order, has_append, has_right, has_flat, has_filter_map, has_place}
use Rattle.va_sem.proofs.NameUses.{used_at, used_is}
use Rattle.va_sem.proofs.ScopesKept.{MaybeKept, found}
use Rattle.va_meaning.proofs.CycleScopes.{StandsAmong}
use Rattle.va_meaning.proofs.CycleSites.{IsInside, IfCalled, Fits}

abbrev function_number : Option Meaning → Option ℕ
function_number (Some (means.Function f)) = Some f
function_number m = None

builtin_fits : (R : ℕ → Type 0) (b : Option Builtin) → IfFunction R (builtin_called b)
builtin_fits R (Some b) = tt
builtin_fits R None = tt

-- if a name means a function, then R holds of it
pub if_function : (R : ℕ → Type 0) (m : Option Meaning) → ((g : ℕ) → m ≡ Some (means.Function g) → R g) → IfFunction R (word_called m)
if_function R None h = tt
if_function R (Some (means.Function g)) h = h g refl
if_function R (Some (means.Builtin row)) h = builtin_fits R (builtin_at row)
if_function R (Some (means.Access number turned flow)) h = tt
if_function R (Some m) h = tt

module _ (k : Known) where
  no_access_flow : (t : Target) (access : Bytes) (o : Option Bool) (g : ℕ) → option_map (access_to t) o ≡ Some (means.Function g) → ⊥
  no_access_flow t access None g e = cc (e)
  no_access_flow t access (Some flow) g e = (let f : None ≡ Some g = ap function_number e in cc (f))

  -- an access means no function
  no_access : (access : Bytes) (t : Option Target) (g : ℕ) → access_meaning k access t ≡ Some (means.Function g) → ⊥
  no_access access None g e = cc (e)
  no_access access (Some t) g e = no_access_flow t access (option_and_then (is_flow_of access) (discipline_of_branch k t.branch)) g e

  no_builtin : (o : Option ℕ) (g : ℕ) → option_map means.Builtin o ≡ Some (means.Function g) → ⊥
  no_builtin None g e = cc (e)
  no_builtin (Some row) g e = (let f : None ≡ Some g = ap function_number e in cc (f))

  -- what a call means is what is entered, and it is the number of a function
  thing_entered : (at : ℕ) (t : Thing) (g : ℕ) → thing_meaning k at t ≡ Some (means.Function g) → called_function k t at ≡ Some g
  thing_entered at function g e = ap function_number e
  thing_entered at node g e = absurd (let f : None ≡ Some g = ap function_number e in cc (f))
  thing_entered at branch g e = absurd (let f : None ≡ Some g = ap function_number e in cc (f))
  thing_entered at parameter g e = absurd (let f : None ≡ Some g = ap function_number e in cc (f))
  thing_entered at variable g e = absurd (let f : None ≡ Some g = ap function_number e in cc (f))
  thing_entered at label g e = absurd (cc (e))
  thing_entered at (alias target) g e = absurd (cc (e))
  thing_entered at nothing g e = absurd (cc (e))

  declared_entered : (bytes : Bytes) (d : Option Declared) (g : ℕ) → called_meaning k bytes d ≡ Some (means.Function g)
      → option_and_then (λ (d : Declared). called_function k d.thing d.at) d ≡ Some g
  declared_entered bytes None g e = absurd (no_builtin (builtin_row bytes) g e)
  declared_entered bytes (Some d) g e = thing_entered d.at d.thing g e

-- the number of a token among tokens
pub record IsPlaced (tokens : List ℕ) (g : ℕ) : Type 0 where
  pub at : ℕ
  pub has : Has tokens at
  pub is : number_at tokens at ≡ g

thing_placed : (k : Known) (at : ℕ) (t : Thing) (g : ℕ) → StandsAmong k.functions t at → called_function k t at ≡ Some g → IsPlaced k.functions g
thing_placed k at function g h e = record { at = at; has = h; is = cc (e) }
thing_placed k at other g h e = absurd (cc (e))

declared_placed : (k : Known) (d : Option Declared) (g : ℕ) → MaybeKept (StandsAmong k.functions) d
    → option_and_then (λ (d : Declared). called_function k d.thing d.at) d ≡ Some g → IsPlaced k.functions g
declared_placed k None g h e = absurd (cc (e))
declared_placed k (Some d) g h e = thing_placed k d.at d.thing g h e

-- a call that is made in a function of a number, of the function of another
pub record IsMade (made : List CallEntry) (holder g : ℕ) : Type 0 where
  pub entry : CallEntry
  pub has : Has made entry
  pub holds : entry.holder ≡ holder
  pub calls : entry.called ≡ g

some_same : {X : Type 0} (x y : X) → Some x ≡ Some y → x ≡ y
some_same x y e = cc (e)

in_body : (a : Around) (body : ItemBody) (f : FunctionEntry) (x : Site) → Has (item_functions body) f → Has (function_sites (in_function a f) f) x → Has (body_sites a body) x
in_body a (Function at ty called items body) f x h k =
    inr (has_flat (λ (f : FunctionEntry). function_sites (in_function a f) f) (item_functions (Function at ty called items body)) f x h k)
in_body a other f x h k = absurd h

-- what is around the names of a module
abbrev pub around : Source → Module → Around
around s m = in_module (accesses_of (natures_of s)) m

-- the calls that are made in the functions of a module
abbrev pub made_in : Source → Module → List CallEntry
made_in s m = flat_map (calls_of (known_of s m) (around s m)) (functions_of m)

module _ (s : Source) (number : ℕ) (m : Module) (own : HasOwnTokens s m) where
  abbrev k : Known
  k = known_of s m

  abbrev uses : List NameUse
  uses = module_uses k number m

  one_site : (y x : Site) → Has k.sites y → Has k.sites x → y.at ≡ x.at → y ≡ x
  one_site y x h h' e =
      let p = has_place k.sites y h in
      let q = has_place k.sites x h' in
      some_same y x (sym p.is ∙ ap (slice_get k.sites) (own p.at q.at y x p.is q.is e) ∙ q.is)

  site_of_use : (x : Site) → Has k.sites x → (g : ℕ) (u : NameUse) → u.at ≡ x.at → u.meaning ≡ means.Function g
      → Has (use_at m.at (Some (means.Module number))) u ⊎ Has (flat_map (λ (y : Site). use_at y.at (meaning_of k y)) k.sites) u
      → meaning_of k x ≡ Some (means.Function g)
  site_of_use x h g u stands is (inl first) =
      absurd (let f : None ≡ Some g = ap function_number ((used_is m.at (Some (means.Module number)) u first).1 ∙ ap Some is) in cc (f))
  site_of_use x h g u stands is (inr more) =
      let f = from_flat (λ (y : Site). use_at y.at (meaning_of k y)) k.sites u more in
      let w = used_is f.source.at (meaning_of k f.source) u f.gives in
      ap (meaning_of k) (sym (one_site f.source x f.has h (sym w.0 ∙ stands))) ∙ w.1 ∙ ap Some is

  -- what a name means at its token is what it means there
  site_means : (x : Site) → Has k.sites x → (g : ℕ) → meaning_at uses x.at ≡ Some (means.Function g) → meaning_of k x ≡ Some (means.Function g)
  site_means x h g e =
      let r = used_at uses x.at (means.Function g) e in
      site_of_use x h g r.use_of r.stands r.is_meant
      (has_append (use_at m.at (Some (means.Module number))) (flat_map (λ (y : Site). use_at y.at (meaning_of k y)) k.sites) r.use_of
      (from_order (λ (u : NameUse). u.at)
      (use_at m.at (Some (means.Module number)) ++ flat_map (λ (y : Site). use_at y.at (meaning_of k y)) k.sites) r.use_of r.has))

  site_in_module : (f : FunctionEntry) → Has (functions_of m) f → (x : Site) → Has (function_sites (in_function (around s m) f) f) x → Has k.sites x
  site_in_module f h x inner =
      let r = from_flat (λ (i : Item). item_functions i.body) m.items f
      (from_order (λ (f : FunctionEntry). f.name.at) (flat_map (λ (i : Item). item_functions i.body) m.items) f h) in
      has_right (map (site_of declares (around s m)) m.ports) (flat_map (λ (i : Item). body_sites (around s m) i.body) m.items) x
      (has_flat (λ (i : Item). body_sites (around s m) i.body) m.items r.source x r.has (in_body (around s m) r.source.body f x r.gives inner))

  module _ (M : Elaborated) (meaning : (at : ℕ) → M.meaning at ≡ meaning_at uses at) (R : ℕ → Type 0) (f : FunctionEntry) (has : Has (functions_of m) f)
      (go : (g : ℕ) → IsMade (made_in s m) (number_at k.functions f.name.at) g → IsPlaced k.functions g → R g) where
    abbrev holder : ℕ
    holder = number_at k.functions f.name.at

    abbrev entry_of : Site → ℕ → CallEntry
    entry_of x g = record { at = x.at; holder = holder; called = g }

    entered : (x : Site) → Has (function_sites (in_function (around s m) f) f) x → x.role ≡ calls → IsInside M R k.functions x.around → (g : ℕ)
        → called_meaning k x.name (seen x) ≡ Some (means.Function g) → R g
    entered x h is w g e =
        let found_it = declared_entered k x.name (seen x) g e in
        let is_entry : call_entry k holder x x.role ≡ Some (entry_of x g) =
        ap (call_entry k holder x) is
        ∙ (λ j. option_map (entry_of x) (option_and_then (λ (d : Declared). called_function k d.thing d.at) (if w.0 j then seen x else None)))
        ∙ ap (option_map (entry_of x)) found_it in
        go g
        (record {
          entry = entry_of x g;
          has = has_flat (calls_of k (around s m)) (functions_of m) f (entry_of x g) has
              (has_filter_map (λ (y : Site). call_entry k holder y y.role) (function_sites (in_function (around s m) f) f) x (entry_of x g) h is_entry);
          holds = refl;
          calls = refl;
        })
        (declared_placed k (seen x) g (found (StandsAmong k.functions) x.around.scope x.name w.1) found_it)

    role_fits : (x : Site) → Has (function_sites (in_function (around s m) f) f) x → (role : Role) → x.role ≡ role → IsInside M R k.functions x.around
        → IfCalled M R k.functions role x
    role_fits x h calls is w = if_function R (M.meaning x.at) (λ g e.
        entered x h is w g (sym (ap (meaning_by_role k x) is) ∙ site_means x (site_in_module f has x h) g (sym (meaning x.at) ∙ e)))
    role_fits x h (accesses ends) is w = if_function R (M.meaning x.at) (λ g e.
        absurd (no_access k x.name (target_of k x) g
        (sym (ap (meaning_by_role k x) is) ∙ site_means x (site_in_module f has x h) g (sym (meaning x.at) ∙ e))))
    role_fits x h role is w = tt

    -- each name in the function fits
    pub names_fit : AllByRecursion (Fits M R k.functions) (function_sites (in_function (around s m) f) f)
    names_fit = all_of_has (Fits M R k.functions) (function_sites (in_function (around s m) f) f) (λ x h w. role_fits x h x.role refl w)
