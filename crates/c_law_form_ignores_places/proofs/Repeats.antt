-- The rules of form but that on numbering don't look at the number of a module, and that one only at what stands there.
use Rattle.std.specs.Prelude.{◌≡◌, ℕ, suc, ◌+◌, ◌==◌, ◌&&◌, Bool, true, false, if◌then◌else◌, List, [], ◌∷◌, ◌++◌, length, map}
use Rattle.std.specs.List.{flat_map, enumerate_from}
use Rattle.std.proofs.Common.{refl, ap, sym, subst, ◌∙◌, arith}
use Rattle.std.proofs.lemmas.Bool.Decides.{nat_tests}
use Rattle.c_tree.specs.Form.{HasForm}
use Rattle.c_tree.specs.Raw.{At, RawFunction, RawModule, RawDescriptor, RawFile}
use Rattle.c_tree.specs.rules.Bodies.{Scoped, RawBody, bodies_of, items_of, in_modules, in_bodies}
use Rattle.c_tree.specs.rules.Breaks.{breaks_in, one_break_a_loop}
use Rattle.c_tree.specs.rules.Reach.{cells_of_body, loads_reached, cells_in_reach}
use Rattle.c_tree.specs.rules.Fields.{fields_of_module, fields_exist}
use Rattle.c_tree.specs.rules.Locals.{locals_in_body, locals_declared}
use Rattle.c_tree.specs.rules.Numbering.{wants, numbered_module, numbered_in_order}
use Rattle.c_tree.specs.rules.Settings.{settings_in, set_as_declared}
use Rattle.c_tree.specs.rules.Tables.{descriptor_numbers, numbers_of_module, descriptors_agree, counts_agree, tables_agree}
use Rattle.c_tree.specs.rules.Types.{item_differs, item_calls, types_agree, calls_fit}
use Rattle.c_tree.proofs.Blameless.{no_parts, same_test}
use Rattle.c_law_form_ignores_places.specs.Forget.{once, once_in_module, once_in_descriptor, numbered_once}
use Rattle.c_law_form_ignores_places.specs.Laws.{RepeatsDoNotMatter}

-- what each rule blames: nothing
pub record Blameless (raw : RawFile) : Type 0 where
  pub numbering : numbered_in_order raw ≡ []
  pub fields : fields_exist raw ≡ []
  pub locals : locals_declared raw ≡ []
  pub settings : set_as_declared raw ≡ []
  pub breaks : one_break_a_loop raw ≡ []
  pub types : types_agree raw ≡ []
  pub calls : calls_fit raw ≡ []
  pub reach : cells_in_reach raw ≡ []
  pub tables : tables_agree raw ≡ []

pub parts_of_form : (raw : RawFile) → HasForm raw → Blameless raw
parts_of_form raw h =
    let a1 = numbered_in_order raw in
    let a2 = fields_exist raw in
    let a3 = locals_declared raw in
    let a4 = set_as_declared raw in
    let a5 = one_break_a_loop raw in
    let a6 = types_agree raw in
    let a7 = calls_fit raw in
    let a8 = cells_in_reach raw in
    let a9 = tables_agree raw in
    let p8 = no_parts (a1 ++ a2 ++ a3 ++ a4 ++ a5 ++ a6 ++ a7 ++ a8) a9 h in
    let p7 = no_parts (a1 ++ a2 ++ a3 ++ a4 ++ a5 ++ a6 ++ a7) a8 p8.0 in
    let p6 = no_parts (a1 ++ a2 ++ a3 ++ a4 ++ a5 ++ a6) a7 p7.0 in
    let p5 = no_parts (a1 ++ a2 ++ a3 ++ a4 ++ a5) a6 p6.0 in
    let p4 = no_parts (a1 ++ a2 ++ a3 ++ a4) a5 p5.0 in
    let p3 = no_parts (a1 ++ a2 ++ a3) a4 p4.0 in
    let p2 = no_parts (a1 ++ a2) a3 p3.0 in
    let p1 = no_parts a1 a2 p2.0 in
    record {
      numbering = p1.0;
      fields = p1.1;
      locals = p2.1;
      settings = p3.1;
      breaks = p4.1;
      types = p5.1;
      calls = p6.1;
      reach = p7.1;
      tables = p8.1;
    }

pub form_of_parts : (raw : RawFile) → Blameless raw → HasForm raw
form_of_parts raw b = λ i.
    b.numbering i ++ b.fields i ++ b.locals i ++ b.settings i ++ b.breaks i ++ b.types i ++ b.calls i ++ b.reach i ++ b.tables i

-- other numbers of a module, by its place
abbrev pub Numbers : Type 0
Numbers = ℕ → List (At ℕ) → List (At ℕ)

abbrev pub numbered_module_as : Numbers → ℕ × RawModule → RawModule
numbered_module_as numbers (k, m) = record m { numbers = numbers k m.numbers }

abbrev pub numbered_descriptor_as : Numbers → ℕ × RawDescriptor → RawDescriptor
numbered_descriptor_as numbers (k, d) = record d { numbers = numbers k d.numbers }

abbrev pub numbered_as : Numbers → RawFile → RawFile
numbered_as numbers raw = record {
  modules = map (numbered_module_as numbers) (enumerate_from 0 raw.modules);
  num_descriptors = raw.num_descriptors;
  descriptors = map (numbered_descriptor_as numbers) (enumerate_from 0 raw.descriptors);
}

module _ (numbers : Numbers) where
  kept_from : (rule : ℕ → RawModule → List ℕ) → ((k : ℕ) (m : RawModule) (ns : List (At ℕ)) → rule k (record m { numbers = ns }) ≡ rule k m)
      → (k : ℕ) (modules : List RawModule)
      → flat_map (λ p. rule p.0 p.1) (enumerate_from k (map (numbered_module_as numbers) (enumerate_from k modules)))
      ≡ flat_map (λ p. rule p.0 p.1) (enumerate_from k modules)
  kept_from rule same k [] = refl
  kept_from rule same k (m ∷ rest) = λ i. same k m (numbers k m.numbers) i ++ kept_from rule same (k + 1) rest i

  bodies_kept : (rule : RawModule → RawBody → List ℕ) → ((m : RawModule) (b : RawBody) (ns : List (At ℕ)) → rule (record m { numbers = ns }) b ≡ rule m b)
      → (raw : RawFile) → in_bodies rule (numbered_as numbers raw) ≡ in_bodies rule raw
  bodies_kept rule same raw =
      kept_from (λ k m. flat_map (rule m) (bodies_of m)) (λ k m ns. λ i. flat_map (λ b. same m b ns i) (bodies_of m)) 0 raw.modules

  numbered_length : {S T : Type 0} (h : ℕ × S → T) (k : ℕ) (xs : List S) → length (map h (enumerate_from k xs)) ≡ length xs
  numbered_length h k [] = refl
  numbered_length h k (x ∷ xs) = ap (λ n. suc n) (numbered_length h (k + 1) xs)

  descriptors_kept : (k j : ℕ) (modules : List RawModule) (descriptors : List RawDescriptor)
      → descriptors_agree (map (numbered_module_as numbers) (enumerate_from k modules))
      (map (numbered_descriptor_as numbers) (enumerate_from j descriptors))
      ≡ descriptors_agree modules descriptors
  descriptors_kept k j [] descriptors = refl
  descriptors_kept k j (m ∷ rest) [] = refl
  descriptors_kept k j (m ∷ rest) (d ∷ descriptors) =
      ap (λ l. descriptor_numbers m d ++ l) (descriptors_kept (k + 1) (j + 1) rest descriptors)

  counts_kept : (raw : RawFile) → counts_agree (numbered_as numbers raw) ≡ counts_agree raw
  counts_kept raw =
      let modules = numbered_length (numbered_module_as numbers) 0 raw.modules in
      let descriptors = numbered_length (numbered_descriptor_as numbers) 0 raw.descriptors in
      let number = raw.num_descriptors in
      λ i. counted number (modules i) (descriptors i)
    where
      counted : At ℕ → ℕ → ℕ → List ℕ
      counted number modules descriptors = if number.value == modules && descriptors == modules then [] else number.at ∷ []

  -- the rules that don't look at it
  fields_kept : (raw : RawFile) → fields_exist (numbered_as numbers raw) ≡ fields_exist raw
  fields_kept raw = kept_from fields_of_module (λ k m ns. refl) 0 raw.modules

  locals_kept : (raw : RawFile) → locals_declared (numbered_as numbers raw) ≡ locals_declared raw
  locals_kept raw = bodies_kept locals_in_body (λ m b ns. refl) raw

  settings_kept : (raw : RawFile) → set_as_declared (numbered_as numbers raw) ≡ set_as_declared raw
  settings_kept raw = bodies_kept (λ m b. settings_in b.block) (λ m b ns. refl) raw

  breaks_kept : (raw : RawFile) → one_break_a_loop (numbered_as numbers raw) ≡ one_break_a_loop raw
  breaks_kept raw = bodies_kept (λ m b. breaks_in false b.block) (λ m b ns. refl) raw

  types_kept : (raw : RawFile) → types_agree (numbered_as numbers raw) ≡ types_agree raw
  types_kept raw = bodies_kept (λ m b. flat_map (λ s. item_differs m b (Scoped.known s) (Scoped.item s)) (items_of b)) (λ m b ns. refl) raw

  calls_kept : (raw : RawFile) → calls_fit (numbered_as numbers raw) ≡ calls_fit raw
  calls_kept raw = bodies_kept (λ m b. flat_map (item_calls m b) (items_of b)) (λ m b ns. refl) raw

  reach_kept : (raw : RawFile) → cells_in_reach (numbered_as numbers raw) ≡ cells_in_reach raw
  reach_kept raw = λ i. bodies_kept cells_of_body (λ m b ns. refl) raw i ++ kept_from loads_reached (λ k m ns. refl) 0 raw.modules i

  tables_kept : (raw : RawFile) → tables_agree (numbered_as numbers raw) ≡ tables_agree raw
  tables_kept raw = λ i.
      kept_from numbers_of_module (λ k m ns. refl) 0 raw.modules i ++ counts_kept raw i
      ++ descriptors_kept 0 0 raw.modules raw.descriptors i

  -- of what is numbered anew the rule on numbering says what it says of the old numbers
  mapped_from : {T : Type 0} (rule : ℕ → T → List ℕ) (h : ℕ × T → T) (k : ℕ) (xs : List T)
      → flat_map (λ p. rule p.0 p.1) (enumerate_from k (map h (enumerate_from k xs)))
      ≡ flat_map (λ p. rule p.0 (h p)) (enumerate_from k xs)
  mapped_from rule h k [] = refl
  mapped_from rule h k (x ∷ xs) = ap (λ l. rule k (h (k, x)) ++ l) (mapped_from rule h (k + 1) xs)

  each_follows : {T : Type 0} (f g : ℕ × T → List ℕ) → ((p : ℕ × T) → f p ≡ [] → g p ≡ []) → (xs : List (ℕ × T))
      → flat_map f xs ≡ [] → flat_map g xs ≡ []
  each_follows f g step [] h = refl
  each_follows f g step (x ∷ xs) h =
      let p = no_parts (f x) (flat_map f xs) h in
      λ i. step x p.0 i ++ each_follows f g step xs p.1 i

  -- a module without its own numbers
  abbrev of_functions : ℕ → RawModule → List ℕ
  of_functions k m = flat_map (λ p. wants p.0 (RawFunction.number p.1)) (enumerate_from 0 m.functions)

  module_follows : (f g : List (At ℕ) → List (At ℕ)) (p : ℕ × RawModule)
      → (flat_map (wants p.0) (f p.1.numbers) ≡ [] → flat_map (wants p.0) (g p.1.numbers) ≡ [])
      → numbered_module p.0 (record p.1 { numbers = f p.1.numbers }) ≡ []
      → numbered_module p.0 (record p.1 { numbers = g p.1.numbers }) ≡ []
  module_follows f g p step h =
      let q = no_parts (flat_map (wants p.0) (f p.1.numbers)) (of_functions p.0 p.1) h in
      λ i. step q.0 i ++ q.1 i

  pub numbers_follow : ((k : ℕ) (ns : List (At ℕ)) → flat_map (wants k) ns ≡ [] → flat_map (wants k) (numbers k ns) ≡ [])
      → (raw : RawFile) → numbered_in_order raw ≡ [] → numbered_in_order (numbered_as numbers raw) ≡ []
  numbers_follow step raw h =
      let modules = enumerate_from 0 raw.modules in
      let descriptors = enumerate_from 0 raw.descriptors in
      let p = no_parts (in_modules numbered_module raw) (flat_map (λ p. flat_map (wants p.0) (RawDescriptor.numbers p.1)) descriptors) h in
      let first = mapped_from numbered_module (numbered_module_as numbers) 0 raw.modules
      ∙ each_follows (λ p. numbered_module p.0 p.1) (λ p. numbered_module p.0 (numbered_module_as numbers p))
      (λ p. module_follows (λ ns. ns) (numbers p.0) p (step p.0 p.1.numbers)) modules p.0 in
      let second = mapped_from (λ k d. flat_map (wants k) (RawDescriptor.numbers d)) (numbered_descriptor_as numbers) 0 raw.descriptors
      ∙ each_follows (λ p. flat_map (wants p.0) (RawDescriptor.numbers p.1)) (λ p. flat_map (wants p.0) (numbers p.0 (RawDescriptor.numbers p.1)))
      (λ p. step p.0 (RawDescriptor.numbers p.1)) descriptors p.1 in
      λ i. first i ++ second i

  pub numbers_lead : ((k : ℕ) (ns : List (At ℕ)) → flat_map (wants k) (numbers k ns) ≡ [] → flat_map (wants k) ns ≡ [])
      → (raw : RawFile) → numbered_in_order (numbered_as numbers raw) ≡ [] → numbered_in_order raw ≡ []
  numbers_lead step raw h =
      let modules = enumerate_from 0 raw.modules in
      let descriptors = enumerate_from 0 raw.descriptors in
      let p = no_parts (in_modules numbered_module (numbered_as numbers raw)) _ h in
      let first = each_follows (λ p. numbered_module p.0 (numbered_module_as numbers p)) (λ p. numbered_module p.0 p.1)
      (λ p. module_follows (numbers p.0) (λ ns. ns) p (step p.0 p.1.numbers)) modules
      (sym (mapped_from numbered_module (numbered_module_as numbers) 0 raw.modules) ∙ p.0) in
      let second = each_follows (λ p. flat_map (wants p.0) (numbers p.0 (RawDescriptor.numbers p.1)))
      (λ p. flat_map (wants p.0) (RawDescriptor.numbers p.1)) (λ p. step p.0 (RawDescriptor.numbers p.1)) descriptors
      (sym (mapped_from (λ k d. flat_map (wants k) (RawDescriptor.numbers d)) (numbered_descriptor_as numbers) 0 raw.descriptors) ∙ p.1) in
      λ i. first i ++ second i

  pub form_follows : ((k : ℕ) (ns : List (At ℕ)) → flat_map (wants k) ns ≡ [] → flat_map (wants k) (numbers k ns) ≡ [])
      → (raw : RawFile) → HasForm raw → HasForm (numbered_as numbers raw)
  form_follows step raw h =
      let b = parts_of_form raw h in
      form_of_parts (numbered_as numbers raw) (record {
        numbering = numbers_follow step raw b.numbering;
        fields = fields_kept raw ∙ b.fields;
        locals = locals_kept raw ∙ b.locals;
        settings = settings_kept raw ∙ b.settings;
        breaks = breaks_kept raw ∙ b.breaks;
        types = types_kept raw ∙ b.types;
        calls = calls_kept raw ∙ b.calls;
        reach = reach_kept raw ∙ b.reach;
        tables = tables_kept raw ∙ b.tables;
      })

  pub form_leads : ((k : ℕ) (ns : List (At ℕ)) → flat_map (wants k) (numbers k ns) ≡ [] → flat_map (wants k) ns ≡ [])
      → (raw : RawFile) → HasForm (numbered_as numbers raw) → HasForm raw
  form_leads step raw h =
      let b = parts_of_form (numbered_as numbers raw) h in
      form_of_parts raw (record {
        numbering = numbers_lead step raw b.numbering;
        fields = sym (fields_kept raw) ∙ b.fields;
        locals = sym (locals_kept raw) ∙ b.locals;
        settings = sym (settings_kept raw) ∙ b.settings;
        breaks = sym (breaks_kept raw) ∙ b.breaks;
        types = sym (types_kept raw) ∙ b.types;
        calls = sym (calls_kept raw) ∙ b.calls;
        reach = sym (reach_kept raw) ∙ b.reach;
        tables = sym (tables_kept raw) ∙ b.tables;
      })

-- each number once
pub wants_told : (k : ℕ) (n : At ℕ) → wants k n ≡ [] → n.value ≡ k
wants_told k n h = by_test (n.value == k) refl h
  where
    by_test : (test : Bool) → (n.value == k) ≡ test → (if test then [] else n.at ∷ []) ≡ [] → n.value ≡ k
    by_test true e g = same_test n.value k e
    by_test false e g = cc (g)

pub wants_held : (k : ℕ) (n : At ℕ) → n.value ≡ k → wants k n ≡ []
wants_held k n e = ap (λ test. if test then [] else n.at ∷ []) (let same : (n.value == k) ≡ true = grind (arith, nat_tests) in same)

once_follows : (k : ℕ) (ns : List (At ℕ)) → flat_map (wants k) ns ≡ [] → flat_map (wants k) (once ns) ≡ []
once_follows k [] h = h
once_follows k (n ∷ []) h = h
once_follows k (n ∷ m ∷ rest) h =
    let p = no_parts (wants k n) (flat_map (wants k) (m ∷ rest)) h in
    by_test (n.value == m.value) (once (m ∷ rest)) p.0 (once_follows k (m ∷ rest) p.1)
  where
    by_test : (test : Bool) (later : List (At ℕ)) → wants k n ≡ [] → flat_map (wants k) later ≡ []
        → flat_map (wants k) (if test then later else n ∷ later) ≡ []
    by_test true later g l = l
    by_test false later g l = λ i. g i ++ l i

once_leads : (k : ℕ) (ns : List (At ℕ)) → flat_map (wants k) (once ns) ≡ [] → flat_map (wants k) ns ≡ []
once_leads k [] h = h
once_leads k (n ∷ []) h = h
once_leads k (n ∷ m ∷ rest) h = by_test (n.value == m.value) refl (once (m ∷ rest)) (λ g. once_leads k (m ∷ rest) g) h
  where
    by_test : (test : Bool) → (n.value == m.value) ≡ test → (later : List (At ℕ))
        → (flat_map (wants k) later ≡ [] → flat_map (wants k) (m ∷ rest) ≡ [])
        → flat_map (wants k) (if test then later else n ∷ later) ≡ [] → flat_map (wants k) (n ∷ m ∷ rest) ≡ []
    by_test true e later step g =
        let l = step g in
        let p = no_parts (wants k m) (flat_map (wants k) rest) l in
        let first = wants_held k n (same_test n.value m.value e ∙ wants_told k m p.0) in
        λ i. first i ++ l i
    by_test false e later step g =
        let p = no_parts (wants k n) (flat_map (wants k) later) g in
        let l = step p.1 in
        λ i. p.0 i ++ l i

unnumbered : {S T : Type 0} (h : S → T) (k : ℕ) (xs : List S) → map (λ p. h p.1) (enumerate_from k xs) ≡ map h xs
unnumbered h k [] = refl
unnumbered h k (x ∷ xs) = ap (λ l. h x ∷ l) (unnumbered h (k + 1) xs)

abbrev each_once : Numbers
each_once k ns = once ns

once_same : (raw : RawFile) → numbered_as each_once raw ≡ numbered_once raw
once_same raw =
    let modules = unnumbered once_in_module 0 raw.modules in
    let descriptors = unnumbered once_in_descriptor 0 raw.descriptors in
    λ i. record { modules = modules i; num_descriptors = raw.num_descriptors; descriptors = descriptors i }

pub repeats_do_not_matter : RepeatsDoNotMatter
repeats_do_not_matter raw = (
  λ h. subst HasForm (once_same raw) (form_follows each_once once_follows raw h),
  λ h. form_leads each_once once_leads raw (subst HasForm (sym (once_same raw)) h),
)
