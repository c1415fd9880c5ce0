-- The rules on numbering, breaks, locals and settings blame as much in a raw tree without places.
use Rattle.std.specs.Prelude.{◌≡◌, ℕ, suc, ◌==◌, Bool, true, false, if◌then◌else◌, List, [], ◌∷◌, ◌++◌, length, map}
use Rattle.std.specs.List.{flat_map, list_any, enumerate_from}
use Rattle.std.proofs.Common.{refl, ap, sym, ◌∙◌, arith}
use Rattle.std.proofs.lemmas.List.{map-append}
use Rattle.c_tree.specs.declared.body.CAtom.{CAtom}
use Rattle.c_tree.specs.Raw.{At, RawSimple, constant, join, head, assign, set_cell, set_flag, report, RawBlock, closed, simple, leave, choice, loop, RawArgument, RawFunction, RawModule, RawDescriptor, RawFile}
use Rattle.c_tree.specs.rules.Bodies.{Declared, Item, Scoped, RawBody, items_of, items_in, atoms_of, atoms_of_simple, local_of, argument_of, assigned, of_statement, tokens_of, repeated, in_modules}
use Rattle.c_tree.specs.rules.Breaks.{breaks_in, one_break_a_loop}
use Rattle.c_tree.specs.rules.Locals.{locals_used, unless_among, used_locals, used_arguments, declared, locals_in_body, locals_declared}
use Rattle.c_tree.specs.rules.Numbering.{wants, numbered_module, numbered_in_order}
use Rattle.c_tree.specs.rules.Settings.{sets, sets_in, reads, reads_in, first_counts, still_wanted, set_once, set_in_turn, after_join, after_head, after_declaration, Declaration, declaration, blamed_behind, declarations, first_of_each, settings_in, set_as_declared}
use Rattle.c_law_form_ignores_places.specs.Forget.{forget_at, forget_simple, forget_block, forget_argument, forget_function, forget_module, forget_descriptor, forget}
use Rattle.c_law_form_ignores_places.proofs.Alike.{Alike, both, flat_alike, one_alike, one_alike_else, enumerate_mapped, map_map, flat_mapped}
use Rattle.c_law_form_ignores_places.proofs.Trees.{three_mapped, forget_item, forget_scoped, forget_body, items_in_same, items_same, atoms_of_same, atoms_of_simple_same, local_of_same, argument_of_same, assigned_same, of_statement_same, tokens_alike, repeated_alike, modules_alike, bodies_alike}

pub wants_alike : (k : ℕ) (number : At ℕ) → Alike (wants k number) (wants k (forget_at number))
wants_alike k number = one_alike (number.value == k) number.at 0

numbered_alike : (k : ℕ) (m : RawModule) → Alike (numbered_module k m) (numbered_module k (forget_module m))
numbered_alike k m =
    both (flat_map (wants k) m.numbers) (flat_map (wants k) (map forget_at m.numbers)) _ _
    (flat_alike (wants k) (wants k) forget_at (wants_alike k) m.numbers)
    (flat_alike (λ p. wants p.0 (RawFunction.number p.1)) (λ p. wants p.0 (RawFunction.number p.1)) (λ p. (p.0, forget_function p.1))
    (λ p. wants_alike p.0 (RawFunction.number p.1)) (enumerate_from 0 m.functions)
    ∙ ap (λ l. length (flat_map (λ p. wants p.0 (RawFunction.number p.1)) l)) (sym (enumerate_mapped forget_function 0 m.functions)))

pub numbering_alike : (raw : RawFile) → Alike (numbered_in_order raw) (numbered_in_order (forget raw))
numbering_alike raw =
    both (in_modules numbered_module raw) (in_modules numbered_module (forget raw)) _ _
    (modules_alike numbered_module numbered_alike raw)
    (flat_alike (λ p. flat_map (wants p.0) (RawDescriptor.numbers p.1)) (λ p. flat_map (wants p.0) (RawDescriptor.numbers p.1))
    (λ p. (p.0, forget_descriptor p.1))
    (λ p. flat_alike (wants p.0) (wants p.0) forget_at (wants_alike p.0) (RawDescriptor.numbers p.1)) (enumerate_from 0 raw.descriptors)
    ∙ ap (λ l. length (flat_map (λ p. flat_map (wants p.0) (RawDescriptor.numbers p.1)) l))
    (sym (enumerate_mapped forget_descriptor 0 raw.descriptors)))

-- three lists of tokens
pub all_three : (a b c x y z : List ℕ) → Alike a x → Alike b y → Alike c z → Alike (a ++ b ++ c) (x ++ y ++ z)
all_three a b c x y z h k l = both (a ++ b) (x ++ y) c z (both a x b y h k) l

breaks_alike : (wanted : Bool) (b : RawBlock) → Alike (breaks_in wanted b) (breaks_in wanted (forget_block b))
breaks_alike wanted (closed at) = one_alike_else wanted at 0
breaks_alike wanted (simple s rest) = breaks_alike wanted rest
breaks_alike true (leave at a rest) = breaks_alike false rest
breaks_alike false (leave at a rest) = ap (λ n. suc n) (breaks_alike false rest)
breaks_alike wanted (choice a x y rest) =
    all_three (breaks_in false x) (breaks_in false y) (breaks_in wanted rest)
    (breaks_in false (forget_block x)) (breaks_in false (forget_block y)) (breaks_in wanted (forget_block rest))
    (breaks_alike false x) (breaks_alike false y) (breaks_alike wanted rest)
breaks_alike wanted (loop x rest) =
    both (breaks_in true x) (breaks_in true (forget_block x)) (breaks_in wanted rest) (breaks_in wanted (forget_block rest))
    (breaks_alike true x) (breaks_alike wanted rest)

pub break_rule_alike : (raw : RawFile) → Alike (one_break_a_loop raw) (one_break_a_loop (forget raw))
break_rule_alike raw = bodies_alike (λ m b. breaks_in false b.block) (λ m b. breaks_alike false b.block) raw

-- the numbers of some kind in items, in a block and among atoms
locals_used_same : (item : Item) → locals_used (forget_item item) ≡ map forget_at (locals_used item)
locals_used_same item =
    let p = ap (flat_map local_of) (atoms_of_same item) ∙ flat_mapped local_of local_of forget_at forget_at local_of_same (atoms_of item) in
    let q = of_statement_same assigned assigned_same item in
    (λ i. p i ++ q i) ∙ sym (map-append forget_at (flat_map local_of (atoms_of item)) (of_statement assigned item))

unless_alike : (numbers : List ℕ) (x : At ℕ) → Alike (unless_among numbers x) (unless_among numbers (forget_at x))
unless_alike numbers x = one_alike (list_any (λ number. number == x.value) numbers) x.at 0

used_locals_alike : (s : Scoped) → Alike (used_locals s) (used_locals (forget_scoped s))
used_locals_alike s =
    let numbers = map (λ d. Declared.number d) s.known in
    flat_alike (unless_among numbers) (unless_among numbers) forget_at (unless_alike numbers) (locals_used s.item)
    ∙ ap (λ l. length (flat_map (unless_among numbers) l)) (sym (locals_used_same s.item))

used_arguments_alike : (b : RawBody) (s : Scoped) → Alike (used_arguments b s) (used_arguments (forget_body b) (forget_scoped s))
used_arguments_alike b s =
    let number : RawArgument → ℕ = λ argument. At.value (RawArgument.number argument) in
    let numbers = map number b.arguments in
    let used = flat_map argument_of (atoms_of s.item) in
    flat_alike (unless_among numbers) (unless_among numbers) forget_at (unless_alike numbers) used
    ∙ ap (λ l. length (flat_map (unless_among numbers) l))
    (sym (ap (flat_map argument_of) (atoms_of_same s.item) ∙ flat_mapped argument_of argument_of forget_at forget_at argument_of_same (atoms_of s.item)))
    ∙ ap (λ l. length (flat_map (unless_among l) (flat_map argument_of (atoms_of (forget_item s.item))))) (sym (map_map number forget_argument b.arguments))

declared_same : (s : RawSimple) → declared (forget_simple s) ≡ map forget_at (declared s)
declared_same (constant ty i side) = refl
declared_same (join ty i) = refl
declared_same (head ty i first) = refl
declared_same (assign i value) = refl
declared_same (set_cell cell value) = refl
declared_same (set_flag pair value) = refl
declared_same (report id) = refl

-- what the statements of a block have
pub statements_same : (part : RawSimple → List (At ℕ)) → ((s : RawSimple) → part (forget_simple s) ≡ map forget_at (part s))
    → (b : RawBlock) → flat_map (of_statement part) (items_in (forget_block b)) ≡ map forget_at (flat_map (of_statement part) (items_in b))
statements_same part h b =
    ap (flat_map (of_statement part)) (items_in_same b)
    ∙ flat_mapped (of_statement part) (of_statement part) forget_item forget_at (of_statement_same part h) (items_in b)

locals_in_body_alike : (m : RawModule) (b : RawBody) → Alike (locals_in_body m b) (locals_in_body (forget_module m) (forget_body b))
locals_in_body_alike m b =
    let items = items_of b in
    let gone = forget_body b in
    let number : RawArgument → At ℕ = λ argument. RawArgument.number argument in
    let p : Alike (flat_map used_locals items) (flat_map used_locals (items_of gone)) =
    flat_alike used_locals used_locals forget_scoped used_locals_alike items
    ∙ ap (λ l. length (flat_map used_locals l)) (sym (items_same b)) in
    let q : Alike (flat_map (used_arguments b) items) (flat_map (used_arguments gone) (items_of gone)) =
    flat_alike (used_arguments gone) (used_arguments b) forget_scoped (used_arguments_alike b) items
    ∙ ap (λ l. length (flat_map (used_arguments gone) l)) (sym (items_same b)) in
    let r : Alike (repeated (flat_map (of_statement declared) (items_in b.block))) (repeated (flat_map (of_statement declared) (items_in gone.block))) =
    repeated_alike (flat_map (of_statement declared) (items_in b.block))
    ∙ ap (λ l. length (repeated l)) (sym (statements_same declared declared_same b.block)) in
    let s : Alike (repeated (map number b.arguments)) (repeated (map number gone.arguments)) =
    repeated_alike (map number b.arguments)
    ∙ ap (λ l. length (repeated l)) (map_map forget_at number b.arguments ∙ sym (map_map number forget_argument b.arguments)) in
    both (flat_map used_locals items ++ flat_map (used_arguments b) items ++ repeated (flat_map (of_statement declared) (items_in b.block)))
    (flat_map used_locals (items_of gone) ++ flat_map (used_arguments gone) (items_of gone)
    ++ repeated (flat_map (of_statement declared) (items_in gone.block))) _ _
    (all_three (flat_map used_locals items) (flat_map (used_arguments b) items) _ (flat_map used_locals (items_of gone))
    (flat_map (used_arguments gone) (items_of gone)) _ p q r) s

pub local_rule_alike : (raw : RawFile) → Alike (locals_declared raw) (locals_declared (forget raw))
local_rule_alike raw = bodies_alike locals_in_body locals_in_body_alike raw

-- settings
sets_alike : (i : ℕ) (s : RawSimple) → Alike (sets i s) (sets i (forget_simple s))
sets_alike i s = tokens_alike i (assigned s) ∙ ap (λ l. length (tokens_of i l)) (sym (assigned_same s))

sets_in_alike : (i : ℕ) (b : RawBlock) → Alike (sets_in i b) (sets_in i (forget_block b))
sets_in_alike i b =
    tokens_alike i (flat_map (of_statement assigned) (items_in b))
    ∙ ap (λ l. length (tokens_of i l)) (sym (statements_same assigned assigned_same b))

reads_alike : (i : ℕ) (atoms : List (At CAtom)) → Alike (reads i atoms) (reads i (map forget_at atoms))
reads_alike i atoms =
    tokens_alike i (flat_map local_of atoms)
    ∙ ap (λ l. length (tokens_of i l)) (sym (flat_mapped local_of local_of forget_at forget_at local_of_same atoms))

reads_in_alike : (i : ℕ) (b : RawBlock) → Alike (reads_in i b) (reads_in i (forget_block b))
reads_in_alike i b =
    reads_alike i (flat_map atoms_of (items_in b))
    ∙ ap (λ l. length (reads i l))
    (sym (ap (flat_map atoms_of) (items_in_same b) ∙ flat_mapped atoms_of atoms_of forget_item forget_at atoms_of_same (items_in b)))

first_alike : (wanted : Bool) (xs ys : List ℕ) → Alike xs ys → Alike (first_counts wanted xs) (first_counts wanted ys)
first_alike wanted [] [] h = refl
first_alike wanted [] (y ∷ ys) h = cc (h)
first_alike wanted (x ∷ xs) [] h = cc (h)
first_alike true (x ∷ xs) (y ∷ ys) h = omega (arith, h)
first_alike false (x ∷ xs) (y ∷ ys) h = h

still_same : (wanted : Bool) (xs ys : List ℕ) → Alike xs ys → still_wanted wanted xs ≡ still_wanted wanted ys
still_same wanted [] [] h = refl
still_same wanted [] (y ∷ ys) h = cc (h)
still_same wanted (x ∷ xs) [] h = cc (h)
still_same wanted (x ∷ xs) (y ∷ ys) h = refl

set_once_alike : (wanted : Bool) (i : ℕ) (b : RawBlock) → Alike (set_once wanted i b) (set_once wanted i (forget_block b))
set_once_alike wanted i (closed at) = one_alike_else wanted at 0
set_once_alike wanted i (simple s rest) =
    let gone = forget_simple s in
    both (first_counts wanted (sets i s)) (first_counts wanted (sets i gone)) (set_once (still_wanted wanted (sets i s)) i rest)
    (set_once (still_wanted wanted (sets i gone)) i (forget_block rest)) (first_alike wanted (sets i s) (sets i gone) (sets_alike i s))
    (set_once_alike (still_wanted wanted (sets i s)) i rest
    ∙ ap (λ w. length (set_once w i (forget_block rest))) (still_same wanted (sets i s) (sets i gone) (sets_alike i s)))
set_once_alike wanted i (leave at a rest) = set_once_alike wanted i rest
set_once_alike wanted i (choice a x y rest) =
    all_three (sets_in i x) (sets_in i y) (set_once wanted i rest) (sets_in i (forget_block x)) (sets_in i (forget_block y))
    (set_once wanted i (forget_block rest)) (sets_in_alike i x) (sets_in_alike i y) (set_once_alike wanted i rest)
set_once_alike wanted i (loop x rest) =
    both (sets_in i x) (sets_in i (forget_block x)) (set_once wanted i rest) (set_once wanted i (forget_block rest))
    (sets_in_alike i x) (set_once_alike wanted i rest)

set_in_turn_alike : (i : ℕ) (b : RawBlock) → Alike (set_in_turn i b) (set_in_turn i (forget_block b))
set_in_turn_alike i (closed at) = refl
set_in_turn_alike i (simple s rest) =
    both (sets i s) (sets i (forget_simple s)) (set_in_turn i rest) (set_in_turn i (forget_block rest)) (sets_alike i s) (set_in_turn_alike i rest)
set_in_turn_alike i (leave at a rest) = set_once_alike true i rest
set_in_turn_alike i (choice a x y rest) =
    all_three (sets_in i x) (sets_in i y) (set_in_turn i rest) (sets_in i (forget_block x)) (sets_in i (forget_block y))
    (set_in_turn i (forget_block rest)) (sets_in_alike i x) (sets_in_alike i y) (set_in_turn_alike i rest)
set_in_turn_alike i (loop x rest) =
    both (sets_in i x) (sets_in i (forget_block x)) (set_in_turn i rest) (set_in_turn i (forget_block rest)) (sets_in_alike i x)
    (set_in_turn_alike i rest)

after_join_alike : (i : ℕ) (b : RawBlock) → Alike (after_join i b) (after_join i (forget_block b))
after_join_alike i (closed at) = refl
after_join_alike i (simple s rest) =
    all_three (reads i (atoms_of_simple s)) (sets i s) (after_join i rest) (reads i (atoms_of_simple (forget_simple s))) (sets i (forget_simple s))
    (after_join i (forget_block rest))
    (reads_alike i (atoms_of_simple s) ∙ ap (λ l. length (reads i l)) (sym (atoms_of_simple_same s))) (sets_alike i s) (after_join_alike i rest)
after_join_alike i (leave at a rest) =
    both (reads i (a ∷ [])) (reads i (forget_at a ∷ [])) (after_join i rest) (after_join i (forget_block rest)) (reads_alike i (a ∷ []))
    (after_join_alike i rest)
after_join_alike i (choice a x y rest) =
    both (reads i (a ∷ []) ++ reads_in i x ++ reads_in i y ++ set_once true i x ++ set_once true i y) _ (sets_in i rest) (sets_in i (forget_block rest))
    (both (reads i (a ∷ []) ++ reads_in i x ++ reads_in i y ++ set_once true i x) _ (set_once true i y) (set_once true i (forget_block y))
    (both (reads i (a ∷ []) ++ reads_in i x ++ reads_in i y) _ (set_once true i x) (set_once true i (forget_block x))
    (all_three (reads i (a ∷ [])) (reads_in i x) (reads_in i y) (reads i (forget_at a ∷ [])) (reads_in i (forget_block x)) (reads_in i (forget_block y))
    (reads_alike i (a ∷ [])) (reads_in_alike i x) (reads_in_alike i y)) (set_once_alike true i x)) (set_once_alike true i y))
    (sets_in_alike i rest)
after_join_alike i (loop x rest) =
    all_three (reads_in i x) (sets_in i x) (after_join i rest) (reads_in i (forget_block x)) (sets_in i (forget_block x)) (after_join i (forget_block rest))
    (reads_in_alike i x) (sets_in_alike i x) (after_join_alike i rest)

after_head_alike : (i : ℕ) (b : RawBlock) → Alike (after_head i b) (after_head i (forget_block b))
after_head_alike i (closed at) = refl
after_head_alike i (simple s rest) =
    both (sets i s) (sets i (forget_simple s)) (after_head i rest) (after_head i (forget_block rest)) (sets_alike i s) (after_head_alike i rest)
after_head_alike i (leave at a rest) = after_head_alike i rest
after_head_alike i (choice a x y rest) =
    all_three (sets_in i x) (sets_in i y) (after_head i rest) (sets_in i (forget_block x)) (sets_in i (forget_block y)) (after_head i (forget_block rest))
    (sets_in_alike i x) (sets_in_alike i y) (after_head_alike i rest)
after_head_alike i (loop x rest) =
    both (set_in_turn i x) (set_in_turn i (forget_block x)) (sets_in i rest) (sets_in i (forget_block rest)) (set_in_turn_alike i x)
    (sets_in_alike i rest)

after_alike : (s : RawSimple) (rest : RawBlock) → Alike (after_declaration s rest) (after_declaration (forget_simple s) (forget_block rest))
after_alike (constant ty i side) rest = sets_in_alike i.value rest
after_alike (join ty i) rest = after_join_alike i.value rest
after_alike (head ty i first) rest = after_head_alike i.value rest
after_alike (assign i value) rest = refl
after_alike (set_cell cell value) rest = refl
after_alike (set_flag pair value) rest = refl
after_alike (report id) rest = refl

-- the declarations of a block
abbrev forget_declaration : Declaration → Declaration
forget_declaration d = record { local = forget_at d.local; statement = forget_simple d.statement; rest = forget_block d.rest }

statement_declarations_same : (s : RawSimple) (rest : RawBlock) (locals : List (At ℕ))
    → map (declaration (forget_simple s) (forget_block rest)) (map forget_at locals) ≡ map forget_declaration (map (declaration s rest) locals)
statement_declarations_same s rest [] = refl
statement_declarations_same s rest (x ∷ locals) =
    ap (λ l. forget_declaration (declaration s rest x) ∷ l) (statement_declarations_same s rest locals)

declarations_same : (b : RawBlock) → declarations (forget_block b) ≡ map forget_declaration (declarations b)
declarations_same (closed at) = refl
declarations_same (simple s rest) =
    let p = statement_declarations_same s rest (declared s) in
    let q = declarations_same rest in
    ap (λ l. map (declaration (forget_simple s) (forget_block rest)) l ++ declarations (forget_block rest)) (declared_same s)
    ∙ (λ i. p i ++ q i)
    ∙ sym (map-append forget_declaration (map (declaration s rest) (declared s)) (declarations rest))
declarations_same (leave at a rest) = declarations_same rest
declarations_same (choice a x y rest) =
    let p = declarations_same x in
    let q = declarations_same y in
    let r = declarations_same rest in
    (λ i. p i ++ q i ++ r i) ∙ sym (three_mapped forget_declaration (declarations x) (declarations y) (declarations rest))
declarations_same (loop x rest) =
    let p = declarations_same x in
    let q = declarations_same rest in
    (λ i. p i ++ q i) ∙ sym (map-append forget_declaration (declarations x) (declarations rest))

first_same : (before : List ℕ) (ds : List Declaration)
    → first_of_each before (map forget_declaration ds) ≡ map forget_declaration (first_of_each before ds)
first_same before [] = refl
first_same before (d ∷ ds) =
    by_test (list_any (λ number. number == d.local.value) before) (first_same before ds) (first_same (d.local.value ∷ before) ds)
  where
    by_test : (test : Bool) → first_of_each before (map forget_declaration ds) ≡ map forget_declaration (first_of_each before ds)
        → first_of_each (d.local.value ∷ before) (map forget_declaration ds) ≡ map forget_declaration (first_of_each (d.local.value ∷ before) ds)
        → (if test then first_of_each before (map forget_declaration ds)
        else forget_declaration d ∷ first_of_each (d.local.value ∷ before) (map forget_declaration ds))
        ≡ map forget_declaration (if test then first_of_each before ds else d ∷ first_of_each (d.local.value ∷ before) ds)
    by_test true p q = p
    by_test false p q = ap (λ l. forget_declaration d ∷ l) q

settings_alike : (b : RawBlock) → Alike (settings_in b) (settings_in (forget_block b))
settings_alike b =
    flat_alike blamed_behind blamed_behind forget_declaration (λ d. after_alike (Declaration.statement d) (Declaration.rest d))
    (first_of_each [] (declarations b))
    ∙ ap (λ l. length (flat_map blamed_behind l)) (sym (ap (first_of_each []) (declarations_same b) ∙ first_same [] (declarations b)))

pub setting_rule_alike : (raw : RawFile) → Alike (set_as_declared raw) (set_as_declared (forget raw))
setting_rule_alike raw = bodies_alike (λ m b. settings_in b.block) (λ m b. settings_alike b.block) raw
