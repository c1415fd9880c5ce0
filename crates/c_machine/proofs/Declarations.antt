-- Where each local of a body is declared once, each declaration counts for the rule on settings.
use Rattle.std.specs.Prelude.{◌≡◌, ℕ, ◌==◌, ◌||◌, false, if◌then◌else◌, List, [], ◌∷◌, ◌++◌, map}
use Rattle.std.specs.List.{flat_map, list_any}
use Rattle.std.proofs.Common.{refl, sym, ap, ◌∙◌}
use Rattle.std.proofs.lemmas.Grind.{flat_map-append}
use Rattle.std.proofs.lemmas.List.{map-append}
use Rattle.c_tree.specs.Raw.{At, RawSimple, RawBlock, closed, simple, leave, choice, loop}
use Rattle.c_tree.specs.Spelling.{EachHas}
use Rattle.c_tree.specs.rules.Bodies.{items_in, of_statement, tokens_of, repeated}
use Rattle.c_tree.specs.rules.Locals.{declared}
use Rattle.c_tree.specs.rules.Settings.{Declaration, declaration, declarations, first_of_each, blamed_behind, settings_in}
use Rattle.c_tree.proofs.Blameless.{no_parts, flat_none, tokens_head, turned_test}

-- a declaration whose local is set as it says
abbrev pub IsKept : Declaration → Type 0
IsKept d = blamed_behind d ≡ []

abbrev local_of_declaration : Declaration → At ℕ
local_of_declaration d = d.local

locals_of_statement : (s : RawSimple) (rest : RawBlock) (locals : List (At ℕ)) → map local_of_declaration (map (declaration s rest) locals) ≡ locals
locals_of_statement s rest [] = refl
locals_of_statement s rest (x ∷ locals) = ap (λ l. x ∷ l) (locals_of_statement s rest locals)

-- the locals of a block's declarations are those that its statements declare
locals_of_block : (b : RawBlock) → map local_of_declaration (declarations b) ≡ flat_map (of_statement declared) (items_in b)
locals_of_block (closed at) = refl
locals_of_block (simple s rest) =
    map-append local_of_declaration (map (declaration s rest) (declared s)) (declarations rest)
    ∙ ap (λ l. l ++ map local_of_declaration (declarations rest)) (locals_of_statement s rest (declared s))
    ∙ ap (λ l. declared s ++ l) (locals_of_block rest)
locals_of_block (leave at a rest) = locals_of_block rest
locals_of_block (choice a x y rest) =
    let part = of_statement declared in
    let p = locals_of_block x in
    let q = locals_of_block y in
    let r = locals_of_block rest in
    map-append local_of_declaration (declarations x ++ declarations y) (declarations rest)
    ∙ ap (λ l. l ++ map local_of_declaration (declarations rest)) (map-append local_of_declaration (declarations x) (declarations y))
    ∙ (λ i. p i ++ q i ++ r i)
    ∙ sym (flat_map-append part (items_in x ++ items_in y) (items_in rest)
    ∙ ap (λ l. l ++ flat_map part (items_in rest)) (flat_map-append part (items_in x) (items_in y)))
locals_of_block (loop x rest) =
    let part = of_statement declared in
    let p = locals_of_block x in
    let q = locals_of_block rest in
    map-append local_of_declaration (declarations x) (declarations rest) ∙ (λ i. p i ++ q i)
    ∙ sym (flat_map-append part (items_in x) (items_in rest))

-- a declaration of a number that isn't among some
abbrev IsNew : List ℕ → Declaration → Type 0
IsNew before d = list_any (λ number. number == d.local.value) before ≡ false

all_new : (ds : List Declaration) → EachHas (IsNew []) ds
all_new [] = tt
all_new (d ∷ ds) = (refl, all_new ds)

still_new : (i : ℕ) (before : List ℕ) (ds : List Declaration) → EachHas (IsNew before) ds → tokens_of i (map local_of_declaration ds) ≡ []
    → EachHas (IsNew (i ∷ before)) ds
still_new i before [] h none = tt
still_new i before (d ∷ ds) h none =
    let p = tokens_head i d.local (map local_of_declaration ds) none in
    let other = turned_test d.local.value i p.0 in
    let new = h.0 in
    ((λ k. other k || new k), still_new i before ds h.1 p.1)

all_count : (before : List ℕ) (ds : List Declaration) → EachHas (IsNew before) ds → repeated (map local_of_declaration ds) ≡ []
    → first_of_each before ds ≡ ds
all_count before [] h once = refl
all_count before (d ∷ ds) h once =
    let p = no_parts (tokens_of d.local.value (map local_of_declaration ds)) (repeated (map local_of_declaration ds)) once in
    ap (λ test. if test then first_of_each before ds else d ∷ first_of_each (d.local.value ∷ before) ds) h.0
    ∙ ap (λ l. d ∷ l) (all_count (d.local.value ∷ before) ds (still_new d.local.value before ds h.1 p.0) p.1)

pub all_kept : (b : RawBlock) → repeated (flat_map (of_statement declared) (items_in b)) ≡ [] → settings_in b ≡ []
    → EachHas IsKept (declarations b)
all_kept b once h =
    let count = all_count [] (declarations b) (all_new (declarations b)) (ap repeated (locals_of_block b) ∙ once) in
    flat_none blamed_behind (declarations b) (sym (ap (flat_map blamed_behind) count) ∙ h)
