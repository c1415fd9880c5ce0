-- The names of blocks, as the definition has them.
use Rattle.std.proofs.Common.{◌≡◌, ◌<◌, ◌≤◌, ◌+◌, ℕ, suc, List, [], ◌∷◌, ◌++◌, length, get_or, drop, drop-cons, refl, ap, sym, ◌∙◌, add-one, append_assoc, append-nil}
use Rattle.std.specs.Prelude.{map, flat_map}
use Rattle.std.proofs.Math.ListN.{drop_of_length-le}
use Rattle.va_tree.specs.declared.module.Declaration.{Declaration}
use Rattle.va_tree.specs.declared.module.Variable.{Variable}
use Rattle.va_sem.specs.Declarations.{VariableEntry, declared_variables, variable, type_of_word}
use Rattle.va_sem.specs.Scopes.{Declared, declared_variable, block_names, name_of}
use Rattle.alg_laws.specs.declared.number.Ty.{Ty}
use Rattle.va_scopes.specs.declared.bindings.Binding.{Binding}
use Rattle.va_scopes.specs.Bindings.{declared_by, name_at}
use Rattle.va_scopes.specs.Blocks.{declared_by_variable, names_of_block, block_with}

of_variables : (ty : Ty) (vs : List Variable) → map declared_variable (map (variable ty) vs) ≡ map declared_by_variable vs
of_variables ty [] = refl
of_variables ty (v ∷ vs) = ap (λ l. declared_by_variable v ∷ l) (of_variables ty vs)

map_both : (xs ys : List VariableEntry) → map declared_variable (xs ++ ys) ≡ map declared_variable xs ++ map declared_variable ys
map_both [] ys = refl
map_both (x ∷ xs) ys = ap (λ l. declared_variable x ∷ l) (map_both xs ys)

pub names_are : (ds : List Declaration) → names_of_block ds ≡ block_names (block_with ds)
names_are [] = refl
names_are (d ∷ ds) =
    (λ i. sym (of_variables (type_of_word d.ty) d.variables) i ++ names_are ds i)
    ∙ sym (map_both (declared_variables d) (flat_map declared_variables ds))

pub named_at : (bs : List Binding) → map name_at bs ≡ map name_of (map declared_by bs)
named_at [] = refl
named_at (b ∷ bs) = ap (λ l. name_at b ∷ l) (named_at bs)

-- lists that grow by one
pub pushed : (bs : List Binding) (b : Binding) → map declared_by (bs ++ b ∷ []) ≡ map declared_by bs ++ declared_by b ∷ []
pushed [] b = refl
pushed (c ∷ bs) b = ap (λ l. declared_by c ∷ l) (pushed bs b)

pub one_more : {X : Type 0} (f : X → List Declared) (done new all : List Declared) (xs : List X) (i : ℕ) (x : X) → i < length xs
    → x ≡ get_or xs i x → new ≡ done ++ f x → done ++ flat_map f (drop i xs) ≡ all → new ++ flat_map f (drop (i + 1) xs) ≡ all
one_more {X} f done new all xs i x h is e before =
    let here : drop i xs ≡ x ∷ drop (i + 1) xs = rw add-one (drop-cons xs i x h ∙ ap (λ (y : X). y ∷ drop (suc i) xs) (sym is)) in
    ap (λ l. l ++ flat_map f (drop (i + 1) xs)) e ∙ append_assoc done (f x) (flat_map f (drop (i + 1) xs))
    ∙ sym (ap (λ l. done ++ flat_map f l) here) ∙ before

pub no_more_left : {X : Type 0} (f : X → List Declared) (done all : List Declared) (xs : List X) (i : ℕ) → length xs ≤ i
    → done ++ flat_map f (drop i xs) ≡ all → done ≡ all
no_more_left f done all xs i h before =
    sym (append-nil done) ∙ ap (λ l. done ++ flat_map f l) (sym (drop_of_length-le xs h)) ∙ before

pub singly : (vs : List Variable) → flat_map (λ v. declared_by_variable v ∷ []) vs ≡ map declared_by_variable vs
singly [] = refl
singly (v ∷ vs) = ap (λ l. declared_by_variable v ∷ l) (singly vs)
