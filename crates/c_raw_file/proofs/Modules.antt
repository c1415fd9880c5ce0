-- A module more, with its descriptor.
use Rattle.std.proofs.Common.{◌≡◌, ◌<◌, ◌+◌, ℕ, zero, suc, List, [], ◌∷◌, ◌++◌, length, get_or, drop, refl, ap, sym, ◌∙◌, append_assoc, add-one}
use Rattle.std.specs.Prelude.{map}
use Rattle.c_tree.specs.declared.file.CModule.{CModule}
use Rattle.c_tree.specs.FileOf.{modules_of}
use Rattle.c_tree.specs.Raw as raw
use Rattle.c_raw.specs.Views.{descriptor_view, module_view}
use Rattle.c_raw.specs.declared.file.RawDescriptor.{RawDescriptor}
use Rattle.c_raw.specs.declared.file.RawModule.{RawModule}
use Rattle.c_raw.proofs.Elements.{next-is}
use Rattle.c_raw_file.specs.Parts.{module_at}

one_more : (m : raw.RawModule) (rest : List raw.RawModule) (descriptors : List raw.RawDescriptor)
    → modules_of (m ∷ rest) descriptors ≡ module_at descriptors m ∷ modules_of rest (drop 1 descriptors)
one_more m rest [] = refl
one_more m rest (d ∷ descriptors) = refl

behind : (descriptors : List RawDescriptor) (i : ℕ) → drop 1 (map descriptor_view (drop i descriptors)) ≡ map descriptor_view (drop (suc i) descriptors)
behind [] zero = refl
behind [] (suc i) = refl
behind (d ∷ descriptors) zero = refl
behind (d ∷ descriptors) (suc i) = behind descriptors i

pub next_module : (modules : List RawModule) (descriptors : List RawDescriptor) (i : ℕ) (m : RawModule) (items items' all : List CModule) (x : CModule)
    → i < length modules → m ≡ get_or modules i m
    → items ++ modules_of (map module_view (drop i modules)) (map descriptor_view (drop i descriptors)) ≡ all
    → x ≡ module_at (map descriptor_view (drop i descriptors)) (module_view m) → items' ≡ items ++ x ∷ []
    → items' ++ modules_of (map module_view (drop (i + 1) modules)) (map descriptor_view (drop (i + 1) descriptors)) ≡ all
next_module modules descriptors i m items items' all x h e known f g =
    let here : List raw.RawDescriptor = map descriptor_view (drop i descriptors) in
    let rest : List raw.RawModule = map module_view (drop (i + 1) modules) in
    let later : drop 1 here ≡ map descriptor_view (drop (i + 1) descriptors) =
    behind descriptors i ∙ ap (λ n. map descriptor_view (drop n descriptors)) (sym (add-one i)) in
    let split : modules_of (map module_view (drop i modules)) here ≡ x ∷ modules_of rest (map descriptor_view (drop (i + 1) descriptors)) =
    ap (λ l. modules_of (map module_view l) here) (next-is modules i m h e) ∙ one_more (module_view m) rest here
    ∙ ap (λ y. y ∷ modules_of rest (drop 1 here)) (sym f) ∙ ap (λ d. x ∷ modules_of rest d) later in
    ap (λ l. l ++ modules_of rest (map descriptor_view (drop (i + 1) descriptors))) g
    ∙ append_assoc items (x ∷ []) (modules_of rest (map descriptor_view (drop (i + 1) descriptors)))
    ∙ ap (λ l. items ++ l) (sym split) ∙ known
