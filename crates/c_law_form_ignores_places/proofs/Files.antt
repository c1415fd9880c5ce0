-- A file obeys the rules of form exactly where its own raw tree does.
use Rattle.std.specs.Prelude.{◌≡◌, ◌<◌, ℕ, ◌+◌, List, [], ◌∷◌, ◌++◌, length, map}
use Rattle.std.specs.List.{flat_map, enumerate_from}
use Rattle.std.proofs.Common.{refl, ap, sym, subst, ◌∙◌, arith}
use Rattle.c_tree.specs.FileOf.{modules_of, module_of, file_of}
use Rattle.c_tree.specs.Form.{HasForm}
use Rattle.c_tree.specs.Raw.{At, RawModule, RawDescriptor, RawFile}
use Rattle.c_tree.specs.RawOf.{at_0, raw_of}
use Rattle.c_tree.specs.Spelling.{EachHas, CanBeSpelled}
use Rattle.c_tree.specs.rules.Numbering.{wants}
use Rattle.c_law_form_ignores_places.specs.Forget.{forget}
use Rattle.c_law_form_ignores_places.specs.Laws.{HasNumbers, FormOfFiles, FormOfTrees}
use Rattle.c_law_form_ignores_places.proofs.FilesBack.{file_kept}
use Rattle.c_law_form_ignores_places.proofs.ForcedFiles.{form_forces_numbers}
use Rattle.c_law_form_ignores_places.proofs.Places.{places_do_not_matter}
use Rattle.c_law_form_ignores_places.proofs.Repeats.{Numbers, numbered_module_as, numbered_descriptor_as, numbered_as, form_follows, repeats_do_not_matter, wants_held}

-- the same raw tree with the numbers that are asked for
abbrev asked : Numbers
asked k ns = at_0 k ∷ []

asked_follows : (k : ℕ) (ns : List (At ℕ)) → flat_map (wants k) ns ≡ [] → flat_map (wants k) (asked k ns) ≡ []
asked_follows k ns h = λ i. wants_held k (at_0 k) refl i ++ []

modules_some : (k : ℕ) (modules : List RawModule)
    → EachHas (λ m. 0 < length (RawModule.numbers m)) (map (numbered_module_as asked) (enumerate_from k modules))
modules_some k [] = tt
modules_some k (m ∷ rest) = (omega arith, modules_some (k + 1) rest)

descriptors_some : (k : ℕ) (descriptors : List RawDescriptor)
    → EachHas (λ d. 0 < length (RawDescriptor.numbers d)) (map (numbered_descriptor_as asked) (enumerate_from k descriptors))
descriptors_some k [] = tt
descriptors_some k (d ∷ rest) = (omega arith, descriptors_some (k + 1) rest)

modules_kept : (k j : ℕ) (modules : List RawModule) (descriptors : List RawDescriptor)
    → modules_of (map (numbered_module_as asked) (enumerate_from k modules)) (map (numbered_descriptor_as asked) (enumerate_from j descriptors))
    ≡ modules_of modules descriptors
modules_kept k j [] descriptors = refl
modules_kept k j (m ∷ rest) [] = ap (λ l. module_of [] 0 m ∷ l) (modules_kept (k + 1) j rest [])
modules_kept k j (m ∷ rest) (d ∷ descriptors) =
    ap (λ l. module_of d.name d.num_terminals.value m ∷ l) (modules_kept (k + 1) (j + 1) rest descriptors)

file_same : (raw : RawFile) → file_of (numbered_as asked raw) ≡ file_of raw
file_same raw = λ i. record { modules = modules_kept 0 0 raw.modules raw.descriptors i }

own_form : (raw : RawFile) → CanBeSpelled (file_of raw) → HasForm raw → HasForm (raw_of (file_of raw))
own_form raw spelled h =
    let full = numbered_as asked raw in
    let form = form_follows asked asked_follows raw h in
    let once = (repeats_do_not_matter (forget full)).0 ((places_do_not_matter full).0 form) in
    let some : HasNumbers full =
    record { modules = modules_some 0 raw.modules; descriptors = descriptors_some 0 raw.descriptors } in
    let own = form_forces_numbers full (subst CanBeSpelled (sym (file_same raw)) spelled) some form ∙ ap raw_of (file_same raw) in
    subst HasForm own once

pub form_of_files : FormOfFiles
form_of_files f spelled = (
  λ o. subst (λ g. HasForm (raw_of g)) o.1 (own_form o.0 (subst CanBeSpelled (sym o.1) spelled) o.2),
  λ h. (raw_of f, file_kept f spelled, h),
)

pub form_of_trees : FormOfTrees
form_of_trees f spelled raw same =
    let own = form_of_files f spelled in
    let places = places_do_not_matter raw in
    let repeats = repeats_do_not_matter (forget raw) in (
      λ h. own.1 (subst HasForm same (repeats.0 (places.0 h))),
      λ o. places.1 (repeats.1 (subst HasForm (sym same) (own.0 o))),
    )
