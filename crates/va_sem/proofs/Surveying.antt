-- What walks over a module found.
use Rattle.std.specs.Prelude.{◌≡◌, ℕ, Bool, List, Option, length, flat_map}
use Rattle.std.proofs.Common.{◌∙◌}
use Rattle.alg_laws.specs.Least.{least}
use Rattle.va_tree.specs.declared.module.Item.{Item}
use Rattle.va_tree.specs.declared.module.Module.{Module}
use Rattle.va_sem.specs.declared.findings.Finding.{Finding}
use Rattle.va_sem.specs.declared.names.Meaning.{Meaning}
use Rattle.va_sem.specs.declared.names.ModuleNames.{ModuleNames}
use Rattle.va_sem.specs.Declarations.{analog_bodies}
use Rattle.va_sem.specs.Typing.{meaning_at}
use Rattle.va_sem.specs.rules.Biased.{biased_by, analysis_of}
use Rattle.va_sem.specs.rules.Values.{values_of}
use Rattle.va_sem.specs.rules.Findings.{found_by, blocks_of}

pub found_is : (names : ModuleNames) (m : Module) (M : ℕ → Option Meaning) (B : ℕ → Bool) (n : ℕ) (items : List Item) (F : List Finding)
    → ((at : ℕ) → M at ≡ meaning_at names.uses at) → n ≡ length names.vars → items ≡ m.items → ((x : ℕ) → B x ≡ least n (biased_by M (values_of (blocks_of items))) x) → F ≡ flat_map (found_by M B) (values_of (blocks_of items))
    → (let a = analysis_of names (analog_bodies m) in F ≡ flat_map (found_by a.meaning a.biased) a.values)
found_is names m M B n items F h e i b f =
    let known : (x : ℕ) → B x ≡ least (length names.vars) (biased_by (meaning_at names.uses) (values_of (analog_bodies m))) x = λ x. b x ∙ (λ k. least (e k) (biased_by (λ at. h at k) (values_of (blocks_of (i k)))) x) in
    f ∙ (λ j. flat_map (found_by (λ at. h at j) (λ x. known x j)) (values_of (blocks_of (i j))))
