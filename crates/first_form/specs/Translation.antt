-- What is promised of the C file of a source of the first form.
use Rattle.std.specs.Prelude.{◌≡◌, List, [], ◌∷◌, length}
use Rattle.alg_laws.specs.Operations.{Operations}
use Rattle.alg_laws.specs.AtFour.{AtFour}
use Rattle.va_tree.specs.declared.source.Source.{Source}
use Rattle.c_tree.specs.declared.short.ShortModule.{ShortModule}
use Rattle.c_tree.specs.short.Run.{LoadsRows}
use Rattle.first_form.specs.Form.{FirstForm, IsSourceOfForm}
use Rattle.first_form.specs.Residuals.{residuals}

-- The source has parts of the form, and no others, and each run of the C module loads their residuals, over every algebra.
pub record IsTranslation {V : Type 0} (o : Operations V) (valid : V → Type 0) (source : Source) (modules : List ShortModule) : Type 0 where
  pub form : FirstForm
  pub parts : IsSourceOfForm source form
  pub only : (other : FirstForm) → IsSourceOfForm source other → other ≡ form
  pub tree : ShortModule
  pub alone : modules ≡ tree ∷ []
  pub unknowns : tree.unknowns ≡ 2
  pub params : tree.params ≡ length form.params
  pub loads : AtFour o valid (LoadsRows tree (residuals form))
