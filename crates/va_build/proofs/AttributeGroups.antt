-- From attributes that were read to their group.
use Rattle.std.specs.Prelude.{◌≡◌, List, [], ◌∷◌, ◌++◌}
use Rattle.std.proofs.Common.{ap, ◌∙◌}
use Rattle.va_tree.specs.declared.source.Attribute.{Attribute}
use Rattle.va_build.specs.SourceItems.{attribute_group}

pub group_is : (list more more' one : List Attribute) (first : Attribute) → list ≡ first ∷ more → first ∷ [] ≡ one → more ≡ more' → attribute_group list ≡ attribute_group (one ++ more')
group_is list more more' one first p q r = ap attribute_group (p ∙ ap (λ (l : List Attribute). first ∷ l) r ∙ ap (λ (l : List Attribute). l ++ more') q)
