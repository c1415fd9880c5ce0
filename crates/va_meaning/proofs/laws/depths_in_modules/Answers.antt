use Rattle.alg_laws.specs.AtFour.{at_four}
use Rattle.va_meaning.specs.CycleLaws.{DepthsInModules}
use Rattle.va_meaning.proofs.CycleLaws.{depths_in_modules}
use Rattle.va_meaning.proofs.laws.depths_in_modules.Goals as goal

pub returns : goal.returns
returns g c =
    let a = g.A.Algebra in
    at_four a.ops a.valid a.unit a.laws (DepthsInModules _) (λ D e v u l. depths_in_modules e v)
