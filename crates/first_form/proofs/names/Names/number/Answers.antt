use Rattle.std.proofs.Common.{sym}
use Rattle.first_form.proofs.Named.{known, unknown, number-at}
use Rattle.first_form.proofs.names.Names.number.Goals as goal

pub returns-in_err-index : goal.returns-in_err-index
returns-in_err-index c =
    rw c.from_residual.ensures (unknown c.self.inside.set.keys c.args.self.now c.self.view_is c.args.name.now (sym c.in_err-index.ensures.found))

pub returns : goal.returns
returns c = (
  known c.self.inside.set.keys c.args.self.now c.self.view_is c.args.name.now (sym c.in_ok-index.ensures.found),
  number-at c.self.inside.set.keys c.args.self.now c.self.view_is c.args.name.now c.in_ok-index.index c.in_ok-index.ensures.index,
)
