use Rattle.std.proofs.Common.{◌≡◌, inl, refl, Bool, true, false}
use Rattle.std.specs.Prelude.{not}
use Rattle.first_form.proofs.Named.{known, unknown}
use Rattle.first_form.proofs.names.Names.add.Goals.{in-Ok-default-true, in-Ok-default-false, in-Err}
use Rattle.first_form.proofs.names.Names.add.Goals as goal

not-true : (new found : Bool) → new ≡ not found → new ≡ true → found ≡ false
not-true new true e f = cc
not-true new false e f = refl

not-false : (new found : Bool) → new ≡ not found → new ≡ false → found ≡ true
not-false new true e f = refl
not-false new false e f = cc

pub returns-clause-fresh : goal.returns-clause-fresh
returns-clause-fresh c = elim c.match-insert_full.branch [
  | in-Ok-default-true w ↦ rw w.result-is (unknown c.self.inside.set.keys c.args.self.now c.self.view_is c.args.name.now
      (not-true _ _ w.in-Ok-default-true.ensures.added w.in-Ok-default-true.field-0-1-test))
  | in-Ok-default-false w ↦ rw w.result-is tt
  | in-Err w ↦ rw w.result-is tt
]

pub returns-clause-unbuilt : goal.returns-clause-unbuilt
returns-clause-unbuilt c = elim c.match-insert_full.branch [
  | in-Ok-default-true w ↦ λ e. cc
  | in-Ok-default-false w ↦ λ e. inl (known c.self.inside.set.keys c.args.self.now c.self.view_is c.args.name.now
      (not-false _ _ w.in-Ok-default-false.ensures.added w.in-Ok-default-false.field-0-1-test))
  | in-Err w ↦ λ e. cc
]
