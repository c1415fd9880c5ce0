use Rattle.std.specs.Prelude.{ℕ, ◌<◌, [], Contains}
use Rattle.std.proofs.Common.{arith, subst, sym}
use Rattle.std.proofs.lemmas.Option.{slice_get_within}
use Rattle.va_tree.specs.Nodes.{Node}
use Rattle.va_tree.specs.OwnTokens.{names_in_source, EachNameHasItsToken}
use Rattle.va_sem.specs.Checked.{IsOfSize}
use Rattle.va_tests.specs.LoneModule.{lone_module}
use Rattle.va_tests.proofs.sem_checked.gives_what_it_was_made_of.Goals as goal

no_node : (n : Node) → Contains [] n → ⊥
no_node n (k, within, is) = omega (arith, within)

lone_size : IsOfSize lone_module
lone_size = record { modules = omega arith; depth = λ n h. absurd (no_node n h) }

lone_tokens : EachNameHasItsToken lone_module
lone_tokens i j at p q =
    let first : i < 1 = slice_get_within (names_in_source lone_module) i at p in
    let second : j < 1 = slice_get_within (names_in_source lone_module) j at q in
    omega (arith, first, second)

pub seal-sealed-requires-clause-size : goal.seal-sealed-requires-clause-size
seal-sealed-requires-clause-size g c = subst IsOfSize (sym c.in_ok-source.ensures) lone_size

pub seal-sealed-requires-clause-tokens : goal.seal-sealed-requires-clause-tokens
seal-sealed-requires-clause-tokens g c = subst EachNameHasItsToken (sym c.in_ok-source.ensures) lone_tokens
