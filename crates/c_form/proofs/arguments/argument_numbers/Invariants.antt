use Rattle.std.proofs.Common.{◌≡◌, take}
use Rattle.std.specs.Prelude.{map}
use Rattle.c_tree.specs.Raw as raw
use Rattle.c_raw.specs.Blocks.{at_view}
use Rattle.c_raw.specs.Views.{argument_view}
use Rattle.c_form.proofs.arguments.argument_numbers.Given as goal

abbrev pub invariant-loop-argument : goal.invariant-loop-argument
invariant-loop-argument l =
    map at_view l.numbers.items ≡ map (λ argument. raw.RawArgument.number argument) (map argument_view (take l.argument-index l.list))
