-- Modules, functions and descriptors are numbered in order from 0, and the number in each name is that of its module.
use Rattle.std.specs.Prelude.{ℕ, ◌==◌, if◌then◌else◌, List, [], ◌∷◌, ◌++◌}
use Rattle.std.specs.List.{flat_map, enumerate_from}
use Rattle.c_tree.specs.Raw.{At, RawFunction, RawModule, RawDescriptor, RawFile}
use Rattle.c_tree.specs.rules.Bodies.{in_modules}

-- a number that has to be a certain one
abbrev pub wants : ℕ → At ℕ → List ℕ
wants k number = if number.value == k then [] else number.at ∷ []

abbrev pub numbered_module : ℕ → RawModule → List ℕ
numbered_module k m =
    flat_map (wants k) m.numbers ++ flat_map (λ p. wants p.0 (RawFunction.number p.1)) (enumerate_from 0 m.functions)

abbrev pub numbered_in_order : RawFile → List ℕ
numbered_in_order raw =
    in_modules numbered_module raw
    ++ flat_map (λ p. flat_map (wants p.0) (RawDescriptor.numbers p.1)) (enumerate_from 0 raw.descriptors)
