-- A list ends the blocks that are open.
use Rattle.std.proofs.Common.{◌≡◌, ◌<◌, ◌≤◌, ◌+◌, ◌-◌, ℕ, zero, suc, List, ◌∷◌, length, get_or, drop, refl, ap, add-one, arith}
use Rattle.c_raw.specs.Blocks.{ends}
use Rattle.c_raw.specs.declared.body.RawStatement.{RawStatement}
use Rattle.c_raw.specs.declared.body.RawStatement.TheVariants.{Simple, Leave, If, For, End}
use Rattle.c_form.specs.OpenBlocks.{open_behind}
use Rattle.c_raw.proofs.Elements.{next-is}

by_statement : (n : ℕ) (s : RawStatement) (rest : List RawStatement) → ends (suc n) (s ∷ rest) ≡ ends (open_behind n s) rest
by_statement n (Simple s) rest = rw add-one refl
by_statement n (Leave at test) rest = rw add-one refl
by_statement n (If test) rest =
    let more : suc (suc (suc n)) ≡ n + 3 = omega arith in
    ap (λ k. ends k rest) more
by_statement n For rest =
    let more : suc (suc n) ≡ n + 2 = omega arith in
    ap (λ k. ends k rest) more
by_statement n (End at) rest = refl

pub ends-next : (blocks next : ℕ) (list : List RawStatement) (i : ℕ) (s : RawStatement) → i < length list → s ≡ get_or list i s → 0 < blocks
    → next ≡ open_behind (blocks - 1) s → ends blocks (drop i list) ≡ ends next (drop (i + 1) list)
ends-next zero next list i s h e some n = let no : ⊥ = omega (arith, some) in absurd no
ends-next (suc blocks) next list i s h e some n =
    let lower : suc blocks - 1 ≡ blocks = omega arith in
    rw (next-is list i s h e, n, lower) (by_statement blocks s (drop (i + 1) list))

pub behind-few : (around : ℕ) (s : RawStatement) → open_behind around s ≤ around + 3
behind-few around (Simple s) = omega arith
behind-few around (Leave at test) = omega arith
behind-few around (If test) = omega arith
behind-few around For = omega arith
behind-few around (End at) = omega arith
