-- Fields of one kind have one name where they have one number.
use Rattle.std.proofs.Common.{◌≡◌, ◌<◌, ◌^◌, ℕ, ap}
use Rattle.std.specs.Prelude.{nat_eq, decimal}
use Rattle.std.specs.Str.{bytes_eq}
use Rattle.std.proofs.lemmas.Bool.Decides.{same_from_decides, Decides-eqb, Decides-like}
use Rattle.std.proofs.lemmas.Slice.Eq.{bytes_eq-Decides}
use Rattle.std.proofs.lemmas.Fmt.{decimal_injective}

-- numbers and their texts
pub same-decimals : (i j : ℕ) → i < 2 ^ 64 → j < 2 ^ 64 → nat_eq i j ≡ bytes_eq (decimal i) (decimal j)
same-decimals i j h k =
    same_from_decides (nat_eq i j) (bytes_eq (decimal i) (decimal j)) (Decides-eqb i j)
    (Decides-like (bytes_eq (decimal i) (decimal j)) (λ e. decimal_injective i j h k e) (λ e. ap decimal e) (bytes_eq-Decides (decimal i) (decimal j)))
