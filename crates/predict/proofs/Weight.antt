-- Why a nonterminal that gives way to its row at one kind again and again comes to a kind: a number that falls.
use Rattle.std.proofs.Common.{◌≡◌, ℕ, ◌+◌, ◌*◌, ◌^◌, ◌≤◌, ◌<◌, suc, Bool, true, false, if◌then◌else◌, ◌&&◌, List, [], ◌∷◌, ◌++◌, length, Some, refl, sym, subst, arith}
use Rattle.std.proofs.Math.Nat.{pow-succ', pow-le-pow_right, one-le-pow, mul-le-mul_left}
use Rattle.predict.specs.declared.symbol.Symbol.{Symbol}
use Rattle.predict.specs.declared.symbol.Symbol.TheVariants.{Kind, Left}
use Rattle.predict.specs.Rules.{Rules}
use Rattle.predict.specs.Laws.{NoLeftRecursion, BeginsBelow, all_empty}

-- A power of the base for each nonterminal before which nothing, or only empty nonterminals, stand.
abbrev pub weight : ℕ → (ℕ → ℕ) → (ℕ → Bool) → List Symbol → ℕ
weight base rank empty [] = 0
weight base rank empty (Kind k ∷ symbols) = 0
weight base rank empty (Left left ∷ symbols) = base ^ rank left + (if empty left then weight base rank empty symbols else 0)

-- What symbols weigh before others: their own weight, and that of the others where they may all be passed.
pub record Front (base : ℕ) (rank : ℕ → ℕ) (empty : ℕ → Bool) (symbols others : List Symbol) (n : ℕ) : Type 0 where
  pub own : ℕ
  pub total : weight base rank empty (symbols ++ others) ≡ own + (if all_empty empty symbols then weight base rank empty others else 0)
  pub small : base * own ≤ length symbols * base ^ n

total_passed : (b c : Bool) (p w own other : ℕ) → b ≡ true → w ≡ own + (if c then other else 0) → p + (if b then w else 0) ≡ (p + own) + (if b && c then other else 0)
total_passed true c p w own other e h = omega (arith, h)
total_passed false c p w own other e h = cc

total_stopped : (b c : Bool) (p w other : ℕ) → b ≡ false → p + (if b then w else 0) ≡ p + (if b && c then other else 0)
total_stopped true c p w other e = cc
total_stopped false c p w other e = refl

power_below : (base r n : ℕ) → 0 < base → r < n → base * base ^ r ≤ base ^ n
power_below base r n h k = let e = pow-succ' base r in let f = pow-le-pow_right {n = base} h {i = suc r} {j = n} (omega arith) in omega (arith, e, f)

small_passed : (base p own len power : ℕ) → base * p ≤ power → base * own ≤ len * power → base * (p + own) ≤ suc len * power
small_passed base p own len power h k = omega (arith, h, k)

small_stopped : (base p len power : ℕ) → base * p ≤ power → base * p ≤ suc len * power
small_stopped base p len power h = omega (arith, h)

-- a nonterminal first, where what stands behind it weighs so
front_left : (base : ℕ) (rank : ℕ → ℕ) (empty : ℕ → Bool) → 0 < base → (left : ℕ) (symbols others : List Symbol) (n : ℕ) → rank left < n → (empty left ≡ true → Front base rank empty symbols others n) → (b : Bool) → empty left ≡ b →
    Front base rank empty (Left left ∷ symbols) others n
front_left base rank empty pos left symbols others n h rest true e =
    let f = rest e in
    record {
      own = base ^ rank left + f.own;
      total = total_passed (empty left) (all_empty empty symbols) (base ^ rank left) (weight base rank empty (symbols ++ others)) f.own (weight base rank empty others) e f.total;
      small = small_passed base (base ^ rank left) f.own (length symbols) (base ^ n) (power_below base (rank left) n pos h) f.small;
    }
front_left base rank empty pos left symbols others n h rest false e =
    record {
      own = base ^ rank left;
      total = total_stopped (empty left) (all_empty empty symbols) (base ^ rank left) (weight base rank empty (symbols ++ others)) (weight base rank empty others) e;
      small = small_stopped base (base ^ rank left) (length symbols) (base ^ n) (power_below base (rank left) n pos h);
    }

pub front_of : (base : ℕ) (rank : ℕ → ℕ) (empty : ℕ → Bool) → 0 < base → (symbols others : List Symbol) (n : ℕ) → BeginsBelow rank empty n symbols → Front base rank empty symbols others n
front_of base rank empty pos [] others n h = record { own = 0; total = omega arith; small = omega arith }
front_of base rank empty pos (Kind k ∷ symbols) others n h = record { own = 0; total = omega arith; small = omega arith }
front_of base rank empty pos (Left left ∷ symbols) others n h =
    front_left base rank empty pos left symbols others n h.0 (λ e. front_of base rank empty pos symbols others n (h.1 e)) (empty left) refl

own_below : (base own len power : ℕ) → base * own ≤ len * power → len < base → 0 < power → own < power
own_below base own len power h k pos = grind (arith, mul-le-mul_left)

less_in_all : (a b : Bool) (own power other : ℕ) → own < power → (a ≡ true → b ≡ true) → own + (if a then other else 0) < power + (if b then other else 0)
less_in_all true true own power other h k = omega arith
less_in_all true false own power other h k = let e : false ≡ true = k refl in cc
less_in_all false true own power other h k = omega arith
less_in_all false false own power other h k = omega arith

-- It falls where a nonterminal gives way to its row.
pub weight-falls : (rules : Rules) (rank : ℕ → ℕ) (empty : ℕ → Bool) (base : ℕ) → NoLeftRecursion rules rank empty → (left next row : ℕ) (symbols : List Symbol) → rules.row_at left next ≡ Some row → length (rules.symbols row) < base →
    weight base rank empty (rules.symbols row ++ symbols) < weight base rank empty (Left left ∷ symbols)
weight-falls rules rank empty base law left next row symbols h few =
    let pos : 0 < base = omega arith in
    let f = front_of base rank empty pos (rules.symbols row) symbols (rank left) (law.falls left next row h) in
    let power : 0 < base ^ rank left = one-le-pow (rank left) base pos in
    let below = own_below base f.own (length (rules.symbols row)) (base ^ rank left) f.small few power in
    let less = less_in_all (all_empty empty (rules.symbols row)) (empty left) f.own (base ^ rank left) (weight base rank empty symbols) below (law.emptied left next row h) in
    subst (λ (n : ℕ). n < weight base rank empty (Left left ∷ symbols)) (sym f.total) less
