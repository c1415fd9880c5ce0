-- How load functions run on the machine, over any algebra. The arguments that a load function has are those of its signature.
use Rattle.std.specs.Prelude.{ℕ, Bool, List, [], ◌∷◌, Option, slice_get, set}
use Rattle.alg_laws.specs.declared.number.Number.{Number}
use Rattle.alg_laws.specs.declared.number.Number.TheVariants.{Real, Int}
use Rattle.alg_laws.specs.Operations.{Operations}
use Rattle.alg_laws.specs.Outcome.{Outcome, gives, ends, ◌>>=◌}
use Rattle.c_tree.specs.declared.body.Level.TheVariants.{Instance}
use Rattle.c_tree.specs.declared.file.CModule.{CModule}
use Rattle.c_tree.specs.declared.load.CLoad.{CLoad}
use Rattle.c_tree.specs.declared.load.LoadFactor.{LoadFactor}
use Rattle.c_tree.specs.declared.load.LoadFactor.TheVariants as factor
use Rattle.c_tree.specs.declared.load.LoadSign.{LoadSign}
use Rattle.c_tree.specs.declared.load.LoadSign.TheVariants.{Put, Add, Subtract}
use Rattle.c_tree.specs.declared.load.LoadTarget.{LoadTarget}
use Rattle.c_tree.specs.declared.load.LoadTarget.TheVariants as target
use Rattle.c_machine.specs.Machine.{Stop, stuck, found, only_if, Machine, read_cell, at_place}

-- the arguments of a load function behind the instance and the model
pub record LoadArguments (V : Type 0) : Type 0 where
  pub has_dst : Bool
  pub alpha : Option V
  pub solution : Option (List V)

-- a target: whether it is in the vector or the matrix, and its place there
pub data Place : Type 0 where
  of_vector : ℕ → Place
  of_matrix : ℕ → Place

-- a cell that a load reads is a real
abbrev pub as_real : {V : Type 0} → Number V → Outcome Stop V
as_real (Real x) = gives x
as_real (Int i) = ends stuck

abbrev pub place_of_target : {V : Type 0} → LoadArguments V → Machine V → LoadTarget → Outcome Stop Place
place_of_target given s (target.Node i) = only_if given.has_dst (do
  place ← found (slice_get s.node i)
  gives (of_vector place))
place_of_target given s (target.EntryResist e) = do
  place ← found (slice_get s.resist_to e)
  gives (of_matrix place)
place_of_target given s (target.EntryReact e) = do
  place ← found (slice_get s.react_to e)
  gives (of_matrix place)

abbrev pub value_at : {V : Type 0} → Machine V → Place → Outcome Stop V
value_at s (of_vector i) = found (slice_get s.vector i)
value_at s (of_matrix i) = found (slice_get s.matrix i)

abbrev pub with_value_at : {V : Type 0} → Machine V → Place → V → Machine V
with_value_at s (of_vector i) x = record s { vector = set s.vector i x }
with_value_at s (of_matrix i) x = record s { matrix = set s.matrix i x }

module _ {V : Type 0} (o : Operations V) where
  abbrev pub factor_value : CModule → LoadArguments V → Machine V → LoadFactor → Outcome Stop V
  factor_value m given s factor.Alpha = found given.alpha
  factor_value m given s (factor.Cell field) = do
    v ← read_cell m s (record { level = Instance; field = field })
    as_real v
  factor_value m given s (factor.Solution i) = do
    solution ← found given.solution
    at_place s.node solution i

  -- a product, with more factors from left to right
  abbrev pub product_with : CModule → LoadArguments V → Machine V → V → List LoadFactor → Outcome Stop V
  product_with m given s x [] = gives x
  product_with m given s x (next ∷ more) = do
    y ← factor_value m given s next
    product_with m given s (o.product x y) more

  abbrev pub load_product : CModule → LoadArguments V → Machine V → CLoad → Outcome Stop V
  load_product m given s load = do
    x ← factor_value m given s load.first
    product_with m given s x load.more

  -- what a target holds after a product
  abbrev pub signed : LoadSign → V → V → V
  signed Put old x = x
  signed Add old x = o.sum old x
  signed Subtract old x = o.sum old (o.negative x)

  abbrev pub run_load : CModule → LoadArguments V → CLoad → Machine V → Outcome Stop (Machine V)
  run_load m given load s = do
    place ← place_of_target given s load.target
    x ← load_product m given s load
    old ← value_at s place
    gives (with_value_at s place (signed load.sign old x))

  -- the statements of a load function, in order
  abbrev pub run_loads : CModule → LoadArguments V → List CLoad → Machine V → Outcome Stop (Machine V)
  run_loads m given [] s = gives s
  run_loads m given (load ∷ rest) s = run_load m given load s >>= run_loads m given rest
