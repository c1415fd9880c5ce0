-- What holds of every run on the machine, over any algebra.
use Rattle.std.specs.Prelude.{◌≡◌, ◌≤◌, ◌⊎◌, ℕ, ◌==◌, ◌&&◌, ◌||◌, Bool, true, false, if◌then◌else◌, List, [], ◌∷◌, ◌++◌, length, map, Option, Some, None, slice_get}
use Rattle.alg_laws.specs.declared.number.Number.{Number}
use Rattle.alg_laws.specs.declared.number.Reason.TheVariants.{Turns}
use Rattle.alg_laws.specs.NumberOps.{type_of}
use Rattle.alg_laws.specs.Operations.{Operations}
use Rattle.alg_laws.specs.Outcome.{Outcome, gives, ends, ◌>>=◌}
use Rattle.c_tree.specs.declared.body.CCell.{CCell}
use Rattle.c_tree.specs.declared.body.CField.TheVariants.{Temperature}
use Rattle.c_tree.specs.declared.body.CSimple.{CSimple}
use Rattle.c_tree.specs.declared.body.CSimple.TheVariants.{SetCell, SetCollapse}
use Rattle.c_tree.specs.declared.body.Level.{Level}
use Rattle.c_tree.specs.declared.body.Level.TheVariants.{Instance}
use Rattle.c_tree.specs.declared.file.AccessRow.{AccessRow}
use Rattle.c_tree.specs.declared.file.CModule.{CModule}
use Rattle.c_tree.specs.declared.load.CLoad.{CLoad}
use Rattle.c_tree.specs.declared.load.LoadFunction.{LoadFunction}
use Rattle.c_tree.specs.Blocks.{Block, done, simple, choice, loop, block_of}
use Rattle.c_machine.specs.Loading.{LoadArguments, Place, of_vector, of_matrix, place_of_target, load_product, value_at, signed}
use Rattle.c_machine.specs.Machine.{Stop, undefined, Machine, place_of, cells_of}
use Rattle.c_machine.specs.Runs.{row_for, setup_instance, HostCall, set_parameter, setup_model, evaluate, is_load, run_call, run_calls, run_to_end, last_machine, run_load_function}
use Rattle.c_tree.specs.Text.{loads_of}
use Rattle.c_tree.specs.rules.Reach.{same_level}

-- A run of some calls and then others is the second from where the first ended.
pub record RunsFollow (V : Type 0) (o : Operations V) (valid : V → Type 0) : Type 0 where
  pub machines : (n : ℕ) (m : CModule) (first second : List (HostCall V)) (s : Machine V)
      → run_calls o n m (first ++ second) s
      ≡ (run_calls o n m first s >>= λ xs. run_calls o n m second (last_machine s xs) >>= λ ys. gives (xs ++ ys))
  pub end : (n : ℕ) (m : CModule) (first second : List (HostCall V)) (s : Machine V)
      → run_to_end o n m (first ++ second) s ≡ (run_to_end o n m first s >>= run_to_end o n m second)

-- two ends are the same, but that the first may lack turns
abbrev pub SameWithTurns : {V : Type 0} → Outcome Stop V → Outcome Stop V → Type 0
SameWithTurns a b = (a ≡ b) ⊎ (a ≡ ends (undefined Turns))

-- Where each entry to a loop may make more turns, a run ends the same, but that it may end where it lacked turns. So a run that is
-- defined for n turns is the same for every greater number.
pub record TurnsSuffice (V : Type 0) (o : Operations V) (valid : V → Type 0) : Type 0 where
  pub same : (m : CModule) (calls : List (HostCall V)) (s : Machine V) (n more : ℕ) → n ≤ more
      → SameWithTurns (run_calls o n m calls s) (run_calls o more m calls s)
  pub defined : (m : CModule) (calls : List (HostCall V)) (s : Machine V) (n more : ℕ) (machines : List (Machine V)) → n ≤ more
      → run_calls o n m calls s ≡ gives machines → run_calls o more m calls s ≡ gives machines

-- the mappings are as before
pub record SameMappings {V : Type 0} (s t : Machine V) : Type 0 where
  pub node : t.node ≡ s.node
  pub resist_to : t.resist_to ≡ s.resist_to
  pub react_to : t.react_to ≡ s.react_to

-- the vector and the matrix are as before
pub record SameTargets {V : Type 0} (s t : Machine V) : Type 0 where
  pub vector : t.vector ≡ s.vector
  pub matrix : t.matrix ≡ s.matrix

-- the cells and the errors are as before
pub record SameCells {V : Type 0} (s t : Machine V) : Type 0 where
  pub model : t.model ≡ s.model
  pub instance : t.instance ≡ s.instance
  pub errors : t.errors ≡ s.errors

-- the cells have the types that they had
pub record SameTypes {V : Type 0} (s t : Machine V) : Type 0 where
  pub model : map (λ v. type_of v) t.model ≡ map (λ v. type_of v) s.model
  pub instance : map (λ v. type_of v) t.instance ≡ map (λ v. type_of v) s.instance

-- the vector and the matrix have the lengths that they had
pub record SameLengths {V : Type 0} (s t : Machine V) : Type 0 where
  pub vector : length t.vector ≡ length s.vector
  pub matrix : length t.matrix ≡ length s.matrix

-- whether a statement sets the cell at a place of a struct
abbrev pub is_place : ℕ → Option ℕ → Bool
is_place i None = false
is_place i (Some j) = j == i

-- whether a cell is the one at a place of a struct
abbrev pub is_cell_at : CModule → Level → ℕ → CCell → Bool
is_cell_at m level i cell = same_level cell.level level && is_place i (place_of m cell)

abbrev pub sets_place : CModule → Level → ℕ → CSimple → Bool
sets_place m level i (SetCell cell value) = is_cell_at m level i cell
sets_place m level i (SetCollapse pair value) = same_level Instance level && pair == i
sets_place m level i _ = false

-- whether a setting by a row writes the cell at a place
abbrev pub flag_at : CModule → Level → ℕ → Option CCell → Bool
flag_at m level i None = false
flag_at m level i (Some cell) = is_cell_at m level i cell

abbrev pub row_sets : CModule → Level → ℕ → Option AccessRow → Bool
row_sets m level i None = false
row_sets m level i (Some row) = flag_at m level i row.flag || is_cell_at m level i row.cell

-- the cell of an instance's temperature
abbrev pub temperature_cell : CCell
temperature_cell = record { level = Instance; field = Temperature }

-- whether some statement of a block, its blocks with it, passes
abbrev pub some_statement : (CSimple → Bool) → Block → Bool
some_statement test done = false
some_statement test (simple s rest) = test s || some_statement test rest
some_statement test (choice a first second rest) =
    some_statement test first || (some_statement test second || some_statement test rest)
some_statement test (loop before a turn rest) =
    some_statement test before || (some_statement test turn || some_statement test rest)

-- Each call writes only what calls of its kind may write.
pub record CallsKeep (V : Type 0) (o : Operations V) (valid : V → Type 0) : Type 0 where
  pub mappings : (n : ℕ) (m : CModule) (call : HostCall V) (s t : Machine V) → run_call o n m call s ≡ gives t → SameMappings s t
  -- settings, set-ups and evaluations write no target
  pub targets : (n : ℕ) (m : CModule) (call : HostCall V) (s t : Machine V) → is_load call ≡ false
      → run_call o n m call s ≡ gives t → SameTargets s t
  -- loads write no cell and report nothing
  pub loads : (n : ℕ) (m : CModule) (call : HostCall V) (s t : Machine V) → is_load call ≡ true
      → run_call o n m call s ≡ gives t → SameCells s t
  -- each keeps the number and the types of cells, and the lengths of the vector and the matrix
  pub types : (n : ℕ) (m : CModule) (call : HostCall V) (s t : Machine V) → run_call o n m call s ≡ gives t → SameTypes s t
  pub lengths : (n : ℕ) (m : CModule) (call : HostCall V) (s t : Machine V) → run_call o n m call s ≡ gives t → SameLengths s t
  -- settings and evaluations report nothing
  pub settings_report_nothing : (n : ℕ) (m : CModule) (instance : Bool) (id : ℕ) (v : Number V) (s t : Machine V)
      → run_call o n m (set_parameter instance id v) s ≡ gives t → t.errors ≡ s.errors
  pub evaluations_report_nothing : (n : ℕ) (m : CModule) (solution : List V) (s t : Machine V)
      → run_call o n m (evaluate solution) s ≡ gives t → t.errors ≡ s.errors
  -- the set-up of the model writes no cell of the instance
  pub setup_of_model : (n : ℕ) (m : CModule) (s t : Machine V) → run_call o n m setup_model s ≡ gives t → t.instance ≡ s.instance
  -- a setting writes only the row's flag and its cell
  pub setting : (n : ℕ) (m : CModule) (instance : Bool) (id : ℕ) (v : Number V) (s t : Machine V) (level : Level) (i : ℕ)
      → row_sets m level i (row_for instance id m.access) ≡ false → run_call o n m (set_parameter instance id v) s ≡ gives t
      → slice_get (cells_of t level) i ≡ slice_get (cells_of s level) i
  -- a set-up of the model writes only the cells that its statements set, and one of an instance besides the temperature
  pub model_cells : (n : ℕ) (m : CModule) (s t : Machine V) (level : Level) (i : ℕ)
      → some_statement (sets_place m level i) (block_of m.setup_model) ≡ false → run_call o n m setup_model s ≡ gives t
      → slice_get (cells_of t level) i ≡ slice_get (cells_of s level) i
  pub instance_cells : (n : ℕ) (m : CModule) (x : V) (s t : Machine V) (level : Level) (i : ℕ)
      → is_cell_at m level i temperature_cell ≡ false → some_statement (sets_place m level i) (block_of m.setup_instance) ≡ false
      → run_call o n m (setup_instance x) s ≡ gives t
      → slice_get (cells_of t level) i ≡ slice_get (cells_of s level) i
  -- an evaluation writes only the cells that its statements set
  pub evaluation : (n : ℕ) (m : CModule) (solution : List V) (s t : Machine V) (level : Level) (i : ℕ)
      → some_statement (sets_place m level i) (block_of m.eval) ≡ false
      → run_call o n m (evaluate solution) s ≡ gives t
      → slice_get (cells_of t level) i ≡ slice_get (cells_of s level) i

abbrev pub same_place : Place → Place → Bool
same_place (of_vector i) (of_vector j) = i == j
same_place (of_matrix i) (of_matrix j) = i == j
same_place (of_vector i) (of_matrix j) = false
same_place (of_matrix i) (of_vector j) = false

-- What a place holds after some statements of a load: in their order, the product of each that names the place is put there, added
-- or subtracted. The products are those of the machine before the load.
abbrev pub loaded_at : {V : Type 0} → Operations V → CModule → LoadArguments V → Machine V → Place → List CLoad → V
    → Outcome Stop V
loaded_at o m given s place [] old = gives old
loaded_at o m given s place (load ∷ rest) old = do
  at ← place_of_target given s load.target
  x ← load_product o m given s load
  loaded_at o m given s place rest (if same_place at place then signed o load.sign old x else old)

-- no target of the statements is mapped to a place
abbrev pub NamedNowhere : {V : Type 0} → LoadArguments V → Machine V → Place → List CLoad → Type 0
NamedNowhere given s place [] = Unit {0}
NamedNowhere given s place (load ∷ rest) =
    ((at : Place) → place_of_target given s load.target ≡ gives at → same_place at place ≡ false)
    × NamedNowhere given s place rest

-- A load leaves at each place what its statements make of the old value, and leaves as it was what none of them names.
pub record LoadsAdd (V : Type 0) (o : Operations V) (valid : V → Type 0) : Type 0 where
  pub loaded : (n : ℕ) (m : CModule) (f : LoadFunction) (given : LoadArguments V) (s t : Machine V) (place : Place) (old : V)
      → run_load_function o n m f given s ≡ gives t → value_at s place ≡ gives old
      → loaded_at o m given s place (loads_of m.loads f) old ≡ value_at t place
  pub elsewhere : (n : ℕ) (m : CModule) (f : LoadFunction) (given : LoadArguments V) (s t : Machine V) (place : Place)
      → run_load_function o n m f given s ≡ gives t → NamedNowhere given s place (loads_of m.loads f)
      → value_at t place ≡ value_at s place
