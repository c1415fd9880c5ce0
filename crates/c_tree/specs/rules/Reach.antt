-- Where cells are set, and what a body may speak of: cells are set in the top block of a body alone, each at most once in it; no
-- statement sets `temp`; an evaluation sets no `p`, `g`, `h` and `col`; functions read and set no cells; the set-up of the model
-- names no `inst`; `init_error` stands in the two set-ups alone; of the bodies the evaluation alone reads `x`. In a load function
-- `alpha`, `x` and `dst` stand only where the function has that argument, and each cell that it reads is a double.
use Rattle.std.specs.Prelude.{ℕ, ◌&&◌, Bool, true, false, if◌then◌else◌, List, [], ◌∷◌, ◌++◌, map, Option, Some, None}
use Rattle.std.specs.List.{flat_map}
use Rattle.alg_laws.specs.declared.number.Ty.{Ty}
use Rattle.alg_laws.specs.declared.number.Ty.TheVariants.{Real}
use Rattle.c_tree.specs.declared.body.CCell.{CCell}
use Rattle.c_tree.specs.declared.body.CField.{CField}
use Rattle.c_tree.specs.declared.body.CField.TheVariants.{Param, Given, Stored, Temperature}
use Rattle.c_tree.specs.declared.body.Level.{Level}
use Rattle.c_tree.specs.declared.body.Level.TheVariants.{Instance, Model}
use Rattle.c_tree.specs.declared.load.LoadFactor.{LoadFactor}
use Rattle.c_tree.specs.declared.load.LoadFactor.TheVariants as factor
use Rattle.c_tree.specs.declared.load.LoadFunction.{LoadFunction}
use Rattle.c_tree.specs.declared.load.LoadFunction.TheVariants.{ResidualResist, ResidualReact, JacobianResist, JacobianReact, JacobianTran, SpiceRhsDc, SpiceRhsTran}
use Rattle.c_tree.specs.declared.load.LoadTarget.{LoadTarget}
use Rattle.c_tree.specs.declared.load.LoadTarget.TheVariants as target
use Rattle.c_tree.specs.SameType.{same_type}
use Rattle.c_tree.specs.Raw.{At, word_at, RawSimple, report, RawBlock, closed, simple, leave, choice, loop, RawLoad, RawLoads, RawModule, RawFile}
use Rattle.c_tree.specs.Text.{load_functions}
use Rattle.c_tree.specs.rules.Bodies.{Item, Scoped, BodyKind, a_function, setup_of_model, setup_of_instance, evaluation, RawBody, items_of, items_in, atoms_of, unknown_of, set_cells, set_flags, of_statement, repeated, in_modules, in_bodies}
use Rattle.c_tree.specs.rules.Fields.{cells_in, same_field, instance_type, factors_of}

-- the words of cells, and those of collapse flags
abbrev pub words_of_cells : List (At CCell) → List ℕ
words_of_cells = map (λ cell. word_at cell)

abbrev pub words_of_flags : List (At ℕ) → List ℕ
words_of_flags = map (λ pair. word_at pair)

abbrev pub cells_set_in : RawBlock → List (At CCell)
cells_set_in block = flat_map (of_statement set_cells) (items_in block)

abbrev pub flags_set_in : RawBlock → List (At ℕ)
flags_set_in block = flat_map (of_statement set_flags) (items_in block)

-- the words of what a block sets, its blocks with it
abbrev pub words_set_in : RawBlock → List ℕ
words_set_in block = words_of_cells (cells_set_in block) ++ words_of_flags (flags_set_in block)

-- the words of what is set in blocks that stand in a top block
abbrev pub set_deeper : RawBlock → List ℕ
set_deeper (closed at) = []
set_deeper (simple s rest) = set_deeper rest
set_deeper (leave at a rest) = set_deeper rest
set_deeper (choice a x y rest) = words_set_in x ++ words_set_in y ++ set_deeper rest
set_deeper (loop x rest) = words_set_in x ++ set_deeper rest

abbrev pub same_level : Level → Level → Bool
same_level Instance Instance = true
same_level Model Model = true
same_level Instance Model = false
same_level Model Instance = false

abbrev pub same_cell : CCell → CCell → Bool
same_cell a b = same_level a.level b.level && same_field a.field b.field

-- the words at which a cell stands again among some
abbrev pub set_again : CCell → List (At CCell) → List ℕ
set_again cell [] = []
set_again cell (c ∷ rest) = if same_cell c.value cell then word_at c ∷ set_again cell rest else set_again cell rest

abbrev pub cells_twice : List (At CCell) → List ℕ
cells_twice [] = []
cells_twice (c ∷ rest) = set_again c.value rest ++ cells_twice rest

-- the same of collapse flags, whose words stand two tokens further
abbrev pub flags_twice : List (At ℕ) → List ℕ
flags_twice flags = repeated (map (λ pair. record { at = word_at pair; value = pair.value }) flags)

-- the direct statements of a block
abbrev pub direct : RawBlock → List RawSimple
direct (closed at) = []
direct (simple s rest) = s ∷ direct rest
direct (leave at a rest) = direct rest
direct (choice a x y rest) = direct rest
direct (loop x rest) = direct rest

abbrev pub set_twice : RawBlock → List ℕ
set_twice block = cells_twice (flat_map set_cells (direct block)) ++ flags_twice (flat_map set_flags (direct block))

-- the words of the cells whose field is of a certain kind
abbrev pub of_fields : (CField → Bool) → List (At CCell) → List ℕ
of_fields test [] = []
of_fields test (c ∷ rest) = if test c.value.field then word_at c ∷ of_fields test rest else of_fields test rest

abbrev pub is_temperature : CField → Bool
is_temperature Temperature = true
is_temperature _ = false

-- what an evaluation leaves to the set-ups
abbrev pub is_set_up : CField → Bool
is_set_up (Param i) = true
is_set_up (Given i) = true
is_set_up (Stored i) = true
is_set_up _ = false

-- where a body names `inst`, but for `x`
abbrev pub of_instance : At CCell → List ℕ
of_instance cell = by_level cell.value.level
  where
    by_level : Level → List ℕ
    by_level Instance = cell.at ∷ []
    by_level Model = []

-- where `x [ inst -> node [ N ] ]` stands in an item
abbrev pub unknowns_of : Item → List (At ℕ)
unknowns_of item = flat_map unknown_of (atoms_of item)

-- where `x` stands, and the `inst` behind it
abbrev pub solution_tokens : Item → List ℕ
solution_tokens item = map (λ x. At.at x) (unknowns_of item)

abbrev pub solution_instances : Item → List ℕ
solution_instances item = map (λ x. word_at x) (unknowns_of item)

-- where `init_error` stands
abbrev pub report_tokens : RawSimple → List ℕ
report_tokens (report id) = id.at ∷ []
report_tokens _ = []

abbrev pub reports_of : Item → List ℕ
reports_of = of_statement report_tokens

abbrev pub flags_of : Item → List (At ℕ)
flags_of = of_statement set_flags

-- what an item of a body of each kind may not speak of
abbrev pub out_of_reach : BodyKind → Scoped → List ℕ
out_of_reach (a_function j) s =
    words_of_cells (cells_in s) ++ words_of_flags (flags_of s.item) ++ solution_tokens s.item ++ reports_of s.item
out_of_reach setup_of_model s =
    flat_map of_instance (cells_in s) ++ map (λ pair. At.at pair) (flags_of s.item) ++ solution_tokens s.item
    ++ solution_instances s.item
out_of_reach setup_of_instance s = solution_tokens s.item
out_of_reach evaluation s =
    of_fields is_set_up (of_statement set_cells s.item) ++ words_of_flags (flags_of s.item) ++ reports_of s.item

abbrev pub cells_of_body : RawModule → RawBody → List ℕ
cells_of_body m b =
    set_deeper b.block ++ set_twice b.block ++ of_fields is_temperature (cells_set_in b.block)
    ++ flat_map (out_of_reach b.kind) (items_of b)

-- the arguments that a load function has
abbrev pub has_dst : LoadFunction → Bool
has_dst ResidualResist = true
has_dst ResidualReact = true
has_dst SpiceRhsDc = true
has_dst SpiceRhsTran = true
has_dst _ = false

abbrev pub has_alpha : LoadFunction → Bool
has_alpha JacobianReact = true
has_alpha JacobianTran = true
has_alpha SpiceRhsTran = true
has_alpha _ = false

abbrev pub has_solution : LoadFunction → Bool
has_solution SpiceRhsDc = true
has_solution SpiceRhsTran = true
has_solution _ = false

-- a token that may stand only where a test holds
abbrev pub only_where : Bool → ℕ → List ℕ
only_where test at = if test then [] else at ∷ []

abbrev pub target_reached : LoadFunction → At LoadTarget → List ℕ
target_reached f t = by_target t.value
  where
    by_target : LoadTarget → List ℕ
    by_target (target.Node i) = only_where (has_dst f) t.at
    by_target _ = []

abbrev pub double_or_missing : Option Ty → ℕ → List ℕ
double_or_missing None at = []
double_or_missing (Some ty) at = only_where (same_type ty Real) at

abbrev pub factor_reached : RawModule → LoadFunction → At LoadFactor → List ℕ
factor_reached m f t = by_factor t.value
  where
    by_factor : LoadFactor → List ℕ
    by_factor factor.Alpha = only_where (has_alpha f) t.at
    by_factor (factor.Cell field) = double_or_missing (instance_type m field) (word_at t)
    by_factor (factor.Solution i) = only_where (has_solution f) t.at

abbrev pub load_reached : RawModule → LoadFunction → RawLoad → List ℕ
load_reached m f load = target_reached f load.target ++ flat_map (factor_reached m f) (factors_of load)

-- the statements of a load function
abbrev pub raw_loads : RawLoads → LoadFunction → List RawLoad
raw_loads loads ResidualResist = loads.residual_resist
raw_loads loads ResidualReact = loads.residual_react
raw_loads loads JacobianResist = loads.jacobian_resist
raw_loads loads JacobianReact = loads.jacobian_react
raw_loads loads JacobianTran = loads.jacobian_tran
raw_loads loads SpiceRhsDc = loads.spice_rhs_dc
raw_loads loads SpiceRhsTran = loads.spice_rhs_tran

abbrev pub loads_reached : ℕ → RawModule → List ℕ
loads_reached k m = flat_map (λ f. flat_map (load_reached m f) (raw_loads m.loads f)) load_functions

abbrev pub cells_in_reach : RawFile → List ℕ
cells_in_reach raw = in_bodies cells_of_body raw ++ in_modules loads_reached raw
