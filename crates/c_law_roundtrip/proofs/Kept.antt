-- What a file keeps of a raw tree but for places: parts of which nothing else is lost.
use Rattle.std.proofs.Common.{◌≡◌, List, [], ◌∷◌, refl, ap, Option, Some, None}
use Rattle.std.specs.Prelude.{map}
use Rattle.c_tree.specs.declared.file.CArgument.{CArgument}
use Rattle.c_tree.specs.declared.body.CCell.{CCell}
use Rattle.c_tree.specs.FileOf as given
use Rattle.c_tree.specs.Raw.{At, RawRight, same, negated, contrary, to_real, to_integer, call, binary, RawSimple, constant, join, head, assign, set_cell, set_flag, report, RawArgument, RawAccess, RawLoad, RawLoads, RawPair}
use Rattle.c_tree.specs.RawOf.{at_0, raw_right, raw_simple, raw_flag, raw_access, raw_load, loads_raw, raw_pair}
use Rattle.c_law_form_ignores_places.specs.Forget.{forget_at, forget_right, forget_simple, forget_argument, forget_flag, forget_access, forget_load, forget_loads, forget_pair}

-- the same of each element of a list
pub all_kept : {R F : Type 0} (forget_one : R → R) (raw_one : F → R) (one_of : R → F) → ((r : R) → forget_one r ≡ raw_one (one_of r)) → (rs : List R)
    → map forget_one rs ≡ map raw_one (map one_of rs)
all_kept forget_one raw_one one_of kept [] = refl
all_kept forget_one raw_one one_of kept (r ∷ rs) = λ i. kept r i ∷ all_kept forget_one raw_one one_of kept rs i

pub places_kept : {T : Type 0} (list : List (At T)) → map forget_at list ≡ map at_0 (map (λ (a : At T). a.value) list)
places_kept {T} list = all_kept forget_at at_0 (λ (a : At T). a.value) (λ a. refl) list

pub right_kept : (r : RawRight) → forget_right r ≡ raw_right (given.right_of r)
right_kept (same a) = refl
right_kept (negated a) = refl
right_kept (contrary a) = refl
right_kept (to_real a) = refl
right_kept (to_integer a) = refl
right_kept (call f args) = ap (call f) (places_kept args)
right_kept (binary a op b) = refl

pub simple_kept : (s : RawSimple) → forget_simple s ≡ raw_simple (given.simple_of s)
simple_kept (constant ty local side) = ap (λ r. constant ty (forget_at local) (at_0 r)) (right_kept side.value)
simple_kept (join ty local) = refl
simple_kept (head ty local first) = refl
simple_kept (assign local value) = refl
simple_kept (set_cell cell value) = refl
simple_kept (set_flag pair value) = refl
simple_kept (report id) = refl

abbrev pub raw_argument : CArgument → RawArgument
raw_argument a = record { ty = a.ty; number = at_0 a.number }

abbrev pub argument_of : RawArgument → CArgument
argument_of a = record { ty = a.ty; number = a.number.value }

pub arguments_kept : (list : List RawArgument) → map forget_argument list ≡ map raw_argument (map argument_of list)
arguments_kept list = all_kept forget_argument raw_argument argument_of (λ a. refl) list

flag_kept : (flag : Option (At CCell)) → forget_flag flag ≡ raw_flag (given.flag_of flag)
flag_kept None = refl
flag_kept (Some cell) = refl

access_kept : (row : RawAccess) → forget_access row ≡ raw_access (given.access_row row)
access_kept row = ap (λ flag. let r : RawAccess = record { id = forget_at row.id; instance = row.instance; flag = flag; cell = forget_at row.cell } in r) (flag_kept row.flag)

pub rows_kept : (rows : List RawAccess) → map forget_access rows ≡ map raw_access (map given.access_row rows)
rows_kept rows = all_kept forget_access raw_access given.access_row access_kept rows

load_kept : (load : RawLoad) → forget_load load ≡ raw_load (given.load_of load)
load_kept load =
    ap (λ more. let l : RawLoad = record { target = forget_at load.target; sign = load.sign; first = forget_at load.first; more = more } in l) (places_kept load.more)

list_kept : (list : List RawLoad) → map forget_load list ≡ map raw_load (map given.load_of list)
list_kept list = all_kept forget_load raw_load given.load_of load_kept list

pub loads_kept : (loads : RawLoads) → forget_loads loads ≡ loads_raw (given.loads_of_raw loads)
loads_kept loads =
    λ i. (let l : RawLoads = record {
      residual_resist = list_kept loads.residual_resist i;
      residual_react = list_kept loads.residual_react i;
      jacobian_resist = list_kept loads.jacobian_resist i;
      jacobian_react = list_kept loads.jacobian_react i;
      jacobian_tran = list_kept loads.jacobian_tran i;
      spice_rhs_dc = list_kept loads.spice_rhs_dc i;
      spice_rhs_tran = list_kept loads.spice_rhs_tran i;
    } in l)

pub pairs_kept : (pairs : List RawPair) → map forget_pair pairs ≡ map raw_pair (map given.pair_row pairs)
pairs_kept pairs = all_kept forget_pair raw_pair given.pair_row (λ p. refl) pairs
