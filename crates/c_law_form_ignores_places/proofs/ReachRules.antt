-- The rule on what bodies and loads may speak of blames as much in a raw tree without places.
use Rattle.std.specs.Prelude.{◌≡◌, ℕ, suc, ◌+◌, List, [], ◌∷◌, ◌++◌, length, map, Option, Some, None}
use Rattle.std.specs.List.{flat_map}
use Rattle.std.proofs.Common.{refl, ap, sym, ◌∙◌}
use Rattle.alg_laws.specs.declared.number.Ty.{Ty}
use Rattle.alg_laws.specs.declared.number.Ty.TheVariants.{Real}
use Rattle.c_tree.specs.declared.body.CCell.{CCell}
use Rattle.c_tree.specs.declared.body.Level.{Level}
use Rattle.c_tree.specs.declared.body.Level.TheVariants.{Instance, Model}
use Rattle.c_tree.specs.declared.load.LoadFactor.{LoadFactor}
use Rattle.c_tree.specs.declared.load.LoadFactor.TheVariants as factor
use Rattle.c_tree.specs.declared.load.LoadFunction.{LoadFunction}
use Rattle.c_tree.specs.declared.load.LoadFunction.TheVariants.{ResidualResist, ResidualReact, JacobianResist, JacobianReact, JacobianTran, SpiceRhsDc, SpiceRhsTran}
use Rattle.c_tree.specs.declared.load.LoadTarget.{LoadTarget}
use Rattle.c_tree.specs.declared.load.LoadTarget.TheVariants as target
use Rattle.c_tree.specs.SameType.{same_type}
use Rattle.c_tree.specs.Raw.{At, word_at, RawSimple, constant, join, head, assign, set_cell, set_flag, report, RawLoad, RawLoads, RawModule, RawFile}
use Rattle.c_tree.specs.RawOf.{at_0}
use Rattle.c_tree.specs.Text.{load_functions}
use Rattle.c_tree.specs.rules.Bodies.{Item, Scoped, BodyKind, a_function, setup_of_model, setup_of_instance, evaluation, RawBody, items_of, items_in, set_cells, of_statement, in_modules, in_bodies}
use Rattle.c_tree.specs.rules.Reach.{words_of_cells, words_of_flags, cells_set_in, set_deeper, set_twice, of_fields, is_temperature, is_set_up, of_instance, unknowns_of, solution_tokens, solution_instances, report_tokens, reports_of, flags_of, out_of_reach, cells_of_body, has_dst, has_alpha, has_solution, target_reached, double_or_missing, factor_reached, load_reached, raw_loads, loads_reached, cells_in_reach}
use Rattle.c_tree.specs.rules.Fields.{instance_type, cells_in, factors_of}
use Rattle.c_law_form_ignores_places.specs.Forget.{forget_at, forget_simple, forget_load, forget_loads, forget_module, forget}
use Rattle.c_law_form_ignores_places.proofs.Alike.{Alike, both, flat_alike, one_alike, flat_mapped}
use Rattle.c_law_form_ignores_places.proofs.FieldRules.{instance_same, cells_in_same, words_alike, deeper_alike, set_twice_alike, of_fields_alike, unknowns_same, flags_same}
use Rattle.c_law_form_ignores_places.proofs.LocalRules.{all_three}
use Rattle.c_law_form_ignores_places.proofs.Trees.{forget_item, forget_scoped, forget_body, items_in_same, items_same, set_cells_same, of_statement_same, of_statement_alike, modules_alike, bodies_alike}

report_alike : (s : RawSimple) → Alike (report_tokens s) (report_tokens (forget_simple s))
report_alike (constant ty i side) = refl
report_alike (join ty i) = refl
report_alike (head ty i first) = refl
report_alike (assign i value) = refl
report_alike (set_cell cell value) = refl
report_alike (set_flag pair value) = refl
report_alike (report id) = refl

reports_alike : (item : Item) → Alike (reports_of item) (reports_of (forget_item item))
reports_alike item = of_statement_alike report_tokens report_alike item

tokens_at : {T : Type 0} (xs : List (At T)) → Alike (map (λ x. At.at x) xs) (map (λ x. At.at x) (map forget_at xs))
tokens_at [] = refl
tokens_at (x ∷ xs) = ap (λ n. suc n) (tokens_at xs)

solution_alike : (item : Item) → Alike (solution_tokens item) (solution_tokens (forget_item item))
solution_alike item = tokens_at (unknowns_of item) ∙ ap (λ l. length (map (λ x. At.at x) l)) (sym (unknowns_same item))

instances_alike : (item : Item) → Alike (solution_instances item) (solution_instances (forget_item item))
instances_alike item = words_alike (unknowns_of item) ∙ ap (λ l. length (map (λ x. word_at x) l)) (sym (unknowns_same item))

cell_words_alike : (s : Scoped) → Alike (words_of_cells (cells_in s)) (words_of_cells (cells_in (forget_scoped s)))
cell_words_alike s = words_alike (cells_in s) ∙ ap (λ l. length (words_of_cells l)) (sym (cells_in_same s))

flag_words_alike : (item : Item) → Alike (words_of_flags (flags_of item)) (words_of_flags (flags_of (forget_item item)))
flag_words_alike item = words_alike (flags_of item) ∙ ap (λ l. length (words_of_flags l)) (sym (flags_same item))

flag_tokens_alike : (item : Item) → Alike (map (λ pair. At.at pair) (flags_of item)) (map (λ pair. At.at pair) (flags_of (forget_item item)))
flag_tokens_alike item = tokens_at (flags_of item) ∙ ap (λ l. length (map (λ pair. At.at pair) l)) (sym (flags_same item))

instance_at : (at : ℕ) (level : Level) (cell : CCell) → cell.level ≡ level
    → Alike (of_instance (record { at = at; value = cell })) (of_instance (at_0 cell))
instance_at at level cell e = by_level level cell e
  where
    by_level : (level : Level) (cell : CCell) → cell.level ≡ level → Alike (of_instance (record { at = at; value = cell })) (of_instance (at_0 cell))
    by_level Instance cell e = rw e refl
    by_level Model cell e = rw e refl

of_instance_alike : (cell : At CCell) → Alike (of_instance cell) (of_instance (forget_at cell))
of_instance_alike cell = instance_at cell.at cell.value.level cell.value refl

out_alike : (kind : BodyKind) (s : Scoped) → Alike (out_of_reach kind s) (out_of_reach kind (forget_scoped s))
out_alike (a_function j) s =
    let gone = forget_scoped s in
    both (words_of_cells (cells_in s) ++ words_of_flags (flags_of s.item) ++ solution_tokens s.item)
    (words_of_cells (cells_in gone) ++ words_of_flags (flags_of gone.item) ++ solution_tokens gone.item) (reports_of s.item) (reports_of gone.item)
    (all_three (words_of_cells (cells_in s)) (words_of_flags (flags_of s.item)) (solution_tokens s.item) (words_of_cells (cells_in gone))
    (words_of_flags (flags_of gone.item)) (solution_tokens gone.item) (cell_words_alike s) (flag_words_alike s.item) (solution_alike s.item))
    (reports_alike s.item)
out_alike setup_of_model s =
    let gone = forget_scoped s in
    let first : Alike (flat_map of_instance (cells_in s)) (flat_map of_instance (cells_in gone)) =
    flat_alike of_instance of_instance forget_at of_instance_alike (cells_in s)
    ∙ ap (λ l. length (flat_map of_instance l)) (sym (cells_in_same s)) in
    both (flat_map of_instance (cells_in s) ++ map (λ pair. At.at pair) (flags_of s.item) ++ solution_tokens s.item)
    (flat_map of_instance (cells_in gone) ++ map (λ pair. At.at pair) (flags_of gone.item) ++ solution_tokens gone.item)
    (solution_instances s.item) (solution_instances gone.item)
    (all_three (flat_map of_instance (cells_in s)) (map (λ pair. At.at pair) (flags_of s.item)) (solution_tokens s.item)
    (flat_map of_instance (cells_in gone)) (map (λ pair. At.at pair) (flags_of gone.item)) (solution_tokens gone.item) first
    (flag_tokens_alike s.item) (solution_alike s.item)) (instances_alike s.item)
out_alike setup_of_instance s = solution_alike s.item
out_alike evaluation s =
    let gone = forget_scoped s in
    let first : Alike (of_fields is_set_up (of_statement set_cells s.item)) (of_fields is_set_up (of_statement set_cells gone.item)) =
    of_fields_alike is_set_up (of_statement set_cells s.item)
    ∙ ap (λ l. length (of_fields is_set_up l)) (sym (of_statement_same set_cells set_cells_same s.item)) in
    all_three (of_fields is_set_up (of_statement set_cells s.item)) (words_of_flags (flags_of s.item)) (reports_of s.item)
    (of_fields is_set_up (of_statement set_cells gone.item)) (words_of_flags (flags_of gone.item)) (reports_of gone.item) first
    (flag_words_alike s.item) (reports_alike s.item)

body_alike : (m : RawModule) (b : RawBody) → Alike (cells_of_body m b) (cells_of_body (forget_module m) (forget_body b))
body_alike m b =
    let gone = forget_body b in
    let cells : cells_set_in gone.block ≡ map forget_at (cells_set_in b.block) =
    ap (flat_map (of_statement set_cells)) (items_in_same b.block)
    ∙ flat_mapped (of_statement set_cells) (of_statement set_cells) forget_item forget_at (of_statement_same set_cells set_cells_same) (items_in b.block) in
    let third : Alike (of_fields is_temperature (cells_set_in b.block)) (of_fields is_temperature (cells_set_in gone.block)) =
    of_fields_alike is_temperature (cells_set_in b.block) ∙ ap (λ l. length (of_fields is_temperature l)) (sym cells) in
    let fourth : Alike (flat_map (out_of_reach b.kind) (items_of b)) (flat_map (out_of_reach b.kind) (items_of gone)) =
    flat_alike (out_of_reach b.kind) (out_of_reach b.kind) forget_scoped (out_alike b.kind) (items_of b)
    ∙ ap (λ l. length (flat_map (out_of_reach b.kind) l)) (sym (items_same b)) in
    both (set_deeper b.block ++ set_twice b.block ++ of_fields is_temperature (cells_set_in b.block))
    (set_deeper gone.block ++ set_twice gone.block ++ of_fields is_temperature (cells_set_in gone.block))
    (flat_map (out_of_reach b.kind) (items_of b)) (flat_map (out_of_reach b.kind) (items_of gone))
    (all_three (set_deeper b.block) (set_twice b.block) (of_fields is_temperature (cells_set_in b.block)) (set_deeper gone.block)
    (set_twice gone.block) (of_fields is_temperature (cells_set_in gone.block)) (deeper_alike b.block) (set_twice_alike b.block) third) fourth

-- load functions
target_at : (f : LoadFunction) (at : ℕ) (t : LoadTarget) → Alike (target_reached f (record { at = at; value = t })) (target_reached f (at_0 t))
target_at f at (target.Node i) = one_alike (has_dst f) at 0
target_at f at (target.EntryResist e) = refl
target_at f at (target.EntryReact e) = refl

double_at : (ty : Option Ty) (a b : ℕ) → Alike (double_or_missing ty a) (double_or_missing ty b)
double_at None a b = refl
double_at (Some ty) a b = one_alike (same_type ty Real) a b

factor_at : (m : RawModule) (f : LoadFunction) (at : ℕ) (t : LoadFactor)
    → Alike (factor_reached m f (record { at = at; value = t })) (factor_reached (forget_module m) f (at_0 t))
factor_at m f at factor.Alpha = one_alike (has_alpha f) at 0
factor_at m f at (factor.Cell field) =
    double_at (instance_type m field) (at + 2) 2 ∙ ap (λ ty. length (double_or_missing ty 2)) (sym (instance_same m field))
factor_at m f at (factor.Solution i) = one_alike (has_solution f) at 0

load_alike : (m : RawModule) (f : LoadFunction) (load : RawLoad) → Alike (load_reached m f load) (load_reached (forget_module m) f (forget_load load))
load_alike m f load =
    both (target_reached f load.target) (target_reached f (forget_at load.target)) (flat_map (factor_reached m f) (factors_of load))
    (flat_map (factor_reached (forget_module m) f) (map forget_at (factors_of load))) (target_at f load.target.at load.target.value)
    (flat_alike (factor_reached (forget_module m) f) (factor_reached m f) forget_at (λ t. factor_at m f t.at t.value) (factors_of load))

of_function_same : (loads : RawLoads) (f : LoadFunction) → raw_loads (forget_loads loads) f ≡ map forget_load (raw_loads loads f)
of_function_same loads ResidualResist = refl
of_function_same loads ResidualReact = refl
of_function_same loads JacobianResist = refl
of_function_same loads JacobianReact = refl
of_function_same loads JacobianTran = refl
of_function_same loads SpiceRhsDc = refl
of_function_same loads SpiceRhsTran = refl

functions_alike : (m : RawModule) (functions : List LoadFunction)
    → Alike (flat_map (λ f. flat_map (load_reached m f) (raw_loads m.loads f)) functions)
    (flat_map (λ f. flat_map (load_reached (forget_module m) f) (raw_loads (forget_loads m.loads) f)) functions)
functions_alike m [] = refl
functions_alike m (f ∷ rest) =
    both (flat_map (load_reached m f) (raw_loads m.loads f)) (flat_map (load_reached (forget_module m) f) (raw_loads (forget_loads m.loads) f)) _ _
    (flat_alike (load_reached (forget_module m) f) (load_reached m f) forget_load (load_alike m f) (raw_loads m.loads f)
    ∙ ap (λ l. length (flat_map (load_reached (forget_module m) f) l)) (sym (of_function_same m.loads f))) (functions_alike m rest)

pub reach_rule_alike : (raw : RawFile) → Alike (cells_in_reach raw) (cells_in_reach (forget raw))
reach_rule_alike raw =
    both (in_bodies cells_of_body raw) (in_bodies cells_of_body (forget raw)) (in_modules loads_reached raw) (in_modules loads_reached (forget raw))
    (bodies_alike cells_of_body body_alike raw) (modules_alike loads_reached (λ k m. functions_alike m load_functions) raw)
