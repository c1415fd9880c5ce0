use Rattle.std.proofs.Common.{ℕ, List, ap, ◌++◌}
use Rattle.std.specs.Prelude.{map}
use Rattle.std.specs.List.{flat_map}
use Rattle.c_tree.specs.Raw.{RawLoad}
use Rattle.c_tree.specs.rules.Fields.{load_cells}
use Rattle.c_raw.specs.Views.{load_view}
use Rattle.c_form.proofs.Blaming.{blames_as, blames_both}
use Rattle.c_form.proofs.field_rows.loads_cells.Goals as goal

pub returns : goal.returns
returns c = λ m k.
    let part : RawLoad → List ℕ = load_cells m in
    let l0 : List RawLoad = map load_view c.args.all.now.residual_resist in
    let l1 : List RawLoad = map load_view c.args.all.now.residual_react in
    let l2 : List RawLoad = map load_view c.args.all.now.jacobian_resist in
    let l3 : List RawLoad = map load_view c.args.all.now.jacobian_react in
    let l4 : List RawLoad = map load_view c.args.all.now.jacobian_tran in
    let l5 : List RawLoad = map load_view c.args.all.now.spice_rhs_dc in
    let l6 : List RawLoad = map load_view c.args.all.now.spice_rhs_tran in
    (blames_both part _ _ _ (l0 ++ l1 ++ l2 ++ l3 ++ l4 ++ l5) l6 (blames_both part _ _ _ (l0 ++ l1 ++ l2 ++ l3 ++ l4) l5 (blames_both part _ _ _ (l0 ++ l1 ++ l2 ++ l3) l4 (blames_both part _ _ _ (l0 ++ l1 ++ l2) l3 (blames_both part _ _ _ (l0 ++ l1) l2 (blames_both part _ _ _ (l0) l1 (blames_as (c.in_ok-loads.ensures m k) (ap (λ l. flat_map part (map load_view l)) c.as_list.ensures))
    (blames_as (c.in_ok-loads-2.ensures m k) (ap (λ l. flat_map part (map load_view l)) c.as_list-2.ensures)))
    (blames_as (c.in_ok-loads-3.ensures m k) (ap (λ l. flat_map part (map load_view l)) c.as_list-3.ensures)))
    (blames_as (c.in_ok-loads-4.ensures m k) (ap (λ l. flat_map part (map load_view l)) c.as_list-4.ensures)))
    (blames_as (c.in_ok-loads-5.ensures m k) (ap (λ l. flat_map part (map load_view l)) c.as_list-5.ensures)))
    (blames_as (c.in_ok-loads-6.ensures m k) (ap (λ l. flat_map part (map load_view l)) c.as_list-6.ensures)))
    (blames_as (c.in_ok-loads-7.ensures m k) (ap (λ l. flat_map part (map load_view l)) c.as_list-7.ensures)))
