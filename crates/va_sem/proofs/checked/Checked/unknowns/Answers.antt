use Rattle.std.proofs.Common.{rules, arith, ◌≡◌, ◌∙◌, ap, length}
use Rattle.std.proofs.lemmas.List.{map-id}
use Rattle.va_sem.specs.Kinds.{module_unknowns}
use Rattle.va_sem.proofs.Modules.{made_for_each, kept_under, within_list}
use Rattle.va_sem.proofs.checked.Checked.unknowns.Goals as goal

pub as_many : (c : goal.After-as_list) → length c.as_list.result.now ≡ length c.self.inside.source.modules
as_many c =
    ap length c.as_list.ensures ∙ ap length c.self.invariant.unknowns
    ∙ made_for_each module_unknowns c.self.inside.source

pub bounds-as_list-m : goal.bounds-as_list-m
bounds-as_list-m c =
    within_list c.self.inside.source c.args.self.now c.as_list.result.now c.args.m (as_many c) c.self.view_is c.requires

pub offset_bounds-as_list-m : goal.offset_bounds-as_list-m
offset_bounds-as_list-m c = search (rules, arith, bounds-as_list-m c, c.as_list.type_inv)

pub returns : goal.returns
returns c =
    kept_under (λ x. x) module_unknowns c.self.inside.source c.args.self.now c.self.inside.unknowns c.as_list.result.now c.args.m c.index-as_list-m.result c.as_list-2.result.now
    (map-id c.self.inside.unknowns ∙ c.self.invariant.unknowns) c.as_list.ensures c.self.view_is c.requires c.index-as_list-m.is c.as_list-2.ensures
