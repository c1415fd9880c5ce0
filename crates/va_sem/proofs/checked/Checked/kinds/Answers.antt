use Rattle.std.proofs.Common.{rules, arith, ◌≡◌, ◌∙◌, sym, ap, length, map, Some}
use Rattle.std.proofs.lemmas.List.{length-map}
use Rattle.va_sem.specs.Kinds.{module_kinds}
use Rattle.va_sem.proofs.Modules.{made_for_each, kept_under, within_list}
use Rattle.va_sem.proofs.checked.Checked.kinds.Goals as goal

pub as_many : (c : goal.After-as_list) → length c.as_list.result.now ≡ length c.self.inside.source.modules
as_many c =
    ap length c.as_list.ensures ∙ sym (length-map c.self.inside.kinds (map Some)) ∙ ap length c.self.invariant.kinds
    ∙ made_for_each module_kinds c.self.inside.source

pub bounds-as_list-m : goal.bounds-as_list-m
bounds-as_list-m c =
    within_list c.self.inside.source c.args.self.now c.as_list.result.now c.args.m (as_many c) c.self.view_is c.requires

pub offset_bounds-as_list-m : goal.offset_bounds-as_list-m
offset_bounds-as_list-m c = search (rules, arith, bounds-as_list-m c, c.as_list.type_inv)

pub returns : goal.returns
returns c =
    kept_under (map Some) module_kinds c.self.inside.source c.args.self.now c.self.inside.kinds c.as_list.result.now c.args.m c.index-as_list-m.result c.as_list-2.result.now
    c.self.invariant.kinds c.as_list.ensures c.self.view_is c.requires c.index-as_list-m.is c.as_list-2.ensures
