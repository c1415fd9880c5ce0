-- The types of a body that the program keeps.
use Rattle.std.proofs.Common.{refl, sym, subst}
use Rattle.std.specs.Prelude.{nat_eq}
use Rattle.indexmap.specs.IndexMap.{get}
use Rattle.c_tree.specs.Raw.{RawModule}
use Rattle.c_tree.specs.rules.Bodies.{RawBody}
use Rattle.c_raw.specs.Views.{module_view}
use Rattle.c_form.specs.Bodies.{body_view}
use Rattle.c_form.specs.FieldTypes.{HasTypes}
use Rattle.c_form.specs.Uses.{HasArguments}
use Rattle.c_form_types.specs.declared.atom_types.BodyTypes.{BodyTypes}
use Rattle.c_form_types.specs.Places.{AreTypes}

-- the types of a body are those of its own module and of itself
pub own-types : (types : BodyTypes) (m : RawModule) (b : RawBody) → AreTypes types m b → AreTypes types (module_view types.tree.now) (body_view types.body)
own-types types m b t = record {
  tree = refl;
  body = refl;
  cells = subst (HasTypes types.cells.now) (sym t.tree) t.cells;
  arguments = subst (HasArguments (get nat_eq types.arguments)) (sym t.body) t.arguments;
}
