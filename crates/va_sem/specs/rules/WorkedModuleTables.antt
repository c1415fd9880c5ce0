-- The tables of a module that were worked out by hand.
use Rattle.std.specs.Prelude.{◌≡◌, ℕ, pos, Bool, true, false, List, [], ◌∷◌, Option, Some, None, codes, map}
use Rattle.va_base.specs.Tables.{Tables, NodeLine, EntryLine, ParameterLine, instance, model, operating_point}
use Rattle.va_tree.specs.declared.expr.Arg.{Arg}
use Rattle.va_tree.specs.declared.expr.Arg.TheVariants.{Text, Expr as Value}
use Rattle.va_tree.specs.declared.expr.Expr.{Expr, Literal}
use Rattle.va_tree.specs.declared.expr.BinaryOp.TheVariants.{Multiply}
use Rattle.va_tree.specs.declared.module.Item.{Item}
use Rattle.va_tree.specs.declared.module.ItemBody.{ItemBody}
use Rattle.va_tree.specs.declared.module.ItemBody.TheVariants.{Parameters, Alias, Variables}
use Rattle.va_tree.specs.declared.module.Module.{Module}
use Rattle.va_tree.specs.declared.module.Parameter.{Parameter}
use Rattle.va_tree.specs.declared.module.Ty.{Ty}
use Rattle.va_tree.specs.declared.module.Ty.TheVariants as written
use Rattle.va_tree.specs.declared.module.Variable.{Variable}
use Rattle.va_tree.specs.declared.name.NameAt.{NameAt}
use Rattle.va_tree.specs.declared.source.Attribute.{Attribute}
use Rattle.va_tree.specs.declared.source.AttributeGroup.{AttributeGroup}
use Rattle.va_tree.specs.declared.source.Discipline.{Discipline}
use Rattle.va_tree.specs.declared.source.DisciplineItem.TheVariants.{Binding}
use Rattle.va_tree.specs.declared.source.Nature.{Nature}
use Rattle.va_tree.specs.declared.source.NatureItem.{NatureItem}
use Rattle.va_tree.specs.declared.source.Quantity.TheVariants.{Potential, Flow}
use Rattle.va_tree.specs.declared.source.Source.{Source}
use Rattle.va_tree.specs.Statements.{Statement}
use Rattle.va_sem.specs.declared.names.BranchName.{BranchName}
use Rattle.va_sem.specs.declared.names.Meaning.TheVariants as means
use Rattle.va_sem.specs.declared.names.ModuleNames.{ModuleNames}
use Rattle.va_sem.specs.declared.names.NameUse.{NameUse}
use Rattle.va_sem.specs.declared.names.NodeName.{NodeName}
use Rattle.va_sem.specs.Lookup.{Bytes}
use Rattle.va_sem.specs.Typing.{Typing, typing_of}
use Rattle.va_sem.specs.rules.Biased.{analysis_of}
use Rattle.va_sem.specs.rules.ModuleTables.{tables_by}
use Rattle.va_sem.specs.rules.Written.{Written, Access, parameter, reads, between, ddt, contributes, begins, number}

abbrev pub at : ℕ → Bytes → NameAt
at token name = record { at = token; name = name }

-- nature name; units = "units"; endnature
abbrev pub nature : ℕ → Bytes → Bytes → Nature
nature token name units = record {
  attributes = [];
  at = token;
  name = name;
  parent = None;
  items = (let item : NatureItem = record { at = token; name = codes "units"; value = Text (at token units) } in item ∷ []);
}

-- nature name : parent; endnature
abbrev pub child : ℕ → Bytes → Bytes → Nature
child token name parent = record { attributes = []; at = token; name = name; parent = Some (at token parent); items = [] }

-- discipline electrical; potential Voltage; flow Current; enddiscipline
abbrev pub electrical : Discipline
electrical = record {
  attributes = [];
  at = 5;
  name = codes "electrical";
  items = Binding 6 Potential (at 7 (codes "Voltage")) ∷ Binding 8 Flow (at 9 (codes "Current")) ∷ [];
}

-- name = "text", or another value than a string
abbrev pub attribute : Bytes → Arg → Attribute
attribute name value = record { at = 10; name = name; value = Some value }

abbrev pub string : Bytes → Arg
string text = Text (at 10 text)

abbrev pub one : Expr
one = Literal 10 (record { mantissa = 1; power = pos 0 }) true

abbrev pub described : List Attribute → ItemBody → Item
described attributes body = record {
  attributes = (let group : AttributeGroup = record { attributes = attributes } in group ∷ []);
  body = body;
}

abbrev pub one_parameter : Bool → Option Ty → ℕ → Bytes → ItemBody
one_parameter local ty token name =
    Parameters 10 local ty (let p : Parameter = record { name = at token name; default = one; ranges = [] } in p ∷ [])

abbrev pub one_variable : Bytes → ItemBody
one_variable name =
    Variables
    (record { at = 10; ty = written.Real; variables = (let v : Variable = record { name = at 10 name; initialiser = None } in v ∷ []) })

-- parameter real w = 1;
-- (* type = "instance", desc = "size" *) parameter area = 1;
-- localparam k = 1;
-- (* type = "instance", type = 1, units = "m" *) parameter q = 1;
-- aliasparam qq = q;
-- (* desc = "a current", units = "C", units = 1 *) real x;
-- (* desc = 1 *) real y;
abbrev pub items : List Item
items =
    described [] (one_parameter false (Some written.Real) 11 (codes "w"))
    ∷ described (attribute (codes "type") (string (codes "instance")) ∷ attribute (codes "desc") (string (codes "size")) ∷ []) (one_parameter false None 12 (codes "area"))
    ∷ described [] (one_parameter true None 13 (codes "k"))
    ∷ described (attribute (codes "type") (string (codes "instance")) ∷ attribute (codes "type") (Value one) ∷ attribute (codes "units") (string (codes "m")) ∷ []) (one_parameter false None 14 (codes "q"))
    ∷ described [] (Alias 20 (at 21 (codes "qq")) (at 23 (codes "q")))
    ∷ described (attribute (codes "desc") (string (codes "a current")) ∷ attribute (codes "units") (string (codes "C")) ∷ attribute (codes "units") (Value one) ∷ []) (one_variable (codes "x"))
    ∷ described (attribute (codes "desc") (Value one) ∷ []) (one_variable (codes "y"))
    ∷ []

abbrev pub coil : Module
coil = record { attributes = []; at = 10; name = codes "coil"; ports = at 10 (codes "a") ∷ at 10 (codes "c") ∷ []; items = items }

-- the natures Voltage, and Current with the units of its parent
abbrev pub text : Source
text = record {
  natures = nature 1 (codes "Voltage") (codes "V") ∷ nature 2 (codes "Ampere") (codes "A") ∷ child 3 (codes "Current") (codes "Ampere") ∷ [];
  disciplines = electrical ∷ [];
  modules = coil ∷ [];
}

abbrev pub electrical_node : Bytes → NodeName
electrical_node name = record { name = name; discipline = 0 }

-- b is a branch from a to c, beside the unnamed ones from a to c and from c to the reference node
abbrev pub coil_names : List NameUse → ModuleNames
coil_names uses = record {
  nodes = electrical_node (codes "a") ∷ electrical_node (codes "c") ∷ [];
  ports = 2;
  branches =
      (let b : BranchName = record { plus = 0; minus = Some 1; name = Some (codes "b") } in
      let pair : BranchName = record { plus = 0; minus = Some 1; name = None } in
      let single : BranchName = record { plus = 1; minus = None; name = None } in
      b ∷ pair ∷ single ∷ []);
  params = codes "w" ∷ codes "area" ∷ codes "k" ∷ codes "q" ∷ [];
  vars = codes "x" ∷ codes "y" ∷ [];
  functions = [];
  uses = uses;
}

abbrev pub access : Bool → Access
access flow = record { branch = 0; flow = flow; names = means.Branch 0 ∷ [] }

abbrev pub to_pair : Access
to_pair = record { branch = 1; flow = false; names = means.Node 0 ∷ means.Node 1 ∷ [] }

abbrev pub to_single : Access
to_single = record { branch = 2; flow = false; names = means.Node 1 ∷ [] }

-- the module's own types: those parameters are integers that have their default's type
abbrev pub coil_types : List NameUse → Typing
coil_types uses = typing_of uses coil

abbrev pub tables_with : Written Statement → Tables
tables_with s =
    let written = s 30 in
    let uses = record { at = 21; meaning = means.Param 3 } ∷ written.uses in
    tables_by text coil (coil_names uses) (coil_types uses) (analysis_of (coil_names uses) (written.is ∷ []))

abbrev pub node : Bytes → NodeLine
node name = record { name = name; units = codes "V"; residual_units = codes "A"; is_flow = 0 }

abbrev pub flow_of : Bytes → NodeLine
flow_of name = record { name = name; units = codes "A"; residual_units = codes "V"; is_flow = 1 }

abbrev pub resistive : ℕ → ℕ → EntryLine
resistive row column = record { row = row; column = column; resistive = true; reactive = false }

abbrev pub reactive : ℕ → ℕ → EntryLine
reactive row column = record { row = row; column = column; resistive = false; reactive = true }

abbrev pub parameters : List ParameterLine
parameters =
    record { name = codes "area"; aliases = []; description = codes "size"; units = []; is_integer = true; kind = instance }
    ∷ record { name = codes "w"; aliases = []; description = []; units = []; is_integer = false; kind = model }
    ∷ record { name = codes "q"; aliases = codes "qq" ∷ []; description = []; units = codes "m"; is_integer = true; kind = model }
    ∷ record { name = codes "x"; aliases = []; description = codes "a current"; units = []; is_integer = false; kind = operating_point }
    ∷ []

abbrev pub names_of_nodes : Tables → List Bytes
names_of_nodes tables = map (λ (line : NodeLine). line.name) tables.nodes

pub record WorkedModuleTables : Type 0 where
  -- V(b) <+ w * ddt(I(b));
  pub coil : tables_with (contributes (access false) (between (parameter 0) Multiply (ddt (reads (access true)))))
      ≡ record {
        name = codes "coil";
        ports = 2;
        nodes = node (codes "a") ∷ node (codes "c") ∷ flow_of (codes "flow(b)") ∷ [];
        entries = resistive 0 2 ∷ resistive 1 2 ∷ resistive 2 0 ∷ resistive 2 1 ∷ reactive 2 2 ∷ [];
        pairs = [];
        parameters = parameters;
      }
  -- begin V(a, c) <+ 1; V(c) <+ 1; end
  pub unnamed_branches : names_of_nodes (tables_with (begins (contributes to_pair (number 1) ∷ contributes to_single (number 1) ∷ [])))
      ≡ codes "a" ∷ codes "c" ∷ codes "flow(a,c)" ∷ codes "flow(c)" ∷ []
