-- The C file of an inductor, `V(a, c) <+ ddt(l * I(a, c))`. Its flow is an unknown, whose row is V(a, c) less the potential that is
-- contributed; the inductance is a parameter of the model, and 1u where it isn't given.
use Rattle.std.specs.Prelude.{◌++◌, ℕ, negsuc, List, [], ◌∷◌, codes}
use Rattle.alg_laws.specs.declared.number.Ty.TheVariants.{Real}
use Rattle.c_tree.specs.declared.body.CAtom.TheVariants.{Unknown}
use Rattle.c_tree.specs.declared.body.CField.TheVariants.{Param, Resist, React, EntryResist, EntryReact}
use Rattle.c_tree.specs.declared.body.COperator.TheVariants.{Minus, Times}
use Rattle.c_tree.specs.declared.body.CRight.TheVariants.{Same, Negated, Binary}
use Rattle.c_tree.specs.declared.body.CStatement.{CStatement}
use Rattle.c_tree.specs.declared.file.CFile.{CFile}
use Rattle.c_tree.specs.declared.file.CModule.{CModule}
use Rattle.c_tree.specs.declared.load.CLoad.{CLoad}
use Rattle.c_tree.specs.declared.load.CLoads.{CLoads}
use Rattle.c_tree.specs.declared.table.ParamKind.TheVariants.{Model}
use Rattle.c_tree.specs.SampleFile.{local, real, in_inst, in_model, double, int32, node, parameter}
use Rattle.c_runs.specs.Notation.{volts, resistive, reactive, of_model, nought, unity, number, put, given_or, adds_row, loses_row, adds_charge, adds_entry, adds_reactive, adds_in_time, adds_product, adds_product_in_time}

-- the flow leaves a and enters c; the flux l * I(a, c) is differentiated by time
abbrev pub eval : List CStatement
eval =
    number 0 (Same (Unknown 0)) ∷ number 1 (Same (Unknown 1)) ∷ number 2 (Same (Unknown 2))
    ∷ number 3 (Binary (local 0) Minus (local 1)) ∷ number 4 (Negated (local 2))
    ∷ number 5 (Binary (in_inst (Param 0)) Times (local 2)) ∷ number 6 (Negated (local 5))
    ∷ number 7 (Negated unity) ∷ number 8 (Negated (in_inst (Param 0)))
    ∷ put (Resist 0) (local 2) ∷ put (React 0) nought ∷ put (Resist 1) (local 4) ∷ put (React 1) nought
    ∷ put (Resist 2) (local 3) ∷ put (React 2) (local 6)
    ∷ put (EntryResist 0) unity ∷ put (EntryResist 1) (local 7) ∷ put (EntryResist 2) unity ∷ put (EntryResist 3) (local 7)
    ∷ put (EntryReact 4) (local 8) ∷ []

abbrev pub entry_loads : List CLoad
entry_loads = adds_entry 0 ∷ adds_entry 1 ∷ adds_entry 2 ∷ adds_entry 3 ∷ []

abbrev pub product_loads : List CLoad
product_loads = adds_product 0 0 2 ∷ adds_product 1 1 2 ∷ adds_product 2 2 0 ∷ adds_product 2 3 1 ∷ []

abbrev pub row_losses : List CLoad
row_losses = loses_row 0 ∷ loses_row 1 ∷ loses_row 2 ∷ []

abbrev pub loads : CLoads
loads = record {
  residual_resist = adds_row 0 ∷ adds_row 1 ∷ adds_row 2 ∷ [];
  residual_react = adds_charge 2 ∷ [];
  jacobian_resist = entry_loads;
  jacobian_react = adds_reactive 4 ∷ [];
  jacobian_tran = entry_loads ++ adds_in_time 4 ∷ [];
  spice_rhs_dc = product_loads ++ row_losses;
  spice_rhs_tran = product_loads ++ adds_product_in_time 2 4 2 ∷ row_losses;
}

abbrev pub inductor : CModule
inductor = record {
  name = codes "inductor";
  nodes = volts (codes "a") ∷ volts (codes "c") ∷ node (codes "flow(a,c)") (codes "A") (codes "V") 1 ∷ [];
  ports = 2;
  entries = resistive 0 2 ∷ resistive 1 2 ∷ resistive 2 0 ∷ resistive 2 1 ∷ reactive 2 2 ∷ [];
  collapse = [];
  params = parameter (codes "l" ∷ []) [] (codes "H") Model ∷ [];
  model_fields = double (codes "p0") ∷ int32 (codes "g0") ∷ [];
  inst_fields =
      double (codes "p0")
      ∷ double (codes "r0") ∷ double (codes "q0") ∷ double (codes "r1") ∷ double (codes "q1") ∷ double (codes "r2") ∷ double (codes "q2")
      ∷ double (codes "er0") ∷ double (codes "er1") ∷ double (codes "er2") ∷ double (codes "er3") ∷ double (codes "eq4") ∷ [];
  functions = [];
  access = of_model 0 ∷ [];
  setup_model = given_or Real 0 0 (real 1 (negsuc 5));
  setup_instance = put (Param 0) (in_model (Param 0)) ∷ [];
  eval = eval;
  loads = loads;
}

abbrev pub inductor_file : CFile
inductor_file = record { modules = inductor ∷ [] }

-- the lines that report its tables
abbrev pub inductor_tables : List ℕ
inductor_tables =
    codes "module inductor\nports 2\nnode 0 a \"V\" \"A\"\nnode 1 c \"V\" \"A\"\n"
    ++ codes "node 2 flow(a,c) \"A\" \"V\"\nentry 0 2 r\nentry 1 2 r\nentry 2 0 r\nentry 2 1 r\n"
    ++ codes "entry 2 2 x\nparam 0 l real model \"\" \"H\"\n"
