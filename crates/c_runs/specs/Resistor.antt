-- The C file of a resistor, `I(a, c) <+ V(a, c) / r`, whose resistance is a parameter of the model above 0, and 1 where it isn't
-- given.
use Rattle.std.specs.Prelude.{◌++◌, ℕ, List, [], ◌∷◌, codes}
use Rattle.alg_laws.specs.declared.number.Ty.TheVariants.{Real}
use Rattle.c_tree.specs.declared.body.CAtom.TheVariants.{Unknown}
use Rattle.c_tree.specs.declared.body.CField.TheVariants.{Param, Resist, React, EntryResist}
use Rattle.c_tree.specs.declared.body.COperator.TheVariants.{Minus, Over, AtMost}
use Rattle.c_tree.specs.declared.body.CRight.TheVariants.{Same, Negated, Binary}
use Rattle.c_tree.specs.declared.body.CSimple.TheVariants.{Report}
use Rattle.c_tree.specs.declared.body.CStatement.{CStatement}
use Rattle.c_tree.specs.declared.body.CStatement.TheVariants.{Simple, If}
use Rattle.c_tree.specs.declared.file.CFile.{CFile}
use Rattle.c_tree.specs.declared.file.CModule.{CModule}
use Rattle.c_tree.specs.declared.load.CLoad.{CLoad}
use Rattle.c_tree.specs.declared.load.CLoads.{CLoads}
use Rattle.c_tree.specs.declared.table.ParamKind.TheVariants.{Model}
use Rattle.c_tree.specs.SampleFile.{local, in_inst, in_model, double, int32, parameter}
use Rattle.c_runs.specs.Notation.{volts, resistive, of_model, nought, unity, number, int, put, given_or, adds_row, loses_row, adds_entry, adds_product}

-- the flow from a to c, and what it changes by with V(a, c)
abbrev pub eval : List CStatement
eval =
    number 0 (Same (Unknown 0)) ∷ number 1 (Same (Unknown 1)) ∷ number 2 (Binary (local 0) Minus (local 1))
    ∷ number 3 (Binary (local 2) Over (in_inst (Param 0))) ∷ number 4 (Negated (local 3))
    ∷ number 5 (Binary unity Over (in_inst (Param 0))) ∷ number 6 (Negated (local 5))
    ∷ put (Resist 0) (local 3) ∷ put (React 0) nought ∷ put (Resist 1) (local 4) ∷ put (React 1) nought
    ∷ put (EntryResist 0) (local 5) ∷ put (EntryResist 1) (local 6) ∷ put (EntryResist 2) (local 6) ∷ put (EntryResist 3) (local 5) ∷ []

abbrev pub entry_loads : List CLoad
entry_loads = adds_entry 0 ∷ adds_entry 1 ∷ adds_entry 2 ∷ adds_entry 3 ∷ []

abbrev pub right_side_loads : List CLoad
right_side_loads =
    adds_product 0 0 0 ∷ adds_product 0 1 1 ∷ loses_row 0 ∷ adds_product 1 2 0 ∷ adds_product 1 3 1 ∷ loses_row 1 ∷ []

abbrev pub loads : CLoads
loads = record {
  residual_resist = adds_row 0 ∷ adds_row 1 ∷ [];
  residual_react = [];
  jacobian_resist = entry_loads;
  jacobian_react = [];
  jacobian_tran = entry_loads;
  spice_rhs_dc = right_side_loads;
  spice_rhs_tran = right_side_loads;
}

abbrev pub resistor : CModule
resistor = record {
  name = codes "resistor";
  nodes = volts (codes "a") ∷ volts (codes "c") ∷ [];
  ports = 2;
  entries = resistive 0 0 ∷ resistive 0 1 ∷ resistive 1 0 ∷ resistive 1 1 ∷ [];
  collapse = [];
  params = parameter (codes "r" ∷ []) [] (codes "Ohm") Model ∷ [];
  model_fields = double (codes "p0") ∷ int32 (codes "g0") ∷ [];
  inst_fields =
      double (codes "p0") ∷ double (codes "r0") ∷ double (codes "q0") ∷ double (codes "r1") ∷ double (codes "q1")
      ∷ double (codes "er0") ∷ double (codes "er1") ∷ double (codes "er2") ∷ double (codes "er3") ∷ [];
  functions = [];
  access = of_model 0 ∷ [];
  -- a resistance of 0 or below is out of its range
  setup_model =
      given_or Real 0 0 unity ++ int 1 (Binary (local 0) AtMost nought) ∷ If (local 1) 1 0 ∷ Simple (Report 0) ∷ [];
  setup_instance = put (Param 0) (in_model (Param 0)) ∷ [];
  eval = eval;
  loads = loads;
}

abbrev pub resistor_file : CFile
resistor_file = record { modules = resistor ∷ [] }

-- the lines that report its tables
abbrev pub resistor_tables : List ℕ
resistor_tables =
    codes "module resistor\nports 2\nnode 0 a \"V\" \"A\"\nnode 1 c \"V\" \"A\"\nentry 0 0 r\n"
    ++ codes "entry 0 1 r\nentry 1 0 r\nentry 1 1 r\nparam 0 r real model \"\" \"Ohm\"\n"
