-- The C file of a diode: a series resistance `rs` between the port a and the inner node ai, which is a where rs is 0, and between
-- ai and the port c a junction with the flow `is * (exp(V / 25m) - 1)` and the charge `1p * V`.
use Rattle.std.specs.Prelude.{◌++◌, ℕ, true, false, negsuc, List, [], ◌∷◌, Some, None, codes}
use Rattle.alg_laws.specs.declared.function.Fun1.TheVariants.{Exp}
use Rattle.alg_laws.specs.declared.number.Ty.TheVariants.{Real}
use Rattle.c_tree.specs.declared.body.CAtom.{CAtom}
use Rattle.c_tree.specs.declared.body.CAtom.TheVariants.{Unknown}
use Rattle.c_tree.specs.declared.body.CCallee.TheVariants.{Fun1}
use Rattle.c_tree.specs.declared.body.CField.TheVariants.{Param, Given, Resist, React, EntryResist, EntryReact, OpVar}
use Rattle.c_tree.specs.declared.body.COperator.TheVariants.{Minus, Plus, Times, Over, Less, Same as Equals}
use Rattle.c_tree.specs.declared.body.CRight.TheVariants.{Same, Negated, Call, Binary}
use Rattle.c_tree.specs.declared.body.CSimple.TheVariants.{Join, SetCollapse, Report}
use Rattle.c_tree.specs.declared.body.CStatement.{CStatement}
use Rattle.c_tree.specs.declared.body.CStatement.TheVariants.{Simple, If}
use Rattle.c_tree.specs.declared.file.CFile.{CFile}
use Rattle.c_tree.specs.declared.file.CModule.{CModule}
use Rattle.c_tree.specs.declared.load.CLoad.{CLoad}
use Rattle.c_tree.specs.declared.load.CLoads.{CLoads}
use Rattle.c_tree.specs.declared.table.ParamKind.TheVariants.{Inst, Model, Opvar}
use Rattle.c_tree.specs.SampleFile.{inst, local, real, in_inst, in_model, double, int32, parameter}
use Rattle.c_runs.specs.Notation.{volts, resistive, both_parts, of_model, nought, unity, number, int, assign, put, given_or, adds_row, loses_row, adds_charge, adds_entry, adds_reactive, adds_in_time, adds_product, adds_product_in_time}

-- 25m, the thermal voltage, and 1p, the capacitance
abbrev pub thermal_voltage : CAtom
thermal_voltage = real 25 (negsuc 2)

abbrev pub capacitance : CAtom
capacitance = real 1 (negsuc 11)

-- the parameter `is` of the model is 10f, and `rs` 0, where they aren't given; rs below 0 is out of its range
abbrev pub setup_model : List CStatement
setup_model =
    given_or Real 0 0 (real 1 (negsuc 13)) ++ given_or Real 1 1 nought
    ++ int 2 (Binary (local 1) Less nought) ∷ If (local 2) 1 0 ∷ Simple (Report 1) ∷ []

-- `is` of the instance is the model's where it isn't given; the pair of a and ai collapses where rs is 0
abbrev pub setup_instance : List CStatement
setup_instance =
    Simple (Join Real 0) ∷ If (in_inst (Given 0)) 1 1 ∷ assign 0 (in_inst (Param 0)) ∷ assign 0 (in_model (Param 0))
    ∷ put (Param 0) (local 0) ∷ put (Param 1) (in_model (Param 1))
    ∷ int 1 (Binary (in_model (Param 1)) Equals nought) ∷ Simple (SetCollapse 0 (local 1)) ∷ []

-- the flow of the series resistance, and what it changes by with V(a, ai): both 0 where rs is 0
abbrev pub series : List CStatement
series =
    number 3 (Binary (local 0) Minus (local 2)) ∷ Simple (Join Real 4) ∷ Simple (Join Real 5)
    ∷ int 6 (Binary (in_inst (Param 1)) Equals nought)
    ∷ If (local 6) 2 4
    ∷ assign 4 nought ∷ assign 5 nought
    ∷ number 20 (Binary (local 3) Over (in_inst (Param 1))) ∷ assign 4 (local 20)
    ∷ number 21 (Binary unity Over (in_inst (Param 1))) ∷ assign 5 (local 21)
    ∷ number 7 (Same (local 5)) ∷ number 8 (Negated (local 5)) ∷ []

-- the flow of the junction, what it changes by with V(ai, c), and its charge
abbrev pub junction : List CStatement
junction =
    number 9 (Binary (local 2) Minus (local 1)) ∷ number 10 (Binary (local 9) Over thermal_voltage)
    ∷ number 11 (Call (Fun1 Exp) (local 10 ∷ [])) ∷ number 12 (Binary (local 11) Minus unity)
    ∷ number 13 (Binary (in_inst (Param 0)) Times (local 12)) ∷ number 14 (Binary (local 13) Minus (local 4))
    ∷ number 15 (Negated (local 13)) ∷ number 16 (Binary (in_inst (Param 0)) Times (local 11))
    ∷ number 17 (Binary (local 16) Over thermal_voltage) ∷ number 18 (Negated (local 17))
    ∷ number 19 (Binary (local 7) Plus (local 17)) ∷ number 22 (Binary capacitance Times (local 9))
    ∷ number 23 (Negated (local 22)) ∷ number 24 (Negated capacitance) ∷ []

abbrev pub rows : List CStatement
rows =
    put (Resist 0) (local 4) ∷ put (React 0) nought ∷ put (Resist 1) (local 15) ∷ put (React 1) (local 23)
    ∷ put (Resist 2) (local 14) ∷ put (React 2) (local 22) ∷ []

abbrev pub entries : List CStatement
entries =
    put (EntryResist 0) (local 7) ∷ put (EntryResist 1) (local 8) ∷ put (EntryResist 2) (local 17) ∷ put (EntryResist 3) (local 18)
    ∷ put (EntryResist 4) (local 8) ∷ put (EntryResist 5) (local 18) ∷ put (EntryResist 6) (local 19)
    ∷ put (EntryReact 2) capacitance ∷ put (EntryReact 3) (local 24) ∷ put (EntryReact 5) (local 24)
    ∷ put (EntryReact 6) capacitance ∷ []

-- the operating-point variable is the flow of the junction
abbrev pub eval : List CStatement
eval =
    number 0 (Same (Unknown 0)) ∷ number 1 (Same (Unknown 1)) ∷ number 2 (Same (Unknown 2)) ∷ series ++ junction ++ rows ++ entries
    ++ put (OpVar 0) (local 13) ∷ []

abbrev pub entry_loads : List CLoad
entry_loads =
    adds_entry 0 ∷ adds_entry 1 ∷ adds_entry 2 ∷ adds_entry 3 ∷ adds_entry 4 ∷ adds_entry 5 ∷ adds_entry 6 ∷ []

abbrev pub product_loads : List CLoad
product_loads =
    adds_product 0 0 0 ∷ adds_product 0 1 2 ∷ adds_product 1 2 1 ∷ adds_product 1 3 2 ∷ adds_product 2 4 0 ∷ adds_product 2 5 1
    ∷ adds_product 2 6 2 ∷ []

abbrev pub row_losses : List CLoad
row_losses = loses_row 0 ∷ loses_row 1 ∷ loses_row 2 ∷ []

abbrev pub loads : CLoads
loads = record {
  residual_resist = adds_row 0 ∷ adds_row 1 ∷ adds_row 2 ∷ [];
  residual_react = adds_charge 0 ∷ adds_charge 1 ∷ adds_charge 2 ∷ [];
  jacobian_resist = entry_loads;
  jacobian_react = adds_reactive 2 ∷ adds_reactive 3 ∷ adds_reactive 5 ∷ adds_reactive 6 ∷ [];
  jacobian_tran = entry_loads ++ adds_in_time 2 ∷ adds_in_time 3 ∷ adds_in_time 5 ∷ adds_in_time 6 ∷ [];
  spice_rhs_dc = product_loads ++ row_losses;
  spice_rhs_tran =
      product_loads
      ++ adds_product_in_time 1 2 1 ∷ adds_product_in_time 1 3 2 ∷ adds_product_in_time 2 5 1 ∷ adds_product_in_time 2 6 2
      ∷ row_losses;
}

abbrev pub diode : CModule
diode = record {
  name = codes "diode";
  nodes = volts (codes "a") ∷ volts (codes "c") ∷ volts (codes "ai") ∷ [];
  ports = 2;
  entries =
      resistive 0 0 ∷ resistive 0 2 ∷ both_parts 1 1 ∷ both_parts 1 2 ∷ resistive 2 0 ∷ both_parts 2 1 ∷ both_parts 2 2 ∷ [];
  collapse = record { first = 0; second = Some 2 } ∷ [];
  params =
      parameter (codes "is" ∷ codes "js" ∷ []) (codes "saturation current") (codes "A") Inst
      ∷ parameter (codes "rs" ∷ []) [] (codes "Ohm") Model ∷ parameter (codes "id" ∷ []) [] (codes "A") Opvar ∷ [];
  model_fields = double (codes "p0") ∷ int32 (codes "g0") ∷ double (codes "p1") ∷ int32 (codes "g1") ∷ [];
  inst_fields =
      double (codes "p0") ∷ int32 (codes "g0") ∷ double (codes "p1")
      ∷ double (codes "r0") ∷ double (codes "q0") ∷ double (codes "r1") ∷ double (codes "q1") ∷ double (codes "r2") ∷ double (codes "q2")
      ∷ double (codes "er0") ∷ double (codes "er1") ∷ double (codes "er2") ∷ double (codes "eq2") ∷ double (codes "er3")
      ∷ double (codes "eq3") ∷ double (codes "er4") ∷ double (codes "er5") ∷ double (codes "eq5") ∷ double (codes "er6")
      ∷ double (codes "eq6") ∷ double (codes "o0") ∷ [];
  functions = [];
  access =
      record { id = 0; instance = true; flag = Some (inst (Given 0)); cell = inst (Param 0) } ∷ of_model 0 ∷ of_model 1
      ∷ record { id = 2; instance = false; flag = None; cell = inst (OpVar 0) } ∷ [];
  setup_model = setup_model;
  setup_instance = setup_instance;
  eval = eval;
  loads = loads;
}

abbrev pub diode_file : CFile
diode_file = record { modules = diode ∷ [] }

-- the lines that report its tables
abbrev pub diode_tables : List ℕ
diode_tables =
    codes "module diode\nports 2\nnode 0 a \"V\" \"A\"\nnode 1 c \"V\" \"A\"\nnode 2 ai \"V\" \"A\"\n"
    ++ codes "entry 0 0 r\nentry 0 2 r\nentry 1 1 rx\nentry 1 2 rx\nentry 2 0 r\nentry 2 1 rx\n"
    ++ codes "entry 2 2 rx\ncollapse 0 2\nparam 0 is real instance \"saturation current\" \"A\"\n"
    ++ codes "alias 0 js\nparam 1 rs real model \"\" \"Ohm\"\nopvar 2 id real \"\" \"A\"\n"
