-- The C file of a source from the port p to the reference node, whose flow is the power `n` of V(p), by a function with a loop. The
-- degree n is an integer parameter of the model, and 2 where it isn't given.
use Rattle.std.specs.Prelude.{◌++◌, ℕ, true, List, [], ◌∷◌, codes}
use Rattle.alg_laws.specs.declared.number.Ty.TheVariants.{Integer, Real}
use Rattle.c_tree.specs.declared.body.CAtom.TheVariants.{Argument, Unknown}
use Rattle.c_tree.specs.declared.body.CCallee.TheVariants.{Function}
use Rattle.c_tree.specs.declared.body.CField.TheVariants.{Param, Resist, React, EntryResist}
use Rattle.c_tree.specs.declared.body.COperator.TheVariants.{Plus, Minus, Times, Less, Same as Equals}
use Rattle.c_tree.specs.declared.body.CRight.TheVariants.{Same, ToReal, Call, Binary}
use Rattle.c_tree.specs.declared.body.CSimple.TheVariants.{Join, Head}
use Rattle.c_tree.specs.declared.body.CStatement.{CStatement}
use Rattle.c_tree.specs.declared.body.CStatement.TheVariants.{Simple, If, For}
use Rattle.c_tree.specs.declared.file.CFile.{CFile}
use Rattle.c_tree.specs.declared.file.CFunction.{CFunction}
use Rattle.c_tree.specs.declared.file.CModule.{CModule}
use Rattle.c_tree.specs.declared.load.CLoads.{CLoads}
use Rattle.c_tree.specs.declared.table.ParamKind.TheVariants.{Model}
use Rattle.c_tree.specs.SampleFile.{local, whole, in_inst, in_model, double, int32}
use Rattle.c_runs.specs.Notation.{volts, resistive, of_model, nought, unity, number, int, assign, put, given_or, adds_row, loses_row, adds_entry, adds_product}

-- Argument 0, as many times as argument 1 says a factor of 1: each turn multiplies local 0 and counts in local 1. Where argument 0
-- is 0 a turn makes the product 0.
abbrev pub power : CFunction
power = record {
  result = Real;
  arguments = record { ty = Real; number = 0 } ∷ record { ty = Integer; number = 1 } ∷ [];
  body =
      Simple (Head Real 0 unity) ∷ Simple (Head Integer 1 (whole 0))
      ∷ For 1 (local 2) 9
      ∷ int 2 (Binary (local 1) Less (Argument 1))
      ∷ Simple (Join Real 3) ∷ int 4 (Binary (Argument 0) Equals nought)
      ∷ If (local 4) 1 2 ∷ assign 3 nought
      ∷ number 5 (Binary (local 0) Times (Argument 0)) ∷ assign 3 (local 5)
      ∷ int 6 (Binary (local 1) Plus (whole 1)) ∷ assign 0 (local 3) ∷ assign 1 (local 6) ∷ [];
  value = local 0;
}

-- a function without arguments, which is 1
abbrev pub constant : CFunction
constant = record { result = Real; arguments = []; body = []; value = unity }

-- the flow x ** n, and what it changes by with x: n * x ** (n - 1)
abbrev pub eval : List CStatement
eval =
    number 0 (Same (Unknown 0)) ∷ number 1 (Call (Function 0) (local 0 ∷ in_inst (Param 0) ∷ []))
    ∷ int 2 (Binary (in_inst (Param 0)) Minus (whole 1)) ∷ number 3 (Call (Function 0) (local 0 ∷ local 2 ∷ []))
    ∷ number 4 (ToReal (in_inst (Param 0))) ∷ number 5 (Binary (local 4) Times (local 3))
    ∷ number 6 (Call (Function 1) []) ∷ number 7 (Binary (local 5) Times (local 6))
    ∷ put (Resist 0) (local 1) ∷ put (React 0) nought ∷ put (EntryResist 0) (local 7) ∷ []

abbrev pub loads : CLoads
loads = record {
  residual_resist = adds_row 0 ∷ [];
  residual_react = [];
  jacobian_resist = adds_entry 0 ∷ [];
  jacobian_react = [];
  jacobian_tran = adds_entry 0 ∷ [];
  spice_rhs_dc = adds_product 0 0 0 ∷ loses_row 0 ∷ [];
  spice_rhs_tran = adds_product 0 0 0 ∷ loses_row 0 ∷ [];
}

abbrev pub power_source : CModule
power_source = record {
  name = codes "power";
  nodes = volts (codes "p") ∷ [];
  ports = 1;
  entries = resistive 0 0 ∷ [];
  collapse = [];
  params = record { names = codes "n" ∷ []; description = codes "degree"; units = []; integer = true; kind = Model } ∷ [];
  model_fields = int32 (codes "p0") ∷ int32 (codes "g0") ∷ [];
  inst_fields = int32 (codes "p0") ∷ double (codes "r0") ∷ double (codes "q0") ∷ double (codes "er0") ∷ [];
  functions = power ∷ constant ∷ [];
  access = of_model 0 ∷ [];
  setup_model = given_or Integer 0 0 (whole 2);
  setup_instance = put (Param 0) (in_model (Param 0)) ∷ [];
  eval = eval;
  loads = loads;
}

abbrev pub power_file : CFile
power_file = record { modules = power_source ∷ [] }

-- the lines that report its tables
abbrev pub power_tables : List ℕ
power_tables =
    codes "module power\nports 1\nnode 0 p \"V\" \"A\"\nentry 0 0 r\n"
    ++ codes "param 0 n integer model \"degree\" \"\"\n"
