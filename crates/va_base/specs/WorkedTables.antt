-- Tables that were worked out by hand.
use Rattle.std.specs.Prelude.{◌≡◌, ℕ, Bool, true, false, List, [], ◌∷◌, ◌++◌, Option, Some, None, codes}
use Rattle.va_base.specs.Tables.{Tables, NodeLine, EntryLine, PairLine, ParameterLine, ParameterKind, instance, model, operating_point, tables_text, node_text, pair_text}

-- a node of an electrical discipline
abbrev pub electrical : List ℕ → NodeLine
electrical name = record { name = name; units = codes "V"; residual_units = codes "A"; is_flow = 0 }

abbrev pub entry : ℕ → ℕ → Bool → Bool → EntryLine
entry row column resistive reactive = record { row = row; column = column; resistive = resistive; reactive = reactive }

abbrev pub parameter : List ℕ → List (List ℕ) → Bool → ParameterKind → ParameterLine
parameter name aliases is_integer kind =
    record { name = name; aliases = aliases; description = []; units = []; is_integer = is_integer; kind = kind }

-- a resistor of two ports and one parameter
abbrev pub resistor : Tables
resistor = record {
  name = codes "m";
  ports = 2;
  nodes = electrical (codes "a") ∷ electrical (codes "c") ∷ [];
  entries = entry 0 0 true false ∷ entry 0 1 true false ∷ entry 1 0 true false ∷ entry 1 1 true false ∷ [];
  pairs = [];
  parameters = parameter (codes "r") [] false model ∷ [];
}

-- one port, an inner node that may collapse, an integer parameter with an alias, and an operating-point variable
abbrev pub junction : Tables
junction = record {
  name = codes "diode";
  ports = 1;
  nodes = electrical (codes "a") ∷ electrical (codes "ci") ∷ [];
  entries = entry 0 0 true true ∷ entry 1 1 false true ∷ [];
  pairs = record { first = 0; second = Some 1 } ∷ record { first = 1; second = None } ∷ [];
  parameters =
      parameter (codes "area") [] false instance ∷ parameter (codes "k") (codes "kk" ∷ []) true model
      ∷ record {
        name = codes "id";
        aliases = [];
        description = codes "junction current";
        units = codes "A";
        is_integer = false;
        kind = operating_point;
      }
      ∷ [];
}

pub record WorkedTables : Type 0 where
  pub no_module : tables_text [] ≡ []
  pub of_a_resistor : tables_text (resistor ∷ [])
      ≡ codes "module m\nports 2\nnode 0 a \"V\" \"A\"\nnode 1 c \"V\" \"A\"\n"
      ++ codes "entry 0 0 r\nentry 0 1 r\nentry 1 0 r\nentry 1 1 r\nparam 0 r real model \"\" \"\"\n"
  pub of_a_junction : tables_text (junction ∷ [])
      ≡ codes "module diode\nports 1\nnode 0 a \"V\" \"A\"\nnode 1 ci \"V\" \"A\"\nentry 0 0 rx\nentry 1 1 x\n"
      ++ codes "collapse 0 1\ncollapse 1 ref\nparam 0 area real instance \"\" \"\"\nparam 1 k integer model \"\" \"\"\n"
      ++ codes "alias 1 kk\nopvar 2 id real \"junction current\" \"A\"\n"
