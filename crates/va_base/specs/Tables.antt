-- The descriptor tables of modules as plain lists, and their text. They are what a simulator knows of a model before it
-- runs it: of a source they follow from its declarations and from what depends on what, of a C file they are read from its
-- OSDI structs. A node is `OsdiNode`, an entry `OsdiJacobianEntry`, a pair `OsdiNodePair`, a parameter `OsdiParamOpvar`.
use Rattle.std.specs.Prelude.{ℕ, Bool, true, false, List, [], ◌∷◌, ◌++◌, Option, Some, None, codes, decimal}
use Rattle.std.specs.List.{flat_map, enumerate_from}

-- an unknown and its row
pub record NodeLine : Type 0 where
  pub name : List ℕ
  pub units : List ℕ
  pub residual_units : List ℕ
  -- 1 for the flow of a potential branch
  pub is_flow : ℕ

-- an entry of the Jacobian, and which of its two parts are listed
pub record EntryLine : Type 0 where
  pub row : ℕ
  pub column : ℕ
  pub resistive : Bool
  pub reactive : Bool

-- two unknowns that may collapse into one, or one that may collapse into the reference node
pub record PairLine : Type 0 where
  pub first : ℕ
  pub second : Option ℕ

-- whose a number is: the instance's, the model's, or an operating-point variable
pub data ParameterKind : Type 0 where
  instance : ParameterKind
  model : ParameterKind
  operating_point : ParameterKind

-- a parameter or an operating-point variable; its id is its place in the list
pub record ParameterLine : Type 0 where
  pub name : List ℕ
  pub aliases : List (List ℕ)
  pub description : List ℕ
  pub units : List ℕ
  pub is_integer : Bool
  pub kind : ParameterKind

-- the tables of a module
pub record Tables : Type 0 where
  pub name : List ℕ
  -- the first so many nodes are the ports
  pub ports : ℕ
  pub nodes : List NodeLine
  pub entries : List EntryLine
  pub pairs : List PairLine
  pub parameters : List ParameterLine

-- bytes in quotes, as they are
abbrev pub quoted : List ℕ → List ℕ
quoted bytes = codes "\"" ++ bytes ++ codes "\""

-- a line of some fields with a space between each two
abbrev pub line_of : List ℕ → List (List ℕ) → List ℕ
line_of field [] = field ++ codes "\n"
line_of field (next ∷ rest) = field ++ codes " " ++ line_of next rest

abbrev pub node_text : ℕ × NodeLine → List ℕ
node_text (i, node) = line_of (codes "node") (decimal i ∷ node.name ∷ quoted node.units ∷ quoted node.residual_units ∷ [])

-- `r` for resistive and `x` for reactive
abbrev pub parts_text : Bool → Bool → List ℕ
parts_text true true = codes "rx"
parts_text true false = codes "r"
parts_text false true = codes "x"
parts_text false false = []

abbrev pub entry_text : EntryLine → List ℕ
entry_text entry =
    line_of (codes "entry") (decimal entry.row ∷ decimal entry.column ∷ parts_text entry.resistive entry.reactive ∷ [])

abbrev pub second_text : Option ℕ → List ℕ
second_text None = codes "ref"
second_text (Some node) = decimal node

abbrev pub pair_text : PairLine → List ℕ
pair_text pair = line_of (codes "collapse") (decimal pair.first ∷ second_text pair.second ∷ [])

abbrev pub type_text : Bool → List ℕ
type_text true = codes "integer"
type_text false = codes "real"

abbrev pub alias_text : ℕ → List ℕ → List ℕ
alias_text id name = line_of (codes "alias") (decimal id ∷ name ∷ [])

-- the line of a parameter of the instance or the model, and one for each of its aliases
abbrev pub given_text : ℕ → List ℕ → ParameterLine → List ℕ
given_text id level p =
    line_of (codes "param") (decimal id ∷ p.name ∷ type_text p.is_integer ∷ level ∷ quoted p.description ∷ quoted p.units ∷ [])
    ++ flat_map (alias_text id) p.aliases

abbrev pub parameter_text_of : ParameterKind → ℕ → ParameterLine → List ℕ
parameter_text_of instance id p = given_text id (codes "instance") p
parameter_text_of model id p = given_text id (codes "model") p
parameter_text_of operating_point id p =
    line_of (codes "opvar") (decimal id ∷ p.name ∷ type_text p.is_integer ∷ quoted p.description ∷ quoted p.units ∷ [])

abbrev pub parameter_text : ℕ × ParameterLine → List ℕ
parameter_text (id, p) = parameter_text_of p.kind id p

abbrev pub module_text : Tables → List ℕ
module_text m =
    line_of (codes "module") (m.name ∷ [])
    ++ line_of (codes "ports") (decimal m.ports ∷ [])
    ++ flat_map node_text (enumerate_from 0 m.nodes)
    ++ flat_map entry_text m.entries
    ++ flat_map pair_text m.pairs
    ++ flat_map parameter_text (enumerate_from 0 m.parameters)

-- the text of the tables of all modules, in order
abbrev pub tables_text : List Tables → List ℕ
tables_text = flat_map module_text
