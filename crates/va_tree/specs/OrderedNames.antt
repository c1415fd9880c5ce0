-- The tokens of a text's names in the order of the text. The order of the tree differs from it where a default stands among the items
-- of a `case`, and where natures, disciplines and modules stand among each other.
use Rattle.std.specs.Prelude.{ℕ, ◌+◌, ◌≤◌, nat_le, if◌then◌else◌, List, [], ◌∷◌, ◌++◌, map, flat_map, option_to_list}
use Rattle.va_tree.specs.declared.module.Item.{Item}
use Rattle.va_tree.specs.declared.module.ItemBody.{ItemBody}
use Rattle.va_tree.specs.declared.module.ItemBody.TheVariants as item
use Rattle.va_tree.specs.declared.module.Module.{Module}
use Rattle.va_tree.specs.declared.source.Discipline.{Discipline}
use Rattle.va_tree.specs.declared.source.Nature.{Nature}
use Rattle.va_tree.specs.declared.source.Source.{Source}
use Rattle.va_tree.specs.OwnTokens.{tokens_of, names_in, names_in_arguments, names_in_declaration, names_in_attributes, names_in_function_item, names_in_body, names_in_nature, names_in_discipline}
use Rattle.va_tree.specs.Statements.{Statement, Statements, Items, Defaults, null, block, only_if, if_else, cases, for_loop, while_loop, repeat_loop, event, assign, contribute, task, no_more as no_statement, statement_then, no_items, item_then, no_defaults, default_then, statement_of}

-- A passage of a text: a token by which it stands among others, and the tokens of its names.
pub record Passage : Type 0 where
  pub at : ℕ
  pub tokens : List ℕ

abbrev pub passage : ℕ → List ℕ → Passage
passage at tokens = record { at = at; tokens = tokens }

-- a passage before those that stand later in the text
abbrev pub put_in : Passage → List Passage → List Passage
put_in p [] = p ∷ []
put_in p (next ∷ rest) = if nat_le p.at next.at then p ∷ next ∷ rest else next ∷ put_in p rest

abbrev pub in_order : List Passage → List Passage
in_order [] = []
in_order (p ∷ rest) = put_in p (in_order rest)

abbrev pub tokens_in : List Passage → List ℕ
tokens_in = flat_map (λ (p : Passage). p.tokens)

abbrev mutual
  pub ordered_in_statement : Statement → List ℕ
  ordered_in_statement (null at) = []
  ordered_in_statement (block at label declarations body) =
      tokens_of (option_to_list label) ++ flat_map names_in_declaration declarations ++ ordered_in_statements body
  ordered_in_statement (only_if at test a) = names_in test ++ ordered_in_statement a
  ordered_in_statement (if_else at test a b) = names_in test ++ ordered_in_statement a ++ ordered_in_statement b
  ordered_in_statement (cases at selector items defaults) = names_in selector ++ tokens_in (in_order (item_passages items ++ default_passages defaults))
  ordered_in_statement (for_loop at target first test target' step body) =
      target.at ∷ names_in first ++ names_in test ++ target'.at ∷ names_in step ++ ordered_in_statement body
  ordered_in_statement (while_loop at test body) = names_in test ++ ordered_in_statement body
  ordered_in_statement (repeat_loop at count body) = names_in count ++ ordered_in_statement body
  ordered_in_statement (event at kind analyses body) = ordered_in_statement body
  ordered_in_statement (assign at target value) = at ∷ names_in value
  ordered_in_statement (contribute at access first second value) = at ∷ first.at ∷ tokens_of (option_to_list second) ++ names_in value
  ordered_in_statement (task at bytes args) = at ∷ names_in_arguments args

  pub ordered_in_statements : Statements → List ℕ
  ordered_in_statements no_statement = []
  ordered_in_statements (statement_then s rest) = ordered_in_statement s ++ ordered_in_statements rest

  -- an item stands by its first token, a default by its word
  pub item_passages : Items → List Passage
  item_passages no_items = []
  item_passages (item_then at values body rest) = passage at (flat_map names_in values ++ ordered_in_statement body) ∷ item_passages rest

  pub default_passages : Defaults → List Passage
  default_passages no_defaults = []
  default_passages (default_then at body rest) = passage at (ordered_in_statement body) ∷ default_passages rest

abbrev pub ordered_in_body : ItemBody → List ℕ
ordered_in_body (item.Function at ty called items body) =
    called.at ∷ flat_map names_in_function_item items ++ ordered_in_statement (statement_of body)
ordered_in_body (item.Analog at body) = ordered_in_statement (statement_of body)
ordered_in_body other = names_in_body other

abbrev pub ordered_in_item : Item → List ℕ
ordered_in_item i = names_in_attributes i.attributes ++ ordered_in_body i.body

abbrev pub ordered_in_module : Module → List ℕ
ordered_in_module m = names_in_attributes m.attributes ++ m.at ∷ tokens_of m.ports ++ flat_map ordered_in_item m.items

-- a nature, a discipline and a module stand by the tokens of their names
abbrev pub nature_passage : Nature → Passage
nature_passage n = passage n.at (names_in_nature n)

abbrev pub discipline_passage : Discipline → Passage
discipline_passage d = passage d.at (names_in_discipline d)

abbrev pub module_passage : Module → Passage
module_passage m = passage m.at (ordered_in_module m)

abbrev pub ordered_in_source : Source → List ℕ
ordered_in_source s =
    tokens_in (in_order (map nature_passage s.natures ++ map discipline_passage s.disciplines ++ map module_passage s.modules))

-- numbers that ascend from one on, and stay below another
abbrev pub Ascend : ℕ → List ℕ → ℕ → Type 0
Ascend from [] below = from ≤ below
Ascend from (n ∷ rest) below = (from ≤ n) × Ascend (n + 1) rest below

-- Among so many tokens the names of a text stand one behind the other.
abbrev pub HasNamesInOrder : Source → ℕ → Type 0
HasNamesInOrder s count = Ascend 0 (ordered_in_source s) count
