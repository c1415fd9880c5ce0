-- Grammars for tests, each with what shows its laws.
use Rattle.std.specs.Prelude.{ℕ, true, nat_eq, if◌then◌else◌, List, [], ◌∷◌}
use Rattle.predict.specs.declared.symbol.Symbol.TheVariants.{Kind, Left}
use Rattle.predict.specs.declared.symbol.Symbol.{Symbol}
use Rattle.predict.specs.Tree.{node, no_parts, token, subtree}
use Rattle.predict.specs.Table.{Table, Row, Evidence}

-- a row at these kinds
abbrev pub row : ℕ → List ℕ → List Symbol → Row
row left kinds symbols = record { left = left; kinds = kinds; symbols = symbols }

-- Pairs: E = S, S = a S b | . The kinds are the end 0, a 1 and b 2; E is 0 and S is 1.
abbrev pub pairs : Table
pairs = record {
  start = 0;
  end_kind = 0;
  rows = row 0 (0 ∷ 1 ∷ []) (Left 1 ∷ []) ∷ row 1 (1 ∷ []) (Kind 1 ∷ Left 1 ∷ Kind 2 ∷ []) ∷ row 1 (0 ∷ 2 ∷ []) [] ∷ [];
}

-- what shows its laws
abbrev pub pairs_evidence : Evidence
pairs_evidence = record {
  rank = λ left. if nat_eq left 0 then 1 else 0;
  empty = λ _. true;
  following = (0 ∷ []) ∷ (0 ∷ 2 ∷ []) ∷ [];
  witness = λ left _. if nat_eq left 0 then node 0 (subtree (node 2 no_parts) no_parts) else node 2 no_parts;
}

-- Branches: Stmt = if Stmt Else | ;  Else = else Stmt | . The kinds are the end 0, if 1, else 2 and ; 3; Stmt is 0 and Else is 1.
abbrev pub branches : Table
branches = record {
  start = 0;
  end_kind = 0;
  rows = row 0 (1 ∷ []) (Kind 1 ∷ Left 0 ∷ Left 1 ∷ []) ∷ row 0 (3 ∷ []) (Kind 3 ∷ []) ∷ row 1 (2 ∷ []) (Kind 2 ∷ Left 0 ∷ []) ∷ row 1 (0 ∷ 2 ∷ []) [] ∷ [];
}

-- what shows its laws; before an `else` an Else needs one of its own
abbrev pub branches_evidence : Evidence
branches_evidence = record {
  rank = λ _. 0;
  empty = nat_eq 1;
  following = (0 ∷ 2 ∷ []) ∷ (0 ∷ 2 ∷ []) ∷ [];
  witness = λ left next. if nat_eq left 0 then node 1 (token 3 no_parts) else if nat_eq next 2 then node 2 (token 2 (subtree (node 1 (token 3 no_parts)) no_parts)) else node 3 no_parts;
}

-- Groups: L = A B c L | .  A = a | .  B = b A | . The kinds are the end 0, a 1, b 2 and c 3; L is 0, A is 1 and B is 2.
abbrev pub groups : Table
groups = record {
  start = 0;
  end_kind = 0;
  rows = row 0 (1 ∷ 2 ∷ 3 ∷ []) (Left 1 ∷ Left 2 ∷ Kind 3 ∷ Left 0 ∷ []) ∷ row 0 (0 ∷ []) [] ∷ row 1 (1 ∷ []) (Kind 1 ∷ []) ∷ row 1 (2 ∷ 3 ∷ []) [] ∷ row 2 (2 ∷ []) (Kind 2 ∷ Left 1 ∷ []) ∷ row 2 (3 ∷ []) [] ∷ [];
}

-- what shows its laws
abbrev pub groups_evidence : Evidence
groups_evidence = record {
  rank = λ left. if nat_eq left 0 then 1 else 0;
  empty = λ _. true;
  following = (0 ∷ []) ∷ (2 ∷ 3 ∷ []) ∷ (3 ∷ []) ∷ [];
  witness = λ left _. if nat_eq left 0 then node 1 no_parts else if nat_eq left 1 then node 3 no_parts else node 5 no_parts;
}
