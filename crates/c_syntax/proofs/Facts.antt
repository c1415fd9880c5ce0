-- What can be empty, begin and follow, each fact with the row that shows it by facts that stand further down its list.
-- Made by `tools/grammar_tables` from `crates/c_syntax/specs/grammar/Names.antt` and `Rows.antt`; edit those.
use Rattle.std.specs.Prelude.{ℕ, List, [], ◌∷◌}
use Rattle.predict.proofs.Sound.{Fact, EmptyFact}

-- a nonterminal, and its row that can be empty
abbrev empty : ℕ → ℕ → EmptyFact
empty left row = record { left = left; row = row }

-- a nonterminal, a kind, and a row
abbrev fact : ℕ → ℕ → ℕ → Fact
fact left kind row = record { left = left; kind = kind; row = row }

-- the nonterminals that can be empty
abbrev pub empty_facts : List EmptyFact
empty_facts =
    empty 66 134 ∷ empty 61 126 ∷ empty 51 110 ∷ empty 46 98 ∷ empty 32 63 ∷ empty 31 61 ∷ empty 30 59 ∷ empty 24 44 ∷ empty 22 34 ∷
    empty 13 22 ∷ empty 12 20 ∷ empty 11 18 ∷ empty 10 16 ∷ empty 9 14 ∷ empty 5 7 ∷ empty 2 3 ∷ []

-- the kinds with which a nonterminal can begin
abbrev pub begin_facts : List Fact
begin_facts =
    fact 30 8 58 ∷ fact 30 34 58 ∷ fact 30 33 58 ∷ fact 27 8 53 ∷ fact 27 34 53 ∷ fact 27 33 53 ∷ fact 25 8 46 ∷ fact 25 34 46 ∷
    fact 25 33 46 ∷ fact 2 85 2 ∷ fact 46 54 97 ∷ fact 46 84 97 ∷ fact 38 65 89 ∷ fact 34 8 77 ∷ fact 34 34 77 ∷ fact 34 33 77 ∷
    fact 32 43 62 ∷ fact 32 42 62 ∷ fact 32 41 62 ∷ fact 32 61 62 ∷ fact 32 40 62 ∷ fact 32 60 62 ∷ fact 32 59 62 ∷ fact 32 58 62 ∷
    fact 32 54 62 ∷ fact 32 57 62 ∷ fact 32 56 62 ∷ fact 30 109 58 ∷ fact 30 100 58 ∷ fact 30 99 58 ∷ fact 30 10 58 ∷ fact 30 13 58 ∷
    fact 30 12 58 ∷ fact 27 109 53 ∷ fact 27 100 53 ∷ fact 27 99 53 ∷ fact 27 10 53 ∷ fact 27 13 53 ∷ fact 27 12 53 ∷ fact 27 15 52 ∷
    fact 27 11 52 ∷ fact 25 109 46 ∷ fact 25 100 46 ∷ fact 25 99 46 ∷ fact 25 10 46 ∷ fact 25 13 46 ∷ fact 25 12 46 ∷ fact 22 67 33 ∷
    fact 22 99 33 ∷ fact 22 100 33 ∷ fact 22 111 33 ∷ fact 22 78 33 ∷ fact 22 12 33 ∷ fact 22 94 33 ∷ fact 22 83 33 ∷ fact 22 108 33 ∷
    fact 5 94 6 ∷ fact 5 83 6 ∷ fact 3 85 4 ∷ fact 71 33 143 ∷ fact 71 137 142 ∷ fact 70 48 141 ∷ fact 69 108 140 ∷ fact 68 129 139 ∷
    fact 68 128 138 ∷ fact 68 127 137 ∷ fact 67 126 136 ∷ fact 67 125 135 ∷ fact 66 53 133 ∷ fact 65 33 132 ∷ fact 65 137 131 ∷
    fact 64 48 130 ∷ fact 63 33 129 ∷ fact 63 148 128 ∷ fact 62 48 127 ∷ fact 61 64 125 ∷ fact 60 123 124 ∷ fact 60 122 123 ∷
    fact 59 121 122 ∷ fact 59 120 121 ∷ fact 58 121 120 ∷ fact 58 9 119 ∷ fact 58 37 119 ∷ fact 58 36 119 ∷ fact 58 35 119 ∷
    fact 57 148 118 ∷ fact 56 33 117 ∷ fact 56 145 116 ∷ fact 55 48 115 ∷ fact 54 33 114 ∷ fact 54 137 113 ∷ fact 53 48 112 ∷
    fact 52 116 111 ∷ fact 51 54 109 ∷ fact 50 109 108 ∷ fact 50 99 107 ∷ fact 50 115 106 ∷ fact 49 45 105 ∷ fact 49 44 104 ∷
    fact 49 55 103 ∷ fact 48 90 102 ∷ fact 48 89 101 ∷ fact 47 54 100 ∷ fact 47 84 99 ∷ fact 45 65 96 ∷ fact 44 65 95 ∷ fact 43 65 94 ∷
    fact 42 65 93 ∷ fact 41 65 92 ∷ fact 40 65 91 ∷ fact 39 65 90 ∷ fact 37 9 88 ∷ fact 37 37 87 ∷ fact 37 36 86 ∷ fact 37 35 85 ∷
    fact 36 8 84 ∷ fact 36 34 83 ∷ fact 36 33 82 ∷ fact 35 99 81 ∷ fact 34 109 80 ∷ fact 34 100 79 ∷ fact 34 99 79 ∷ fact 34 10 78 ∷
    fact 34 13 76 ∷ fact 34 12 75 ∷ fact 33 43 74 ∷ fact 33 42 73 ∷ fact 33 41 72 ∷ fact 33 61 71 ∷ fact 33 40 70 ∷ fact 33 60 69 ∷
    fact 33 59 68 ∷ fact 33 58 67 ∷ fact 33 54 66 ∷ fact 33 57 65 ∷ fact 33 56 64 ∷ fact 31 53 60 ∷ fact 29 15 57 ∷ fact 29 11 56 ∷
    fact 28 94 55 ∷ fact 28 83 54 ∷ fact 27 46 51 ∷ fact 27 62 50 ∷ fact 27 57 49 ∷ fact 26 92 48 ∷ fact 26 93 47 ∷ fact 26 14 47 ∷
    fact 25 62 45 ∷ fact 24 55 43 ∷ fact 23 67 42 ∷ fact 23 99 41 ∷ fact 23 100 40 ∷ fact 23 111 39 ∷ fact 23 78 38 ∷ fact 23 12 37 ∷
    fact 23 94 36 ∷ fact 23 83 36 ∷ fact 23 108 35 ∷ fact 21 65 32 ∷ fact 20 65 31 ∷ fact 19 65 30 ∷ fact 18 69 29 ∷ fact 17 16 28 ∷
    fact 16 17 27 ∷ fact 15 93 26 ∷ fact 15 14 25 ∷ fact 14 100 24 ∷ fact 14 99 23 ∷ fact 13 78 21 ∷ fact 12 39 19 ∷ fact 11 78 17 ∷
    fact 10 53 15 ∷ fact 9 94 13 ∷ fact 9 83 13 ∷ fact 8 66 12 ∷ fact 8 94 11 ∷ fact 8 83 11 ∷ fact 7 65 10 ∷ fact 6 94 9 ∷ fact 6 83 8 ∷
    fact 4 85 5 ∷ fact 1 65 1 ∷ fact 0 2 0 ∷ []

-- the kinds that can follow a nonterminal
abbrev pub follow_facts : List Fact
follow_facts =
    fact 15 53 23 ∷ fact 15 61 23 ∷ fact 15 60 23 ∷ fact 15 59 23 ∷ fact 15 58 23 ∷ fact 15 57 23 ∷ fact 15 56 23 ∷ fact 15 43 23 ∷
    fact 15 42 23 ∷ fact 15 41 23 ∷ fact 15 40 23 ∷ fact 71 49 141 ∷ fact 70 49 140 ∷ fact 37 52 140 ∷ fact 68 53 131 ∷ fact 67 64 131 ∷
    fact 66 49 131 ∷ fact 65 49 130 ∷ fact 63 49 127 ∷ fact 61 49 123 ∷ fact 37 49 119 ∷ fact 58 49 118 ∷ fact 37 53 118 ∷ fact 60 49 116 ∷
    fact 59 53 116 ∷ fact 57 49 116 ∷ fact 56 49 115 ∷ fact 36 49 113 ∷ fact 15 47 113 ∷ fact 54 49 112 ∷ fact 64 49 111 ∷ fact 62 49 111 ∷
    fact 55 49 111 ∷ fact 53 49 111 ∷ fact 15 54 107 ∷ fact 48 55 100 ∷ fact 48 45 100 ∷ fact 48 44 100 ∷ fact 51 52 97 ∷ fact 50 52 97 ∷
    fact 50 54 97 ∷ fact 49 115 97 ∷ fact 49 109 97 ∷ fact 49 99 97 ∷ fact 47 55 97 ∷ fact 47 45 97 ∷ fact 47 44 97 ∷ fact 46 49 90 ∷
    fact 16 49 90 ∷ fact 16 84 90 ∷ fact 16 54 90 ∷ fact 45 116 89 ∷ fact 44 65 89 ∷ fact 43 65 89 ∷ fact 42 65 89 ∷ fact 41 65 89 ∷
    fact 40 65 89 ∷ fact 39 65 89 ∷ fact 35 51 80 ∷ fact 14 53 79 ∷ fact 14 61 79 ∷ fact 14 60 79 ∷ fact 14 59 79 ∷ fact 14 58 79 ∷
    fact 14 57 79 ∷ fact 14 56 79 ∷ fact 14 54 79 ∷ fact 14 43 79 ∷ fact 14 42 79 ∷ fact 14 41 79 ∷ fact 14 40 79 ∷ fact 14 47 79 ∷
    fact 36 53 77 ∷ fact 36 61 77 ∷ fact 36 60 77 ∷ fact 36 59 77 ∷ fact 36 58 77 ∷ fact 36 57 77 ∷ fact 36 56 77 ∷ fact 36 54 77 ∷
    fact 36 43 77 ∷ fact 36 42 77 ∷ fact 36 41 77 ∷ fact 36 40 77 ∷ fact 36 47 77 ∷ fact 36 52 77 ∷ fact 33 109 62 ∷ fact 33 100 62 ∷
    fact 33 99 62 ∷ fact 33 34 62 ∷ fact 33 33 62 ∷ fact 33 13 62 ∷ fact 33 12 62 ∷ fact 33 10 62 ∷ fact 33 8 62 ∷ fact 31 47 58 ∷
    fact 34 53 58 ∷ fact 32 52 53 ∷ fact 34 61 53 ∷ fact 34 60 53 ∷ fact 34 59 53 ∷ fact 34 58 53 ∷ fact 34 57 53 ∷ fact 34 56 53 ∷
    fact 34 54 53 ∷ fact 34 43 53 ∷ fact 34 42 53 ∷ fact 34 41 53 ∷ fact 34 40 53 ∷ fact 30 47 52 ∷ fact 29 46 52 ∷ fact 28 52 51 ∷
    fact 34 47 45 ∷ fact 26 55 41 ∷ fact 25 49 38 ∷ fact 25 95 38 ∷ fact 25 111 38 ∷ fact 25 108 38 ∷ fact 25 100 38 ∷ fact 25 99 38 ∷
    fact 25 94 38 ∷ fact 25 83 38 ∷ fact 25 78 38 ∷ fact 25 67 38 ∷ fact 25 12 38 ∷ fact 24 52 36 ∷ fact 27 52 35 ∷ fact 6 12 35 ∷
    fact 23 49 33 ∷ fact 23 95 33 ∷ fact 23 111 33 ∷ fact 23 108 33 ∷ fact 23 100 33 ∷ fact 23 99 33 ∷ fact 23 94 33 ∷ fact 23 83 33 ∷
    fact 23 78 33 ∷ fact 23 67 33 ∷ fact 23 12 33 ∷ fact 17 108 32 ∷ fact 22 49 30 ∷ fact 18 49 30 ∷ fact 18 111 30 ∷ fact 18 108 30 ∷
    fact 18 100 30 ∷ fact 18 99 30 ∷ fact 18 94 30 ∷ fact 18 83 30 ∷ fact 18 78 30 ∷ fact 18 67 30 ∷ fact 18 12 30 ∷ fact 17 69 30 ∷
    fact 15 55 23 ∷ fact 15 52 23 ∷ fact 14 55 21 ∷ fact 14 52 17 ∷ fact 13 95 17 ∷ fact 12 47 17 ∷ fact 37 47 17 ∷ fact 37 39 17 ∷
    fact 10 47 13 ∷ fact 6 13 13 ∷ fact 11 95 12 ∷ fact 17 95 12 ∷ fact 17 78 12 ∷ fact 16 16 12 ∷ fact 34 52 11 ∷ fact 22 95 11 ∷
    fact 9 47 11 ∷ fact 6 15 11 ∷ fact 8 65 10 ∷ fact 6 14 6 ∷ fact 37 51 5 ∷ fact 5 49 5 ∷ fact 52 108 4 ∷ fact 52 85 4 ∷ fact 38 116 4 ∷
    fact 21 65 4 ∷ fact 20 65 4 ∷ fact 19 65 4 ∷ fact 7 65 4 ∷ fact 4 65 4 ∷ fact 3 108 2 ∷ fact 3 85 2 ∷ fact 69 0 0 ∷ fact 2 108 0 ∷
    fact 1 108 0 ∷ fact 1 85 0 ∷ fact 0 0 0 ∷ []
