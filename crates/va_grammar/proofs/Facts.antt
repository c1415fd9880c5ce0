-- What can be empty, begin and follow, each fact with the row that shows it by facts that stand further down its list.
-- Made by `tools/grammar_tables` from `tools/grammar/verilog_a.txt`; edit that file.
use Rattle.std.specs.Prelude.{ℕ, List, [], ◌∷◌}
use Rattle.predict.proofs.Sound.{Fact, EmptyFact}

-- a nonterminal, and its row that can be empty
abbrev empty : ℕ → ℕ → EmptyFact
empty left row = record { left = left; row = row }

-- a nonterminal, a kind, and a row
abbrev fact : ℕ → ℕ → ℕ → Fact
fact left kind row = record { left = left; kind = kind; row = row }

-- the nonterminals that can be empty
abbrev pub empty_facts : List EmptyFact
empty_facts =
    empty 78 172 ∷ empty 75 161 ∷ empty 73 158 ∷ empty 71 153 ∷ empty 69 149 ∷ empty 67 143 ∷ empty 65 139 ∷ empty 63 136 ∷ empty 61 133 ∷
    empty 59 130 ∷ empty 58 128 ∷ empty 57 126 ∷ empty 55 122 ∷ empty 54 120 ∷ empty 52 116 ∷ empty 51 114 ∷ empty 49 110 ∷ empty 48 108 ∷
    empty 47 106 ∷ empty 45 102 ∷ empty 44 100 ∷ empty 41 85 ∷ empty 39 81 ∷ empty 37 78 ∷ empty 30 65 ∷ empty 28 61 ∷ empty 26 58 ∷
    empty 25 55 ∷ empty 24 53 ∷ empty 20 38 ∷ empty 19 36 ∷ empty 18 34 ∷ empty 17 32 ∷ empty 13 24 ∷ empty 11 21 ∷ empty 10 19 ∷
    empty 9 17 ∷ empty 6 12 ∷ empty 4 9 ∷ empty 3 7 ∷ empty 0 1 ∷ []

-- the kinds with which a nonterminal can begin
abbrev pub begin_facts : List Fact
begin_facts =
    fact 49 2 109 ∷ fact 49 1 109 ∷ fact 49 41 109 ∷ fact 49 25 109 ∷ fact 49 3 109 ∷ fact 58 2 127 ∷ fact 58 1 127 ∷ fact 58 41 127 ∷
    fact 58 25 127 ∷ fact 58 3 127 ∷ fact 50 2 112 ∷ fact 50 1 112 ∷ fact 50 41 112 ∷ fact 50 25 112 ∷ fact 50 3 112 ∷ fact 49 63 109 ∷
    fact 49 58 109 ∷ fact 49 57 109 ∷ fact 34 2 73 ∷ fact 34 1 73 ∷ fact 34 25 73 ∷ fact 34 3 73 ∷ fact 7 2 14 ∷ fact 7 1 14 ∷
    fact 7 41 14 ∷ fact 7 25 14 ∷ fact 7 3 14 ∷ fact 60 2 131 ∷ fact 60 1 131 ∷ fact 60 41 131 ∷ fact 60 25 131 ∷ fact 60 3 131 ∷
    fact 58 63 127 ∷ fact 58 58 127 ∷ fact 58 57 127 ∷ fact 50 63 112 ∷ fact 50 58 112 ∷ fact 50 57 112 ∷ fact 34 63 73 ∷ fact 34 58 73 ∷
    fact 34 57 73 ∷ fact 7 63 14 ∷ fact 7 58 14 ∷ fact 7 57 14 ∷ fact 62 2 134 ∷ fact 62 1 134 ∷ fact 62 41 134 ∷ fact 62 25 134 ∷
    fact 62 3 134 ∷ fact 60 63 131 ∷ fact 60 58 131 ∷ fact 60 57 131 ∷ fact 64 2 137 ∷ fact 64 1 137 ∷ fact 64 41 137 ∷ fact 64 25 137 ∷
    fact 64 3 137 ∷ fact 62 63 134 ∷ fact 62 58 134 ∷ fact 62 57 134 ∷ fact 66 2 140 ∷ fact 66 1 140 ∷ fact 66 41 140 ∷ fact 66 25 140 ∷
    fact 66 3 140 ∷ fact 64 63 137 ∷ fact 64 58 137 ∷ fact 64 57 137 ∷ fact 68 2 144 ∷ fact 68 1 144 ∷ fact 68 41 144 ∷ fact 68 25 144 ∷
    fact 68 3 144 ∷ fact 66 63 140 ∷ fact 66 58 140 ∷ fact 66 57 140 ∷ fact 70 2 150 ∷ fact 70 1 150 ∷ fact 70 41 150 ∷ fact 70 25 150 ∷
    fact 70 3 150 ∷ fact 68 63 144 ∷ fact 68 58 144 ∷ fact 68 57 144 ∷ fact 72 2 154 ∷ fact 72 1 154 ∷ fact 72 41 154 ∷ fact 72 25 154 ∷
    fact 72 3 154 ∷ fact 70 63 150 ∷ fact 70 58 150 ∷ fact 70 57 150 ∷ fact 20 9 37 ∷ fact 20 8 37 ∷ fact 20 7 37 ∷ fact 0 5 0 ∷
    fact 0 12 0 ∷ fact 0 10 0 ∷ fact 74 2 159 ∷ fact 74 1 159 ∷ fact 74 41 159 ∷ fact 74 25 159 ∷ fact 74 3 159 ∷ fact 72 63 154 ∷
    fact 72 58 154 ∷ fact 72 57 154 ∷ fact 21 9 39 ∷ fact 21 8 39 ∷ fact 21 7 39 ∷ fact 20 26 37 ∷ fact 20 22 37 ∷ fact 20 21 37 ∷
    fact 20 20 37 ∷ fact 20 19 37 ∷ fact 20 18 37 ∷ fact 20 17 37 ∷ fact 20 1 37 ∷ fact 1 5 2 ∷ fact 1 12 2 ∷ fact 1 10 2 ∷ fact 0 68 0 ∷
    fact 76 2 165 ∷ fact 76 1 165 ∷ fact 76 41 165 ∷ fact 76 25 165 ∷ fact 76 3 165 ∷ fact 74 63 159 ∷ fact 74 58 159 ∷ fact 74 57 159 ∷
    fact 49 35 109 ∷ fact 45 22 101 ∷ fact 45 21 101 ∷ fact 41 22 84 ∷ fact 41 21 84 ∷ fact 41 7 84 ∷ fact 40 46 83 ∷ fact 40 2 83 ∷
    fact 40 1 83 ∷ fact 40 67 83 ∷ fact 40 38 83 ∷ fact 40 37 83 ∷ fact 40 36 83 ∷ fact 40 33 83 ∷ fact 40 31 83 ∷ fact 40 29 83 ∷
    fact 36 1 76 ∷ fact 31 41 66 ∷ fact 31 43 66 ∷ fact 27 1 59 ∷ fact 22 9 40 ∷ fact 22 8 40 ∷ fact 22 7 40 ∷ fact 21 26 39 ∷
    fact 21 22 39 ∷ fact 21 21 39 ∷ fact 21 20 39 ∷ fact 21 19 39 ∷ fact 21 18 39 ∷ fact 21 17 39 ∷ fact 21 1 39 ∷ fact 20 68 37 ∷
    fact 13 16 23 ∷ fact 13 15 23 ∷ fact 13 14 23 ∷ fact 2 5 5 ∷ fact 2 12 4 ∷ fact 2 10 3 ∷ fact 1 68 2 ∷ fact 78 41 171 ∷ fact 77 2 170 ∷
    fact 77 1 169 ∷ fact 77 41 168 ∷ fact 77 25 167 ∷ fact 77 3 166 ∷ fact 76 63 164 ∷ fact 76 58 163 ∷ fact 76 57 162 ∷ fact 75 60 160 ∷
    fact 73 62 157 ∷ fact 73 61 156 ∷ fact 73 59 155 ∷ fact 71 58 152 ∷ fact 71 57 151 ∷ fact 69 56 148 ∷ fact 69 55 147 ∷ fact 69 53 146 ∷
    fact 69 52 145 ∷ fact 67 51 142 ∷ fact 67 50 141 ∷ fact 65 64 138 ∷ fact 63 65 135 ∷ fact 61 66 132 ∷ fact 59 45 129 ∷ fact 58 4 127 ∷
    fact 57 41 125 ∷ fact 56 41 124 ∷ fact 56 49 123 ∷ fact 55 45 121 ∷ fact 54 41 119 ∷ fact 53 40 118 ∷ fact 53 39 117 ∷ fact 52 45 115 ∷
    fact 51 47 113 ∷ fact 50 35 111 ∷ fact 48 32 107 ∷ fact 47 46 105 ∷ fact 47 2 105 ∷ fact 47 1 105 ∷ fact 47 67 105 ∷ fact 47 38 105 ∷
    fact 47 37 105 ∷ fact 47 36 105 ∷ fact 47 33 105 ∷ fact 47 31 105 ∷ fact 47 29 105 ∷ fact 46 22 104 ∷ fact 46 21 103 ∷ fact 44 47 99 ∷
    fact 43 46 98 ∷ fact 43 2 97 ∷ fact 43 1 96 ∷ fact 43 67 95 ∷ fact 43 38 94 ∷ fact 43 37 93 ∷ fact 43 36 92 ∷ fact 43 33 91 ∷
    fact 43 31 90 ∷ fact 43 29 89 ∷ fact 42 22 88 ∷ fact 42 21 87 ∷ fact 42 7 86 ∷ fact 40 27 82 ∷ fact 39 49 80 ∷ fact 38 1 79 ∷
    fact 37 45 77 ∷ fact 35 42 75 ∷ fact 35 47 74 ∷ fact 34 41 72 ∷ fact 34 43 71 ∷ fact 33 42 70 ∷ fact 33 44 69 ∷ fact 32 41 68 ∷
    fact 32 43 67 ∷ fact 30 24 64 ∷ fact 30 23 63 ∷ fact 29 1 62 ∷ fact 28 45 60 ∷ fact 26 22 57 ∷ fact 26 21 56 ∷ fact 25 45 54 ∷
    fact 24 45 53 ∷ fact 24 1 52 ∷ fact 23 9 51 ∷ fact 23 8 50 ∷ fact 23 7 49 ∷ fact 22 26 48 ∷ fact 22 22 47 ∷ fact 22 21 46 ∷
    fact 22 20 45 ∷ fact 22 19 44 ∷ fact 22 18 43 ∷ fact 22 17 42 ∷ fact 22 1 41 ∷ fact 21 68 39 ∷ fact 19 45 35 ∷ fact 18 1 33 ∷
    fact 17 41 31 ∷ fact 16 5 30 ∷ fact 15 48 29 ∷ fact 15 1 28 ∷ fact 14 16 27 ∷ fact 14 15 26 ∷ fact 14 14 25 ∷ fact 12 12 22 ∷
    fact 11 1 20 ∷ fact 10 46 18 ∷ fact 9 47 16 ∷ fact 8 10 15 ∷ fact 7 4 13 ∷ fact 6 49 11 ∷ fact 5 1 10 ∷ fact 4 45 8 ∷ fact 3 68 6 ∷ []

-- the kinds that can follow a nonterminal
abbrev pub follow_facts : List Fact
follow_facts =
    fact 56 34 96 ∷ fact 56 63 96 ∷ fact 56 58 96 ∷ fact 56 57 96 ∷ fact 56 41 96 ∷ fact 56 35 96 ∷ fact 56 25 96 ∷ fact 56 3 96 ∷
    fact 56 30 96 ∷ fact 56 67 96 ∷ fact 56 46 96 ∷ fact 56 38 96 ∷ fact 56 37 96 ∷ fact 56 36 96 ∷ fact 56 33 96 ∷ fact 56 31 96 ∷
    fact 56 29 96 ∷ fact 56 2 96 ∷ fact 48 34 90 ∷ fact 48 63 90 ∷ fact 48 58 90 ∷ fact 48 57 90 ∷ fact 48 41 90 ∷ fact 48 35 90 ∷
    fact 48 25 90 ∷ fact 48 3 90 ∷ fact 48 30 90 ∷ fact 48 67 90 ∷ fact 48 46 90 ∷ fact 48 38 90 ∷ fact 48 37 90 ∷ fact 48 36 90 ∷
    fact 48 33 90 ∷ fact 48 31 90 ∷ fact 48 29 90 ∷ fact 48 2 90 ∷ fact 78 44 169 ∷ fact 78 42 169 ∷ fact 78 47 169 ∷ fact 78 46 169 ∷
    fact 78 24 169 ∷ fact 78 23 169 ∷ fact 78 69 169 ∷ fact 78 45 169 ∷ fact 78 66 169 ∷ fact 78 65 169 ∷ fact 78 64 169 ∷ fact 78 51 169 ∷
    fact 78 50 169 ∷ fact 78 56 169 ∷ fact 78 55 169 ∷ fact 78 53 169 ∷ fact 78 52 169 ∷ fact 78 58 169 ∷ fact 78 57 169 ∷ fact 78 62 169 ∷
    fact 78 61 169 ∷ fact 78 59 169 ∷ fact 78 60 169 ∷ fact 77 44 165 ∷ fact 77 42 165 ∷ fact 77 47 165 ∷ fact 77 46 165 ∷ fact 77 24 165 ∷
    fact 77 23 165 ∷ fact 77 69 165 ∷ fact 77 45 165 ∷ fact 77 66 165 ∷ fact 77 65 165 ∷ fact 77 64 165 ∷ fact 77 51 165 ∷ fact 77 50 165 ∷
    fact 77 56 165 ∷ fact 77 55 165 ∷ fact 77 53 165 ∷ fact 77 52 165 ∷ fact 77 58 165 ∷ fact 77 57 165 ∷ fact 77 62 165 ∷ fact 77 61 165 ∷
    fact 77 59 165 ∷ fact 77 60 165 ∷ fact 75 44 159 ∷ fact 75 42 159 ∷ fact 75 47 159 ∷ fact 75 46 159 ∷ fact 75 24 159 ∷ fact 75 23 159 ∷
    fact 75 69 159 ∷ fact 75 45 159 ∷ fact 75 66 159 ∷ fact 75 65 159 ∷ fact 75 64 159 ∷ fact 75 51 159 ∷ fact 75 50 159 ∷ fact 75 56 159 ∷
    fact 75 55 159 ∷ fact 75 53 159 ∷ fact 75 52 159 ∷ fact 75 58 159 ∷ fact 75 57 159 ∷ fact 75 62 159 ∷ fact 75 61 159 ∷ fact 75 59 159 ∷
    fact 76 44 159 ∷ fact 76 42 159 ∷ fact 76 47 159 ∷ fact 76 46 159 ∷ fact 76 24 159 ∷ fact 76 23 159 ∷ fact 76 69 159 ∷ fact 76 45 159 ∷
    fact 76 66 159 ∷ fact 76 65 159 ∷ fact 76 64 159 ∷ fact 76 51 159 ∷ fact 76 50 159 ∷ fact 76 56 159 ∷ fact 76 55 159 ∷ fact 76 53 159 ∷
    fact 76 52 159 ∷ fact 76 58 159 ∷ fact 76 57 159 ∷ fact 76 62 159 ∷ fact 76 61 159 ∷ fact 76 59 159 ∷ fact 76 60 159 ∷ fact 73 44 154 ∷
    fact 73 42 154 ∷ fact 73 47 154 ∷ fact 73 46 154 ∷ fact 73 24 154 ∷ fact 73 23 154 ∷ fact 73 69 154 ∷ fact 73 45 154 ∷ fact 73 66 154 ∷
    fact 73 65 154 ∷ fact 73 64 154 ∷ fact 73 51 154 ∷ fact 73 50 154 ∷ fact 73 56 154 ∷ fact 73 55 154 ∷ fact 73 53 154 ∷ fact 73 52 154 ∷
    fact 73 58 154 ∷ fact 73 57 154 ∷ fact 74 44 154 ∷ fact 74 42 154 ∷ fact 74 47 154 ∷ fact 74 46 154 ∷ fact 74 24 154 ∷ fact 74 23 154 ∷
    fact 74 69 154 ∷ fact 74 45 154 ∷ fact 74 66 154 ∷ fact 74 65 154 ∷ fact 74 64 154 ∷ fact 74 51 154 ∷ fact 74 50 154 ∷ fact 74 56 154 ∷
    fact 74 55 154 ∷ fact 74 53 154 ∷ fact 74 52 154 ∷ fact 74 58 154 ∷ fact 74 57 154 ∷ fact 74 62 154 ∷ fact 74 61 154 ∷ fact 74 59 154 ∷
    fact 71 44 150 ∷ fact 71 42 150 ∷ fact 71 47 150 ∷ fact 71 46 150 ∷ fact 71 24 150 ∷ fact 71 23 150 ∷ fact 71 69 150 ∷ fact 71 45 150 ∷
    fact 71 66 150 ∷ fact 71 65 150 ∷ fact 71 64 150 ∷ fact 71 51 150 ∷ fact 71 50 150 ∷ fact 71 56 150 ∷ fact 71 55 150 ∷ fact 71 53 150 ∷
    fact 71 52 150 ∷ fact 72 44 150 ∷ fact 72 42 150 ∷ fact 72 47 150 ∷ fact 72 46 150 ∷ fact 72 24 150 ∷ fact 72 23 150 ∷ fact 72 69 150 ∷
    fact 72 45 150 ∷ fact 72 66 150 ∷ fact 72 65 150 ∷ fact 72 64 150 ∷ fact 72 51 150 ∷ fact 72 50 150 ∷ fact 72 56 150 ∷ fact 72 55 150 ∷
    fact 72 53 150 ∷ fact 72 52 150 ∷ fact 72 58 150 ∷ fact 72 57 150 ∷ fact 69 44 144 ∷ fact 69 42 144 ∷ fact 69 47 144 ∷ fact 69 46 144 ∷
    fact 69 24 144 ∷ fact 69 23 144 ∷ fact 69 69 144 ∷ fact 69 45 144 ∷ fact 69 66 144 ∷ fact 69 65 144 ∷ fact 69 64 144 ∷ fact 69 51 144 ∷
    fact 69 50 144 ∷ fact 70 44 144 ∷ fact 70 42 144 ∷ fact 70 47 144 ∷ fact 70 46 144 ∷ fact 70 24 144 ∷ fact 70 23 144 ∷ fact 70 69 144 ∷
    fact 70 45 144 ∷ fact 70 66 144 ∷ fact 70 65 144 ∷ fact 70 64 144 ∷ fact 70 51 144 ∷ fact 70 50 144 ∷ fact 70 56 144 ∷ fact 70 55 144 ∷
    fact 70 53 144 ∷ fact 70 52 144 ∷ fact 67 44 140 ∷ fact 67 42 140 ∷ fact 67 47 140 ∷ fact 67 46 140 ∷ fact 67 24 140 ∷ fact 67 23 140 ∷
    fact 67 69 140 ∷ fact 67 45 140 ∷ fact 67 66 140 ∷ fact 67 65 140 ∷ fact 67 64 140 ∷ fact 68 44 140 ∷ fact 68 42 140 ∷ fact 68 47 140 ∷
    fact 68 46 140 ∷ fact 68 24 140 ∷ fact 68 23 140 ∷ fact 68 69 140 ∷ fact 68 45 140 ∷ fact 68 66 140 ∷ fact 68 65 140 ∷ fact 68 64 140 ∷
    fact 68 51 140 ∷ fact 68 50 140 ∷ fact 65 44 137 ∷ fact 65 42 137 ∷ fact 65 47 137 ∷ fact 65 46 137 ∷ fact 65 24 137 ∷ fact 65 23 137 ∷
    fact 65 69 137 ∷ fact 65 45 137 ∷ fact 65 66 137 ∷ fact 65 65 137 ∷ fact 66 44 137 ∷ fact 66 42 137 ∷ fact 66 47 137 ∷ fact 66 46 137 ∷
    fact 66 24 137 ∷ fact 66 23 137 ∷ fact 66 69 137 ∷ fact 66 45 137 ∷ fact 66 66 137 ∷ fact 66 65 137 ∷ fact 66 64 137 ∷ fact 63 44 134 ∷
    fact 63 42 134 ∷ fact 63 47 134 ∷ fact 63 46 134 ∷ fact 63 24 134 ∷ fact 63 23 134 ∷ fact 63 69 134 ∷ fact 63 45 134 ∷ fact 63 66 134 ∷
    fact 64 44 134 ∷ fact 64 42 134 ∷ fact 64 47 134 ∷ fact 64 46 134 ∷ fact 64 24 134 ∷ fact 64 23 134 ∷ fact 64 69 134 ∷ fact 64 45 134 ∷
    fact 64 66 134 ∷ fact 64 65 134 ∷ fact 61 44 131 ∷ fact 61 42 131 ∷ fact 61 47 131 ∷ fact 61 46 131 ∷ fact 61 24 131 ∷ fact 61 23 131 ∷
    fact 61 69 131 ∷ fact 61 45 131 ∷ fact 62 44 131 ∷ fact 62 42 131 ∷ fact 62 47 131 ∷ fact 62 46 131 ∷ fact 62 24 131 ∷ fact 62 23 131 ∷
    fact 62 69 131 ∷ fact 62 45 131 ∷ fact 62 66 131 ∷ fact 59 42 127 ∷ fact 7 42 127 ∷ fact 58 42 125 ∷ fact 55 42 119 ∷ fact 54 42 117 ∷
    fact 52 47 112 ∷ fact 43 34 111 ∷ fact 43 63 111 ∷ fact 43 58 111 ∷ fact 43 57 111 ∷ fact 43 41 111 ∷ fact 43 35 111 ∷ fact 43 25 111 ∷
    fact 43 3 111 ∷ fact 51 67 111 ∷ fact 51 46 111 ∷ fact 51 38 111 ∷ fact 51 37 111 ∷ fact 51 36 111 ∷ fact 51 33 111 ∷ fact 51 31 111 ∷
    fact 51 29 111 ∷ fact 51 2 111 ∷ fact 51 1 111 ∷ fact 50 34 109 ∷ fact 50 63 109 ∷ fact 50 58 109 ∷ fact 50 57 109 ∷ fact 50 41 109 ∷
    fact 50 35 109 ∷ fact 50 25 109 ∷ fact 50 3 109 ∷ fact 50 2 109 ∷ fact 50 1 109 ∷ fact 43 30 105 ∷ fact 43 67 105 ∷ fact 43 46 105 ∷
    fact 43 38 105 ∷ fact 43 37 105 ∷ fact 43 36 105 ∷ fact 43 33 105 ∷ fact 43 31 105 ∷ fact 43 29 105 ∷ fact 43 2 105 ∷ fact 46 30 101 ∷
    fact 46 67 101 ∷ fact 46 46 101 ∷ fact 46 38 101 ∷ fact 46 37 101 ∷ fact 46 36 101 ∷ fact 46 33 101 ∷ fact 46 31 101 ∷ fact 46 29 101 ∷
    fact 46 2 101 ∷ fact 46 1 101 ∷ fact 46 22 101 ∷ fact 46 21 101 ∷ fact 57 46 97 ∷ fact 56 32 96 ∷ fact 56 6 96 ∷ fact 56 68 96 ∷
    fact 56 26 96 ∷ fact 56 22 96 ∷ fact 56 21 96 ∷ fact 56 20 96 ∷ fact 56 19 96 ∷ fact 56 18 96 ∷ fact 56 17 96 ∷ fact 56 9 96 ∷
    fact 56 8 96 ∷ fact 56 7 96 ∷ fact 56 1 96 ∷ fact 56 28 96 ∷ fact 53 42 95 ∷ fact 49 34 91 ∷ fact 48 32 90 ∷ fact 48 6 90 ∷
    fact 48 68 90 ∷ fact 48 26 90 ∷ fact 48 22 90 ∷ fact 48 21 90 ∷ fact 48 20 90 ∷ fact 48 19 90 ∷ fact 48 18 90 ∷ fact 48 17 90 ∷
    fact 48 9 90 ∷ fact 48 8 90 ∷ fact 48 7 90 ∷ fact 48 1 90 ∷ fact 48 28 90 ∷ fact 43 32 90 ∷ fact 47 30 89 ∷ fact 45 30 89 ∷
    fact 45 67 89 ∷ fact 45 46 89 ∷ fact 45 38 89 ∷ fact 45 37 89 ∷ fact 45 36 89 ∷ fact 45 33 89 ∷ fact 45 31 89 ∷ fact 45 29 89 ∷
    fact 45 2 89 ∷ fact 45 1 89 ∷ fact 44 30 89 ∷ fact 44 67 89 ∷ fact 44 46 89 ∷ fact 44 38 89 ∷ fact 44 37 89 ∷ fact 44 36 89 ∷
    fact 44 33 89 ∷ fact 44 31 89 ∷ fact 44 29 89 ∷ fact 44 2 89 ∷ fact 44 1 89 ∷ fact 44 22 89 ∷ fact 44 21 89 ∷ fact 42 67 84 ∷
    fact 42 46 84 ∷ fact 42 38 84 ∷ fact 42 37 84 ∷ fact 42 36 84 ∷ fact 42 33 84 ∷ fact 42 31 84 ∷ fact 42 29 84 ∷ fact 42 2 84 ∷
    fact 42 1 84 ∷ fact 42 22 84 ∷ fact 42 21 84 ∷ fact 42 7 84 ∷ fact 43 6 83 ∷ fact 43 68 83 ∷ fact 43 26 83 ∷ fact 43 22 83 ∷
    fact 43 21 83 ∷ fact 43 20 83 ∷ fact 43 19 83 ∷ fact 43 18 83 ∷ fact 43 17 83 ∷ fact 43 9 83 ∷ fact 43 8 83 ∷ fact 43 7 83 ∷
    fact 43 1 83 ∷ fact 43 28 82 ∷ fact 41 67 82 ∷ fact 41 46 82 ∷ fact 41 38 82 ∷ fact 41 37 82 ∷ fact 41 36 82 ∷ fact 41 33 82 ∷
    fact 41 31 82 ∷ fact 41 29 82 ∷ fact 41 2 82 ∷ fact 41 1 82 ∷ fact 39 46 79 ∷ fact 39 45 79 ∷ fact 37 46 76 ∷ fact 38 46 76 ∷
    fact 38 45 76 ∷ fact 35 46 72 ∷ fact 35 45 72 ∷ fact 35 24 72 ∷ fact 35 23 72 ∷ fact 33 46 66 ∷ fact 33 45 66 ∷ fact 33 24 66 ∷
    fact 33 23 66 ∷ fact 60 44 66 ∷ fact 60 42 66 ∷ fact 60 47 66 ∷ fact 32 63 66 ∷ fact 32 58 66 ∷ fact 32 57 66 ∷ fact 32 41 66 ∷
    fact 32 25 66 ∷ fact 32 3 66 ∷ fact 32 2 66 ∷ fact 32 1 66 ∷ fact 34 46 64 ∷ fact 34 45 64 ∷ fact 34 24 64 ∷ fact 34 23 64 ∷
    fact 31 46 63 ∷ fact 31 45 63 ∷ fact 31 24 63 ∷ fact 31 23 63 ∷ fact 30 46 62 ∷ fact 30 45 62 ∷ fact 60 46 62 ∷ fact 60 24 62 ∷
    fact 60 23 62 ∷ fact 28 46 59 ∷ fact 29 46 59 ∷ fact 29 45 59 ∷ fact 40 6 48 ∷ fact 40 68 48 ∷ fact 40 26 48 ∷ fact 40 22 48 ∷
    fact 40 21 48 ∷ fact 40 20 48 ∷ fact 40 19 48 ∷ fact 40 18 48 ∷ fact 40 17 48 ∷ fact 40 9 48 ∷ fact 40 8 48 ∷ fact 40 7 48 ∷
    fact 40 1 48 ∷ fact 36 46 46 ∷ fact 27 46 43 ∷ fact 26 1 43 ∷ fact 25 42 42 ∷ fact 19 46 41 ∷ fact 24 46 40 ∷ fact 23 1 40 ∷
    fact 22 6 39 ∷ fact 22 68 39 ∷ fact 22 26 39 ∷ fact 22 22 39 ∷ fact 22 21 39 ∷ fact 22 20 39 ∷ fact 22 19 39 ∷ fact 22 18 39 ∷
    fact 22 17 39 ∷ fact 22 9 39 ∷ fact 22 8 39 ∷ fact 22 7 39 ∷ fact 22 1 39 ∷ fact 3 26 39 ∷ fact 3 22 39 ∷ fact 3 21 39 ∷ fact 3 20 39 ∷
    fact 3 19 39 ∷ fact 3 18 39 ∷ fact 3 17 39 ∷ fact 3 9 39 ∷ fact 3 8 39 ∷ fact 3 7 39 ∷ fact 3 1 39 ∷ fact 21 6 37 ∷ fact 21 68 37 ∷
    fact 21 26 37 ∷ fact 21 22 37 ∷ fact 21 21 37 ∷ fact 21 20 37 ∷ fact 21 19 37 ∷ fact 21 18 37 ∷ fact 21 17 37 ∷ fact 21 9 37 ∷
    fact 21 8 37 ∷ fact 21 7 37 ∷ fact 21 1 37 ∷ fact 19 42 33 ∷ fact 18 42 31 ∷ fact 20 6 30 ∷ fact 17 46 30 ∷ fact 15 13 25 ∷
    fact 15 16 25 ∷ fact 15 15 25 ∷ fact 15 14 25 ∷ fact 14 13 23 ∷ fact 14 16 23 ∷ fact 14 15 23 ∷ fact 14 14 23 ∷ fact 13 13 22 ∷
    fact 10 13 22 ∷ fact 10 16 22 ∷ fact 10 15 22 ∷ fact 10 14 22 ∷ fact 7 46 20 ∷ fact 11 11 15 ∷ fact 10 11 15 ∷ fact 10 1 15 ∷
    fact 9 11 15 ∷ fact 9 1 15 ∷ fact 9 46 15 ∷ fact 60 69 14 ∷ fact 60 45 14 ∷ fact 7 69 11 ∷ fact 7 45 11 ∷ fact 6 69 10 ∷ fact 6 45 10 ∷
    fact 4 69 6 ∷ fact 5 69 6 ∷ fact 5 45 6 ∷ fact 16 0 5 ∷ fact 16 68 5 ∷ fact 16 12 5 ∷ fact 16 10 5 ∷ fact 16 5 5 ∷ fact 12 0 4 ∷
    fact 12 68 4 ∷ fact 12 12 4 ∷ fact 12 10 4 ∷ fact 12 5 4 ∷ fact 8 0 3 ∷ fact 8 68 3 ∷ fact 8 12 3 ∷ fact 8 10 3 ∷ fact 8 5 3 ∷
    fact 2 0 2 ∷ fact 2 68 2 ∷ fact 2 12 2 ∷ fact 2 10 2 ∷ fact 2 5 2 ∷ fact 3 12 2 ∷ fact 3 10 2 ∷ fact 3 5 2 ∷ fact 1 0 0 ∷ fact 1 68 0 ∷
    fact 1 12 0 ∷ fact 1 10 0 ∷ fact 1 5 0 ∷ fact 0 0 0 ∷ []
