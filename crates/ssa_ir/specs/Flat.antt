-- The instructions of steps, and the steps that instructions are.
use Rattle.std.specs.Prelude.{ℕ, List, [], ◌∷◌, ◌++◌}
use Rattle.ssa_ir.specs.declared.body.Instruction.{Instruction}
use Rattle.ssa_ir.specs.declared.body.Instruction.TheVariants.{Value, Choice, Else, Join, EndChoice, Loop, Head, Test, Next, EndLoop}
use Rattle.ssa_ir.specs.Body.{Merge, Step, Steps, value, choice, loop, stop, step, ◌⧺◌}

abbrev pub join_lines : List Merge → List Instruction
join_lines [] = []
join_lines (m ∷ ms) = Join m.number m.ty m.first m.second ∷ join_lines ms

abbrev pub head_lines : List Merge → List Instruction
head_lines [] = []
head_lines (m ∷ ms) = Head m.number m.ty m.first ∷ head_lines ms

abbrev pub next_lines : List Merge → List Instruction
next_lines [] = []
next_lines (m ∷ ms) = Next m.second ∷ next_lines ms

-- the instructions of a step, and of steps
abbrev mutual
  pub lines_of_step : Step → List Instruction
  lines_of_step (value k t op) = Value k t op ∷ []
  lines_of_step (choice test a b joins) = Choice test ∷ (lines a ++ Else ∷ (lines b ++ (join_lines joins ++ EndChoice ∷ [])))
  lines_of_step (loop heads before test turn) =
      Loop ∷ (head_lines heads ++ (lines before ++ Test test ∷ (lines turn ++ (next_lines heads ++ EndLoop ∷ []))))

  pub lines : Steps → List Instruction
  lines stop = []
  lines (step s rest) = lines_of_step s ++ lines rest

-- What stands around the block that is read: the test, the steps before the choice or loop, and what has been read of it.
pub data Around : Type 0 where
  nothing : Around
  first_arm : ℕ → Steps → Around → Around
  second_arm : ℕ → Steps → Steps → Around → Around
  before_test : List Merge → Steps → Around → Around
  in_turn : List Merge → Steps → ℕ → Steps → Around → Around

-- the steps of the block so far, the joins or next operands at its end, and what stands around it
pub record Reading : Type 0 where
  pub steps : Steps
  pub joins : List Merge
  pub nexts : List ℕ
  pub around : Around

abbrev pub begun : Around → Reading
begun a = record { steps = stop; joins = []; nexts = []; around = a }

abbrev pub went_on : Steps → Step → Around → Reading
went_on before s a = record { steps = before ⧺ step s stop; joins = []; nexts = []; around = a }

abbrev pub with_nexts : List Merge → List ℕ → List Merge
with_nexts [] ks = []
with_nexts (m ∷ ms) [] = []
with_nexts (m ∷ ms) (k ∷ ks) = record m { second = k } ∷ with_nexts ms ks

abbrev pub else_read : Around → Reading → Reading
else_read (first_arm t before a) r = begun (second_arm t before r.steps a)
else_read a r = r

abbrev pub choice_read : Around → Reading → Reading
choice_read (second_arm t before first a) r = went_on before (choice t first r.steps r.joins) a
choice_read a r = r

abbrev pub head_read : Merge → Around → Reading → Reading
head_read m (before_test ms before a) r = record r { around = before_test (ms ++ m ∷ []) before a }
head_read m a r = r

abbrev pub test_read : ℕ → Around → Reading → Reading
test_read t (before_test ms before a) r = begun (in_turn ms r.steps t before a)
test_read t a r = r

abbrev pub loop_read : Around → Reading → Reading
loop_read (in_turn ms test t before a) r = went_on before (loop (with_nexts ms r.nexts) test t r.steps) a
loop_read a r = r

-- one instruction more
abbrev pub line_read : Instruction → Reading → Reading
line_read (Value k t op) r = went_on r.steps (value k t op) r.around
line_read (Choice t) r = begun (first_arm t r.steps r.around)
line_read Else r = else_read r.around r
line_read (Join k t y n) r = record r { joins = r.joins ++ record { number = k; ty = t; first = y; second = n } ∷ [] }
line_read EndChoice r = choice_read r.around r
line_read Loop r = begun (before_test [] r.steps r.around)
line_read (Head k t i) r = head_read (record { number = k; ty = t; first = i; second = 0 }) r.around r
line_read (Test t) r = test_read t r.around r
line_read (Next k) r = record r { nexts = r.nexts ++ k ∷ [] }
line_read EndLoop r = loop_read r.around r

abbrev pub all_read : List Instruction → Reading → Reading
all_read [] r = r
all_read (i ∷ is) r = all_read is (line_read i r)

-- the steps that instructions are
abbrev pub steps_of : List Instruction → Steps
steps_of is = (all_read is (begun nothing)).steps
