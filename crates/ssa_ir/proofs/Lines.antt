-- The steps that the lines of steps are, are these.
use Rattle.std.specs.Prelude.{◌≡◌, ℕ, List, [], ◌∷◌, ◌++◌}
use Rattle.std.proofs.Common.{refl, sym, ap, ◌∙◌, append_assoc}
use Rattle.ssa_ir.specs.declared.body.Instruction.{Instruction}
use Rattle.ssa_ir.specs.declared.body.Instruction.TheVariants.{Else, EndChoice, Test, EndLoop}
use Rattle.ssa_ir.specs.Body.{Merge, Step, Steps, value, choice, loop, stop, step, ◌⧺◌}
use Rattle.ssa_ir.specs.Flat.{lines, lines_of_step, join_lines, head_lines, next_lines, Around, nothing, first_arm, second_arm, before_test, in_turn, Reading, begun, went_on, with_nexts, line_read, all_read, steps_of}

read_append : (xs ys : List Instruction) (r : Reading) → all_read (xs ++ ys) r ≡ all_read ys (all_read xs r)
read_append [] ys r = refl
read_append (x ∷ xs) ys r = read_append xs ys (line_read x r)

steps_assoc : (a b c : Steps) → (a ⧺ b) ⧺ c ≡ a ⧺ (b ⧺ c)
steps_assoc stop b c = refl
steps_assoc (step s a) b c = ap (step s) (steps_assoc a b c)

append_stop : (a : Steps) → a ⧺ stop ≡ a
append_stop stop = refl
append_stop (step s a) = ap (step s) (append_stop a)

append_nil : {X : Type 0} (xs : List X) → xs ++ [] ≡ xs
append_nil [] = refl
append_nil (x ∷ xs) = ap (λ r. x ∷ r) (append_nil xs)

joins_read : (js ms : List Merge) (b : Steps) (a : Around) → all_read (join_lines js) (record { steps = b; joins = ms; nexts = []; around = a }) ≡ record { steps = b; joins = ms ++ js; nexts = []; around = a }
joins_read [] ms b a = λ i. record { steps = b; joins = sym (append_nil ms) i; nexts = []; around = a }
joins_read (j ∷ js) ms b a = joins_read js (ms ++ j ∷ []) b a ∙ (λ i. record { steps = b; joins = append_assoc ms (j ∷ []) js i; nexts = []; around = a })

abbrev heads_only : List Merge → List Merge
heads_only [] = []
heads_only (j ∷ js) = record j { second = 0 } ∷ heads_only js

abbrev seconds : List Merge → List ℕ
seconds [] = []
seconds (j ∷ js) = j.second ∷ seconds js

whole_again : (js : List Merge) → with_nexts (heads_only js) (seconds js) ≡ js
whole_again [] = refl
whole_again (j ∷ js) = ap (λ r. j ∷ r) (whole_again js)

heads_read : (js hs : List Merge) (o : Steps) (a : Around) → all_read (head_lines js) (begun (before_test hs o a)) ≡ begun (before_test (hs ++ heads_only js) o a)
heads_read [] hs o a = λ i. begun (before_test (sym (append_nil hs) i) o a)
heads_read (j ∷ js) hs o a = heads_read js (hs ++ record j { second = 0 } ∷ []) o a ∙ (λ i. begun (before_test (append_assoc hs (record j { second = 0 } ∷ []) (heads_only js) i) o a))

nexts_read : (js : List Merge) (ks : List ℕ) (b : Steps) (a : Around) → all_read (next_lines js) (record { steps = b; joins = []; nexts = ks; around = a }) ≡ record { steps = b; joins = []; nexts = ks ++ seconds js; around = a }
nexts_read [] ks b a = λ i. record { steps = b; joins = []; nexts = sym (append_nil ks) i; around = a }
nexts_read (j ∷ js) ks b a = nexts_read js (ks ++ j.second ∷ []) b a ∙ (λ i. record { steps = b; joins = []; nexts = append_assoc ks (j.second ∷ []) (seconds js) i; around = a })

mutual
  step_read : (s : Step) (o : Steps) (a : Around) → all_read (lines_of_step s) (record { steps = o; joins = []; nexts = []; around = a }) ≡ went_on o s a
  step_read (value k t op) o a = refl
  step_read (choice t x y js) o a =
      read_append (lines x) (Else ∷ (lines y ++ (join_lines js ++ EndChoice ∷ []))) (begun (first_arm t o a))
      ∙ ap (all_read (Else ∷ (lines y ++ (join_lines js ++ EndChoice ∷ [])))) (steps_read x stop (first_arm t o a))
      ∙ read_append (lines y) (join_lines js ++ EndChoice ∷ []) (begun (second_arm t o x a))
      ∙ ap (all_read (join_lines js ++ EndChoice ∷ [])) (steps_read y stop (second_arm t o x a))
      ∙ read_append (join_lines js) (EndChoice ∷ []) (record { steps = y; joins = []; nexts = []; around = second_arm t o x a })
      ∙ ap (all_read (EndChoice ∷ [])) (joins_read js [] y (second_arm t o x a))
  step_read (loop js x t y) o a =
      read_append (head_lines js) (lines x ++ Test t ∷ (lines y ++ (next_lines js ++ EndLoop ∷ []))) (begun (before_test [] o a))
      ∙ ap (all_read (lines x ++ Test t ∷ (lines y ++ (next_lines js ++ EndLoop ∷ [])))) (heads_read js [] o a)
      ∙ read_append (lines x) (Test t ∷ (lines y ++ (next_lines js ++ EndLoop ∷ []))) (begun (before_test (heads_only js) o a))
      ∙ ap (all_read (Test t ∷ (lines y ++ (next_lines js ++ EndLoop ∷ [])))) (steps_read x stop (before_test (heads_only js) o a))
      ∙ read_append (lines y) (next_lines js ++ EndLoop ∷ []) (begun (in_turn (heads_only js) x t o a))
      ∙ ap (all_read (next_lines js ++ EndLoop ∷ [])) (steps_read y stop (in_turn (heads_only js) x t o a))
      ∙ read_append (next_lines js) (EndLoop ∷ []) (record { steps = y; joins = []; nexts = []; around = in_turn (heads_only js) x t o a })
      ∙ ap (all_read (EndLoop ∷ [])) (nexts_read js [] y (in_turn (heads_only js) x t o a))
      ∙ (λ i. went_on o (loop (whole_again js i) x t y) a)

  steps_read : (b o : Steps) (a : Around) → all_read (lines b) (record { steps = o; joins = []; nexts = []; around = a }) ≡ record { steps = o ⧺ b; joins = []; nexts = []; around = a }
  steps_read stop o a = λ i. record { steps = sym (append_stop o) i; joins = []; nexts = []; around = a }
  steps_read (step s b) o a =
      read_append (lines_of_step s) (lines b) (record { steps = o; joins = []; nexts = []; around = a })
      ∙ ap (all_read (lines b)) (step_read s o a) ∙ steps_read b (o ⧺ step s stop) a
      ∙ (λ i. record { steps = steps_assoc o (step s stop) b i; joins = []; nexts = []; around = a })

pub steps_of_lines : (b : Steps) → steps_of (lines b) ≡ b
steps_of_lines b = ap (λ (r : Reading). r.steps) (steps_read b stop nothing)
