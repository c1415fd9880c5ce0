-- The kinds that follow from what walks find are the kinds of branches.
use Rattle.std.specs.Prelude.{◌≡◌, ℕ, ◌==◌, ◌||◌, ◌&&◌, not, nat_le, cond, if◌then◌else◌, Bool, true, false, List, [], ◌∷◌, ◌++◌, Option, Some, None, map, filter, flat_map, filter_map, length}
use Rattle.std.specs.List.{list_any, list_all, cons_option}
use Rattle.std.proofs.Common.{refl, sym, ◌∙◌, ap}
use Rattle.std.proofs.Math.Dec.{eqb-suc-zero}
use Rattle.std.proofs.lemmas.Grind.{flat_map-append}
use Rattle.std.proofs.lemmas.List.Folds.{list_any-append}
use Rattle.va_tree.specs.Expressions.{Expression}
use Rattle.va_sem.specs.declared.branch.BranchKind.TheVariants.{Flow, Collapsing, Potential}
use Rattle.va_sem.specs.declared.findings.Finding.{Finding}
use Rattle.va_sem.specs.declared.findings.Given.{Given}
use Rattle.va_sem.specs.declared.names.Meaning.{Meaning}
use Rattle.va_sem.specs.declared.names.Meaning.TheVariants as means
use Rattle.va_sem.specs.LookedAt.{looked_at}
use Rattle.va_sem.specs.TextOrder.{put_in, in_text_order}
use Rattle.va_sem.specs.rules.Uses.{meaning_of, is_flow_of}
use Rattle.va_sem.specs.rules.Biased.{Analysis, is_biased}
use Rattle.va_sem.specs.rules.BranchKinds.{Contribution, contribution_by, contribution_for, contributions, is_zero, always_contributes, flows_to, potentials_to, may_collapse, is_flow_read, is_empty, kind_of}
use Rattle.va_sem.specs.rules.Values.{Purpose, assigned, contributed, tested, initial, Value, evaluated}
use Rattle.va_sem.specs.rules.Findings.{flows_read, meanings_in, flows_in, any_biased, variable_found, contribution_found, purpose_found, found_by, given_in, flow_to, potential_to, collapses_if_to, reads_flow_of, kind_by}

or_swap : (a b c : Bool) → a || (b || c) ≡ b || (a || c)
or_swap true true c = refl
or_swap true false c = refl
or_swap false b c = refl

and_swap : (a b c : Bool) → a && (b && c) ≡ b && (a && c)
and_swap false true c = refl
and_swap false false c = refl
and_swap true b c = refl

or_false : (a : Bool) → a || false ≡ a
or_false true = refl
or_false false = refl

any_map : {S T : Type 0} (f : T → Bool) (g : S → T) (xs : List S) → list_any f (map g xs) ≡ list_any (λ x. f (g x)) xs
any_map f g [] = refl
any_map f g (x ∷ xs) = ap (λ b. f (g x) || b) (any_map f g xs)

all_map : {S T : Type 0} (f : T → Bool) (g : S → T) (xs : List S) → list_all f (map g xs) ≡ list_all (λ x. f (g x)) xs
all_map f g [] = refl
all_map f g (x ∷ xs) = ap (λ b. f (g x) && b) (all_map f g xs)

-- the order of a list plays no part in what some or all elements pass
module _ {T : Type 0} (p : T → Bool) (k : T → ℕ) where
  any_if : (b : Bool) (x y : T) (rest zs : List T) → list_any p zs ≡ p x || list_any p rest → list_any p (if b then x ∷ y ∷ rest else y ∷ zs) ≡ p x || (p y || list_any p rest)
  any_if true x y rest zs h = refl
  any_if false x y rest zs h = ap (λ b. p y || b) h ∙ or_swap (p y) (p x) (list_any p rest)

  any_put : (x : T) (ys : List T) → list_any p (put_in k x ys) ≡ p x || list_any p ys
  any_put x [] = refl
  any_put x (y ∷ ys) = any_if (nat_le (k x) (k y)) x y ys (put_in k x ys) (any_put x ys)

  pub any_order : (xs : List T) → list_any p (in_text_order k xs) ≡ list_any p xs
  any_order [] = refl
  any_order (x ∷ xs) = any_put x (in_text_order k xs) ∙ ap (λ b. p x || b) (any_order xs)

  all_if : (b : Bool) (x y : T) (rest zs : List T) → list_all p zs ≡ p x && list_all p rest → list_all p (if b then x ∷ y ∷ rest else y ∷ zs) ≡ p x && (p y && list_all p rest)
  all_if true x y rest zs h = refl
  all_if false x y rest zs h = ap (λ b. p y && b) h ∙ and_swap (p y) (p x) (list_all p rest)

  all_put : (x : T) (ys : List T) → list_all p (put_in k x ys) ≡ p x && list_all p ys
  all_put x [] = refl
  all_put x (y ∷ ys) = all_if (nat_le (k x) (k y)) x y ys (put_in k x ys) (all_put x ys)

  pub all_order : (xs : List T) → list_all p (in_text_order k xs) ≡ list_all p xs
  all_order [] = refl
  all_order (x ∷ xs) = all_put x (in_text_order k xs) ∙ ap (λ b. p x && b) (all_order xs)

-- what is left by a filter
module _ {T : Type 0} (p : T → Bool) where
  empty_if : (b : Bool) (x : T) (rest : List T) (c : Bool) → is_empty rest ≡ not c → is_empty (cond b (x ∷ rest) rest) ≡ not (b || c)
  empty_if true x rest c h = eqb-suc-zero (length rest)
  empty_if false x rest c h = h

  pub empty_filter : (xs : List T) → is_empty (filter p xs) ≡ not (list_any p xs)
  empty_filter [] = refl
  empty_filter (x ∷ xs) = empty_if (p x) x (filter p xs) (list_any p xs) (empty_filter xs)

  all_filter_if : (q : T → Bool) (b : Bool) (x : T) (rest : List T) (c : Bool) → list_all q rest ≡ c → list_all q (cond b (x ∷ rest) rest) ≡ (not b || q x) && c
  all_filter_if q true x rest c h = ap (λ d. q x && d) h
  all_filter_if q false x rest c h = h

  pub all_filter : (q : T → Bool) (xs : List T) → list_all q (filter p xs) ≡ list_all (λ x. not (p x) || q x) xs
  all_filter q [] = refl
  all_filter q (x ∷ xs) = all_filter_if q (p x) x (filter p xs) (list_all (λ y. not (p y) || q y) xs) (all_filter q xs)

module _ (a : Analysis) where
  -- a contribution as a walk finds it
  abbrev pub brief : Contribution → Given
  brief c = record { at = c.at; branch = c.branch; is_flow = c.is_flow; may_collapse = may_collapse a c }

  no_given : (m : Option Meaning) → flat_map given_in (flows_read m) ≡ []
  no_given None = refl
  no_given (Some (means.Access branch turned true)) = refl
  no_given (Some (means.Access branch turned false)) = refl
  no_given (Some (means.Node n)) = refl
  no_given (Some (means.Branch n)) = refl
  no_given (Some (means.Param n)) = refl
  no_given (Some (means.Var n)) = refl
  no_given (Some (means.Function n)) = refl
  no_given (Some (means.Discipline n)) = refl
  no_given (Some (means.Nature n)) = refl
  no_given (Some (means.Module n)) = refl
  no_given (Some (means.Builtin n)) = refl

  no_given_in : (ms : List (Option Meaning)) → flat_map given_in (flat_map flows_read ms) ≡ []
  no_given_in [] = refl
  no_given_in (m ∷ ms) = flat_map-append given_in (flows_read m) (flat_map flows_read ms) ∙ (λ j. no_given m j ++ no_given_in ms j)

  variable_given : (d : Bool) (m : Option Meaning) → flat_map given_in (variable_found d m) ≡ []
  variable_given false m = refl
  variable_given true None = refl
  variable_given true (Some (means.Access branch turned flow)) = refl
  variable_given true (Some (means.Node n)) = refl
  variable_given true (Some (means.Branch n)) = refl
  variable_given true (Some (means.Param n)) = refl
  variable_given true (Some (means.Var n)) = refl
  variable_given true (Some (means.Function n)) = refl
  variable_given true (Some (means.Discipline n)) = refl
  variable_given true (Some (means.Nature n)) = refl
  variable_given true (Some (means.Module n)) = refl
  variable_given true (Some (means.Builtin n)) = refl

  contribution_given : (at : ℕ) (v : Value) (m : Option Meaning) → flat_map given_in (contribution_found at (is_zero v.expression && not (any_biased a.meaning a.biased v.around.conditions)) m) ≡ map brief (cons_option (contribution_by at v m) [])
  contribution_given at v None = refl
  contribution_given at v (Some (means.Access branch turned flow)) = refl
  contribution_given at v (Some (means.Node n)) = refl
  contribution_given at v (Some (means.Branch n)) = refl
  contribution_given at v (Some (means.Param n)) = refl
  contribution_given at v (Some (means.Var n)) = refl
  contribution_given at v (Some (means.Function n)) = refl
  contribution_given at v (Some (means.Discipline n)) = refl
  contribution_given at v (Some (means.Nature n)) = refl
  contribution_given at v (Some (means.Module n)) = refl
  contribution_given at v (Some (means.Builtin n)) = refl

  purpose_given : (v : Value) (p : Purpose) → flat_map given_in (purpose_found a.meaning a.biased p v.expression v.around.conditions) ≡ map brief (cons_option (contribution_for a.meaning v p) [])
  purpose_given v (assigned at) = variable_given (is_biased a.meaning a.biased v.expression || any_biased a.meaning a.biased v.around.conditions) (a.meaning at)
  purpose_given v (contributed at) = contribution_given at v (a.meaning at)
  purpose_given v tested = refl
  purpose_given v initial = refl

  with_option : (o : Option Contribution) (rest : List Contribution) → map brief (cons_option o rest) ≡ map brief (cons_option o []) ++ map brief rest
  with_option None rest = refl
  with_option (Some c) rest = refl

  abbrev pub unordered : List Contribution
  unordered = filter_map (λ v. contribution_for a.meaning v v.purpose) a.values

  givens_in : (values : List Value) → flat_map given_in (flat_map (found_by a.meaning a.biased) values) ≡ map brief (filter_map (λ v. contribution_for a.meaning v v.purpose) values)
  givens_in [] = refl
  givens_in (v ∷ values) =
      flat_map-append given_in (found_by a.meaning a.biased v) (flat_map (found_by a.meaning a.biased) values)
      ∙ (λ j. (flat_map-append given_in (flows_in a.meaning a.biased v.expression) (purpose_found a.meaning a.biased v.purpose v.expression v.around.conditions) ∙ (λ k. no_given_in (meanings_in a.meaning (looked_at v.expression)) k ++ purpose_given v v.purpose k)) j ++ givens_in values j)
      ∙ sym (with_option (contribution_for a.meaning v v.purpose) (filter_map (λ w. contribution_for a.meaning w w.purpose) values))

  pub givens_found : flat_map given_in (flat_map (found_by a.meaning a.biased) a.values) ≡ map brief unordered
  givens_found = givens_in a.values

  module _ (branch : ℕ) where
    flow_answer : (m : Option Meaning) → list_any (reads_flow_of branch) (flows_read m) ≡ is_flow_of branch m
    flow_answer None = refl
    flow_answer (Some (means.Access other turned true)) = or_false (other == branch)
    flow_answer (Some (means.Access other turned false)) = refl
    flow_answer (Some (means.Node n)) = refl
    flow_answer (Some (means.Branch n)) = refl
    flow_answer (Some (means.Param n)) = refl
    flow_answer (Some (means.Var n)) = refl
    flow_answer (Some (means.Function n)) = refl
    flow_answer (Some (means.Discipline n)) = refl
    flow_answer (Some (means.Nature n)) = refl
    flow_answer (Some (means.Module n)) = refl
    flow_answer (Some (means.Builtin n)) = refl

    flows_answer : (es : List Expression) → list_any (reads_flow_of branch) (flat_map flows_read (meanings_in a.meaning es)) ≡ list_any (λ part. is_flow_of branch (meaning_of a.meaning part)) es
    flows_answer [] = refl
    flows_answer (e ∷ es) = list_any-append (reads_flow_of branch) (flows_read (meaning_of a.meaning e)) (flat_map flows_read (meanings_in a.meaning es)) ∙ (λ j. flow_answer (meaning_of a.meaning e) j || flows_answer es j)

    variable_answer : (d : Bool) (m : Option Meaning) → list_any (reads_flow_of branch) (variable_found d m) ≡ false
    variable_answer false m = refl
    variable_answer true None = refl
    variable_answer true (Some (means.Access other turned flow)) = refl
    variable_answer true (Some (means.Node n)) = refl
    variable_answer true (Some (means.Branch n)) = refl
    variable_answer true (Some (means.Param n)) = refl
    variable_answer true (Some (means.Var n)) = refl
    variable_answer true (Some (means.Function n)) = refl
    variable_answer true (Some (means.Discipline n)) = refl
    variable_answer true (Some (means.Nature n)) = refl
    variable_answer true (Some (means.Module n)) = refl
    variable_answer true (Some (means.Builtin n)) = refl

    contribution_answer : (at : ℕ) (d : Bool) (m : Option Meaning) → list_any (reads_flow_of branch) (contribution_found at d m) ≡ false
    contribution_answer at d None = refl
    contribution_answer at d (Some (means.Access other turned flow)) = refl
    contribution_answer at d (Some (means.Node n)) = refl
    contribution_answer at d (Some (means.Branch n)) = refl
    contribution_answer at d (Some (means.Param n)) = refl
    contribution_answer at d (Some (means.Var n)) = refl
    contribution_answer at d (Some (means.Function n)) = refl
    contribution_answer at d (Some (means.Discipline n)) = refl
    contribution_answer at d (Some (means.Nature n)) = refl
    contribution_answer at d (Some (means.Module n)) = refl
    contribution_answer at d (Some (means.Builtin n)) = refl

    purpose_answer : (p : Purpose) (e : Expression) (cs : List Expression) → list_any (reads_flow_of branch) (purpose_found a.meaning a.biased p e cs) ≡ false
    purpose_answer (assigned at) e cs = variable_answer (is_biased a.meaning a.biased e || any_biased a.meaning a.biased cs) (a.meaning at)
    purpose_answer (contributed at) e cs = contribution_answer at (is_zero e && not (any_biased a.meaning a.biased cs)) (a.meaning at)
    purpose_answer tested e cs = refl
    purpose_answer initial e cs = refl

    read_answer : (values : List Value) → list_any (reads_flow_of branch) (flat_map (found_by a.meaning a.biased) values) ≡ list_any (λ part. is_flow_of branch (meaning_of a.meaning part)) (evaluated values)
    read_answer [] = refl
    read_answer (v ∷ values) =
        list_any-append (reads_flow_of branch) (found_by a.meaning a.biased v) (flat_map (found_by a.meaning a.biased) values)
        ∙ (λ j. (list_any-append (reads_flow_of branch) (flows_in a.meaning a.biased v.expression) (purpose_found a.meaning a.biased v.purpose v.expression v.around.conditions) ∙ (λ k. flows_answer (looked_at v.expression) k || purpose_answer v.purpose v.expression v.around.conditions k) ∙ or_false (list_any (λ part. is_flow_of branch (meaning_of a.meaning part)) (looked_at v.expression))) j || read_answer values j)
        ∙ sym (list_any-append (λ part. is_flow_of branch (meaning_of a.meaning part)) (looked_at v.expression) (evaluated values))

    abbrev is_potential_here : Contribution → Bool
    is_potential_here c = c.branch == branch && not c.is_flow

    abbrev is_flow_here : Contribution → Bool
    is_flow_here c = c.branch == branch && c.is_flow

    pub kind_found : (F : List Finding) (G : List Given) → F ≡ flat_map (found_by a.meaning a.biased) a.values → G ≡ flat_map given_in F
        → kind_by (list_any (potential_to branch) G) (list_all (collapses_if_to branch) G) (list_any (reads_flow_of branch) F) (list_any (flow_to branch) G) (list_any (always_contributes a.meaning branch) a.blocks) ≡ kind_of a branch
    kind_found F G f g =
        let all : G ≡ map brief unordered = g ∙ ap (flat_map given_in) f ∙ givens_found in
        let potential : list_any (potential_to branch) G ≡ list_any is_potential_here unordered = ap (list_any (potential_to branch)) all ∙ any_map (potential_to branch) brief unordered in
        let none : not (list_any (potential_to branch) G) ≡ is_empty (potentials_to a branch) = ap not (potential ∙ sym (any_order is_potential_here (λ (c : Contribution). c.at) unordered)) ∙ sym (empty_filter is_potential_here (contributions a)) in
        let collapse : list_all (collapses_if_to branch) G ≡ list_all (may_collapse a) (potentials_to a branch) =
        ap (list_all (collapses_if_to branch)) all ∙ all_map (collapses_if_to branch) brief unordered ∙ sym (all_order (λ (c : Contribution). not (is_potential_here c) || may_collapse a c) (λ (c : Contribution). c.at) unordered) ∙ sym (all_filter is_potential_here (may_collapse a) (contributions a)) in
        let read : list_any (reads_flow_of branch) F ≡ is_flow_read a branch = ap (list_any (reads_flow_of branch)) f ∙ read_answer a.values in
        let flow : not (list_any (flow_to branch) G) ≡ is_empty (flows_to a branch) = ap not (ap (list_any (flow_to branch)) all ∙ any_map (flow_to branch) brief unordered ∙ sym (any_order is_flow_here (λ (c : Contribution). c.at) unordered)) ∙ sym (empty_filter is_flow_here (contributions a)) in
        (λ j. if none j then Some Flow else (if collapse j && not (read j) then Some Collapsing else (if flow j && list_any (always_contributes a.meaning branch) a.blocks then Some Potential else None)))

  brief_if : (b : Bool) (c d : Contribution) (ds : List Contribution) (gs : List Given) (es : List Contribution) → gs ≡ map brief es → (if b then brief c ∷ brief d ∷ map brief ds else brief d ∷ gs) ≡ map brief (if b then c ∷ d ∷ ds else d ∷ es)
  brief_if true c d ds gs es h = refl
  brief_if false c d ds gs es h = ap (λ list. brief d ∷ list) h

  order_brief : (c : Contribution) (ds : List Contribution) → put_in (λ (g : Given). g.at) (brief c) (map brief ds) ≡ map brief (put_in (λ (d : Contribution). d.at) c ds)
  order_brief c [] = refl
  order_brief c (d ∷ ds) = brief_if (nat_le c.at d.at) c d ds (put_in (λ (g : Given). g.at) (brief c) (map brief ds)) (put_in (λ (e : Contribution). e.at) c ds) (order_brief c ds)

  orders_brief : (cs : List Contribution) → in_text_order (λ (g : Given). g.at) (map brief cs) ≡ map brief (in_text_order (λ (c : Contribution). c.at) cs)
  orders_brief [] = refl
  orders_brief (c ∷ cs) = ap (put_in (λ (g : Given). g.at) (brief c)) (orders_brief cs) ∙ order_brief c (in_text_order (λ (d : Contribution). d.at) cs)

  branches_brief : (cs : List Contribution) → map (λ (g : Given). g.branch) (map brief cs) ≡ map (λ (c : Contribution). c.branch) cs
  branches_brief [] = refl
  branches_brief (c ∷ cs) = ap (λ list. c.branch ∷ list) (branches_brief cs)

  -- the branches of contributions in order
  pub branches_found : (F : List Finding) (G ordered : List Given) → F ≡ flat_map (found_by a.meaning a.biased) a.values → G ≡ flat_map given_in F → ordered ≡ in_text_order (λ (g : Given). g.at) G
      → map (λ (g : Given). g.branch) ordered ≡ map (λ (c : Contribution). c.branch) (contributions a)
  branches_found F G ordered f g o =
      ap (map (λ (x : Given). x.branch)) (o ∙ ap (in_text_order (λ (x : Given). x.at)) (g ∙ ap (flat_map given_in) f ∙ givens_found) ∙ orders_brief unordered) ∙ branches_brief (contributions a)
