-- What moves with an unknown of the two parts of a value: the classes are ordered, and the operations keep them.
use Rattle.std.specs.Prelude.{◌≡◌, ℕ, ◌==◌, Bool, true, false, Option, Some, None, if◌then◌else◌}
use Rattle.std.proofs.Common.{refl, ap, sym, ◌∙◌, subst, inl}
use Rattle.alg_laws.specs.declared.dual.Dual.{Dual}
use Rattle.alg_laws.specs.declared.number.Number.{Number}
use Rattle.alg_laws.specs.declared.number.Number.TheVariants.{Real, Int}
use Rattle.alg_laws.specs.Dual.{dual, dual_valid, dual_unit, lift}
use Rattle.alg_laws.specs.DualLaws.{dual_laws}
use Rattle.alg_laws.specs.NumberParts.{lifted, NumberValid}
use Rattle.alg_laws.specs.Operations.{Operations, IsAlgebra}
use Rattle.alg_laws.specs.Related.{Relates, NumbersRelated, reals, integers, OutcomesRelated, IsLifted, Parts}
use Rattle.alg_laws.specs.Rings.{product_zero, zero_product, negative_zero}
use Rattle.alg_laws.proofs.Outcomes.{gives_related}
use Rattle.alg_laws.proofs.Related.{duals_related}
use Rattle.alg_laws.proofs.Relations.{mains_relate, validity_relates, lifts_relate}
use Rattle.va_meaning.specs.Classes.{AreOrdered, Slots, IfSure, KeepsToClasses, ContextsInClasses}
use Rattle.va_meaning.specs.Elaborated.{Elaborated}
use Rattle.va_meaning.specs.EvaluationLaws.{PointValid}
use Rattle.va_meaning.specs.Motions.{Motion, still, moving, is_below}
use Rattle.va_meaning.specs.Points.{Point}
use Rattle.va_meaning.specs.Related.{both_give, same_ends}
use Rattle.va_meaning.specs.Residuals.{in_parts, moved_point, residual_parts}
use Rattle.va_meaning.specs.TwoParts.{TwoParts, part_below, term_below, keeps_part, two_parts, moves_at, MovesAlone, TwoPartsOfResiduals}
use Rattle.va_meaning.proofs.ClassFunctions.{evaluated_in}
use Rattle.va_meaning.proofs.ClassRows.{RowsIn, residuals_in}
use Rattle.va_meaning.proofs.Endings.{same_closed, same_related, weaker_itself}
use Rattle.va_meaning.proofs.Motions.{below_itself, below_then, below_moving}

part_itself : (t : Option Motion) → part_below t t
part_itself None = tt
part_itself (Some m) = below_itself m

part_then : (s t u : Option Motion) → part_below s t → part_below t u → part_below s u
part_then None t u h i = tt
part_then (Some m) None u h i = absurd h
part_then (Some m) (Some n) None h i = absurd i
part_then (Some m) (Some n) (Some p) h i = below_then m n p h i

part_to_top : (t : Option Motion) → part_below t (Some moving)
part_to_top None = tt
part_to_top (Some m) = below_moving m

-- what keeps its part is below what that is below
term_kept : (r : Motion) (s t : Option Motion) → keeps_part r s → part_below s t → term_below r s t
term_kept r None t h i = tt
term_kept r (Some m) t h i = (part_then (Some r) (Some m) t h i, i)

pub two_parts_ordered : AreOrdered two_parts
two_parts_ordered = record {
  itself = λ k. (below_itself k.resist, part_itself k.react);
  further = λ k l m h i. (below_then k.resist l.resist m.resist h.0 i.0, part_then k.react l.react m.react h.1 i.1);
  from_rest = λ k. (tt, tt);
  to_top = λ k. (below_moving k.resist, part_to_top k.react);
  rest_closed = tt;
  top_closed = tt;
  products = λ k l h i. (i.0, i.0, term_kept k.resist k.react l.react h i.1, term_kept k.resist k.react l.react h i.1);
  derivatives = λ k l m h i. part_then (Some k.resist) l.react m.react h i.1;
}

module _ {V : Type 0} (o : Operations V) (valid unit : V → Type 0) (l : IsAlgebra o valid unit) where
  abbrev D : Operations (Dual V)
  D = dual o

  abbrev above_valid : Dual V → Type 0
  above_valid = dual_valid valid

  above : IsAlgebra (dual o) (dual_valid valid) (dual_unit unit)
  above = dual_laws o valid unit l

  -- one part, and the same where the unknown doesn't move
  abbrev Moved : Motion → Dual V → V → Type 0
  Moved still = IsLifted o valid
  Moved moving = λ d v. (d.main ≡ v) × dual_valid valid d

  moving_kept : Relates (dual o) o (Moved moving)
  moving_kept =
      let m = mains_relate o in
      let v = validity_relates (dual o) (dual_valid valid) (dual_unit unit) above in
      record {
        zero = (m.zero, v.zero.1);
        one = (m.one, v.one.1);
        sum = λ x y u w h k. (m.sum x y u w h.0 k.0, (v.sum x y x y (refl, h.1) (refl, k.1)).1);
        negative = λ x u h. (m.negative x u h.0, (v.negative x x (refl, h.1)).1);
        product = λ x y u w h k. (m.product x y u w h.0 k.0, (v.product x y x y (refl, h.1) (refl, k.1)).1);
        recip = λ x u h. (m.recip x u h.0, (v.recip x x (refl, h.1)).1);
        fun1 = λ f x u h. (m.fun1 f x u h.0, (v.fun1 f x x (refl, h.1)).1);
        fun2 = λ f x y u w h k. (m.fun2 f x y u w h.0 k.0, (v.fun2 f x y x y (refl, h.1) (refl, k.1)).1);
        less = λ x y u w h k. m.less x y u w h.0 k.0;
        at_most = λ x y u w h k. m.at_most x y u w h.0 k.0;
        same = λ x y u w h k. m.same x y u w h.0 k.0;
        near = λ x u h. m.near x u h.0;
      }

  moved_kept : (m : Motion) → Relates (dual o) o (Moved m)
  moved_kept still = lifts_relate o valid unit l
  moved_kept moving = moving_kept

  moved_weaker : (m n : Motion) → is_below m n → (x : Dual V) (u : V) → Moved m x u → Moved n x u
  moved_weaker still still up x u h = h
  moved_weaker still moving up x u h = ((λ j. (h.0 j).main), subst (λ (d : Dual V). dual_valid valid d) (sym h.0) (h.1, l.valid_zero))
  moved_weaker moving still up x u h = absurd up
  moved_weaker moving moving up x u h = h

  moved_valid : (m : Motion) (x : Dual V) (u : V) → Moved m x u → dual_valid valid x
  moved_valid m x u h = (moved_weaker m moving (below_moving m) x u h).1

  moved_valid_below : (m : Motion) (x : Dual V) (u : V) → Moved m x u → valid u
  moved_valid_below m x u h = let i = moved_weaker m moving (below_moving m) x u h in subst (λ (v : V). valid v) i.0 i.1.0

  abbrev Reacts : Option Motion → Dual V → V → Type 0
  Reacts None x u = (x ≡ (dual o).zero) × (u ≡ o.zero)
  Reacts (Some m) x u = Moved m x u

  reacts_zero : (t : Option Motion) → Reacts t (dual o).zero o.zero
  reacts_zero None = (refl, refl)
  reacts_zero (Some m) = (moved_kept m).zero

  reacts_at_zero : (t : Option Motion) (x : Dual V) (u : V) → x ≡ (dual o).zero → u ≡ o.zero → Reacts t x u
  reacts_at_zero t x u e d = subst (λ (v : V). Reacts t x v) (sym d) (subst (λ (y : Dual V). Reacts t y o.zero) (sym e) (reacts_zero t))

  reacts_weaker : (s t : Option Motion) → part_below s t → (x : Dual V) (u : V) → Reacts s x u → Reacts t x u
  reacts_weaker None t up x u h = reacts_at_zero t x u h.0 h.1
  reacts_weaker (Some m) None up x u h = absurd up
  reacts_weaker (Some m) (Some n) up x u h = moved_weaker m n up x u h

  reacts_valid : (t : Option Motion) (x : Dual V) (u : V) → Reacts t x u → dual_valid valid x × valid u
  reacts_valid t x u h = let i = reacts_weaker t (Some moving) (part_to_top t) x u h in (i.1, subst (λ (v : V). valid v) i.0 i.1.0)

  reacts_sum : (t : Option Motion) (x y : Dual V) (u v : V) → Reacts t x u → Reacts t y v → Reacts t ((dual o).sum x y) (o.sum u v)
  reacts_sum None x y u v h k = (
    (λ j. (dual o).sum (h.0 j) (k.0 j)) ∙ above.sum_zero (dual o).zero above.valid_zero,
    (λ j. o.sum (h.1 j) (k.1 j)) ∙ l.sum_zero o.zero l.valid_zero,
  )
  reacts_sum (Some m) x y u v h k = (moved_kept m).sum x y u v h k

  reacts_negative : (t : Option Motion) (x : Dual V) (u : V) → Reacts t x u → Reacts t ((dual o).negative x) (o.negative u)
  reacts_negative None x u h = (
    ap (dual o).negative h.0 ∙ negative_zero (dual o) (dual_valid valid) (dual_unit unit) above,
    ap o.negative h.1 ∙ negative_zero o valid unit l,
  )
  reacts_negative (Some m) x u h = (moved_kept m).negative x u h

  -- a resistive part times a reactive one, and the other way round
  term_first : (r : Motion) (q t : Option Motion) → term_below r q t → (a b : Dual V) (c d : V) → Moved r a c → Reacts q b d
      → Reacts t ((dual o).product a b) (o.product c d)
  term_first r None t up a b c d h k =
      reacts_at_zero t _ _
      (ap ((dual o).product a) k.0 ∙ product_zero (dual o) (dual_valid valid) (dual_unit unit) above a (moved_valid r a c h))
      (ap (o.product c) k.1 ∙ product_zero o valid unit l c (moved_valid_below r a c h))
  term_first r (Some q) None up a b c d h k = absurd up.0
  term_first r (Some q) (Some n) up a b c d h k =
      (moved_kept n).product a b c d (moved_weaker r n up.0 a c h) (moved_weaker q n up.1 b d k)

  term_second : (r : Motion) (q t : Option Motion) → term_below r q t → (a b : Dual V) (c d : V) → Moved r a c → Reacts q b d
      → Reacts t ((dual o).product b a) (o.product d c)
  term_second r None t up a b c d h k =
      reacts_at_zero t _ _
      (ap (λ (x : Dual V). (dual o).product x a) k.0 ∙ zero_product (dual o) (dual_valid valid) (dual_unit unit) above a (moved_valid r a c h))
      (ap (λ (x : V). o.product x c) k.1 ∙ zero_product o valid unit l c (moved_valid_below r a c h))
  term_second r (Some q) None up a b c d h k = absurd up.0
  term_second r (Some q) (Some n) up a b c d h k =
      (moved_kept n).product b a d c (moved_weaker q n up.1 b d k) (moved_weaker r n up.0 a c h)

  -- both parts
  abbrev InParts : TwoParts → Dual (Dual V) → Dual V → Type 0
  InParts k x u = Moved k.resist x.main u.main × Reacts k.react x.part u.part

  parts_weaker : (k m : TwoParts) → two_parts.below k m → (x : Dual (Dual V)) (u : Dual V) → InParts k x u → InParts m x u
  parts_weaker k m up x u h = (moved_weaker k.resist m.resist up.0 x.main u.main h.0, reacts_weaker k.react m.react up.1 x.part u.part h.1)

  parts_product : (k j m : TwoParts) → two_parts.times k j m → (x y : Dual (Dual V)) (u v : Dual V) → InParts k x u → InParts j y v
      → InParts m ((dual (dual o)).product x y) ((dual o).product u v)
  parts_product k j m t x y u v h i = (
    (moved_kept m.resist).product x.main y.main u.main v.main (moved_weaker k.resist m.resist t.0 x.main u.main h.0) (moved_weaker j.resist m.resist t.1 y.main v.main i.0),
    reacts_sum m.react _ _ _ _
        (term_first k.resist j.react m.react t.2 x.main y.part u.main v.part h.0 i.1)
        (term_second j.resist k.react m.react t.3 y.main x.part v.main u.part i.0 h.1),
  )

  -- what has no reactive part
  abbrev Resistive : Motion → Dual (Dual V) → Dual V → Type 0
  Resistive r x u = Moved r x.main u.main × (x.part ≡ (dual o).zero) × (u.part ≡ o.zero)

  resistive_lift : (r : Motion) (x : Dual (Dual V)) (u : Dual V) → InParts (record { resist = r; react = None }) x u
      → IsLifted (dual o) (dual_valid valid) x x.main × IsLifted o valid u u.main
  resistive_lift r x u h = (
    ((λ j. record { main = x.main; part = h.1.0 j }), moved_valid r x.main u.main h.0),
    ((λ j. record { main = u.main; part = h.1.1 j }), moved_valid_below r x.main u.main h.0),
  )

  resistive_kept : (r : Motion) → Relates (dual (dual o)) (dual o) (InParts (record { resist = r; react = None }))
  resistive_kept r =
      let m = moved_kept r in
      let a = lifts_relate (dual o) (dual_valid valid) (dual_unit unit) above in
      let b = lifts_relate o valid unit l in
      let up = resistive_lift r in
      record {
        zero = (m.zero, (refl, refl));
        one = (m.one, (refl, refl));
        sum = λ x y u v h k. (
          m.sum x.main y.main u.main v.main h.0 k.0,
          ((λ j. ((a.sum x y x.main y.main (up x u h).0 (up y v k).0).0 j).part), (λ j. ((b.sum u v u.main v.main (up x u h).1 (up y v k).1).0 j).part)),
        );
        negative = λ x u h. (
          m.negative x.main u.main h.0,
          ((λ j. ((a.negative x x.main (up x u h).0).0 j).part), (λ j. ((b.negative u u.main (up x u h).1).0 j).part)),
        );
        product = λ x y u v h k. (
          m.product x.main y.main u.main v.main h.0 k.0,
          ((λ j. ((a.product x y x.main y.main (up x u h).0 (up y v k).0).0 j).part), (λ j. ((b.product u v u.main v.main (up x u h).1 (up y v k).1).0 j).part)),
        );
        recip = λ x u h. (
          m.recip x.main u.main h.0,
          ((λ j. ((a.recip x x.main (up x u h).0).0 j).part), (λ j. ((b.recip u u.main (up x u h).1).0 j).part)),
        );
        fun1 = λ f x u h. (
          m.fun1 f x.main u.main h.0,
          ((λ j. ((a.fun1 f x x.main (up x u h).0).0 j).part), (λ j. ((b.fun1 f u u.main (up x u h).1).0 j).part)),
        );
        fun2 = λ f x y u v h k. (
          m.fun2 f x.main y.main u.main v.main h.0 k.0,
          ((λ j. ((a.fun2 f x y x.main y.main (up x u h).0 (up y v k).0).0 j).part), (λ j. ((b.fun2 f u v u.main v.main (up x u h).1 (up y v k).1).0 j).part)),
        );
        less = λ x y u v h k. m.less x.main y.main u.main v.main h.0 k.0;
        at_most = λ x y u v h k. m.at_most x.main y.main u.main v.main h.0 k.0;
        same = λ x y u v h k. m.same x.main y.main u.main v.main h.0 k.0;
        near = λ x u h. m.near x.main u.main h.0;
      }

  -- what has a reactive part that moves where the resistive one does
  reactive_up : (r m : Motion) → is_below r m → (x : Dual (Dual V)) (u : Dual V) → InParts (record { resist = r; react = Some m }) x u → Parts (Moved m) x u
  reactive_up r m up x u h = (moved_weaker r m up x.main u.main h.0, h.1)

  reactive_kept : (r m : Motion) → is_below r m → Relates (dual (dual o)) (dual o) (InParts (record { resist = r; react = Some m }))
  reactive_kept r m up =
      let a = moved_kept r in
      let b = duals_related (dual o) o (Moved m) (moved_kept m) in
      let w = reactive_up r m up in
      record {
        zero = (a.zero, b.zero.1);
        one = (a.one, b.one.1);
        sum = λ x y u v h k. (a.sum x.main y.main u.main v.main h.0 k.0, (b.sum x y u v (w x u h) (w y v k)).1);
        negative = λ x u h. (a.negative x.main u.main h.0, (b.negative x u (w x u h)).1);
        product = λ x y u v h k. (a.product x.main y.main u.main v.main h.0 k.0, (b.product x y u v (w x u h) (w y v k)).1);
        recip = λ x u h. (a.recip x.main u.main h.0, (b.recip x u (w x u h)).1);
        fun1 = λ f x u h. (a.fun1 f x.main u.main h.0, (b.fun1 f x u (w x u h)).1);
        fun2 = λ f x y u v h k. (a.fun2 f x.main y.main u.main v.main h.0 k.0, (b.fun2 f x y u v (w x u h) (w y v k)).1);
        less = λ x y u v h k. a.less x.main y.main u.main v.main h.0 k.0;
        at_most = λ x y u v h k. a.at_most x.main y.main u.main v.main h.0 k.0;
        same = λ x y u v h k. a.same x.main y.main u.main v.main h.0 k.0;
        near = λ x u h. a.near x.main u.main h.0;
      }

  parts_kept : (r : Motion) (t : Option Motion) → keeps_part r t → Relates (dual (dual o)) (dual o) (InParts (record { resist = r; react = t }))
  parts_kept r None h = resistive_kept r
  parts_kept r (Some m) h = reactive_kept r m h

  -- a time derivative: nothing is left of it in a resting circuit
  parts_derivative : (k m : TwoParts) → two_parts.derives k m → (x : Dual (Dual V)) (u : Dual V) → InParts k x u
      → InParts m ((dual (dual o)).product (record { main = (dual o).zero; part = (dual o).one }) x) ((dual o).product (record { main = o.zero; part = o.one }) u)
  parts_derivative k m d x u h =
      let rv = reacts_valid k.react x.part u.part h.1 in (
        reacts_at_zero (Some m.resist) _ _
            (zero_product (dual o) (dual_valid valid) (dual_unit unit) above x.main (moved_valid k.resist x.main u.main h.0))
            (zero_product o valid unit l u.main (moved_valid_below k.resist x.main u.main h.0)),
        reacts_sum m.react _ _ _ _
            (reacts_at_zero m.react _ _ (zero_product (dual o) (dual_valid valid) (dual_unit unit) above x.part rv.0) (zero_product o valid unit l u.part rv.1))
            (reacts_weaker (Some k.resist) m.react d _ _ ((moved_kept k.resist).product (dual o).one x.main o.one u.main (moved_kept k.resist).one h.0)),
      )

  moved_number : (v : Number V) → NumberValid valid v → NumbersRelated (InParts two_parts.rest) (lifted (dual o) (lifted o v)) (lifted o v)
  moved_number (Real x) h = reals ((refl, h), (refl, refl))
  moved_number (Int i) h = integers

  unknown_moves : (b : Bool) (x : V) → valid x → Moved (moves_at b) (if b then record { main = x; part = o.one } else lift o x) x
  unknown_moves true x h = (refl, (h, l.valid_one))
  unknown_moves false x h = (refl, h)

  module _ (M : Elaborated) (slots : Slots TwoParts) (keeps : KeepsToClasses M two_parts slots) (sure : slots.unsure ≡ false) (j : ℕ) (alone : MovesAlone j slots)
      (P : Point V) (p : PointValid valid P) (n : ℕ) where
    parts_context : ContextsInClasses same_ends two_parts InParts slots (in_parts (dual o) (moved_point o j P) n) (in_parts o P n)
    parts_context = record {
      ops = λ k h. parts_kept k.resist k.react h;
      weaker = parts_weaker;
      sum = λ k x y u v h i. ((moved_kept k.resist).sum x.main y.main u.main v.main h.0 i.0, reacts_sum k.react x.part y.part u.part v.part h.1 i.1);
      negative = λ k x u h. ((moved_kept k.resist).negative x.main u.main h.0, reacts_negative k.react x.part u.part h.1);
      product = parts_product;
      derivative = parts_derivative;
      parameters = λ q. moved_number (P.parameters q) (p.parameters q);
      given = λ q. refl;
      temperature = ((refl, p.temperature), (refl, refl));
      unknowns = λ i.
          subst (λ (known : Option TwoParts). IfSure (λ k. InParts k (lift (dual o) (if i == j then record { main = P.unknowns i; part = o.one } else lift o (P.unknowns i))) (lift o (P.unknowns i))) known)
          (sym (alone i)) (unknown_moves (i == j) (P.unknowns i) (p.unknowns i), (refl, refl));
      bound = inl refl;
      stops = λ reason. refl;
      answers = λ number outs outs' h. both_give ((refl, l.valid_zero), (refl, refl));
    }

    rows_alike : OutcomesRelated (RowsIn same_ends same_closed M two_parts two_parts_ordered InParts slots _ _ parts_context) (residual_parts M (dual o) (moved_point o j P) n) (residual_parts M o P n)
    rows_alike =
        same_related (RowsIn same_ends same_closed M two_parts two_parts_ordered InParts slots _ _ parts_context)
        (residuals_in same_ends same_closed M two_parts two_parts_ordered InParts slots _ _ parts_context same_ends same_closed
        (evaluated_in same_ends same_closed M two_parts two_parts_ordered InParts slots _ _ parts_context keeps same_ends same_closed (weaker_itself same_ends) (λ e. absurd (cc (e, sure)))))

  pub two_parts_of_residuals : TwoPartsOfResiduals V o valid
  two_parts_of_residuals = record {
    resistive = λ M slots keeps sure j alone P p n rows gave i u at react is row there.
        let r = gives_related (RowsIn same_ends same_closed M two_parts two_parts_ordered InParts slots _ _ (parts_context M slots keeps sure j alone P p n)) rows (rows_alike M slots keeps sure j alone P p n) gave in
        let q = r.2 (record { resist = still; react = react }) i u at is row there in
        (λ t. (q.1.0.0 t).part);
    reactive = λ M slots keeps sure j alone P p n rows gave i u at resist is row there.
        let r = gives_related (RowsIn same_ends same_closed M two_parts two_parts_ordered InParts slots _ _ (parts_context M slots keeps sure j alone P p n)) rows (rows_alike M slots keeps sure j alone P p n) gave in
        let q = r.2 (record { resist = resist; react = Some still }) i u at is row there in
        (λ t. (q.1.1.0 t).part);
  }
