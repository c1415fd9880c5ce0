-- One fault of a text is answered exactly where a rule is broken.
use Rattle.std.specs.Prelude.{◌≡◌, ◌<◌, ◌≤◌, ◌⊎◌, ℕ, zero, suc, List, [], ◌∷◌, length, Contains, Option, Some, None, slice_get}
use Rattle.std.proofs.Common.{subst, refl, ap, sym, ◌∙◌, arith, inl, inr}
use Rattle.std.proofs.lemmas.Bool.{cases_lt}
use Rattle.std.proofs.lemmas.Option.{slice_get_within}
use Rattle.va_base.specs.declared.expanded.Expanded.{Expanded}
use Rattle.va_base.specs.declared.fault.Fault.{Fault}
use Rattle.va_base.specs.declared.fault.FaultCode.{FaultCode}
use Rattle.va_base.specs.declared.fault.FaultCode.TheVariants as code
use Rattle.va_base.specs.declared.fault.Phase.{Phase}
use Rattle.va_base.specs.declared.fault.Phase.TheVariants as phase
use Rattle.va_base.specs.declared.token.Token.{Token}
use Rattle.va_base.specs.Faults.{ComesBefore, rank_of_phase, number_of_code}
use Rattle.va_tree.specs.declared.source.Source.{Source}
use Rattle.va_sem.specs.Meanings.{names_of}
use Rattle.va_sem.specs.NamesFaults.{FaultAt, names_faults}
use Rattle.va_sem.specs.TypesFaults.{types_faults}
use Rattle.va_sem.specs.Faults.{Stands, IsLeast, Answered, of_names, of_types, of_rules, StandsIn, among_names, among_types, among_rules, IsLeastOfAll, KeepsRules, answered, first_of, least_of, rules_faults}
use Rattle.va_sem.specs.FaultsLaws.{IsAnsweredAt, IsInText, OneFaultIsAnswered}
use Rattle.va_sem.proofs.Contained.{element_at}
use Rattle.va_sem.proofs.Earliest.{Before, is_there, none_contained, least_is_answered}

-- the code of a number
abbrev codes_in_order : List FaultCode
codes_in_order =
    code.BadToken
    ∷ code.UnknownMacro
    ∷ code.MacroArgs
    ∷ code.MacroSelf
    ∷ code.MacroDeep
    ∷ code.Conditional
    ∷ code.Directive
    ∷ code.MissingInclude
    ∷ code.IncludeDeep
    ∷ code.FileLarge
    ∷ code.TokensMany
    ∷ code.Syntax
    ∷ code.TooDeep
    ∷ code.TooLong
    ∷ code.ModulesMany
    ∷ code.UnknownName
    ∷ code.TwiceDeclared
    ∷ code.WrongKind
    ∷ code.WrongAccess
    ∷ code.DisciplinesDiffer
    ∷ code.NotDeclaredNode
    ∷ code.FunctionCycle
    ∷ code.OutOfProfile
    ∷ code.ArgumentCount
    ∷ code.ArgumentKind
    ∷ code.NotConstant
    ∷ code.RealOperand
    ∷ code.DdtNonLinear
    ∷ code.DdtUnderBias
    ∷ code.DdtInLoop
    ∷ code.DdtInFunction
    ∷ code.DdtTwice
    ∷ code.SwitchBranch
    ∷ code.FlowProbe
    ∷ code.CollapseProbed
    ∷ code.UnknownsMany
    ∷ code.ParamsMany
    ∷ code.DdxNested
    ∷ code.DdxPlace
    ∷ code.NoisePlace
    ∷ code.NodesMany
    ∷ code.PointName
    ∷ code.PointValue
    ∷ code.BadByte
    ∷ code.CForm
    ∷ code.Unbuilt
    ∷ []

abbrev code_of_number : ℕ → Option FaultCode
code_of_number zero = None
code_of_number (suc place) = slice_get codes_in_order place

code_again : (c : FaultCode) → code_of_number (number_of_code c) ≡ Some c
code_again code.BadToken = refl
code_again code.UnknownMacro = refl
code_again code.MacroArgs = refl
code_again code.MacroSelf = refl
code_again code.MacroDeep = refl
code_again code.Conditional = refl
code_again code.Directive = refl
code_again code.MissingInclude = refl
code_again code.IncludeDeep = refl
code_again code.FileLarge = refl
code_again code.TokensMany = refl
code_again code.Syntax = refl
code_again code.TooDeep = refl
code_again code.TooLong = refl
code_again code.ModulesMany = refl
code_again code.UnknownName = refl
code_again code.TwiceDeclared = refl
code_again code.WrongKind = refl
code_again code.WrongAccess = refl
code_again code.DisciplinesDiffer = refl
code_again code.NotDeclaredNode = refl
code_again code.FunctionCycle = refl
code_again code.OutOfProfile = refl
code_again code.ArgumentCount = refl
code_again code.ArgumentKind = refl
code_again code.NotConstant = refl
code_again code.RealOperand = refl
code_again code.DdtNonLinear = refl
code_again code.DdtUnderBias = refl
code_again code.DdtInLoop = refl
code_again code.DdtInFunction = refl
code_again code.DdtTwice = refl
code_again code.SwitchBranch = refl
code_again code.FlowProbe = refl
code_again code.CollapseProbed = refl
code_again code.UnknownsMany = refl
code_again code.ParamsMany = refl
code_again code.DdxNested = refl
code_again code.DdxPlace = refl
code_again code.NoisePlace = refl
code_again code.NodesMany = refl
code_again code.PointName = refl
code_again code.PointValue = refl
code_again code.BadByte = refl
code_again code.CForm = refl
code_again code.Unbuilt = refl

same_some : {X : Type 0} (x y : X) → Some x ≡ Some y → x ≡ y
same_some x y e = cc (e)

same_code : (c d : FaultCode) → number_of_code c ≡ number_of_code d → c ≡ d
same_code c d e = same_some c d (sym (code_again c) ∙ ap code_of_number e ∙ code_again d)

-- two faults of which neither comes before the other are one
codes_same : (a b : FaultAt) → (Before a b → ⊥) → (Before b a → ⊥) → a.0 ≡ b.0 → (number_of_code a.1 < number_of_code b.1) ⊎ (number_of_code b.1 ≤ number_of_code a.1)
    → (number_of_code b.1 < number_of_code a.1) ⊎ (number_of_code a.1 ≤ number_of_code b.1) → a.1 ≡ b.1
codes_same a b not_a not_b e (inl less) k = absurd (not_a (inr (e, less)))
codes_same a b not_a not_b e (inr above) (inl less) = absurd (not_b (inr (sym e, less)))
codes_same a b not_a not_b e (inr above) (inr below) = same_code a.1 b.1 (let n : number_of_code a.1 ≡ number_of_code b.1 = omega (arith, above, below) in n)

tokens_same : (a b : FaultAt) → (Before a b → ⊥) → (Before b a → ⊥) → (a.0 < b.0) ⊎ (b.0 ≤ a.0) → (b.0 < a.0) ⊎ (a.0 ≤ b.0) → a.0 ≡ b.0
tokens_same a b not_a not_b (inl less) k = absurd (not_a (inl less))
tokens_same a b not_a not_b (inr above) (inl less) = absurd (not_b (inl less))
tokens_same a b not_a not_b (inr above) (inr below) = omega (arith, above, below)

pub one_fault : (a b : FaultAt) → (Before a b → ⊥) → (Before b a → ⊥) → a ≡ b
one_fault a b not_a not_b =
    let at : a.0 ≡ b.0 = tokens_same a b not_a not_b (cases_lt a.0 b.0) (cases_lt b.0 a.0) in
    let code : a.1 ≡ b.1 =
    codes_same a b not_a not_b at (cases_lt (number_of_code a.1) (number_of_code b.1)) (cases_lt (number_of_code b.1) (number_of_code a.1)) in
    λ j. (at j, code j)

pub none_there : (faults : List FaultAt) (a : FaultAt) → faults ≡ [] → Contains faults a → ⊥
none_there faults a e (k, within, is) = omega (arith, within, ap length e)

-- the token and the code of a fault
abbrev told : Fault → FaultAt
told f = (f.at, f.code)

-- a fault at a token of a text
abbrev fault_at : Phase → FaultAt → Token → Fault
fault_at p a token = record { phase = p; at = a.0; place = token.place; code = a.1 }

module _ (e : Expanded) (p : Phase) (faults : List FaultAt) (f : Fault) (least : IsLeast e p faults f) where
  abbrev own : FaultAt
  own = (f.at, f.code)

  -- what comes before the least fault has a token, since that has one
  none_earlier : (m : FaultAt) → Contains faults m → Before m own → (m.0 ≤ f.at) → ⊥
  none_earlier m there before low =
      let within : f.at < length e.tokens = slice_get_within e.tokens f.at least.stands.token least.stands.token_is in
      let r = element_at e.tokens m.0 (omega (arith, low, within)) in
      least.least (fault_at p m r.element)
      (record { phase_is = refl; stands = there; token = r.element; token_is = r.is; place = refl })
      (inr (ap rank_of_phase (sym least.stands.phase_is), before))

  low_of : (m : FaultAt) → Before m own → m.0 ≤ f.at
  low_of m (inl less) = omega (arith, less)
  low_of m (inr both) = omega (arith, both.0)

  least_by : (o : Option FaultAt) → least_of faults ≡ o → o ≡ Some own
  least_by None is = absurd (none_there faults own (least_is_answered.none faults is) least.stands.stands)
  least_by (Some m) is =
      ap Some
      (one_fault m own (λ before. none_earlier m (is_there faults m is) before (low_of m before)) (none_contained faults m own is least.stands.stands))

  pub least_computed : least_of faults ≡ Some own
  least_computed = least_by (least_of faults) refl

nothing_first : (a b : Option FaultAt) → first_of a b ≡ None → (a ≡ None) × (b ≡ None)
nothing_first None b h = (refl, h)
nothing_first (Some x) b h = absurd (cc (h))

module _ (s : Source) where
  abbrev of_the_names : List FaultAt
  of_the_names = names_faults s

  abbrev of_the_types : List FaultAt
  of_the_types = types_faults s (names_of s)

  abbrev of_the_rules : List FaultAt
  of_the_rules = rules_faults s (names_of s)

  none : KeepsRules s → answered s ≡ None
  none k = λ j. first_of (least_of (k.names j)) (first_of (least_of (k.types j)) (least_of (k.rules j)))

  keeps : answered s ≡ None → KeepsRules s
  keeps h =
      let first = nothing_first (least_of of_the_names) (first_of (least_of of_the_types) (least_of of_the_rules)) h in
      let later = nothing_first (least_of of_the_types) (least_of of_the_rules) first.1 in
      record {
        names = least_is_answered.none of_the_names first.0;
        types = least_is_answered.none of_the_types later.0;
        rules = least_is_answered.none of_the_rules later.1;
      }

  module _ (e : Expanded) where
    computed : (f : Fault) → Answered e s f → answered s ≡ Some (f.at, f.code)
    computed f (of_names l) = ap (λ o. first_of o (first_of (least_of of_the_types) (least_of of_the_rules))) (least_computed e phase.Names of_the_names f l)
    computed f (of_types n l) =
        (λ j. first_of (least_of (n j)) (first_of (least_of of_the_types) (least_of of_the_rules)))
        ∙ ap (λ o. first_of o (least_of of_the_rules)) (least_computed e phase.Types of_the_types f l)
    computed f (of_rules n t l) =
        (λ j. first_of (least_of (n j)) (first_of (least_of (t j)) (least_of of_the_rules))) ∙ least_computed e phase.Rules of_the_rules f l

    never_both : (f : Fault) → KeepsRules s → Answered e s f → ⊥
    never_both f k a = (let h : None ≡ Some (f.at, f.code) = sym (none k) ∙ computed f a in cc (h))

    place_of : (f g : Fault) (p q : Phase) (faults others : List FaultAt) → f.at ≡ g.at → Stands e p faults f → Stands e q others g → f.place ≡ g.place
    place_of f g p q faults others at a b =
        let t : a.token ≡ b.token = same_some a.token b.token (sym a.token_is ∙ ap (slice_get e.tokens) at ∙ b.token_is) in
        a.place ∙ ap (λ (t : Token). t.place) t ∙ sym b.place

    one_stands : (f g : Fault) (p : Phase) (faults : List FaultAt) → told f ≡ told g → Stands e p faults f → Stands e p faults g → f ≡ g
    one_stands f g p faults same a b =
        let at : f.at ≡ g.at = ap (λ (x : FaultAt). x.0) same in
        let code : f.code ≡ g.code = ap (λ (x : FaultAt). x.1) same in
        let phase : f.phase ≡ g.phase = a.phase_is ∙ sym b.phase_is in
        let place : f.place ≡ g.place = place_of f g p p faults faults at a b in
        λ j. record { phase = phase j; at = at j; place = place j; code = code j }

    no_names : (f : Fault) → of_the_names ≡ [] → IsLeast e phase.Names of_the_names f → ⊥
    no_names f n l = none_there of_the_names (f.at, f.code) n l.stands.stands

    no_types : (f : Fault) → of_the_types ≡ [] → IsLeast e phase.Types of_the_types f → ⊥
    no_types f n l = none_there of_the_types (f.at, f.code) n l.stands.stands

    by_phase : (f g : Fault) → told f ≡ told g → Answered e s f → Answered e s g → f ≡ g
    by_phase f g same (of_names l) (of_names k) = one_stands f g phase.Names of_the_names same l.stands k.stands
    by_phase f g same (of_names l) (of_types n k) = absurd (no_names f n l)
    by_phase f g same (of_names l) (of_rules n t k) = absurd (no_names f n l)
    by_phase f g same (of_types n l) (of_names k) = absurd (no_names g n k)
    by_phase f g same (of_types n l) (of_types n' k) = one_stands f g phase.Types of_the_types same l.stands k.stands
    by_phase f g same (of_types n l) (of_rules n' t k) = absurd (no_types f t l)
    by_phase f g same (of_rules n t l) (of_names k) = absurd (no_names g n k)
    by_phase f g same (of_rules n t l) (of_types n' k) = absurd (no_types g t k)
    by_phase f g same (of_rules n t l) (of_rules n' t' k) = one_stands f g phase.Rules of_the_rules same l.stands k.stands

    only : (f g : Fault) → Answered e s f → Answered e s g → f ≡ g
    only f g a b = by_phase f g (same_some (told f) (told g) (sym (computed f a) ∙ computed g b)) a b

    -- the least fault of a phase, where its token is one of the text's
    least_at : (p : Phase) (faults : List FaultAt) (a : FaultAt) → least_of faults ≡ Some a → a.0 < length e.tokens
        → (token : Token) → slice_get e.tokens a.0 ≡ Some token → IsLeast e p faults (fault_at p a token)
    least_at p faults a is within token here = least_is_answered.some e p faults (fault_at p a token) token refl is here refl

    stands_by : (n t r : Option FaultAt) → least_of of_the_names ≡ n → least_of of_the_types ≡ t → least_of of_the_rules ≡ r → (a : FaultAt)
        → first_of n (first_of t r) ≡ Some a → a.0 < length e.tokens → (f : Fault) × IsAnsweredAt e s a f
    stands_by (Some x) t r n_is t_is r_is a h within =
        let there = element_at e.tokens a.0 within in (
          fault_at phase.Names a there.element,
          record { stands = of_names (least_at phase.Names of_the_names a (n_is ∙ h) within there.element there.is); is_at = refl },
        )
    stands_by None (Some x) r n_is t_is r_is a h within =
        let there = element_at e.tokens a.0 within in (
          fault_at phase.Types a there.element,
          record {
            stands = of_types (least_is_answered.none of_the_names n_is) (least_at phase.Types of_the_types a (t_is ∙ h) within there.element there.is);
            is_at = refl;
          },
        )
    stands_by None None r n_is t_is r_is a h within =
        let there = element_at e.tokens a.0 within in (
          fault_at phase.Rules a there.element,
          record {
            stands = of_rules (least_is_answered.none of_the_names n_is) (least_is_answered.none of_the_types t_is)
                (least_at phase.Rules of_the_rules a (r_is ∙ h) within there.element there.is);
            is_at = refl;
          },
        )

    stands : (a : FaultAt) → answered s ≡ Some a → a.0 < length e.tokens → (f : Fault) × IsAnsweredAt e s a f
    stands a h within = stands_by (least_of of_the_names) (least_of of_the_types) (least_of of_the_rules) refl refl refl a h within

    either_by : (o : Option FaultAt) → answered s ≡ o → IsInText e s → KeepsRules s ⊎ ((f : Fault) × Answered e s f)
    either_by None is within = inl (keeps is)
    either_by (Some a) is within = (let r = stands a is (within a is) in inr (r.0, r.1.stands))

    -- the least of all
    stands_of : (f : Fault) → Answered e s f → StandsIn e s f
    stands_of f (of_names l) = among_names l.stands
    stands_of f (of_types n l) = among_types l.stands
    stands_of f (of_rules n t l) = among_rules l.stands

    lower : (f g : Fault) (p q : Phase) → f.phase ≡ p → g.phase ≡ q → rank_of_phase p < rank_of_phase q → rank_of_phase f.phase < rank_of_phase g.phase
    lower f g p q a b less = omega (arith, less, ap rank_of_phase a, ap rank_of_phase b)

    not_earlier : (g f : Fault) → rank_of_phase f.phase < rank_of_phase g.phase → ComesBefore g f → ⊥
    not_earlier g f less (inl h) = omega (arith, less, h)
    not_earlier g f less (inr h) = omega (arith, less, h.0)

    none_lower : (f : Fault) → Answered e s f → (g : Fault) → StandsIn e s g → ComesBefore g f → ⊥
    none_lower f (of_names l) g (among_names k) before = l.least g k before
    none_lower f (of_names l) g (among_types k) before = not_earlier g f (lower f g phase.Names phase.Types l.stands.phase_is k.phase_is (omega arith)) before
    none_lower f (of_names l) g (among_rules k) before = not_earlier g f (lower f g phase.Names phase.Rules l.stands.phase_is k.phase_is (omega arith)) before
    none_lower f (of_types n l) g (among_names k) before = none_there of_the_names (told g) n k.stands
    none_lower f (of_types n l) g (among_types k) before = l.least g k before
    none_lower f (of_types n l) g (among_rules k) before = not_earlier g f (lower f g phase.Types phase.Rules l.stands.phase_is k.phase_is (omega arith)) before
    none_lower f (of_rules n t l) g (among_names k) before = none_there of_the_names (told g) n k.stands
    none_lower f (of_rules n t l) g (among_types k) before = none_there of_the_types (told g) t k.stands
    none_lower f (of_rules n t l) g (among_rules k) before = l.least g k before

    least_of_all : (f : Fault) → Answered e s f → IsLeastOfAll e s f
    least_of_all f a = record { stands = stands_of f a; least = λ g k before. none_lower f a g k before }

    -- two faults that stand, of which neither comes before the other, are one
    one_of_phase : (f g : Fault) (p : Phase) (faults : List FaultAt) → Stands e p faults f → Stands e p faults g → (ComesBefore f g → ⊥) → (ComesBefore g f → ⊥) → f ≡ g
    one_of_phase f g p faults a b not_f not_g =
        let same : rank_of_phase f.phase ≡ rank_of_phase g.phase = ap rank_of_phase (a.phase_is ∙ sym b.phase_is) in
        one_stands f g p faults (one_fault (told f) (told g) (λ before. not_f (inr (same, before))) (λ before. not_g (inr (sym same, before)))) a b

    one_of_all : (f g : Fault) → StandsIn e s f → StandsIn e s g → (ComesBefore f g → ⊥) → (ComesBefore g f → ⊥) → f ≡ g
    one_of_all f g (among_names a) (among_names b) not_f not_g = one_of_phase f g phase.Names of_the_names a b not_f not_g
    one_of_all f g (among_names a) (among_types b) not_f not_g = absurd (not_f (inl (lower f g phase.Names phase.Types a.phase_is b.phase_is (omega arith))))
    one_of_all f g (among_names a) (among_rules b) not_f not_g = absurd (not_f (inl (lower f g phase.Names phase.Rules a.phase_is b.phase_is (omega arith))))
    one_of_all f g (among_types a) (among_names b) not_f not_g = absurd (not_g (inl (lower g f phase.Names phase.Types b.phase_is a.phase_is (omega arith))))
    one_of_all f g (among_types a) (among_types b) not_f not_g = one_of_phase f g phase.Types of_the_types a b not_f not_g
    one_of_all f g (among_types a) (among_rules b) not_f not_g = absurd (not_f (inl (lower f g phase.Types phase.Rules a.phase_is b.phase_is (omega arith))))
    one_of_all f g (among_rules a) (among_names b) not_f not_g = absurd (not_g (inl (lower g f phase.Names phase.Rules b.phase_is a.phase_is (omega arith))))
    one_of_all f g (among_rules a) (among_types b) not_f not_g = absurd (not_g (inl (lower g f phase.Types phase.Rules b.phase_is a.phase_is (omega arith))))
    one_of_all f g (among_rules a) (among_rules b) not_f not_g = one_of_phase f g phase.Rules of_the_rules a b not_f not_g

    none_where_kept : (f : Fault) → KeepsRules s → StandsIn e s f → ⊥
    none_where_kept f k (among_names a) = none_there of_the_names (told f) k.names a.stands
    none_where_kept f k (among_types a) = none_there of_the_types (told f) k.types a.stands
    none_where_kept f k (among_rules a) = none_there of_the_rules (told f) k.rules a.stands

    least_answered : (f : Fault) → IsLeastOfAll e s f → KeepsRules s ⊎ ((g : Fault) × Answered e s g) → Answered e s f
    least_answered f l (inl k) = absurd (none_where_kept f k l.stands)
    least_answered f l (inr r) =
        subst (Answered e s)
        (one_of_all r.0 f (stands_of r.0 r.1) l.stands (λ before. l.least r.0 (stands_of r.0 r.1) before) (λ before. none_lower r.0 r.1 f l.stands before)) r.1

pub one_fault_is_answered : OneFaultIsAnswered
one_fault_is_answered = record {
  either = λ e s within. either_by s e (answered s) refl within;
  never_both = λ e s f k a. never_both s e f k a;
  only = λ e s f g a b. only s e f g a b;
  least = λ e s f a. least_of_all s e f a;
  is_least = λ e s f within l. least_answered s e f l (either_by s e (answered s) refl within);
  computed = λ e s f a. computed s e f a;
  stands = λ e s a h within. stands s e a h within;
  none = none;
  keeps = keeps;
}
