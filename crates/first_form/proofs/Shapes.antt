-- A source has one shape at most, and the parts of a form are those of its shape.
use Rattle.std.proofs.Common.{◌≡◌, ℕ, List, [], ◌∷◌, ◌++◌, map, length, refl, ap, sym, ◌∙◌, subst, arith}
use Rattle.std.specs.Prelude.{Bool, true, false, ◌&&◌, ◌≤◌, Some}
use Rattle.std.specs.List.{IsDistinct, list_all}
use Rattle.std.specs.Str.{bytes_eq}
use Rattle.c_tree.specs.declared.short.ShortModule.{ShortModule}
use Rattle.va_tree.specs.declared.module.Item.{Item}
use Rattle.va_tree.specs.declared.module.Module.{Module}
use Rattle.va_tree.specs.declared.source.Source.{Source}
use Rattle.va_tree.specs.Expressions.{Expression, expression_of}
use Rattle.first_form.specs.declared.shape.Shape.{Shape}
use Rattle.first_form.specs.declared.sums.Scope.{Scope}
use Rattle.first_form.specs.Form.{FirstForm, names_of, flow_of, HasItems, HasShape, AreNamed, is_free, IsSum, open_in, IsSourceOfForm}
use Rattle.first_form.specs.Reading.{HasOnly, IsHeader, HasNames, IsSumIn, ReadsFlow, IsShapeOfForm, ReadsShape, ReadsSource}
use Rattle.first_form.proofs.Params.{some-injective, and-left, and-right, and-both, ports-apart}

first-of : {X : Type 0} {a b : X} {xs ys : List X} → a ∷ xs ≡ b ∷ ys → a ≡ b
first-of e = cc

rest-of : {X : Type 0} {a b : X} {xs ys : List X} → a ∷ xs ≡ b ∷ ys → xs ≡ ys
rest-of e = cc

-- a list ends with one element
last-same : {X : Type 0} (xs ys : List X) (a b : X) → xs ++ a ∷ [] ≡ ys ++ b ∷ [] → (xs ≡ ys) × (a ≡ b)
last-same [] [] a b e = (refl, first-of e)
last-same [] (y ∷ []) a b e = cc
last-same [] (y ∷ z ∷ ys) a b e = cc
last-same (x ∷ []) [] a b e = cc
last-same (x ∷ z ∷ xs) [] a b e = cc
last-same (x ∷ xs) (y ∷ ys) a b e =
    let r = last-same xs ys a b (rest-of e) in ((λ j. first-of e j ∷ r.0 j), r.1)

-- where the items of the module are none of the form, the source has no shape
pub shape-none : (source : Source) (only : Module) (first second : List ℕ) → HasOnly source only
    → names_of only.ports ≡ first ∷ second ∷ []
    → ((parameters : List Item) (flow : Expression) → HasItems only.items first second parameters flow → ⊥)
    → (name first' second' : List ℕ) (parameters : List Item) (flow : Expression) → HasShape source name first' second' parameters flow → ⊥
shape-none source only first second o ports none name first' second' parameters flow s =
    let same : s.only ≡ only = first-of (sym s.modules ∙ o.modules) in
    let pair : first' ∷ second' ∷ [] ≡ first ∷ second ∷ [] = sym s.ports ∙ ap (λ m. names_of m.ports) same ∙ ports in
    let P : Module → Type 0 = λ m. HasItems m.items first' second' parameters flow in
    let Q : List ℕ → Type 0 = λ n. HasItems only.items n second' parameters flow in
    let R : List ℕ → Type 0 = λ n. HasItems only.items first n parameters flow in
    none parameters flow (subst R (first-of (rest-of pair)) (subst Q (first-of pair) (subst P same s.items)))

-- two shapes of a source are the same
pub record SameShape (name first second : List ℕ) (parameters : List Item) (flow : Expression) (name' first' second' : List ℕ) (parameters' : List Item) (flow' : Expression) : Type 0 where
  pub names : name ≡ name'
  pub firsts : first ≡ first'
  pub seconds : second ≡ second'
  pub items : parameters ≡ parameters'
  pub flows : flow ≡ flow'

same-items : (items : List Item) (first second : List ℕ) (parameters parameters' : List Item) (flow flow' : Expression)
    → HasItems items first second parameters flow → HasItems items first second parameters' flow'
    → (parameters ≡ parameters') × (flow ≡ flow')
same-items items first second parameters parameters' flow flow' h k =
    let ends = last-same parameters parameters' h.contribution k.contribution (rest-of (rest-of (sym h.listed ∙ k.listed))) in
    (ends.0, some-injective flow flow' (sym h.flow_is ∙ ap (λ i. flow_of first second i.body) ends.1 ∙ k.flow_is))

pub same-shape : (source : Source) (name first second : List ℕ) (parameters : List Item) (flow : Expression)
    (name' first' second' : List ℕ) (parameters' : List Item) (flow' : Expression)
    → HasShape source name first second parameters flow → HasShape source name' first' second' parameters' flow'
    → SameShape name first second parameters flow name' first' second' parameters' flow'
same-shape source name first second parameters flow name' first' second' parameters' flow' s t =
    let same : s.only ≡ t.only = first-of (sym s.modules ∙ t.modules) in
    let pair : first ∷ second ∷ [] ≡ first' ∷ second' ∷ [] = sym s.ports ∙ ap (λ m. names_of m.ports) same ∙ t.ports in
    let P : Module → Type 0 = λ m. HasItems m.items first second parameters flow in
    let Q : List ℕ → Type 0 = λ n. HasItems t.only.items n second parameters flow in
    let R : List ℕ → Type 0 = λ n. HasItems t.only.items first' n parameters flow in
    let r = same-items t.only.items first' second' parameters parameters' flow flow'
    (subst R (first-of (rest-of pair)) (subst Q (first-of pair) (subst P same s.items))) t.items in
    record {
      names = sym s.name_is ∙ ap (λ m. m.name) same ∙ t.name_is;
      firsts = first-of pair;
      seconds = first-of (rest-of pair);
      items = r.0;
      flows = r.1;
    }

-- the names that items declare are their only ones
some-same : (names names' : List (List ℕ)) → map Some names ≡ map Some names' → names ≡ names'
some-same [] [] e = refl
some-same [] (y ∷ ys) e = cc
some-same (x ∷ xs) [] e = cc
some-same (x ∷ xs) (y ∷ ys) e = λ j. some-injective x y (first-of e) j ∷ some-same xs ys (rest-of e) j

pub same-names : (items items' : List Item) (names names' : List (List ℕ)) → items ≡ items' → AreNamed items names → AreNamed items' names'
    → names ≡ names'
same-names items items' names names' e h k =
    let P : List Item → Type 0 = λ is. AreNamed is names in some-same names names' (sym (subst P e h) ∙ k)

-- the parts of a source of the form are its only ones
same-form : (source : Source) (form other : FirstForm) → IsSourceOfForm source form → IsSourceOfForm source other → other ≡ form
same-form source form other s t =
    let h = same-shape source other.name other.first other.second t.parts.parameters other.flow form.name form.first form.second s.parts.parameters form.flow
    t.parts.shape s.parts.shape in
    let p = same-names t.parts.parameters s.parts.parameters other.params form.params h.items t.parts.named s.parts.named in
    λ j. record { name = h.names j; first = h.firsts j; second = h.seconds j; params = p j; flow = h.flows j }

-- what the parts keep, where the parameters have these names
abbrev Keeps : List (List ℕ) → List ℕ → List ℕ → List ℕ → List Item → Expression → Type 0
Keeps params name first second items flow =
    IsHeader name first second × HasNames first second items params × IsSum first second params flow × (open_in flow ≤ 100)

form-keeps : (source : Source) (form : FirstForm) (is : IsSourceOfForm source form)
    → Keeps form.params form.name form.first form.second is.parts.parameters form.flow
form-keeps source form is =
    let free = is.in_order.free in
    let others = and-right (is_free form.name) (is_free form.first && (is_free form.second && list_all is_free form.params)) free in
    let last = and-right (is_free form.first) (is_free form.second && list_all is_free form.params) others in (
      record {
        name_free = and-left (is_free form.name) (is_free form.first && (is_free form.second && list_all is_free form.params)) free;
        first_free = and-left (is_free form.first) (is_free form.second && list_all is_free form.params) others;
        second_free = and-left (is_free form.second) (list_all is_free form.params) last;
        apart = ports-apart form.first form.second form.params is.in_order.distinct;
      },
      record {
        named = is.parts.named;
        free = and-right (is_free form.second) (list_all is_free form.params) last;
        distinct = is.in_order.distinct;
        few = is.in_order.few;
      },
      is.in_order.sum,
      is.in_order.shallow,
    )

-- the shape of a source of the form keeps what the form's parts keep
pub shape-keeps : (source : Source) (shape : Shape) (form : FirstForm)
    → HasShape source shape.name.now shape.first.now shape.second.now shape.parameters.now (expression_of shape.flow.now)
    → IsSourceOfForm source form → IsShapeOfForm shape form.params
shape-keeps source shape form s is =
    let h = same-shape source form.name form.first form.second is.parts.parameters form.flow
    shape.name.now shape.first.now shape.second.now shape.parameters.now (expression_of shape.flow.now) is.parts.shape s in
    let K = Keeps form.params in
    let A : List ℕ → Type 0 = λ x. K x form.first form.second is.parts.parameters form.flow in
    let B : List ℕ → Type 0 = λ x. K shape.name.now x form.second is.parts.parameters form.flow in
    let C : List ℕ → Type 0 = λ x. K shape.name.now shape.first.now x is.parts.parameters form.flow in
    let D : List Item → Type 0 = λ x. K shape.name.now shape.first.now shape.second.now x form.flow in
    let E : Expression → Type 0 = λ x. K shape.name.now shape.first.now shape.second.now shape.parameters.now x in
    let k = subst E h.flows (subst D h.items (subst C h.seconds (subst B h.firsts (subst A h.names (form-keeps source form is))))) in
    record { header = k.0; params = k.1; sum = k.2; shallow = k.3 }

-- a module that is made of the shape of a source is made of the source
pub source-read : (source : Source) (shape : Shape) (tree : ShortModule)
    → HasShape source shape.name.now shape.first.now shape.second.now shape.parameters.now (expression_of shape.flow.now)
    → ReadsShape shape tree → ReadsSource source tree
source-read source shape tree s r =
    let form : FirstForm = record {
      name = shape.name.now;
      first = shape.first.now;
      second = shape.second.now;
      params = r.names;
      flow = expression_of shape.flow.now;
    } in
    let h = r.is.header in
    let parts : IsSourceOfForm source form = record {
      parts = record { parameters = shape.parameters.now; shape = s; named = r.is.params.named };
      in_order = record {
        free = and-both (is_free form.name) (is_free form.first && (is_free form.second && list_all is_free form.params)) h.name_free
            (and-both (is_free form.first) (is_free form.second && list_all is_free form.params) h.first_free
            (and-both (is_free form.second) (list_all is_free form.params) h.second_free r.is.params.free));
        distinct = r.is.params.distinct;
        few = r.is.params.few;
        sum = r.is.sum;
        shallow = r.is.shallow;
      };
    } in
    record {
      form = form;
      parts = parts;
      only = λ other t. same-form source form other parts t;
      unknowns = r.unknowns;
      params = r.params;
      eval = r.eval;
      loads = r.loads;
    }

-- the parameters and the flow of a shape were read
pub shape-read : (shape : Shape) (scope : Scope) (tree : ShortModule) → scope.first ≡ shape.first → scope.second ≡ shape.second
    → IsHeader shape.name.now shape.first.now shape.second.now
    → HasNames shape.first.now shape.second.now shape.parameters.now scope.names → ReadsFlow scope (expression_of shape.flow.now) tree
    → ReadsShape shape tree
shape-read shape scope tree e f header names r =
    let P : List ℕ → Type 0 = λ x. IsSum x scope.second.now scope.names (expression_of shape.flow.now) in
    let Q : List ℕ → Type 0 = λ x. IsSum shape.first.now x scope.names (expression_of shape.flow.now) in
    record {
      names = scope.names;
      is = record {
        header = header;
        params = names;
        sum = subst Q (ap (λ b. b.now) f) (subst P (ap (λ b. b.now) e) r.is.sum);
        shallow = r.is.shallow;
      };
      unknowns = r.unknowns;
      params = r.params;
      eval = r.eval;
      loads = r.loads;
    }

-- where the flow is none of the form, nor is the shape
pub flow-unread : (shape : Shape) (scope : Scope) → scope.first ≡ shape.first → scope.second ≡ shape.second
    → HasNames shape.first.now shape.second.now shape.parameters.now scope.names
    → (IsSumIn scope 100 (expression_of shape.flow.now) → ⊥) → (names : List (List ℕ)) → IsShapeOfForm shape names → ⊥
flow-unread shape scope e f own none names k =
    let same = same-names shape.parameters.now shape.parameters.now names scope.names refl k.params.named own.named in
    let P : List ℕ → Type 0 = λ x. IsSum x shape.second.now scope.names (expression_of shape.flow.now) in
    let Q : List ℕ → Type 0 = λ x. IsSum scope.first.now x scope.names (expression_of shape.flow.now) in
    let N : List (List ℕ) → Type 0 = λ ns. IsSum shape.first.now shape.second.now ns (expression_of shape.flow.now) in
    none (record {
      sum = subst Q (ap (λ b. b.now) (sym f)) (subst P (ap (λ b. b.now) (sym e)) (subst N same k.sum));
      shallow = k.shallow;
    })
