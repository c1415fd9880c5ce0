-- The least of lists that are put together in one order or another, and of the elements of a list.
use Rattle.std.proofs.Common.{◌≡◌, ◌<◌, ◌+◌, ℕ, List, ◌∷◌, ◌++◌, length, get_or, drop, drop-cons, refl, ap, sym, ◌∙◌, append_assoc, add-one, arith}
use Rattle.std.specs.Prelude.{Option, Some, None}
use Rattle.std.specs.List.{flat_map}
use Rattle.c_tree.specs.Form.{least_of}
use Rattle.c_form.specs.Blames.{Blames, lesser}
use Rattle.c_form.proofs.Blaming.{◌▸◌, least_append, lesser-assoc, lesser-none}

pub lesser-swap : (a b : Option ℕ) → lesser a b ≡ lesser b a
lesser-swap None b = sym (lesser-none b)
lesser-swap (Some x) None = refl
lesser-swap (Some x) (Some y) = ap (λ n. Some n) (omega arith)

-- two pairs, put together crosswise
pub lesser-cross : (a b c d : Option ℕ) → lesser (lesser a b) (lesser c d) ≡ lesser (lesser a c) (lesser b d)
lesser-cross a b c d =
    lesser-assoc a b (lesser c d)
    ∙ ap (lesser a) (sym (lesser-assoc b c d) ∙ ap (λ l. lesser l d) (lesser-swap b c) ∙ lesser-assoc c b d)
    ∙ sym (lesser-assoc a c (lesser b d))

pub least-both : (x y u v : List ℕ) → least_of x ≡ least_of u → least_of y ≡ least_of v → least_of (x ++ y) ≡ least_of (u ++ v)
least-both x y u v e f =
    least_append x y ∙ ap (λ l. lesser l (least_of y)) e ∙ ap (lesser (least_of u)) f ∙ sym (least_append u v)

pub least-more : (x y v : List ℕ) → least_of y ≡ least_of v → least_of (x ++ y) ≡ least_of (x ++ v)
least-more x y v f = least-both x y x v refl f

-- the same of lists
pub least-cross : (a b c d : List ℕ) → least_of ((a ++ b) ++ (c ++ d)) ≡ least_of ((a ++ c) ++ (b ++ d))
least-cross a b c d =
    four a b c d ∙ lesser-cross (least_of a) (least_of b) (least_of c) (least_of d) ∙ sym (four a c b d)
  where
    four : (a b c d : List ℕ) → least_of ((a ++ b) ++ (c ++ d)) ≡ lesser (lesser (least_of a) (least_of b)) (lesser (least_of c) (least_of d))
    four a b c d =
        least_append (a ++ b) (c ++ d) ∙ ap (λ l. lesser l (least_of (c ++ d))) (least_append a b)
        ∙ ap (lesser (lesser (least_of a) (least_of b))) (least_append c d)

-- what two rules find in the blocks of a loop, and in those of a choice
pub least-loop : (dx dr rx rr sx sr : List ℕ) → least_of dx ≡ least_of (rx ++ sx) → least_of dr ≡ least_of (rr ++ sr)
    → least_of (dx ++ dr) ≡ least_of ((rx ++ rr) ++ (sx ++ sr))
least-loop dx dr rx rr sx sr e f = least-both dx dr (rx ++ sx) (rr ++ sr) e f ∙ least-cross rx sx rr sr

-- what stands before two lists
pub least-front : (r x z w : List ℕ) → least_of x ≡ least_of (z ++ w) → least_of (r ++ x) ≡ least_of ((r ++ z) ++ w)
least-front r x z w e = least-more r x (z ++ w) e ∙ ap least_of (sym (append_assoc r z w))

-- two arms behind what stands before them
pub least-arms : (h dx dy rx ry sx sy : List ℕ) → least_of dx ≡ least_of (rx ++ sx) → least_of dy ≡ least_of (ry ++ sy)
    → least_of ((h ++ dx) ++ dy) ≡ least_of ((h ++ (rx ++ ry)) ++ (sx ++ sy))
least-arms h dx dy rx ry sx sy e f =
    least_append (h ++ dx) dy ∙ ap (λ l. lesser l (least_of dy)) (least_append h dx)
    ∙ lesser-assoc (least_of h) (least_of dx) (least_of dy)
    ∙ ap (lesser (least_of h)) (sym (least_append dx dy))
    ∙ sym (least_append h (dx ++ dy))
    ∙ least-front h (dx ++ dy) (rx ++ ry) (sx ++ sy) (least-loop dx dy rx ry sx sy e f)

pub least-choice : (h dx dy dr rx ry rr sx sy sr : List ℕ) → least_of dx ≡ least_of (rx ++ sx) → least_of dy ≡ least_of (ry ++ sy)
    → least_of dr ≡ least_of (rr ++ sr)
    → least_of (((h ++ dx) ++ dy) ++ dr) ≡ least_of ((h ++ ((rx ++ ry) ++ rr)) ++ ((sx ++ sy) ++ sr))
least-choice h dx dy dr rx ry rr sx sy sr e f g =
    least-both ((h ++ dx) ++ dy) dr ((h ++ (rx ++ ry)) ++ (sx ++ sy)) (rr ++ sr) (least-arms h dx dy rx ry sx sy e f) g
    ∙ least-cross (h ++ (rx ++ ry)) (sx ++ sy) rr sr
    ∙ least-both ((h ++ (rx ++ ry)) ++ rr) ((sx ++ sy) ++ sr) (h ++ ((rx ++ ry) ++ rr)) ((sx ++ sy) ++ sr)
    (ap least_of (append_assoc h (rx ++ ry) rr)) refl

-- the arms of the `if` that a local waited for
pub least-joined : (h dx dy dr rx ry sx sy : List ℕ) → least_of dx ≡ least_of (rx ++ sx) → least_of dy ≡ least_of (ry ++ sy)
    → least_of (((h ++ dx) ++ dy) ++ dr) ≡ least_of (((((h ++ rx) ++ ry) ++ sx) ++ sy) ++ dr)
least-joined h dx dy dr rx ry sx sy e f =
    least-both ((h ++ dx) ++ dy) dr ((((h ++ rx) ++ ry) ++ sx) ++ sy) dr
    (least-arms h dx dy rx ry sx sy e f ∙ ap least_of (ap (λ l. l ++ (sx ++ sy)) (sym (append_assoc h rx ry)) ∙ sym (append_assoc ((h ++ rx) ++ ry) sx sy)))
    refl

-- an element at a place, and those behind it
pub blames-here : {T : Type 0} (part : T → List ℕ) (old mid new : Option ℕ) (elements : List T) (k : ℕ) (d : T) → k < length elements
    → Blames old mid (part (get_or elements k d)) → Blames mid new (flat_map part (drop (k + 1) elements)) → Blames old new (flat_map part (drop k elements))
blames-here part old mid new elements k d h a b =
    let front : drop k elements ≡ get_or elements k d ∷ drop (k + 1) elements = rw add-one (drop-cons elements k d h) in
    rw front (a ▸ b)
