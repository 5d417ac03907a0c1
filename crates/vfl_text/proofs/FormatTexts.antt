-- The canonical text of a format means that format.
use Rattle.std.proofs.Common.{◌≡◌, ℕ, zero, suc, pos, ◌+◌, ◌<◌, true, false, List, [], ◌∷◌, ◌++◌, length, Option, Some, None, inl, inr, refl, sym, subst, arith, append_assoc}
use Rattle.std.specs.Prelude.{negsuc, neg_ℤ}
use Rattle.std.proofs.lemmas.List.{append-nil}
use Rattle.std.proofs.lemmas.Bool.Decides.{nat_tests}
use Rattle.problem_core.specs.declared.parts.Rel as relation
use Rattle.problem_core.specs.declared.parts.Rel.TheVariants as rel
use Rattle.span_text.specs.Language.{Rel, Or, End, Words, NotStart}
use Rattle.span_text.specs.Classes.{is_space, is_digit, is_letter}
use Rattle.span_text.specs.Tokens.{Blanks, Sign, Name, Number}
use Rattle.span_text.specs.Loops.{Rounds, Loop}
use Rattle.span_text.specs.Objects as object
use Rattle.span_text.specs.Objects.{Meant}
use Rattle.vfl_text.specs.declared.parts.Axis.{Axis}
use Rattle.vfl_text.specs.declared.parts.Axis.TheVariants as axis
use Rattle.vfl_text.specs.Formats.{PredMeaning, SpacingMeaning, Flush, Standard, Given, ItemMeaning, FormatMeaning}
use Rattle.vfl_text.specs.Grammar.{relations, Value, Object, pred, Priority, Ruled, Pred, PredRound, Preds, item, View, single, Spaced, Connection, with_item, with_end, Next, Round, Orientation, FromParent, started, FormatText}
use Rattle.vfl_text.specs.Text.{number_text, object_text, relation_text, priority_text, pred_text, more_text, list_text, sizes_text, item_text, is_simple, given_text, spacing_text, axis_text, from_text, to_text, chain_text, views_text, format_text}
use Rattle.vfl_text.specs.Writable.{IsName, IsObject, IsValue, IsPriority, IsPred, ArePreds, IsSpacing, AreSpacings, IsEnd, AreItems, IsWritable}
use Rattle.span_text.proofs.PieceLemmas.{bool_tells}
use Rattle.vfl_text.proofs.NumberTexts.{IsApart, blanks_made, sign_made, name_made, number_made, number_apart, name_apart}

letter_no_space : (b : ℕ) → is_letter b ≡ true → is_space b ≡ false
letter_no_space b h = grind (arith, nat_tests)

digit_no_space : (b : ℕ) → is_digit b ≡ true → is_space b ≡ false
digit_no_space b h = grind (arith, nat_tests)

object_no_space : (o : Meant) (s : List ℕ) → IsObject o → NotStart is_space (object_text o ++ s)
object_no_space (object.Number (pos n)) s is = number_apart is_space digit_no_space n s is
object_no_space (object.Number (negsuc n)) s is = refl
object_no_space (object.Name n) s is = name_apart is_space letter_no_space n s is

pub value_is_object : (o : Meant) → IsValue o → IsObject o
value_is_object (object.Number (pos n)) is = is
value_is_object (object.Number (negsuc n)) is = absurd is
value_is_object (object.Name n) is = is

value_made : {A : Type 0} (F : Meant → Rel A) (o : Meant) (s : List ℕ) (v : A) → IsValue o → IsApart s → F o s v → Value F (object_text o ++ s) v
value_made F (object.Number (pos n)) s v is apart h = inr (number_made (λ n. F (object.Number (pos n))) n s v is apart h)
value_made F (object.Number (negsuc n)) s v is apart h = absurd is
value_made F (object.Name n) s v is apart h = inl (name_made (λ n. F (object.Name n)) n s v is apart h)

object_made : {A : Type 0} (F : Meant → Rel A) (o : Meant) (s : List ℕ) (v : A) → IsObject o → IsApart s → F o s v → Object F (object_text o ++ s) v
object_made F (object.Number (pos n)) s v is apart h = inr (value_made F (object.Number (pos n)) s v is apart h)
object_made F (object.Number (negsuc n)) s v is apart h = inl (sign_made 45 (Number (λ n. F (object.Number (neg_ℤ (pos n))))) (number_text (suc n) ++ s) v (number_apart is_space digit_no_space (suc n) s is)
    (number_made (λ n. F (object.Number (neg_ℤ (pos n)))) (suc n) s v is apart h))
object_made F (object.Name n) s v is apart h = inr (value_made F (object.Name n) s v is apart h)

-- behind an object stands a priority or the end of its predicate
priority_apart : (p : Option Meant) (s : List ℕ) → IsApart s → IsApart (priority_text p ++ s)
priority_apart None s apart = apart
priority_apart (Some p) s apart = record { word = refl; space = refl; point = refl }

priority_made : {A : Type 0} (r : relation.Rel) (o : Meant) (F : PredMeaning → Rel A) (p : Option Meant) (s : List ℕ) (v : A) → IsPriority p → IsApart s → F (pred r o p) s v → Priority r o F (priority_text p ++ s) v
priority_made r o F None s v is apart h = inr h
priority_made r o F (Some p) s v is apart h = inl (sign_made 64 (Value (λ p. F (pred r o (Some p)))) (object_text p ++ s) v (object_no_space p s (value_is_object p is)) (value_made (λ p. F (pred r o (Some p))) p s v is apart h))

ruled_made : {A : Type 0} (F : PredMeaning → Rel A) (p : PredMeaning) (s : List ℕ) (v : A) → IsPred p → IsApart s → F p s v → Ruled p.rel F (object_text p.object ++ (priority_text p.priority ++ s)) v
ruled_made F p s v is apart h = object_made (λ o. Priority p.rel o F) p.object (priority_text p.priority ++ s) v is.0 (priority_apart p.priority s apart) (priority_made p.rel p.object F p.priority s v is.1 apart h)

relation_made : {A : Type 0} (F : relation.Rel → Rel A) (r : relation.Rel) (s : List ℕ) (v : A) → NotStart is_space s → F r s v → Words relations (λ r. Blanks (F r)) (relation_text r ++ s) v
relation_made F rel.Eq s v n h = inl (s, refl, blanks_made (F rel.Eq) s v n h)
relation_made F rel.Le s v n h = inr (inl (s, refl, blanks_made (F rel.Le) s v n h))
relation_made F rel.Ge s v n h = inr (inr (inl (s, refl, blanks_made (F rel.Ge) s v n h)))

pred_made : {A : Type 0} (F : PredMeaning → Rel A) (p : PredMeaning) (s : List ℕ) (v : A) → IsPred p → IsApart s → F p s v → Pred F (pred_text p ++ s) v
pred_made F p s v is apart h =
    rw (append_assoc (relation_text p.rel) (object_text p.object ++ priority_text p.priority) s, append_assoc (object_text p.object) (priority_text p.priority) s)
    (inl (relation_made (λ r. Ruled r F) p.rel (object_text p.object ++ (priority_text p.priority ++ s)) v (object_no_space p.object (priority_text p.priority ++ s) is.0) (ruled_made F p s v is apart h)))

relation_no_space : (r : relation.Rel) (s : List ℕ) → NotStart is_space (relation_text r ++ s)
relation_no_space rel.Eq s = refl
relation_no_space rel.Le s = refl
relation_no_space rel.Ge s = refl

pred_no_space : (p : PredMeaning) (s : List ℕ) → NotStart is_space (pred_text p ++ s)
pred_no_space p s = rw (append_assoc (relation_text p.rel) (object_text p.object ++ priority_text p.priority) s) (relation_no_space p.rel ((object_text p.object ++ priority_text p.priority) ++ s))

rounds_made : {A : Type 0} (F : List PredMeaning → Rel A) (s : List ℕ) (v : A) → NotStart is_space s → (ps : List PredMeaning) (p : PredMeaning) (before : List PredMeaning) → IsPred p → ArePreds ps → F (before ++ p ∷ ps) s v
    → Rounds (PredRound F) (suc (length ps)) before (pred_text p ++ (more_text ps ++ 41 ∷ s)) v
rounds_made F s v n [] p before is are h =
    pred_made (λ p. Or (Sign 44 (Rounds (PredRound F) zero (before ++ p ∷ []))) (Sign 41 (F (before ++ p ∷ [])))) p (41 ∷ s) v is (record { word = refl; space = refl; point = refl })
    (inr (sign_made 41 (F (before ++ p ∷ [])) s v n h))
rounds_made F s v n (q ∷ ps) p before is are h =
    pred_made (λ p. Or (Sign 44 (Rounds (PredRound F) (suc (length ps)) (before ++ p ∷ []))) (Sign 41 (F (before ++ p ∷ [])))) p (44 ∷ ((pred_text q ++ more_text ps) ++ 41 ∷ s)) v is (record { word = refl; space = refl; point = refl })
    (inl (rw (append_assoc (pred_text q) (more_text ps) (41 ∷ s)) (sign_made 44 (Rounds (PredRound F) (suc (length ps)) (before ++ p ∷ [])) (pred_text q ++ (more_text ps ++ 41 ∷ s)) v (pred_no_space q (more_text ps ++ 41 ∷ s))
    (rounds_made F s v n ps q (before ++ p ∷ []) are.0 are.1 (subst (λ (qs : List PredMeaning). F qs s v) (sym (append_assoc before (p ∷ []) (q ∷ ps))) h)))))

list_made : {A : Type 0} (F : List PredMeaning → Rel A) (ps : List PredMeaning) (s : List ℕ) (v : A) → 0 < length ps → ArePreds ps → NotStart is_space s → F ps s v → Preds F (list_text ps ++ s) v
list_made F [] s v some are n h = absurd (omega arith)
list_made F (p ∷ ps) s v some are n h =
    rw (append_assoc (pred_text p ++ more_text ps) (41 ∷ []) s, append_assoc (pred_text p) (more_text ps) (41 ∷ s))
    (sign_made 40 (Loop (PredRound F) []) (pred_text p ++ (more_text ps ++ 41 ∷ s)) v (pred_no_space p (more_text ps ++ 41 ∷ s)) (suc (length ps), rounds_made F s v n ps p [] are.0 are.1 h))

sizes_apart : (ps : List PredMeaning) (s : List ℕ) → IsApart ((sizes_text ps ++ 93 ∷ []) ++ s)
sizes_apart [] s = record { word = refl; space = refl; point = refl }
sizes_apart (p ∷ ps) s = record { word = refl; space = refl; point = refl }

sizes_made : {A : Type 0} (F : ItemMeaning → Rel A) (n : List ℕ) (ps : List PredMeaning) (s : List ℕ) (v : A) → ArePreds ps → NotStart is_space s → F (item n ps) s v → Or (Preds (λ ps. Sign 93 (F (item n ps)))) (Sign 93 (F (item n []))) ((sizes_text ps ++ 93 ∷ []) ++ s) v
sizes_made F n [] s v are apart h = inr (sign_made 93 (F (item n [])) s v apart h)
sizes_made F n (p ∷ ps) s v are apart h = inl (rw (append_assoc (list_text (p ∷ ps)) (93 ∷ []) s) (list_made (λ ps. Sign 93 (F (item n ps))) (p ∷ ps) (93 ∷ s) v (omega arith) are refl (sign_made 93 (F (item n (p ∷ ps))) s v apart h)))

view_made : {A : Type 0} (F : ItemMeaning → Rel A) (i : ItemMeaning) (s : List ℕ) (v : A) → IsName i.name → ArePreds i.sizes → NotStart is_space s → F i s v → View F (item_text i ++ s) v
view_made F i s v is are apart h =
    rw (append_assoc i.name (sizes_text i.sizes ++ 93 ∷ []) s)
    (sign_made 91 (Name (λ n. Or (Preds (λ ps. Sign 93 (F (item n ps)))) (Sign 93 (F (item n []))))) (i.name ++ ((sizes_text i.sizes ++ 93 ∷ []) ++ s)) v (name_apart is_space letter_no_space i.name ((sizes_text i.sizes ++ 93 ∷ []) ++ s) is)
    (name_made (λ n. Or (Preds (λ ps. Sign 93 (F (item n ps)))) (Sign 93 (F (item n [])))) i.name ((sizes_text i.sizes ++ 93 ∷ []) ++ s) v is (sizes_apart i.sizes s) (sizes_made F i.name i.sizes s v are apart h)))

-- what is written without parentheses and relation
abbrev IsSimple : PredMeaning → Type 0
IsSimple p = (single p.object ≡ p ∷ []) × IsValue p.object

simple_is : (r : relation.Rel) (o : Meant) (p : Option Meant) → is_simple (pred r o p) ≡ true → IsObject o → IsSimple (pred r o p)
simple_is rel.Eq (object.Number (pos n)) None e is = (refl, is)
simple_is rel.Eq (object.Number (negsuc n)) None e is = absurd cc
simple_is rel.Eq (object.Name n) None e is = (refl, is)
simple_is rel.Eq o (Some p) e is = absurd cc
simple_is rel.Le o p e is = absurd cc
simple_is rel.Ge o p e is = absurd cc

given_no_space : (ps : List PredMeaning) (s : List ℕ) → ArePreds ps → NotStart is_space (given_text ps ++ s)
given_no_space [] s are = refl
given_no_space (p ∷ []) s are = elim (bool_tells (is_simple p)) [ inl t ↦ rw t (object_no_space p.object s are.0.0) | inr t ↦ rw t refl ]
given_no_space (p ∷ q ∷ ps) s are = refl

given_made : {A : Type 0} (F : SpacingMeaning → Rel A) (ps : List PredMeaning) (s : List ℕ) (v : A) → 0 < length ps → ArePreds ps → NotStart is_space s → F (Given ps) s v → Spaced F (given_text ps ++ 45 ∷ s) v
given_made F [] s v some are n h = absurd (omega arith)
given_made F (p ∷ []) s v some are n h = elim (bool_tells (is_simple p)) [
  | inl t ↦ rw t (let is = simple_is p.rel p.object p.priority t are.0.0 in
      inr (inl (value_made (λ o. Sign 45 (F (Given (single o)))) p.object (45 ∷ s) v is.1 (record { word = refl; space = refl; point = refl })
      (sign_made 45 (F (Given (single p.object))) s v n (subst (λ (qs : List PredMeaning). F (Given qs) s v) (sym is.0) h)))))
  | inr t ↦ rw t (inl (list_made (λ ps. Sign 45 (F (Given ps))) (p ∷ []) (45 ∷ s) v some are refl (sign_made 45 (F (Given (p ∷ []))) s v n h)))
]
given_made F (p ∷ q ∷ ps) s v some are n h = inl (list_made (λ ps. Sign 45 (F (Given ps))) (p ∷ q ∷ ps) (45 ∷ s) v some are refl (sign_made 45 (F (Given (p ∷ q ∷ ps))) s v n h))

spacing_no_space : (g : SpacingMeaning) (s : List ℕ) → NotStart is_space s → NotStart is_space (spacing_text g ++ s)
spacing_no_space Flush s n = n
spacing_no_space Standard s n = refl
spacing_no_space (Given ps) s n = refl

connection_made : {A : Type 0} (F : SpacingMeaning → Rel A) (g : SpacingMeaning) (s : List ℕ) (v : A) → IsSpacing g → NotStart is_space s → F g s v → Connection F (spacing_text g ++ s) v
connection_made F Flush s v is n h = inr h
connection_made F Standard s v is n h = inl (sign_made 45 (Spaced F) s v n (inr (inr h)))
connection_made F (Given ps) s v is n h = inl (rw (append_assoc (given_text ps) (45 ∷ []) s) (sign_made 45 (Spaced F) (given_text ps ++ 45 ∷ s) v (given_no_space ps (45 ∷ s) is.1) (given_made F ps s v is.0 is.1 n h)))

-- the format with these views and this end behind its own
abbrev finished : FormatMeaning → List SpacingMeaning → List ItemMeaning → Option SpacingMeaning → FormatMeaning
finished f gs is t = record { axis = f.axis; from_parent = f.from_parent; items = f.items ++ is; spacings = f.spacings ++ gs; to_parent = t }

to_no_space : (t : Option SpacingMeaning) → NotStart is_space (to_text t)
to_no_space None = tt
to_no_space (Some g) = spacing_no_space g (124 ∷ []) refl

chain_no_space : (gs : List SpacingMeaning) (is : List ItemMeaning) (t : Option SpacingMeaning) → NotStart is_space (chain_text gs is ++ to_text t)
chain_no_space [] is t = to_no_space t
chain_no_space (g ∷ gs) [] t = to_no_space t
chain_no_space (g ∷ gs) (i ∷ is) t = rw (append_assoc (spacing_text g) (item_text i ++ chain_text gs is) (to_text t)) (spacing_no_space g ((item_text i ++ chain_text gs is) ++ to_text t) refl)

end_made : (f : FormatMeaning) (t : Option SpacingMeaning) → IsEnd t → f.to_parent ≡ None → Loop Round f (to_text t) (finished f [] [] t)
end_made f None is none = (1, inr (refl, rw (append-nil f.items, append-nil f.spacings, none) refl))
end_made f (Some g) is none = (
  1,
  inl (connection_made (λ g. Next (Rounds Round zero) f g) g (124 ∷ []) (finished f [] [] (Some g)) is refl
      (inr (sign_made 124 (End (with_end f g)) [] (finished f [] [] (Some g)) tt (refl, rw (append-nil f.items, append-nil f.spacings) refl)))),
)

chain_made : (gs : List SpacingMeaning) (is : List ItemMeaning) (t : Option SpacingMeaning) (f : FormatMeaning) → length gs ≡ length is → AreSpacings gs → AreItems is → IsEnd t → f.to_parent ≡ None → Loop Round f (chain_text gs is ++ to_text t) (finished f gs is t)
chain_made [] [] t f same spacings items end none = end_made f t end none
chain_made [] (i ∷ is) t f same spacings items end none = absurd (omega arith)
chain_made (g ∷ gs) [] t f same spacings items end none = absurd (omega arith)
chain_made (g ∷ gs) (i ∷ is) t f same spacings items end none =
    let (n, rest) = chain_made gs is t (with_item f g i) (omega arith) spacings.1 items.1 end none in
    let moved : Rounds Round n (with_item f g i) (chain_text gs is ++ to_text t) (finished f (g ∷ gs) (i ∷ is) t) =
    subst (λ (v : FormatMeaning). Rounds Round n (with_item f g i) (chain_text gs is ++ to_text t) v) (rw (append_assoc f.items (i ∷ []) is, append_assoc f.spacings (g ∷ []) gs) refl) rest in
    rw (append_assoc (spacing_text g) (item_text i ++ chain_text gs is) (to_text t), append_assoc (item_text i) (chain_text gs is) (to_text t)) (
      suc n,
      inl (connection_made (λ g. Next (Rounds Round n) f g) g (item_text i ++ (chain_text gs is ++ to_text t)) (finished f (g ∷ gs) (i ∷ is) t) spacings.0 refl
          (inl (view_made (λ i. Rounds Round n (with_item f g i)) i (chain_text gs is ++ to_text t) (finished f (g ∷ gs) (i ∷ is) t) items.0.0 items.0.1 (chain_no_space gs is t) moved))),
    )

axis_made : {A : Type 0} (F : Axis → Rel A) (a : Axis) (s : List ℕ) (v : A) → NotStart is_space s → F a s v → Orientation F (axis_text a ++ s) v
axis_made F axis.H s v n h = inl (inl (58 ∷ s, refl, blanks_made (Sign 58 (F axis.H)) (58 ∷ s) v refl (sign_made 58 (F axis.H) s v n h)))
axis_made F axis.V s v n h = inl (inr (inl (58 ∷ s, refl, blanks_made (Sign 58 (F axis.V)) (58 ∷ s) v refl (sign_made 58 (F axis.V) s v n h))))

from_made : {A : Type 0} (F : Option SpacingMeaning → Rel A) (g : Option SpacingMeaning) (s : List ℕ) (v : A) → IsEnd g → NotStart is_space s → F g s v → FromParent F (from_text g ++ s) v
from_made F None s v is n h = inr h
from_made F (Some g) s v is n h = inl (sign_made 124 (Connection (λ g. F (Some g))) (spacing_text g ++ s) v (spacing_no_space g s n) (connection_made (λ g. F (Some g)) g s v is n h))

from_no_space : (g : Option SpacingMeaning) (s : List ℕ) → NotStart is_space s → NotStart is_space (from_text g ++ s)
from_no_space None s n = n
from_no_space (Some g) s n = refl

axis_no_space : (a : Axis) (s : List ℕ) → NotStart is_space (axis_text a ++ s)
axis_no_space axis.H s = refl
axis_no_space axis.V s = refl

parts_made : (a : Axis) (g : Option SpacingMeaning) (is : List ItemMeaning) (gs : List SpacingMeaning) (t : Option SpacingMeaning) → IsEnd g → AreItems is → AreSpacings gs → IsEnd t → length gs + 1 ≡ length is
    → FormatText (axis_text a ++ (from_text g ++ (views_text gs is ++ to_text t))) (record { axis = a; from_parent = g; items = is; spacings = gs; to_parent = t })
unfolding FormatText
parts_made a g [] gs t from items spacings end between = absurd (omega arith)
parts_made a g (i ∷ is) gs t from items spacings end between =
    let v : FormatMeaning = record { axis = a; from_parent = g; items = i ∷ is; spacings = gs; to_parent = t } in
    rw (append_assoc (item_text i) (chain_text gs is) (to_text t))
    (blanks_made (Orientation (λ a. FromParent (λ g. View (λ i. Loop Round (started a g i))))) (axis_text a ++ (from_text g ++ (item_text i ++ (chain_text gs is ++ to_text t)))) v (axis_no_space a (from_text g ++ (item_text i ++ (chain_text gs is ++ to_text t))))
    (axis_made (λ a. FromParent (λ g. View (λ i. Loop Round (started a g i)))) a (from_text g ++ (item_text i ++ (chain_text gs is ++ to_text t))) v (from_no_space g (item_text i ++ (chain_text gs is ++ to_text t)) refl)
    (from_made (λ g. View (λ i. Loop Round (started a g i))) g (item_text i ++ (chain_text gs is ++ to_text t)) v from refl
    (view_made (λ i. Loop Round (started a g i)) i (chain_text gs is ++ to_text t) v items.0.0 items.0.1 (chain_no_space gs is t)
    (chain_made gs is t (started a g i) (omega arith) spacings items.1 end refl)))))

-- a format that can be written is what its text means
pub format_made : (f : FormatMeaning) → IsWritable f → FormatText (format_text f) f
unfolding format_text
format_made f is = parts_made f.axis f.from_parent f.items f.spacings f.to_parent is.from_parent is.items is.spacings is.to_parent is.between
