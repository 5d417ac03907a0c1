-- What a text means can be written.
use Rattle.std.proofs.Common.{◌≡◌, ℕ, zero, suc, pos, ◌+◌, ◌-◌, ◌*◌, ◌<◌, ◌≤◌, ◌^◌, true, List, [], ◌∷◌, ◌++◌, length, Option, Some, None, inl, inr, sym, subst, arith, length-append}
use Rattle.std.specs.Prelude.{neg_ℤ}
use Rattle.std.proofs.Math.Nat.{pow-succ', pow-le-pow_right, mul-le-mul_right}
use Rattle.problem_core.specs.declared.parts.Rel as relation
use Rattle.problem_core.specs.declared.parts.Rel.TheVariants as rel
use Rattle.span_text.specs.Language.{Rel, Or, End, Words, AllIn}
use Rattle.span_text.specs.Classes.{is_digit}
use Rattle.span_text.specs.Digits.{digits}
use Rattle.span_text.specs.Tokens.{Blanks, Sign, Name, Number, decimals}
use Rattle.span_text.specs.Loops.{Rounds, Loop}
use Rattle.span_text.specs.Objects as object
use Rattle.span_text.specs.Objects.{Meant}
use Rattle.vfl_text.specs.declared.parts.Axis.{Axis}
use Rattle.vfl_text.specs.declared.parts.Axis.TheVariants as axis
use Rattle.vfl_text.specs.Formats.{PredMeaning, SpacingMeaning, Flush, Standard, Given, ItemMeaning, FormatMeaning}
use Rattle.vfl_text.specs.Grammar.{relations, Value, Object, pred, Priority, Ruled, Pred, PredRound, Preds, item, View, single, Spaced, Connection, with_item, with_end, Next, Round, Orientation, FromParent, started, FormatText}
use Rattle.vfl_text.specs.Writable.{IsName, IsObject, IsValue, IsPred, ArePreds, IsSpacing, AreSpacings, IsEnd, AreItems, IsWritable}
use Rattle.vfl_text.proofs.FormatTexts.{value_is_object}
use Rattle.span_text.proofs.DigitLemmas.{digit_below as digit_small}

-- A text of a construct whose value has the property, and what follows.
abbrev Holds : {A B : Type 0} → (A → Type 0) → (A → Rel B) → B → Type 0
Holds {A} P F v = (a : A) × (t : List ℕ) × P a × F a t v

sign_holds : {A : Type 0} (c : ℕ) (F : Rel A) (s : List ℕ) (v : A) → Sign c F s v → (t : List ℕ) × F t v
sign_holds c F s v (t, e, (x, u, f, a, n, h)) = (u, h)

name_holds : {A : Type 0} (F : List ℕ → Rel A) (s : List ℕ) (v : A) → Name F s v → Holds IsName F v
name_holds F s v (b, t, e, l, (x, u, f, a, n, (g, w, i, c, m, h))) = (b ∷ x, w, (l, a), h)

digits_room : (a d p n : ℕ) → d < 10 → n < (10 * a + d + 1) * p → n < (a + 1) * (10 * p)
digits_room a d p n le h = let m : (10 * a + d + 1) * p ≤ (10 * a + 10) * p = mul-le-mul_right p (omega arith) in omega arith

digits_below : (a : ℕ) (x : List ℕ) → AllIn is_digit x → digits a x < (a + 1) * 10 ^ length x
digits_below a [] all = omega arith
digits_below a (b ∷ x) all = rw pow-succ' (digits_room a (b - 48) (10 ^ length x) (digits (10 * a + (b - 48)) x) (digit_small b all.0) (digits_below (10 * a + (b - 48)) x all.1))

whole_below : (x : List ℕ) → AllIn is_digit x → length x ≤ 6 → digits 0 x < 1000000
whole_below x all few =
    let h = digits_below 0 x all in
    let p : 10 ^ length x ≤ 10 ^ 6 = pow-le-pow_right {n = 10} (omega arith) few in
    omega (arith, h, p)

decimals_below : (d : ℕ) (y : List ℕ) → is_digit d ≡ true → AllIn is_digit y → length y ≤ 2 → decimals (d ∷ y) < 1000
decimals_below d [] e all few = let h = digit_small d e in omega (arith, h)
decimals_below d (b ∷ []) e all few = let h = digit_small d e in let i = digit_small b all.0 in omega (arith, h, i)
decimals_below d (b ∷ c ∷ []) e all few = let h = digit_small d e in let i = digit_small b all.0 in let j = digit_small c all.1.0 in omega (arith, h, i, j)
decimals_below d (b ∷ c ∷ f ∷ y) e all few = absurd (omega arith)

number_holds : {A : Type 0} (F : ℕ → Rel A) (s : List ℕ) (v : A) → Number F s v → Holds (λ n. n < 10 ^ 9) F v
number_holds F s v (b, t, e, c, (x, u, f, a, k, q, inl (z, g, (d, w, i, j, (y, o, l, m, p, r, (n, (g2, h2, i2, j2, k2, h))))))) =
    let w1 = whole_below (b ∷ x) (c, a) (omega arith) in
    let d1 = decimals_below d y j m p in
    (digits 0 (b ∷ x) * 1000 + decimals (d ∷ y), h2, omega (arith, w1, d1), h)
number_holds F s v (b, t, e, c, (x, u, f, a, k, q, inr (m, (n, (g2, h2, i2, j2, k2, h))))) =
    let w1 = whole_below (b ∷ x) (c, a) (omega arith) in
    (digits 0 (b ∷ x) * 1000, h2, omega (arith, w1), h)

value_holds : {A : Type 0} (F : Meant → Rel A) (s : List ℕ) (v : A) → Value F s v → Holds IsValue F v
value_holds F s v (inl h) = let (n, t, is, rest) = name_holds (λ n. F (object.Name n)) s v h in (object.Name n, t, is, rest)
value_holds F s v (inr h) = let (n, t, is, rest) = number_holds (λ n. F (object.Number (pos n))) s v h in (object.Number (pos n), t, is, rest)

negative_is : (n : ℕ) → n < 10 ^ 9 → IsObject (object.Number (neg_ℤ (pos n)))
negative_is zero h = omega arith
negative_is (suc n) h = h

object_holds : {A : Type 0} (F : Meant → Rel A) (s : List ℕ) (v : A) → Object F s v → Holds IsObject F v
object_holds F s v (inl h) =
    let (t, g) = sign_holds 45 (Number (λ n. F (object.Number (neg_ℤ (pos n))))) s v h in
    let (n, u, is, rest) = number_holds (λ n. F (object.Number (neg_ℤ (pos n)))) t v g in
    (object.Number (neg_ℤ (pos n)), u, negative_is n is, rest)
object_holds F s v (inr h) = let (o, t, is, rest) = value_holds F s v h in (o, t, value_is_object o is, rest)

priority_holds : {A : Type 0} (r : relation.Rel) (o : Meant) (F : PredMeaning → Rel A) (s : List ℕ) (v : A) → IsObject o → Priority r o F s v → Holds IsPred F v
priority_holds r o F s v is (inl h) =
    let (t, g) = sign_holds 64 (Value (λ p. F (pred r o (Some p)))) s v h in
    let (p, u, priority, rest) = value_holds (λ p. F (pred r o (Some p))) t v g in
    (pred r o (Some p), u, (is, priority), rest)
priority_holds r o F s v is (inr h) = (pred r o None, s, (is, tt), h)

ruled_holds : {A : Type 0} (r : relation.Rel) (F : PredMeaning → Rel A) (s : List ℕ) (v : A) → Ruled r F s v → Holds IsPred F v
ruled_holds r F s v h = let (o, t, is, rest) = object_holds (λ o. Priority r o F) s v h in priority_holds r o F t v is rest

relation_holds : {A : Type 0} (F : PredMeaning → Rel A) (s : List ℕ) (v : A) → Words relations (λ r. Blanks (Ruled r F)) s v → Holds IsPred F v
relation_holds F s v (inl (t, e, (x, u, f, a, n, h))) = ruled_holds rel.Eq F u v h
relation_holds F s v (inr (inl (t, e, (x, u, f, a, n, h)))) = ruled_holds rel.Le F u v h
relation_holds F s v (inr (inr (inl (t, e, (x, u, f, a, n, h))))) = ruled_holds rel.Ge F u v h
relation_holds F s v (inr (inr (inr h))) = absurd h

pred_holds : {A : Type 0} (F : PredMeaning → Rel A) (s : List ℕ) (v : A) → Pred F s v → Holds IsPred F v
pred_holds F s v (inl h) = relation_holds F s v h
pred_holds F s v (inr h) = ruled_holds rel.Eq F s v h

preds_more : (ps : List PredMeaning) (p : PredMeaning) → ArePreds ps → IsPred p → ArePreds (ps ++ p ∷ [])
preds_more [] p are is = (is, tt)
preds_more (q ∷ ps) p are is = (are.0, preds_more ps p are.1 is)

abbrev IsList : List PredMeaning → Type 0
IsList ps = (0 < length ps) × ArePreds ps

rounds_hold : {A : Type 0} (F : List PredMeaning → Rel A) (n : ℕ) (before : List PredMeaning) (s : List ℕ) (v : A) → ArePreds before → Rounds (PredRound F) n before s v → Holds IsList F v
rounds_hold F zero before s v are h = absurd h
rounds_hold {A} F (suc n) before s v are h =
    let (p, t, is, rest) = pred_holds (λ p. Or (Sign 44 (Rounds (PredRound F) n (before ++ p ∷ []))) (Sign 41 (F (before ++ p ∷ [])))) s v h in
    elim rest [
      | inl g ↦ (let (u, more) = sign_holds 44 (Rounds (PredRound F) n (before ++ p ∷ [])) t v g in rounds_hold F n (before ++ p ∷ []) u v (preds_more before p are is) more)
      | inr g ↦ (let (u, end) = sign_holds 41 (F (before ++ p ∷ [])) t v g in (before ++ p ∷ [], u, ((let l = length-append before (p ∷ []) in omega (arith, l)), preds_more before p are is), end))
    ]

preds_hold : {A : Type 0} (F : List PredMeaning → Rel A) (s : List ℕ) (v : A) → Preds F s v → Holds IsList F v
preds_hold F s v h = let (t, g) = sign_holds 40 (Loop (PredRound F) []) s v h in rounds_hold F g.0 [] t v tt g.1

abbrev IsItem : ItemMeaning → Type 0
IsItem i = IsName i.name × ArePreds i.sizes

view_holds : {A : Type 0} (F : ItemMeaning → Rel A) (s : List ℕ) (v : A) → View F s v → Holds IsItem F v
view_holds F s v h =
    let (t, g) = sign_holds 91 (Name (λ n. Or (Preds (λ ps. Sign 93 (F (item n ps)))) (Sign 93 (F (item n []))))) s v h in
    let (n, u, is, rest) = name_holds (λ n. Or (Preds (λ ps. Sign 93 (F (item n ps)))) (Sign 93 (F (item n [])))) t v g in
    elim rest [
      | inl l ↦ (let (ps, w, are, end) = preds_hold (λ ps. Sign 93 (F (item n ps))) u v l in let (x, last) = sign_holds 93 (F (item n ps)) w v end in (item n ps, x, (is, are.1), last))
      | inr end ↦ (let (x, last) = sign_holds 93 (F (item n [])) u v end in (item n [], x, (is, tt), last))
    ]

spaced_holds : {A : Type 0} (F : SpacingMeaning → Rel A) (s : List ℕ) (v : A) → Spaced F s v → Holds IsSpacing F v
spaced_holds F s v (inl h) = let (ps, t, are, g) = preds_hold (λ ps. Sign 45 (F (Given ps))) s v h in let (u, rest) = sign_holds 45 (F (Given ps)) t v g in (Given ps, u, are, rest)
spaced_holds F s v (inr (inl h)) = let (o, t, is, g) = value_holds (λ o. Sign 45 (F (Given (single o)))) s v h in let (u, rest) = sign_holds 45 (F (Given (single o))) t v g in (Given (single o), u, (omega arith, ((value_is_object o is, tt), tt)), rest)
spaced_holds F s v (inr (inr h)) = (Standard, s, tt, h)

connection_holds : {A : Type 0} (F : SpacingMeaning → Rel A) (s : List ℕ) (v : A) → Connection F s v → Holds IsSpacing F v
connection_holds F s v (inl h) = let (t, g) = sign_holds 45 (Spaced F) s v h in spaced_holds F t v g
connection_holds F s v (inr h) = (Flush, s, tt, h)

items_more : (is : List ItemMeaning) (i : ItemMeaning) → AreItems is → IsItem i → AreItems (is ++ i ∷ [])
items_more [] i are is = (is, tt)
items_more (j ∷ js) i are is = (are.0, items_more js i are.1 is)

spacings_more : (gs : List SpacingMeaning) (g : SpacingMeaning) → AreSpacings gs → IsSpacing g → AreSpacings (gs ++ g ∷ [])
spacings_more [] g are is = (is, tt)
spacings_more (h ∷ hs) g are is = (are.0, spacings_more hs g are.1 is)

joined_is : (f : FormatMeaning) (g : SpacingMeaning) (i : ItemMeaning) → IsWritable f → IsSpacing g → IsItem i → IsWritable (with_item f g i)
joined_is f g i h spacing it = record {
  from_parent = h.from_parent;
  items = items_more f.items i h.items it;
  spacings = spacings_more f.spacings g h.spacings spacing;
  to_parent = h.to_parent;
  between = (let k = length-append f.items (i ∷ []) in let l = length-append f.spacings (g ∷ []) in let b = h.between in omega (arith, k, l, b));
}

ended_is : (f : FormatMeaning) (g : SpacingMeaning) → IsWritable f → IsSpacing g → IsWritable (with_end f g)
ended_is f g h spacing = record { from_parent = h.from_parent; items = h.items; spacings = h.spacings; to_parent = spacing; between = h.between }

chain_writable : (n : ℕ) (f : FormatMeaning) (s : List ℕ) (m : FormatMeaning) → IsWritable f → Rounds Round n f s m → IsWritable m
chain_writable zero f s m is h = absurd h
chain_writable (suc n) f s m is (inl h) =
    let (g, t, spacing, next) = connection_holds (λ g. Next (Rounds Round n) f g) s m h in
    elim next [
      | inl v ↦ (let (i, u, it, rest) = view_holds (λ i. Rounds Round n (with_item f g i)) t m v in chain_writable n (with_item f g i) u m (joined_is f g i is spacing it) rest)
      | inr e ↦ (let (u, end) = sign_holds 124 (End (with_end f g)) t m e in subst IsWritable (sym end.1) (ended_is f g is spacing))
    ]
chain_writable (suc n) f s m is (inr h) = subst IsWritable (sym h.1) is

view_writable : (a : Axis) (g : Option SpacingMeaning) (s : List ℕ) (m : FormatMeaning) → IsEnd g → View (λ i. Loop Round (started a g i)) s m → IsWritable m
view_writable a g s m end h =
    let (i, t, it, rest) = view_holds (λ i. Loop Round (started a g i)) s m h in
    chain_writable rest.0 (started a g i) t m (record { from_parent = end; items = (it, tt); spacings = tt; to_parent = tt; between = omega arith }) rest.1

body_writable : (a : Axis) (s : List ℕ) (m : FormatMeaning) → FromParent (λ g. View (λ i. Loop Round (started a g i))) s m → IsWritable m
body_writable a s m (inl h) =
    let (t, c) = sign_holds 124 (Connection (λ g. View (λ i. Loop Round (started a (Some g) i)))) s m h in
    let (g, u, spacing, rest) = connection_holds (λ g. View (λ i. Loop Round (started a (Some g) i))) t m c in
    view_writable a (Some g) u m spacing rest
body_writable a s m (inr h) = view_writable a None s m tt h

axis_writable : (s : List ℕ) (m : FormatMeaning) → Orientation (λ a. FromParent (λ g. View (λ i. Loop Round (started a g i)))) s m → IsWritable m
axis_writable s m (inl (inl (t, e, (x, u, f, a, n, h)))) = let (w, rest) = sign_holds 58 (FromParent (λ g. View (λ i. Loop Round (started axis.H g i)))) u m h in body_writable axis.H w m rest
axis_writable s m (inl (inr (inl (t, e, (x, u, f, a, n, h))))) = let (w, rest) = sign_holds 58 (FromParent (λ g. View (λ i. Loop Round (started axis.V g i)))) u m h in body_writable axis.V w m rest
axis_writable s m (inl (inr (inr h))) = absurd h
axis_writable s m (inr h) = body_writable axis.H s m h

-- what a text means can be written
pub format_writable : (s : List ℕ) (m : FormatMeaning) → FormatText s m → IsWritable m
unfolding FormatText
format_writable s m (x, u, e, a, n, h) = axis_writable u m h
