-- The lowest terms of a line's sum are one.
use Rattle.std.proofs.Common.{◌≡◌, ◌∙◌, ℕ, ◌*◌, ◌<◌, List, ℤ, pos, ◌*ℤ◌, unsigned_abs, sym, ap, subst, arith, All}
use Rattle.std.specs.Int.{◌∣◌}
use Rattle.std.specs.List.{AllByRecursion as Each}
use Rattle.std.proofs.lemmas.List.Elements.{All-from_recursion, recursion_from_All}
use Rattle.frac_core.specs.Fraction.{IsFitting}
use Rattle.frac_core.proofs.Integers.{cancel_mul, mul_assoc_ℤ, mul_left_comm_ℤ}
use Rattle.problem_core.specs.declared.parts.RowName.{RowName}
use Rattle.problem_core.specs.Layout.{Line, Problem, lines}
use Rattle.problem_core.proofs.Forms.{each-impl, each-both}
use Rattle.corner_laws.proofs.MarkWritings.Equations.{lowest_equal}
use Rattle.corner_lines.specs.LineEquations.{AreReduced, IsUnfitLine}
use Rattle.corner_lines.proofs.Lines.LineWritings.{Named, at-name, own-named}

-- a name of one of the lines
record Name (ls : List Line) : Type 0 where
  name : RowName
  named : Named name ls

from-names : (P : RowName → Type 0) (ls : List Line) → ((n : Name ls) → P n.name) → Each (λ l. P l.name) ls
from-names P ls h = each-impl (λ l. Named l.name ls) (λ l. P l.name) ls (λ l n. h (record { name = l.name; named = n })) (own-named ls)

to-names : (P : RowName → Type 0) (ls : List Line) → Each (λ l. P l.name) ls → (n : Name ls) → P n.name
to-names P ls h n = at-name P n.name ls n.named h

-- g*k = own = h*l, g*a = b = h*c: k*c = l*a
proportion : (g h k l own : ℕ) (a b c : ℤ) → 0 < g → 0 < h → g * k ≡ own → h * l ≡ own → pos g *ℤ a ≡ b → pos h *ℤ c ≡ b → pos k *ℤ c ≡ pos l *ℤ a
proportion g h k l own a b c gs hs e f x y =
    let one : pos own *ℤ a ≡ pos l *ℤ (pos h *ℤ a) = ap (λ (n : ℕ). pos n *ℤ a) (let s : own ≡ l * h = omega (arith, f) in s) ∙ mul_assoc_ℤ (pos l) (pos h) a in
    let two : pos g *ℤ (pos h *ℤ (pos k *ℤ c)) ≡ pos g *ℤ (pos h *ℤ (pos l *ℤ a)) =
    ap (λ (z : ℤ). pos g *ℤ z) (mul_left_comm_ℤ (pos h) (pos k) c ∙ ap (λ (z : ℤ). pos k *ℤ z) (y ∙ sym x)) ∙ sym (mul_assoc_ℤ (pos g) (pos k) (pos g *ℤ a))
    ∙ ap (λ (n : ℕ). pos n *ℤ (pos g *ℤ a)) e ∙ mul_left_comm_ℤ (pos own) (pos g) a ∙ ap (λ (z : ℤ). pos g *ℤ z) (one ∙ mul_left_comm_ℤ (pos l) (pos h) a) in
    cancel_mul h (pos k *ℤ c) (pos l *ℤ a) hs (cancel_mul g (pos h *ℤ (pos k *ℤ c)) (pos h *ℤ (pos l *ℤ a)) gs two)

pub terms_equal : (ls : List Line) (own : ℕ) (by : RowName → ℤ) (k l : ℕ) (a c : RowName → ℤ) → AreReduced ls own by k a → AreReduced ls own by l c → (k ≡ l) × Each (λ x. a x.name ≡ c x.name) ls
terms_equal ls own by k l a c r s =
    let equal =
    lowest_equal k l (λ (n : Name ls). a n.name) (λ n. c n.name) r.low_positive s.low_positive
    (λ m d h. r.lowest m d (All-from_recursion (λ x. m ∣ unsigned_abs (a x.name)) ls (from-names (λ n. m ∣ unsigned_abs (a n)) ls h)))
    (λ m d h. s.lowest m d (All-from_recursion (λ x. m ∣ unsigned_abs (c x.name)) ls (from-names (λ n. m ∣ unsigned_abs (c n)) ls h)))
    (λ n. proportion r.factor s.factor k l own (a n.name) (by n.name) (c n.name) r.factor_positive s.factor_positive r.own_same s.own_same
    (to-names (λ i. pos r.factor *ℤ a i ≡ by i) ls (recursion_from_All (λ x. pos r.factor *ℤ a x.name ≡ by x.name) ls r.same) n)
    (to-names (λ i. pos s.factor *ℤ c i ≡ by i) ls (recursion_from_All (λ x. pos s.factor *ℤ c x.name ≡ by x.name) ls s.same) n)) in
    (equal.0, from-names (λ i. a i ≡ c i) ls equal.1)

pub only_terms : (p : Problem) (own : ℕ) (by : RowName → ℤ) (low : ℕ) (part : RowName → ℤ) (num : ℤ) (den : ℕ) → AreReduced (lines p) own by low part → (IsFitting (pos low) → All (λ l. IsFitting (part l.name)) (lines p) → ⊥) → IsUnfitLine p own by num den
only_terms p own by low part num den r large other parts value s ratio fits each kept =
    let same = terms_equal (lines p) own by low other part parts r s in
    large (subst (λ (n : ℕ). IsFitting (pos n)) (sym same.0) fits)
    (All-from_recursion (λ l. IsFitting (part l.name)) (lines p)
    (each-impl (λ l. (part l.name ≡ parts l.name) × IsFitting (parts l.name)) (λ l. IsFitting (part l.name)) (lines p) (λ l h. subst IsFitting (sym h.0) h.1)
    (each-both _ _ (lines p) same.1 (recursion_from_All (λ l. IsFitting (parts l.name)) (lines p) each))))
