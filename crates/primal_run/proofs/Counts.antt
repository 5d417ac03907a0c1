-- What is read of the writings of inside marks, and which of two falls first.
use Rattle.std.proofs.Common.{◌≡◌, ◌≢◌, ◌∙◌, ◌⊎◌, inl, inr, ℕ, zero, suc, ◌+◌, ◌*◌, ◌<◌, ◌≤◌, Bool, cond, nat_eq, List, [], ◌∷◌, ◌++◌, map, drop, length, get_or, ℤ, pos, negsuc, neg_ℤ, ◌+ℤ◌, ◌-ℤ◌, ◌*ℤ◌, ◌≤ℤ◌, ◌<ℤ◌, refl, sym, ap, ap₂, subst, arith, eq-eqb, ne_eqb}
use Rattle.std.specs.declared.option.Option.{Option}
use Rattle.std.specs.declared.option.Option.TheVariants.{Some, None}
use Rattle.std.proofs.lemmas.List.Elements.{All-push}
use Rattle.std.proofs.Math.Seq.{drop-cons}
use Rattle.std.proofs.lemmas.List.{get_or_default}
use Rattle.problem_core.specs.declared.parts.RowName.TheVariants.{Held}
use Rattle.problem_core.specs.declared.parts.Side.TheVariants.{Under}
use borrow.Author.Differences.{ints}
use lib.IntN.{*ℤ_comm}
use Rattle.frac_core.specs.Fraction.{Fraction}
use Rattle.frac_core.proofs.Integers.{diff-add, diff-mul, diff-neg, diff-pos, neg-pos, on_3, diff_eq, mul_assoc_ℤ, mul_not_negative, mul_positive, cancel_mul, mul-zero_ℤ, zero-mul_ℤ, positive_from, zero_from_mul}
use Rattle.problem_core.specs.declared.parts.Mark.{Mark}
use Rattle.problem_core.specs.declared.stops.What.{What}
use Rattle.problem_core.specs.declared.stops.What.TheVariants.{Mark as MarkOf}
use Rattle.problem_core.specs.declared.parts.Term.{Term}
use Rattle.problem_core.specs.Layout.{Problem, coefficient}
use Rattle.problem_core.specs.Corners.{IsIn, IsWritingOf, one_column, place}
use Rattle.corner_laws.specs.Runs.{BreaksTie, FallsFirst, Writes, Writing, count_at}
use Rattle.corner_laws.proofs.MarkWritings.Equations.{writings_are_equal}
use Rattle.corner_laws.proofs.RunSteps.FirstToLeave.{none_inside}
use Rattle.corner_laws.proofs.Swaps.PrimalChoice.{interchange}
use Rattle.corner_laws.proofs.WrittenValues.{value_there}
use Rattle.corner_view.specs.Seen.{HasValueAt, IsKeptCorner, IsScaleOf, MovesWith}
use Rattle.corner_ends.proofs.ReadNumbers.{scale_is}
use Rattle.primal_run.specs.declared.ties.Ratio.{Ratio}
use Rattle.primal_run.specs.Leaving.{FallsBefore, IsEarlier, IsFirstOf, IsRatioAt, NeverFalls}
use Rattle.frac_core.proofs.Numbers.{mul-neg as turned, neg-times}
use Rattle.corner_laws.proofs.RunSteps.RunCosts.{turned-up as turned-low}

-- ---- one writing

-- a writing with its value in other terms
pub record Valued (p : Problem) (at : List Mark) (m : Mark) (f : Fraction) : Type 0 where
  pub scale : ℕ
  pub form : List Term
  pub writes : Writes p at (place m) (record { scale = scale; form = form; num = f.num; den = f.den })

-- d*(s*q - v) = s*(n*o), n*g = f*d
revalued : (d g s : ℕ) (r n f o : ℤ) → 0 < d → pos d *ℤ r ≡ pos s *ℤ (n *ℤ o) → n *ℤ pos g ≡ f *ℤ pos d → pos g *ℤ r ≡ pos s *ℤ (f *ℤ o)
revalued d g s r n f o above e h =
    let a : pos d *ℤ (pos g *ℤ r) ≡ pos g *ℤ (pos d *ℤ r) = sym (mul_assoc_ℤ (pos d) (pos g) r) ∙ ap (λ (z : ℤ). z *ℤ r) (*ℤ_comm (pos d) (pos g)) ∙ mul_assoc_ℤ (pos g) (pos d) r in
    let b : pos g *ℤ (pos s *ℤ (n *ℤ o)) ≡ pos s *ℤ ((n *ℤ pos g) *ℤ o) =
    sym (mul_assoc_ℤ (pos g) (pos s) (n *ℤ o)) ∙ ap (λ (z : ℤ). z *ℤ (n *ℤ o)) (*ℤ_comm (pos g) (pos s)) ∙ mul_assoc_ℤ (pos s) (pos g) (n *ℤ o)
    ∙ ap (λ (z : ℤ). pos s *ℤ z) (sym (mul_assoc_ℤ (pos g) n o) ∙ ap (λ (z : ℤ). z *ℤ o) (*ℤ_comm (pos g) n)) in
    let c : pos s *ℤ ((f *ℤ pos d) *ℤ o) ≡ pos d *ℤ (pos s *ℤ (f *ℤ o)) =
    ap (λ (z : ℤ). pos s *ℤ z) (ap (λ (z : ℤ). z *ℤ o) (*ℤ_comm f (pos d)) ∙ mul_assoc_ℤ (pos d) f o) ∙ sym (mul_assoc_ℤ (pos s) (pos d) (f *ℤ o)) ∙ ap (λ (z : ℤ). z *ℤ (f *ℤ o)) (*ℤ_comm (pos s) (pos d)) ∙ mul_assoc_ℤ (pos d) (pos s) (f *ℤ o) in
    cancel_mul d (pos g *ℤ r) (pos s *ℤ (f *ℤ o)) above (a ∙ ap (λ (z : ℤ). pos g *ℤ z) e ∙ b ∙ ap (λ (z : ℤ). pos s *ℤ (z *ℤ o)) h ∙ c)

-- where den*q = num*one and q*g = f*one
same-value : (d g : ℕ) (q n f o : ℤ) → pos 0 <ℤ o → pos d *ℤ q ≡ n *ℤ o → q *ℤ pos g ≡ f *ℤ o → n *ℤ pos g ≡ f *ℤ pos d
same-value d g q n f (negsuc o) up e h = absurd (omega (arith, ints, up))
same-value d g q n f (pos o) up e h =
    let a : pos o *ℤ (n *ℤ pos g) ≡ pos g *ℤ (n *ℤ pos o) = *ℤ_comm (pos o) (n *ℤ pos g) ∙ ap (λ (z : ℤ). z *ℤ pos o) (*ℤ_comm n (pos g)) ∙ mul_assoc_ℤ (pos g) n (pos o) in
    let b : pos g *ℤ (pos d *ℤ q) ≡ pos d *ℤ (q *ℤ pos g) = *ℤ_comm (pos g) (pos d *ℤ q) ∙ mul_assoc_ℤ (pos d) q (pos g) in
    let c : pos d *ℤ (f *ℤ pos o) ≡ pos o *ℤ (f *ℤ pos d) = *ℤ_comm (pos d) (f *ℤ pos o) ∙ ap (λ (z : ℤ). z *ℤ pos d) (*ℤ_comm f (pos o)) ∙ mul_assoc_ℤ (pos o) f (pos d) in
    cancel_mul o (n *ℤ pos g) (f *ℤ pos d) (omega (arith, ints, up)) (a ∙ ap (λ (z : ℤ). pos g *ℤ z) (sym e) ∙ b ∙ ap (λ (z : ℤ). pos d *ℤ z) h ∙ c)

pub with_value : (p : Problem) (at : List Mark) (m : Mark) (f : Fraction) (z : ℤ) → IsKeptCorner p at → 0 < f.den → HasValueAt p at (place m) f → IsScaleOf p at (MarkOf m) z → Valued p at m f
with_value p at m f z kept den (x, stands, e) (c, (inside, column), (scale, form, value, h, e2)) =
    let g : IsWritingOf p at (λ y. y (place m)) scale form value.num value.den = subst (λ (k : ℕ). IsWritingOf p at (λ y. y k) scale form value.num value.den) column h in
    let there : pos value.den *ℤ x.num (place m) ≡ value.num *ℤ x.num one_column = value_there p at (λ y. y (place m)) scale form value.num value.den x g stands in
    let same : value.num *ℤ pos f.den ≡ f.num *ℤ pos value.den = same-value value.den f.den (x.num (place m)) value.num f.num (x.num one_column) x.positive there e in
    record {
      scale = scale;
      form = form;
      writes = record {
        scale_positive = g.scale_positive;
        den_positive = den;
        outside = g.outside;
        holds = λ y solves. revalued value.den f.den scale _ value.num f.num (y.num one_column) g.den_positive (g.holds y solves) same;
        lowest = g.lowest;
      };
    }

pub never : (p : Problem) (at : List Mark) (c : ℕ) (m : Mark) (z : ℤ) → ((w : Writing) → Writes p at (place m) w → z ≡ coefficient c w.form) → pos 0 ≤ℤ z → NeverFalls p at c m
never p at c m z is up w h low = let e = is w h in omega (arith, ints, e, up, low)

below-up : (d : ℕ) (z : ℤ) → 0 < d → z <ℤ pos 0 → pos 0 <ℤ neg_ℤ (pos d *ℤ z)
below-up d z above low =
    let up : pos 0 <ℤ (pos d *ℤ neg_ℤ z) = mul_positive d (neg_ℤ z) above (omega (arith, ints, low)) in
    let e : pos d *ℤ neg_ℤ z ≡ neg_ℤ (pos d *ℤ z) = *ℤ_comm (pos d) (neg_ℤ z) ∙ neg-times z (pos d) ∙ ap neg_ℤ (*ℤ_comm z (pos d)) in
    omega (arith, ints, up, e)

pub ratio_made : (p : Problem) (at : List Mark) (enter m : Mark) (r : Ratio) (f : Fraction) (z s above below den : ℤ) → IsKeptCorner p at → IsIn (place m) at → 0 < f.den → HasValueAt p at (place m) f → IsScaleOf p at (MarkOf m) s
    → ((w : Writing) → Writes p at (place m) w → z ≡ coefficient (place enter) w.form) → z <ℤ pos 0 → above ≡ f.num *ℤ s → den ≡ pos f.den → below ≡ neg_ℤ (den *ℤ z)
    → r ≡ record { mark = m; by = z; above = above; below = below } → (r.mark ≡ m) × IsRatioAt p at (place enter) r
ratio_made p at enter m r f z s above below den kept inside up value scale is low a d b e =
    let v = with_value p at m f s kept up value scale in
    let w : Writing = record { scale = v.scale; form = v.form; num = f.num; den = f.den } in
    let below_is : below ≡ neg_ℤ (pos f.den *ℤ z) = b ∙ ap (λ (k : ℤ). neg_ℤ (k *ℤ z)) d in
    subst (λ (q : Ratio). (q.mark ≡ m) × IsRatioAt p at (place enter) q) (sym e) (
      refl,
      record {
        inside = inside;
        w = w;
        writes = v.writes;
        by = is w v.writes;
        falls = low;
        above = a ∙ ap (λ (k : ℤ). f.num *ℤ k) (scale_is p at m s w kept scale v.writes);
        below = below_is;
        positive = subst (λ (k : ℤ). pos 0 <ℤ k) (sym below_is) (below-up f.den z up low);
      },
    )

-- ---- counts

pub count_self : (p : Problem) (at : List Mark) (m f : Mark) (s by t : ℤ) (w : Writing) → m ≡ f → s ≡ pos w.scale → t ≡ s *ℤ by → t ≡ count_at (place m) w (place f) *ℤ by
count_self p at m f s by t w e is h =
    h ∙ ap (λ (z : ℤ). z *ℤ by) (is ∙ sym (ap (λ (b : Bool). cond b (pos w.scale) (neg_ℤ (coefficient (place f) w.form))) (eq-eqb (place f) (place m) (sym (ap place e)))))

pub count_inside : (p : Problem) (at : List Mark) (m f : Mark) (by : ℤ) (w : Writing) → Writes p at (place m) w → IsIn (place f) at → place f ≢ place m → pos 0 ≡ count_at (place m) w (place f) *ℤ by
count_inside p at m f by w h i ne =
    let none : coefficient (place f) w.form ≡ pos 0 = none_inside p at w.form (place f) h.outside i in
    let zero-count : count_at (place m) w (place f) ≡ pos 0 =
    ap (λ (b : Bool). cond b (pos w.scale) (neg_ℤ (coefficient (place f) w.form))) (ne_eqb (place f) (place m) ne) ∙ ap neg_ℤ none in
    sym (ap (λ (z : ℤ). z *ℤ by) zero-count ∙ zero-mul_ℤ by)

pub count_outside : (p : Problem) (at : List Mark) (m f : Mark) (z by t u : ℤ) (w : Writing) → place f ≢ place m → z ≡ coefficient (place f) w.form → u ≡ z *ℤ by → t ≡ neg_ℤ u → t ≡ count_at (place m) w (place f) *ℤ by
count_outside p at m f z by t u w ne is e h =
    h ∙ ap neg_ℤ (e ∙ ap (λ (k : ℤ). k *ℤ by) is) ∙ sym (neg-times (coefficient (place f) w.form) by)
    ∙ ap (λ (k : ℤ). k *ℤ by) (sym (ap (λ (b : Bool). cond b (pos w.scale) (neg_ℤ (coefficient (place f) w.form))) (ne_eqb (place f) (place m) ne)))

-- ---- which of two falls first

ruleset ring = (diff-add, diff-mul, diff-neg, diff-pos, neg-pos)

crossed : (b q g : ℕ) (a p f : ℤ) → pos q *ℤ (f *ℤ pos b -ℤ a *ℤ pos g) ≡ pos b *ℤ (f *ℤ pos q -ℤ p *ℤ pos g) +ℤ pos g *ℤ (p *ℤ pos b -ℤ a *ℤ pos q)
crossed b q g = on_3 (λ a p f. pos q *ℤ (f *ℤ pos b -ℤ a *ℤ pos g) ≡ pos b *ℤ (f *ℤ pos q -ℤ p *ℤ pos g) +ℤ pos g *ℤ (p *ℤ pos b -ℤ a *ℤ pos q)) (λ x x' y y' z z'. simp ring (diff_eq _ _ _ _ (omega arith)))

less_any : (b q g : ℕ) (a p f : ℤ) → 0 < b → 0 < g → (a *ℤ pos q) <ℤ (p *ℤ pos b) → (p *ℤ pos g) ≤ℤ (f *ℤ pos q) → (a *ℤ pos g) <ℤ (f *ℤ pos b)
less_any b q g a p f b_above g_above h k =
    let one : pos 0 <ℤ (pos g *ℤ (p *ℤ pos b -ℤ a *ℤ pos q)) = mul_positive g (p *ℤ pos b -ℤ a *ℤ pos q) g_above (omega (arith, ints, h)) in
    let two : pos 0 ≤ℤ (pos b *ℤ (f *ℤ pos q -ℤ p *ℤ pos g)) = mul_not_negative b (f *ℤ pos q -ℤ p *ℤ pos g) (omega (arith, ints, k)) in
    let all : pos 0 <ℤ (pos q *ℤ (f *ℤ pos b -ℤ a *ℤ pos g)) = subst (λ (t : ℤ). pos 0 <ℤ t) (sym (crossed b q g a p f)) (omega (arith, ints, one, two)) in
    let less : pos 0 <ℤ (f *ℤ pos b -ℤ a *ℤ pos g) = positive_from q (f *ℤ pos b -ℤ a *ℤ pos g) all in
    omega (arith, ints, less)

any_less : (b q g : ℕ) (a p f : ℤ) → 0 < b → 0 < g → (a *ℤ pos q) ≤ℤ (p *ℤ pos b) → (p *ℤ pos g) <ℤ (f *ℤ pos q) → (a *ℤ pos g) <ℤ (f *ℤ pos b)
any_less b q g a p f b_above g_above h k =
    let one : pos 0 ≤ℤ (pos g *ℤ (p *ℤ pos b -ℤ a *ℤ pos q)) = mul_not_negative g (p *ℤ pos b -ℤ a *ℤ pos q) (omega (arith, ints, h)) in
    let two : pos 0 <ℤ (pos b *ℤ (f *ℤ pos q -ℤ p *ℤ pos g)) = mul_positive b (f *ℤ pos q -ℤ p *ℤ pos g) b_above (omega (arith, ints, k)) in
    let all : pos 0 <ℤ (pos q *ℤ (f *ℤ pos b -ℤ a *ℤ pos g)) = subst (λ (t : ℤ). pos 0 <ℤ t) (sym (crossed b q g a p f)) (omega (arith, ints, one, two)) in
    let less : pos 0 <ℤ (f *ℤ pos b -ℤ a *ℤ pos g) = positive_from q (f *ℤ pos b -ℤ a *ℤ pos g) all in
    omega (arith, ints, less)

same_same : (b q g : ℕ) (a p f : ℤ) → 0 < q → a *ℤ pos q ≡ p *ℤ pos b → p *ℤ pos g ≡ f *ℤ pos q → a *ℤ pos g ≡ f *ℤ pos b
same_same b q g a p f q_above h k =
    let one : p *ℤ pos b -ℤ a *ℤ pos q ≡ pos 0 = omega (arith, ints, h) in
    let two : f *ℤ pos q -ℤ p *ℤ pos g ≡ pos 0 = omega (arith, ints, k) in
    let none : pos q *ℤ (f *ℤ pos b -ℤ a *ℤ pos g) ≡ pos 0 =
    crossed b q g a p f ∙ ap₂ (λ (x y : ℤ). pos b *ℤ x +ℤ pos g *ℤ y) two one ∙ ap₂ ◌+ℤ◌ (mul-zero_ℤ (pos b)) (mul-zero_ℤ (pos g)) in
    let equal : f *ℤ pos b -ℤ a *ℤ pos g ≡ pos 0 = zero_from_mul q (f *ℤ pos b -ℤ a *ℤ pos g) q_above none in
    omega (arith, ints, equal)

-- the first ratio is less, or equal where P holds
abbrev pub Precedes : ℤ → ℤ → ℤ → ℤ → Type 0 → Type 0
Precedes a b p q P = ((a *ℤ q) <ℤ (p *ℤ b)) ⊎ ((a *ℤ q ≡ p *ℤ b) × P)

precedes_pos : (b q g : ℕ) (a p f : ℤ) (P Q R : Type 0) → 0 < b → 0 < q → 0 < g → (P → Q → R) → Precedes a (pos b) p (pos q) P → Precedes p (pos q) f (pos g) Q → Precedes a (pos b) f (pos g) R
precedes_pos b q g a p f P Q R b_above q_above g_above both h k =
    elim h [
      | inl x ↦ elim k [
        | inl y ↦ inl (less_any b q g a p f b_above g_above x (omega (arith, ints, y)))
        | inr y ↦ let e = y.0 in inl (less_any b q g a p f b_above g_above x (omega (arith, ints, e)))
      ]
      | inr x ↦ let d = x.0 in elim k [
        | inl y ↦ inl (any_less b q g a p f b_above g_above (omega (arith, ints, d)) y)
        | inr y ↦ inr (same_same b q g a p f q_above x.0 y.0, both x.1 y.1)
      ]
    ]

pub precedes : (a b p q f g : ℤ) (P Q R : Type 0) → pos 0 <ℤ b → pos 0 <ℤ q → pos 0 <ℤ g → (P → Q → R) → Precedes a b p q P → Precedes p q f g Q → Precedes a b f g R
precedes a (pos b) p (pos q) f (pos g) P Q R b_above q_above g_above both h k =
    precedes_pos b q g a p f P Q R (omega (arith, ints, b_above)) (omega (arith, ints, q_above)) (omega (arith, ints, g_above)) both h k
precedes a (negsuc b) p q f g P Q R b_above q_above g_above both h k = absurd (omega (arith, ints, b_above))
precedes a (pos b) p (negsuc q) f g P Q R b_above q_above g_above both h k = absurd (omega (arith, ints, q_above))
precedes a (pos b) p (pos q) f (negsuc g) P Q R b_above q_above g_above both h k = absurd (omega (arith, ints, g_above))

-- d*p < c*q says of the sizes that c over p is less than d over q
to-precedes : (x y a b : ℤ) (P Q : Type 0) → (P → Q) → ((y *ℤ a) <ℤ (x *ℤ b)) ⊎ ((y *ℤ a ≡ x *ℤ b) × P) → Precedes x (neg_ℤ a) y (neg_ℤ b) Q
to-precedes x y a b P Q f h =
    let s = turned x b in let t = turned y a in
    elim h [
      | inl less ↦ inl (omega (arith, ints, s, t, less))
      | inr both ↦ let e = both.0 in inr (omega (arith, ints, s, t, e), f both.1)
    ]

from-precedes : (x y a b : ℤ) (P Q : Type 0) → (P → Q) → Precedes x (neg_ℤ a) y (neg_ℤ b) P → ((y *ℤ a) <ℤ (x *ℤ b)) ⊎ ((y *ℤ a ≡ x *ℤ b) × Q)
from-precedes x y a b P Q f h =
    let s = turned x b in let t = turned y a in
    elim h [
      | inl less ↦ inl (omega (arith, ints, s, t, less))
      | inr both ↦ let e = both.0 in inr (omega (arith, ints, s, t, e), f both.1)
    ]

pub tie_chain : (enter c d e : ℕ) (u v w : Writing) (fs : List ℕ) → coefficient enter u.form <ℤ pos 0 → coefficient enter v.form <ℤ pos 0 → coefficient enter w.form <ℤ pos 0
    → BreaksTie enter c u d v fs → BreaksTie enter d v e w fs → BreaksTie enter c u e w fs
tie_chain enter c d e u v w [] x y z h k = tt
tie_chain enter c d e u v w (f ∷ fs) x y z h k =
    from-precedes (count_at c u f) (count_at e w f) (coefficient enter u.form) (coefficient enter w.form) (BreaksTie enter c u e w fs) (BreaksTie enter c u e w fs) (λ t. t)
    (precedes (count_at c u f) (neg_ℤ (coefficient enter u.form)) (count_at d v f) (neg_ℤ (coefficient enter v.form)) (count_at e w f) (neg_ℤ (coefficient enter w.form)) (BreaksTie enter c u d v fs) (BreaksTie enter d v e w fs) (BreaksTie enter c u e w fs)
    (turned-low (coefficient enter u.form) x) (turned-low (coefficient enter v.form) y) (turned-low (coefficient enter w.form) z) (tie_chain enter c d e u v w fs x y z)
    (to-precedes (count_at c u f) (count_at d v f) (coefficient enter u.form) (coefficient enter v.form) (BreaksTie enter c u d v fs) (BreaksTie enter c u d v fs) (λ t. t) h)
    (to-precedes (count_at d v f) (count_at e w f) (coefficient enter v.form) (coefficient enter w.form) (BreaksTie enter d v e w fs) (BreaksTie enter d v e w fs) (λ t. t) k))

-- the same of how far the values are from 0
abbrev above_of : Writing → ℤ
above_of w = w.num *ℤ pos w.scale

abbrev below_of : ℕ → Writing → ℤ
below_of enter w = neg_ℤ (pos w.den *ℤ coefficient enter w.form)

-- (n*s)*(-(e*b)) = -(n*(b*(s*e)))
reached : (n b : ℤ) (s e : ℕ) → (n *ℤ pos s) *ℤ neg_ℤ (pos e *ℤ b) ≡ neg_ℤ (n *ℤ (b *ℤ pos (s * e)))
reached n b s e =
    turned (n *ℤ pos s) (pos e *ℤ b)
    ∙ ap (λ (z : ℤ). neg_ℤ ((n *ℤ pos s) *ℤ z)) (*ℤ_comm (pos e) b)
    ∙ ap neg_ℤ (interchange n (pos s) b (pos e) ∙ mul_assoc_ℤ n b (pos s *ℤ pos e))

pub falls-precedes : (enter c d : ℕ) (v w : Writing) (fs : List ℕ) → FallsFirst fs enter c v d w → Precedes (above_of v) (below_of enter v) (above_of w) (below_of enter w) (BreaksTie enter c v d w fs)
falls-precedes enter c d v w fs h =
    let a = reached v.num (coefficient enter w.form) v.scale w.den in
    let b = reached w.num (coefficient enter v.form) w.scale v.den in
    elim h [
      | inl less ↦ inl (omega (arith, ints, a, b, less))
      | inr both ↦ let e = both.0 in inr (omega (arith, ints, a, b, e), both.1)
    ]

pub precedes-falls : (enter c d : ℕ) (v w : Writing) (fs : List ℕ) → Precedes (above_of v) (below_of enter v) (above_of w) (below_of enter w) (BreaksTie enter c v d w fs) → FallsFirst fs enter c v d w
precedes-falls enter c d v w fs h =
    let a = reached v.num (coefficient enter w.form) v.scale w.den in
    let b = reached w.num (coefficient enter v.form) w.scale v.den in
    elim h [
      | inl less ↦ inl (omega (arith, ints, a, b, less))
      | inr both ↦ let e = both.0 in inr (omega (arith, ints, a, b, e), both.1)
    ]

pub fall_chain : (enter c d e : ℕ) (u v w : Writing) (fs : List ℕ) → 0 < u.den → 0 < v.den → 0 < w.den → coefficient enter u.form <ℤ pos 0 → coefficient enter v.form <ℤ pos 0 → coefficient enter w.form <ℤ pos 0
    → FallsFirst fs enter c u d v → FallsFirst fs enter d v e w → FallsFirst fs enter c u e w
fall_chain enter c d e u v w fs du dv dw x y z h k =
    precedes-falls enter c e u w fs
    (precedes (above_of u) (below_of enter u) (above_of v) (below_of enter v) (above_of w) (below_of enter w) (BreaksTie enter c u d v fs) (BreaksTie enter d v e w fs) (BreaksTie enter c u e w fs)
    (below-up u.den (coefficient enter u.form) du x) (below-up v.den (coefficient enter v.form) dv y) (below-up w.den (coefficient enter w.form) dw z) (tie_chain enter c d e u v w fs x y z)
    (falls-precedes enter c d u v fs h) (falls-precedes enter d e v w fs k))

-- ---- ties, mark by mark

pub tie_more : (G : Type 0) (e c d i : ℕ) (v w : Writing) (first : List Mark) (m : Mark) → i < length first → m ≡ get_or first i m → count_at d w (place m) *ℤ coefficient e v.form ≡ count_at c v (place m) *ℤ coefficient e w.form → (BreaksTie e c v d w (map place (drop i first)) → G) → BreaksTie e c v d w (map place (drop (suc i) first)) → G
tie_more G e c d i v w first m within is same go rest =
    go (subst (λ (ms : List Mark). BreaksTie e c v d w (map place ms)) (sym (drop-cons first i m within)) (subst (λ (k : Mark). BreaksTie e c v d w (map place (k ∷ drop (suc i) first))) is (inr (same, rest))))

pub tie_here : (G : Type 0) (e c d i : ℕ) (v w : Writing) (first : List Mark) (m : Mark) → i < length first → m ≡ get_or first i m → (count_at d w (place m) *ℤ coefficient e v.form) <ℤ (count_at c v (place m) *ℤ coefficient e w.form) → (BreaksTie e c v d w (map place (drop i first)) → G) → G
tie_here G e c d i v w first m within is less go =
    go (subst (λ (ms : List Mark). BreaksTie e c v d w (map place ms)) (sym (drop-cons first i m within)) (subst (λ (k : Mark). BreaksTie e c v d w (map place (k ∷ drop (suc i) first))) is (inl less)))

-- ---- writings that are the same

pub tie_same : (e c : ℕ) (v w : Writing) (fs : List ℕ) → v.scale ≡ w.scale → ((f : ℕ) → coefficient f v.form ≡ coefficient f w.form) → BreaksTie e c v c w fs
tie_same e c v w [] s k = tt
tie_same e c v w (f ∷ fs) s k =
    inr (
      ap₂ ◌*ℤ◌ (ap₂ (λ (n : ℕ) (z : ℤ). cond (nat_eq f c) (pos n) (neg_ℤ z)) (sym s) (sym (k f))) (k e),
      tie_same e c v w fs s k,
    )

-- n*e = m*d
same-reach : (n m b : ℤ) (s d e : ℕ) → n *ℤ pos e ≡ m *ℤ pos d → (n *ℤ pos s) *ℤ neg_ℤ (pos e *ℤ b) ≡ (m *ℤ pos s) *ℤ neg_ℤ (pos d *ℤ b)
same-reach n m b s d e h =
    turned (n *ℤ pos s) (pos e *ℤ b) ∙ ap neg_ℤ (interchange n (pos s) (pos e) b ∙ ap (λ (z : ℤ). z *ℤ (pos s *ℤ b)) h ∙ sym (interchange m (pos s) (pos d) b)) ∙ sym (turned (m *ℤ pos s) (pos d *ℤ b))

pub alike_falls : (p : Problem) (at : List Mark) (e : ℕ) (m : Mark) (v w : Writing) (fs : List ℕ) → IsKeptCorner p at → Writes p at (place m) v → Writes p at (place m) w → FallsFirst fs e (place m) v (place m) w
alike_falls p at e m v w fs kept h g =
    let same = writings_are_equal p at (λ x. x (place m)) v.scale w.scale v.form w.form v.num w.num v.den w.den kept.corner kept.rays h g in
    precedes-falls e (place m) (place m) v w fs
    (inr (
      ap (λ (z : ℤ). (v.num *ℤ pos v.scale) *ℤ neg_ℤ (pos w.den *ℤ z)) (sym (same.1 e)) ∙ same-reach v.num w.num (coefficient e v.form) v.scale v.den w.den same.2 ∙ ap (λ (n : ℕ). (w.num *ℤ pos n) *ℤ neg_ℤ (pos v.den *ℤ coefficient e v.form)) same.0,
      tie_same e (place m) v w fs same.0 same.1,
    ))

pub falls_too : (p : Problem) (at : List Mark) (e : ℕ) (m : Mark) (v w : Writing) → IsKeptCorner p at → Writes p at (place m) v → Writes p at (place m) w → coefficient e v.form <ℤ pos 0 → coefficient e w.form <ℤ pos 0
falls_too p at e m v w kept h g low = subst (λ (z : ℤ). z <ℤ pos 0) ((writings_are_equal p at (λ x. x (place m)) v.scale w.scale v.form w.form v.num w.num v.den w.den kept.corner kept.rays h g).1 e) low

pub before_made : (p : Problem) (at : List Mark) (e : ℕ) (first : List Mark) (m n : Mark) (v w : Writing) → IsKeptCorner p at → Writes p at (place m) v → Writes p at (place n) w → coefficient e v.form <ℤ pos 0 → coefficient e w.form <ℤ pos 0 → FallsFirst (map place first) e (place m) v (place n) w → FallsBefore p at e first m n
before_made p at e first m n v w kept h g low down falls a b x y =
    fall_chain e (place m) (place m) (place n) a v b (map place first) x.den_positive h.den_positive y.den_positive (falls_too p at e m v a kept h x low) low (falls_too p at e n w b kept g y down)
    (alike_falls p at e m a v (map place first) kept x h)
    (fall_chain e (place m) (place n) (place n) v w b (map place first) h.den_positive g.den_positive y.den_positive low down (falls_too p at e n w b kept g y down) falls (alike_falls p at e n w b (map place first) kept g y))

low-number : (p : Problem) (at : List Mark) (c : ℕ) (r : Ratio) → (h : IsRatioAt p at c r) → coefficient c h.w.form <ℤ pos 0
low-number p at c r h = subst (λ (z : ℤ). z <ℤ pos 0) h.by h.falls

-- two ratios in order
pub ratio_before : (p : Problem) (at : List Mark) (c : ℕ) (first : List Mark) (a b : Ratio) → IsKeptCorner p at → (ra : IsRatioAt p at c a) → (rb : IsRatioAt p at c b) → Precedes a.above a.below b.above b.below (BreaksTie c (place a.mark) ra.w (place b.mark) rb.w (map place first)) → FallsBefore p at c first a.mark b.mark
ratio_before p at c first a b kept ra rb h =
    before_made p at c first a.mark b.mark ra.w rb.w kept ra.writes rb.writes (low-number p at c a ra) (low-number p at c b rb)
    (precedes-falls c (place a.mark) (place b.mark) ra.w rb.w (map place first)
    (subst (λ (z : ℤ). Precedes (above_of ra.w) z (above_of rb.w) (below_of c rb.w) (BreaksTie c (place a.mark) ra.w (place b.mark) rb.w (map place first))) (below-is a ra)
    (subst (λ (z : ℤ). Precedes (above_of ra.w) a.below (above_of rb.w) z (BreaksTie c (place a.mark) ra.w (place b.mark) rb.w (map place first))) (below-is b rb)
    (subst (λ (z : ℤ). Precedes z a.below (above_of rb.w) b.below (BreaksTie c (place a.mark) ra.w (place b.mark) rb.w (map place first))) ra.above
    (subst (λ (z : ℤ). Precedes a.above a.below z b.below (BreaksTie c (place a.mark) ra.w (place b.mark) rb.w (map place first))) rb.above h)))))
  where
    below-is : (r : Ratio) → (k : IsRatioAt p at c r) → r.below ≡ below_of c k.w
    below-is r k = k.below ∙ ap (λ (z : ℤ). neg_ℤ (pos k.w.den *ℤ z)) k.by

own-before : (p : Problem) (at : List Mark) (c : ℕ) (first : List Mark) (m : Mark) → IsKeptCorner p at → FallsBefore p at c first m m
own-before p at c first m kept v w h g = alike_falls p at c m v w (map place first) kept h g

pub earlier_a : (p : Problem) (at : List Mark) (c : ℕ) (first : List Mark) (a b : Ratio) → IsKeptCorner p at → (ra : IsRatioAt p at c a) → (rb : IsRatioAt p at c b) → Precedes a.above a.below b.above b.below (BreaksTie c (place a.mark) ra.w (place b.mark) rb.w (map place first)) → IsEarlier p at c first a b a
earlier_a p at c first a b kept ra rb h = record { ratio = ra; before_a = own-before p at c first a.mark kept; before_b = ratio_before p at c first a b kept ra rb h }

pub earlier_b : (p : Problem) (at : List Mark) (c : ℕ) (first : List Mark) (a b : Ratio) → IsKeptCorner p at → (ra : IsRatioAt p at c a) → (rb : IsRatioAt p at c b) → Precedes b.above b.below a.above a.below (BreaksTie c (place b.mark) rb.w (place a.mark) ra.w (map place first)) → IsEarlier p at c first a b b
earlier_b p at c first a b kept ra rb h = record { ratio = rb; before_a = ratio_before p at c first b a kept rb ra h; before_b = own-before p at c first b.mark kept }

drop_all : (i : ℕ) (first : List Mark) → length first ≤ i → drop i first ≡ []
drop_all zero [] h = refl
drop_all zero (m ∷ ms) h = absurd (omega (arith, h))
drop_all (suc i) [] h = refl
drop_all (suc i) (m ∷ ms) h = drop_all i ms (omega (arith, h))

abbrev pub some_mark : Mark
some_mark = record { row = Held 0; side = Under }

pub more_at : (G : Type 0) (e c d i : ℕ) (v w : Writing) (first : List Mark) → i < length first → count_at d w (place (get_or first i some_mark)) *ℤ coefficient e v.form ≡ count_at c v (place (get_or first i some_mark)) *ℤ coefficient e w.form → (BreaksTie e c v d w (map place (drop i first)) → G) → BreaksTie e c v d w (map place (drop (i + 1) first)) → G
more_at G e c d i v w first within same go rest =
    let n : i + 1 ≡ suc i = omega arith in
    tie_more G e c d i v w first (get_or first i some_mark) within (get_or_default first i some_mark (get_or first i some_mark) within) same go (subst (λ (k : ℕ). BreaksTie e c v d w (map place (drop k first))) n rest)

pub here_at : (G : Type 0) (e c d i : ℕ) (v w : Writing) (first : List Mark) → i < length first → (count_at d w (place (get_or first i some_mark)) *ℤ coefficient e v.form) <ℤ (count_at c v (place (get_or first i some_mark)) *ℤ coefficient e w.form) → (BreaksTie e c v d w (map place (drop i first)) → G) → G
here_at G e c d i v w first within less go = tie_here G e c d i v w first (get_or first i some_mark) within (get_or_default first i some_mark (get_or first i some_mark) within) less go

pub ended : (e c d i : ℕ) (v w : Writing) (first : List Mark) → length first ≤ i → BreaksTie e c v d w (map place (drop i first))
ended e c d i v w first over = subst (λ (ms : List Mark). BreaksTie e c v d w (map place ms)) (sym (drop_all i first over)) tt

-- the numbers of two ratios in place of their writings'
pub by_numbers : (p : Problem) (at : List Mark) (e : ℕ) (r : Ratio) (v : Writing) → IsKeptCorner p at → IsRatioAt p at e r → Writes p at (place r.mark) v → r.by ≡ coefficient e v.form
by_numbers p at e r v kept h g = h.by ∙ (writings_are_equal p at (λ x. x (place r.mark)) h.w.scale v.scale h.w.form v.form h.w.num v.num h.w.den v.den kept.corner kept.rays h.writes g).1 e

-- the same of the numbers
pub less_numbers : (x y a b f g : ℤ) → a ≡ f → b ≡ g → (x *ℤ a) <ℤ (y *ℤ b) → (x *ℤ f) <ℤ (y *ℤ g)
less_numbers x y a b f g e h less = subst (λ (z : ℤ). (x *ℤ z) <ℤ (y *ℤ g)) e (subst (λ (z : ℤ). (x *ℤ a) <ℤ (y *ℤ z)) h less)

pub same_numbers : (x y a b f g : ℤ) → a ≡ f → b ≡ g → x *ℤ a ≡ y *ℤ b → x *ℤ f ≡ y *ℤ g
same_numbers x y a b f g e h same = sym (ap (λ (z : ℤ). x *ℤ z) e) ∙ same ∙ ap (λ (z : ℤ). y *ℤ z) h

-- ---- the first of what moves

pub no_mark : (p : Problem) (at : List Mark) (c : ℕ) (first : List Mark) (list : List What) (x : What) (found : Option Ratio) → ((n : Mark) → x ≡ MarkOf n → NeverFalls p at c n) → IsFirstOf p at c first list found → IsFirstOf p at c first (list ++ x ∷ []) found
no_mark p at c first list x None out are = All-push (λ y. (n : Mark) → y ≡ MarkOf n → NeverFalls p at c n) list x are out
no_mark p at c first list x (Some r) out are = (are.0, All-push (λ y. (n : Mark) → y ≡ MarkOf n → (w : Writing) → Writes p at (place n) w → coefficient c w.form <ℤ pos 0 → FallsBefore p at c first r.mark n) list x are.1 (λ n e w h low. absurd (out n e w h low)))

same-mark : (m n : Mark) → MarkOf m ≡ MarkOf n → m ≡ n
same-mark m n e = cc

pub first_mark : (p : Problem) (at : List Mark) (c : ℕ) (first : List Mark) (list : List What) (m : Mark) (r : Ratio) → IsKeptCorner p at → r.mark ≡ m → IsRatioAt p at c r → IsFirstOf p at c first list None → IsFirstOf p at c first (list ++ MarkOf m ∷ []) (Some r)
first_mark p at c first list m r kept is ratio are = (
  ratio,
  All-push (λ y. (n : Mark) → y ≡ MarkOf n → (w : Writing) → Writes p at (place n) w → coefficient c w.form <ℤ pos 0 → FallsBefore p at c first r.mark n) list (MarkOf m)
      (λ k d within n e w h low. absurd (are k d within n e w h low))
      (λ n e w h low. subst (λ (k : Mark). FallsBefore p at c first r.mark k) (is ∙ same-mark m n e) (own-before p at c first r.mark kept)),
)

-- what falls before one that falls before a third
chained : (p : Problem) (at : List Mark) (c : ℕ) (first : List Mark) (a b n : Mark) (v w u : Writing) → Writes p at (place b) w → coefficient c w.form <ℤ pos 0 → FallsBefore p at c first a b → FallsBefore p at c first b n
    → (x y : Writing) → Writes p at (place a) x → Writes p at (place n) y → coefficient c x.form <ℤ pos 0 → coefficient c y.form <ℤ pos 0 → FallsFirst (map place first) c (place a) x (place n) y
chained p at c first a b n v w u h low f g x y i j k l =
    fall_chain c (place a) (place b) (place n) x w y (map place first) i.den_positive h.den_positive j.den_positive k low l (f x w i h) (g w y h j)

pub earlier_mark : (p : Problem) (at : List Mark) (c : ℕ) (first : List Mark) (list : List What) (m : Mark) (r other best : Ratio) → IsKeptCorner p at → r.mark ≡ m → IsEarlier p at c first r other best → IsFirstOf p at c first list (Some other) → IsFirstOf p at c first (list ++ MarkOf m ∷ []) (Some best)
earlier_mark p at c first list m r other best kept is e are = (
  e.ratio,
  All-push (λ y. (n : Mark) → y ≡ MarkOf n → (w : Writing) → Writes p at (place n) w → coefficient c w.form <ℤ pos 0 → FallsBefore p at c first best.mark n) list (MarkOf m)
      (λ k d within n q w h low x y i j.
      chained p at c first best.mark other.mark n are.0.w are.0.w w are.0.writes (low-number p at c other are.0) e.before_b (are.1 k d within n q w h low) x y i j (falls_too p at c best.mark e.ratio.w x kept e.ratio.writes i (low-number p at c best e.ratio)) (falls_too p at c n w y kept h j low))
      (λ n q w h low. subst (λ (k : Mark). FallsBefore p at c first best.mark k) (is ∙ same-mark m n q) e.before_a),
)

pub never_mark : (p : Problem) (at : List Mark) (c : ℕ) (x : What) (m : Mark) → x ≡ MarkOf m → NeverFalls p at c m → (n : Mark) → x ≡ MarkOf n → NeverFalls p at c n
never_mark p at c x m e h n f = subst (NeverFalls p at c) (same-mark m n (sym e ∙ f)) h

pub mark_inside : (p : Problem) (at : List Mark) (enter m : Mark) → MovesWith p at enter (MarkOf m) → IsIn (place m) at
mark_inside p at enter m (c, (inside, column), ray) = inside
