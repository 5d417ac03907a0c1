-- How far what a corner writes moves with a row's constant.
use Rattle.std.proofs.Common.{◌≡◌, ◌≢◌, ◌∙◌, ℕ, ◌*◌, ◌<◌, Bool, List, [], ◌∷◌, map, ℤ, pos, negsuc, ◌+ℤ◌, ◌-ℤ◌, ◌*ℤ◌, refl, sym, ap, ap₂, subst, arith, mul-pos, inl, inr, All, Any, Contains}
use Rattle.std.specs.List.{AllByRecursion as Each}
use Rattle.std.proofs.lemmas.Bool.{cases_eq}
use Rattle.std.proofs.lemmas.List.Elements.{All-from_recursion, recursion_from_All}
use lib.IntN.{*ℤ_comm}
use borrow.Author.Differences.{ints}
use Rattle.frac_core.specs.Fraction.{Fraction, IsRatio, sum_den, sum_num}
use Rattle.frac_core.proofs.Integers.{cancel_mul, mul-zero_ℤ, mul_left_comm_ℤ, zero-mul_ℤ}
use Rattle.problem_core.specs.declared.parts.Mark.{Mark}
use Rattle.problem_core.specs.declared.parts.RowName.TheVariants.{Held}
use Rattle.problem_core.specs.declared.parts.Side.TheVariants.{Over}
use Rattle.problem_core.specs.declared.parts.Term.{Term}
use Rattle.problem_core.specs.Kept.{IsWhole}
use Rattle.problem_core.specs.Layout.{Problem, Row, coefficient, lines, value_at}
use Rattle.problem_core.specs.Corners.{IsCorner, IsIn, Point, Solves, StandsAt, marks_of, one_column, place, place_of}
use Rattle.problem_core.specs.Rays.{HasRays}
use Rattle.problem_core.specs.Unfit.{IsWritingOf}
use Rattle.problem_core.proofs.Forms.{each-impl}
use Rattle.corner_laws.specs.Laws.{IsFixedAt}
use Rattle.corner_laws.proofs.Counting.{IsSmall}
use Rattle.corner_laws.proofs.WrittenValues.{crossed, form_there, value_there}
use Rattle.corner_lines.specs.Shifts.{IsShift, has_constant, with_constant}
use Rattle.corner_lines.proofs.ProblemChanges.Shifted.{changed, raised-here, raised-other, raised-value, same-marks, shift-off, shift-on, shift-small, unshift-solves, unshifted}
use Rattle.corner_lines.proofs.ProblemChanges.ShiftedCorner.{shift_corner}
use Rattle.corner_view.specs.Seen.{HasValueAt}
use Rattle.sweep_laws.specs.Fractions.{difference}
use Rattle.sweep_laws.proofs.Mixtures.{IsZeroOutside, zeros-there}
use Rattle.sweep_run.specs.Ways.{backwards, far_back}
use Rattle.sweep_run.proofs.Backs.{over-both}
use Rattle.sweep_run.proofs.Shares.{IsMovedRatio, moved-ratio, moved-value, other-value, points-agree}

-- ---- the row has the constant already

still-rows : (id : ℕ) (f : Fraction) (rows : List Row) → Each (λ (r : Row). r.id ≡ id → r.constant ≡ f) rows → map (has_constant id f) rows ≡ rows
still-rows id f [] h = refl
still-rows id f (r ∷ rows) h =
    ap₂ (λ (s : Row) (rs : List Row). s ∷ rs)
    (elim (cases_eq r.id id) [
      | inl e ↦ shift-on id f r e ∙ ap (λ (g : Fraction). changed g r) (sym (h.0 e))
      | inr n ↦ shift-off id f r n
    ])
    (still-rows id f rows h.1)

abbrev with_rows : Problem → List Row → Problem
with_rows p rows = record { rows = rows; stays = p.stays }

abbrev pub HasOwn : Problem → ℕ → Fraction → Type 0
HasOwn p row e = All (λ r. r.id ≡ row → r.constant ≡ e) p.rows

pub still : (p : Problem) (row : ℕ) (e : Fraction) → HasOwn p row e → with_constant row e p ≡ p
still p row e own = ap (λ (rows : List Row). with_rows p rows) (still-rows row e p.rows (recursion_from_All (λ (r : Row). r.id ≡ row → r.constant ≡ e) p.rows own))

pub shift-to : (p : Problem) (row : ℕ) (e w : Fraction) → Any (λ r. r.id ≡ row) p.rows → HasOwn p row e → 0 < e.den → 0 < w.den → IsShift p row e w (difference w e)
shift-to p row e w held own he hw = record {
  held = held;
  constant = own;
  from_positive = he;
  to_positive = hw;
  more_positive = mul-pos hw he;
  difference = ap (λ (q : ℤ). (difference w e).num *ℤ q) (over-both w.den e.den);
}

-- ---- a point of another constant, taken to the end's

form-parts : (d s : ℕ) (yc bc v k u : ℤ) → bc ≡ pos d *ℤ yc → v ≡ pos d *ℤ pos 0 +ℤ u *ℤ k → pos d *ℤ (pos s *ℤ yc) -ℤ k *ℤ u ≡ pos s *ℤ bc -ℤ v
form-parts d s yc bc v k u e f =
    let a : pos s *ℤ bc ≡ pos d *ℤ (pos s *ℤ yc) = ap (λ (z : ℤ). pos s *ℤ z) e ∙ mul_left_comm_ℤ (pos s) (pos d) yc in
    let b : u *ℤ k ≡ k *ℤ u = *ℤ_comm u k in
    let none : pos d *ℤ pos 0 ≡ pos 0 = mul-zero_ℤ (pos d) in
    omega (arith, ints, a, b, f, none)

own-parts : (d : ℕ) (yc bc u : ℤ) → bc ≡ pos d *ℤ yc +ℤ u → pos d *ℤ yc -ℤ negsuc 0 *ℤ u ≡ bc
own-parts d yc bc u e = omega (arith, ints, e)

plain-parts : (d : ℕ) (yc bc u : ℤ) → bc ≡ pos d *ℤ yc → pos d *ℤ yc -ℤ pos 0 *ℤ u ≡ bc
plain-parts d yc bc u e = let none : pos 0 *ℤ u ≡ pos 0 = zero-mul_ℤ u in omega (arith, ints, e, none)

one-share : (n z : ℤ) → pos 1 *ℤ (n *ℤ z) ≡ n *ℤ z
one-share n z = omega (arith, ints)

module _ (p : Problem) (at : List Mark) (row : ℕ) (e w : Fraction) (whole : IsWhole p) (held : Any (λ r. r.id ≡ row) p.rows) (own : HasOwn p row e) (he : 0 < e.den) (hw : 0 < w.den) (y : Point) (stands : StandsAt (with_constant row w p) at y) where
  shift : IsShift p row e w (difference w e)
  shift = shift-to p row e w held own he hw

  small : IsSmall (Held row)
  small = shift-small p row e w (difference w e) whole shift

  back : Point
  back = unshifted row small (w.den * e.den) shift.more_positive (difference w e).num y

  back-solves : Solves p back
  unfolding back unshifted
  back-solves = unshift-solves p row e w (difference w e) y.num small shift stands.0

  back-other : (c : ℕ) → c ≢ place_of (Held row) Over → back.num c ≡ pos (w.den * e.den) *ℤ y.num c
  unfolding back unshifted
  back-other c n = raised-other (w.den * e.den) ((difference w e).num *ℤ y.num one_column) (place_of (Held row) Over) y.num c n

  back-own : back.num (place_of (Held row) Over) ≡ pos (w.den * e.den) *ℤ y.num (place_of (Held row) Over) +ℤ (difference w e).num *ℤ y.num one_column
  unfolding back unshifted
  back-own = raised-here (w.den * e.den) ((difference w e).num *ℤ y.num one_column) (place_of (Held row) Over) y.num

  back-one : back.num one_column ≡ pos (w.den * e.den) *ℤ y.num one_column
  back-one = back-other one_column (λ z. absurd (omega (arith, small, z)))

  back-form : (form : List Term) → value_at back.num form ≡ pos (w.den * e.den) *ℤ value_at y.num form +ℤ ((difference w e).num *ℤ y.num one_column) *ℤ coefficient (place_of (Held row) Over) form
  unfolding back unshifted
  back-form form = raised-value (w.den * e.den) ((difference w e).num *ℤ y.num one_column) (place_of (Held row) Over) y.num form

  form-none : (form : List Term) → ((v : ℕ) → coefficient v form ≢ pos 0 → Contains (map place (marks_of (lines p))) v × (IsIn v at → ⊥)) → value_at y.num form ≡ pos 0
  form-none form outside =
      form_there (with_constant row w p) at y form stands
      (λ v some. (subst (λ (ms : List Mark). Contains (map place ms) v) (sym (same-marks row w p)) (outside v some).0, (outside v some).1))

  -- what has a writing
  written : (c scale : ℕ) (form : List Term) (num : ℤ) (den : ℕ) → IsWritingOf p at (λ x. x c) scale form num den → c ≢ place_of (Held row) Over
      → pos den *ℤ (pos (w.den * e.den) *ℤ (pos scale *ℤ y.num c) -ℤ coefficient (place_of (Held row) Over) form *ℤ ((difference w e).num *ℤ y.num one_column)) ≡ pos scale *ℤ (num *ℤ (pos (w.den * e.den) *ℤ y.num one_column))
  written c scale form num den is n =
      ap (λ (z : ℤ). pos den *ℤ z)
      (form-parts (w.den * e.den) scale (y.num c) (back.num c) (value_at back.num form) (coefficient (place_of (Held row) Over) form) ((difference w e).num *ℤ y.num one_column) (back-other c n)
      (back-form form ∙ ap (λ (z : ℤ). pos (w.den * e.den) *ℤ z +ℤ ((difference w e).num *ℤ y.num one_column) *ℤ coefficient (place_of (Held row) Over) form) (form-none form is.outside)))
      ∙ is.holds back back-solves
      ∙ ap (λ (z : ℤ). pos scale *ℤ (num *ℤ z)) back-one

  -- where the row's over mark is inside, it stands at the corner
  back-stands : IsIn (place_of (Held row) Over) at → StandsAt p at back
  back-stands inside = (
    back-solves,
    All-from_recursion (IsZeroOutside at back.num) (marks_of (lines p))
        (each-impl (IsZeroOutside at y.num) (IsZeroOutside at back.num) (marks_of (lines p))
        (λ m none out. back-other (place m) (λ same. out (subst (λ (c : ℕ). IsIn c at) (sym same) inside)) ∙ ap (λ (z : ℤ). pos (w.den * e.den) *ℤ z) (none out) ∙ mul-zero_ℤ (pos (w.den * e.den)))
        (zeros-there p row w at y stands)),
  )

  fixed-there : (c : ℕ) (f : Fraction) → IsIn (place_of (Held row) Over) at → IsFixedAt p at (λ x. x c) → HasValueAt p at c f → pos f.den *ℤ back.num c ≡ f.num *ℤ (pos (w.den * e.den) *ℤ y.num one_column)
  fixed-there c f inside fixed (x, here, value) =
      points-agree f.den (x.num c) (x.num one_column) (back.num c) f.num (pos (w.den * e.den) *ℤ y.num one_column) x.positive
      (ap (λ (z : ℤ). x.num c *ℤ z) (sym back-one) ∙ fixed x back here (back-stands inside)) value

  -- ---- the values there

  moved-by-writing : (c scale : ℕ) (form : List Term) (num : ℤ) (den : ℕ) (f value : Fraction) → IsWritingOf p at (λ x. x c) scale form num den → c ≢ place_of (Held row) Over → 0 < f.den → HasValueAt p at c f → IsMovedRatio e w f value (coefficient (place_of (Held row) Over) form) scale
      → HasValueAt (with_constant row w p) at c value
  moved-by-writing c scale form num den f value is n above (x, here, has) ratio = (
    y,
    stands,
    *ℤ_comm (y.num c) (pos value.den)
        ∙ cancel_mul scale (pos value.den *ℤ y.num c) (value.num *ℤ y.num one_column) is.scale_positive
        (mul_left_comm_ℤ (pos scale) (pos value.den) (y.num c)
        ∙ moved-value f.den (w.den * e.den) value.den scale (pos scale *ℤ y.num c) ((difference w e).num *ℤ y.num one_column) (coefficient (place_of (Held row) Over) form) f.num (difference w e).num value.num (y.num one_column) above shift.more_positive
        (other-value den f.den scale num f.num (pos (w.den * e.den) *ℤ (pos scale *ℤ y.num c) -ℤ coefficient (place_of (Held row) Over) form *ℤ ((difference w e).num *ℤ y.num one_column)) (pos (w.den * e.den) *ℤ y.num one_column) is.den_positive
        (written c scale form num den is n)
        (crossed num f.num (x.num c) den f.den (x.num one_column) x.positive (value_there p at (λ z. z c) scale form num den x is here) (*ℤ_comm (pos f.den) (x.num c) ∙ has)))
        refl ratio),
  )

  moved-by-point : (c : ℕ) (b : ℤ) (f value : Fraction) → pos (w.den * e.den) *ℤ y.num c -ℤ b *ℤ ((difference w e).num *ℤ y.num one_column) ≡ back.num c → pos f.den *ℤ back.num c ≡ f.num *ℤ (pos (w.den * e.den) *ℤ y.num one_column) → 0 < f.den → IsMovedRatio e w f value b 1
      → HasValueAt (with_constant row w p) at c value
  moved-by-point c b f value parts has above ratio = (
    y,
    stands,
    *ℤ_comm (y.num c) (pos value.den)
        ∙ moved-value f.den (w.den * e.den) value.den 1 (y.num c) ((difference w e).num *ℤ y.num one_column) b f.num (difference w e).num value.num (y.num one_column) above shift.more_positive
        (ap (λ (z : ℤ). pos f.den *ℤ z) parts ∙ has ∙ sym (one-share f.num (pos (w.den * e.den) *ℤ y.num one_column)))
        refl ratio
        ∙ one-share value.num (y.num one_column),
  )

-- ---- at a corner

module _ (p : Problem) (at : List Mark) (row : ℕ) (up : Bool) (e w : Fraction) (whole : IsWhole p) (corner : IsCorner p at) (rays : HasRays p at) (held : Any (λ r. r.id ≡ row) p.rows) (own : HasOwn p row e) (he : 0 < e.den) (hw : 0 < w.den) where
  there-corner : IsCorner (with_constant row w p) at
  there-corner = shift_corner p at row e w (difference w e) whole corner rays (shift-to p row e w held own he hw)

  -- what moves as with the row's outside over mark
  pub moves_outside : (c scale : ℕ) (form : List Term) (num : ℤ) (den : ℕ) (f value : Fraction) → IsWritingOf p at (λ x. x c) scale form num den → c ≢ place_of (Held row) Over → 0 < f.den → HasValueAt p at c f
      → IsRatio value (sum_num f (backwards up (coefficient (place_of (Held row) Over) form)) (pos scale) (far_back up w e)) (sum_den f (pos scale) (far_back up w e)) → HasValueAt (with_constant row w p) at c value
  moves_outside c scale form num den f value is n above has ratio =
      moved-by-writing p at row e w whole held own he hw there-corner.point there-corner.stands c scale form num den f value is n above has
      (moved-ratio up e w f value (coefficient (place_of (Held row) Over) form) scale ratio)

  -- where the over mark is inside, nothing else moves
  pub moves_nothing : (c : ℕ) (f value : Fraction) → IsIn (place_of (Held row) Over) at → IsFixedAt p at (λ x. x c) → c ≢ place_of (Held row) Over → 0 < f.den → HasValueAt p at c f
      → IsRatio value (sum_num f (backwards up (pos 0)) (pos 1) (far_back up w e)) (sum_den f (pos 1) (far_back up w e)) → HasValueAt (with_constant row w p) at c value
  moves_nothing c f value inside fixed n above has ratio =
      let y = there-corner.point in
      let stands = there-corner.stands in
      moved-by-point p at row e w whole held own he hw y stands c (pos 0) f value
      (plain-parts (w.den * e.den) (y.num c) ((back p at row e w whole held own he hw y stands).num c) ((difference w e).num *ℤ y.num one_column) (back-other p at row e w whole held own he hw y stands c n))
      (fixed-there p at row e w whole held own he hw y stands c f inside fixed has) above (moved-ratio up e w f value (pos 0) 1 ratio)

  -- and itself falls as the constant rises
  pub moves_itself : (f value : Fraction) → IsIn (place_of (Held row) Over) at → IsFixedAt p at (λ x. x (place_of (Held row) Over)) → 0 < f.den → HasValueAt p at (place_of (Held row) Over) f
      → IsRatio value (sum_num f (backwards up (negsuc 0)) (pos 1) (far_back up w e)) (sum_den f (pos 1) (far_back up w e)) → HasValueAt (with_constant row w p) at (place_of (Held row) Over) value
  moves_itself f value inside fixed above has ratio =
      let y = there-corner.point in
      let stands = there-corner.stands in
      moved-by-point p at row e w whole held own he hw y stands (place_of (Held row) Over) (negsuc 0) f value
      (own-parts (w.den * e.den) (y.num (place_of (Held row) Over)) ((back p at row e w whole held own he hw y stands).num (place_of (Held row) Over)) ((difference w e).num *ℤ y.num one_column) (back-own p at row e w whole held own he hw y stands))
      (fixed-there p at row e w whole held own he hw y stands (place_of (Held row) Over) f inside fixed has) above (moved-ratio up e w f value (negsuc 0) 1 ratio)
