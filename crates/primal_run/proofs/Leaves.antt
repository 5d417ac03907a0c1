-- The mark that leaves.
use Rattle.std.proofs.Common.{◌≡◌, ◌≢◌, ◌∙◌, inl, inr, ℕ, zero, suc, ◌+◌, List, [], ◌∷◌, ◌++◌, map, take, slice_get, ℤ, pos, negsuc, ◌*ℤ◌, ◌≤ℤ◌, ◌<ℤ◌, neg_ℤ, refl, ap, subst, arith, Contains}
use Rattle.std.specs.Prelude.{Some, None}
use Rattle.std.proofs.lemmas.List.Elements.{All-from_recursion}
use borrow.Author.Differences.{ints}
use Rattle.frac_core.proofs.Integers.{mul-zero_ℤ, mul_positive}
use Rattle.problem_core.specs.declared.parts.Mark.{Mark}
use Rattle.problem_core.specs.declared.stops.What.{What}
use Rattle.problem_core.specs.declared.stops.What.TheVariants.{Mark as MarkOf}
use Rattle.problem_core.specs.Layout.{Problem, coefficient}
use Rattle.problem_core.specs.Corners.{IsIn, place}
use Rattle.problem_core.specs.Rays.{IsRay}
use Rattle.problem_core.proofs.Forms.{each-impl}
use Rattle.corner_laws.specs.Runs.{FallsFirst, IsFirstToLeave, Writes, Writing}
use Rattle.corner_laws.proofs.RunSteps.ColumnSigns.{some_mark_falls}
use Rattle.corner_laws.proofs.MarkWritings.Directions.{writing_moves}
use Rattle.corner_laws.proofs.MarkWritings.LowestForms.{column_has_writing}
use Rattle.corner_view.specs.Seen.{AreMovers, CornerView, IsKeptCorner, IsOutside, MovesWith}
use Rattle.primal_run.specs.declared.ties.Ratio.{Ratio}
use Rattle.primal_run.specs.Entering.{MayEnter}
use Rattle.primal_run.specs.Leaving.{IsFirstOf, IsRatioAt, NeverFalls}
use Rattle.corner_ends.proofs.Marks.{contained, in_mark}
use Rattle.corner_view.proofs.Facts.{up_or_low}
use Rattle.frac_core.proofs.Numbers.{low-not-zero as low-some, low-back as low-left, neg-times}
use Rattle.problem_core.proofs.Marks.{in-list as in_list}

-- one item more
pub took_next : {X : Type 0} (xs : List X) (i : ℕ) (x : X) → slice_get xs i ≡ Some x → take i xs ++ x ∷ [] ≡ take (i + 1) xs
took_next xs i x e = let n : suc i ≡ i + 1 = omega arith in subst (λ (k : ℕ). take i xs ++ x ∷ [] ≡ take k xs) n (next xs i x e)
  where
    next : {X : Type 0} (xs : List X) (i : ℕ) (x : X) → slice_get xs i ≡ Some x → take i xs ++ x ∷ [] ≡ take (suc i) xs
    next [] i x e = absurd (let none : None ≡ Some x = e in cc)
    next (y ∷ xs) zero x e = let g : Some y ≡ Some x = e in let same : x ≡ y = cc in ap (λ z. z ∷ []) same
    next (y ∷ xs) (suc i) x e = ap (λ zs. y ∷ zs) (next xs i x e)

some-left : (s : ℕ) (a b r : ℤ) → pos 0 <ℤ r → pos s *ℤ a ≡ b *ℤ r → b <ℤ pos 0 → a ≢ pos 0
some-left s a (pos b) r above e h = absurd (omega (arith, ints, h))
some-left s a (negsuc b) r above e h = λ none.
    let some : pos 0 <ℤ (pos (suc b) *ℤ r) = mul_positive (suc b) r (omega arith) above in
    let opposite : negsuc b *ℤ r ≡ neg_ℤ (pos (suc b) *ℤ r) = neg-times (pos (suc b)) r in
    let zero-left : pos s *ℤ a ≡ pos 0 = ap (λ (z : ℤ). pos s *ℤ z) none ∙ mul-zero_ℤ (pos s) in
    omega (arith, ints, some, opposite, zero-left, e)

pub moves_with : (p : Problem) (at : List Mark) (enter : Mark) (r : Ratio) → IsKeptCorner p at → IsOutside p at enter → IsRatioAt p at (place enter) r → MovesWith p at enter (MarkOf r.mark)
moves_with p at enter r kept out h =
    let ray = kept.rays (place enter) out.0 out.1 in
    let low : coefficient (place enter) h.w.form <ℤ pos 0 = subst (λ (z : ℤ). z <ℤ pos 0) h.by h.falls in (
      place r.mark,
      (h.inside, refl),
      (
        ray.0,
        ray.1,
        some-left h.w.scale (ray.0 (place r.mark)) (coefficient (place enter) h.w.form) (ray.0 (place enter)) ray.1.here
            (writing_moves p at (place r.mark) h.w.scale h.w.form h.w.num h.w.den (place enter) ray.0 kept.corner h.writes ray.1) low,
      ),
    )

-- an inside mark that falls on the ray has a writing with a coefficient below 0
record Falling (p : Problem) (at : List Mark) (enter m : Mark) : Type 0 where
  pub w : Writing
  pub writes : Writes p at (place m) w
  pub low : coefficient (place enter) w.form <ℤ pos 0

falling : (p : Problem) (at : List Mark) (enter m : Mark) (ray : ℕ → ℤ) → IsKeptCorner p at → IsRay p at (place enter) ray → IsIn (place m) at → ray (place m) <ℤ pos 0 → Falling p at enter m
falling p at enter m ray kept r i down =
    let w = column_has_writing p at (place m) kept.corner kept.rays (inl (in_mark p at m kept i)) in
    record {
      w = record { scale = w.0; form = w.1; num = w.2; den = w.3 };
      writes = w.4;
      low = low-left w.0 (ray (place m)) (coefficient (place enter) w.1) (ray (place enter)) w.4.scale_positive r.here (writing_moves p at (place m) w.0 w.1 w.2 w.3 (place enter) ray kept.corner w.4 r) down;
    }

moved : (v : CornerView) (enter : Mark) (whats : List What) (ray : ℕ → ℤ) (m : Mark) → AreMovers v enter whats → IsRay v.problem v.marks (place enter) ray → IsIn (place m) v.marks → ray (place m) <ℤ pos 0 → Contains whats (MarkOf m)
moved v enter whats ray m are r i down = are.all (MarkOf m) (place m, (i, refl), (ray, r, low-some (ray (place m)) down))

pub first_leaves : (v : CornerView) (enter : Mark) (first : List Mark) (whats : List What) (r : Ratio) → IsKeptCorner v.problem v.marks → AreMovers v enter whats → IsFirstOf v.problem v.marks (place enter) first whats (Some r) → IsFirstToLeave v.problem first v.marks (record { enter = enter; leave = r.mark })
first_leaves v enter first whats r kept are h = record {
  leaving = h.0.w;
  writes = h.0.writes;
  falls = subst (λ (z : ℤ). z <ℤ pos 0) h.0.by h.0.falls;
  least = λ ray is.
      All-from_recursion (λ m. ray (place m) <ℤ pos 0 → (w : Writing) × Writes v.problem v.marks (place m) w × FallsFirst (map place first) (place enter) (place r.mark) h.0.w (place m) w) v.marks
      (each-impl (λ m. IsIn (place m) v.marks) _ v.marks
      (λ m i down.
      let f = falling v.problem v.marks enter m ray kept is i down in
      (f.w, f.writes, contained (λ x. (n : Mark) → x ≡ MarkOf n → (w : Writing) → Writes v.problem v.marks (place n) w → coefficient (place enter) w.form <ℤ pos 0 → (a b : Writing) → Writes v.problem v.marks (place r.mark) a → Writes v.problem v.marks (place n) b → FallsFirst (map place first) (place enter) (place r.mark) a (place n) b) whats (MarkOf m) h.1 (moved v enter whats ray m are is i down) m refl f.w f.writes f.low h.0.w f.w h.0.writes f.writes))
      (in_list v.marks));
}

pub none_leaves : (v : CornerView) (enter : Mark) (first : List Mark) (whats : List What) → IsKeptCorner v.problem v.marks → MayEnter v.problem v.marks enter → AreMovers v enter whats → IsFirstOf v.problem v.marks (place enter) first whats None → ⊥
none_leaves v enter first whats kept may are h =
    let ray = kept.rays (place enter) may.outside.0 may.outside.1 in
    some_mark_falls v.problem v.marks enter ray.0 kept.whole may.column ray.1
    (All-from_recursion (λ m. pos 0 ≤ℤ ray.0 (place m)) v.marks
    (each-impl (λ m. IsIn (place m) v.marks) _ v.marks
    (λ m i. elim (up_or_low (ray.0 (place m))) [
      | inl up ↦ up
      | inr down ↦
          let f = falling v.problem v.marks enter m ray.0 kept ray.1 i down in
          absurd (contained (λ x. (n : Mark) → x ≡ MarkOf n → NeverFalls v.problem v.marks (place enter) n) whats (MarkOf m) h (moved v enter whats ray.0 m are ray.1 i down) m refl f.w f.writes f.low)
    ])
    (in_list v.marks)))
