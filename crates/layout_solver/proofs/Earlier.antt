-- The earlier solutions of an engine.
use Rattle.std.proofs.Common.{◌≡◌, ◌∙◌, ℕ, zero, suc, ◌-◌, ◌<◌, List, [], ◌∷◌, length, take, refl, sym, ap, ap₂, subst, arith, All}
use Rattle.std.proofs.lemmas.List.Elements.{All-from_recursion, All-take, recursion_from_All}
use Rattle.frac_core.specs.Fraction.{Fraction}
use Rattle.corner_view.specs.Seen.{CornerView, Scene}
use Rattle.corner_view.specs.Changes.{scene_of}
use Rattle.layout_solver.specs.Layouts.{IsKeptSolution, Layout, Solution, solution_of}
use Rattle.layout_solver.specs.Engines.{AreItsValues, HasValues, HaveValues, IsSolved, layout_of, solution_at, solutions_at}
use Rattle.layout_solver.specs.ValuesUnique.{lists_are_one}

-- the same corners have the same solutions
pub same_solutions : (ss ts : List Scene) (g : HaveValues ss) (h : HaveValues ts) → ss ≡ ts → solutions_at ss g ≡ solutions_at ts h
same_solutions ss ts g h e = subst (λ (us : List Scene). (k : HaveValues us) → solutions_at ss g ≡ solutions_at us k) e (λ k. ap (solutions_at ss) (lists_are_one ss g k)) h

pub solutions_length : (ss : List Scene) (h : HaveValues ss) → length (solutions_at ss h) ≡ length ss
solutions_length [] h = refl
solutions_length (s ∷ ss) h = ap suc (solutions_length ss h.1)

pub have_first : (n : ℕ) (ss : List Scene) → HaveValues ss → HaveValues (take n ss)
have_first zero ss h = tt
have_first (suc n) [] h = tt
have_first (suc n) (s ∷ ss) h = (h.0, have_first n ss h.1)

solutions-first : (n : ℕ) (ss : List Scene) (h : HaveValues ss) → solutions_at (take n ss) (have_first n ss h) ≡ take n (solutions_at ss h)
unfolding have_first
solutions-first zero ss h = refl
solutions-first (suc n) [] h = refl
solutions-first (suc n) (s ∷ ss) h = ap (λ (rest : List Solution). solution_at s h.0.0 ∷ rest) (solutions-first n ss h.1)

pub kept_cons : (s : Solution) (ss : List Solution) → IsKeptSolution s → All IsKeptSolution ss → All IsKeptSolution (s ∷ ss)
kept_cons s ss h k = All-from_recursion IsKeptSolution (s ∷ ss) (h, recursion_from_All IsKeptSolution ss k)

-- ---- a solved corner, with its layout

module _ (c : CornerView) (v : List (ℕ × Fraction)) (past : HaveValues c.before) (l : Layout) (solved : IsSolved c v past) (view : layout_of c v past ≡ l) where
  pub earlier_length : length c.before ≡ length l.earlier
  earlier_length = sym (solutions_length c.before past) ∙ ap (λ (k : Layout). length k.earlier) view

  pub earlier_some : 0 < length l.earlier → 0 < length c.before
  earlier_some h = let e = earlier_length in omega (arith, h, e)

  pub earlier_kept : All IsKeptSolution l.earlier
  earlier_kept = subst (λ (k : Layout). All IsKeptSolution k.earlier) view solved.earlier

  -- ---- back at the latest earlier one

  module _ (new : CornerView) (back : c.before ≡ scene_of new ∷ new.before) where
    back-have : HaveValues (scene_of new ∷ new.before)
    back-have = subst HaveValues back past

    pub back_values : HasValues (scene_of new)
    back_values = back-have.0

    pub back_before : HaveValues new.before
    back_before = back-have.1

    module _ (w : List (ℕ × Fraction)) (are : ∥ AreItsValues (scene_of new) w ∥₁) (rest : HaveValues new.before) where
      back-same : solutions_at c.before past ≡ solution_at (scene_of new) w ∷ solutions_at new.before rest
      back-same = same_solutions c.before (scene_of new ∷ new.before) past ((w, are), rest) back

      pub back_is : l.earlier ≡ solution_of (layout_of new w rest) ∷ solutions_at new.before rest
      back_is = sym (ap (λ (k : Layout). k.earlier) view) ∙ back-same

      pub back_solved : new.candidates ≡ [] → IsSolved new w rest
      back_solved listed =
          let all = recursion_from_All IsKeptSolution (solution_at (scene_of new) w ∷ solutions_at new.before rest) (subst (All IsKeptSolution) back-same solved.earlier) in record {
            kept = all.0;
            earlier = All-from_recursion IsKeptSolution (solutions_at new.before rest) all.1;
            listed = listed;
          }

  -- ---- without the oldest

  module _ (new : CornerView) (scene : scene_of new ≡ scene_of c) (before : new.before ≡ take (length c.before - 1) c.before) where
    pub forgot_before : HaveValues new.before
    forgot_before = subst HaveValues (sym before) (have_first (length c.before - 1) c.before past)

    forgot-same : (rest : HaveValues new.before) → solutions_at new.before rest ≡ take (length c.before - 1) (solutions_at c.before past)
    forgot-same rest =
        same_solutions new.before (take (length c.before - 1) c.before) rest (have_first (length c.before - 1) c.before past) before
        ∙ solutions-first (length c.before - 1) c.before past

    pub forgot_earlier : (rest : HaveValues new.before) → solutions_at new.before rest ≡ take (length l.earlier - 1) l.earlier
    forgot_earlier rest =
        forgot-same rest ∙ ap₂ (λ (n : ℕ) (k : Layout). take (n - 1) k.earlier) earlier_length view

    pub forgot_kept : (rest : HaveValues new.before) → All IsKeptSolution (solutions_at new.before rest)
    forgot_kept rest = subst (All IsKeptSolution) (sym (forgot-same rest)) (All-take IsKeptSolution (length c.before - 1) (solutions_at c.before past) solved.earlier)
