-- Lists whose lowest terms do not fit.
use Rattle.std.proofs.Common.{◌≡◌, ◌∙◌, List, [], ◌∷◌, map, length, ℤ, pos, ◌*ℤ◌, unsigned_abs, refl, ap, ap₂, arith}
use Rattle.std.specs.Int.{◌∣◌}
use Rattle.std.specs.List.{AllByRecursion as Each}
use Rattle.std.proofs.lemmas.List.Elements.{All-from_recursion, All-map, recursion_from_All}
use Rattle.frac_core.specs.Fraction.{IsFitting}
use Rattle.problem_core.specs.declared.parts.RowName.{RowName}
use Rattle.problem_core.specs.Layout.{Line, lines}
use Rattle.problem_core.proofs.Forms.{each-impl, each-both}
use Rattle.corner_laws.proofs.LinePlaces.{AllApart, AreApart, lines_apart}
use Rattle.path_lines.specs.Tables.{numbers_of}
use Rattle.path_lines.specs.Exchanges.Carried.{UnfitListIsUnfit}
use Rattle.path_lines.proofs.Arithmetic.NumbersOf.{number_here, number_later}
use Rattle.frac_core.proofs.Lists.{each-from_map as unmapped}

-- the list of the lines' numbers
pub same_list : (g : ℤ) (part : RowName → ℤ) (ls : List Line) (zs : List ℤ) → AllApart ls → length zs ≡ length ls → Each (λ l. g *ℤ part l.name ≡ numbers_of ls zs l.name) ls
    → map (λ z. g *ℤ z) (map (λ l. part l.name) ls) ≡ zs
same_list g part [] [] apart count all = refl
same_list g part [] (z ∷ zs) apart count all = absurd (omega (arith, count))
same_list g part (l ∷ ls) [] apart count all = absurd (omega (arith, count))
same_list g part (l ∷ ls) (z ∷ zs) apart count all =
    ap₂ ◌∷◌ (all.0 ∙ number_here l ls z zs)
    (same_list g part ls zs apart.1 (omega (arith, count))
    (each-impl (λ k. AreApart l k × (g *ℤ part k.name ≡ numbers_of (l ∷ ls) (z ∷ zs) k.name)) (λ k. g *ℤ part k.name ≡ numbers_of ls zs k.name) ls (λ k h. h.1 ∙ number_later l k ls z zs h.0)
    (each-both (AreApart l) (λ k. g *ℤ part k.name ≡ numbers_of (l ∷ ls) (z ∷ zs) k.name) ls apart.0 all.1)))

pub unfit_list_is_unfit : UnfitListIsUnfit
unfit_list_is_unfit p own out num den whole count unfit low part value reduced ratio fits each kept =
    unfit (pos low) (map (λ l. part l.name) (lines p))
    (record {
      factor = reduced.factor;
      above = reduced.factor_positive;
      own_is = ap pos reduced.own_same;
      same = same_list (pos reduced.factor) part (lines p) out (lines_apart p whole) count
          (recursion_from_All (λ l. pos reduced.factor *ℤ part l.name ≡ numbers_of (lines p) out l.name) (lines p) reduced.same);
      lowest = λ k all.
          reduced.lowest k all.0
          (All-from_recursion (λ l. k ∣ unsigned_abs (part l.name)) (lines p)
          (unmapped (λ z. k ∣ unsigned_abs z) (λ (l : Line). part l.name) (lines p) (recursion_from_All (λ z. k ∣ unsigned_abs z) (map (λ (l : Line). part l.name) (lines p)) all.1)));
    })
    (fits, All-map IsFitting (λ (l : Line). part l.name) (lines p) each)
