-- Steps of the columns' fronts.
use Rattle.std.proofs.Common.{◌≡◌, ℕ, ◌+◌, ◌-◌, ◌*◌, ◌<◌, ◌≤◌, Bool, true, false, ◌||◌, map, length, get_or, ℤ, pos, negsuc, ◌*ℤ◌, ◌<ℤ◌, nat_abs, refl, sym, ap, ◌∙◌, arith}
use Rattle.std.proofs.lemmas.List.{get_or-map}
use borrow.Author.Differences.{ints}
use Rattle.problem_core.specs.Layout.{Line, Problem, lines, line_of_stay}
use Rattle.cert_checker.specs.LineSums.{line_count}
use Rattle.cert_checker.proofs.LinePlaces.{stay-at}
use Rattle.cert_checker.proofs.Indexes.{length-lines, no_stay}

pub stay-line : {X : Type 0} (f : Line → X) (p : Problem) (at : ℕ) (d : Line) → length p.rows ≤ at → at < line_count p → f (get_or (lines p) at d) ≡ f (line_of_stay (1001 + (at - length p.rows)) (get_or p.stays (at - length p.rows) no_stay))
stay-line f p at d l m =
    sym (get_or-map f (lines p) at d (f d) (omega (arith, m, length-lines p)))
    ∙ ap (λ (n : ℕ). get_or (map f (lines p)) n (f d)) (let e : at ≡ length p.rows + (at - length p.rows) = omega (arith, l) in e)
    ∙ stay-at f p (at - length p.rows) no_stay (f d) (omega (arith, l, m))

pub pos-mul : (z : ℤ) (w : ℕ) → pos 0 <ℤ z → z *ℤ pos w ≡ pos (nat_abs z * w)
pos-mul (pos n) w h = refl
pos-mul (negsuc n) w h = absurd (omega (arith, ints, h))

pub or-true : (a b c : Bool) → a ≡ b → a ≡ true → a ≡ (b || c)
or-true a true c e f = f
or-true a false c e f = absurd (let g : false ≡ true = sym e ∙ f in cc)

pub or-false : (a b c : Bool) → a ≡ b → a ≡ false → c ≡ (b || c)
or-false a true c e f = absurd (let g : true ≡ false = sym e ∙ f in cc)
or-false a false c e f = refl
