-- That attributes may come.
use Rattle.std.proofs.Common.{◌≡◌, ◌≢◌, ◌∙◌, ℕ, ◌≤◌, ◌++◌, List, [], ◌∷◌, length, map, refl, sym, ap, subst, arith, AllPairs, append_assoc, length-append}
use Rattle.std.specs.List.{AllByRecursion as Each}
use Rattle.std.proofs.lemmas.List.Elements.{recursion_from_All}
use Rattle.frac_core.specs.Fraction.{Fraction}
use Rattle.problem_core.specs.declared.parts.Stay.{Stay}
use Rattle.problem_core.specs.Layout.{Problem, Row}
use Rattle.problem_core.specs.Kept.{IsNumber, IsStay, IsWhole}
use Rattle.problem_core.proofs.Forms.{each-impl}
use Rattle.layout_solver.specs.Layouts.{AreApart, stays_at, zeros}
use Rattle.layout_solver.specs.Starts.{CanTake, attrs_of}
use Rattle.layout_solver.proofs.Starts.Moved.{each_mapped}
use Rattle.corner_laws.proofs.MarkWritings.TermLifts.{pairs-across}
use Rattle.frac_core.proofs.Lists.{pairs-unmapped as mapped-pairs, length-mapped, pairs-map as pairs-mapped, each-right as each-second}

-- ---- room

room : (held new : List ℕ) → Each IsNumber new → AllPairs (λ a b. a ≢ b) (held ++ new) → length (held ++ new) ≤ 4096 → CanTake held new
room held [] numbers apart long = tt
room held (a ∷ new) numbers apart long = (
  numbers.0,
  each-impl (λ (h : ℕ). Each (λ (b : ℕ). h ≢ b) (a ∷ new)) _ held (λ h k. k.0) (pairs-across (λ (b c : ℕ). b ≢ c) held (a ∷ new) apart),
  omega (arith, long, length-append held (a ∷ new)),
  room (held ++ (a ∷ [])) new numbers.1 (subst (AllPairs (λ (b c : ℕ). b ≢ c)) (sym (append_assoc held (a ∷ []) new)) apart)
      (subst (λ (ns : List ℕ). length ns ≤ 4096) (sym (append_assoc held (a ∷ []) new)) long),
)

-- where the numbers of a whole problem's attributes are these, the new ones may come
whole-room : (p : Problem) (held new : List ℕ) → IsWhole p → attrs_of p ≡ held ++ new → CanTake held new
whole-room p held new whole e =
    room held new
    (each-second IsNumber held new (subst (Each IsNumber) e (each_mapped (λ (s : Stay). s.attr) IsNumber p.stays (each-impl IsStay _ p.stays (λ s k. k.attr) (recursion_from_All IsStay p.stays whole.stays)))))
    (subst (AllPairs (λ (a b : ℕ). a ≢ b)) e (pairs-mapped (λ (s : Stay). s.attr) (λ (a b : ℕ). a ≢ b) p.stays whole.apart))
    (subst (λ (ns : List ℕ). length ns ≤ 4096) e (subst (λ (n : ℕ). n ≤ 4096) (sym (length-mapped (λ (s : Stay). s.attr) p.stays)) whole.stay_count))

numbers-of : (values : List (ℕ × Fraction)) (attrs : List ℕ) → map (λ (s : Stay). s.attr) (stays_at (values ++ zeros attrs)) ≡ map (λ v. v.0) values ++ attrs
numbers-of [] [] = refl
numbers-of [] (a ∷ attrs) = ap (λ (ns : List ℕ). a ∷ ns) (numbers-of [] attrs)
numbers-of (v ∷ values) attrs = ap (λ (ns : List ℕ). v.0 ∷ ns) (numbers-of values attrs)

pub added_room : (held : List ℕ) (values : List (ℕ × Fraction)) (attrs : List ℕ) (rows : List Row) → map (λ v. v.0) values ≡ held → IsWhole (record { rows = rows; stays = stays_at (values ++ zeros attrs) }) → CanTake held attrs
added_room held values attrs rows e whole =
    whole-room (record { rows = rows; stays = stays_at (values ++ zeros attrs) }) held attrs whole (numbers-of values attrs ∙ ap (λ (ns : List ℕ). ns ++ attrs) e)

-- ---- values of different attributes

-- the stays of a whole problem are of different attributes, and so are the values in their order
pub values_apart : (p : Problem) (values : List (ℕ × Fraction)) → IsWhole p → map (λ v. v.0) values ≡ attrs_of p → AreApart values
values_apart p values whole is =
    mapped-pairs (λ (v : ℕ × Fraction). v.0) (λ (a b : ℕ). a ≢ b) values
    (subst (AllPairs (λ (a b : ℕ). a ≢ b)) (sym is) (pairs-mapped (λ (s : Stay). s.attr) (λ (a b : ℕ). a ≢ b) p.stays whole.apart))
