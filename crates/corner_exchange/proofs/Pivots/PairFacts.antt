-- The marks of an exchange, and the leaving line's row solved for the entering line.
use Rattle.std.proofs.Common.{◌≡◌, ◌≢◌, ◌∙◌, ℕ, zero, suc, ◌<◌, true, cond, nat_eq, length, get_or, List, [], ◌∷◌, map, refl, sym, ap, subst, arith, ℤ, pos, negsuc, neg_ℤ, ◌*ℤ◌, unsigned_abs, Any, Contains, Some, None, ne_eqb}
use Rattle.std.specs.declared.option.Option.{Option}
use Rattle.std.proofs.lemmas.Bool.Decides.{nat_tests}
use Rattle.std.proofs.lemmas.List.{get_or_default}
use borrow.Author.Differences.{ints}
use Rattle.frac_core.proofs.Integers.{neg-neg}
use Rattle.problem_core.specs.declared.parts.Mark.{Mark}
use Rattle.problem_core.specs.declared.parts.RowName.{RowName}
use Rattle.problem_core.specs.declared.parts.Side.{Side}
use Rattle.problem_core.specs.declared.parts.Side.TheVariants.{Under, Over}
use Rattle.problem_core.specs.Layout.{Line, lines}
use Rattle.problem_core.specs.Corners.{IsExchange, IsIn, Swap, marks_of, place, place_of}
use Rattle.problem_core.specs.Rays.{HasRays}
use Rattle.corner_laws.proofs.Rays.{rays_after}
use Rattle.corner_lines.specs.LineEquations.{deviation, sign_of}
use Rattle.corner_lines.specs.LineExchanges.{IsPivotRow}
use Rattle.corner_lines.specs.Levels.StayLevels.{turned}
use Rattle.corner_lines.proofs.Lines.LineMoves.{line_is_exchange}
use Rattle.corner_writings.specs.declared.levels.Pair.{Pair}
use Rattle.corner_view.specs.Seen.{IsMarkOf, IsNamed}
use Rattle.corner_table.specs.Tables.{Lists, entry, is_side, line_slot, marks_at, number, problem_of, standing_at, stands_in}
use Rattle.corner_table.specs.Kept.{IsEquationAt, IsKept}
use Rattle.corner_exchange.specs.Swaps.Exchanges.{IsPair, marks_after, signed, solved}
use Rattle.corner_table.proofs.Readings.MarkFacts.{stands_inside}
use Rattle.corner_table.proofs.Readings.ReadFacts.{inside_equation}
use Rattle.corner_table.proofs.Readings.WritingFacts.{lines_apart, number_is}
use Rattle.corner_writings.proofs.Basics.SmallFacts.{self_side}
use Rattle.problem_core.proofs.Sides.{none-not-some as not-some}
use Rattle.frac_core.proofs.Numbers.{mul-neg}

-- ---- signs

pub sign-times : (s : Side) (z : ℤ) → sign_of s *ℤ z ≡ turned s z
sign-times Under z = omega (arith, ints)
sign-times Over z = omega (arith, ints)

pub times-sign : (s : Side) (z : ℤ) → z *ℤ sign_of s ≡ turned s z
times-sign Under z = omega (arith, ints)
times-sign Over z = omega (arith, ints)

pub turned-right : (s : Side) (x y : ℤ) → x *ℤ turned s y ≡ turned s (x *ℤ y)
turned-right Under x y = mul-neg x y
turned-right Over x y = refl

pub turned-twice : (s : Side) (x : ℤ) → turned s (turned s x) ≡ x
turned-twice Under x = neg-neg x
turned-twice Over x = refl

pub turned-turned : (s r : Side) (x : ℤ) → turned s (turned r x) ≡ turned r (turned s x)
turned-turned Under Under x = refl
turned-turned Under Over x = refl
turned-turned Over Under x = refl
turned-turned Over Over x = refl

-- ---- the marks

named-mark : (name : RowName) (side : Side) (ls : List Line) → Any (λ l. l.name ≡ name) ls → Contains (map place (marks_of ls)) (place_of name side)
named-mark name side [] (k, y, lt, e, h) = absurd (omega (arith, lt))
named-mark name Under (l ∷ ls) (zero, y, lt, e, h) = (0, omega arith, ap (λ (n : RowName). place_of n Under) (ap (λ (k : Line). k.name) e ∙ h))
named-mark name Over (l ∷ ls) (zero, y, lt, e, h) = (1, omega arith, ap (λ (n : RowName). place_of n Over) (ap (λ (k : Line). k.name) e ∙ h))
named-mark name side (l ∷ ls) (suc k, y, lt, e, h) =
    let i = named-mark name side ls (k, y, omega (arith, lt), e, h) in
    (suc (suc i.0), omega (arith, i.1), i.2)

-- a mark of a line of the problem is one of the problem's
pub named_mark : (t : Lists) (m : Mark) → IsNamed (problem_of t) m.row → IsMarkOf (problem_of t) m
named_mark t m named = named-mark m.row m.side (lines (problem_of t)) named

pub side-stands : (t : Lists) (m : Mark) → (standing_at t (line_slot t m.row)).side ≡ Some m.side → stands_in t m ≡ true
side-stands t m e = ap (λ (o : Option Side). is_side o m.side) e ∙ self_side m.side

pub leave_stands : (t : Lists) (pair : Pair) (s : Swap) → IsPair t pair s → stands_in t s.leave ≡ true
leave_stands t pair s are = side-stands t s.leave (ap (λ w. (standing_at t w).side) are.leave_slot ∙ are.inside)

pub leave_in : (t : Lists) (pair : Pair) (s : Swap) → IsPair t pair s → IsIn (place s.leave) (marks_at t)
leave_in t pair s are = stands_inside t s.leave (named_mark t s.leave are.leaves) (leave_stands t pair s are)

abbrev some-like : Option Side → Type 0
some-like None = ⊥
some-like (Some s) = Unit {0}

pub slots_apart : (t : Lists) (pair : Pair) (s : Swap) → IsPair t pair s → pair.leave ≢ pair.enter
slots_apart t pair s are e = not-some s.leave.side (sym are.outside ∙ ap (λ w. (standing_at t w).side) (sym e) ∙ are.inside)

-- the equation of the leaving line
pub leave_equation : (t : Lists) (pair : Pair) (s : Swap) → IsKept t → IsPair t pair s
    → IsEquationAt t (deviation s.leave.row) pair.leave (sign_of s.leave.side *ℤ (standing_at t pair.leave).value.num) (standing_at t pair.leave).value.den
leave_equation t pair s kept are =
    subst (λ w. IsEquationAt t (deviation s.leave.row) w (sign_of s.leave.side *ℤ (standing_at t w).value.num) (standing_at t w).value.den) are.leave_slot
    (inside_equation t s.leave kept (named_mark t s.leave are.leaves) (leave_stands t pair s are))

pub entering_number : (t : Lists) (pair : Pair) (s : Swap) → IsPair t pair s → number t pair.leave s.enter.row ≡ neg_ℤ (entry t pair.leave pair.enter)
entering_number t pair s are =
    number_is t pair.leave s.enter.row (λ e. slots_apart t pair s are (sym e ∙ are.enter_slot)) ∙ ap (λ c. neg_ℤ (entry t pair.leave c)) are.enter_slot

neg-some : (z : ℤ) → z ≢ pos 0 → neg_ℤ z ≢ pos 0
neg-some z some e = some (sym (neg-neg z) ∙ ap neg_ℤ e)

pub pair_exchange : (t : Lists) (pair : Pair) (s : Swap) → IsKept t → IsPair t pair s → IsExchange (problem_of t) (marks_at t) s
pair_exchange t pair s kept are =
    let e = leave_equation t pair s kept are in
    line_is_exchange (problem_of t) (marks_at t) s e.0 (number t pair.leave) (sign_of s.leave.side *ℤ (standing_at t pair.leave).value.num) (standing_at t pair.leave).value.den
    kept.whole kept.corner kept.rays (named_mark t s.enter are.enters) (leave_in t pair s are) e.2
    (λ z. neg-some (entry t pair.leave pair.enter) are.stands (sym (entering_number t pair s are) ∙ z))

pub pair_rays : (t : Lists) (pair : Pair) (s : Swap) → IsKept t → IsPair t pair s → HasRays (problem_of t) (marks_after t s)
pair_rays t pair s kept are = rays_after (problem_of t) (marks_at t) s (named_mark t s.enter are.enters) (pair_exchange t pair s kept are) kept.rays

-- ---- the pivot

-- the way in which a number is turned where it is below 0
pub record IsWay (x : ℤ) (way : Side) : Type 0 where
  pub size : pos (unsigned_abs x) ≡ sign_of way *ℤ neg_ℤ x
  pub signed_is : (z : ℤ) → signed x z ≡ neg_ℤ (sign_of way *ℤ z)
  pub positive : 0 < unsigned_abs x

pub way_of : (x : ℤ) → x ≢ pos 0 → (way : Side) × IsWay x way
way_of (pos zero) some = absurd (some refl)
way_of (pos (suc n)) some = (
  Under,
  record {
    size = omega (arith, ints);
    signed_is = λ z. omega (arith, ints);
    positive = omega arith;
  },
)
way_of (negsuc n) some = (
  Over,
  record {
    size = omega (arith, ints);
    signed_is = λ z. omega (arith, ints);
    positive = omega arith;
  },
)

pub eqb-same : (a b : ℕ) → a ≡ b → nat_eq a b ≡ true
eqb-same a b e = grind (arith, nat_tests)

solved-elsewhere : (t : Lists) (pair : Pair) (name : RowName) (way : Side) → IsWay (entry t pair.leave pair.enter) way → line_slot t name ≢ pair.enter → solved t pair name ≡ sign_of way *ℤ entry t pair.leave (line_slot t name)
solved-elsewhere t pair name way is ne =
    ap (λ b. cond b (pos 0) (neg_ℤ (signed (entry t pair.leave pair.enter) (entry t pair.leave (line_slot t name))))) (ne_eqb (line_slot t name) pair.enter ne)
    ∙ ap neg_ℤ (is.signed_is (entry t pair.leave (line_slot t name))) ∙ neg-neg (sign_of way *ℤ entry t pair.leave (line_slot t name))

pub line-here : (ls : List Line) (i : ℕ) (d : Line) → i < length ls → Any (λ l. l.name ≡ (get_or ls i d).name) ls
line-here ls i d within = (i, get_or ls i d, within, get_or_default ls i (get_or ls i d) d within, refl)

solved-other : (t : Lists) (pair : Pair) (s : Swap) (way : Side) (name : RowName) → IsKept t → IsPair t pair s → IsWay (entry t pair.leave pair.enter) way → IsNamed (problem_of t) name
    → name ≢ s.enter.row → name ≢ s.leave.row → solved t pair name ≡ neg_ℤ (sign_of way *ℤ number t pair.leave name)
solved-other t pair s way name kept are is named other_enter other_leave =
    let ne : line_slot t name ≢ pair.enter = λ e. other_enter (lines_apart t name s.enter.row kept.slots named are.enters (are.enter_slot ∙ sym e)) in
    let nl : line_slot t name ≢ pair.leave = λ e. other_leave (lines_apart t name s.leave.row kept.slots named are.leaves (are.leave_slot ∙ sym e)) in
    solved-elsewhere t pair name way is ne
    ∙ sym (ap (λ z. neg_ℤ (sign_of way *ℤ z)) (number_is t pair.leave name nl) ∙ ap neg_ℤ (mul-neg (sign_of way) (entry t pair.leave (line_slot t name))) ∙ neg-neg (sign_of way *ℤ entry t pair.leave (line_slot t name)))

pub pivot_row : (t : Lists) (pair : Pair) (s : Swap) (way : Side) (own : ℕ) → IsKept t → IsPair t pair s → IsWay (entry t pair.leave pair.enter) way → entry t pair.leave pair.leave ≡ pos own
    → IsPivotRow (lines (problem_of t)) s.enter.row s.leave.row way own (number t pair.leave) (unsigned_abs (entry t pair.leave pair.enter)) (solved t pair)
pivot_row t pair s way own kept are is own_is = record {
  pivot_positive = is.positive;
  size = is.size ∙ ap (λ z. sign_of way *ℤ z) (sym (entering_number t pair s are));
  at_enter = ap (λ b. cond b (pos 0) (neg_ℤ (signed (entry t pair.leave pair.enter) (entry t pair.leave (line_slot t s.enter.row))))) (eqb-same (line_slot t s.enter.row) pair.enter are.enter_slot);
  at_leave = solved-elsewhere t pair s.leave.row way is (λ e. slots_apart t pair s are (sym are.leave_slot ∙ e)) ∙ ap (λ c. sign_of way *ℤ entry t pair.leave c) are.leave_slot ∙ ap (λ z. sign_of way *ℤ z) own_is;
  others = λ i d within. solved-other t pair s way (get_or (lines (problem_of t)) i d).name kept are is (line-here (lines (problem_of t)) i d within);
}
