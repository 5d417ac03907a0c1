-- What is seen of a corner: names, marks, levels and what moves.
use Rattle.std.proofs.Common.{◌≡◌, ◌≢◌, ◌∙◌, ◌⊎◌, inl, inr, ℕ, zero, suc, ◌+◌, ◌-◌, ◌<◌, ◌≤◌, ◌++◌, Bool, true, false, cond, nat_eq, List, [], ◌∷◌, map, get_or, slice_index_or, ℤ, pos, negsuc, ◌*ℤ◌, ◌≤ℤ◌, ◌<ℤ◌, unsigned_abs, refl, sym, ap, ap₂, subst, arith, Any, eq-eqb, ne_eqb}
use Rattle.std.specs.declared.option.Option.{Option}
use Rattle.std.specs.List.{AllByRecursion as Each}
use Rattle.std.proofs.lemmas.Bool.{cases_eq}
use Rattle.std.proofs.lemmas.List.Elements.{recursion_from_All}
use borrow.Author.Differences.{ints}
use lib.IntN.{*ℤ_comm}
use Rattle.frac_core.proofs.Integers.{cancel_mul, mul-zero_ℤ}
use Rattle.frac_core.proofs.Bools.{not-both as not_both, or-later as here_or}
use Rattle.problem_core.specs.declared.parts.Mark.{Mark}
use Rattle.problem_core.specs.declared.parts.RowName.{RowName}
use Rattle.problem_core.specs.declared.parts.RowName.TheVariants.{Held, Stay as StayOf}
use Rattle.problem_core.specs.declared.parts.Side.{Side}
use Rattle.problem_core.specs.declared.parts.Side.TheVariants.{Under, Over}
use Rattle.problem_core.specs.declared.parts.Level.{Level}
use Rattle.problem_core.specs.declared.parts.Stay.{Stay}
use Rattle.problem_core.specs.declared.stops.What.{What}
use Rattle.problem_core.specs.Layout.{Line, Problem, Row, coefficient, line_of_row, lines, stay_lines}
use Rattle.problem_core.specs.Corners.{IsCorner, IsIn, SameMarks, place, place_of}
use Rattle.problem_core.specs.Rays.{HasRays}
use Rattle.problem_core.proofs.RowNames.{held-not-stay as not-held}
use Rattle.corner_laws.proofs.WrittenValues.{contains_each}
use Rattle.corner_laws.proofs.MarkWritings.Directions.{writing_moves}
use Rattle.corner_lines.proofs.Lines.LineWritings.{Named, mark-named, named-mark}
use Rattle.corner_lines.proofs.Lines.MarkForms.{same-name}
use Rattle.corner_view.specs.Moves.{AreMoved, Shows}
use Rattle.corner_view.specs.Seen.{is_mark, IsCoefficientOf, IsInUse, IsLevelOf, IsMarkOf, IsNamed, IsOutside, MovesWith}

named_any : (name : RowName) (ls : List Line) → Named name ls → Any (λ l. l.name ≡ name) ls
named_any name [] h = absurd h
named_any name (l ∷ ls) (inl e) = (0, l, omega arith, refl, e)
named_any name (l ∷ ls) (inr n) = let i = named_any name ls n in (suc i.0, i.1, omega (arith, i.2), i.3, i.4)

-- the line of a mark of the problem is one of the problem's
pub mark_named : (p : Problem) (m : Mark) → IsMarkOf p m → IsNamed p m.row
mark_named p m is = named_any m.row (lines p) (mark-named p m.row m.side is)

any_named : (name : RowName) (ls : List Line) → Any (λ l. l.name ≡ name) ls → Named name ls
any_named name [] h = absurd (omega (arith, h.2))
any_named name (l ∷ ls) (zero, k, within, is, e) = inl (subst (λ (n : Line). n.name ≡ name) (sym is) e)
any_named name (l ∷ ls) (suc i, k, within, is, e) = inr (any_named name ls (i, k, omega (arith, within), is, e))

-- and the marks of such a line are the problem's
pub named_in : (p : Problem) (name : RowName) (side : Side) → IsNamed p name → IsMarkOf p (record { row = name; side = side })
named_in p name side named = named-mark p name side (any_named name (lines p) named)

pub later : (c : ℕ) (m : Mark) (ms : List Mark) → IsIn c ms → IsIn c (m ∷ ms)
later c m ms (k, within, is) = (suc k, omega (arith, within), is)

same_side : (a : RowName) (s t : Side) → place_of a s ≡ place_of a t → s ≡ t
same_side a Under Under e = refl
same_side a Over Over e = refl
same_side (Held id) Under Over e = absurd (omega (arith, e))
same_side (Held id) Over Under e = absurd (omega (arith, e))
same_side (StayOf attr) Under Over e = absurd (omega (arith, e))
same_side (StayOf attr) Over Under e = absurd (omega (arith, e))

-- marks with one column are one
pub same_mark : (m n : Mark) → place m ≡ place n → m ≡ n
same_mark m n e =
    let name : m.row ≡ n.row = same-name m.row n.row m.side n.side e in
    let side : m.side ≡ n.side = same_side n.row m.side n.side (subst (λ (r : RowName). place_of r m.side ≡ place n) name e) in
    ap₂ (λ (r : RowName) (d : Side). (record { row = r; side = d })) name side

pub is_in : (ms : List Mark) (c : ℕ) → is_mark ms c ≡ true → IsIn c ms
is_in [] c e = absurd (not_both false e refl)
is_in (m ∷ ms) c e =
    elim (cases_eq (place m) c) [
      | inl same ↦ (0, omega arith, same)
      | inr other ↦ later c m ms (is_in ms c (subst (λ (b : Bool). cond b true (is_mark ms c) ≡ true) (ne_eqb (place m) c other) e))
    ]

pub in_is : (ms : List Mark) (c : ℕ) → IsIn c ms → is_mark ms c ≡ true
in_is [] c (k, within, is) = absurd (omega (arith, within))
in_is (m ∷ ms) c (zero, within, is) = ap (λ (b : Bool). cond b true (is_mark ms c)) (eq-eqb (place m) c is)
in_is (m ∷ ms) c (suc k, within, is) = here_or (nat_eq (place m) c) (is_mark ms c) (in_is ms c (k, omega (arith, within), is))

pub up_or_low : (z : ℤ) → (pos 0 ≤ℤ z) ⊎ (z <ℤ pos 0)
up_or_low (pos n) = inl (omega (arith, ints))
up_or_low (negsuc n) = inr (omega (arith, ints))

moves_not : (s : ℕ) (y z v : ℤ) → pos 0 <ℤ v → pos s *ℤ y ≡ z *ℤ v → y ≡ pos 0 → z ≡ pos 0
moves_not s y z (pos zero) above e none = absurd above.lt
moves_not s y z (pos (suc n)) above e none =
    cancel_mul (suc n) z (pos 0) (omega arith) (*ℤ_comm (pos (suc n)) z ∙ sym e ∙ ap (λ (k : ℤ). pos s *ℤ k) none ∙ mul-zero_ℤ (pos s) ∙ sym (mul-zero_ℤ (pos (suc n))))
moves_not s y z (negsuc n) above e none = absurd above.lt

-- what has a coefficient moves
pub moves_where : (p : Problem) (at : List Mark) (m : Mark) (what : What) (z : ℤ) → IsCorner p at → HasRays p at → IsOutside p at m → IsCoefficientOf p at what m z → z ≢ pos 0 → MovesWith p at m what
moves_where p at m what z corner rays out (c, column, (scale, form, value, writing, same)) ne =
    let r = rays (place m) out.0 out.1 in
    (c, column, (r.0, r.1, λ e. ne (same ∙ moves_not scale (r.0 c) (coefficient (place m) form) (r.0 (place m)) r.1.here (writing_moves p at c scale form value.num value.den (place m) r.0 corner writing r.1) e)))

pub same_trans : (a b c : List Mark) → SameMarks a b → SameMarks b c → SameMarks a c
same_trans a b c f g = (
  λ k x lt. contains_each (λ d. IsIn d c) b (place (slice_index_or a k x)) (recursion_from_All (λ m. IsIn (place m) c) b g.0) (f.0 k x lt),
  λ k x lt. contains_each (λ d. IsIn d a) b (place (slice_index_or c k x)) (recursion_from_All (λ m. IsIn (place m) a) b f.1) (g.1 k x lt),
)

pub positive_is : (z : ℤ) → pos 0 <ℤ z → (0 < unsigned_abs z) × (pos (unsigned_abs z) ≡ z)
positive_is (pos n) h = (omega (arith, ints, h), refl)
positive_is (negsuc n) h = absurd h.lt

pub used_level : (p : Problem) (level : Level) → IsInUse p level → IsLevelOf p level
used_level p level use-of = (use-of.1.level, use-of.4)

pub past-rows : (a j : ℕ) (rows : List Row) (rest : List Line) → Any (λ l. (l.name ≡ StayOf a) × (l.level ≡ j)) (map line_of_row rows ++ rest) → Any (λ l. (l.name ≡ StayOf a) × (l.level ≡ j)) rest
past-rows a j [] rest h = h
past-rows a j (r ∷ rows) rest (zero, x, w, e, h) = absurd (not-held r.id a (ap (λ (l : Line). l.name) e ∙ h.0))
past-rows a j (r ∷ rows) rest (suc n, x, w, e, h) = past-rows a j rows rest (n, x, omega (arith, w), e, h)

pub tail-level : (a j base : ℕ) (stays : List Stay) → Any (λ l. (l.name ≡ StayOf a) × (l.level ≡ j)) (stay_lines base stays) → base ≤ j
tail-level a j base [] (n, x, w, e, h) = absurd (omega (arith, w))
tail-level a j base (s ∷ stays) (zero, x, w, e, h) = let k : base ≡ j = ap (λ (l : Line). l.level) e ∙ h.1 in omega (arith, k)
tail-level a j base (s ∷ stays) (suc n, x, w, e, h) = let k = tail-level a j (base + 1) stays (n, x, omega (arith, w), e, h) in omega (arith, k)

pub append_more : {X : Type 0} (xs ys zs : List X) → (xs ++ ys) ++ zs ≡ xs ++ (ys ++ zs)
append_more [] ys zs = refl
append_more (x ∷ xs) ys zs = ap (λ us. x ∷ us) (append_more xs ys zs)

pub stays_part : (P : Line → Type 0) (rows : List Row) (ls : List Line) → Each P (map line_of_row rows ++ ls) → Each P ls
stays_part P [] ls h = h
stays_part P (r ∷ rows) ls h = stays_part P rows ls h.1

pub moved_by :
    {S R F : Type 0} (Has : S → ℕ → F → Type 0) (Other : R → ℕ → F → Type 0) (old new : S) (then now : R) (xs : List ℕ)
    → ((x : ℕ) (o : Option F) → Shows Has old x o → Shows Other then x o)
    → ((x : ℕ) (o : Option F) → Shows Has new x o → Shows Other now x o)
    → AreMoved Has old new xs → AreMoved Other then now xs
moved_by Has Other old new then now xs of_old of_new are = record {
  moved = λ k d within.
      let m = are.moved k d within in
      (m.0, m.1, of_old (get_or xs k d) m.0 m.2, of_new (get_or xs k d) m.1 m.3, m.4);
  others = λ x.
      elim (are.others x) [
        | inl one ↦ inl one
        | inr stayed ↦ inr (stayed.0, of_old x stayed.0 stayed.1, of_new x stayed.0 stayed.2)
      ];
}

abbrev pub made_problem : List Row → List Stay → Problem
made_problem rows stays = record { rows = rows; stays = stays }
