-- Columns after an exchange, as multiples of those before it: `candidates_return`.
use Rattle.std.proofs.Common.{◌≡◌, ◌≢◌, ◌∙◌, ℕ, zero, suc, ◌*◌, ◌<◌, List, [], ◌∷◌, length, get_or, refl, sym, ap, subst, arith, inl, inr, ◌⊎◌, ℤ, pos, neg_ℤ, ◌+ℤ◌, ◌-ℤ◌, ◌*ℤ◌, ◌<ℤ◌, unsigned_abs, All, Contains, mul-pos}
use Rattle.std.specs.List.{AllByRecursion as Each}
use Rattle.std.proofs.lemmas.List.Elements.{All-from_recursion, recursion_from_All}
use lib.IntN.{*ℤ_comm}
use borrow.Author.Differences.{ints}
use Rattle.frac_core.proofs.Integers.{mul-add_left, mul-sub_left, mul-zero_ℤ, mul_assoc_ℤ, mul_left_comm_ℤ, sign_cases}
use Rattle.problem_core.specs.declared.parts.Mark.{Mark}
use Rattle.problem_core.specs.declared.parts.Rel.{Rel}
use Rattle.problem_core.specs.declared.parts.Rel.TheVariants.{Eq, Le, Ge}
use Rattle.problem_core.specs.declared.parts.RowName.{RowName}
use Rattle.problem_core.specs.declared.parts.Side.{Side}
use Rattle.problem_core.specs.declared.parts.Side.TheVariants.{Under, Over}
use Rattle.problem_core.specs.Layout.{Line, Problem, coefficient, lines, sum_of}
use Rattle.problem_core.specs.Kept.{IsWhole}
use Rattle.problem_core.specs.Certificates.{Multipliers, over_weight, under_weight, weight_at}
use Rattle.problem_core.specs.Corners.{AreMultipliersAt, HasNegativeColumn, IsCorner, IsIn, IsLexNegative, SameMarks, Swap, column, exchanged, place, place_of}
use Rattle.problem_core.proofs.Forms.{each-both, each-impl}
use Rattle.problem_core.proofs.Wholes.{whole-IsProblem}
use Rattle.corner_laws.proofs.Counting.{IsSmall, one_mark}
use Rattle.corner_laws.proofs.LinePlaces.{AllApart, AreApart, lines_apart}
use Rattle.corner_laws.proofs.WrittenValues.{contains_each}
use Rattle.corner_lines.specs.LineEquations.{sign_of}
use Rattle.corner_lines.specs.Levels.StayLevels.{turned}
use Rattle.corner_lines.proofs.LevelRows.LevelExchanges.{by-sides}
use Rattle.corner_lines.proofs.Lines.LineSums.{both-cancel}
use Rattle.corner_view.specs.Seen.{AreCandidates, IsNamed}
use Rattle.corner_exchange.proofs.Pivots.PairFacts.{turned-right, turned-twice, way_of}
use Rattle.corner_table.specs.Reads.LevelNumbers.{side_share}
use Rattle.corner_view.proofs.Facts.{mark_named}
use Rattle.corner_lines.proofs.Lines.LineWritings.{all-small}
use Rattle.frac_core.proofs.Numbers.{plus-zero as plus-none, low-times, signed-not-zero as not_zero, neg-times, mul-neg as mul-opp}
use Rattle.problem_core.proofs.Marks.{same-multipliers as to-same, entered-in as enter_in, kept-in as kept_in}
use Rattle.problem_core.proofs.Lines.{name-cases}
use Rattle.corner_lines.proofs.Costs.StayFits.{turned-mul as turned-left}

-- ---- lines by name

once : (ls : List Line) (i : ℕ) (x : Line) → AllApart ls → i < length ls → get_or ls i x ≡ x → Each (λ l. l.name ≡ x.name → l ≡ x) ls
once [] i x apart lt e = tt
once (l ∷ ls) zero x apart lt e = (
  λ n. e,
  each-impl (AreApart l) _ ls (λ k a n. absurd (a.under_under (ap (λ (j : Line). place_of j.name Under) e ∙ ap (λ (r : RowName). place_of r Under) (sym n)))) apart.0,
)
once (l ∷ ls) (suc i) x apart lt e =
    let within : i < length ls = omega (arith, lt) in
    let a : AreApart l x = subst (λ (k : Line). AreApart l k) e (All-from_recursion (AreApart l) ls apart.0 i x within) in
    ((λ n. absurd (a.under_under (ap (λ (r : RowName). place_of r Under) n))), once ls i x apart.1 within e)

same-inside : (p : Problem) (at : List Mark) (name : RowName) (x y : Side) → IsSmall name → IsCorner p at → IsIn (place_of name x) at → IsIn (place_of name y) at → x ≡ y
same-inside p at name Under Under small corner i j = refl
same-inside p at name Over Over small corner i j = refl
same-inside p at name Under Over small corner i j = absurd (one_mark p at name small corner i j)
same-inside p at name Over Under small corner i j = absurd (one_mark p at name small corner j i)

-- ---- multipliers of the corner before

-- numbers of lines that cancel; of the lines with a mark inside the leaving one alone has one
pub record IsReturn (p : Problem) (at : List Mark) (leave : RowName) (by : RowName → ℤ) : Type 0 where
  pub cancel : (v : ℕ) → sum_of (λ l. by l.name *ℤ coefficient v l.form) (lines p) ≡ pos 0
  pub inside_zero : (side : Side) → All (λ l. IsIn (place_of l.name side) at → l.name ≢ leave → by l.name ≡ pos 0) (lines p)
  pub some : by leave ≢ pos 0

-- each level's multipliers `most` times, and those numbers with a factor of the level
abbrev pub returned : ℕ → (ℕ → ℤ) → (RowName → ℤ) → Multipliers → Multipliers
returned most factor by m = record {
  scale = λ level. most * m.scale level;
  times = λ level name. pos most *ℤ m.times level name +ℤ factor level *ℤ by name;
}

under-form : (most s w scale : ℕ) (t z : ℤ) → pos (most * s * w) -ℤ pos scale *ℤ (pos most *ℤ t +ℤ z) ≡ pos most *ℤ (pos (s * w) -ℤ pos scale *ℤ t) +ℤ neg_ℤ (pos scale *ℤ z)
under-form most s w scale t z =
    let a : pos scale *ℤ (pos most *ℤ t +ℤ z) ≡ pos scale *ℤ (pos most *ℤ t) +ℤ pos scale *ℤ z = mul-add_left (pos scale) (pos most *ℤ t) z in
    let b : pos most *ℤ (pos (s * w) -ℤ pos scale *ℤ t) ≡ pos most *ℤ pos (s * w) -ℤ pos most *ℤ (pos scale *ℤ t) = mul-sub_left (pos most) (pos (s * w)) (pos scale *ℤ t) in
    let c : pos scale *ℤ (pos most *ℤ t) ≡ pos most *ℤ (pos scale *ℤ t) = mul_left_comm_ℤ (pos scale) (pos most) t in
    let d : pos most *ℤ pos (s * w) ≡ pos (most * s * w) = ap pos (omega arith) in
    omega (arith, ints, a, b, c, d)

over-form : (most s w scale : ℕ) (t z : ℤ) → pos (most * s * w) +ℤ pos scale *ℤ (pos most *ℤ t +ℤ z) ≡ pos most *ℤ (pos (s * w) +ℤ pos scale *ℤ t) +ℤ pos scale *ℤ z
over-form most s w scale t z =
    let a : pos scale *ℤ (pos most *ℤ t +ℤ z) ≡ pos scale *ℤ (pos most *ℤ t) +ℤ pos scale *ℤ z = mul-add_left (pos scale) (pos most *ℤ t) z in
    let b : pos most *ℤ (pos (s * w) +ℤ pos scale *ℤ t) ≡ pos most *ℤ pos (s * w) +ℤ pos most *ℤ (pos scale *ℤ t) = mul-add_left (pos most) (pos (s * w)) (pos scale *ℤ t) in
    let c : pos scale *ℤ (pos most *ℤ t) ≡ pos most *ℤ (pos scale *ℤ t) = mul_left_comm_ℤ (pos scale) (pos most) t in
    let d : pos most *ℤ pos (s * w) ≡ pos (most * s * w) = ap pos (omega arith) in
    omega (arith, ints, a, b, c, d)

returned-column : (most : ℕ) (factor : ℕ → ℤ) (by : RowName → ℤ) (m : Multipliers) (side : Side) (l : Line) (level : ℕ) → column (returned most factor by m) side l level ≡ pos most *ℤ column m side l level +ℤ turned side (pos l.scale *ℤ (factor level *ℤ by l.name))
returned-column most factor by m Under l level = under-form most (m.scale level) (under_weight l.rel (weight_at l level)) l.scale (m.times level l.name) (factor level *ℤ by l.name)
returned-column most factor by m Over l level = over-form most (m.scale level) (over_weight l.rel (weight_at l level)) l.scale (m.times level l.name) (factor level *ℤ by l.name)

turned-none : (side : Side) (z : ℤ) → z ≡ pos 0 → turned side z ≡ pos 0
turned-none Under z e = omega (arith, ints, e)
turned-none Over z e = e

-- of a line without a number it is a multiple
pub unmoved-column : (most : ℕ) (factor : ℕ → ℤ) (by : RowName → ℤ) (m : Multipliers) (side : Side) (l : Line) (level : ℕ) → by l.name ≡ pos 0 → column (returned most factor by m) side l level ≡ pos most *ℤ column m side l level
unmoved-column most factor by m side l level e =
    returned-column most factor by m side l level
    ∙ plus-none (pos most *ℤ column m side l level) (turned side (pos l.scale *ℤ (factor level *ℤ by l.name)))
    (turned-none side (pos l.scale *ℤ (factor level *ℤ by l.name)) (ap (λ (z : ℤ). pos l.scale *ℤ (factor level *ℤ z)) e ∙ ap (λ (z : ℤ). pos l.scale *ℤ z) (mul-zero_ℤ (factor level)) ∙ mul-zero_ℤ (pos l.scale)))

way-times : (w : Side) (g : ℕ) (d x : ℤ) → pos g ≡ sign_of w *ℤ neg_ℤ x → turned w d *ℤ x ≡ neg_ℤ (pos g *ℤ d)
way-times Under g d x e =
    let same : x ≡ pos g = omega (arith, ints, e) in
    neg-times d x ∙ ap neg_ℤ (ap (λ (z : ℤ). d *ℤ z) same ∙ *ℤ_comm d (pos g))
way-times Over g d x e =
    let same : x ≡ neg_ℤ (pos g) = omega (arith, ints, e) in
    ap (λ (z : ℤ). d *ℤ z) same ∙ mul-opp d (pos g) ∙ ap neg_ℤ (*ℤ_comm d (pos g))

balanced : (scale g : ℕ) (side w : Side) (d x : ℤ) → pos g ≡ sign_of w *ℤ neg_ℤ x → pos (scale * g) *ℤ d +ℤ turned side (pos scale *ℤ (turned side (turned w d) *ℤ x)) ≡ pos 0
balanced scale g side w d x e =
    let a : turned side (pos scale *ℤ (turned side (turned w d) *ℤ x)) ≡ pos scale *ℤ (turned w d *ℤ x) =
    ap (λ (z : ℤ). turned side (pos scale *ℤ z)) (turned-left side (turned w d) x) ∙ ap (turned side) (turned-right side (pos scale) (turned w d *ℤ x)) ∙ turned-twice side (pos scale *ℤ (turned w d *ℤ x)) in
    let b : pos scale *ℤ (turned w d *ℤ x) ≡ neg_ℤ (pos scale *ℤ (pos g *ℤ d)) = ap (λ (z : ℤ). pos scale *ℤ z) (way-times w g d x e) ∙ mul-opp (pos scale) (pos g *ℤ d) in
    let c : pos (scale * g) *ℤ d ≡ pos scale *ℤ (pos g *ℤ d) = mul_assoc_ℤ (pos scale) (pos g) d in
    omega (arith, ints, a, b, c)

-- the factor takes the leaving mark's column away
abbrev pub factor_of : Side → Side → Line → Multipliers → ℕ → ℤ
factor_of side w l m level = turned side (turned w (column m side l level))

pub leaving-column : (side w : Side) (g : ℕ) (by : RowName → ℤ) (m : Multipliers) (l : Line) (level : ℕ) → pos g ≡ sign_of w *ℤ neg_ℤ (by l.name) → column (returned (l.scale * g) (factor_of side w l m) by m) side l level ≡ pos 0
leaving-column side w g by m l level e = returned-column (l.scale * g) (factor_of side w l m) by m side l level ∙ balanced l.scale g side w (column m side l level) (by l.name) e

-- the line of the leaving mark, and the way of its number
pub record IsLeaving (p : Problem) (leave : RowName) (by : RowName → ℤ) (l : Line) (w : Side) (g : ℕ) : Type 0 where
  pub name : l.name ≡ leave
  pub scale : 0 < l.scale
  pub only : Each (λ k. k.name ≡ l.name → k ≡ l) (lines p)
  pub size : pos g ≡ sign_of w *ℤ neg_ℤ (by l.name)
  pub above : 0 < g

returned-inside : (p : Problem) (at : List Mark) (s : Swap) (by : RowName → ℤ) (m : Multipliers) (l k : Line) (w side : Side) (g level : ℕ) → IsCorner p at → IsIn (place s.leave) at → IsLeaving p s.leave.row by l w g
    → IsSmall k.name → (k.name ≡ l.name → k ≡ l) → (k.name ≢ s.leave.row → by k.name ≡ pos 0) → (IsIn (place_of k.name side) (exchanged s at) → column m side k level ≡ pos 0)
    → IsIn (place_of k.name side) at → column (returned (l.scale * g) (factor_of s.leave.side w l m) by m) side k level ≡ pos 0
returned-inside p at s by m l k w side g level corner leaves is small only zeros inside i =
    let n : Multipliers = returned (l.scale * g) (factor_of s.leave.side w l m) by m in
    elim (name-cases k.name s.leave.row) [
      | inl e ↦
          let same : side ≡ s.leave.side = same-inside p at k.name side s.leave.side small corner i (subst (λ (r : RowName). IsIn (place_of r s.leave.side) at) (sym e) leaves) in
          subst (λ (x : Side). column n x k level ≡ pos 0) (sym same) (subst (λ (j : Line). column n s.leave.side j level ≡ pos 0) (sym (only (e ∙ sym is.name))) (leaving-column s.leave.side w g by m l level is.size))
      | inr ne ↦
          let there : IsIn (place_of k.name side) (exchanged s at) = kept_in s at (place_of k.name side) i (λ z. ne (by-sides k.name s.leave.row side s.leave.side z).0) in
          unmoved-column (l.scale * g) (factor_of s.leave.side w l m) by m side k level (zeros ne) ∙ ap (λ (z : ℤ). pos (l.scale * g) *ℤ z) (inside there) ∙ mul-zero_ℤ (pos (l.scale * g))
    ]

returned-multipliers : (p : Problem) (at : List Mark) (s : Swap) (by : RowName → ℤ) (m : Multipliers) (l : Line) (w : Side) (g : ℕ) → IsWhole p → IsCorner p at → IsIn (place s.leave) at → IsReturn p at s.leave.row by → IsLeaving p s.leave.row by l w g
    → AreMultipliersAt p (exchanged s at) m → AreMultipliersAt p at (returned (l.scale * g) (factor_of s.leave.side w l m) by m)
returned-multipliers p at s by m l w g whole corner leaves return is are = record {
  scales = λ level. mul-pos (mul-pos is.scale is.above) (are.scales level);
  cancel = λ level. both-cancel p (pos (l.scale * g)) (factor_of s.leave.side w l m level) (m.times level) by (are.cancel level) return.cancel;
  inside_zero = λ side.
      All-from_recursion (λ k. IsIn (place_of k.name side) at → (level : ℕ) → column (returned (l.scale * g) (factor_of s.leave.side w l m) by m) side k level ≡ pos 0) (lines p)
      (each-impl (λ k. (IsSmall k.name × (k.name ≡ l.name → k ≡ l)) × ((IsIn (place_of k.name side) at → k.name ≢ s.leave.row → by k.name ≡ pos 0) × (IsIn (place_of k.name side) (exchanged s at) → (level : ℕ) → column m side k level ≡ pos 0))) _ (lines p)
      (λ k h i level. returned-inside p at s by m l k w side g level corner leaves is h.0.0 h.0.1 (h.1.0 i) (λ j. h.1.1 j level) i)
      (each-both _ _ (lines p) (each-both _ _ (lines p) (all-small p whole) is.only)
      (each-both _ _ (lines p) (recursion_from_All _ (lines p) (return.inside_zero side)) (recursion_from_All _ (lines p) (are.inside_zero side)))));
}

pub negative-line : (most : ℕ) (factor : ℕ → ℤ) (by : RowName → ℤ) (m : Multipliers) (side : Side) (l : Line) → 0 < most → by l.name ≡ pos 0 → IsLexNegative (column m side l) → IsLexNegative (column (returned most factor by m) side l)
negative-line most factor by m side l above e (level, zeros, low) = (
  level,
  λ k less. unmoved-column most factor by m side l k e ∙ ap (λ (z : ℤ). pos most *ℤ z) (zeros k less) ∙ mul-zero_ℤ (pos most),
  subst (λ (z : ℤ). z <ℤ pos 0) (sym (unmoved-column most factor by m side l level e)) (low-times most (column m side l level) above low),
)

returns-by : (p : Problem) (at : List Mark) (s : Swap) (by : RowName → ℤ) (mark : Mark) (l : Line) (w : Side) (g : ℕ) → IsWhole p → IsCorner p at → IsIn (place s.leave) at → IsReturn p at s.leave.row by → IsLeaving p s.leave.row by l w g
    → by mark.row ≡ pos 0 → HasNegativeColumn p (exchanged s at) mark → HasNegativeColumn p at mark
returns-by p at s by mark l w g whole corner leaves return is none (m, are, (i, k, within, e, (here, low))) = (
  returned (l.scale * g) (factor_of s.leave.side w l m) by m,
  returned-multipliers p at s by m l w g whole corner leaves return is are,
  (i, k, within, e, (here, negative-line (l.scale * g) (factor_of s.leave.side w l m) by m mark.side k (mul-pos is.scale is.above) (ap by (by-sides k.name mark.row mark.side mark.side here).0 ∙ none) low)),
)

-- a mark that has a negative column after the exchange, and whose line has no number, had one before
pub negative_returns : (p : Problem) (at : List Mark) (s : Swap) (by : RowName → ℤ) (mark : Mark) → IsWhole p → IsCorner p at → IsIn (place s.leave) at → IsNamed p s.leave.row → IsReturn p at s.leave.row by
    → by mark.row ≡ pos 0 → HasNegativeColumn p (exchanged s at) mark → HasNegativeColumn p at mark
negative_returns p at s by mark whole corner leaves (i, l, within, e, name) return none negative =
    let way = way_of (by l.name) (λ z. return.some (ap by (sym name) ∙ z)) in
    returns-by p at s by mark l way.0 (unsigned_abs (by l.name)) whole corner leaves return
    (record {
      name = name;
      scale = subst (λ (k : Line). 0 < k.scale) e (whole-IsProblem p whole i l within).0;
      only = once (lines p) i l (lines_apart p whole) within e;
      size = way.1.size;
      above = way.1.positive;
    })
    none negative

-- ---- an inside line's other mark

not-low : (x y : Side) (m : Multipliers) (l : Line) (level : ℕ) → column m x l level ≡ pos 0 → column m y l level <ℤ pos 0 → ⊥
not-low Under Under m l level e low = absurd (omega (arith, ints, e, low))
not-low Under Over m l level e low = absurd (omega (arith, ints, e, low))
not-low Over Under m l level e low = absurd (omega (arith, ints, e, low))
not-low Over Over m l level e low = absurd (omega (arith, ints, e, low))

-- has no negative column
pub inside_not_negative : (p : Problem) (at : List Mark) (mark : Mark) (side : Side) → IsIn (place_of mark.row side) at → HasNegativeColumn p at mark → ⊥
inside_not_negative p at mark side inside (m, are, (i, l, within, e, (here, (level, zeros, low)))) =
    let name : l.name ≡ mark.row = (by-sides l.name mark.row mark.side mark.side here).0 in
    let zero_there : column m side l level ≡ pos 0 =
    subst (λ (k : Line). IsIn (place_of k.name side) at → (j : ℕ) → column m side k j ≡ pos 0) e (are.inside_zero side i l within) (subst (λ (r : RowName). IsIn (place_of r side) at) (sym name) inside) level in
    not-low side mark.side m l level zero_there low

-- ---- candidates

-- where all lines with a number are listed, but for the two lines, all marks that have negative columns are
pub candidates_return : (p : Problem) (at next : List Mark) (s : Swap) (by : RowName → ℤ) (old new : List RowName) → IsWhole p → IsCorner p at → IsIn (place s.leave) at → IsNamed p s.leave.row → IsReturn p at s.leave.row by → SameMarks next (exchanged s at)
    → AreCandidates p at old → ((name : RowName) → Contains old name → Contains new name) → ((s.leave.row ≡ s.enter.row) ⊎ Contains new s.leave.row)
    → ((name : RowName) → IsNamed p name → name ≢ s.enter.row → name ≢ s.leave.row → by name ≢ pos 0 → Contains new name) → AreCandidates p next new
candidates_return p at next s by old new whole corner leaves named return same before keeps leaving row m out negative =
    let to : (c : ℕ) → IsIn c (exchanged s at) → IsIn c next = λ c. contains_each (λ (b : ℕ). IsIn b next) (exchanged s at) c (recursion_from_All (λ (k : Mark). IsIn (place k) next) (exchanged s at) same.1) in
    let after : HasNegativeColumn p (exchanged s at) m = (negative.0, to-same p (exchanged s at) next negative.0 to negative.1, negative.2) in
    elim (name-cases m.row s.enter.row) [
      | inl e ↦ absurd (inside_not_negative p (exchanged s at) m s.enter.side (subst (λ (r : RowName). IsIn (place_of r s.enter.side) (exchanged s at)) (sym e) (enter_in s at leaves)) after)
      | inr other ↦ elim (name-cases m.row s.leave.row) [
        | inl e ↦ elim leaving [
          | inl turns ↦ absurd (other (e ∙ turns))
          | inr has ↦ subst (λ (r : RowName). Contains new r) (sym e) has
        ]
        | inr stays ↦ elim (sign_cases (by m.row)) [
          | inl none ↦
              keeps m.row
              (before m
              (out.0, λ i. out.1 (to (place m) (kept_in s at (place m) i (λ z. stays (by-sides m.row s.leave.row m.side s.leave.side z).0))))
              (negative_returns p at s by m whole corner leaves named return none after))
          | inr some ↦ row m.row (mark_named p m out.0) other stays (not_zero (by m.row) some)
        ]
      ]
    ]

-- ---- marks that cost nothing

pub free-side : (rel : Rel) (side : Side) (n : ℕ) → side_share rel side 1 ≡ 0 → side_share rel side n ≡ 0
free-side Eq Under n e = absurd (omega (arith, e))
free-side Eq Over n e = absurd (omega (arith, e))
free-side Le Under n e = refl
free-side Le Over n e = absurd (omega (arith, e))
free-side Ge Under n e = absurd (omega (arith, e))
free-side Ge Over n e = refl
