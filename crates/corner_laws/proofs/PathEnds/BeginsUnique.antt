-- Where a path begins: the corner that was there fixes the attributes, so the new rows' marks.
use Rattle.std.proofs.Common.{◌≡◌, ◌≢◌, ◌∙◌, ℕ, zero, suc, ◌+◌, ◌*◌, ◌<◌, ◌≤◌, List, [], ◌∷◌, ◌++◌, map, ℤ, pos, negsuc, ◌+ℤ◌, ◌-ℤ◌, ◌*ℤ◌, neg_ℤ, ◌<ℤ◌, ◌≤ℤ◌, refl, sym, ap, ap₂, subst, arith, inl, inr, Contains}
use Rattle.std.specs.List.{AllByRecursion as Each, AllZip}
use Rattle.std.proofs.lemmas.List.Elements.{All-from_recursion, recursion_from_All}
use lib.IntN.{*ℤ_comm}
use borrow.Author.Differences.{ints}
use Rattle.frac_core.proofs.Integers.{add-mul_right, cancel_mul, mul_assoc_ℤ, mul_positive, mul_not_negative, zero-mul_ℤ}
use Rattle.problem_core.specs.declared.parts.Mark.{Mark}
use Rattle.problem_core.specs.declared.parts.Side.{Side}
use Rattle.problem_core.specs.declared.parts.Side.TheVariants.{Under, Over}
use Rattle.problem_core.specs.declared.parts.RowName.{RowName}
use Rattle.problem_core.specs.declared.parts.RowName.TheVariants.{Held, Stay as StayOf}
use Rattle.problem_core.specs.declared.parts.Term.{Term}
use Rattle.problem_core.specs.declared.parts.Stay.{Stay}
use Rattle.problem_core.specs.Layout.{HasStay, IsCovered, Line, Problem, Row, line_of_row, lines, stay_lines, value_at}
use Rattle.problem_core.specs.Kept.{IsWhole}
use Rattle.problem_core.specs.Corners.{Agree, IsCorner, IsIn, Point, SameMarks, StandsAt, attr_column, equation, marks_of, one_column, place, place_of}
use Rattle.problem_core.proofs.Forms.{each-impl, each-both, each-map}
use Rattle.problem_core.proofs.Wholes.{whole-IsProblem}
use Rattle.problem_core.proofs.RowNames.{held-same, stay-not-held}
use Rattle.problem_core.specs.Changes.Begins.{BeginsWith, IsJoined}
use Rattle.problem_core.specs.Unfit.{over_mark, under_mark}
use Rattle.corner_laws.proofs.Swaps.ColumnsStay.{each_marks}
use Rattle.corner_laws.proofs.Counting.{IsSmall, one_mark, rows_small, stays_small}
use Rattle.corner_laws.proofs.LevelCosts.Gaps.{deviation, form_value, line_gap}
use Rattle.corner_laws.proofs.Rays.{cancel-right}
use Rattle.corner_laws.proofs.WrittenValues.{contains_each, nothing_outside}
use Rattle.corner_laws.proofs.ZeroColumns.{here-in}
use Rattle.corner_laws.proofs.MarkWritings.TermLifts.{pairs-across}
use Rattle.corner_laws.proofs.MarkWritings.Directions.{each-of}
use Rattle.frac_core.proofs.Lists.{each-left as each-first, each-right as each-second, each-joined}
use Rattle.problem_core.proofs.Lines.{each-less as without-new}
use Rattle.frac_core.proofs.Numbers.{neg-times}

-- ---- lists of rows

-- the line is none of these rows
abbrev pub IsNone : List Row → Line → Type 0
IsNone rows l = Each (λ r. l.name ≢ Held r.id) rows

pub old-rows : (old new : List Row) → Each (λ r. Each (λ s. r.id < s.id) new) old → Each (IsNone new) (map line_of_row old)
old-rows [] new h = tt
old-rows (r ∷ old) new h = (each-impl (λ s. r.id < s.id) (λ s. Held r.id ≢ Held s.id) new (λ s lt e. absurd (omega (arith, lt, held-same r.id s.id e))) h.0, old-rows old new h.1)

pub old-stays : (level : ℕ) (stays : List Stay) (new : List Row) → Each (IsNone new) (stay_lines level stays)
old-stays level [] new = tt
old-stays level (s ∷ stays) new = (each-of (λ r. StayOf s.attr ≢ Held r.id) new (λ r. stay-not-held s.attr r.id), old-stays (level + 1) stays new)

-- ---- marks

pub apart-places : (n id s t : ℕ) → s ≤ 1 → t ≤ 1 → n ≢ id → 4 * id + s ≢ 4 * n + t
apart-places n id s t a b ne e = ne (omega (arith, a, b, e))

pub stay-places : (n id s t : ℕ) → s ≤ 1 → t ≤ 1 → 4 * id + s ≢ 4 * n + 2 + t
stay-places n id s t a b e = absurd (omega (arith, a, b, e))

pub place-apart : (name : RowName) (id : ℕ) (s t : Side) → name ≢ Held id → place_of (Held id) s ≢ place_of name t
place-apart (Held n) id Under Under ne = apart-places n id 0 0 (omega arith) (omega arith) (λ e. ne (ap Held e))
place-apart (Held n) id Under Over ne = apart-places n id 0 1 (omega arith) (omega arith) (λ e. ne (ap Held e))
place-apart (Held n) id Over Under ne = apart-places n id 1 0 (omega arith) (omega arith) (λ e. ne (ap Held e))
place-apart (Held n) id Over Over ne = apart-places n id 1 1 (omega arith) (omega arith) (λ e. ne (ap Held e))
place-apart (StayOf n) id Under Under ne = stay-places n id 0 0 (omega arith) (omega arith)
place-apart (StayOf n) id Under Over ne = stay-places n id 0 1 (omega arith) (omega arith)
place-apart (StayOf n) id Over Under ne = stay-places n id 1 0 (omega arith) (omega arith)
place-apart (StayOf n) id Over Over ne = stay-places n id 1 1 (omega arith) (omega arith)

pub news-apart : (x : Point) (name : RowName) (side : Side) (joined : List Row) (news : List Mark) → AllZip (IsJoined x) joined news → Each (λ r. name ≢ Held r.id) joined → Each (λ m. place m ≢ place_of name side) news
news-apart x name side [] [] z h = tt
news-apart x name side [] (m ∷ news) z h = absurd z
news-apart x name side (r ∷ joined) [] z h = absurd z
news-apart x name side (r ∷ joined) (m ∷ news) (inl (e, up), z) h = ((λ q. place-apart name r.id Over side h.0 (sym (ap place e) ∙ q)), news-apart x name side joined news z h.1)
news-apart x name side (r ∷ joined) (m ∷ news) (inr (e, up), z) h = ((λ q. place-apart name r.id Under side h.0 (sym (ap place e) ∙ q)), news-apart x name side joined news z h.1)

pub overs-apart : (name : RowName) (side : Side) (rest : List Row) → Each (λ r. name ≢ Held r.id) rest → Each (λ m. place m ≢ place_of name side) (map (λ r. over_mark r.id) rest)
overs-apart name side [] h = tt
overs-apart name side (r ∷ rest) h = (place-apart name r.id Over side h.0, overs-apart name side rest h.1)

pub in-first : (v : ℕ) (xs ys : List Mark) → Each (λ m. place m ≢ v) ys → IsIn v (xs ++ ys) → IsIn v xs
in-first v [] ys h i = absurd (contains_each (λ c. c ≢ v) ys v h i refl)
in-first v (x ∷ xs) ys h (zero, within, is) = (0, omega arith, is)
in-first v (x ∷ xs) ys h (suc k, within, is) = let i = in-first v xs ys h (k, omega (arith, within), is) in (suc i.0, omega (arith, i.1), i.2)

-- ---- the corner that was there

-- what stands at the marks after stands at the kept ones, where only the old rows are looked at
pub stands-before : (old joined rest : List Row) (stays : List Stay) (kept a : List Mark) → IsWhole (record { rows = old ++ (joined ++ rest); stays = stays }) → (h : BeginsWith (record { rows = old ++ (joined ++ rest); stays = stays }) kept joined rest a) → StandsAt (record { rows = old; stays = stays }) kept h.point
stands-before old joined rest stays kept a whole h =
    let new : List Row = joined ++ rest in
    let p : Problem = record { rows = old ++ new; stays = stays } in
    let q : Problem = record { rows = old; stays = stays } in
    let none : Each (IsNone new) (lines q) = each-joined (IsNone new) (map line_of_row old) (stay_lines 1001 stays) (old-rows old new (pairs-across (λ r s. r.id < s.id) old new whole.rising)) (old-stays 1001 stays new) in
    let here = without-new (λ l. Contains (map place (marks_of (lines p))) (place_of l.name Under) × Contains (map place (marks_of (lines p))) (place_of l.name Over)) old new (stay_lines 1001 stays) (here-in (lines p)) in
    let out : (l : Line) (side : Side) → IsNone new l → Contains (map place (marks_of (lines p))) (place_of l.name side) → (IsIn (place_of l.name side) kept → ⊥) → h.point.num (place_of l.name side) ≡ pos 0 =
    λ l side apart mark gone. nothing_outside p a h.point (place_of l.name side) h.stands mark
    (λ i. gone (in-first (place_of l.name side) kept (h.news ++ map (λ r. over_mark r.id) rest)
    (each-joined (λ m. place m ≢ place_of l.name side) h.news (map (λ r. over_mark r.id) rest)
    (news-apart h.point l.name side joined h.news h.each (each-first (λ r. l.name ≢ Held r.id) joined rest apart))
    (overs-apart l.name side rest (each-second (λ r. l.name ≢ Held r.id) joined rest apart)))
    (contains_each (λ c. IsIn c (kept ++ (h.news ++ map (λ r. over_mark r.id) rest))) a (place_of l.name side) (recursion_from_All (λ m. IsIn (place m) (kept ++ (h.news ++ map (λ r. over_mark r.id) rest))) a h.marks.0) i))) in (
      All-from_recursion (λ l. value_at h.point.num (equation l) ≡ pos 0) (lines q) (without-new (λ l. value_at h.point.num (equation l) ≡ pos 0) old new (stay_lines 1001 stays) (recursion_from_All _ (lines p) h.stands.0)),
      All-from_recursion (λ m. (IsIn (place m) kept → ⊥) → h.point.num (place m) ≡ pos 0) (marks_of (lines q))
          (each_marks (λ c. (IsIn c kept → ⊥) → h.point.num c ≡ pos 0) (lines q)
          (each-impl (λ l. IsNone new l × (Contains (map place (marks_of (lines p))) (place_of l.name Under) × Contains (map place (marks_of (lines p))) (place_of l.name Over))) _ (lines q) (λ l k. out l Under k.0 k.1.0) (each-both _ _ (lines q) none here))
          (each-impl (λ l. IsNone new l × (Contains (map place (marks_of (lines p))) (place_of l.name Under) × Contains (map place (marks_of (lines p))) (place_of l.name Over))) _ (lines q) (λ l k. out l Over k.0 k.1.1) (each-both _ _ (lines q) none here))),
    )

-- ---- attributes

-- z*a = x*c and z*b = y*c, where a, b, c are the denominators of x, y, z
pub agree-both : (x y z a b c : ℤ) → pos 0 <ℤ c → z *ℤ a ≡ x *ℤ c → z *ℤ b ≡ y *ℤ c → x *ℤ b ≡ y *ℤ a
agree-both x y z a b c above e f =
    let one : (x *ℤ b) *ℤ c ≡ (z *ℤ a) *ℤ b = mul_assoc_ℤ x b c ∙ ap (λ (t : ℤ). x *ℤ t) (*ℤ_comm b c) ∙ sym (mul_assoc_ℤ x c b) ∙ ap (λ (t : ℤ). t *ℤ b) (sym e) in
    let two : (y *ℤ a) *ℤ c ≡ (z *ℤ b) *ℤ a = mul_assoc_ℤ y a c ∙ ap (λ (t : ℤ). y *ℤ t) (*ℤ_comm a c) ∙ sym (mul_assoc_ℤ y c a) ∙ ap (λ (t : ℤ). t *ℤ a) (sym f) in
    let three : (z *ℤ a) *ℤ b ≡ (z *ℤ b) *ℤ a = mul_assoc_ℤ z a b ∙ ap (λ (t : ℤ). z *ℤ t) (*ℤ_comm a b) ∙ sym (mul_assoc_ℤ z b a) in
    cancel-right (x *ℤ b) (y *ℤ a) c above (one ∙ three ∙ sym two)

-- each attribute with a stay has one value at both points
agree-attr : (q : Problem) (kept : List Mark) (x y : Point) → IsCorner q kept → StandsAt q kept x → StandsAt q kept y → (attr : ℕ) → HasStay q.stays attr → x.num (attr_column attr) *ℤ y.num one_column ≡ y.num (attr_column attr) *ℤ x.num one_column
agree-attr q kept x y corner sx sy attr (k, s, within, is, e) =
    let ax : Agree (attr_column s.attr) corner.point x = subst (λ (t : Stay). Agree (attr_column t.attr) corner.point x) is (corner.attrs_fixed x sx k s within) in
    let ay : Agree (attr_column s.attr) corner.point y = subst (λ (t : Stay). Agree (attr_column t.attr) corner.point y) is (corner.attrs_fixed y sy k s within) in
    subst (λ (n : ℕ). x.num (attr_column n) *ℤ y.num one_column ≡ y.num (attr_column n) *ℤ x.num one_column) e
    (agree-both (x.num (attr_column s.attr)) (y.num (attr_column s.attr)) (corner.point.num (attr_column s.attr)) (x.num one_column) (y.num one_column) (corner.point.num one_column) corner.point.positive ax ay)

pub agree-form : (n o : ℕ → ℤ) (a b : ℤ) (form : List Term) → Each (λ t. n t.attr *ℤ b ≡ o t.attr *ℤ a) form → value_at n form *ℤ b ≡ value_at o form *ℤ a
agree-form n o a b [] h = zero-mul_ℤ b ∙ sym (zero-mul_ℤ a)
agree-form n o a b (t ∷ form) h =
    add-mul_right (t.by *ℤ n t.attr) (value_at n form) b
    ∙ ap₂ ◌+ℤ◌ (mul_assoc_ℤ t.by (n t.attr) b ∙ ap (λ (z : ℤ). t.by *ℤ z) h.0 ∙ sym (mul_assoc_ℤ t.by (o t.attr) a)) (agree-form n o a b form h.1)
    ∙ sym (add-mul_right (t.by *ℤ o t.attr) (value_at o form) a)

-- ---- gaps

pub gap-same : (d : ℕ) (k u v f g a b : ℤ) → 0 < d → pos d *ℤ (u +ℤ f) ≡ k *ℤ a → pos d *ℤ (v +ℤ g) ≡ k *ℤ b → f *ℤ b ≡ g *ℤ a → u *ℤ b ≡ v *ℤ a
gap-same d k u v f g a b above e h same =
    let one : pos d *ℤ ((u +ℤ f) *ℤ b) ≡ (k *ℤ a) *ℤ b = sym (mul_assoc_ℤ (pos d) (u +ℤ f) b) ∙ ap (λ (z : ℤ). z *ℤ b) e in
    let two : pos d *ℤ ((v +ℤ g) *ℤ a) ≡ (k *ℤ b) *ℤ a = sym (mul_assoc_ℤ (pos d) (v +ℤ g) a) ∙ ap (λ (z : ℤ). z *ℤ a) h in
    let three : (k *ℤ a) *ℤ b ≡ (k *ℤ b) *ℤ a = mul_assoc_ℤ k a b ∙ ap (λ (t : ℤ). k *ℤ t) (*ℤ_comm a b) ∙ sym (mul_assoc_ℤ k b a) in
    let all : (u +ℤ f) *ℤ b ≡ (v +ℤ g) *ℤ a = cancel_mul d ((u +ℤ f) *ℤ b) ((v +ℤ g) *ℤ a) above (one ∙ three ∙ sym two) in
    omega (arith, ints, all, add-mul_right u f b, add-mul_right v g a, same)

-- a gap that is not above 0 at one point is not above 0 at the other
no-opposite : (u v a b : ℤ) → pos 0 <ℤ a → pos 0 <ℤ b → u *ℤ b ≡ v *ℤ a → pos 0 ≤ℤ neg_ℤ u → pos 0 <ℤ v → ⊥
no-opposite u v (negsuc a) b up over e low high = absurd (omega (arith, ints, up))
no-opposite u v (pos a) (negsuc b) up over e low high = absurd (omega (arith, ints, over))
no-opposite u v (pos a) (pos b) up over e low high =
    let one : pos 0 <ℤ (pos a *ℤ v) = mul_positive a v (omega (arith, ints, up)) high in
    let two : pos 0 ≤ℤ (pos b *ℤ neg_ℤ u) = mul_not_negative b (neg_ℤ u) low in
    let three : pos b *ℤ neg_ℤ u ≡ neg_ℤ (pos b *ℤ u) = *ℤ_comm (pos b) (neg_ℤ u) ∙ neg-times u (pos b) ∙ ap neg_ℤ (*ℤ_comm u (pos b)) in
    absurd (omega (arith, ints, one, two, three, e, *ℤ_comm u (pos b), *ℤ_comm v (pos a)))

-- what is known of a row that has joined
record IsNewRow (p : Problem) (x y : Point) (r : Row) : Type 0 where
  small : IsSmall (Held r.id)
  under : Contains (map place (marks_of (lines p))) (place (under_mark r.id))
  over : Contains (map place (marks_of (lines p))) (place (over_mark r.id))
  gap : deviation x.num (line_of_row r) *ℤ y.num one_column ≡ deviation y.num (line_of_row r) *ℤ x.num one_column

low-gap : (u o : ℤ) → u ≡ pos 0 → pos 0 ≤ℤ o → pos 0 ≤ℤ neg_ℤ (u -ℤ o)
low-gap u o e h = omega (arith, ints, e, h)

high-gap : (u o : ℤ) → o ≡ pos 0 → pos 0 <ℤ u → pos 0 <ℤ (u -ℤ o)
high-gap u o e h = omega (arith, ints, e, h)

-- a row can't join over at one and under at the other
no-two : (p : Problem) (a b : List Mark) (x y : Point) (r : Row) → IsCorner p a → IsCorner p b → StandsAt p a x → StandsAt p b y → IsNewRow p x y r
    → IsIn (place (over_mark r.id)) a → pos 0 ≤ℤ x.num (place (over_mark r.id)) → IsIn (place (under_mark r.id)) b → pos 0 <ℤ y.num (place (under_mark r.id)) → ⊥
no-two p a b x y r ka kb sx sy new ia up ib high =
    no-opposite (deviation x.num (line_of_row r)) (deviation y.num (line_of_row r)) (x.num one_column) (y.num one_column) x.positive y.positive new.gap
    (low-gap (x.num (place (under_mark r.id))) (x.num (place (over_mark r.id))) (nothing_outside p a x (place (under_mark r.id)) sx new.under (λ i. one_mark p a (Held r.id) new.small ka i ia)) up)
    (high-gap (y.num (place (under_mark r.id))) (y.num (place (over_mark r.id))) (nothing_outside p b y (place (over_mark r.id)) sy new.over (λ i. one_mark p b (Held r.id) new.small kb ib i)) high)

new-rows : (old joined rest : List Row) (stays : List Stay) (kept a b : List Mark) → IsWhole (record { rows = old ++ (joined ++ rest); stays = stays }) → IsCorner (record { rows = old; stays = stays }) kept
    → (h : BeginsWith (record { rows = old ++ (joined ++ rest); stays = stays }) kept joined rest a) (k : BeginsWith (record { rows = old ++ (joined ++ rest); stays = stays }) kept joined rest b)
    → Each (IsNewRow (record { rows = old ++ (joined ++ rest); stays = stays }) h.point k.point) joined
new-rows old joined rest stays kept a b whole corner h k =
    let p : Problem = record { rows = old ++ (joined ++ rest); stays = stays } in
    let q : Problem = record { rows = old; stays = stays } in
    let same = agree-attr q kept h.point k.point corner (stands-before old joined rest stays kept a whole h) (stands-before old joined rest stays kept b whole k) in
    let known : Each (λ l. (IsSmall l.name × (Contains (map place (marks_of (lines p))) (place_of l.name Under) × Contains (map place (marks_of (lines p))) (place_of l.name Over))) × (((0 < l.scale) × (0 < l.den)) × ((value_at h.point.num (equation l) ≡ pos 0) × (value_at k.point.num (equation l) ≡ pos 0)))) (lines p) =
    each-both _ _ (lines p) (each-both (λ l. IsSmall l.name) _ (lines p) (rows_small p.rows (stay_lines 1001 stays) (recursion_from_All _ _ whole.rows) (stays_small 1001 stays (recursion_from_All _ _ whole.stays))) (here-in (lines p)))
    (each-both _ _ (lines p) (recursion_from_All _ (lines p) (whole-IsProblem p whole)) (each-both _ _ (lines p) (recursion_from_All _ (lines p) h.stands.0) (recursion_from_All _ (lines p) k.stands.0))) in
    let rows = each-both _ _ p.rows (each-map _ line_of_row p.rows (stay_lines 1001 stays) known) (recursion_from_All (IsCovered stays) p.rows whole.covered) in
    each-impl _ (IsNewRow p h.point k.point) joined
    (λ r f. record {
      small = f.0.0.0;
      under = f.0.0.1.0;
      over = f.0.0.1.1;
      gap = gap-same r.constant.den r.constant.num (deviation h.point.num (line_of_row r)) (deviation k.point.num (line_of_row r)) (form_value h.point.num (line_of_row r)) (form_value k.point.num (line_of_row r)) (h.point.num one_column) (k.point.num one_column)
          f.0.1.0.1 (line_gap h.point.num (line_of_row r) f.0.1.1.0) (line_gap k.point.num (line_of_row r) f.0.1.1.1)
          (agree-form (λ v. h.point.num (attr_column v)) (λ v. k.point.num (attr_column v)) (h.point.num one_column) (k.point.num one_column) r.terms
          (each-impl (λ t. HasStay stays t.attr) _ r.terms (λ t s. same t.attr s) (recursion_from_All _ r.terms f.1)));
    })
    (each-first _ joined rest (each-second _ old (joined ++ rest) rows))

-- ---- the new rows' marks

same-mark : (p : Problem) (a b : List Mark) (x y : Point) (r : Row) (m n : Mark) → IsCorner p a → IsCorner p b → StandsAt p a x → StandsAt p b y → IsNewRow p x y r → IsNewRow p y x r → IsIn (place m) a → IsIn (place n) b → IsJoined x r m → IsJoined y r n → m ≡ n
same-mark p a b x y r m n ka kb sx sy new back ia ib (inl (e, up)) (inl (f, on)) = e ∙ sym f
same-mark p a b x y r m n ka kb sx sy new back ia ib (inr (e, up)) (inr (f, on)) = e ∙ sym f
same-mark p a b x y r m n ka kb sx sy new back ia ib (inl (e, up)) (inr (f, on)) =
    absurd (no-two p a b x y r ka kb sx sy new (subst (λ (k : Mark). IsIn (place k) a) e ia) (subst (λ (k : Mark). pos 0 ≤ℤ x.num (place k)) e up) (subst (λ (k : Mark). IsIn (place k) b) f ib) (subst (λ (k : Mark). pos 0 <ℤ y.num (place k)) f on))
same-mark p a b x y r m n ka kb sx sy new back ia ib (inr (e, up)) (inl (f, on)) =
    absurd (no-two p b a y x r kb ka sy sx back (subst (λ (k : Mark). IsIn (place k) b) f ib) (subst (λ (k : Mark). pos 0 ≤ℤ y.num (place k)) f on) (subst (λ (k : Mark). IsIn (place k) a) e ia) (subst (λ (k : Mark). pos 0 <ℤ x.num (place k)) e up))

same-news : (p : Problem) (a b : List Mark) (x y : Point) (joined : List Row) (m n : List Mark) → IsCorner p a → IsCorner p b → StandsAt p a x → StandsAt p b y → Each (IsNewRow p x y) joined → Each (IsNewRow p y x) joined → Each (λ k. IsIn (place k) a) m → Each (λ k. IsIn (place k) b) n → AllZip (IsJoined x) joined m → AllZip (IsJoined y) joined n → m ≡ n
same-news p a b x y [] [] [] ka kb sx sy new back ia ib zm zn = refl
same-news p a b x y [] [] (n ∷ ns) ka kb sx sy new back ia ib zm zn = absurd zn
same-news p a b x y [] (m ∷ ms) ns ka kb sx sy new back ia ib zm zn = absurd zm
same-news p a b x y (r ∷ rs) [] ns ka kb sx sy new back ia ib zm zn = absurd zm
same-news p a b x y (r ∷ rs) (m ∷ ms) [] ka kb sx sy new back ia ib zm zn = absurd zn
same-news p a b x y (r ∷ rs) (m ∷ ms) (n ∷ ns) ka kb sx sy new back ia ib zm zn =
    ap₂ ◌∷◌ (same-mark p a b x y r m n ka kb sx sy new.0 back.0 ia.0 ib.0 zm.0 zn.0) (same-news p a b x y rs ms ns ka kb sx sy new.1 back.1 ia.1 ib.1 zm.1 zn.1)

-- ---- both beginnings

through : (a b c : List Mark) → SameMarks a c → SameMarks b c → SameMarks a b
through a b c h k = (
  All-from_recursion (λ m. IsIn (place m) b) a (each-impl (λ m. IsIn (place m) c) _ a (λ m i. contains_each (λ v. IsIn v b) c (place m) (recursion_from_All (λ n. IsIn (place n) b) c k.1) i) (recursion_from_All _ a h.0)),
  All-from_recursion (λ m. IsIn (place m) a) b (each-impl (λ m. IsIn (place m) c) _ b (λ m i. contains_each (λ v. IsIn v a) c (place m) (recursion_from_All (λ n. IsIn (place n) a) c h.1) i) (recursion_from_All _ b k.0)),
)

both-begin : (old joined rest : List Row) (stays : List Stay) (kept a b : List Mark) → IsWhole (record { rows = old ++ (joined ++ rest); stays = stays }) → IsCorner (record { rows = old; stays = stays }) kept → IsCorner (record { rows = old ++ (joined ++ rest); stays = stays }) a → IsCorner (record { rows = old ++ (joined ++ rest); stays = stays }) b
    → BeginsWith (record { rows = old ++ (joined ++ rest); stays = stays }) kept joined rest a → BeginsWith (record { rows = old ++ (joined ++ rest); stays = stays }) kept joined rest b → SameMarks a b
both-begin old joined rest stays kept a b whole corner ka kb h k =
    let p : Problem = record { rows = old ++ (joined ++ rest); stays = stays } in
    let ends : List Mark = map (λ r. over_mark r.id) rest in
    let same : h.news ≡ k.news =
    same-news p a b h.point k.point joined h.news k.news ka kb h.stands k.stands (new-rows old joined rest stays kept a b whole corner h k) (new-rows old joined rest stays kept b a whole corner k h)
    (each-first _ h.news ends (each-second _ kept (h.news ++ ends) (recursion_from_All (λ m. IsIn (place m) a) (kept ++ (h.news ++ ends)) h.marks.1)))
    (each-first _ k.news ends (each-second _ kept (k.news ++ ends) (recursion_from_All (λ m. IsIn (place m) b) (kept ++ (k.news ++ ends)) k.marks.1)))
    h.each k.each in
    through a b (kept ++ (h.news ++ ends)) h.marks (subst (λ (n : List Mark). SameMarks b (kept ++ (n ++ ends))) (sym same) k.marks)

-- a change begins at one corner
pub begins_unique : (p : Problem) (old joined rest : List Row) (kept a b : List Mark) → IsWhole p → p.rows ≡ old ++ (joined ++ rest) → IsCorner (record { rows = old; stays = p.stays }) kept → IsCorner p a → IsCorner p b → BeginsWith p kept joined rest a → BeginsWith p kept joined rest b → SameMarks a b
begins_unique p old joined rest kept a b whole e corner =
    subst (λ (rows : List Row). IsWhole (record { rows = rows; stays = p.stays }) → IsCorner (record { rows = rows; stays = p.stays }) a → IsCorner (record { rows = rows; stays = p.stays }) b → BeginsWith (record { rows = rows; stays = p.stays }) kept joined rest a → BeginsWith (record { rows = rows; stays = p.stays }) kept joined rest b → SameMarks a b)
    (sym e) (λ w ka kb h k. both-begin old joined rest p.stays kept a b w corner ka kb h k) whole
