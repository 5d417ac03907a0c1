-- From the values and the placed levels to the clauses of a certificate.
use Rattle.std.proofs.Common.{◌≡◌, ℕ, ◌+◌, ◌-◌, ◌<◌, ◌≤◌, List, [], ◌∷◌, length, get_or, ℤ, pos, ◌+ℤ◌, ◌*ℤ◌, ◌<ℤ◌, nat_abs, sym, ap, subst, ◌∙◌, inl, inr, arith, All, Ordering}
use Rattle.std.specs.List.{HoldsAt}
use Rattle.std.specs.Ordering.{int_cmp}
use Rattle.std.proofs.lemmas.List.{get_or-map, get_or_default}
use Rattle.std.proofs.lemmas.List.Elements.{recursion_from_All}
use borrow.Author.Differences.{ints}
use Rattle.frac_core.specs.Fraction.{Fraction, IsFitting}
use Rattle.problem_core.specs.declared.parts.Level.{Level}
use Rattle.problem_core.specs.declared.parts.Level.TheVariants.{Priority, Stay as StayLevel}
use Rattle.problem_core.specs.declared.parts.Stay.{Stay}
use Rattle.problem_core.specs.Layout.{Row, Line, Problem, Assignment, Gives, IsBest, lines, line_of_row, line_of_stay, stay_lines, gap, coefficient, sum_of}
use Rattle.problem_core.specs.Kept.{IsWhole}
use Rattle.problem_core.specs.Certificates.{Multipliers, IsCertificate, under, over}
use Rattle.problem_core.specs.Gaps.{HasValue, value_of}
use Rattle.problem_core.proofs.GapFacts.Lookups.{given-value}
use Rattle.problem_core.proofs.GapFacts.GapSigns.{same-order, gap-over}
use Rattle.problem_core.proofs.Best.Duality.{certificate-IsBest}
use Rattle.problem_core.proofs.Wholes.{whole-IsProblem}
use Rattle.cert_core.specs.declared.by.By.{By}
use Rattle.cert_core.specs.Claims.{BestLevel, IsLevel, IsRanked, AreLevels, level_at, multipliers_of, bys_of, scale_of, times_of}
use Rattle.cert_checker.specs.declared.leveled.PlacedLevel.{PlacedLevel}
use Rattle.cert_checker.specs.declared.verdict.Verdict.{Verdict}
use Rattle.cert_checker.specs.declared.verdict.Verdict.TheVariants.{Yes}
use Rattle.cert_checker.specs.LineSums.{line_count}
use Rattle.cert_checker.specs.Certifying.{AreOfStays, HasLevel, Balances, AreNotNegative, AreFree, IsNotNegative, IsFree, EachGiven, IsBestVerdict}
use Rattle.cert_checker.specs.PlacedLevels.{BalancesAt, IsPlaced, ArePlaced}
use Rattle.cert_checker.specs.Fronts.{AreKnown, AreOfLevel, IsReady, seen_by}
use Rattle.cert_checker.proofs.Indexes.{length-lines, no_stay}
use Rattle.cert_checker.proofs.LinePlaces.{row-at}
use Rattle.cert_checker.proofs.Certificates.Columns.{stay-line}
use Rattle.cert_checker.proofs.Written.Weighing.{weighed-fit}
use Rattle.cert_checker.proofs.Written.Swapping.{zeros}
use Rattle.cert_checker.proofs.Certificates.Levels.{priority-level, stay-level, found-level, written-level, zip-at, placed-of}
use Rattle.cert_checker.proofs.Certificates.Unseen.{unseen-zero}
use Rattle.frac_core.proofs.Numbers.{one-times-plus as one-times}
use Rattle.frac_core.proofs.Lists.{zip-length}

unfoldable pub no_level : BestLevel
no_level = record { level = Priority 0; scale = pos 0; by = [] }

-- ---- values

pub rows-valued : (p : Problem) → IsWhole p → (values : List (ℕ × Fraction)) → AreOfStays p values → All (λ r. All (λ t. HasValue values t.attr) r.terms) p.rows
rows-valued p whole values are k r l j t m =
    let (i, s, n, is, e) = whole.covered k r l j t m in
    let has : HasValue values (get_or p.stays i s).attr = are.valued i s n in
    subst (HasValue values) (ap (λ (s : Stay). s.attr) is ∙ e) has

-- ---- the sign of a stay's gap

pub stay-order : (values : List (ℕ × Fraction)) (x : Assignment) (s : Stay) (level : ℕ) (f : Fraction) → f ≡ value_of values s.attr → 0 < f.den → HasValue values s.attr → Gives values x → int_cmp (f.num *ℤ pos s.target.den) (s.target.num *ℤ pos f.den) ≡ int_cmp (gap x (line_of_stay level s)) (pos 0)
stay-order values x s level f is some has gives =
    let given = recursion_from_All (λ u. x.num u.0 *ℤ pos u.1.den ≡ u.1.num *ℤ pos x.den) values gives in
    let value : x.num s.attr *ℤ pos f.den ≡ f.num *ℤ pos x.den = subst (λ (f : Fraction). x.num s.attr *ℤ pos f.den ≡ f.num *ℤ pos x.den) (sym is) (given-value x values s.attr given has) in
    same-order f.den x.den (gap x (line_of_stay level s)) (f.num *ℤ pos s.target.den) (s.target.num *ℤ pos f.den) some x.positive
    (gap-over f.den s.target.den x.den (pos 1 *ℤ x.num s.attr +ℤ pos 0) f.num s.target.num (ap (λ (z : ℤ). z *ℤ pos f.den) (one-times (x.num s.attr)) ∙ value))

-- ---- the sign of a line's gap

row-line : {X : Type 0} (f : Line → X) (p : Problem) (at : ℕ) (d : Line) (r : Row) → at < length p.rows → f (get_or (lines p) at d) ≡ f (line_of_row (get_or p.rows at r))
row-line f p at d r l = sym (get_or-map f (lines p) at d (f d) (omega (arith, l, length-lines p))) ∙ row-at f p.rows (stay_lines 1001 p.stays) at r (f d) l

pub row-signed : (p : Problem) (x : Assignment) (at : ℕ) (r : Row) (o : Ordering) → at < length p.rows → r ≡ get_or p.rows at r → o ≡ int_cmp (gap x (line_of_row r)) (pos 0) → HoldsAt (λ l. o ≡ int_cmp (gap x l) (pos 0)) (lines p) at
row-signed p x at r o l is e d = e ∙ ap (λ (r : Row). int_cmp (gap x (line_of_row r)) (pos 0)) is ∙ sym (row-line (λ l. int_cmp (gap x l) (pos 0)) p at d r l)

pub stay-signed : (p : Problem) (x : Assignment) (at : ℕ) (s : Stay) (o : Ordering) → length p.rows ≤ at → at < line_count p → s ≡ get_or p.stays (at - length p.rows) s → ((level : ℕ) → o ≡ int_cmp (gap x (line_of_stay level s)) (pos 0)) → HoldsAt (λ l. o ≡ int_cmp (gap x l) (pos 0)) (lines p) at
stay-signed p x at s o l m is e d =
    let below : at - length p.rows < length p.stays = omega (arith, l, m) in
    e (1001 + (at - length p.rows))
    ∙ ap (λ (s : Stay). int_cmp (gap x (line_of_stay (1001 + (at - length p.rows)) s)) (pos 0)) (is ∙ get_or_default p.stays (at - length p.rows) s no_stay below)
    ∙ sym (stay-line (λ l. int_cmp (gap x l) (pos 0)) p at d l m)

-- ---- levels

level-held : (p : Problem) (level : Level) → IsRanked level → HasLevel p level → (k : ℕ) × (level_at p k ≡ level)
level-held p (Priority rank) place has = (1000 - rank, priority-level p rank place)
level-held p (StayLevel attr) place (k, s, l, is, e) =
    (1001 + k, stay-level p k ∙ ap StayLevel (get_or-map (λ (s : Stay). s.attr) p.stays k s 0 l ∙ ap (λ (s : Stay). s.attr) is ∙ e))

pub balances-each : (p : Problem) (levels : List BestLevel) → AreLevels levels → Balances p levels → All (BalancesAt p) levels
balances-each p levels ok b i d l = record {
  scale = b.scales i d l;
  level = b.levels_held i d l;
  rows = b.rows_held i d l;
  cancel = λ v.
      let kept : IsLevel (get_or levels i d) = ok.each i d l in
      let (k, e) = level-held p (get_or levels i d).level kept.ranked (b.levels_held i d l) in
      let bys : bys_of levels (level_at p k) ≡ (get_or levels i d).by = ap (bys_of levels) e ∙ (found-level levels i d l (λ j k d m n. ok.apart j k d m n)).1 in
      subst (λ (bys : List By). sum_of (λ n. times_of bys n.name *ℤ coefficient v n.form) (lines p) ≡ pos 0) bys (b.cancel k v);
}

pub each-balances : (p : Problem) (levels : List BestLevel) → AreLevels levels → All (BalancesAt p) levels → Balances p levels
each-balances p levels ok b = record {
  scales = λ i d l. let at : BalancesAt p (get_or levels i d) = b i d l in at.scale;
  levels_held = λ i d l. let at : BalancesAt p (get_or levels i d) = b i d l in at.level;
  rows_held = λ i d l. let at : BalancesAt p (get_or levels i d) = b i d l in at.rows;
  cancel = λ k v.
      elim (written-level levels (level_at p k)) [
        | inl (i, l, e) ↦
            let at : BalancesAt p (get_or levels i no_level) = b i no_level l in
            let bys : bys_of levels (level_at p k) ≡ (get_or levels i no_level).by = ap (bys_of levels) (sym (e no_level)) ∙ (found-level levels i no_level l (λ j k d m n. ok.apart j k d m n)).1 in
            subst (λ (bys : List By). sum_of (λ n. times_of bys n.name *ℤ coefficient v n.form) (lines p) ≡ pos 0) (sym bys) (at.cancel v)
        | inr none ↦ subst (λ (bys : List By). sum_of (λ n. times_of bys n.name *ℤ coefficient v n.form) (lines p) ≡ pos 0) (sym none.1) (zeros (λ n. coefficient v n.form) (lines p))
      ];
}

pub scales-some : (p : Problem) (levels : List BestLevel) → AreLevels levels → All (λ l. pos 0 <ℤ l.scale) levels → (k : ℕ) → 0 < (multipliers_of p levels).scale k
scales-some p levels ok some k =
    elim (written-level levels (level_at p k)) [
      | inl (i, l, e) ↦
          let above : pos 0 <ℤ (get_or levels i no_level).scale = some i no_level l in
          let is : scale_of levels (level_at p k) ≡ nat_abs (get_or levels i no_level).scale = ap (scale_of levels) (sym (e no_level)) ∙ (found-level levels i no_level l (λ j k d m n. ok.apart j k d m n)).0 in
          subst (λ (n : ℕ). 0 < n) (sym is) (omega (arith, ints, above))
      | inr none ↦ subst (λ (n : ℕ). 0 < n) (sym none.0) (omega arith)
    ]

pub placed-balance : (p : Problem) (levels : List BestLevel) (placed : List PlacedLevel) → AreLevels levels → ArePlaced p levels placed → Balances p levels
placed-balance p levels [] ok are = each-balances p levels ok (λ i d l. absurd (omega (arith, l, zip-length (IsPlaced p) levels [] are)))
placed-balance p levels (first ∷ placed) ok are =
    each-balances p levels ok (λ i d l. let at : IsPlaced p (get_or levels i d) (get_or (first ∷ placed) i first) = zip-at (IsPlaced p) levels (first ∷ placed) i d first are l in at.balances)

pub placed-ready : (p : Problem) (levels : List BestLevel) (placed : List PlacedLevel) → AreLevels levels → ArePlaced p levels placed → All (IsReady p) placed
placed-ready p levels placed ok are i q l =
    let below : i < length levels = omega (arith, l, zip-length (IsPlaced p) levels placed are) in
    let at : IsPlaced p (get_or levels i no_level) (get_or placed i q) = zip-at (IsPlaced p) levels placed i no_level q are below in
    let kept : IsLevel (get_or levels i no_level) = ok.each i no_level below in
    record {
      below = weighed-fit p (get_or levels i no_level).by (get_or placed i q).weighted.items at.weighted kept.by;
      fits = subst IsFitting (sym at.scale) kept.scale;
      above = subst (λ (z : ℤ). pos 0 <ℤ z) (sym at.scale) at.above;
    }

pub placed-levels : (p : Problem) (levels : List BestLevel) (placed : List PlacedLevel) → AreLevels levels → ArePlaced p levels placed → All (λ q. AreOfLevel p (multipliers_of p levels) q.level q.scale q.weighted.items) placed
placed-levels p levels placed ok are i q l = placed-of p levels placed ok are i no_level q (omega (arith, l, zip-length (IsPlaced p) levels placed are))

pub placed-known : (p : Problem) → IsWhole p → (levels : List BestLevel) (placed : List PlacedLevel) → AreLevels levels → ArePlaced p levels placed → AreKnown p (multipliers_of p levels) (seen_by placed)
placed-known p whole levels placed ok are = record {
  scales = scales-some p levels ok (placed-balance p levels placed ok are).scales;
  unseen = λ at k l u. unseen-zero p whole levels placed ok are at k l u;
}

-- ---- columns

pub not-Negatives : (p : Problem) (m : Multipliers) → All (IsNotNegative m) (lines p) → AreNotNegative p m
not-Negatives p m all = record { below = λ i d l. (all i d l).0; above = λ i d l. (all i d l).1 }

pub negatives-not : (p : Problem) (m : Multipliers) → AreNotNegative p m → All (IsNotNegative m) (lines p)
negatives-not p m are i d l = (are.below i d l, are.above i d l)

pub frees-are : (p : Problem) (m : Multipliers) (x : Assignment) → All (λ l. IsFree (under m l) (over m l) (gap x l)) (lines p) → AreFree p m x
frees-are p m x all = record { below = λ i d l. (all i d l).0; above = λ i d l. (all i d l).1 }

pub are-frees : (p : Problem) (m : Multipliers) (x : Assignment) → AreFree p m x → All (λ l. IsFree (under m l) (over m l) (gap x l)) (lines p)
are-frees p m x are i d l = (are.below i d l, are.above i d l)

-- ---- the verdict

verdict-certifies : (p : Problem) (values : List (ℕ × Fraction)) (levels : List BestLevel) → AreLevels levels → IsBestVerdict p values levels Yes → EachGiven values (λ x. IsCertificate p x (multipliers_of p levels))
verdict-certifies p values levels ok (of, room, met, balances, columns, free) x gives =
    let used : AreFree p (multipliers_of p levels) x = free x gives in
    record {
      required = met x gives;
      scales = scales-some p levels ok balances.scales;
      cancel = balances.cancel;
      under_columns = columns.below;
      over_columns = columns.above;
      under_used = used.below;
      over_used = used.above;
    }

pub yes-certifies : (p : Problem) (values : List (ℕ × Fraction)) (levels : List BestLevel) → AreLevels levels → (v : Verdict) → IsBestVerdict p values levels v → v ≡ Yes → EachGiven values (λ x. IsCertificate p x (multipliers_of p levels))
yes-certifies p values levels ok v h e = verdict-certifies p values levels ok (subst (IsBestVerdict p values levels) e h)

pub yes-best : (p : Problem) → IsWhole p → (values : List (ℕ × Fraction)) (levels : List BestLevel) → AreLevels levels → (v : Verdict) → IsBestVerdict p values levels v → v ≡ Yes → EachGiven values (IsBest p)
yes-best p whole values levels ok v h e x gives = certificate-IsBest p (whole-IsProblem p whole) x (multipliers_of p levels) (yes-certifies p values levels ok v h e x gives)
