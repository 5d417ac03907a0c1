-- A row's constant changes: what does not speak of constants is as before.
use Rattle.std.proofs.Common.{◌≡◌, ◌∙◌, ℕ, zero, suc, ◌*◌, ◌<◌, ◌++◌, Bool, true, false, cond, nat_eq, List, [], ◌∷◌, map, length, refl, sym, ap₂, subst, arith, ℤ, pos, ◌+ℤ◌, ◌-ℤ◌, ◌*ℤ◌, neg_ℤ, unsigned_abs, Contains, slice_index_or}
use Rattle.std.specs.List.{AllByRecursion as Each}
use Rattle.std.specs.Int.{◌∣◌}
use Rattle.std.proofs.lemmas.List.Elements.{All-from_recursion, recursion_from_All}
use Rattle.frac_core.specs.Fraction.{Fraction, IsFitting, IsKept}
use Rattle.problem_core.specs.declared.parts.Mark.{Mark}
use Rattle.problem_core.specs.declared.parts.RowName.{RowName}
use Rattle.problem_core.specs.declared.parts.Side.TheVariants.{Under, Over}
use Rattle.problem_core.specs.declared.parts.Stay.{Stay}
use Rattle.problem_core.specs.Layout.{IsCovered, Line, Problem, Row, coefficient, line_of_row, lines, stay_lines}
use Rattle.problem_core.specs.Kept.{IsRow, IsWhole}
use Rattle.problem_core.specs.Certificates.{weight_at}
use Rattle.problem_core.specs.Corners.{IsIn, marks_of, place, place_of}
use Rattle.problem_core.specs.Levels.{AreFitting}
use Rattle.corner_laws.specs.Units.{IsLevelRow, IsLevelUnit, IsReducedBy, over_share, under_share}
use Rattle.corner_lines.specs.Fronts.{constantless}
use Rattle.corner_lines.specs.Shifts.{AreSeenAlike, has_constant, with_constant}
use Rattle.corner_lines.proofs.ProblemChanges.Shifted.{changed}
use Rattle.corner_view.specs.Seen.{AreCandidates, IsNamed}
use Rattle.corner_view.proofs.Seen.SeenColumns.{negative_seen}
use Rattle.corner_view.proofs.Seen.SeenLines.{any_seen, each_seen, marks_seen, sum_seen}
use Rattle.corner_lines.proofs.ProblemChanges.ShiftedCorner.{length-same as shift_count}

row_seen : (b : Bool) (f : Fraction) (r : Row) → constantless (line_of_row (cond b (changed f r) r)) ≡ constantless (line_of_row r)
row_seen true f r = refl
row_seen false f r = refl

rows_seen : (id : ℕ) (f : Fraction) (rows : List Row) (rest : List Line) → map constantless (map line_of_row (map (has_constant id f) rows) ++ rest) ≡ map constantless (map line_of_row rows ++ rest)
rows_seen id f [] rest = refl
rows_seen id f (r ∷ rows) rest = ap₂ (λ (l : Line) (ls : List Line). l ∷ ls) (row_seen (nat_eq r.id id) f r) (rows_seen id f rows rest)

pub shift_seen : (p : Problem) (id : ℕ) (to : Fraction) → AreSeenAlike (with_constant id to p) p
shift_seen p id to = rows_seen id to p.rows (stay_lines 1001 p.stays)

pub shift_named : (p : Problem) (id : ℕ) (to : Fraction) (name : RowName) → IsNamed p name → IsNamed (with_constant id to p) name
shift_named p id to name named = any_seen (λ l. l.name ≡ name) p (with_constant id to p) (sym (shift_seen p id to)) named

pub shift_marks : (p : Problem) (id : ℕ) (to : Fraction) → marks_of (lines (with_constant id to p)) ≡ marks_of (lines p)
shift_marks p id to = marks_seen (with_constant id to p) p (shift_seen p id to)

pub shift_candidates : (p : Problem) (id : ℕ) (to : Fraction) (at : List Mark) (names : List RowName) → AreCandidates p at names → AreCandidates (with_constant id to p) at names
shift_candidates p id to at names c m out negative =
    c m (subst (λ (ms : List Mark). Contains (map place ms) (place m)) (shift_marks p id to) out.0, out.1)
    (negative_seen (with_constant id to p) p at m (shift_seen p id to) negative)

-- ---- the problem with the new constant is whole

row_kept : (b : Bool) (f : Fraction) (r : Row) → IsKept f → IsRow r → IsRow (cond b (changed f r) r)
row_kept true f r kept h = record {
  number = h.number;
  rank = h.rank;
  weight = h.weight;
  scale = h.scale;
  constant = kept;
  terms = h.terms;
  rising = h.rising;
  count = h.count;
}
row_kept false f r kept h = h

row_covered : (stays : List Stay) (b : Bool) (f : Fraction) (r : Row) → IsCovered stays r → IsCovered stays (cond b (changed f r) r)
row_covered stays true f r h = h
row_covered stays false f r h = h

each_row : (P : Row → Type 0) (id : ℕ) (f : Fraction) (rows : List Row) → ((b : Bool) (r : Row) → P r → P (cond b (changed f r) r)) → Each P rows → Each P (map (has_constant id f) rows)
each_row P id f [] step h = tt
each_row P id f (r ∷ rows) step h = (step (nat_eq r.id id) r h.0, each_row P id f rows step h.1)

pub row_id : (b : Bool) (f : Fraction) (r : Row) → (cond b (changed f r) r).id ≡ r.id
row_id true f r = refl
row_id false f r = refl

pub shift_id : (id : ℕ) (f : Fraction) (rows : List Row) (i : ℕ) (x : Row) → i < length rows → (slice_index_or (map (has_constant id f) rows) i x).id ≡ (slice_index_or rows i x).id
shift_id id f [] i x lt = absurd (omega (arith, lt))
shift_id id f (r ∷ rows) zero x lt = row_id (nat_eq r.id id) f r
shift_id id f (r ∷ rows) (suc i) x lt = shift_id id f rows i x (omega (arith, lt))

pub shift_whole : (p : Problem) (id : ℕ) (to : Fraction) → IsKept to → IsWhole p → IsWhole (with_constant id to p)
shift_whole p id to kept w = record {
  rows = All-from_recursion IsRow (map (has_constant id to) p.rows) (each_row IsRow id to p.rows (λ b r h. row_kept b to r kept h) (recursion_from_All IsRow p.rows w.rows));
  stays = w.stays;
  rising = λ i k x lt within.
      let few : k < length p.rows = subst (λ (n : ℕ). k < n) (shift_count id to p.rows) within in
      let one = shift_id id to p.rows i x (omega (arith, lt, few)) in
      let two = shift_id id to p.rows k x few in
      let less = w.rising i k x lt few in
      omega (arith, one, two, less);
  apart = w.apart;
  covered = All-from_recursion (IsCovered p.stays) (map (has_constant id to) p.rows) (each_row (IsCovered p.stays) id to p.rows (λ b r h. row_covered p.stays b to r h) (recursion_from_All (IsCovered p.stays) p.rows w.covered));
  row_count = let n = shift_count id to p.rows in let few = w.row_count in omega (arith, n, few);
  stay_count = w.stay_count;
}

-- ---- levels

pub unit_seen : (p q : Problem) (level unit : ℕ) → AreSeenAlike p q → IsLevelUnit p level unit → IsLevelUnit q level unit
unit_seen p q level unit same is = record {
  above = is.above;
  whole = each_seen (λ l. l.scale ∣ unit * weight_at l level) p q same is.whole;
  least = λ n all. is.least n (each_seen (λ l. l.scale ∣ n * weight_at l level) q p (sym same) all);
}

pub row_seen_alike : (p q : Problem) (at : List Mark) (level unit own : ℕ) (by : RowName → ℤ) → AreSeenAlike p q → IsLevelRow p at level unit own by → IsLevelRow q at level unit own by
row_seen_alike p q at level unit own by same row = record {
  own_positive = row.own_positive;
  cancel = λ v. sym (sum_seen (λ l. by l.name *ℤ coefficient v l.form) p q same) ∙ row.cancel v;
  under = each_seen (λ l. IsIn (place_of l.name Under) at → by l.name ≡ pos (own * under_share unit level l)) p q same row.under;
  over = each_seen (λ l. IsIn (place_of l.name Over) at → by l.name ≡ neg_ℤ (pos (own * over_share unit level l))) p q same row.over;
  lowest = λ d div each. row.lowest d div (each_seen (λ l. (IsIn (place_of l.name Under) at → ⊥) → (IsIn (place_of l.name Over) at → ⊥) → d ∣ unsigned_abs (by l.name)) q p (sym same) each);
}

pub reduced_seen : (p q : Problem) (level unit own : ℕ) (by : RowName → ℤ) (reduced : ℕ → ℤ) → AreSeenAlike p q → IsReducedBy p level unit own by reduced → IsReducedBy q level unit own by reduced
reduced_seen p q level unit own by reduced same r = record {
  under = each_seen (λ l. reduced (place_of l.name Under) ≡ pos (own * under_share unit level l) -ℤ by l.name) p q same r.under;
  over = each_seen (λ l. reduced (place_of l.name Over) ≡ pos (own * over_share unit level l) +ℤ by l.name) p q same r.over;
}

pub fitting_seen : (p q : Problem) (scale : ℕ) (times : RowName → ℤ) (reduced : ℕ → ℤ) → AreSeenAlike p q → AreFitting p scale times reduced → AreFitting q scale times reduced
fitting_seen p q scale times reduced same f = record {
  scale_fits = f.scale_fits;
  times_fit = each_seen (λ l. IsFitting (times l.name)) p q same f.times_fit;
  reduced_fit = λ side. each_seen (λ l. IsFitting (reduced (place_of l.name side))) p q same (f.reduced_fit side);
}
