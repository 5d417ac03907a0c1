-- The corner where the route begins: the over marks of the held rows.
use Rattle.std.proofs.Common.{◌≡◌, ◌≢◌, ◌∙◌, zero, suc, List, [], ◌∷◌, ◌++◌, map, pos, refl, sym, ap, subst, arith, AllPairs, length-append}
use Rattle.std.specs.List.{AllByRecursion as Each}
use Rattle.std.proofs.lemmas.List.Elements.{recursion_from_All}
use borrow.Author.Differences.{ints}
use Rattle.problem_core.specs.declared.parts.Mark.{Mark}
use Rattle.problem_core.specs.declared.parts.Stay.{Stay}
use Rattle.problem_core.specs.Layout.{HasStay, Row}
use Rattle.problem_core.specs.Kept.{IsStay, IsWhole}
use Rattle.problem_core.specs.Corners.{Point}
use Rattle.problem_core.specs.Unfit.{over_mark}
use Rattle.corner_laws.proofs.Counting.{head_pairs}
use Rattle.corner_lines.proofs.ProblemChanges.JoinedRows.{joined_corner, joined_rays}
use Rattle.corner_lines.proofs.ProblemChanges.NewStays.{attr_corner, attr_rays}
use Rattle.path_lines.specs.Tables.{IsThere}
use Rattle.path_lines.specs.Laws.{BeginsThere}
use Rattle.frac_core.proofs.Lists.{all-front as all_first, pairs-front as pairs_first, pairs-rest as tail_pairs}
use Rattle.problem_core.proofs.Lines.{whole-front as whole_rows}
use Rattle.std.proofs.lemmas.List.{append-nil as with_none}

joined : {X : Type 0} (xs : List X) (y : X) (ys : List X) → (xs ++ y ∷ []) ++ ys ≡ xs ++ y ∷ ys
joined [] y ys = refl
joined {X = X} (x ∷ xs) y ys = ap (λ (zs : List X). x ∷ zs) (joined xs y ys)

-- ---- first parts of lists

each_last : {X : Type 0} (P : X → Type 0) (xs : List X) (y : X) (ys : List X) → Each P (xs ++ y ∷ ys) → P y
each_last P [] y ys all = all.0
each_last P (x ∷ xs) y ys all = each_last P xs y ys all.1

-- a later one is other than all before it
pairs_last : (xs : List Stay) (y : Stay) (ys : List Stay) → AllPairs (λ (s t : Stay). s.attr ≢ t.attr) (xs ++ y ∷ ys) → HasStay xs y.attr → ⊥
pairs_last [] y ys pairs (k, x, within, is, same) = absurd (omega (arith, within))
pairs_last (x ∷ xs) y ys pairs (zero, z, within, is, same) =
    each_last (λ t. x.attr ≢ t.attr) xs y ys (recursion_from_All (λ t. x.attr ≢ t.attr) (xs ++ y ∷ ys) (head_pairs (λ (s t : Stay). s.attr ≢ t.attr) x (xs ++ y ∷ ys) pairs)) (ap (λ (t : Stay). t.attr) is ∙ same)
pairs_last (x ∷ xs) y ys pairs (suc k, z, within, is, same) = pairs_last xs y ys (tail_pairs (λ (s t : Stay). s.attr ≢ t.attr) x (xs ++ y ∷ ys) pairs) (k, z, omega (arith, within), is, same)

-- ---- the stays alone

whole_stays : (xs ys : List Stay) → IsWhole (record { rows = []; stays = xs ++ ys }) → IsWhole (record { rows = []; stays = xs })
whole_stays xs ys whole = record {
  rows = λ k d within. absurd (omega (arith, within));
  stays = all_first IsStay xs ys whole.stays;
  rising = λ i j d before within. absurd (omega (arith, within));
  apart = pairs_first (λ (s t : Stay). s.attr ≢ t.attr) xs ys whole.apart;
  covered = λ k d within. absurd (omega (arith, within));
  row_count = omega arith;
  stay_count = omega (arith, whole.stay_count, length-append xs ys);
}

one_point : Point
one_point = record { num = λ v. pos 1; positive = omega (arith, ints) }

nothing_there : IsWhole (record { rows = []; stays = [] }) → IsThere (record { rows = []; stays = [] }) []
nothing_there whole = record {
  whole = whole;
  corner = record {
    count = refl;
    marks = λ k d within. absurd (omega (arith, within));
    apart = λ i j d before within. absurd (omega (arith, within));
    point = one_point;
    stands = (λ k d within. absurd (omega (arith, within)), λ k d within. absurd (omega (arith, within)));
    marks_fixed = λ y stands k d within. absurd (omega (arith, within));
    attrs_fixed = λ y stands k d within. absurd (omega (arith, within));
  };
  rays = λ c there out. absurd (omega (arith, there.1));
}

stays_there : (xs ys : List Stay) → IsWhole (record { rows = []; stays = xs ++ ys }) → IsThere (record { rows = []; stays = xs }) [] → IsThere (record { rows = []; stays = xs ++ ys }) []
stays_there xs [] whole there = subst (λ (ss : List Stay). IsThere (record { rows = []; stays = ss }) []) (sym (with_none xs)) there
stays_there xs (y ∷ ys) whole there =
    let more : IsWhole (record { rows = []; stays = (xs ++ y ∷ []) ++ ys }) = subst (λ (ss : List Stay). IsWhole (record { rows = []; stays = ss })) (sym (joined xs y ys)) whole in
    let stay : IsStay y = each_last IsStay xs y ys (recursion_from_All IsStay (xs ++ y ∷ ys) whole.stays) in
    let fresh : HasStay xs y.attr → ⊥ = pairs_last xs y ys whole.apart in
    let old : IsWhole (record { rows = []; stays = xs }) = whole_stays xs (y ∷ ys) whole in
    subst (λ (ss : List Stay). IsThere (record { rows = []; stays = ss }) []) (joined xs y ys)
    (stays_there (xs ++ y ∷ []) ys more (record {
      whole = whole_stays (xs ++ y ∷ []) ys more;
      corner = attr_corner (record { rows = []; stays = xs }) [] y.attr y.target old stay.attr fresh stay.target.lowest.above there.corner;
      rays = attr_rays (record { rows = []; stays = xs }) [] y.attr y.target old stay.attr fresh stay.target.lowest.above there.rays;
    }))

-- ---- and the rows

overs_more : (xs : List Row) (y : Row) → map (λ (r : Row). over_mark r.id) xs ++ over_mark y.id ∷ [] ≡ map (λ (r : Row). over_mark r.id) (xs ++ y ∷ [])
overs_more [] y = refl
overs_more (x ∷ xs) y = ap (λ (ms : List Mark). over_mark x.id ∷ ms) (overs_more xs y)

rows_there : (xs ys : List Row) (stays : List Stay) → IsWhole (record { rows = xs ++ ys; stays = stays }) → IsThere (record { rows = xs; stays = stays }) (map (λ (r : Row). over_mark r.id) xs)
    → IsThere (record { rows = xs ++ ys; stays = stays }) (map (λ (r : Row). over_mark r.id) (xs ++ ys))
rows_there xs [] stays whole there = subst (λ (rs : List Row). IsThere (record { rows = rs; stays = stays }) (map (λ (r : Row). over_mark r.id) rs)) (sym (with_none xs)) there
rows_there xs (y ∷ ys) stays whole there =
    let more : IsWhole (record { rows = (xs ++ y ∷ []) ++ ys; stays = stays }) = subst (λ (rs : List Row). IsWhole (record { rows = rs; stays = stays })) (sym (joined xs y ys)) whole in
    let next : IsWhole (record { rows = xs ++ y ∷ []; stays = stays }) = whole_rows (xs ++ y ∷ []) ys stays more in
    subst (λ (rs : List Row). IsThere (record { rows = rs; stays = stays }) (map (λ (r : Row). over_mark r.id) rs)) (joined xs y ys)
    (rows_there (xs ++ y ∷ []) ys stays more
    (subst (λ (ms : List Mark). IsThere (record { rows = xs ++ y ∷ []; stays = stays }) ms) (overs_more xs y) (record {
      whole = next;
      corner = joined_corner (record { rows = xs; stays = stays }) (map (λ (r : Row). over_mark r.id) xs) y next there.corner;
      rays = joined_rays (record { rows = xs; stays = stays }) (map (λ (r : Row). over_mark r.id) xs) y next there.rays;
    })))

pub begins_there : BeginsThere
begins_there p whole =
    let alone : IsWhole (record { rows = []; stays = p.stays }) = whole_rows [] p.rows p.stays whole in
    rows_there [] p.rows p.stays whole (stays_there [] p.stays alone (nothing_there (whole_stays [] p.stays alone)))
