-- What an engine is handed makes a problem.
use Rattle.std.proofs.Common.{◌≡◌, ◌≢◌, ℕ, zero, suc, ◌+◌, ◌<◌, ◌≤◌, List, [], ◌∷◌, ◌++◌, length, map, length-append, refl, sym, ap, subst, ◌∙◌, arith, All, AllPairs, IsPermutation}
use Rattle.std.specs.List.{Contains}
use Rattle.std.proofs.lemmas.List.{length-map, map-append}
use Rattle.std.proofs.lemmas.List.Elements.{All-append, All-head, All-tail, All-weaker, All-map, Contains-append_left}
use Rattle.std.proofs.lemmas.List.Sorted.{Contains-permutation}
use Rattle.frac_core.specs.Fraction.{Fraction, IsKept}
use Rattle.problem_core.specs.declared.parts.Stay.{Stay}
use Rattle.problem_core.specs.declared.parts.Term.{Term}
use Rattle.problem_core.specs.Layout.{Row, Problem, HasStay, IsCovered}
use Rattle.problem_core.specs.Kept.{IsNumber, IsRow, IsStay, IsWhole}
use Rattle.problem_core.specs.Window.{zero_fraction}
use Rattle.layout_solver.specs.Layouts.{AreApart, stays_at, zeros}
use Rattle.held_items.specs.Attributes.{HasOnly, MayBeAdded}
use Rattle.held_items.proofs.Lists.{all-unmapped, pairs-cons, rising-append}
use Rattle.problem_core.proofs.Sides.{zero-kept as zero-IsKept}
use Rattle.frac_core.proofs.Lists.{pairs-map, pairs-rest as pairs-tail}
use Rattle.held_items.proofs.Views.Attributes.{MayBeNew}

abbrev at : ℕ × Fraction → ℕ
at v = v.0

-- ---- stays

has-stay : (values : List (ℕ × Fraction)) (a : ℕ) → Contains (map at values) a → HasStay (stays_at values) a
has-stay [] a (k, within, is) = absurd (omega (arith, within))
has-stay (v ∷ values) a (zero, within, is) = (zero, record { attr = v.0; target = v.1 }, omega arith, refl, is)
has-stay (v ∷ values) a (suc k, within, is) =
    let rest = has-stay values a (k, omega (arith, within), is) in
    (suc rest.0, rest.1, omega (arith, rest.2), rest.3, rest.4)

pub among-stays : (stays : List Stay) (a : ℕ) → HasStay stays a → Contains (map (λ s. s.attr) stays) a
among-stays [] a (k, s, within, is, attr) = absurd (omega (arith, within))
among-stays (s ∷ stays) a (zero, t, within, is, attr) = (zero, omega arith, ap (λ (x : Stay). x.attr) is ∙ attr)
among-stays (s ∷ stays) a (suc k, t, within, is, attr) =
    let rest = among-stays stays a (k, t, omega (arith, within), is, attr) in
    (suc rest.0, omega (arith, rest.1), rest.2)

only-stays : (stays : List Stay) (rows : List Row) → All (IsCovered stays) rows → All (HasOnly (map (λ s. s.attr) stays)) rows
only-stays stays rows covered =
    All-weaker (IsCovered stays) (HasOnly (map (λ s. s.attr) stays))
    (λ r h. All-weaker (λ (t : Term). HasStay stays t.attr) (λ (t : Term). Contains (map (λ s. s.attr) stays) t.attr) (λ t. among-stays stays t.attr) r.terms h) rows covered

wider : (attrs more : List ℕ) (rows : List Row) → All (HasOnly attrs) rows → All (HasOnly (attrs ++ more)) rows
wider attrs more rows only =
    All-weaker (HasOnly attrs) (HasOnly (attrs ++ more))
    (λ r h. All-weaker (λ (t : Term). Contains attrs t.attr) (λ (t : Term). Contains (attrs ++ more) t.attr) (λ t. Contains-append_left attrs more t.attr) r.terms h) rows only

-- so it is with the attributes in another order
pub may_shuffled : (attrs others : List ℕ) (n : ℕ) (more : List Row) → IsPermutation attrs others → MayBeAdded attrs n more → MayBeAdded others n more
may_shuffled attrs others n more same may = record {
  rows = may.rows;
  rising = may.rising;
  above = may.above;
  only = All-weaker (HasOnly attrs) (HasOnly others)
      (λ r h. All-weaker (λ (t : Term). Contains attrs t.attr) (λ (t : Term). Contains others t.attr) (λ t. Contains-permutation attrs others t.attr same) r.terms h) more may.only;
}

-- ---- rows and values

-- what makes rows, and stays at these values, a problem
record AreParts (rows : List Row) (values : List (ℕ × Fraction)) : Type 0 where
  each : All IsRow rows
  rising : AllPairs (λ r s. r.id < s.id) rows
  only : All (HasOnly (map at values)) rows
  row_count : length rows ≤ 4096
  numbers : All IsNumber (map at values)
  apart : AreApart values
  kept : All (λ v. IsKept v.1) values
  stay_count : length values ≤ 4096

whole-of : (rows : List Row) (values : List (ℕ × Fraction)) → AreParts rows values → IsWhole (record { rows = rows; stays = stays_at values })
whole-of rows values are = record {
  rows = are.each;
  stays = All-map IsStay (λ (v : ℕ × Fraction). record { attr = v.0; target = v.1 }) values (λ k d within. record { attr = all-unmapped at IsNumber values are.numbers k d within; target = are.kept k d within });
  rising = are.rising;
  apart = pairs-map (λ (v : ℕ × Fraction). record { attr = v.0; target = v.1 }) (λ (s t : Stay). s.attr ≢ t.attr) values (λ i j d less within same. are.apart i j d less within same);
  covered = All-weaker (HasOnly (map at values)) (IsCovered (stays_at values))
      (λ r h. All-weaker (λ (t : Term). Contains (map at values) t.attr) (λ (t : Term). HasStay (stays_at values) t.attr) (λ t. has-stay values t.attr) r.terms h) rows are.only;
  row_count = are.row_count;
  stay_count = omega (arith, are.stay_count, length-map values (λ (v : ℕ × Fraction). (let s : Stay = record { attr = v.0; target = v.1 } in s)));
}

-- what an engine keeps
pub record IsSettled (p : Problem) (values : List (ℕ × Fraction)) : Type 0 where
  pub whole : IsWhole p
  pub attributes : map (λ v. v.0) values ≡ map (λ s. s.attr) p.stays
  pub kept : All (λ v. IsKept v.1) values
  pub apart : AreApart values

pub settled-numbers : (p : Problem) (values : List (ℕ × Fraction)) → IsSettled p values → All IsNumber (map at values)
settled-numbers p values is = subst (All IsNumber) (sym is.attributes) (All-map IsNumber (λ (s : Stay). s.attr) p.stays (All-weaker IsStay (λ s. IsNumber s.attr) (λ s h. h.attr) p.stays is.whole.stays))

settled-count : (p : Problem) (values : List (ℕ × Fraction)) → IsSettled p values → length values ≡ length p.stays
settled-count p values is = sym (length-map values at) ∙ ap length is.attributes ∙ length-map p.stays (λ (s : Stay). s.attr)

-- ---- more rows

attributes-zeros : (attrs : List ℕ) → map at (zeros attrs) ≡ attrs
attributes-zeros [] = refl
attributes-zeros (a ∷ attrs) = ap (λ (ns : List ℕ). a ∷ ns) (attributes-zeros attrs)

pub attributes-joined : (values : List (ℕ × Fraction)) (attrs : List ℕ) → map at (values ++ zeros attrs) ≡ map at values ++ attrs
attributes-joined values attrs = map-append at values (zeros attrs) ∙ ap (λ (ns : List ℕ). map at values ++ ns) (attributes-zeros attrs)

-- values whose attributes are below a number, and others from it on, are of different attributes
apart-append : (values more : List (ℕ × Fraction)) (m : ℕ) → AreApart values → AreApart more → All (λ v. v.0 < m) values → All (λ v. m ≤ v.0) more → AreApart (values ++ more)
apart-append [] more m old new below above = new
apart-append (v ∷ values) more m old new below above =
    pairs-cons (λ (u w : ℕ × Fraction). u.0 ≢ w.0) v (values ++ more)
    (All-append (λ (w : ℕ × Fraction). v.0 ≢ w.0) values more
    (λ k d within. old zero (suc k) d (omega arith) (omega (arith, within)))
    (All-weaker (λ (w : ℕ × Fraction). m ≤ w.0) (λ (w : ℕ × Fraction). v.0 ≢ w.0) (λ w h e. let first : v.0 < m = All-head (λ (u : ℕ × Fraction). u.0 < m) v values below in omega (arith, first, h, e)) more above))
    (apart-append values more m (pairs-tail (λ (u w : ℕ × Fraction). u.0 ≢ w.0) v values old) new (All-tail (λ (u : ℕ × Fraction). u.0 < m) v values below) above)

-- the new attributes differ from those before
added-apart : (values : List (ℕ × Fraction)) (attrs : List ℕ) (m : ℕ) → AreApart values → All (λ v. v.0 < m) values → MayBeNew m attrs → AreApart (values ++ zeros attrs)
added-apart values attrs m apart taken fresh =
    apart-append values (zeros attrs) m apart
    (pairs-map (λ (a : ℕ). (let v : ℕ × Fraction = (a, zero_fraction) in v)) (λ (u v : ℕ × Fraction). u.0 ≢ v.0) attrs (λ i j d less within e. let up = fresh.rising i j d less within in omega (arith, up, e)))
    taken (All-map (λ (v : ℕ × Fraction). m ≤ v.0) (λ (a : ℕ). (a, zero_fraction)) attrs fresh.above)

pub added-whole : (p : Problem) (values : List (ℕ × Fraction)) (attrs : List ℕ) (more : List Row) (n m : ℕ) → IsSettled p values → All (λ v. v.0 < m) values → MayBeNew m attrs → All (λ r. r.id < n) p.rows
    → MayBeAdded (map (λ s. s.attr) p.stays ++ attrs) n more → length p.rows + length more ≤ 4096 → length p.stays + length attrs ≤ 4096 → IsWhole (record { rows = p.rows ++ more; stays = stays_at (values ++ zeros attrs) })
added-whole p values attrs more n m is taken fresh below may rows_fit stays_fit =
    let all : map at (values ++ zeros attrs) ≡ map (λ s. s.attr) p.stays ++ attrs = attributes-joined values attrs ∙ ap (λ (ns : List ℕ). ns ++ attrs) is.attributes in
    whole-of (p.rows ++ more) (values ++ zeros attrs) (record {
      each = All-append IsRow p.rows more is.whole.rows may.rows;
      rising = rising-append (λ (r : Row). r.id) p.rows more n is.whole.rising may.rising below may.above;
      only = subst (λ (ns : List ℕ). All (HasOnly ns) (p.rows ++ more)) (sym all) (All-append (HasOnly (map (λ s. s.attr) p.stays ++ attrs)) p.rows more (wider (map (λ s. s.attr) p.stays) attrs p.rows (only-stays p.stays p.rows is.whole.covered)) may.only);
      row_count = omega (arith, rows_fit, length-append p.rows more);
      numbers = subst (All IsNumber) (sym (attributes-joined values attrs)) (All-append IsNumber (map at values) attrs (settled-numbers p values is) fresh.numbers);
      apart = added-apart values attrs m is.apart taken fresh;
      kept = All-append (λ (v : ℕ × Fraction). IsKept v.1) values (zeros attrs) is.kept (All-map (λ (v : ℕ × Fraction). IsKept v.1) (λ (a : ℕ). (a, zero_fraction)) attrs (λ k d within. zero-IsKept));
      stay_count = omega (arith, stays_fit, length-append values (zeros attrs), settled-count p values is, length-map attrs (λ (a : ℕ). (let v : ℕ × Fraction = (a, zero_fraction) in v)));
    })
