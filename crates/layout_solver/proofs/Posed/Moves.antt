-- Stays that move to the values of their attributes.
use Rattle.std.proofs.Common.{◌≡◌, ◌≢◌, ℕ, suc, ◌+◌, ◌<◌, Bool, cond, List, [], ◌∷◌, ◌++◌, map, length, take, get_or, refl, sym, ap, ap₂, ◌∙◌, subst, arith, All, eq-eqb, ne_eqb}
use Rattle.std.specs.List.{AllByRecursion as Each}
use Rattle.std.proofs.lemmas.List.{map-append, map_more}
use Rattle.std.proofs.lemmas.List.Elements.{recursion_from_All, All-map}
use Rattle.frac_core.specs.Fraction.{Fraction}
use Rattle.frac_core.proofs.Lists.{each-from_map, pairs-rest}
use Rattle.problem_core.specs.declared.parts.Stay.{Stay}
use Rattle.problem_core.specs.Gaps.{value_of}
use Rattle.problem_core.specs.Window.{zero_fraction}
use Rattle.layout_solver.specs.Layouts.{AreApart, stays_at, zeros}

abbrev at : ℕ × Fraction → ℕ
at v = v.0

abbrev pub stay : ℕ → Fraction → Stay
stay attr target = record { attr = attr; target = target }

-- the stays, each at the value of its attribute
abbrev pub moved : List Stay → List (ℕ × Fraction) → List Stay
moved stays values = map (λ s. record { attr = s.attr; target = value_of values s.attr }) stays

-- a value of an attribute without a stay moves none
unmoved : (v : ℕ × Fraction) (values : List (ℕ × Fraction)) (stays : List Stay) → Each (λ s. v.0 ≢ s.attr) stays → moved stays (v ∷ values) ≡ moved stays values
unmoved v values [] apart = refl
unmoved v values (s ∷ stays) apart =
    ap₂ (λ (f : Fraction) (ss : List Stay). stay s.attr f ∷ ss)
    (ap (λ (b : Bool). cond b v.1 (value_of values s.attr)) (ne_eqb v.0 s.attr apart.0))
    (unmoved v values stays apart.1)

first-apart : (v : ℕ × Fraction) (values : List (ℕ × Fraction)) → AreApart (v ∷ values) → All (λ u. v.0 ≢ u.0) values
first-apart v values h k d within = h 0 (suc k) d (omega arith) (omega (arith, within))

-- the stays of a list of values, no attribute twice, move to these values
pub moved-is : (stays : List Stay) (values : List (ℕ × Fraction)) → map at values ≡ map (λ s. s.attr) stays → AreApart values → moved stays values ≡ stays_at values
moved-is [] [] same once = refl
moved-is [] (v ∷ values) same once = cc
moved-is (s ∷ stays) [] same once = cc
moved-is (s ∷ stays) (v ∷ values) same once =
    let head : v.0 ≡ s.attr = cc in
    let tail : map at values ≡ map (λ s. s.attr) stays = cc in
    let others : Each (λ a. v.0 ≢ a) (map at values) = recursion_from_All (λ a. v.0 ≢ a) (map at values) (All-map (λ a. v.0 ≢ a) at values (first-apart v values once)) in
    let apart : Each (λ t. v.0 ≢ t.attr) stays = each-from_map (λ a. v.0 ≢ a) (λ (t : Stay). t.attr) stays (subst (Each (λ a. v.0 ≢ a)) tail others) in
    ap₂ (λ (t : Stay) (ss : List Stay). t ∷ ss)
    (ap₂ stay (sym head) (ap (λ (b : Bool). cond b v.1 (value_of values s.attr)) (eq-eqb v.0 s.attr head)))
    (unmoved v values stays apart ∙ moved-is stays values tail (pairs-rest (λ (u w : ℕ × Fraction). u.0 ≢ w.0) v values once))

-- the stay at the next place moves
pub moved-next : (stays : List Stay) (values : List (ℕ × Fraction)) (i : ℕ) (s : Stay) → i < length stays → s ≡ get_or stays i s
    → moved (take (i + 1) stays) values ≡ moved (take i stays) values ++ stay s.attr (value_of values s.attr) ∷ []
moved-next stays values i s within is =
    map_more (λ (t : Stay). stay t.attr (value_of values t.attr)) stays i s within
    ∙ ap (λ (t : Stay). moved (take i stays) values ++ stay t.attr (value_of values t.attr) ∷ []) (sym is)

-- the next attribute is new
pub zeros-next : (attrs : List ℕ) (i d : ℕ) → i < length attrs
    → stays_at (zeros (take (i + 1) attrs)) ≡ stays_at (zeros (take i attrs)) ++ stay (get_or attrs i d) zero_fraction ∷ []
zeros-next attrs i d within =
    ap stays_at (map_more (λ (n : ℕ). (n, zero_fraction)) attrs i d within)
    ∙ map-append (λ (v : ℕ × Fraction). stay v.0 v.1) (zeros (take i attrs)) ((get_or attrs i d, zero_fraction) ∷ [])

-- some attributes are new
pub stays-added : (values : List (ℕ × Fraction)) (attrs : List ℕ) → stays_at values ++ stays_at (zeros attrs) ≡ stays_at (values ++ zeros attrs)
stays-added values attrs = sym (map-append (λ (v : ℕ × Fraction). stay v.0 v.1) values (zeros attrs))
