-- One more line of a level in the fronts of all lines.
use Rattle.std.proofs.Common.{◌≡◌, ◌≢◌, ℕ, ◌+◌, ◌*◌, ◌<◌, Bool, true, false, ◌||◌, ◌&&◌, cond, nat_eq, List, [], ◌∷◌, ◌++◌, length, take, set, get_or, ℤ, pos, ◌+ℤ◌, ◌-ℤ◌, ◌*ℤ◌, ◌<ℤ◌, ◌≤ℤ◌, nat_abs, Option, Some, None, refl, sym, ap, ap₂, subst, ◌∙◌, inl, inr, arith, eqb-true, eq-eqb, ne_eqb, All}
use Rattle.std.proofs.lemmas.Bool.{cases_eq, cases_Bool, cases_order}
use Rattle.std.proofs.lemmas.List.{take_more, length-set, get_or-set_same, get_or-set_other}
use Rattle.std.proofs.lemmas.List.Folds.{list_any-append}
use Rattle.problem_core.specs.declared.parts.RowName.TheVariants.{Held}
use borrow.Author.Differences.{ints}
use Rattle.frac_core.proofs.Integers.{mul-zero_ℤ}
use Rattle.problem_core.specs.declared.parts.Rel.{Rel}
use Rattle.problem_core.specs.declared.parts.Side.TheVariants.{Under, Over}
use Rattle.problem_core.specs.Layout.{Line, Problem, lines}
use Rattle.problem_core.specs.Certificates.{Multipliers, IsLexNonnegative, under, over, under_weight, over_weight}
use Rattle.cert_checker.specs.declared.leveled.PlacedLevel.{PlacedLevel}
use Rattle.cert_checker.specs.declared.sums.Weighted.{Weighted}
use Rattle.cert_checker.specs.declared.fronts.Front.{Front}
use Rattle.cert_checker.specs.declared.fronts.Facts.{Facts}
use Rattle.cert_checker.specs.declared.fronts.Sides.{Sides}
use Rattle.cert_checker.specs.LineSums.{line_count}
use Rattle.cert_checker.specs.Fronts.{IsFront, HasFronts, AreFronts, AreFacts, AreOfLevel, IsBlank, IsColumnFront, is_below, names_line, reduced, seen_by}
use Rattle.cert_checker.proofs.Indexes.{length-lines}
use Rattle.cert_checker.proofs.Apart.{name-at}
use Rattle.frac_core.proofs.Numbers.{zero-up as not-negative}
use Rattle.frac_core.proofs.Bools.{or-false as or-none}
use Rattle.problem_core.proofs.Lines.{under-none as no_weight-under, over-none as no_weight-over}

-- ---- what was seen

pub front-same : (f : ℕ → ℤ) (s t : ℕ → Bool) (o : Option Front) → ((k : ℕ) → s k ≡ t k) → IsFront f s o → IsFront f t o
front-same f s t None e h = λ k u. h k (e k ∙ u)
front-same f s t (Some q) e h = (h.0, h.1, λ k u. h.2 k (e k ∙ u))

pub fronts-same : (f g : ℕ → ℤ) (s t : ℕ → Bool) (own : ℕ) (sides : Sides) → ((k : ℕ) → s k ≡ t k) → HasFronts f g s own sides → HasFronts f g t own sides
fronts-same f g s t own sides e h = record {
  below = front-same f s t sides.under e h.below;
  above = front-same g s t sides.over e h.above;
  own_seen = h.own_seen ∙ e own;
}

absorb : (s n e : Bool) → ((s || (n && e)) || e) ≡ (s || ((n || true) && e))
absorb true true true = refl
absorb true true false = refl
absorb true false true = refl
absorb true false false = refl
absorb false true true = refl
absorb false true false = refl
absorb false false true = refl
absorb false false false = refl

unnamed : (s n e : Bool) → (s || (n && e)) ≡ (s || ((n || false) && e))
unnamed true true true = refl
unnamed true true false = refl
unnamed true false true = refl
unnamed true false false = refl
unnamed false true true = refl
unnamed false true false = refl
unnamed false false true = refl
unnamed false false false = refl

names-more : (ws : List Weighted) (i : ℕ) (d : Weighted) (at : ℕ) → i < length ws → names_line at (take (i + 1) ws) ≡ (names_line at (take i ws) || nat_eq (get_or ws i d).at at)
names-more ws i d at l =
    ap (names_line at) (take_more ws i d l) ∙ list_any-append (λ (w : Weighted). nat_eq w.at at) (take i ws) (get_or ws i d ∷ []) ∙ ap (λ (b : Bool). names_line at (take i ws) || b) (or-none (nat_eq (get_or ws i d).at at))

-- ---- the numbers of a line

pub under-is : (m : Multipliers) (l : Line) (level : ℕ) (facts : Facts) (scale : ℕ) (times : ℤ) → l.level ≡ facts.own → l.weight ≡ facts.weight → l.rel ≡ facts.rel → pos l.scale ≡ facts.scale → m.scale level ≡ scale → m.times level l.name ≡ times → under m l level ≡ reduced facts Under level scale times
under-is m l level facts scale times own weight rel shift is_scale is_times =
    ap₂ (λ (a b : ℤ). a -ℤ b)
    (ap pos (ap₂ (λ (a b : ℕ). a * b) is_scale (ap₂ (λ (r : Rel) (w : ℕ). under_weight r w) rel (ap₂ (λ (o w : ℕ). cond (nat_eq o level) w 0) own weight))))
    (ap₂ (λ (a b : ℤ). a *ℤ b) shift is_times)

pub over-is : (m : Multipliers) (l : Line) (level : ℕ) (facts : Facts) (scale : ℕ) (times : ℤ) → l.level ≡ facts.own → l.weight ≡ facts.weight → l.rel ≡ facts.rel → pos l.scale ≡ facts.scale → m.scale level ≡ scale → m.times level l.name ≡ times → over m l level ≡ reduced facts Over level scale times
over-is m l level facts scale times own weight rel shift is_scale is_times =
    ap₂ (λ (a b : ℤ). a +ℤ b)
    (ap pos (ap₂ (λ (a b : ℕ). a * b) is_scale (ap₂ (λ (r : Rel) (w : ℕ). over_weight r w) rel (ap₂ (λ (o w : ℕ). cond (nat_eq o level) w 0) own weight))))
    (ap₂ (λ (a b : ℤ). a *ℤ b) shift is_times)

-- ---- one more line

pub fronts-step : (p : Problem) (m : Multipliers) (seen : ℕ → ℕ → Bool) (sides : List Sides) (ws : List Weighted) (i : ℕ) (d : Weighted) (level : ℕ) (scale : ℤ) (facts : Facts) (old new : Sides)
    → i < length ws → AreOfLevel p m level scale ws → AreFacts p (get_or ws i d).at facts → (get_or ws i d).at < line_count p → old ≡ get_or sides (get_or ws i d).at old
    → ((f g : ℕ → ℤ) (s : ℕ → Bool) → f level ≡ reduced facts Under level (nat_abs scale) (get_or ws i d).times → g level ≡ reduced facts Over level (nat_abs scale) (get_or ws i d).times → HasFronts f g s facts.own old → HasFronts f g (λ k. s k || nat_eq k level) facts.own new)
    → AreFronts p m (λ at k. seen at k || (names_line at (take i ws) && nat_eq k level)) sides
    → AreFronts p m (λ at k. seen at k || (names_line at (take (i + 1) ws) && nat_eq k level)) (set sides (get_or ws i d).at new)
fronts-step p m seen sides ws i d level scale facts old new l are fact below is enter fronts = record {
  count = length-set sides (get_or ws i d).at new ∙ fronts.count;
  each = λ at n s k.
      elim (cases_eq at (get_or ws i d).at) [
        | inl e ↦
            let a : ℕ = (get_or ws i d).at in
            let x : Line = get_or (lines p) (get_or ws i d).at n in
            let times : m.times level (get_or (lines p) (get_or ws i d).at n).name ≡ (get_or ws i d).times =
            ap (m.times level) (sym (name-at p (get_or ws i d).at n (Held 0) (omega (arith, below, length-lines p)))) ∙ are.are_times i d l in
            let had : HasFronts (under m (get_or (lines p) (get_or ws i d).at n)) (over m (get_or (lines p) (get_or ws i d).at n)) (λ k. seen (get_or ws i d).at k || (names_line (get_or ws i d).at (take i ws) && nat_eq k level)) facts.own old =
            subst (λ (o : Sides). HasFronts (under m (get_or (lines p) (get_or ws i d).at n)) (over m (get_or (lines p) (get_or ws i d).at n)) (λ k. seen (get_or ws i d).at k || (names_line (get_or ws i d).at (take i ws) && nat_eq k level)) facts.own o) (sym is)
            (subst (λ (o : ℕ). HasFronts (under m (get_or (lines p) (get_or ws i d).at n)) (over m (get_or (lines p) (get_or ws i d).at n)) (λ k. seen (get_or ws i d).at k || (names_line (get_or ws i d).at (take i ws) && nat_eq k level)) o (get_or sides (get_or ws i d).at old)) (fact.own n)
            (fronts.each (get_or ws i d).at n old below)) in
            let now = enter (under m (get_or (lines p) (get_or ws i d).at n)) (over m (get_or (lines p) (get_or ws i d).at n)) (λ k. seen (get_or ws i d).at k || (names_line (get_or ws i d).at (take i ws) && nat_eq k level))
            (under-is m (get_or (lines p) (get_or ws i d).at n) level facts (nat_abs scale) (get_or ws i d).times (fact.own n) (fact.weight n) (fact.rel n) (fact.scale n) are.is_scale times)
            (over-is m (get_or (lines p) (get_or ws i d).at n) level facts (nat_abs scale) (get_or ws i d).times (fact.own n) (fact.weight n) (fact.rel n) (fact.scale n) are.is_scale times) had in
            let named : names_line (get_or ws i d).at (take (i + 1) ws) ≡ (names_line (get_or ws i d).at (take i ws) || true) =
            names-more ws i d (get_or ws i d).at l ∙ ap (λ (b : Bool). names_line (get_or ws i d).at (take i ws) || b) (eq-eqb (get_or ws i d).at (get_or ws i d).at refl) in
            let seen_now = fronts-same (under m (get_or (lines p) (get_or ws i d).at n)) (over m (get_or (lines p) (get_or ws i d).at n)) _ (λ k. seen (get_or ws i d).at k || (names_line (get_or ws i d).at (take (i + 1) ws) && nat_eq k level)) facts.own new
            (λ k. absorb (seen (get_or ws i d).at k) (names_line (get_or ws i d).at (take i ws)) (nat_eq k level) ∙ ap (λ (b : Bool). seen (get_or ws i d).at k || (b && nat_eq k level)) (sym named)) now in
            let own_now = subst (λ (o : ℕ). HasFronts (under m (get_or (lines p) (get_or ws i d).at n)) (over m (get_or (lines p) (get_or ws i d).at n)) (λ k. seen (get_or ws i d).at k || (names_line (get_or ws i d).at (take (i + 1) ws) && nat_eq k level)) o new) (sym (fact.own n)) seen_now in
            let item : get_or (set sides (get_or ws i d).at new) (get_or ws i d).at s ≡ new = get_or-set_same sides (get_or ws i d).at new s (omega (arith, below, fronts.count)) in
            subst (λ (v : ℕ). HasFronts (under m (get_or (lines p) v n)) (over m (get_or (lines p) v n)) (λ k. seen v k || (names_line v (take (i + 1) ws) && nat_eq k level)) (get_or (lines p) v n).level (get_or (set sides (get_or ws i d).at new) v s)) (sym e)
            (subst (λ (o : Sides). HasFronts (under m (get_or (lines p) (get_or ws i d).at n)) (over m (get_or (lines p) (get_or ws i d).at n)) (λ k. seen (get_or ws i d).at k || (names_line (get_or ws i d).at (take (i + 1) ws) && nat_eq k level)) (get_or (lines p) (get_or ws i d).at n).level o) (sym item) own_now)
        | inr e ↦
            let item : get_or (set sides (get_or ws i d).at new) at s ≡ get_or sides at s = get_or-set_other sides (get_or ws i d).at at new s e in
            let named : names_line at (take (i + 1) ws) ≡ (names_line at (take i ws) || false) =
            names-more ws i d at l ∙ ap (λ (b : Bool). names_line at (take i ws) || b) (ne_eqb (get_or ws i d).at at (λ q. e (sym q))) in
            subst (λ (o : Sides). HasFronts (under m (get_or (lines p) at n)) (over m (get_or (lines p) at n)) (λ k. seen at k || (names_line at (take (i + 1) ws) && nat_eq k level)) (get_or (lines p) at n).level o) (sym item)
            (fronts-same (under m (get_or (lines p) at n)) (over m (get_or (lines p) at n)) _ (λ k. seen at k || (names_line at (take (i + 1) ws) && nat_eq k level)) (get_or (lines p) at n).level (get_or sides at s)
            (λ k. unnamed (seen at k) (names_line at (take i ws)) (nat_eq k level) ∙ ap (λ (b : Bool). seen at k || (b && nat_eq k level)) (sym named))
            (fronts.each at n s k))
      ];
}

-- none is named before the first line
pub fronts-start : (p : Problem) (m : Multipliers) (seen : ℕ → ℕ → Bool) (sides : List Sides) (level : ℕ) → AreFronts p m seen sides → AreFronts p m (λ at k. seen at k || (names_line at [] && nat_eq k level)) sides
fronts-start p m seen sides level fronts = record {
  count = fronts.count;
  each = λ at n s k. fronts-same (under m (get_or (lines p) at n)) (over m (get_or (lines p) at n)) (seen at) (λ k. seen at k || (names_line at [] && nat_eq k level)) (get_or (lines p) at n).level (get_or sides at s) (λ k. sym (or-none (seen at k))) (fronts.each at n s k);
}

-- ---- all levels

blank-front : (f : ℕ → ℤ) (o : Option Front) → o ≡ None → IsFront f (λ k. false) o
blank-front f o e = subst (IsFront f (λ k. false)) (sym e) (λ k h. absurd (let g : false ≡ true = h in cc))

pub blank-fronts : (p : Problem) (m : Multipliers) (sides : List Sides) → length sides ≡ line_count p → All IsBlank sides → AreFronts p m (seen_by []) sides
blank-fronts p m sides count blank = record {
  count = count;
  each = λ at n s k.
      let b : IsBlank (get_or sides at s) = blank at s (omega (arith, k, count)) in
      record {
        below = blank-front (under m (get_or (lines p) at n)) (get_or sides at s).under b.below;
        above = blank-front (over m (get_or (lines p) at n)) (get_or sides at s).over b.above;
        own_seen = b.unseen;
      };
}

pub seen-more : (placed : List PlacedLevel) (i : ℕ) (q : PlacedLevel) (at k : ℕ) → i < length placed → q ≡ get_or placed i q → (seen_by (take i placed) at k || (names_line at q.weighted.items && nat_eq k q.level)) ≡ seen_by (take (i + 1) placed) at k
seen-more placed i q at k l is =
    let test : PlacedLevel → Bool = λ q. names_line at q.weighted.items && nat_eq k q.level in
    let more : seen_by (take (i + 1) placed) at k ≡ (seen_by (take i placed) at k || (names_line at (get_or placed i q).weighted.items && nat_eq k (get_or placed i q).level)) =
    ap (λ (qs : List PlacedLevel). seen_by qs at k) (take_more placed i q l) ∙ list_any-append (λ (q : PlacedLevel). names_line at q.weighted.items && nat_eq k q.level) (take i placed) (get_or placed i q ∷ [])
    ∙ ap (λ (b : Bool). seen_by (take i placed) at k || b) (or-none (names_line at (get_or placed i q).weighted.items && nat_eq k (get_or placed i q).level)) in
    ap (λ (q : PlacedLevel). seen_by (take i placed) at k || (names_line at q.weighted.items && nat_eq k q.level)) is ∙ sym more

pub fronts-more : (p : Problem) (m : Multipliers) (placed : List PlacedLevel) (i : ℕ) (q : PlacedLevel) (sides : List Sides) → i < length placed → q ≡ get_or placed i q → AreFronts p m (λ at k. seen_by (take i placed) at k || (names_line at q.weighted.items && nat_eq k q.level)) sides → AreFronts p m (seen_by (take (i + 1) placed)) sides
fronts-more p m placed i q sides l is fronts = record {
  count = fronts.count;
  each = λ at n s k. fronts-same (under m (get_or (lines p) at n)) (over m (get_or (lines p) at n)) (λ k. seen_by (take i placed) at k || (names_line at q.weighted.items && nat_eq k q.level)) (seen_by (take (i + 1) placed) at) (get_or (lines p) at n).level (get_or sides at s) (λ k. seen-more placed i q at k l is) (fronts.each at n s k);
}

take-front : {A : Type 0} (xs ys : List A) → take (length xs) (xs ++ ys) ≡ xs
take-front [] ys = refl
take-front (x ∷ xs) ys = ap (λ zs. x ∷ zs) (take-front xs ys)

pub written-back : {A : Type 0} (new ys : List A) (len : ℕ) → length new ≡ len → take len (new ++ ys) ≡ new
written-back new ys len e = ap (λ (n : ℕ). take n (new ++ ys)) (sym e) ∙ take-front new ys

-- ---- the line's own level

or-same : (s e : Bool) → (e ≡ true → s ≡ true) → s ≡ (s || e)
or-same true e h = refl
or-same false true h = absurd (let g : false ≡ true = h refl in cc)
or-same false false h = refl

-- the own level was seen
pub front-own : (f : ℕ → ℤ) (seen : ℕ → Bool) (own : ℕ) (o : Option Front) → seen own ≡ true → IsFront f seen o → IsFront f (λ k. seen k || nat_eq k own) o
front-own f seen own o e h =
    front-same f seen (λ k. seen k || nat_eq k own) o (λ k. or-same (seen k) (nat_eq k own) (λ q. ap seen (eqb-true k own q) ∙ e)) h

-- ---- whole columns

free-under : (s w : ℕ) (c t : ℤ) → w ≡ 0 → t ≡ pos 0 → pos (s * w) -ℤ c *ℤ t ≡ pos 0
free-under s w c t e f =
    ap₂ (λ (n : ℕ) (z : ℤ). pos (s * n) -ℤ c *ℤ z) e f ∙ ap₂ (λ (n : ℕ) (z : ℤ). pos n -ℤ z) (let q : s * 0 ≡ 0 = omega arith in q) (mul-zero_ℤ c)

free-over : (s w : ℕ) (c t : ℤ) → w ≡ 0 → t ≡ pos 0 → pos (s * w) +ℤ c *ℤ t ≡ pos 0
free-over s w c t e f =
    ap₂ (λ (n : ℕ) (z : ℤ). pos (s * n) +ℤ c *ℤ z) e f ∙ ap₂ (λ (n : ℕ) (z : ℤ). pos n +ℤ z) (let q : s * 0 ≡ 0 = omega arith in q) (mul-zero_ℤ c)

-- at another level than its own, without a multiplier, a line's numbers are 0
pub plain-under : (m : Multipliers) (l : Line) (k : ℕ) → m.times k l.name ≡ pos 0 → l.level ≢ k → under m l k ≡ pos 0
plain-under m l k none other =
    free-under (m.scale k) (under_weight l.rel (cond (nat_eq l.level k) l.weight 0)) (pos l.scale) (m.times k l.name)
    (ap (λ (b : Bool). under_weight l.rel (cond b l.weight 0)) (ne_eqb l.level k other) ∙ no_weight-under l.rel) none

pub plain-over : (m : Multipliers) (l : Line) (k : ℕ) → m.times k l.name ≡ pos 0 → l.level ≢ k → over m l k ≡ pos 0
plain-over m l k none other =
    free-over (m.scale k) (over_weight l.rel (cond (nat_eq l.level k) l.weight 0)) (pos l.scale) (m.times k l.name)
    (ap (λ (b : Bool). over_weight l.rel (cond b l.weight 0)) (ne_eqb l.level k other) ∙ no_weight-over l.rel) none

by_test : (f : ℕ → ℤ) (s : ℕ → Bool) (k : ℕ) → ((k : ℕ) → s k ≡ false → f k ≡ pos 0) → (s k ≡ true → f k ≡ pos 0) → f k ≡ pos 0
by_test f s k rest h = elim (cases_Bool (s k)) [ inl t ↦ h t | inr u ↦ rest k u ]

-- a front of all levels but those where the column is 0 is that of the column
pub column-of : (f : ℕ → ℤ) (s : ℕ → Bool) (o : Option Front) → ((k : ℕ) → s k ≡ false → f k ≡ pos 0) → IsFront f s o → IsColumnFront f o
column-of f s None rest h = λ k. by_test f s k rest (h k)
column-of f s (Some q) rest h = (h.0, h.1, λ k l. by_test f s k rest (λ u. h.2 k u l))

-- ---- what a column's front decides

pub front-lex : (f : ℕ → ℤ) (o : Option Front) → IsColumnFront f o → is_below o ≡ false → IsLexNonnegative f
front-lex f None h e = λ level before. not-negative (f level) (h level)
front-lex f (Some q) h e = λ level before.
    elim (cases_order level q.level) [
      | inl same ↦ let above : pos 0 <ℤ f q.level = h.1 e in rw same (omega (arith, ints, above))
      | inr apart ↦ elim apart [
        | inl l ↦ not-negative (f level) (h.2 level l)
        | inr l ↦ let above : pos 0 <ℤ f q.level = h.1 e in absurd (omega (arith, ints, above, before q.level l))
      ]
    ]

pub lex-front : (f : ℕ → ℤ) (o : Option Front) → IsColumnFront f o → is_below o ≡ true → IsLexNonnegative f → ⊥
lex-front f None h e lex = absurd (let g : false ≡ true = e in cc)
lex-front f (Some q) h e lex =
    let less : f q.level <ℤ pos 0 = h.0 e in
    let not_less : pos 0 ≤ℤ f q.level = lex q.level (λ k l. h.2 k l) in
    omega (arith, ints, less, not_less)
