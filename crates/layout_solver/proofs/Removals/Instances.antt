-- Instances of what can leave, and of the stops of a removal: the row `x >= k` where x stands at k, and `x >= 0`.
use Rattle.std.proofs.Common.{◌≡◌, ◌≢◌, ◌∙◌, ℕ, zero, suc, ◌++◌, false, true, List, [], ◌∷◌, length, get_or, take, pos, refl, sym, ap, subst, arith, inl, inr, All, AllPairs, Any, Contains}
use Rattle.std.specs.Global.{Vec}
use Rattle.std.proofs.lemmas.List.Elements.{All-from_recursion, recursion_from_All}
use Rattle.std.proofs.lemmas.List.Kept.{AllPairs-cons}
use Rattle.problem_core.specs.declared.parts.Mark.{Mark}
use Rattle.problem_core.specs.declared.parts.Stay.{Stay}
use Rattle.problem_core.specs.declared.parts.Term.{Term}
use Rattle.problem_core.specs.declared.stops.What.TheVariants.{Attr}
use Rattle.problem_core.specs.Layout.{HasStay, Problem, Row}
use Rattle.problem_core.specs.Changes.Begins.{ComesFrom, IsFreeing}
use Rattle.problem_core.specs.Corners.{Swap}
use Rattle.problem_core.specs.Unfit.{IsUnfitWhat}
use Rattle.cert_core.specs.Stops.{IsStopOf}
use Rattle.cert_core.specs.declared.stops.UnfitPath.{UnfitPath}
use Rattle.cert_core.specs.declared.stops.RunStop.TheVariants.{Unfit as UnfitRun}
use Rattle.corner_laws.specs.Examples.{at_least, over_row, over_second, over_stay, single, under_row}
use Rattle.corner_laws.proofs.Instances.StopExamples.{spent_stops}
use Rattle.marker_remove.specs.Instances.{standing, x_over}
use Rattle.marker_remove.proofs.Instances.{no_mark, row_exchange, row_path, row_same, x_fits, x_unfit}
use Rattle.layout_solver.specs.declared.request.RequestStop.TheVariants.{Unfit, Spent}
use Rattle.layout_solver.specs.Removals.{CanLeave, FromRemoved, IsHeldPath, IsRemoveStop, without_rows}
use Rattle.layout_solver.specs.Instances.{SomeCannotLeave, SomeRemovalsStop, below_bound, both_over, leaving, second, with_second}
use Rattle.corner_laws.proofs.Instances.BeginExamples.{one-same}

-- ---- what can leave

one-apart : (a : ℕ) → AllPairs (λ (m n : ℕ). m ≢ n) (a ∷ [])
one-apart a i j d less within = absurd (omega (arith, less, within))

none-apart : AllPairs (λ (m n : ℕ). m ≢ n) []
none-apart i j d less within = absurd (omega (arith, within))

two-apart : AllPairs (λ (m n : ℕ). m ≢ n) (2 ∷ 1 ∷ [])
two-apart = AllPairs-cons (λ (m n : ℕ). m ≢ n) 2 (1 ∷ []) (All-from_recursion (λ (n : ℕ). 2 ≢ n) (1 ∷ []) ((λ e. absurd (omega (arith, e))), tt)) (one-apart 1)

all : CanLeave (leaving (2 ∷ 1 ∷ []) (1 ∷ [])) (with_second (standing 5))
all = record {
  held = All-from_recursion (λ id. Any (λ r. r.id ≡ id) (with_second (standing 5)).rows) (2 ∷ 1 ∷ []) ((1, second, omega arith, refl, refl), ((0, at_least 5, omega arith, refl, refl), tt));
  stays = All-from_recursion (HasStay (with_second (standing 5)).stays) (1 ∷ []) ((0, record { attr = 1; target = record { num = pos 5; den = 1 } }, omega arith, refl, refl), tt);
  rows_apart = two-apart;
  attrs_apart = one-apart 1;
  covered = All-from_recursion (λ r. Any (λ t. Contains (1 ∷ []) t.attr) r.terms → Contains (2 ∷ 1 ∷ []) r.id) (with_second (standing 5)).rows ((λ h. (1, omega arith, refl)), ((λ h. (0, omega arith, refl)), tt));
}

no-attr : (terms : List Term) (rows : List ℕ) (id : ℕ) → Any (λ t. Contains [] t.attr) terms → Contains rows id
no-attr terms rows id (i, t, within, is, (k, less, same)) = absurd (omega (arith, less))

row : CanLeave (leaving (2 ∷ []) []) (with_second (standing 5))
row = record {
  held = All-from_recursion (λ id. Any (λ r. r.id ≡ id) (with_second (standing 5)).rows) (2 ∷ []) ((1, second, omega arith, refl, refl), tt);
  stays = All-from_recursion (HasStay (with_second (standing 5)).stays) [] tt;
  rows_apart = one-apart 2;
  attrs_apart = none-apart;
  covered = All-from_recursion (λ r. Any (λ t. Contains [] t.attr) r.terms → Contains (2 ∷ []) r.id) (with_second (standing 5)).rows (no-attr (at_least 5).terms (2 ∷ []) 1, (no-attr second.terms (2 ∷ []) 2, tt));
}

-- ---- what cannot

not-two : Contains {X = ℕ} (2 ∷ []) 1 → ⊥
not-two (zero, within, is) = absurd (omega (arith, is))
not-two (suc k, within, is) = absurd (omega (arith, within))

named : CanLeave (leaving (2 ∷ []) (1 ∷ [])) (with_second (standing 5)) → ⊥
named h =
    let c = recursion_from_All (λ r. Any (λ t. Contains (1 ∷ []) t.attr) r.terms → Contains (2 ∷ []) r.id) (with_second (standing 5)).rows h.covered in
    not-two (c.0 (0, record { attr = 1; by = pos 1 }, omega arith, refl, (0, omega arith, refl)))

twice : CanLeave (leaving (2 ∷ 2 ∷ []) []) (with_second (standing 5)) → ⊥
twice h = h.rows_apart 0 1 0 (omega arith) (omega arith) refl

not-third : Any (λ (r : Row). r.id ≡ 3) (at_least 5 ∷ second ∷ []) → ⊥
not-third (zero, r, within, is, e) = absurd (omega (arith, e, ap (λ (s : Row). s.id) is))
not-third (suc zero, r, within, is, e) = absurd (omega (arith, e, ap (λ (s : Row). s.id) is))
not-third (suc (suc k), r, within, is, e) = absurd (omega (arith, within))

no_row : CanLeave (leaving (3 ∷ []) []) (with_second (standing 5)) → ⊥
no_row h = not-third ((recursion_from_All (λ id. Any (λ r. r.id ≡ id) (with_second (standing 5)).rows) (3 ∷ []) h.held).0)

not-second : HasStay (standing 5).stays 2 → ⊥
not-second (zero, s, within, is, e) = absurd (omega (arith, e, ap (λ (t : Stay). t.attr) is))
not-second (suc k, s, within, is, e) = absurd (omega (arith, within))

no_attr : CanLeave (leaving [] (2 ∷ [])) (with_second (standing 5)) → ⊥
no_attr h = not-second ((recursion_from_All (HasStay (with_second (standing 5)).stays) (2 ∷ []) h.stays).0)

pub some_cannot_leave : SomeCannotLeave
some_cannot_leave = record {
  all = all;
  row = row;
  named = named;
  twice = twice;
  no_row = no_row;
  no_attr = no_attr;
}

-- ---- stops

no-frees : (kept : List Mark) (leaving : List ℕ) → All (IsFreeing kept leaving) []
no-frees kept leaving = All-from_recursion (IsFreeing kept leaving) [] tt

no-swaps : AllPairs (λ (s t : Swap). s.enter.row ≢ t.enter.row) []
no-swaps i j d less within = absurd (omega (arith, within))

-- the second row's mark is inside, so nothing is exchanged, and it goes
comes : (p : Problem) (leaving : List ℕ) → ComesFrom p both_over leaving (2 ∷ []) (over_row ∷ [])
comes p leaving = record {
  frees = [];
  each = no-frees both_over leaving;
  apart = no-swaps;
  exchanges = tt;
  same = tt;
  marks = one-same over_row;
}

comes-below : (p : Problem) (leaving : List ℕ) → ComesFrom p (under_row ∷ over_second ∷ []) leaving (2 ∷ []) (under_row ∷ [])
comes-below p leaving = record {
  frees = [];
  each = no-frees (under_row ∷ over_second ∷ []) leaving;
  apart = no-swaps;
  exchanges = tt;
  same = tt;
  marks = one-same under_row;
}

held : IsHeldPath (with_second (standing 4398046511104)) both_over (2 ∷ 1 ∷ []) (1 ∷ []) x_over
held = record {
  gone = 2 ∷ [];
  in_order = refl;
  stop = (refl, omega arith, ((refl, comes (with_second (standing 4398046511104)) (2 ∷ 1 ∷ []), refl), row_path, x_unfit));
}

-- the stay's mark is exchanged for the row's, which is still held
comes-freed : ComesFrom (standing 4398046511104) (over_stay ∷ []) (1 ∷ []) [] (over_row ∷ [])
comes-freed = record {
  frees = record { enter = over_row; leave = over_stay } ∷ [];
  each = All-from_recursion (IsFreeing (over_stay ∷ []) (1 ∷ [])) (record { enter = over_row; leave = over_stay } ∷ [])
      (record { row = refl; over = refl; fresh = no_mark; stay = (1, refl) }, tt);
  apart = λ i j d less within. absurd (omega (arith, less, within));
  exchanges = (row_exchange, tt);
  same = (row_same, tt);
  marks = one-same over_row;
}

freed : IsHeldPath (standing 4398046511104) (over_stay ∷ []) (1 ∷ []) (1 ∷ []) x_over
freed = record {
  gone = [];
  in_order = refl;
  stop = (refl, omega arith, ((refl, comes-freed, refl), row_path, x_unfit));
}

none_held : (still : Vec ℕ) → still.items ≡ [] → IsRemoveStop (with_second (standing 4398046511104)) both_over (leaving (2 ∷ []) []) 0 (Unfit still x_over)
none_held still e = inr (e, (refl, omega arith, ((refl, comes (with_second (standing 4398046511104)) (2 ∷ []), refl), row_path, x_unfit)))

one_held : (still : Vec ℕ) → still.items ≡ 1 ∷ [] → IsRemoveStop (with_second (standing 4398046511104)) both_over (leaving (2 ∷ 1 ∷ []) (1 ∷ [])) 0 (Unfit still x_over)
one_held still e = inl ((λ none. absurd (let c : 0 ≡ 1 = ap length (sym none ∙ e) in omega (arith, c))), subst (λ (ids : List ℕ). IsHeldPath (with_second (standing 4398046511104)) both_over (2 ∷ 1 ∷ []) ids x_over) (sym e) held)

-- ---- none

no-rows : (ids : List ℕ) (stays : List Stay) → length (without_rows ids (record { rows = []; stays = stays })).rows ≡ 0
no-rows [] stays = refl
no-rows (id ∷ ids) stays = no-rows ids stays

stop-not : (gone still : List ℕ) → gone ++ still ≡ 2 ∷ 1 ∷ []
    → IsStopOf false (without_rows gone (with_second (standing 5))) (without_rows gone (with_second (standing 5))).rows (FromRemoved (with_second (standing 5)) both_over (gone ++ take 1 still) gone (without_rows gone (with_second (standing 5)))) 0 (UnfitRun x_over) → ⊥
stop-not [] still e (kind, few, (begins, path, bad)) =
    let count : 1 ≡ 2 = path.corner.count in absurd (omega (arith, count))
stop-not (a ∷ []) still e (kind, few, (begins, path, bad)) =
    let first : a ≡ 2 = ap (λ (ids : List ℕ). get_or ids 0 0) e in
    x_fits (subst (λ (id : ℕ). IsUnfitWhat (without_rows (id ∷ []) (with_second (standing 5))) (over_row ∷ []) (Attr 1)) first bad)
stop-not (a ∷ b ∷ more) still e (kind, few, (begins, path, bad)) =
    let first : a ≡ 2 = ap (λ (ids : List ℕ). get_or ids 0 0) e in
    let next : b ≡ 1 = ap (λ (ids : List ℕ). get_or ids 1 0) e in
    let count : 1 ≡ length (without_rows (2 ∷ 1 ∷ more) (with_second (standing 5))).rows =
    subst (λ (c : ℕ). 1 ≡ length (without_rows (2 ∷ c ∷ more) (with_second (standing 5))).rows) next
    (subst (λ (c : ℕ). 1 ≡ length (without_rows (c ∷ b ∷ more) (with_second (standing 5))).rows) first path.corner.count) in
    let none : length (without_rows (2 ∷ 1 ∷ more) (with_second (standing 5))).rows ≡ 0 = no-rows more (standing 5).stays in
    absurd (omega (arith, count ∙ none))

fits : (still : List ℕ) → IsHeldPath (with_second (standing 5)) both_over (2 ∷ 1 ∷ []) still x_over → ⊥
fits still h = stop-not h.gone still h.in_order h.stop

freed-not : (gone still : List ℕ) → gone ++ still ≡ 1 ∷ []
    → IsStopOf false (without_rows gone (standing 5)) (without_rows gone (standing 5)).rows (FromRemoved (standing 5) (over_stay ∷ []) (gone ++ take 1 still) gone (without_rows gone (standing 5))) 0 (UnfitRun x_over) → ⊥
freed-not [] still e (kind, few, (begins, path, bad)) = x_fits bad
freed-not (a ∷ more) still e (kind, few, (begins, path, bad)) =
    let first : a ≡ 1 = ap (λ (ids : List ℕ). get_or ids 0 0) e in
    let count : 1 ≡ length (without_rows (1 ∷ more) (standing 5)).rows =
    subst (λ (c : ℕ). 1 ≡ length (without_rows (c ∷ more) (standing 5)).rows) first path.corner.count in
    let none : length (without_rows (1 ∷ more) (standing 5)).rows ≡ 0 = no-rows more (standing 5).stays in
    absurd (omega (arith, count ∙ none))

freed_fits : (still : List ℕ) → IsHeldPath (standing 5) (over_stay ∷ []) (1 ∷ []) still x_over → ⊥
freed_fits still h = freed-not h.gone still h.in_order h.stop

-- what is still held at the end is the last that leaves
last-one : (n : ℕ) (gone : List ℕ) → gone ++ (n ∷ []) ≡ 2 ∷ 1 ∷ [] → n ≡ 1
last-one n [] e = absurd (omega (arith, ap (λ (ids : List ℕ). length ids) e))
last-one n (a ∷ []) e = ap (λ (ids : List ℕ). get_or ids 1 0) e
last-one n (a ∷ b ∷ []) e = absurd (omega (arith, ap (λ (ids : List ℕ). length ids) e))
last-one n (a ∷ b ∷ c ∷ more) e = absurd (omega (arith, ap (λ (ids : List ℕ). length ids) e))

not_leaving : (p : Problem) (kept : List Mark) (at : UnfitPath) → IsHeldPath p kept (2 ∷ 1 ∷ []) (3 ∷ []) at → ⊥
not_leaving p kept at h = let e : 3 ≡ 1 = last-one 3 h.gone h.in_order in absurd (omega (arith, e))

out_of_order : (p : Problem) (kept : List Mark) (at : UnfitPath) → IsHeldPath p kept (2 ∷ 1 ∷ []) (2 ∷ []) at → ⊥
out_of_order p kept at h = let e : 2 ≡ 1 = last-one 2 h.gone h.in_order in absurd (omega (arith, e))

none_unfit : (still : Vec ℕ) (budget : ℕ) → IsRemoveStop (with_second (standing 5)) both_over (leaving (2 ∷ 1 ∷ []) (1 ∷ [])) budget (Unfit still x_over) → ⊥
none_unfit still budget (inl (some, h)) = fits still.items h
none_unfit still budget (inr (e, (kind, few, (begins, path, bad)))) =
    let count : 1 ≡ 0 = path.corner.count in absurd (omega (arith, count))

-- ---- a budget that is used up

spent : IsRemoveStop (with_second (single 5)) (under_row ∷ over_second ∷ []) (leaving (2 ∷ []) []) 0 (Spent below_bound)
spent = (
  refl,
  record {
    begins = (refl, comes-below (with_second (single 5)) (2 ∷ []), refl);
    lawful = spent_stops.1.lawful;
    count = refl;
    no_end = spent_stops.1.no_end;
  },
)

not_spent : IsRemoveStop (with_second (single 5)) (under_row ∷ over_second ∷ []) (leaving (2 ∷ []) []) 1 (Spent below_bound) → ⊥
not_spent (kind, h) = let e : 0 ≡ 1 = h.count in absurd (omega (arith, e))

pub some_removals_stop : SomeRemovalsStop
some_removals_stop = record {
  freed = freed;
  freed_fits = freed_fits;
  held = held;
  fits = fits;
  not_leaving = not_leaving;
  out_of_order = out_of_order;
  one_held = one_held;
  none_held = none_held;
  none_unfit = none_unfit;
  spent = spent;
  not_spent = not_spent;
}
