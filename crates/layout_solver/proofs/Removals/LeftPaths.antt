-- The exchanges that free leaving rows, seen where all rows are still held.
use Rattle.std.proofs.Common.{◌≡◌, ◌≢◌, ◌∙◌, ℕ, ◌++◌, true, false, List, [], ◌∷◌, map, sym, ap, subst, arith, All, AllPairs, Contains, true≢false, inl, inr}
use Rattle.std.specs.List.{AllByRecursion as Each}
use Rattle.std.proofs.lemmas.List.Elements.{All-from_recursion, recursion_from_All}
use Rattle.std.proofs.lemmas.List.Kept.{AllPairs-cons}
use Rattle.problem_core.specs.declared.parts.Mark.{Mark}
use Rattle.problem_core.specs.declared.parts.RowName.{RowName}
use Rattle.problem_core.specs.declared.parts.RowName.TheVariants.{Held, Stay as StayOf}
use Rattle.problem_core.specs.declared.parts.Side.{Side}
use Rattle.problem_core.specs.declared.parts.Side.TheVariants.{Under, Over}
use Rattle.problem_core.specs.Changes.Begins.{AreExchanges, ChangesNoValue, ComesFrom, HasMarkOf, IsFreeing, is_one_of, without_marks}
use Rattle.problem_core.specs.Layout.{Problem, lines}
use Rattle.problem_core.specs.Corners.{IsCorner, IsExchange, IsIn, SameMarks, Swap, exchanged, marks_of, place, place_of}
use Rattle.problem_core.specs.Changes.Paths.{last_marks}
use Rattle.problem_core.specs.Rays.{HasRays}
use Rattle.problem_core.specs.Unfit.{over_mark}
use Rattle.corner_laws.proofs.Counting.{head_pairs}
use Rattle.corner_laws.proofs.Swaps.Pivots.{leave-gone, pivot_is_exchange}
use Rattle.corner_laws.proofs.Rays.{pivot_nonzero, rays_after}
use Rattle.corner_laws.proofs.RunSteps.RunPaths.{contains_in}
use Rattle.corner_laws.proofs.WrittenValues.{contains_each, nothing_outside}
use Rattle.marker_remove.specs.Freed.{HasMarkIn, IsFreed}
use Rattle.marker_remove.proofs.ZeroSwaps.{next_stands}
use Rattle.layout_solver.specs.Removals.{without_rows}
use Rattle.layout_solver.proofs.Removals.LeftMarks.{after_drop, after_free, far_in, mark_was, none_gone, one_last, one_more, ray_gone, stands_gone, was_in}
use Rattle.problem_core.proofs.Marks.{changes-more, exchanges-more as exchanges_more, same-back as same_back, last-more as last_more, rows-stay}
use Rattle.corner_lines.proofs.Costs.LevelTakes.{entering-mark as entered_mark}
use Rattle.frac_core.proofs.Lists.{pairs-rest as tail_pairs}
use Rattle.corner_view.proofs.Facts.{same_trans as same_through}

-- ---- a corner after exchanges

last_corner : (p : Problem) (at : List Mark) (swaps : List Swap) → IsCorner p at → HasRays p at → AreExchanges p at swaps → IsCorner p (last_marks at swaps) × HasRays p (last_marks at swaps)
last_corner p at [] corner rays h = (corner, rays)
last_corner p at (s ∷ swaps) corner rays h =
    last_corner p (exchanged s at) swaps h.0.corner (rays_after p at s (entered_mark p at s h.0) h.0 rays) h.1

-- ---- an exchange where some rows have gone is one where they are held

lifted : (p : Problem) (at full : List Mark) (gone : List ℕ) (s : Swap) → IsCorner p full → HasRays p full → SameMarks at (without_marks gone full) → is_one_of gone s.enter.row ≡ false → IsExchange (without_rows gone p) at s → IsExchange p full s
lifted p at full gone s corner rays same far ex =
    let left : Contains (map place (marks_of (lines (without_rows gone p)))) (place s.enter) = entered_mark (without_rows gone p) at s ex in
    let mark : Contains (map place (marks_of (lines p))) (place s.enter) = mark_was gone p (place s.enter) left in
    let out : IsIn (place s.enter) full → ⊥ = λ i. ex.enters (contains_in (without_marks gone full) at (place s.enter) same.1 (far_in gone full s.enter far i)) in
    let leaves : IsIn (place s.leave) full = was_in gone full (place s.leave) (contains_in at (without_marks gone full) (place s.leave) same.0 ex.leaves) in
    let ray = rays (place s.enter) mark out in
    pivot_is_exchange p full s ray.0 corner mark out leaves ray.1
    (pivot_nonzero (without_rows gone p) at s ray.0 left ex (ray_gone gone p at full (place s.enter) ray.0 same ray.1))

-- and it changes no value there, if it changes none where they have gone
lifted-same : (p : Problem) (at full : List Mark) (gone : List ℕ) (s : Swap) → IsCorner (without_rows gone p) at → SameMarks at (without_marks gone full) → IsExchange (without_rows gone p) at s → ChangesNoValue (without_rows gone p) at s → ChangesNoValue p full s
lifted-same p at full gone s corner same ex still x stands =
    let mark : Contains (map place (marks_of (lines (without_rows gone p)))) (place s.leave) =
    contains_each (λ v. Contains (map place (marks_of (lines (without_rows gone p)))) v) at (place s.leave) (recursion_from_All (λ m. Contains (map place (marks_of (lines (without_rows gone p)))) (place m)) at corner.marks) ex.leaves in
    next_stands p full s x stands
    (nothing_outside (without_rows gone p) (exchanged s at) x (place s.leave) (still x (stands_gone gone p at full x same stands)) mark (leave-gone s at ex.enters ex.leaves))

-- ---- lists

each-push : {X : Type 0} (P : X → Type 0) (xs : List X) (x : X) → Each P xs → P x → Each P (xs ++ x ∷ [])
each-push P [] x k p = (p, tt)
each-push P (y ∷ xs) x k p = (k.0, each-push P xs x k.1 p)

all-push : {X : Type 0} (P : X → Type 0) (xs : List X) (x : X) → All P xs → P x → All P (xs ++ x ∷ [])
all-push P xs x h p = All-from_recursion P (xs ++ x ∷ []) (each-push P xs x (recursion_from_All P xs h) p)

pairs-push : {X : Type 0} (R : X → X → Type 0) (xs : List X) (x : X) → AllPairs R xs → All (λ y. R y x) xs → AllPairs R (xs ++ x ∷ [])
pairs-push R [] x h p = AllPairs-cons R x [] (All-from_recursion (R x) [] tt) h
pairs-push R (y ∷ xs) x h p =
    let each = recursion_from_All (λ z. R z x) (y ∷ xs) p in
    AllPairs-cons R y (xs ++ x ∷ []) (all-push (R y) xs x (head_pairs R y xs h) each.0)
    (pairs-push R xs x (tail_pairs R y xs h) (All-from_recursion (λ z. R z x) xs each.1))

all-weaker : {X : Type 0} (P Q : X → Type 0) (xs : List X) → ((x : X) → P x → Q x) → All P xs → All Q xs
all-weaker P Q xs f h = λ i d within. f _ (h i d within)

-- ---- where the marks come from

pub comes_here : (p : Problem) (kept : List Mark) → ComesFrom p kept [] [] kept
comes_here p kept = record {
  frees = [];
  each = λ i d within. absurd (omega (arith, within));
  apart = λ i j d less within. absurd (omega (arith, within));
  exchanges = tt;
  same = tt;
  marks = none_gone kept;
}

-- a row's mark that was kept stays, if the row hasn't gone
pub kept_there : (p : Problem) (kept at : List Mark) (leaving gone : List ℕ) (id : ℕ) (side : Side) → ComesFrom p kept leaving gone at → is_one_of gone (Held id) ≡ false → IsIn (place_of (Held id) side) kept → IsIn (place_of (Held id) side) at
kept_there p kept at leaving gone id side h far i =
    contains_in (without_marks gone (last_marks kept h.frees)) at (place_of (Held id) side) h.marks.1
    (far_in gone (last_marks kept h.frees) (record { row = Held id; side = side }) far
    (rows-stay kept kept leaving h.frees id side (recursion_from_All (IsFreeing kept leaving) h.frees h.each) i))

-- so a row without a mark inside had none
still-fresh : (p : Problem) (kept at : List Mark) (leaving gone : List ℕ) (id : ℕ) → ComesFrom p kept leaving gone at → is_one_of gone (Held id) ≡ false → (HasMarkIn at id → ⊥) → HasMarkIn kept id → ⊥
still-fresh p kept at leaving gone id h far none (inl u) = none (inl (kept_there p kept at leaving gone id Under h far u))
still-fresh p kept at leaving gone id h far none (inr o) = none (inr (kept_there p kept at leaving gone id Over h far o))

freeing-more : (kept : List Mark) (leaving more : List ℕ) (frees : List Swap) → All (IsFreeing kept leaving) frees → All (IsFreeing kept (leaving ++ more)) frees
freeing-more kept leaving more frees =
    all-weaker (IsFreeing kept leaving) (IsFreeing kept (leaving ++ more)) frees
    (λ t f. record { row = one_more leaving more t.enter.row f.row; over = f.over; fresh = f.fresh; stay = f.stay })

-- one exchange more frees a row that is none of those before
pub comes_freed : (p : Problem) (kept at new : List Mark) (leaving gone : List ℕ) (id : ℕ) (s : Swap) → IsCorner p kept → HasRays p kept → is_one_of leaving (Held id) ≡ false → is_one_of gone (Held id) ≡ false → IsCorner (without_rows gone p) at → (HasMarkIn at id → ⊥) → IsFreed (without_rows gone p) at id new s → ComesFrom p kept leaving gone at → ComesFrom p kept (leaving ++ id ∷ []) gone new
comes_freed p kept at new leaving gone id s corner rays fresh far here none freed h =
    let row : s.enter.row ≡ Held id = ap (λ (m : Mark). m.row) freed.enter in
    let full : List Mark = last_marks kept h.frees in
    let there = last_corner p kept h.frees corner rays h.exchanges in
    let out : is_one_of gone s.enter.row ≡ false = ap (is_one_of gone) row ∙ far in
    let up : IsExchange p (last_marks kept h.frees) s = lifted p at (last_marks kept h.frees) gone s there.0 there.1 h.marks out freed.exchange in record {
      frees = h.frees ++ s ∷ [];
      each = all-push (IsFreeing kept (leaving ++ id ∷ [])) h.frees s (freeing-more kept leaving (id ∷ []) h.frees h.each)
          (record {
            row = ap (is_one_of (leaving ++ id ∷ [])) row ∙ one_last leaving id;
            over = ap (λ (m : Mark). m.side) freed.enter;
            fresh = λ i. still-fresh p kept at leaving gone id h far none (subst (HasMarkOf kept) row i);
            stay = freed.stay;
          });
      apart = pairs-push (λ a b. a.enter.row ≢ b.enter.row) h.frees s h.apart
          (all-weaker (IsFreeing kept leaving) (λ t. t.enter.row ≢ s.enter.row) h.frees
          (λ t f q. absurd (true≢false (sym f.row ∙ ap (is_one_of leaving) (q ∙ row) ∙ fresh))) h.each);
      exchanges = exchanges_more p kept h.frees s h.exchanges up;
      same = changes-more p kept h.frees s h.same (lifted-same p at (last_marks kept h.frees) gone s here h.marks freed.exchange freed.same);
      marks = subst (λ (ms : List Mark). SameMarks new (without_marks gone ms)) (sym (last_more kept h.frees s))
          (same_through new (exchanged s at) (without_marks gone (exchanged s (last_marks kept h.frees))) (same_back (exchanged s at) new freed.marks)
          (after_free at (last_marks kept h.frees) gone s h.marks out freed.exchange.leaves));
    }

-- where a mark of it was inside already
pub comes_more : (p : Problem) (kept at : List Mark) (leaving more gone : List ℕ) → ComesFrom p kept leaving gone at → ComesFrom p kept (leaving ++ more) gone at
comes_more p kept at leaving more gone h = record {
  frees = h.frees;
  each = freeing-more kept leaving more h.frees h.each;
  apart = h.apart;
  exchanges = h.exchanges;
  same = h.same;
  marks = h.marks;
}

-- one row more has gone
pub comes_dropped : (p : Problem) (kept at : List Mark) (leaving gone : List ℕ) (id : ℕ) → ComesFrom p kept leaving gone at → ComesFrom p kept leaving (gone ++ id ∷ []) (without_marks (id ∷ []) at)
comes_dropped p kept at leaving gone id h = record {
  frees = h.frees;
  each = h.each;
  apart = h.apart;
  exchanges = h.exchanges;
  same = h.same;
  marks = after_drop at (last_marks kept h.frees) gone id h.marks;
}
