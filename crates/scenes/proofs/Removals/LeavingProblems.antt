-- The problem that is left where rows and attributes leave.
use Rattle.std.proofs.Common.{◌≡◌, ◌≢◌, ℕ, ◌<◌, Bool, List, [], ◌∷◌, map, get_or, refl, ap, subst, arith, All, AllPairs}
use Rattle.std.proofs.lemmas.List.Elements.{All-from_recursion}
use Rattle.std.specs.List.{Any, AllByRecursion as Each, Contains}
use Rattle.problem_core.specs.declared.parts.Stay.{Stay}
use Rattle.problem_core.specs.Layout.{Row, Problem}
use Rattle.layout_solver.specs.Removals.{CanLeave, other_stays}
use Rattle.compile_parts.specs.Meaning.{MetricList}
use Rattle.held_items.specs.Items.{Item, AreRows}
use Rattle.held_items.specs.Leaving.{numbers_of}
use Rattle.held_items.proofs.Removals.LeavingRows.{Up, all_numbers, each-going, held-ids, pairs-up, up-going, up-pairs}
use Rattle.frac_core.proofs.Lists.{pairs-map, any-later as any-further}

pub no-stays-leave : (stays : List Stay) → other_stays [] stays ≡ stays
no-stays-leave [] = refl
no-stays-leave (s ∷ stays) = ap (λ ss. s ∷ ss) (no-stays-leave stays)

-- ---- what may leave

each-raised : {X : Type 0} (P : ℕ → X → Type 0) (x : X) (xs : List X) (ns : List ℕ) → Each (λ n. Any (P n) xs) ns → Each (λ n. Any (P n) (x ∷ xs)) ns
each-raised P x xs [] h = tt
each-raised P x xs (n ∷ ns) h = (any-further (P n) x xs h.0, each-raised P x xs ns h.1)

-- each number made_problem a row is one made_problem a row
each-held : (rows : List Row) → Each (λ n. Any (λ r. r.id ≡ n) rows) (map (λ r. r.id) rows)
each-held [] = tt
each-held (r ∷ rows) = ((0, r, omega arith, refl, refl), each-raised (λ n (s : Row). s.id ≡ n) r rows (map (λ s. s.id) rows) (each-held rows))

pub apart-from-up : (ns : List ℕ) → Up ns → AllPairs (λ a b. a ≢ b) ns
apart-from-up ns h i j d less within e = omega (arith, e, up-pairs ns h i j d less within)

module _ (goes : Item → Bool) (ms : MetricList) (held : List Item) (p : Problem) (are : AreRows ms held p.rows) (rising : AllPairs (λ r s. r.id < s.id) p.rows) where
  pub ids-up : Up (all_numbers held)
  ids-up = subst Up (held-ids ms held p.rows are) (pairs-up (map (λ r. r.id) p.rows) (pairs-map (λ (r : Row). r.id) (λ a b. a < b) p.rows rising))

  pub numbers-up : Up (numbers_of goes held)
  numbers-up = up-going goes held ids-up

  pub numbers-held : All (λ id. Any (λ r. r.id ≡ id) p.rows) (numbers_of goes held)
  numbers-held =
      All-from_recursion (λ id. Any (λ r. r.id ≡ id) p.rows) (numbers_of goes held)
      (each-going goes (λ id. Any (λ r. r.id ≡ id) p.rows) held (subst (Each (λ id. Any (λ r. r.id ≡ id) p.rows)) (held-ids ms held p.rows are) (each-held p.rows)))

  -- rows alone may leave
  pub rows-can : CanLeave (record { rows = numbers_of goes held; attrs = [] }) p
  rows-can = record {
    held = numbers-held;
    stays = λ k d within. absurd (omega (arith, within));
    rows_apart = apart-from-up (numbers_of goes held) numbers-up;
    attrs_apart = λ i j d less within. absurd (omega (arith, within));
    covered = λ k d within any. absurd (none (get_or p.rows k d) any);
  }
    where
      none : (r : Row) → Any (λ t. Contains [] t.attr) r.terms → ⊥
      none r (k, t, within, is, (j, inside, same)) = omega (arith, inside)
