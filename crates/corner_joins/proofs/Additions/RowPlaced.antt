-- A row is put in the next slot.
use Rattle.std.proofs.Common.{◌≡◌, ◌≢◌, ◌∙◌, ℕ, ◌+◌, ◌<◌, ◌++◌, cond, nat_eq, Bool, true, false, List, [], ◌∷◌, length, refl, sym, ap, ap₂, subst, arith, ℤ, pos, negsuc, ◌+ℤ◌, ◌*ℤ◌}
use Rattle.std.proofs.lemmas.List.Elements.{All-cons, All-nil}
use Rattle.std.proofs.lemmas.List.Kept.{AllPairs-cons}
use Rattle.std.proofs.Math.Nat.{eq-one_of_dvd-one}
use borrow.Author.Differences.{ints}
use Rattle.frac_core.specs.Fraction.{IsFitting}
use Rattle.row_core.specs.Rows.{AllFit, IsLowestRow, IsRising, IsUnfit, Term, coefficient, combination}
use Rattle.problem_core.specs.Layout.{Row}
use Rattle.corner_joins.specs.declared.joining.Sum.{Sum}
use Rattle.corner_table.specs.declared.table.Slot.{Slot}
use Rattle.corner_table.specs.declared.table.Standing.{Standing}
use Rattle.corner_table.specs.declared.table.TheConstants.{MOST_SLOTS}
use Rattle.corner_table.specs.Tables.{Lists}
use Rattle.version_lists.specs.Numbers.{IsNumbered}
use Rattle.corner_table.specs.Joining.{slot_of_row, with_slot}
use Rattle.corner_joins.specs.Additions.RowJoins.{IsPlaced, IsStandingOf}

pub placed : (r : Row) (sum : Sum) (t u : Lists) (slot : Slot) (st : Standing) (id at : ℕ) (copy : Row) (a : List ℕ) (rows : List Row) → length t.slots < MOST_SLOTS
    → u ≡ with_slot slot (record { side = st.side; value = st.value }) sum.row t → slot ≡ slot_of_row r → IsStandingOf sum.value st → IsNumbered id at u.row_slots a → id ≡ r.id → at ≡ length t.slots → copy ≡ r → rows ≡ u.rows ++ (copy ∷ [])
    → IsPlaced r sum t (record { rows = rows; stays = u.stays; slots = u.slots; standings = u.standings; matrix = u.matrix; attr_slots = u.attr_slots; row_slots = a; priorities = u.priorities })
placed r sum t u slot st id at copy a rows few e s h n i k c more = (
  record {
    standing = record { side = st.side; value = st.value };
    own = sum.row;
    room = few;
    rows = more ∙ ap₂ (λ (x : List Row) (y : Row). x ++ (y ∷ [])) (ap (λ (l : Lists). l.rows) e) c;
    stays = ap (λ (l : Lists). l.stays) e;
    slots = ap (λ (l : Lists). l.slots) e ∙ ap (λ (x : Slot). t.slots ++ (x ∷ [])) s;
    standings = ap (λ (l : Lists). l.standings) e;
    matrix = ap (λ (l : Lists). l.matrix) e;
    attr_slots = ap (λ (l : Lists). l.attr_slots) e;
    row_slots = subst (λ (x : ℕ). IsNumbered x (length t.slots) t.row_slots a) i (subst (λ (x : ℕ). IsNumbered id x t.row_slots a) k (subst (λ (x : List ℕ). IsNumbered id at x a) (ap (λ (l : Lists). l.row_slots) e) n));
    priorities = ap (λ (l : Lists). l.priorities) e;
  },
  h,
  refl,
)

-- ---- the row of an attribute's slot fits

abbrev stay_row : ℕ → List Term
stay_row w = record { col = w; by = pos 1 } ∷ record { col = w + 1; by = negsuc 0 } ∷ []

stay_rising : (w : ℕ) → IsRising (stay_row w)
stay_rising w =
    AllPairs-cons (λ (s t : Term). s.col < t.col) (record { col = w; by = pos 1 }) (record { col = w + 1; by = negsuc 0 } ∷ [])
    (All-cons (λ (t : Term). w < t.col) (record { col = w + 1; by = negsuc 0 }) [] (omega arith) (All-nil (λ (t : Term). w < t.col)))
    (λ i j d less within. absurd (omega (arith, less, within)))

stay_lowest : (w : ℕ) → IsLowestRow (stay_row w)
stay_lowest w = record {
  rising = stay_rising w;
  nonzero = All-cons (λ (t : Term). t.by ≢ pos 0) (record { col = w; by = pos 1 }) (record { col = w + 1; by = negsuc 0 } ∷ []) (λ e. omega (arith, ints, e))
      (All-cons (λ (t : Term). t.by ≢ pos 0) (record { col = w + 1; by = negsuc 0 }) [] (λ e. omega (arith, ints, e)) (All-nil (λ (t : Term). t.by ≢ pos 0)));
  coprime = λ d some all. eq-one_of_dvd-one (all 0 (record { col = w; by = pos 1 }) (omega arith));
}

stay_fits : (w : ℕ) → AllFit (stay_row w)
stay_fits w =
    All-cons (λ (t : Term). IsFitting t.by) (record { col = w; by = pos 1 }) (record { col = w + 1; by = negsuc 0 } ∷ []) (omega arith)
    (All-cons (λ (t : Term). IsFitting t.by) (record { col = w + 1; by = negsuc 0 }) [] (omega arith) (All-nil (λ (t : Term). IsFitting t.by)))

one_times : (a b : Bool) → pos 1 *ℤ (cond a (pos 1) (pos 0) +ℤ (cond b (negsuc 0) (pos 0) +ℤ pos 0)) ≡ pos 1 *ℤ (cond a (pos 1) (pos 0) +ℤ pos 0) +ℤ negsuc 0 *ℤ (cond b (pos 1) (pos 0) +ℤ pos 0)
one_times true true = refl
one_times true false = refl
one_times false true = refl
one_times false false = refl

pub stay_there : (w x : ℕ) (own stay : List Term) (k n : ℤ) → own ≡ record { col = w; by = pos 1 } ∷ [] → stay ≡ record { col = x; by = pos 1 } ∷ [] → x ≡ w + 1 → k ≡ pos 1 → n ≡ negsuc 0 → IsUnfit (combination k own n stay) → ⊥
stay_there w x own stay k n e f g k_is n_is unfit =
    unfit (stay_row w) (stay_lowest w)
    (record {
      factor = 1;
      above = omega arith;
      same = λ c. one_times (nat_eq w c) (nat_eq (w + 1) c)
          ∙ sym (ap₂ (λ (y z : ℤ). y *ℤ coefficient c own +ℤ z *ℤ coefficient c stay) k_is n_is
          ∙ ap₂ (λ (y z : List Term). pos 1 *ℤ coefficient c y +ℤ negsuc 0 *ℤ coefficient c z) e (f ∙ ap (λ (m : ℕ). record { col = m; by = pos 1 } ∷ []) g));
    })
    (stay_fits w)
