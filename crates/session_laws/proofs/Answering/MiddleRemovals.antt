-- A removal from the scene of some lines has room, where the row that leaves comes before others.
use Rattle.std.proofs.Common.{◌≡◌, ◌≢◌, ◌∙◌, ℕ, ◌<◌, ◌≤◌, ◌++◌, List, [], ◌∷◌, pos, refl, ap₂, subst, sym, arith, inr, AllPairs, true≢false}
use Rattle.std.proofs.lemmas.List.Elements.{All-from_recursion}
use borrow.Author.Differences.{ints}
use Rattle.frac_core.proofs.Lists.{pairs-nil}
use Rattle.problem_core.specs.declared.parts.Rel.{Rel}
use Rattle.problem_core.specs.declared.parts.Rel.TheVariants.{Eq, Ge}
use Rattle.problem_core.specs.declared.parts.Stay.{Stay}
use Rattle.problem_core.specs.declared.parts.Term.{Term}
use Rattle.problem_core.specs.Kept.{IsRow, IsStay, IsTerm, IsWhole}
use Rattle.problem_core.specs.Layout.{HasStay, IsCovered, Problem, Row}
use Rattle.problem_core.specs.Window.{structural_rows}
use Rattle.script_text.specs.Meaning as mean
use Rattle.script_text.specs.declared.words.AttrWord.TheVariants.{Height, Left}
use Rattle.constraint_compile.specs.Suggestions.{suggested_row}
use Rattle.scenes.specs.Leaving.{stood_of, without_group}
use Rattle.scenes.specs.Steps.{IsProblemOf}
use Rattle.session_undo.specs.Machine.{PosesChange}
use Rattle.session_undo.specs.Replies.{Unknown}
use Rattle.corner_laws.proofs.MarkWritings.Fits.{whole_is_kept}
use Rattle.session_laws.specs.Answered.Bounds.{AreBounds, IsBound, IsSmallWhole}
use Rattle.session_laws.specs.Answered.Room.{HasRoomToLeave}
use Rattle.session_laws.specs.Answered.States.{bounded_state, without_width, zero_suggestion}
use Rattle.session_laws.proofs.Answering.BoundRemovals.{bound-removals, bounds-left}
use Rattle.session_laws.proofs.Answering.FirstBlocks.{pairs}
use Rattle.session_laws.proofs.Answering.FirstSession.{no-cause}

-- ---- the rows

-- the row `attr rel n` of weight 1
abbrev R : ℕ → ℕ → Rel → ℕ → ℕ → Row
R id rank rel n attr = record {
  id = id;
  rank = rank;
  weight = 1;
  rel = rel;
  scale = 1;
  constant = record { num = pos n; den = 1 };
  terms = record { attr = attr; by = pos 1 } ∷ [];
}

-- it is a row that the types can hold, and bounds its attribute
row-whole : (id rank : ℕ) (rel : Rel) (n attr : ℕ) → 0 < id → id ≤ 7 → rank ≤ 1000 → n ≤ 1 → 0 < attr → attr ≤ 4 → IsRow (R id rank rel n attr)
row-whole id rank rel n attr a b c d e f = record {
  number = (a, omega (arith, b));
  rank = c;
  weight = (omega arith, omega arith);
  scale = (omega arith, omega arith);
  constant = whole_is_kept n (omega (arith, d));
  terms = All-from_recursion IsTerm (record { attr = attr; by = pos 1 } ∷ []) (record { attr = (e, omega (arith, f)); nonzero = λ q. omega (arith, ints, q); small = omega arith }, tt);
  rising = λ i j t less within. absurd (omega (arith, less, within));
  count = omega arith;
}

bound : (id rank : ℕ) (rel : Rel) (n attr : ℕ) → n ≤ 1 → IsBound (R id rank rel n attr)
bound id rank rel n attr h = record { attr = attr; terms = refl; scale = refl; constant = record { whole = refl; small = omega (arith, h) } }

abbrev S : ℕ → ℕ → Stay
S attr n = record { attr = attr; target = record { num = pos n; den = 1 } }

stay-whole : (attr n : ℕ) → 0 < attr → attr ≤ 4 → n ≤ 1 → IsStay (S attr n)
stay-whole attr n a b c = record { attr = (a, omega (arith, b)); target = whole_is_kept n (omega (arith, c)) }

abbrev stood : Problem
stood = stood_of bounded_state.scene

abbrev rows : List Row
rows = R 1 1000 Eq 0 1 ∷ R 2 1000 Eq 0 2 ∷ R 3 1000 Ge 0 3 ∷ R 4 1000 Ge 0 4 ∷ R 5 1000 Ge 1 3 ∷ R 6 750 Eq 0 4 ∷ R 7 750 Eq 0 1 ∷ []

abbrev stays : List Stay
stays = S 1 0 ∷ S 2 0 ∷ S 3 1 ∷ S 4 0 ∷ []

covers : (id rank : ℕ) (rel : Rel) (n attr : ℕ) → HasStay stays attr → IsCovered stays (R id rank rel n attr)
covers id rank rel n attr has = All-from_recursion (λ (t : Term). HasStay stays t.attr) (record { attr = attr; by = pos 1 } ∷ []) (has, tt)

has-1 : HasStay stays 1
has-1 = (0, S 1 0, omega arith, refl, refl)

has-2 : HasStay stays 2
has-2 = (1, S 2 0, omega arith, refl, refl)

has-3 : HasStay stays 3
has-3 = (2, S 3 1, omega arith, refl, refl)

has-4 : HasStay stays 4
has-4 = (3, S 4 0, omega arith, refl, refl)

abbrev Below : Row → Row → Type 0
Below r s = r.id < s.id

abbrev Apart : Stay → Stay → Type 0
Apart s t = s.attr ≢ t.attr

rising : AllPairs (λ r s. r.id < s.id) rows
rising =
    pairs Below (R 1 1000 Eq 0 1) (R 2 1000 Eq 0 2 ∷ R 3 1000 Ge 0 3 ∷ R 4 1000 Ge 0 4 ∷ R 5 1000 Ge 1 3 ∷ R 6 750 Eq 0 4 ∷ R 7 750 Eq 0 1 ∷ []) (omega arith, (omega arith, (omega arith, (omega arith, (omega arith, (omega arith, tt))))))
    (pairs Below (R 2 1000 Eq 0 2) (R 3 1000 Ge 0 3 ∷ R 4 1000 Ge 0 4 ∷ R 5 1000 Ge 1 3 ∷ R 6 750 Eq 0 4 ∷ R 7 750 Eq 0 1 ∷ []) (omega arith, (omega arith, (omega arith, (omega arith, (omega arith, tt)))))
    (pairs Below (R 3 1000 Ge 0 3) (R 4 1000 Ge 0 4 ∷ R 5 1000 Ge 1 3 ∷ R 6 750 Eq 0 4 ∷ R 7 750 Eq 0 1 ∷ []) (omega arith, (omega arith, (omega arith, (omega arith, tt))))
    (pairs Below (R 4 1000 Ge 0 4) (R 5 1000 Ge 1 3 ∷ R 6 750 Eq 0 4 ∷ R 7 750 Eq 0 1 ∷ []) (omega arith, (omega arith, (omega arith, tt)))
    (pairs Below (R 5 1000 Ge 1 3) (R 6 750 Eq 0 4 ∷ R 7 750 Eq 0 1 ∷ []) (omega arith, (omega arith, tt))
    (pairs Below (R 6 750 Eq 0 4) (R 7 750 Eq 0 1 ∷ []) (omega arith, tt) (pairs Below (R 7 750 Eq 0 1) [] tt (pairs-nil Below)))))))

apart : AllPairs (λ s t. s.attr ≢ t.attr) stays
apart =
    pairs Apart (S 1 0) (S 2 0 ∷ S 3 1 ∷ S 4 0 ∷ []) ((λ e. omega (arith, e)), ((λ e. omega (arith, e)), ((λ e. omega (arith, e)), tt)))
    (pairs Apart (S 2 0) (S 3 1 ∷ S 4 0 ∷ []) ((λ e. omega (arith, e)), ((λ e. omega (arith, e)), tt))
    (pairs Apart (S 3 1) (S 4 0 ∷ []) ((λ e. omega (arith, e)), tt) (pairs Apart (S 4 0) [] tt (pairs-nil Apart))))

stood-whole : IsWhole stood
stood-whole = record {
  rows = All-from_recursion IsRow rows (
    row-whole 1 1000 Eq 0 1 (omega arith) (omega arith) (omega arith) (omega arith) (omega arith) (omega arith),
    (
      row-whole 2 1000 Eq 0 2 (omega arith) (omega arith) (omega arith) (omega arith) (omega arith) (omega arith),
      (
        row-whole 3 1000 Ge 0 3 (omega arith) (omega arith) (omega arith) (omega arith) (omega arith) (omega arith),
        (
          row-whole 4 1000 Ge 0 4 (omega arith) (omega arith) (omega arith) (omega arith) (omega arith) (omega arith),
          (
            row-whole 5 1000 Ge 1 3 (omega arith) (omega arith) (omega arith) (omega arith) (omega arith) (omega arith),
            (
              row-whole 6 750 Eq 0 4 (omega arith) (omega arith) (omega arith) (omega arith) (omega arith) (omega arith),
              (row-whole 7 750 Eq 0 1 (omega arith) (omega arith) (omega arith) (omega arith) (omega arith) (omega arith), tt),
            ),
          ),
        ),
      ),
    ),
  );
  stays = All-from_recursion IsStay stays (stay-whole 1 0 (omega arith) (omega arith) (omega arith), (stay-whole 2 0 (omega arith) (omega arith) (omega arith), (stay-whole 3 1 (omega arith) (omega arith) (omega arith), (stay-whole 4 0 (omega arith) (omega arith) (omega arith), tt))));
  rising = rising;
  apart = apart;
  covered = All-from_recursion (IsCovered stays) rows (
    covers 1 1000 Eq 0 1 has-1,
    (
      covers 2 1000 Eq 0 2 has-2,
      (
        covers 3 1000 Ge 0 3 has-3,
        (
          covers 4 1000 Ge 0 4 has-4,
          (covers 5 1000 Ge 1 3 has-3, (covers 6 750 Eq 0 4 has-4, (covers 7 750 Eq 0 1 has-1, tt))),
        ),
      ),
    ),
  );
  row_count = omega arith;
  stay_count = omega arith;
}

small : (n : ℕ) → n ≤ 1 → IsSmallWhole (record { num = pos n; den = 1 })
small n h = record { whole = refl; small = omega (arith, h) }

stood-bounds : AreBounds stood
stood-bounds = record {
  whole = stood-whole;
  rows = All-from_recursion IsBound rows (
    bound 1 1000 Eq 0 1 (omega arith),
    (
      bound 2 1000 Eq 0 2 (omega arith),
      (
        bound 3 1000 Ge 0 3 (omega arith),
        (
          bound 4 1000 Ge 0 4 (omega arith),
          (bound 5 1000 Ge 1 3 (omega arith), (bound 6 750 Eq 0 4 (omega arith), (bound 7 750 Eq 0 1 (omega arith), tt))),
        ),
      ),
    ),
  );
  stays = All-from_recursion (λ (s : Stay). IsSmallWhole s.target) stays (small 0 (omega arith), (small 0 (omega arith), (small 1 (omega arith), (small 0 (omega arith), tt))));
}

-- ---- the removal

left-bounds : AreBounds without_width
left-bounds = bounds-left (5 ∷ []) stood stood-bounds

joined : (xs ys us vs : List Row) → xs ≡ us → ys ≡ vs → xs ++ ys ≡ us ++ vs
joined xs ys us vs e f = ap₂ (λ (a b : List Row). a ++ b) e f

removed : (p : Problem) → IsProblemOf (without_group bounded_state.scene (103 ∷ [])) p → p ≡ without_width
removed p ((f, b, is, first, (g, c, next, second, (h, d, last, third, none))), same) =
    let rows : p.rows ≡ without_width.rows =
    is ∙ joined f b structural_rows (suggested_row (zero_suggestion 6 Height) ∷ suggested_row (zero_suggestion 7 Left) ∷ []) first
    (next ∙ joined g c (suggested_row (zero_suggestion 6 Height) ∷ []) (suggested_row (zero_suggestion 7 Left) ∷ []) second
    (last ∙ joined h d (suggested_row (zero_suggestion 7 Left) ∷ []) [] third none)) in
    ap₂ (λ (rs : List Row) (ss : List Stay). (let q : Problem = record { rows = rs; stays = ss } in q)) rows same

pub middle-room : (p : Problem) → PosesChange bounded_state (mean.Leave (mean.Remove (103 ∷ []))) p → HasRoomToLeave bounded_state p
middle-room p h =
    let is : p ≡ without_width = removed p (no-cause (Unknown (103 ∷ [])) refl h) in
    subst (HasRoomToLeave bounded_state) (sym is) (bound-removals bounded_state without_width stood-bounds left-bounds (record { whole = left-bounds.whole; exchanges = omega arith }))

pub middle-poses : PosesChange bounded_state (mean.Leave (mean.Remove (103 ∷ []))) without_width
middle-poses = inr (
  (λ e. true≢false e),
  (
    (
      structural_rows,
      suggested_row (zero_suggestion 6 Height) ∷ suggested_row (zero_suggestion 7 Left) ∷ [],
      refl,
      refl,
      (suggested_row (zero_suggestion 6 Height) ∷ [], suggested_row (zero_suggestion 7 Left) ∷ [], refl, refl, (suggested_row (zero_suggestion 7 Left) ∷ [], [], refl, refl, refl)),
    ),
    refl,
  ),
)
