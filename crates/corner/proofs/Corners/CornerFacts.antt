-- What a corner keeps when its lists go back, are marked or forgotten.
use Rattle.std.proofs.Common.{◌≡◌, ◌∙◌, ◌-◌, ℕ, zero, suc, List, [], ◌∷◌, length, map, take, refl, ap, sym, subst, All}
use Rattle.std.specs.List.{AllByRecursion as Each}
use Rattle.std.proofs.lemmas.List.Elements.{All-from_recursion, recursion_from_All}
use Rattle.corner_table.specs.declared.table.Table.{Table}
use Rattle.corner.specs.declared.known.Known.{Known}
use Rattle.corner.specs.Known.{AreKnown}
use Rattle.corner_view.specs.Seen.{AreCandidates, IsNamed}
use Rattle.corner_table.specs.Tables.{Lists, lists_of, marks_at, problem_of, scene_at}
use Rattle.corner_table.specs.Kept.{IsKept, IsSlot}
use Rattle.corner_table.specs.Histories.{AreAlike, lists_before}
use Rattle.corner_table.proofs.Corners.HistoryFacts.{sided}
use Rattle.corner_table.specs.Invariants.{IsConsistent, IsEarlier, names_of}
use Rattle.frac_core.proofs.Lists.{length-mapped as map_length}

each_take : {X : Type 0} (P : X → Type 0) (n : ℕ) (xs : List X) → Each P xs → Each P (take n xs)
each_take P zero xs h = tt
each_take P (suc n) [] h = tt
each_take P (suc n) (x ∷ xs) h = (h.0, each_take P n xs h.1)

all_take : {X : Type 0} (P : X → Type 0) (n : ℕ) (xs : List X) → All P xs → All P (take n xs)
all_take P n xs h = All-from_recursion P (take n xs) (each_take P n xs (recursion_from_All P xs h))

-- the lists are those of an earlier mark, and no line is listed
pub went_back : (new : Table) (listed : List ℕ) (before : List Lists) → AreAlike new → All IsEarlier (lists_of new ∷ before) → All IsEarlier (lists_before new) → listed ≡ [] → IsConsistent new listed
went_back new listed before alike all rest e =
    let first = (recursion_from_All IsEarlier (lists_of new ∷ before) all).0 in
    subst (λ (ws : List ℕ). IsConsistent new ws) (sym e) (record {
      alike = alike;
      before = rest;
      kept = first.kept;
      slots = All-from_recursion (IsSlot (lists_of new)) [] tt;
      named = All-from_recursion (IsNamed (problem_of (lists_of new))) [] tt;
      candidates = first.candidates;
    })

pub back_kept : (old new : Table) (listed : List ℕ) → AreAlike new → All IsEarlier (lists_before old) → lists_before old ≡ lists_of new ∷ lists_before new → listed ≡ [] → IsConsistent new listed
back_kept old new listed alike all e none =
    let both : All IsEarlier (lists_of new ∷ lists_before new) = subst (All IsEarlier) e all in
    went_back new listed (lists_before new) alike both (All-from_recursion IsEarlier (lists_before new) (recursion_from_All IsEarlier (lists_of new ∷ lists_before new) both).1) none

-- the same lists, with fewer earlier ones
pub forget_kept : (old new : Table) (listed : List ℕ) (n : ℕ) → IsConsistent old listed → AreAlike new → lists_of new ≡ lists_of old → lists_before new ≡ take n (lists_before old) → IsConsistent new listed
forget_kept old new listed n k alike now before = record {
  alike = alike;
  before = subst (All IsEarlier) (sym before) (all_take IsEarlier n (lists_before old) k.before);
  kept = subst IsKept (sym now) k.kept;
  slots = subst (λ t. All (IsSlot t) listed) (sym now) k.slots;
  named = subst (λ t. All (IsNamed (problem_of t)) (names_of t listed)) (sym now) k.named;
  candidates = subst (λ t. AreCandidates (problem_of t) (marks_at t) (names_of t listed)) (sym now) k.candidates;
}

pub mark_kept : (old new : Table) (listed : List ℕ) (n : ℕ) → IsConsistent old listed → names_of (lists_of old) listed ≡ [] → AreAlike new → lists_of new ≡ lists_of old → lists_before new ≡ take n (lists_of old ∷ lists_before old) → IsConsistent new listed
mark_kept old new listed n k none alike now before =
    let first : IsEarlier (lists_of old) = record { kept = k.kept; candidates = subst (AreCandidates (problem_of (lists_of old)) (marks_at (lists_of old))) none k.candidates } in
    let all : All IsEarlier (lists_of old ∷ lists_before old) = All-from_recursion IsEarlier (lists_of old ∷ lists_before old) (first, recursion_from_All IsEarlier (lists_before old) k.before) in
    record {
      alike = alike;
      before = subst (All IsEarlier) (sym before) (all_take IsEarlier n (lists_of old ∷ lists_before old) all);
      kept = subst IsKept (sym now) k.kept;
      slots = subst (λ t. All (IsSlot t) listed) (sym now) k.slots;
      named = subst (λ t. All (IsNamed (problem_of t)) (names_of t listed)) (sym now) k.named;
      candidates = subst (λ t. AreCandidates (problem_of t) (marks_at t) (names_of t listed)) (sym now) k.candidates;
    }

pub map_take : {X Y : Type 0} (f : X → Y) (n : ℕ) (xs : List X) → map f (take n xs) ≡ take n (map f xs)
map_take f zero xs = refl
map_take f (suc n) [] = refl
map_take f (suc n) (x ∷ xs) = ap (λ ys. f x ∷ ys) (map_take f n xs)

-- the clause of a mark
pub mark_before : (old new : Table) (n : ℕ) → lists_before new ≡ take n (lists_of old ∷ lists_before old) → map scene_at (lists_before new) ≡ take n (scene_at (lists_of old) ∷ map scene_at (lists_before old))
mark_before old new n e = ap (map scene_at) e ∙ map_take scene_at n (lists_of old ∷ lists_before old)

-- the clause of forgetting
pub forget_before : (old new : Table) → AreAlike old → lists_before new ≡ take (length old.rows.before - 1) (lists_before old)
    → map scene_at (lists_before new) ≡ take (length (map scene_at (lists_before old)) - 1) (map scene_at (lists_before old))
forget_before old new alike e =
    let same : length (map scene_at (lists_before old)) ≡ length old.rows.before = map_length scene_at (lists_before old) ∙ sided old.rows.before old.stays.before old.slots.before old.standings.before old.matrix.before old.attr_slots.before old.row_slots.before old.priorities.before alike.stays alike.slots alike.standings alike.matrix alike.attr_slots alike.row_slots alike.priorities in
    ap (map scene_at) e ∙ (map_take scene_at (length old.rows.before - 1) (lists_before old) ∙ ap (λ (n : ℕ). take (n - 1) (map scene_at (lists_before old))) (sym same))

-- ---- what is known of lists that stay

pub same_known : (t u : Lists) (k : Known) → u ≡ t → AreKnown t k → AreKnown u k
same_known t u k same known = subst (λ (x : Lists). AreKnown x k) (sym same) known
