-- A corner after an exchange or a turn by which no column becomes negative is consistent with the same lines
-- listed.
use Rattle.std.proofs.Common.{◌≡◌, ℕ, List, [], arith, subst, sym, Contains}
use Rattle.std.specs.declared.option.Option.{Option}
use Rattle.problem_core.specs.declared.parts.Mark.{Mark}
use Rattle.problem_core.specs.declared.parts.RowName.{RowName}
use Rattle.problem_core.specs.declared.parts.Side.{Side}
use Rattle.problem_core.specs.Layout.{Problem}
use Rattle.problem_core.specs.Corners.{SameMarks, Swap, place}
use Rattle.problem_core.proofs.Marks.{same-multipliers as same_multipliers}
use Rattle.corner_laws.proofs.RunSteps.RunPaths.{contains_in}
use Rattle.corner_exchange.specs.declared.exchange.Change.{Change}
use Rattle.corner_exchange.specs.declared.exchange.Exchange.{Exchange}
use Rattle.corner_exchange.specs.Swaps.Exchanges.{exchanged_lists, marks_after, turned_lists}
use Rattle.corner_table.specs.declared.table.Table.{Table}
use Rattle.corner_table.specs.Tables.{Lists, lists_of, marks_at, problem_of}
use Rattle.corner_table.specs.Kept.{IsKept}
use Rattle.corner_table.specs.Histories.{AreAlike, lists_before}
use Rattle.corner_table.specs.Invariants.{IsConsistent, names_of}
use Rattle.corner_view.specs.Seen.{AreCandidates}
use Rattle.corner_table.proofs.Basics.ListFacts.{all_from}
use Rattle.corner.proofs.Swaps.NextConsistent.{AreSeenAlike, exchanged_seen, next_consistent, turned_seen}
use Rattle.corner_exchange.proofs.Swaps.ListedSlots.{CanBeListed, were_listed}

no-element : (name : RowName) → Contains [] name → ⊥
no-element name i = let within = i.1 in omega (arith, within)

-- no line need be listed where none of the same marks has a negative column
settled-same : (p : Problem) (a b : List Mark) (names : List RowName) → SameMarks a b → AreCandidates p b [] → AreCandidates p a names
settled-same p a b names same none m out column =
    absurd (no-element m.row (none m (out.0, λ i. out.1 (contains_in b a (place m) same.1 i)) (column.0, same_multipliers p b a column.0 (λ v i. contains_in b a v same.1 i) column.1, column.2)))

settled_next : (old new : Table) (s : Swap) (listed : List ℕ) → IsConsistent old listed → AreAlike new → lists_before new ≡ lists_before old → AreSeenAlike (lists_of old) (lists_of new) → IsKept (lists_of new)
    → SameMarks (marks_at (lists_of new)) (marks_after (lists_of old) s) → AreCandidates (problem_of (lists_of old)) (marks_after (lists_of old) s) [] → IsConsistent new listed
settled_next old new s listed k alike before seen kept marks none =
    let t : Lists = lists_of old in
    let u : Lists = lists_of new in
    next_consistent old new listed listed k alike before seen kept (all_from (CanBeListed t) listed (were_listed t listed k.slots k.named))
    (settled-same (problem_of u) (marks_at u) (marks_after t s) (names_of u listed) marks (subst (λ (p : Problem). AreCandidates p (marks_after t s) []) (sym seen.problem) none))

pub exchanged_settled : (old new : Table) (made : Exchange) (s : Swap) (listed : List ℕ) → IsConsistent old listed → AreAlike new → lists_before new ≡ lists_before old → lists_of new ≡ exchanged_lists (lists_of old) made → IsKept (lists_of new)
    → SameMarks (marks_at (lists_of new)) (marks_after (lists_of old) s) → AreCandidates (problem_of (lists_of old)) (marks_after (lists_of old) s) [] → IsConsistent new listed
exchanged_settled old new made s listed k alike before same = settled_next old new s listed k alike before (exchanged_seen (lists_of old) (lists_of new) made same)

pub turned_settled : (old new : Table) (line : ℕ) (side : Side) (change : Option Change) (s : Swap) (listed : List ℕ) → IsConsistent old listed → AreAlike new → lists_before new ≡ lists_before old → lists_of new ≡ turned_lists (lists_of old) line side change → IsKept (lists_of new)
    → SameMarks (marks_at (lists_of new)) (marks_after (lists_of old) s) → AreCandidates (problem_of (lists_of old)) (marks_after (lists_of old) s) [] → IsConsistent new listed
turned_settled old new line side change s listed k alike before same = settled_next old new s listed k alike before (turned_seen (lists_of old) (lists_of new) line side change same)
