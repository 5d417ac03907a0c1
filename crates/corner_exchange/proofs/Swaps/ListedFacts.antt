-- The lines that are listed once an exchange was put.
use Rattle.std.proofs.Common.{◌≡◌, ℕ, List, sym, subst, inl, inr}
use Rattle.row_core.specs.Rows.{Term}
use Rattle.version_lists.proofs.Indexing.{number_at_column}
use Rattle.problem_core.specs.Corners.{Swap}
use Rattle.corner_exchange.specs.declared.exchange.Exchange.{Exchange}
use Rattle.corner_table.specs.Reads.Listing.{IsListed}
use Rattle.corner_table.specs.Tables.{IsListedOf, Lists, row_at}
use Rattle.corner_table.specs.Kept.{AreSlots, IsKept, IsSlot}
use Rattle.corner_exchange.specs.Swaps.Exchanges.{AreListedAfter, IsExchangeOf, IsOutsideAfter, exchanged_lists}
use Rattle.corner_exchange.specs.Swaps.NextLists.{AreKeptChanges}
use Rattle.corner_table.proofs.Readings.SlotFacts.{named_slot}
use Rattle.corner_exchange.proofs.Swaps.ExchangedFacts.{exchanged_at}

leave-slot : (t : Lists) (made : Exchange) (s : Swap) → AreSlots t → IsExchangeOf t made s → IsSlot t made.pair.leave
leave-slot t made s slots h = subst (IsSlot t) h.pair.leave_slot (named_slot t s.leave.row slots h.pair.leaves)

pub after_slot : (t : Lists) (made : Exchange) (s : Swap) (c : ℕ) → AreSlots t → IsExchangeOf t made s → IsOutsideAfter t made.pair c → IsSlot t c
after_slot t made s c slots h (inl e) = subst (IsSlot t) (sym e) (leave-slot t made s slots h)
after_slot t made s c slots h (inr (ne, (slot, none, owner))) = slot

pub listed_after : (t : Lists) (made : Exchange) (s : Swap) (old mid new : List ℕ) → IsKept t → IsExchangeOf t made s → AreKeptChanges made → IsListed made.pair.leave old mid
    → IsListedOf made.pair.enter (row_at (exchanged_lists t made) made.pair.enter) mid new → AreListedAfter t made old new
listed_after t made s old mid new kept h keeps one all =
    let row : row_at (exchanged_lists t made) made.pair.enter ≡ made.entering.row = (exchanged_at t made s kept.slots h).enter_row in
    let of : IsListedOf made.pair.enter made.entering.row mid new = subst (λ (r : List Term). IsListedOf made.pair.enter r mid new) row all in
    record {
      leaving = of.keeps made.pair.leave one.has;
      row = λ c some ne. of.has c (after_slot t made s c kept.slots h (h.enters.outside c some ne)).0 ne ((number_at_column c made.entering.row keeps.entering.0).0 some);
      keeps = λ w k. of.keeps w (one.keeps w k);
      others = λ w k. elim (of.others w k) [
        | inl before ↦ elim (one.others w before) [
          | inl o ↦ inl o
          | inr e ↦ inr (inl e)
        ]
        | inr (le, ne, has) ↦ inr (h.enters.outside w ((number_at_column w made.entering.row keeps.entering.0).1 has) ne)
      ];
    }
