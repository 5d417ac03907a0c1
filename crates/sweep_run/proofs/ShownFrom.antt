-- Where a slide's values are that no piece leads to.
use Rattle.std.proofs.Common.{◌≡◌, ◌<◌, ℕ, Bool, List, [], sym, subst, Option, Some, None, IfSome}
use Rattle.frac_core.specs.Fraction.{Fraction}
use Rattle.problem_core.specs.declared.parts.Mark.{Mark}
use Rattle.problem_core.specs.Layout.{Problem}
use Rattle.sweep_laws.specs.Stretches.{Stretch}
use Rattle.sweep_run.specs.Slides.{CoverTo, HasShown, IsAtPlace}
use Rattle.sweep_run.specs.Told.{stretches_of}
use Rattle.sweep_run.specs.Ways.{ComesBefore}
use Rattle.sweep_run.specs.declared.slides.Slid.{Slid}
use Rattle.sweep_run.specs.declared.ways.Way.{Way}
use Rattle.sweep_run.proofs.Orders.{then_before}

abbrev Values : Type 0
Values = List (ℕ × Fraction)

turned : (up : Bool) (from w : Fraction) (o : Option Values) → IfSome o (λ v. CoverTo up from w []) → IfSome o (λ v. w ≡ from)
turned up from w None h = tt
turned up from w (Some v) h = sym h

-- with no stretch behind it the place reached is where the way is shown from
pub at_start_of : (p : Problem) (way : Way) (at : List Mark) (slid : Slid) (h : IsAtPlace p way at slid) → stretches_of slid.stretches.items ≡ [] → IfSome slid.values (λ v. slid.at.width ≡ h.from)
at_start_of p way at slid h none = turned way.up h.from slid.at.width slid.values (subst (λ (ss : List Stretch). IfSome slid.values (λ v. CoverTo way.up h.from slid.at.width ss)) none h.covers)

-- without values the present constant isn't shown
pub shown_late_of : (p : Problem) (way : Way) (at : List Mark) (slid : Slid) → 0 < way.first.width.den → IsAtPlace p way at slid → slid.values ≡ None → ComesBefore way.up way.first.width way.near.width
shown_late_of p way at slid some h e =
    let hidden : HasShown p way at slid.at None (stretches_of slid.stretches.items) = subst (λ (o : Option Values). HasShown p way at slid.at o (stretches_of slid.stretches.items)) e h.shown in
    then_before way.up way.first.width slid.at.width way.near.width some h.reached.on_way hidden.0
