use Rattle.std.proofs.Common.{refl, sym, true≢false, inl, inr}
use Rattle.session_undo.proofs.session.Session.later_suggestion.Goals as goal

pub returns-then-not-fits_after-clause-stop : goal.returns-then-not-fits_after-clause-stop
returns-then-not-fits_after-clause-stop g c = λ rank.
    inr ((λ some. true≢false (sym some)), inr ((λ large. large c.in-Some.ensures.small), (c.in-Some.constant, c.in-Some.ensures.constant, inl (c.if-not-fits_after.ensures.no refl, refl, refl))))

pub returns-clause-made : goal.returns-clause-made
returns-clause-made g c = record { view_is = refl; word = refl; constant = c.in-Some.ensures.constant; small = c.in-Some.ensures.small }
