-- The limits of a session, written out.
use Rattle.std.specs.Prelude.{◌≡◌, ◌^◌}
use Rattle.scenes.specs.declared.limits.TheConstants.{FIRST_BUDGET}
use Rattle.session_undo.specs.declared.limits.TheConstants.{BUDGET_LIMIT, MOST_LINES}

-- A scene holds 2,000 lines at most; a budget is 100,000 exchanges at first and 10^18 at most.
abbrev pub ConstantsAreAsSaid : Type 0
ConstantsAreAsSaid = (MOST_LINES ≡ 2000) × (FIRST_BUDGET ≡ 100000) × (BUDGET_LIMIT ≡ 10 ^ 18)
