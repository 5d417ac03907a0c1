-- Orders of some stays, and two problems that differ in the order of their stays alone.
use Rattle.std.specs.Prelude.{◌≡◌, ◌≢◌, ℕ, List, [], ◌∷◌, pos, map, cond, nat_eq}
use native.Mathlib.Nat.{zero-lt-suc}
use Rattle.frac_core.specs.Fraction.{Fraction}
use Rattle.problem_core.specs.declared.limits.TheConstants.{REQUIRED}
use Rattle.problem_core.specs.declared.parts.Rel.TheVariants.{Eq}
use Rattle.problem_core.specs.declared.parts.RowName.TheVariants.{Stay as StayOf}
use Rattle.problem_core.specs.declared.parts.Stay.{Stay}
use Rattle.problem_core.specs.Layout.{Assignment, IsLess, Problem, Row, Satisfies, stay_lines}
use Rattle.stay_orders.specs.Orders.{fronted, with_front}

-- a stay at 0
abbrev pub still : ℕ → Stay
still attr = record { attr = attr; target = record { num = pos 0; den = 1 } }

-- the stays of 1 to 4
abbrev pub four : List Stay
four = still 1 ∷ still 2 ∷ still 3 ∷ still 4 ∷ []

-- the attributes of stays, in order
abbrev pub names : List Stay → List ℕ
names stays = map (λ s. s.attr) stays

-- the stays that are kept come first, in the order in which they are kept; the latest ones come before those
-- that were kept earlier; no stay comes or goes
pub record SomeOrders : Type 0 where
  pub one : names (with_front (3 ∷ []) four) ≡ 3 ∷ 1 ∷ 2 ∷ 4 ∷ []
  pub two : names (with_front (3 ∷ 4 ∷ []) four) ≡ 3 ∷ 4 ∷ 1 ∷ 2 ∷ []
  pub later : names (with_front (2 ∷ []) (with_front (3 ∷ []) four)) ≡ 2 ∷ 3 ∷ 1 ∷ 4 ∷ []
  pub again : names (with_front (3 ∷ []) (with_front (3 ∷ []) four)) ≡ 3 ∷ 1 ∷ 2 ∷ 4 ∷ []
  pub first : names (with_front (1 ∷ 2 ∷ []) four) ≡ 1 ∷ 2 ∷ 3 ∷ 4 ∷ []
  pub absent : names (with_front (5 ∷ []) four) ≡ 1 ∷ 2 ∷ 3 ∷ 4 ∷ []
  pub not_sorted : names (with_front (3 ∷ []) four) ≢ 1 ∷ 2 ∷ 3 ∷ 4 ∷ []

-- the levels of stays are those of their places in the list, whatever their attributes' numbers
pub record LevelsGoByPlace : Type 0 where
  pub kept : map (λ l. l.level) (stay_lines 1001 (with_front (3 ∷ []) four))
      ≡ 1001 ∷ 1002 ∷ 1003 ∷ 1004 ∷ []
  pub named : map (λ l. l.name) (stay_lines 1001 (with_front (3 ∷ []) four))
      ≡ StayOf 3 ∷ StayOf 1 ∷ StayOf 2 ∷ StayOf 4 ∷ []

-- `x + y == 10`, required, where x has the number 1 and y the number 2
abbrev pub ten : Row
ten = record {
  id = 1;
  rank = REQUIRED;
  weight = 1;
  rel = Eq;
  scale = 1;
  constant = record { num = pos 10; den = 1 };
  terms = record { attr = 1; by = pos 1 } ∷ record { attr = 2; by = pos 1 } ∷ [];
}

-- with both at 0 before, x stronger
abbrev pub plain : Problem
plain = record { rows = ten ∷ []; stays = still 1 ∷ still 2 ∷ [] }

-- x is this, and y is that
abbrev pub both : ℕ → ℕ → Assignment
both x y = record {
  den = 1;
  num = λ v. cond (nat_eq v 1) (pos x) (cond (nat_eq v 2) (pos y) (pos 0));
  positive = zero-lt-suc 0;
}

-- both satisfy; y gives way where x is stronger, and x where y is kept
pub record KeepDecides : Type 0 where
  pub first : Satisfies plain (both 0 10)
  pub second : Satisfies plain (both 10 0)
  pub plain_is : IsLess plain (both 0 10) (both 10 0)
  pub kept_is : IsLess (fronted (2 ∷ []) plain) (both 10 0) (both 0 10)
