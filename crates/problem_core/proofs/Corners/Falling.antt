-- The costs of the levels, each with its entries at the first corner's marks, fall lexicographically at each exchange, so a path has no corner twice.
use Rattle.std.proofs.Common.{◌≡◌, ℕ, ◌*◌, ◌<◌, ℤ, pos, ◌-ℤ◌, ◌*ℤ◌}

-- the entries of a level's row, and its scale
pub record LevelRow : Type 0 where
  pub entry : ℕ → ℤ
  pub scale : ℕ

-- ---- an exchange

-- a level's row before and after: k is the leaving row's entry at the entering column
pub record IsExchangedLevel (leaving : ℕ → ℤ) (k enter : ℕ) (old new : LevelRow) : Type 0 where
  pub g : ℕ
  pub positive : 0 < g
  pub scale_positive : 0 < old.scale
  pub same : (c : ℕ) → pos g *ℤ new.entry c ≡ pos k *ℤ old.entry c -ℤ old.entry enter *ℤ leaving c
  pub scales : g * new.scale ≡ k * old.scale
