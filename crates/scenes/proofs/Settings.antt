-- A setting some rows later.
use Rattle.std.proofs.Common.{ℕ, ◌+◌}
use Rattle.scenes.specs.declared.scene.past.Setting.{Setting}

-- with so many rows taken
abbrev pub later : Setting → ℕ → Setting
later setting count = record { next_row = setting.next_row + count; direction = setting.direction }
