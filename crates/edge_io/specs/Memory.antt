-- What the objects in memory hold, and what decides their answers.
use Rattle.std.specs.Prelude.{◌≡◌, ◌↔◌, ℕ, ◌-◌, ◌+◌, ◌≤◌, ◌⊎◌, ◌==◌, List, min, slice_index}
use Rattle.std.specs.Prelude.{if◌then◌else◌, length, Result, IfOk, IsErr, Contains}
use Rattle.edge_io.specs.Cause.{count_end, next_count}

-- a source in memory: what is left, the greatest sizes, the calls that fail, the next call's number, and the
-- count of faults
pub record MemoryInput : Type 0 where
  pub left : List ℕ
  pub sizes : List ℕ
  pub fails : List ℕ
  pub call : ℕ
  pub faults : ℕ

-- a sink in memory: what it holds, its room, the calls that fail, the next call's number, and the count of
-- faults
pub record MemoryOutput : Type 0 where
  pub held : List ℕ
  pub room : ℕ
  pub fails : List ℕ
  pub call : ℕ
  pub faults : ℕ

-- the greatest size of a call: a missing or zero size means no bound
abbrev pub size_of : List ℕ → ℕ → ℕ
size_of sizes call = if slice_index sizes call == 0 then count_end else slice_index sizes call

-- A pull fails exactly where its call is listed, and else takes the most that it may. The call counts, and
-- the lists stay.
pub record PullsMost {E : Type 0} (old new : MemoryInput) (room : ℕ) (result : Result ℕ E) : Type 0 where
  pub fails : IsErr result ↔ Contains old.fails old.call
  pub most : IfOk result (λ n. n ≡ min (min (size_of old.sizes old.call) room) (length old.left))
  pub counted : new.call ≡ next_count old.call
  pub same_sizes : new.sizes ≡ old.sizes
  pub same_fails : new.fails ≡ old.fails

-- A put fails exactly where its call is listed or the sink is full, and else takes the most that it may. The
-- call counts, and room and list stay.
pub record PutsMost {E : Type 0} (old new : MemoryOutput) (size : ℕ) (result : Result ℕ E) : Type 0 where
  pub fails : IsErr result ↔ ((old.room ≤ length old.held) ⊎ Contains old.fails old.call)
  pub most : IfOk result (λ n. n ≡ min (old.room - length old.held) size)
  pub counted : new.call ≡ next_count old.call
  pub same_room : new.room ≡ old.room
  pub same_fails : new.fails ≡ old.fails
