-- What a reader gives that may also want memory, beside reading the list.
use Rattle.std.specs.Prelude.{◌≡◌, ℕ, Result, Ok, Err}
use Rattle.span_text.specs.declared.stop.PartStop.{PartStop}
use Rattle.span_text.specs.declared.stop.PartStop.TheVariants.{Left, OutOfMemory}

-- The error of a reader is that of reading the list, or memory ran out.
abbrev pub LeavesOrMemory : {Y : Type 0} → PartStop → Result Y ℕ → Type 0
LeavesOrMemory (Left m) read = read ≡ Err m
LeavesOrMemory OutOfMemory read = Unit {0}

-- What a reader returned, seen by view, is what reading the list gives, unless memory ran out.
abbrev pub GivesOrMemory : {X Y : Type 0} → (X → Y) → Result X PartStop → Result Y ℕ → Type 0
GivesOrMemory view (Ok x) read = read ≡ Ok (view x)
GivesOrMemory view (Err e) read = LeavesOrMemory e read
