-- Why a call gave nothing.
use Rattle.frac_core.specs.declared.memory.Stop.{Stop}
use Rattle.frac_core.specs.declared.memory.Stop.TheVariants.{Refused, OutOfMemory}

-- it has a cause of its own, and memory is not what is wanting
abbrev pub IsRefused : {E : Type 0} → Stop E → Type 0
IsRefused (Refused cause) = Unit {0}
IsRefused OutOfMemory = ⊥
