-- The laws that follow from the definitions of a format's rows alone.
use Rattle.std.specs.Prelude.{◌≡◌, ℕ, List, Option, length}
use Rattle.vfl_text.specs.Formats.{FormatMeaning}
use Rattle.script_text.specs.declared.words.Align.{Align}
use Rattle.script_text.specs.declared.words.Direction.{Direction}
use Rattle.view_tree.specs.Views.{LiveView}
use Rattle.compile_parts.specs.Meaning.{MetricList}
use Rattle.constraint_compile.specs.Compiled.{CompiledLine}
use Rattle.format_compile.specs.FormatParts.{parts}
use Rattle.format_compile.specs.FormatStops.{row_count}
use Rattle.format_compile.specs.FormatRows.{IsCompiledFormat, MayStopFormat}
use Rattle.compile_parts.specs.declared.stops.CompileStop as declared_stop
use Rattle.compile_parts.specs.declared.stops.CompileStop.TheVariants.{OutOfMemory}

-- a compiled format has as many rows as it asks for
abbrev pub CompiledFormatsHaveAllRows : Type 0
CompiledFormatsHaveAllRows = (views : List LiveView) (metrics : MetricList) (f : FormatMeaning)
    (align : Option Align) (d : Direction) (first : ℕ) (c : CompiledLine)
    → IsCompiledFormat views metrics f align d first c → length c.rows ≡ row_count views (parts f align d)

-- a compiled format has no cause of refusal except lack of memory
abbrev pub CompiledFormatsHaveNoRefusal : Type 0
CompiledFormatsHaveNoRefusal = (views : List LiveView) (metrics : MetricList) (f : FormatMeaning)
    (align : Option Align) (d : Direction) (first : ℕ) (c : CompiledLine) (stop : declared_stop.CompileStop)
    → IsCompiledFormat views metrics f align d first c → MayStopFormat views metrics f align d first stop
    → stop ≡ OutOfMemory

-- a format has at most one cause of refusal except lack of memory
abbrev pub FormatRefusalIsUnique : Type 0
FormatRefusalIsUnique = (views : List LiveView) (metrics : MetricList) (f : FormatMeaning)
    (align : Option Align) (d : Direction) (first : ℕ) (one other : declared_stop.CompileStop)
    → MayStopFormat views metrics f align d first one → MayStopFormat views metrics f align d first other
    → (one ≡ OutOfMemory → ⊥) → (other ≡ OutOfMemory → ⊥) → one ≡ other
