-- The results of looking up the names of terms.
use Rattle.std.specs.Prelude.{◌≡◌, ℕ, List, Option, Some, map, ⊤}
use Rattle.std.specs.Option.{option_map, option_to_list}
use Rattle.view_tree.specs.Views.{LiveView}
use Rattle.view_tree.specs.declared.view.ViewId.{ViewId}
use Rattle.script_text.specs.Meaning.{Term}
use Rattle.compile_parts.specs.Meaning.{MetricList, unknown_among}
use Rattle.compile_parts.specs.declared.stops.CompileStop.{CompileStop}
use Rattle.compile_parts.specs.declared.stops.CompileStop.TheVariants.{Unknown, Kind, Limit, OutOfMemory}

-- the numbers of the views, in order
abbrev pub numbers : List ViewId → List ℕ
numbers ids = map (λ id. id.0) ids

-- the number of the view, if there is one
abbrev pub option_numbers : Option ViewId → List ℕ
option_numbers id = option_to_list (option_map (λ v. v.0) id)

-- when a name in terms may be refused
abbrev pub IsUnknownTerm : List LiveView → MetricList → List Term → CompileStop → Type 0
IsUnknownTerm views metrics terms (Unknown name) = unknown_among views metrics terms ≡ Some name
IsUnknownTerm views metrics terms OutOfMemory = ⊤
IsUnknownTerm views metrics terms (Kind word) = ⊥
IsUnknownTerm views metrics terms (Limit word) = ⊥
