-- What a line is compiled to goes on from a number, and has attributes of views alone.
use Rattle.std.proofs.Common.{ℕ, ◌+◌, ◌<◌, Bool, true, false, List, [], ◌∷◌, ◌++◌, map, Option, Some, None, pos, negsuc, ℤ, sym, subst, All, lit<}
use Rattle.std.specs.List.{Contains, AllByRecursion as Each}
use Rattle.std.proofs.lemmas.List.Elements.{All-from_recursion}
use Rattle.span_text.specs.Objects.{Meant}
use Rattle.span_text.specs.Objects as object
use Rattle.vfl_text.specs.Formats.{FormatMeaning, PredMeaning}
use Rattle.view_tree.specs.Views.{LiveView}
use Rattle.script_text.specs.declared.words.Align.{Align}
use Rattle.script_text.specs.declared.words.Direction.{Direction}
use Rattle.script_text.specs.declared.words.AttrWord.{AttrWord}
use Rattle.script_text.specs.Grammar.{decimal}
use Rattle.script_text.specs.Meaning as mean
use Rattle.script_text.proofs.FractionLemmas.{lowest_is}
use Rattle.compile_parts.specs.Meaning.{HasDenominator, MetricList, terms_of, minus}
use Rattle.constraint_compile.specs.Compiled.{RowForm, CompiledLine}
use Rattle.constraint_compile.specs.Stops.{IsCompiled}
use Rattle.format_compile.specs.FormatParts.{End, Span, Part, View, Bar, Asks, parts}
use Rattle.format_compile.specs.FormatLines.{line_of, lines_of, minus_terms, object_term, number}
use Rattle.format_compile.specs.FormatRows.{AreRowsOf, IsCompiledFormat}
use Rattle.held_items.specs.Attributes.{all_attributes, AreNumberedFrom, AreOwned, IsNextLine}
use Rattle.held_items.proofs.HeldRows.Owners.{constrain-owned}
use Rattle.held_items.proofs.HeldRows.FormTerms.{terms-among}
use Rattle.held_items.proofs.HeldRows.Ranks.{FormHasRank, rank-in-thousand, rows-ranked}

-- ---- linear lines

abbrev pub IsAmong : List LiveView → RowForm → Type 0
IsAmong views f = All (λ t. Contains (all_attributes views) t.attr) f.terms

pub constrain-next : (views : List LiveView) (ms : MetricList) (l : mean.Linear) (number : ℕ) (c : CompiledLine) → IsCompiled views ms l number c → All HasDenominator (terms_of l) → IsNextLine views number c
constrain-next views ms l number c is above =
    let row = is.row in
    record {
      numbers = subst (AreNumberedFrom number) (sym row.1) (row.2.id, tt);
      ranks = subst (All FormHasRank) (sym row.1) (All-from_recursion FormHasRank (row.0 ∷ []) ((rank-in-thousand views ms l.priority row.0.rank row.2.rank).0, tt));
      attributes = subst (All (IsAmong views)) (sym row.1) (All-from_recursion (IsAmong views) (row.0 ∷ []) (terms-among views (terms_of l) row.0 above row.2.sum, tt));
      owned = constrain-owned views ms l number c is above;
    }

-- ---- formats

decimal-above : (b : Bool) (n : ℕ) → 0 < (decimal b n).den
decimal-above b n = (lowest_is b n 1000 (lit< tt)).above

number-above : (z : ℤ) → 0 < (number z).den
number-above (pos n) = decimal-above false n
number-above (negsuc n) = decimal-above true (n + 1)

object-above : (views : List LiveView) (w : AttrWord) (o : Meant) → HasDenominator (object_term views w o)
object-above views w (object.Number z) = number-above z
object-above views w (object.Name name) = decimal-above false 1000

end-above : (views : List LiveView) (w : AttrWord) (o : Meant) (e : Option End) → Each HasDenominator (map minus (minus_terms views e ++ object_term views w o ∷ []))
end-above views w o None = (object-above views w o, tt)
end-above views w o (Some e) = (decimal-above false 1000, (object-above views w o, tt))

line-above : (views : List LiveView) (s : Span) (p : PredMeaning) → All HasDenominator (terms_of (line_of views s p))
line-above views s p = All-from_recursion HasDenominator (terms_of (line_of views s p)) (decimal-above false 1000, end-above views s.plus.word p.object s.minus)

pub lines-above : (views : List LiveView) (ps : List Part) → Each (λ l. All HasDenominator (terms_of l)) (lines_of views ps)
lines-above views [] = tt
lines-above views (View name ∷ ps) = lines-above views ps
lines-above views (Bar name ∷ ps) = lines-above views ps
lines-above views (Asks s p ∷ ps) = (line-above views s p, lines-above views ps)

rows-numbered : (views : List LiveView) (ms : MetricList) (lines : List mean.Linear) (n : ℕ) (rows : List RowForm) → AreRowsOf views ms lines n rows → AreNumberedFrom n rows
rows-numbered views ms [] n [] are = tt
rows-numbered views ms [] n (r ∷ rows) are = absurd are
rows-numbered views ms (l ∷ lines) n [] are = absurd are
rows-numbered views ms (l ∷ lines) n (r ∷ rows) are = (are.0.is_row.id, rows-numbered views ms lines (n + 1) rows are.1)

rows-among : (views : List LiveView) (ms : MetricList) (lines : List mean.Linear) (n : ℕ) (rows : List RowForm) → Each (λ l. All HasDenominator (terms_of l)) lines → AreRowsOf views ms lines n rows → Each (IsAmong views) rows
rows-among views ms [] n [] above are = tt
rows-among views ms [] n (r ∷ rows) above are = absurd are
rows-among views ms (l ∷ lines) n [] above are = absurd are
rows-among views ms (l ∷ lines) n (r ∷ rows) above are = (terms-among views (terms_of l) r above.0 are.0.is_row.sum, rows-among views ms lines (n + 1) rows above.1 are.1)

pub format-next : (views : List LiveView) (ms : MetricList) (f : FormatMeaning) (align : Option Align) (d : Direction) (first : ℕ) (c : CompiledLine) → AreOwned views c → IsCompiledFormat views ms f align d first c → IsNextLine views first c
format-next views ms f align d first c owned is = record {
  owned = owned;
  ranks = All-from_recursion FormHasRank c.rows (rows-ranked views ms (lines_of views (parts f align d)) first c.rows is.rows);
  numbers = rows-numbered views ms (lines_of views (parts f align d)) first c.rows is.rows;
  attributes = All-from_recursion (IsAmong views) c.rows (rows-among views ms (lines_of views (parts f align d)) first c.rows (lines-above views (parts f align d)) is.rows);
}
