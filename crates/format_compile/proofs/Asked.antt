-- Rows that are asked for, and the lines for which they stand.
use Rattle.std.proofs.Common.{◌≡◌, ℕ, suc, ◌+◌, ◌<◌, ◌^◌, List, [], ◌∷◌, ◌++◌, length, take, drop, get_or, Option, None, Bool, true, false, ◌||◌, ◌⊎◌, inl, inr, refl, sym, subst, ap, ◌∙◌, arith}
use Rattle.std.proofs.lemmas.Bool.{cases_lt}
use Rattle.std.specs.Option.{option_or}
use Rattle.std.proofs.lemmas.List.{take_more, drop_more, take-append-drop, append_assoc}
use Rattle.std.specs.List.{list_any}
use Rattle.script_text.specs.Meaning.{Linear}
use Rattle.script_text.specs.declared.words.Align.{Align}
use Rattle.vfl_text.specs.declared.parts.Axis.{Axis}
use Rattle.view_tree.specs.Views.{LiveView}
use Rattle.compile_parts.specs.Meaning.{MetricList}
use Rattle.format_compile.specs.Asks.{IsAsk, AreAsks, IsUsableAsked, IsWrongAsked}
use Rattle.format_compile.specs.FormatParts.{Part, View, Bar, Asks}
use Rattle.format_compile.specs.FormatLines.{lines_of, part_views, parts_views}
use Rattle.format_compile.specs.FormatRefusals.{HaveRanks, lacks_parent, has_view_space, unknown_part, unknown_parts}
use Rattle.format_compile.specs.FormatRows.{AreRowsOf}
use Rattle.format_compile.specs.FormatViews.{part_view, parts_view}
use Rattle.format_compile.specs.declared.parts.Part as code
use Rattle.format_compile.proofs.Numbered.{rest_at}
use Rattle.format_compile.specs.FormatStops.{IsPastNumbers, IsUsableFormat, IsWrongFormat}
use Rattle.format_compile.specs.declared.asks.Ask.{Ask}
use Rattle.format_compile.specs.declared.asks.Asked.{Asked}
use Rattle.compile_parts.specs.declared.stops.KindWord.{KindWord}
use Rattle.compile_parts.specs.declared.stops.KindWord.TheVariants as kind

pub asks_long : (views : List LiveView) (metrics : MetricList) (lines : List Linear) (asks : List Ask) → AreAsks views metrics lines asks → length asks ≡ length lines
asks_long views metrics [] [] are = refl
asks_long views metrics [] (a ∷ asks) are = absurd are
asks_long views metrics (l ∷ lines) [] are = absurd are
asks_long views metrics (l ∷ lines) (a ∷ asks) are = ap suc (asks_long views metrics lines asks are.1)

pub asks_append : (views : List LiveView) (metrics : MetricList) (lines more : List Linear) (asks others : List Ask) → AreAsks views metrics lines asks → AreAsks views metrics more others → AreAsks views metrics (lines ++ more) (asks ++ others)
asks_append views metrics [] more [] others are rest = rest
asks_append views metrics [] more (a ∷ asks) others are rest = absurd are
asks_append views metrics (l ∷ lines) more [] others are rest = absurd are
asks_append views metrics (l ∷ lines) more (a ∷ asks) others are rest = (are.0, asks_append views metrics lines more asks others are.1 rest)

-- the line of one among them
pub record HasLine (views : List LiveView) (metrics : MetricList) (lines : List Linear) (asks : List Ask) (a : Ask) : Type 0 where
  pub before : List Linear
  pub line : Linear
  pub behind : List Linear
  pub whole : lines ≡ before ++ line ∷ behind
  pub are : AreAsks views metrics before asks
  pub is : IsAsk views metrics line a

pub line_at : (views : List LiveView) (metrics : MetricList) (lines : List Linear) (asks others : List Ask) (a : Ask) → AreAsks views metrics lines (asks ++ a ∷ others) → HasLine views metrics lines asks a
line_at views metrics [] [] others a are = absurd are
line_at views metrics [] (x ∷ asks) others a are = absurd are
line_at views metrics (l ∷ lines) [] others a are = record { before = []; line = l; behind = lines; whole = refl; are = tt; is = are.0 }
line_at views metrics (l ∷ lines) (x ∷ asks) others a are =
    let rest : HasLine views metrics lines asks a = line_at views metrics lines asks others a are.1 in
    record { before = l ∷ rest.before; line = rest.line; behind = rest.behind; whole = ap (λ (ls : List Linear). l ∷ ls) rest.whole; are = (are.0, rest.are); is = rest.is }

-- the line of the one at a place
pub line_of_place : (views : List LiveView) (metrics : MetricList) (lines : List Linear) (asks : List Ask) (i : ℕ) (a : Ask) → i < length asks → a ≡ get_or asks i a → AreAsks views metrics lines asks → HasLine views metrics lines (take i asks) a
line_of_place views metrics lines asks i a within is are =
    line_at views metrics lines (take i asks) (drop (i + 1) asks) a (subst (AreAsks views metrics lines) whole are)
  where
    whole : asks ≡ take i asks ++ a ∷ drop (i + 1) asks
    whole = sym (take-append-drop i asks) ∙ ap (λ (xs : List Ask). take i asks ++ xs) (drop_more asks i a within ∙ ap (λ (x : Ask). x ∷ drop (i + 1) asks) (sym is))

-- the last line of some
pub line_of_last : (views : List LiveView) (metrics : MetricList) (lines : List Linear) (asks : List Ask) (i : ℕ) (a : Ask) → i < length asks → a ≡ get_or asks i a → AreAsks views metrics lines (take (i + 1) asks)
    → (before : List Linear) × (l : Linear) × (lines ≡ before ++ l ∷ []) × AreAsks views metrics before (take i asks) × IsAsk views metrics l a
line_of_last views metrics lines asks i a within is are =
    last lines (take i asks) (subst (AreAsks views metrics lines) (take_more asks i a within ∙ ap (λ (x : Ask). take i asks ++ x ∷ []) (sym is)) are)
  where
    last : (ls : List Linear) (xs : List Ask) → AreAsks views metrics ls (xs ++ a ∷ []) → (before : List Linear) × (l : Linear) × (ls ≡ before ++ l ∷ []) × AreAsks views metrics before xs × IsAsk views metrics l a
    last [] [] of = absurd of
    last [] (x ∷ xs) of = absurd of
    last (l ∷ []) [] of = ([], l, refl, tt, of.0)
    last (l ∷ (m ∷ ls)) [] of = absurd of.1
    last (l ∷ ls) (x ∷ xs) of =
        let rest = last ls xs of.1 in
        (l ∷ rest.0, rest.1, ap (λ (ms : List Linear). l ∷ ms) rest.2, (of.0, rest.3), rest.4)

-- each part whose row is there has a rank
pub have_ranks : (views : List LiveView) (metrics : MetricList) (ps : List Part) (asks : List Ask) → AreAsks views metrics (lines_of views ps) asks → HaveRanks views metrics ps
have_ranks views metrics [] asks are = tt
have_ranks views metrics (View name ∷ ps) asks are = (tt, have_ranks views metrics ps asks are)
have_ranks views metrics (Bar name ∷ ps) asks are = (tt, have_ranks views metrics ps asks are)
have_ranks views metrics (Asks span pred ∷ ps) [] are = absurd are
have_ranks views metrics (Asks span pred ∷ ps) (a ∷ asks) are = ((a.rank, are.0.rank), have_ranks views metrics ps asks are.1)

pub no_asks : (views : List LiveView) (metrics : MetricList) (lines : List Linear) (first : ℕ) → AreAsks views metrics lines [] → AreRowsOf views metrics lines first []
no_asks views metrics [] first are = tt
no_asks views metrics (l ∷ lines) first are = absurd are

-- ---- one part more

pub known_more : (views : List LiveView) (metrics : MetricList) (ps : List code.Part) (i : ℕ) (d : code.Part) → i < length ps → unknown_part views metrics (part_view (get_or ps i d)) ≡ None
    → unknown_parts views metrics (parts_view (drop i ps)) ≡ unknown_parts views metrics (parts_view ps) → unknown_parts views metrics (parts_view (drop (i + 1) ps)) ≡ unknown_parts views metrics (parts_view ps)
known_more views metrics ps i d within here before =
    sym (ap (unknown_parts views metrics) (rest_at ps i d within) ∙ ap (λ (o : Option (List ℕ)). option_or o (unknown_parts views metrics (parts_view (drop (i + 1) ps)))) here) ∙ before

pub views_more : (views : List LiveView) (ps : List code.Part) (i : ℕ) (d : code.Part) (old new more : List ℕ) → i < length ps → new ≡ old ++ more → more ≡ part_views views (part_view (get_or ps i d))
    → old ++ parts_views views (parts_view (drop i ps)) ≡ parts_views views (parts_view ps) → new ++ parts_views views (parts_view (drop (i + 1) ps)) ≡ parts_views views (parts_view ps)
views_more views ps i d old new more within pushed here before =
    ap (λ (xs : List ℕ). xs ++ parts_views views (parts_view (drop (i + 1) ps))) pushed
    ∙ append_assoc old more (parts_views views (parts_view (drop (i + 1) ps)))
    ∙ ap (λ (xs : List ℕ). old ++ (xs ++ parts_views views (parts_view (drop (i + 1) ps)))) here
    ∙ sym (ap (λ (qs : List Part). old ++ parts_views views qs) (rest_at ps i d within)) ∙ before

or_assoc : (a b c : Bool) → ((a || b) || c) ≡ (a || (b || c))
or_assoc true b c = refl
or_assoc false b c = refl

pub any_more : (test : Part → Bool) (ps : List code.Part) (i : ℕ) (d : code.Part) (old new more : Bool) → i < length ps → new ≡ (old || more) → more ≡ test (part_view (get_or ps i d))
    → (old || list_any test (parts_view (drop i ps))) ≡ list_any test (parts_view ps) → (new || list_any test (parts_view (drop (i + 1) ps))) ≡ list_any test (parts_view ps)
any_more test ps i d old new more within pushed here before =
    ap (λ (b : Bool). b || list_any test (parts_view (drop (i + 1) ps))) pushed
    ∙ or_assoc old more (list_any test (parts_view (drop (i + 1) ps)))
    ∙ ap (λ (b : Bool). old || (b || list_any test (parts_view (drop (i + 1) ps)))) here
    ∙ sym (ap (λ (qs : List Part). old || list_any test qs) (rest_at ps i d within)) ∙ before

pub either : (a b : Bool) → (a || b) ≡ true → (a ≡ true) ⊎ (b ≡ true)
either true b any = inl refl
either false b any = inr any

-- ---- uses

pub usable : (views : List LiveView) (metrics : MetricList) (axis : Axis) (align : Option Align) (ps : List Part) (a : Asked) → unknown_parts views metrics ps ≡ None → a.lacks_parent ≡ list_any (lacks_parent views) ps → a.has_view_space ≡ list_any (has_view_space views) ps
    → (a.lacks_rank ≡ false → AreAsks views metrics (lines_of views ps) a.rows.items) → IsUsableAsked axis align a → IsUsableFormat views metrics axis align ps
usable views metrics axis align ps a known parent space asks is = record {
  known = known;
  across = is.across;
  parents = sym parent ∙ is.parents;
  numbers = sym space ∙ is.numbers;
  ranks = have_ranks views metrics ps a.rows.items (asks is.ranks);
}

-- a wrong use of what was looked up is one of the format
pub wrong : (views : List LiveView) (metrics : MetricList) (axis : Axis) (align : Option Align) (ps : List Part) (a : Asked) (word : KindWord) → a.lacks_parent ≡ list_any (lacks_parent views) ps → a.has_view_space ≡ list_any (has_view_space views) ps
    → (a.lacks_rank ≡ true → HaveRanks views metrics ps → ⊥) → IsWrongAsked axis align a word → IsWrongFormat views metrics axis align ps word
wrong views metrics axis align ps a kind.Align parent space ranks is = is
wrong views metrics axis align ps a kind.Parent parent space ranks is = (is.0, sym parent ∙ is.1)
wrong views metrics axis align ps a kind.Object parent space ranks is = (is.0, sym parent ∙ is.1, sym space ∙ is.2)
wrong views metrics axis align ps a kind.Priority parent space ranks is = (is.0, sym parent ∙ is.1, sym space ∙ is.2, ranks is.3)
wrong views metrics axis align ps a kind.Weight parent space ranks is = absurd is
wrong views metrics axis align ps a kind.Window parent space ranks is = absurd is
wrong views metrics axis align ps a kind.Suggested parent space ranks is = absurd is
wrong views metrics axis align ps a kind.Sized parent space ranks is = absurd is
wrong views metrics axis align ps a kind.Tree parent space ranks is = absurd is
wrong views metrics axis align ps a kind.Sweep parent space ranks is = absurd is

-- no row's number is past the last one
pub below_limit : (first count i : ℕ) → (IsPastNumbers first count → ⊥) → i < count → first + i < 2 ^ 31
below_limit first count i never within = elim (cases_lt (2 ^ 31) (first + count)) [
  | inl past ↦ absurd (never (record { some = omega (arith, within); past = past }))
  | inr most ↦ omega (arith, within, most)
]
