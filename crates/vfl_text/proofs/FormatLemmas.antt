-- The reader of each part of a format answers by the grammar.
use Rattle.std.proofs.Common.{◌≡◌, ℕ, pos, ◌<◌, ◌≤◌, Bool, true, false, List, [], ◌∷◌, ◌++◌, length, Option, Some, None, Result, Ok, Err, refl, subst, arith}
use Rattle.std.specs.Prelude.{neg_ℤ, if◌then◌else◌}
use Rattle.std.proofs.lemmas.Bool.Decides.{nat_tests}
use Rattle.problem_core.specs.declared.parts.Rel as relation
use Rattle.problem_core.specs.declared.parts.Rel.TheVariants as rel
use Rattle.span_text.specs.Language.{Rel, Or, End, Words, Answers}
use Rattle.span_text.specs.Classes.{is_space, is_digit, is_letter, is_word}
use Rattle.span_text.specs.Reading.{◌>>=◌, starts}
use Rattle.span_text.specs.Tokens.{Blanks, Sign, Name, Number, skip, sign_at}
use Rattle.span_text.specs.Loops.{Loop, loop_at}
use Rattle.span_text.specs.Objects as object
use Rattle.span_text.specs.Objects.{Meant}
use Rattle.span_text.proofs.PieceLemmas.{Lives, begins, Only, Never, or_answers, end_answers}
use Rattle.span_text.proofs.WordsLemmas.{words_answers, tried_reads}
use Rattle.span_text.proofs.TokensLemmas.{words_never, bind_assoc, bind_cond, end_lives, blanks_lives, sign_lives, name_lives, number_lives, left_lives, right_lives, blanks_answers, sign_answers, name_answers, number_answers, lit_only, lit_never, one_only, one_never, or_only, or_never, end_never, words_only}
use Rattle.span_text.proofs.Factors.{blanks_never}
use Rattle.span_text.proofs.Loops.LoopLemmas.{loop_answers}
use Rattle.span_text.proofs.Loops.BoundedLoops.{bounded_answers, bounded_loop_lives}
use Rattle.vfl_text.specs.declared.parts.Axis.{Axis}
use Rattle.vfl_text.specs.declared.parts.Axis.TheVariants as axis
use Rattle.vfl_text.specs.Formats.{PredMeaning, SpacingMeaning, Flush, Standard, Given, ItemMeaning, FormatMeaning}
use Rattle.vfl_text.specs.Grammar.{relations, axes, Value, Object, pred, Priority, Ruled, Pred, PredRound, Preds, item, View, single, Spaced, Connection, with_item, with_end, Next, Round, Orientation, FromParent, started, FormatText}
use Rattle.vfl_text.specs.Reading.{is_minus, is_at, is_comma, is_compare, is_list, is_view, is_bar, is_joined, is_more, is_axis, with_rest, value_at, object_at, priority_at, ruled_at, pred_at, pred_round_at, preds_at, item_at, spaced_at, spacing_at, next_at, round_at, orientation_at, from_parent_at, format_at}
use Rattle.vfl_text.proofs.OnceLemmas.{once_pred_round, once_round}

-- what a value may begin with
value_never : {A : Type 0} (F : Meant → Rel A) (d : ℕ → Bool) → ((b : ℕ) → is_word b ≡ true → d b ≡ false) → Never d (Value F)
value_never F d h = or_never d (Name (λ n. F (object.Name n))) (Number (λ n. F (object.Number (pos n))))
    (one_never is_letter _ d (λ b l. h b (letter_word b l))) (one_never is_digit _ d (λ b l. h b (digit_word b l)))
  where
    letter_word : (b : ℕ) → is_letter b ≡ true → is_word b ≡ true
    letter_word b l = grind (arith, nat_tests)

    digit_word : (b : ℕ) → is_digit b ≡ true → is_word b ≡ true
    digit_word b l = grind (arith, nat_tests)

value_only : {A : Type 0} (F : Meant → Rel A) → Only is_word (Value F)
value_only F = or_only is_word (Name (λ n. F (object.Name n))) (Number (λ n. F (object.Number (pos n))))
    (one_only is_letter _ is_word (λ b l. letter_word b l)) (one_only is_digit _ is_word (λ b l. digit_word b l))
  where
    letter_word : (b : ℕ) → is_letter b ≡ true → is_word b ≡ true
    letter_word b l = grind (arith, nat_tests)

    digit_word : (b : ℕ) → is_digit b ≡ true → is_word b ≡ true
    digit_word b l = grind (arith, nat_tests)

pub digit_no_letter : (b : ℕ) → is_digit b ≡ true → is_letter b ≡ false
digit_no_letter b h = grind (arith, nat_tests)

word_no_minus : (b : ℕ) → is_word b ≡ true → is_minus b ≡ false
word_no_minus b h = grind (arith, nat_tests)

word_no_compare : (b : ℕ) → is_word b ≡ true → is_compare b ≡ false
word_no_compare b h = grind (arith, nat_tests)

word_no_list : (b : ℕ) → is_word b ≡ true → is_list b ≡ false
word_no_list b h = grind (arith, nat_tests)

-- a text of the first class is outside the second
only_never : {A : Type 0} (c d : ℕ → Bool) (F : Rel A) → ((b : ℕ) → c b ≡ true → d b ≡ false) → Only c F → Never d F
only_never c d F apart only [] v h = refl
only_never c d F apart only (b ∷ s) v h = apart b (only (b ∷ s) v h)

value_lives : {A : Type 0} {F : Meant → Rel A} → ((o : Meant) → Lives is_space (F o)) → Lives is_space (Value F)
value_lives {F} lives = left_lives is_space (Number (λ n. F (object.Number (pos n)))) (name_lives is_space refl (λ n. lives (object.Name n)))

value_answers : {A : Type 0} (F : Meant → Rel A) (k : Meant → List ℕ → Result A ℕ) → ((o : Meant) → Lives is_space (F o)) → (s : List ℕ) → ((o : Meant) (t : List ℕ) → length t < length s → Answers (F o) t (k o t)) → Answers (Value F) s (value_at s >>= λ r. k r.0 r.1)
unfolding value_at
value_answers F k lives s goes = rw bind_cond (or_answers is_letter (Name (λ n. F (object.Name n))) (Number (λ n. F (object.Number (pos n)))) _ _
    (one_only is_letter _ is_letter (λ b h. h)) (one_never is_digit _ is_letter digit_no_letter) (begins (value_lives lives)) s
    (rw bind_assoc (name_answers (λ n. F (object.Name n)) (λ n t. k (object.Name n) t) (λ n. lives (object.Name n)) s (λ n t i. goes (object.Name n) t i)))
    (rw bind_assoc (number_answers (λ n. F (object.Number (pos n))) (λ n t. k (object.Number (pos n)) t) (λ n. lives (object.Number (pos n))) s (λ n t i. goes (object.Number (pos n)) t i))))

object_lives : {A : Type 0} {F : Meant → Rel A} → ((o : Meant) → Lives is_space (F o)) → Lives is_space (Object F)
object_lives {F} lives = right_lives is_space (Sign 45 (Number (λ n. F (object.Number (neg_ℤ (pos n)))))) (value_lives lives)

object_answers : {A : Type 0} (F : Meant → Rel A) (k : Meant → List ℕ → Result A ℕ) → ((o : Meant) → Lives is_space (F o)) → (s : List ℕ) → ((o : Meant) (t : List ℕ) → length t < length s → Answers (F o) t (k o t)) → Answers (Object F) s (object_at s >>= λ r. k r.0 r.1)
unfolding object_at
object_answers F k lives s goes = rw bind_cond (or_answers is_minus (Sign 45 (Number (λ n. F (object.Number (neg_ℤ (pos n)))))) (Value F) _ _
    (lit_only _ is_minus 45 [] refl) (value_never F is_minus word_no_minus) (begins (object_lives lives)) s
    (rw bind_assoc (sign_answers 45 (Number (λ n. F (object.Number (neg_ℤ (pos n))))) _ refl (number_lives is_space refl (λ n. lives (object.Number (neg_ℤ (pos n))))) s
    (λ t i. rw bind_assoc (number_answers (λ n. F (object.Number (neg_ℤ (pos n)))) (λ n u. k (object.Number (neg_ℤ (pos n))) u) (λ n. lives (object.Number (neg_ℤ (pos n)))) t (λ n u j. goes (object.Number (neg_ℤ (pos n))) u (omega arith))))))
    (value_answers F k lives s goes))

module _ {A : Type 0} (F : PredMeaning → Rel A) (k : PredMeaning → List ℕ → Result A ℕ) (lives : (p : PredMeaning) → Lives is_space (F p)) (apart : (p : PredMeaning) → Never is_at (F p)) where
  priority_lives : (r : relation.Rel) (o : Meant) → Lives is_space (Priority r o F)
  priority_lives r o = right_lives is_space (Sign 64 (Value (λ p. F (pred r o (Some p))))) (lives (pred r o None))

  priority_answers : (r : relation.Rel) (o : Meant) (s : List ℕ) → ((p : PredMeaning) (t : List ℕ) → length t ≤ length s → Answers (F p) t (k p t)) → Answers (Priority r o F) s (priority_at r o s >>= λ r. k r.0 r.1)
  unfolding priority_at
  priority_answers r o s goes = rw bind_cond (or_answers is_at (Sign 64 (Value (λ p. F (pred r o (Some p))))) (F (pred r o None)) _ _
      (lit_only _ is_at 64 [] refl) (apart (pred r o None)) (begins (priority_lives r o)) s
      (rw bind_assoc (sign_answers 64 (Value (λ p. F (pred r o (Some p)))) _ refl (value_lives (λ p. lives (pred r o (Some p)))) s
      (λ t i. rw bind_assoc (value_answers (λ p. F (pred r o (Some p))) (λ p u. k (pred r o (Some p)) u) (λ p. lives (pred r o (Some p))) t (λ p u j. goes (pred r o (Some p)) u (omega arith))))))
      (goes (pred r o None) s (omega arith)))

  ruled_lives : (r : relation.Rel) → Lives is_space (Ruled r F)
  ruled_lives r = object_lives (λ o. priority_lives r o)

  ruled_answers : (r : relation.Rel) (s : List ℕ) → ((p : PredMeaning) (t : List ℕ) → length t < length s → Answers (F p) t (k p t)) → Answers (Ruled r F) s (ruled_at r s >>= λ r. k r.0 r.1)
  unfolding ruled_at
  ruled_answers r s goes = rw bind_assoc (object_answers (λ o. Priority r o F) (λ o t. priority_at r o t >>= λ r. k r.0 r.1) (λ o. priority_lives r o) s
      (λ o t i. priority_answers r o t (λ p u j. goes p u (omega arith))))

  ruled_never : (r : relation.Rel) (d : ℕ → Bool) → d 45 ≡ false → ((b : ℕ) → is_word b ≡ true → d b ≡ false) → Never d (Ruled r F)
  ruled_never r d e h = or_never d (Sign 45 (Number (λ n. Priority r (object.Number (neg_ℤ (pos n))) F))) (Value (λ o. Priority r o F)) (lit_never _ d 45 [] e) (value_never (λ o. Priority r o F) d h)

  pred_lives : Lives is_space (Pred F)
  pred_lives = right_lives is_space (Words relations (λ r. Blanks (Ruled r F))) (ruled_lives rel.Eq)

  pred_answers : (s : List ℕ) → ((p : PredMeaning) (t : List ℕ) → length t < length s → Answers (F p) t (k p t)) → Answers (Pred F) s (pred_at s >>= λ r. k r.0 r.1)
  unfolding pred_at
  pred_answers s goes = rw (bind_cond, tried_reads s relations refl) (or_answers is_compare (Words relations (λ r. Blanks (Ruled r F))) (Ruled rel.Eq F) _ _
      (words_only (λ r. Blanks (Ruled r F)) is_compare relations refl) (ruled_never rel.Eq is_compare refl word_no_compare) (begins pred_lives) s
      (rw bind_assoc (words_answers (λ r. Blanks (Ruled r F)) (λ r t. ruled_at r (skip t) >>= λ r. k r.0 r.1) (λ r. begins (blanks_lives is_word refl (ruled_lives r))) s
      (λ r t i. blanks_answers (Ruled r F) (λ u. ruled_at r u >>= λ r. k r.0 r.1) (ruled_lives r) t (λ u j. ruled_answers r u (λ p w h. goes p w (omega arith)))) _ _ refl refl))
      (ruled_answers rel.Eq s goes))

-- a list of predicates
module _ {A : Type 0} (F : List PredMeaning → Rel A) (k : List PredMeaning → List ℕ → Result A ℕ) (lives : (ps : List PredMeaning) → Lives is_space (F ps)) where
  pred_end_lives : (G : List PredMeaning → Rel A) (ps : List PredMeaning) (p : PredMeaning) → Lives is_space (Or (Sign 44 (G (ps ++ p ∷ []))) (Sign 41 (F (ps ++ p ∷ []))))
  pred_end_lives G ps p = right_lives is_space (Sign 44 (G (ps ++ p ∷ []))) (sign_lives is_space 41 refl refl (lives (ps ++ p ∷ [])))

  pred_end_apart : (G : List PredMeaning → Rel A) (ps : List PredMeaning) (p : PredMeaning) → Never is_at (Or (Sign 44 (G (ps ++ p ∷ []))) (Sign 41 (F (ps ++ p ∷ []))))
  pred_end_apart G ps p = or_never is_at (Sign 44 (G (ps ++ p ∷ []))) (Sign 41 (F (ps ++ p ∷ []))) (lit_never _ is_at 44 [] refl) (lit_never _ is_at 41 [] refl)

  pred_round_lives : (G : List PredMeaning → Rel A) (ps : List PredMeaning) → Lives is_space (PredRound F G ps)
  pred_round_lives G ps = pred_lives (λ p. Or (Sign 44 (G (ps ++ p ∷ []))) (Sign 41 (F (ps ++ p ∷ [])))) (λ p t. Err 0) (pred_end_lives G ps) (pred_end_apart G ps)

  pred_round_answers : (G : List PredMeaning → Rel A) (g : List PredMeaning → List ℕ → Result (List PredMeaning × List ℕ) ℕ) → ((ps : List PredMeaning) → Lives is_space (G ps)) → (ps : List PredMeaning) (s : List ℕ)
      → ((qs : List PredMeaning) (t : List ℕ) → length t < length s → Answers (G qs) t (g qs t >>= λ r. k r.0 r.1)) → ((qs : List PredMeaning) (t : List ℕ) → length t < length s → Answers (F qs) t (k qs t))
      → Answers (PredRound F G ps) s (pred_round_at g ps s >>= λ r. k r.0 r.1)
  unfolding pred_round_at
  pred_round_answers G g alive ps s more goes = rw bind_assoc (pred_answers (λ p. Or (Sign 44 (G (ps ++ p ∷ []))) (Sign 41 (F (ps ++ p ∷ []))))
      (λ p t. (if starts is_comma t then sign_at 44 t >>= g (ps ++ p ∷ []) else sign_at 41 t >>= with_rest (ps ++ p ∷ [])) >>= λ r. k r.0 r.1) (pred_end_lives G ps) (pred_end_apart G ps) s
      (λ p t i. rw bind_cond (or_answers is_comma (Sign 44 (G (ps ++ p ∷ []))) (Sign 41 (F (ps ++ p ∷ []))) _ _
      (lit_only _ is_comma 44 [] refl) (lit_never _ is_comma 41 [] refl) (begins (pred_end_lives G ps p)) t
      (rw bind_assoc (sign_answers 44 (G (ps ++ p ∷ [])) _ refl (alive (ps ++ p ∷ [])) t (λ u j. more (ps ++ p ∷ []) u (omega arith))))
      (rw bind_assoc (sign_answers 41 (F (ps ++ p ∷ [])) _ refl (lives (ps ++ p ∷ [])) t (λ u j. goes (ps ++ p ∷ []) u (omega arith)))))))

  preds_lives : Lives is_space (Preds F)
  preds_lives = sign_lives is_space 40 refl refl (bounded_loop_lives (PredRound F) pred_round_lives [])

  preds_answers : (s : List ℕ) → ((ps : List PredMeaning) (t : List ℕ) → length t < length s → Answers (F ps) t (k ps t)) → Answers (Preds F) s (preds_at s >>= λ r. k r.0 r.1)
  unfolding preds_at
  preds_answers s goes = rw bind_assoc (sign_answers 40 (Loop (PredRound F) []) _ refl (bounded_loop_lives (PredRound F) pred_round_lives []) s
      (λ t i. bounded_answers (PredRound F) pred_round_at (λ r. k r.0 r.1) (once_pred_round F) pred_round_lives (length t)
      (λ G g alive ps u j more. pred_round_answers G g alive ps u more (λ qs w h. goes qs w (omega arith))) [] t (omega arith)))

-- a view in brackets
module _ {A : Type 0} (F : ItemMeaning → Rel A) (k : ItemMeaning → List ℕ → Result A ℕ) (lives : (i : ItemMeaning) → Lives is_space (F i)) where
  sizes_lives : (n : List ℕ) → Lives is_space (Or (Preds (λ ps. Sign 93 (F (item n ps)))) (Sign 93 (F (item n []))))
  sizes_lives n = right_lives is_space (Preds (λ ps. Sign 93 (F (item n ps)))) (sign_lives is_space 93 refl refl (lives (item n [])))

  view_lives : Lives is_space (View F)
  view_lives = sign_lives is_space 91 refl refl (name_lives is_space refl sizes_lives)

  item_answers : (s : List ℕ) → ((i : ItemMeaning) (t : List ℕ) → length t < length s → Answers (F i) t (k i t)) → Answers (View F) s (item_at s >>= λ r. k r.0 r.1)
  unfolding item_at
  item_answers s goes = rw bind_assoc (sign_answers 91 (Name (λ n. Or (Preds (λ ps. Sign 93 (F (item n ps)))) (Sign 93 (F (item n []))))) _ refl (name_lives is_space refl sizes_lives) s
      (λ t i. rw bind_assoc (name_answers (λ n. Or (Preds (λ ps. Sign 93 (F (item n ps)))) (Sign 93 (F (item n []))))
      (λ n u. (if starts is_list u then preds_at u >>= (λ p. sign_at 93 p.1 >>= with_rest (item n p.0)) else sign_at 93 u >>= with_rest (item n [])) >>= λ r. k r.0 r.1) sizes_lives t
      (λ n u j. rw bind_cond (or_answers is_list (Preds (λ ps. Sign 93 (F (item n ps)))) (Sign 93 (F (item n []))) _ _
      (lit_only _ is_list 40 [] refl) (lit_never _ is_list 93 [] refl) (begins (sizes_lives n)) u
      (rw bind_assoc (preds_answers (λ ps. Sign 93 (F (item n ps))) (λ ps w. (sign_at 93 w >>= with_rest (item n ps)) >>= λ r. k r.0 r.1) (λ ps. sign_lives is_space 93 refl refl (lives (item n ps))) u
      (λ ps w h. rw bind_assoc (sign_answers 93 (F (item n ps)) _ refl (lives (item n ps)) w (λ x g. goes (item n ps) x (omega arith))))))
      (rw bind_assoc (sign_answers 93 (F (item n [])) _ refl (lives (item n [])) u (λ x g. goes (item n []) x (omega arith)))))))))

joined_no_list : (b : ℕ) → is_joined b ≡ true → is_list b ≡ false
joined_no_list b h = grind (arith, nat_tests)

joined_no_word : (b : ℕ) → is_joined b ≡ true → is_word b ≡ false
joined_no_word b h = grind (arith, nat_tests)

joined_no_minus : (b : ℕ) → is_joined b ≡ true → is_minus b ≡ false
joined_no_minus b h = grind (arith, nat_tests)

joined_more : (b : ℕ) → is_joined b ≡ true → is_more b ≡ true
joined_more b h = grind (arith, nat_tests)

-- a connection, behind which a view or the parent stands
module _ {A : Type 0} (F : SpacingMeaning → Rel A) (k : SpacingMeaning → List ℕ → Result A ℕ) (lives : (g : SpacingMeaning) → Lives is_space (F g)) (joined : (g : SpacingMeaning) → Only is_joined (F g)) where
  simple_lives : Lives is_space (Or (Value (λ o. Sign 45 (F (Given (single o))))) (F Standard))
  simple_lives = right_lives is_space (Value (λ o. Sign 45 (F (Given (single o))))) (lives Standard)

  spaced_lives : Lives is_space (Spaced F)
  spaced_lives = right_lives is_space (Preds (λ ps. Sign 45 (F (Given ps)))) simple_lives

  spaced_answers : (s : List ℕ) → ((g : SpacingMeaning) (t : List ℕ) → length t ≤ length s → Answers (F g) t (k g t)) → Answers (Spaced F) s (spaced_at s >>= λ r. k r.0 r.1)
  unfolding spaced_at
  spaced_answers s goes = rw (bind_cond, bind_cond) (or_answers is_list (Preds (λ ps. Sign 45 (F (Given ps)))) (Or (Value (λ o. Sign 45 (F (Given (single o))))) (F Standard)) _ _
      (lit_only _ is_list 40 [] refl)
      (or_never is_list (Value (λ o. Sign 45 (F (Given (single o))))) (F Standard) (value_never (λ o. Sign 45 (F (Given (single o)))) is_list word_no_list) (only_never is_joined is_list (F Standard) joined_no_list (joined Standard)))
      (begins spaced_lives) s
      (rw bind_assoc (preds_answers (λ ps. Sign 45 (F (Given ps))) (λ ps t. (sign_at 45 t >>= with_rest (Given ps)) >>= λ r. k r.0 r.1) (λ ps. sign_lives is_space 45 refl refl (lives (Given ps))) s
      (λ ps t i. rw bind_assoc (sign_answers 45 (F (Given ps)) _ refl (lives (Given ps)) t (λ u j. goes (Given ps) u (omega arith))))))
      (or_answers is_word (Value (λ o. Sign 45 (F (Given (single o))))) (F Standard) _ _
      (value_only (λ o. Sign 45 (F (Given (single o))))) (only_never is_joined is_word (F Standard) joined_no_word (joined Standard)) (begins simple_lives) s
      (rw bind_assoc (value_answers (λ o. Sign 45 (F (Given (single o)))) (λ o t. (sign_at 45 t >>= with_rest (Given (single o))) >>= λ r. k r.0 r.1) (λ o. sign_lives is_space 45 refl refl (lives (Given (single o)))) s
      (λ o t i. rw bind_assoc (sign_answers 45 (F (Given (single o))) _ refl (lives (Given (single o))) t (λ u j. goes (Given (single o)) u (omega arith))))))
      (goes Standard s (omega arith))))

  connection_lives : Lives is_space (Connection F)
  connection_lives = right_lives is_space (Sign 45 (Spaced F)) (lives Flush)

  spacing_at_answers : (s : List ℕ) → ((g : SpacingMeaning) (t : List ℕ) → length t ≤ length s → Answers (F g) t (k g t)) → Answers (Connection F) s (spacing_at s >>= λ r. k r.0 r.1)
  unfolding spacing_at
  spacing_at_answers s goes = rw bind_cond (or_answers is_minus (Sign 45 (Spaced F)) (F Flush) _ _
      (lit_only _ is_minus 45 [] refl) (only_never is_joined is_minus (F Flush) joined_no_minus (joined Flush)) (begins connection_lives) s
      (rw bind_assoc (sign_answers 45 (Spaced F) _ refl spaced_lives s (λ t i. spaced_answers t (λ g u j. goes g u (omega arith)))))
      (goes Flush s (omega arith)))

  connection_only : Only is_more (Connection F)
  connection_only = or_only is_more (Sign 45 (Spaced F)) (F Flush) (lit_only _ is_more 45 [] refl) (λ s v h. only_more s v (joined Flush s v h))
    where
      only_more : (s : List ℕ) (v : A) → starts is_joined s ≡ true → starts is_more s ≡ true
      only_more [] v h = h
      only_more (b ∷ s) v h = joined_more b h

-- the views behind the first one
next_lives : (G : FormatMeaning → Rel FormatMeaning) (f : FormatMeaning) (g : SpacingMeaning) → Lives is_space (Next G f g)
next_lives G f g = right_lives is_space (View (λ i. G (with_item f g i))) (sign_lives is_space 124 refl refl (end_lives is_space (with_end f g)))

next_joined : (G : FormatMeaning → Rel FormatMeaning) (f : FormatMeaning) (g : SpacingMeaning) → Only is_joined (Next G f g)
next_joined G f g = or_only is_joined (View (λ i. G (with_item f g i))) (Sign 124 (End (with_end f g))) (lit_only _ is_joined 91 [] refl) (lit_only _ is_joined 124 [] refl)

round_lives : (G : FormatMeaning → Rel FormatMeaning) (f : FormatMeaning) → Lives is_space (Round G f)
round_lives G f = right_lives is_space (Connection (λ g. Next G f g)) (end_lives is_space f)

bind_right : {A : Type 0} (r : Result A ℕ) → (r >>= λ v. Ok v) ≡ r
bind_right (Ok x) = refl
bind_right (Err m) = refl

module _ (G : FormatMeaning → Rel FormatMeaning) (k : FormatMeaning → List ℕ → Result FormatMeaning ℕ) (lives : (f : FormatMeaning) → Lives is_space (G f)) where
  next_answers : (f : FormatMeaning) (g : SpacingMeaning) (s : List ℕ) → ((h : FormatMeaning) (t : List ℕ) → length t < length s → Answers (G h) t (k h t)) → Answers (Next G f g) s (next_at k f g s)
  unfolding next_at
  next_answers f g s goes = or_answers is_view (View (λ i. G (with_item f g i))) (Sign 124 (End (with_end f g))) _ _
      (lit_only _ is_view 91 [] refl) (lit_never _ is_view 124 [] refl) (begins (next_lives G f g)) s
      (item_answers (λ i. G (with_item f g i)) (λ i t. k (with_item f g i) t) (λ i. lives (with_item f g i)) s (λ i t j. goes (with_item f g i) t j))
      (sign_answers 124 (End (with_end f g)) _ refl (end_lives is_space (with_end f g)) s (λ t i. end_answers (with_end f g) t))

  round_answers : (f : FormatMeaning) (s : List ℕ) → ((h : FormatMeaning) (t : List ℕ) → length t < length s → Answers (G h) t (k h t)) → Answers (Round G f) s (round_at k f s)
  unfolding round_at
  round_answers f s goes = or_answers is_more (Connection (λ g. Next G f g)) (End f) _ _
      (connection_only (λ g. Next G f g) (λ g t. next_at k f g t) (λ g. next_lives G f g) (λ g. next_joined G f g)) (end_never is_more f) (begins (round_lives G f)) s
      (spacing_at_answers (λ g. Next G f g) (λ g t. next_at k f g t) (λ g. next_lives G f g) (λ g. next_joined G f g) s (λ g t i. next_answers f g t (λ h u j. goes h u (omega arith))))
      (end_answers f s)

chain_lives : (f : FormatMeaning) → Lives is_space (Loop Round f)
chain_lives f = bounded_loop_lives Round round_lives f

chain_answers : (f : FormatMeaning) (s : List ℕ) → Answers (Loop Round f) s (loop_at round_at f s)
chain_answers f s = subst (λ (r : Result FormatMeaning ℕ). Answers (Loop Round f) s r) (bind_right (loop_at round_at f s)) (loop_answers Round round_at (λ v. Ok v) once_round round_lives
    (λ G g l h t goes. rw bind_right (round_answers G g l h t (λ y u i. rw bind_right at (goes y u i)))) f s)

-- the direction in front
module _ {A : Type 0} (F : Axis → Rel A) (k : Axis → List ℕ → Result A ℕ) (lives : (a : Axis) → Lives is_space (F a)) (apart : Never is_axis (F axis.H)) where
  orientation_lives : Lives is_space (Orientation F)
  orientation_lives = right_lives is_space (Words axes (λ a. Blanks (Sign 58 (F a)))) (lives axis.H)

  orientation_answers : (s : List ℕ) → ((a : Axis) (t : List ℕ) → length t ≤ length s → Answers (F a) t (k a t)) → Answers (Orientation F) s (orientation_at s >>= λ r. k r.0 r.1)
  unfolding orientation_at
  orientation_answers s goes = rw (bind_cond, tried_reads s axes refl) (or_answers is_axis (Words axes (λ a. Blanks (Sign 58 (F a)))) (F axis.H) _ _
      (words_only (λ a. Blanks (Sign 58 (F a))) is_axis axes refl) apart (begins orientation_lives) s
      (rw bind_assoc (words_answers (λ a. Blanks (Sign 58 (F a))) (λ a t. (sign_at 58 (skip t) >>= with_rest a) >>= λ r. k r.0 r.1) (λ a. begins (blanks_lives is_word refl (sign_lives is_space 58 refl refl (lives a)))) s
      (λ a t i. blanks_answers (Sign 58 (F a)) (λ u. (sign_at 58 u >>= with_rest a) >>= λ r. k r.0 r.1) (sign_lives is_space 58 refl refl (lives a)) t
      (λ u j. rw bind_assoc (sign_answers 58 (F a) _ refl (lives a) u (λ w h. goes a w (omega arith))))) _ _ refl refl))
      (goes axis.H s (omega arith)))

-- the parent in front
module _ {A : Type 0} (F : Option SpacingMeaning → Rel A) (k : Option SpacingMeaning → List ℕ → Result A ℕ) (lives : (g : Option SpacingMeaning) → Lives is_space (F g)) (views : (g : Option SpacingMeaning) → Only is_view (F g)) where
  view_joined : (g : Option SpacingMeaning) → Only is_joined (F g)
  view_joined g s v h = view_is_joined s (views g s v h)
    where
      view_is_joined : (s : List ℕ) → starts is_view s ≡ true → starts is_joined s ≡ true
      view_is_joined [] e = e
      view_is_joined (b ∷ s) e = grind (arith, nat_tests)

  from_parent_lives : Lives is_space (FromParent F)
  from_parent_lives = right_lives is_space (Sign 124 (Connection (λ g. F (Some g)))) (lives None)

  from_parent_answers : (s : List ℕ) → ((g : Option SpacingMeaning) (t : List ℕ) → length t ≤ length s → Answers (F g) t (k g t)) → Answers (FromParent F) s (from_parent_at s >>= λ r. k r.0 r.1)
  unfolding from_parent_at
  from_parent_answers s goes = rw bind_cond (or_answers is_bar (Sign 124 (Connection (λ g. F (Some g)))) (F None) _ _
      (lit_only _ is_bar 124 [] refl) (only_never is_view is_bar (F None) view_no_bar (views None)) (begins from_parent_lives) s
      (rw bind_assoc (sign_answers 124 (Connection (λ g. F (Some g))) _ refl (connection_lives (λ g. F (Some g)) (λ g. k (Some g)) (λ g. lives (Some g)) (λ g. view_joined (Some g))) s
      (λ t i. rw bind_assoc (spacing_at_answers (λ g. F (Some g)) (λ g u. k (Some g) u) (λ g. lives (Some g)) (λ g. view_joined (Some g)) t (λ g u j. goes (Some g) u (omega arith))))))
      (goes None s (omega arith)))
    where
      view_no_bar : (b : ℕ) → is_view b ≡ true → is_bar b ≡ false
      view_no_bar b h = grind (arith, nat_tests)

  from_parent_never : Never is_axis (FromParent F)
  from_parent_never = or_never is_axis (Sign 124 (Connection (λ g. F (Some g)))) (F None) (lit_never _ is_axis 124 [] refl) (only_never is_view is_axis (F None) view_no_axis (views None))
    where
      view_no_axis : (b : ℕ) → is_view b ≡ true → is_axis b ≡ false
      view_no_axis b h = grind (arith, nat_tests)

-- the first view and those behind it
first_lives : (a : Axis) (g : Option SpacingMeaning) → Lives is_space (View (λ i. Loop Round (started a g i)))
first_lives a g = view_lives (λ i. Loop Round (started a g i)) (λ i. loop_at round_at (started a g i)) (λ i. chain_lives (started a g i))

first_answers : (a : Axis) (g : Option SpacingMeaning) (s : List ℕ) → Answers (View (λ i. Loop Round (started a g i))) s (item_at s >>= λ i. loop_at round_at (started a g i.0) i.1)
first_answers a g s = item_answers (λ i. Loop Round (started a g i)) (λ i. loop_at round_at (started a g i)) (λ i. chain_lives (started a g i)) s (λ i t j. chain_answers (started a g i) t)

first_views : (a : Axis) (g : Option SpacingMeaning) → Only is_view (View (λ i. Loop Round (started a g i)))
first_views a g = lit_only _ is_view 91 [] refl

body_at : Axis → List ℕ → Result FormatMeaning ℕ
body_at a s = from_parent_at s >>= (λ g. item_at g.1 >>= (λ i. loop_at round_at (started a g.0 i.0) i.1))

body_lives : (a : Axis) → Lives is_space (FromParent (λ g. View (λ i. Loop Round (started a g i))))
body_lives a = from_parent_lives (λ g. View (λ i. Loop Round (started a g i))) (λ g s. item_at s >>= λ i. loop_at round_at (started a g i.0) i.1) (λ g. first_lives a g) (λ g. first_views a g)

body_answers : (a : Axis) (s : List ℕ) → Answers (FromParent (λ g. View (λ i. Loop Round (started a g i)))) s (body_at a s)
unfolding body_at
body_answers a s = from_parent_answers (λ g. View (λ i. Loop Round (started a g i))) (λ g t. item_at t >>= λ i. loop_at round_at (started a g i.0) i.1) (λ g. first_lives a g) (λ g. first_views a g) s (λ g t i. first_answers a g t)

body_never : Never is_axis (FromParent (λ g. View (λ i. Loop Round (started axis.H g i))))
body_never = from_parent_never (λ g. View (λ i. Loop Round (started axis.H g i))) (λ g s. item_at s >>= λ i. loop_at round_at (started axis.H g i.0) i.1) (λ g. first_lives axis.H g) (λ g. first_views axis.H g)

-- what no format begins with
pub format_never : (d : ℕ → Bool) → ((b : ℕ) → is_space b ≡ true → d b ≡ false) → d 72 ≡ false → d 86 ≡ false → d 124 ≡ false → d 91 ≡ false → Never d FormatText
unfolding FormatText
format_never d spaces h v bar view = blanks_never d (Orientation (λ a. FromParent (λ g. View (λ i. Loop Round (started a g i))))) spaces
    (or_never d (Words axes (λ a. Blanks (Sign 58 (FromParent (λ g. View (λ i. Loop Round (started a g i))))))) (FromParent (λ g. View (λ i. Loop Round (started axis.H g i))))
    (words_never (λ a. Blanks (Sign 58 (FromParent (λ g. View (λ i. Loop Round (started a g i)))))) d axes (rw (h, v) refl))
    (or_never d (Sign 124 (Connection (λ g. View (λ i. Loop Round (started axis.H (Some g) i))))) (View (λ i. Loop Round (started axis.H None i))) (lit_never _ d 124 [] bar) (lit_never _ d 91 [] view)))

pub format_lives : Lives is_space FormatText
unfolding FormatText
format_lives = let l = orientation_lives (λ a. FromParent (λ g. View (λ i. Loop Round (started a g i)))) body_at body_lives body_never in
    record { text = l.text; value = l.value; apart = l.apart; bytes = l.bytes; reads = ([], l.text, refl, tt, l.apart, l.reads) }

pub format_answers : (s : List ℕ) → Answers FormatText s (format_at s)
unfolding format_at FormatText body_at
format_answers s = blanks_answers (Orientation (λ a. FromParent (λ g. View (λ i. Loop Round (started a g i))))) (λ t. orientation_at t >>= λ r. body_at r.0 r.1)
    (orientation_lives (λ a. FromParent (λ g. View (λ i. Loop Round (started a g i)))) body_at body_lives body_never) s
    (λ t i. orientation_answers (λ a. FromParent (λ g. View (λ i. Loop Round (started a g i)))) body_at body_lives body_never t (λ a u j. body_answers a u))
