-- A text of each part of a format goes on at one place at most.
use Rattle.std.proofs.Common.{ℕ, zero, suc, pos, List, [], ◌∷◌, ◌++◌, Some, None, inl, inr}
use Rattle.std.specs.Prelude.{neg_ℤ}
use Rattle.problem_core.specs.declared.parts.Rel as relation
use Rattle.problem_core.specs.declared.parts.Rel.TheVariants as rel
use Rattle.span_text.specs.Language.{Rel, Or, End, Words}
use Rattle.span_text.specs.Tokens.{Blanks, Sign, Name, Number}
use Rattle.span_text.specs.Loops.{Rounds, Loop}
use Rattle.span_text.specs.Objects as object
use Rattle.span_text.specs.Objects.{Meant}
use Rattle.span_text.proofs.Loops.LoopLemmas.{Once}
use Rattle.span_text.proofs.Loops.OnceLemmas.{OnceIn, once_go, once_end, once_or, once_sign, once_name, once_number, once_words, once_blanks}
use Rattle.vfl_text.specs.Formats.{PredMeaning, SpacingMeaning, Flush, Standard, Given, ItemMeaning, FormatMeaning}
use Rattle.vfl_text.specs.Grammar.{relations, Value, Object, pred, Priority, Ruled, Pred, PredRound, Preds, item, View, single, Spaced, Connection, with_item, with_end, Next, Round}

pub once_value : {S A : Type 0} (T : Meant → (S → Rel A) → Rel A) → ((o : Meant) → OnceIn (T o)) → OnceIn (λ G. Value (λ o. T o G))
once_value T t = once_or (λ G. Name (λ n. T (object.Name n) G)) (λ G. Number (λ n. T (object.Number (pos n)) G))
    (once_name (λ n. T (object.Name n)) (λ n. t (object.Name n))) (once_number (λ n. T (object.Number (pos n))) (λ n. t (object.Number (pos n))))

pub once_object : {S A : Type 0} (T : Meant → (S → Rel A) → Rel A) → ((o : Meant) → OnceIn (T o)) → OnceIn (λ G. Object (λ o. T o G))
once_object T t = once_or (λ G. Sign 45 (Number (λ n. T (object.Number (neg_ℤ (pos n))) G))) (λ G. Value (λ o. T o G))
    (once_sign 45 (λ G. Number (λ n. T (object.Number (neg_ℤ (pos n))) G)) (once_number (λ n. T (object.Number (neg_ℤ (pos n)))) (λ n. t (object.Number (neg_ℤ (pos n))))))
    (once_value T t)

once_priority : {S A : Type 0} (r : relation.Rel) (o : Meant) (T : PredMeaning → (S → Rel A) → Rel A) → ((p : PredMeaning) → OnceIn (T p)) → OnceIn (λ G. Priority r o (λ p. T p G))
once_priority r o T t = once_or (λ G. Sign 64 (Value (λ p. T (pred r o (Some p)) G))) (λ G. T (pred r o None) G)
    (once_sign 64 (λ G. Value (λ p. T (pred r o (Some p)) G)) (once_value (λ p. T (pred r o (Some p))) (λ p. t (pred r o (Some p)))))
    (t (pred r o None))

once_ruled : {S A : Type 0} (r : relation.Rel) (T : PredMeaning → (S → Rel A) → Rel A) → ((p : PredMeaning) → OnceIn (T p)) → OnceIn (λ G. Ruled r (λ p. T p G))
once_ruled r T t = once_object (λ o G. Priority r o (λ p. T p G)) (λ o. once_priority r o T t)

pub once_pred : {S A : Type 0} (T : PredMeaning → (S → Rel A) → Rel A) → ((p : PredMeaning) → OnceIn (T p)) → OnceIn (λ G. Pred (λ p. T p G))
once_pred T t = once_or (λ G. Words relations (λ r. Blanks (Ruled r (λ p. T p G)))) (λ G. Ruled rel.Eq (λ p. T p G))
    (once_words relations (λ r G. Blanks (Ruled r (λ p. T p G))) (λ r. once_blanks (λ G. Ruled r (λ p. T p G)) (once_ruled r T t)))
    (once_ruled rel.Eq T t)

-- one predicate of a list, by what follows it
pub once_pred_round : {A : Type 0} (F : List PredMeaning → Rel A) → Once (PredRound F)
once_pred_round F G ps s v h = once_pred (λ p G. Or (Sign 44 (G (ps ++ p ∷ []))) (Sign 41 (F (ps ++ p ∷ []))))
    (λ p. once_or (λ G. Sign 44 (G (ps ++ p ∷ []))) (λ G. Sign 41 (F (ps ++ p ∷ []))) (once_sign 44 (λ G. G (ps ++ p ∷ [])) (once_go (ps ++ p ∷ []))) (once_end (Sign 41 (F (ps ++ p ∷ [])))))
    G s v h

-- a list of predicates, by what follows the list
module _ {S A : Type 0} (T : List PredMeaning → (S → Rel A) → Rel A) (t : (ps : List PredMeaning) → OnceIn (T ps)) where
  -- behind a predicate
  Behind : ℕ → List PredMeaning → (S → Rel A) → PredMeaning → Rel A
  Behind n ps G p = Or (Sign 44 (Rounds (PredRound (λ qs. T qs G)) n (ps ++ p ∷ []))) (Sign 41 (T (ps ++ p ∷ []) G))

  once_rounds : (n : ℕ) (ps : List PredMeaning) → OnceIn (λ G. Rounds (PredRound (λ qs. T qs G)) n ps)
  unfolding Behind
  once_rounds zero ps G s v h = absurd h
  once_rounds (suc n) ps G s v h = elim (once_pred (λ p K. K p) (λ p. once_go p) (Behind n ps G) s v h) [
    | inl (p, u, g, back) ↦ elim (once_or (λ G. Sign 44 (Rounds (PredRound (λ qs. T qs G)) n (ps ++ p ∷ []))) (λ G. Sign 41 (T (ps ++ p ∷ []) G))
        (once_sign 44 (λ G. Rounds (PredRound (λ qs. T qs G)) n (ps ++ p ∷ [])) (once_rounds n (ps ++ p ∷ [])))
        (once_sign 41 (T (ps ++ p ∷ [])) (t (ps ++ p ∷ []))) G u v g) [
          | inl (y, w, i, again) ↦ inl (y, w, i, λ H k. back (Behind n ps H) (again H k))
          | inr f ↦ inr (λ H. back (Behind n ps H) (f H))
        ]
    | inr f ↦ inr (λ H. f (Behind n ps H))
  ]

  once_list : (ps : List PredMeaning) → OnceIn (λ G. Loop (PredRound (λ qs. T qs G)) ps)
  once_list ps G s v (n, h) = elim (once_rounds n ps G s v h) [ inl (y, w, i, back) ↦ inl (y, w, i, λ H k. (n, back H k)) | inr f ↦ inr (λ H. (n, f H)) ]

  pub once_preds : OnceIn (λ G. Preds (λ qs. T qs G))
  once_preds = once_sign 40 (λ G. Loop (PredRound (λ qs. T qs G)) []) (once_list [])

pub once_view : {S A : Type 0} (T : ItemMeaning → (S → Rel A) → Rel A) → ((i : ItemMeaning) → OnceIn (T i)) → OnceIn (λ G. View (λ i. T i G))
once_view T t = once_sign 91 (λ G. Name (λ n. Or (Preds (λ ps. Sign 93 (T (item n ps) G))) (Sign 93 (T (item n []) G))))
    (once_name (λ n G. Or (Preds (λ ps. Sign 93 (T (item n ps) G))) (Sign 93 (T (item n []) G)))
    (λ n. once_or (λ G. Preds (λ ps. Sign 93 (T (item n ps) G))) (λ G. Sign 93 (T (item n []) G))
    (once_preds (λ ps G. Sign 93 (T (item n ps) G)) (λ ps. once_sign 93 (T (item n ps)) (t (item n ps))))
    (once_sign 93 (T (item n [])) (t (item n [])))))

once_spaced : {S A : Type 0} (T : SpacingMeaning → (S → Rel A) → Rel A) → ((g : SpacingMeaning) → OnceIn (T g)) → OnceIn (λ G. Spaced (λ g. T g G))
once_spaced T t = once_or (λ G. Preds (λ ps. Sign 45 (T (Given ps) G))) (λ G. Or (Value (λ o. Sign 45 (T (Given (single o)) G))) (T Standard G))
    (once_preds (λ ps G. Sign 45 (T (Given ps) G)) (λ ps. once_sign 45 (T (Given ps)) (t (Given ps))))
    (once_or (λ G. Value (λ o. Sign 45 (T (Given (single o)) G))) (T Standard)
    (once_value (λ o G. Sign 45 (T (Given (single o)) G)) (λ o. once_sign 45 (T (Given (single o))) (t (Given (single o)))))
    (t Standard))

pub once_connection : {S A : Type 0} (T : SpacingMeaning → (S → Rel A) → Rel A) → ((g : SpacingMeaning) → OnceIn (T g)) → OnceIn (λ G. Connection (λ g. T g G))
once_connection T t = once_or (λ G. Sign 45 (Spaced (λ g. T g G))) (T Flush) (once_sign 45 (λ G. Spaced (λ g. T g G)) (once_spaced T t)) (t Flush)

once_next : (f : FormatMeaning) (g : SpacingMeaning) → OnceIn (λ G. Next G f g)
once_next f g = once_or (λ G. View (λ i. G (with_item f g i))) (λ G. Sign 124 (End (with_end f g)))
    (once_view (λ i G. G (with_item f g i)) (λ i. once_go (with_item f g i)))
    (once_end (Sign 124 (End (with_end f g))))

pub once_round : Once Round
once_round G f s v h = once_or (λ G. Connection (λ g. Next G f g)) (λ G. End f) (once_connection (λ g G. Next G f g) (λ g. once_next f g)) (once_end (End f)) G s v h
