use Rattle.std.proofs.Common.{arith, rules, ◌≡◌, ◌<◌, false, ◌++◌, length, refl, sym, subst, ap, ◌∙◌}
use Rattle.span_text.specs.Classes.{is_space}
use Rattle.span_text.specs.Reading.{front, starts}
use Rattle.span_text.proofs.TextCuts.TokenCuts.{IsEnd, end_of_end, spaces_end, back_starts, back_within, no_rest, front_inside, front_back, slice_at_end}
use Rattle.std.proofs.lemmas.List.{take-append-drop}
use Rattle.span_text.proofs.token.TokensIterator.next.Goals as goal

pub overflow_sub-start : goal.overflow_sub-start
overflow_sub-start c = (spaces_end c.args.self.now.line.now c.args.self.now.rest.now c.without_spaces-rest.result.now (c.args.self.now.within, c.args.self.now.stands) c.without_spaces-rest.ensures).0

pub returns-then-is_empty-clause-steps : goal.returns-then-is_empty-clause-steps
returns-then-is_empty-clause-steps c =
    let none : length c.without_spaces-rest.result.now ≡ 0 = search rules in
    record {
      same_line = refl;
      next = no_rest c.args.self.now.rest.now (ap length (sym c.without_spaces-rest.ensures) ∙ none);
    }

pub token_len-requires-clause-no_space : goal.token_len-requires-clause-no_space
token_len-requires-clause-no_space c = subst (λ s. starts is_space s ≡ false) (sym c.without_spaces-rest.ensures) (back_starts c.args.self.now.rest.now)

pub invariant_of-self : goal.invariant_of-self
invariant_of-self c =
    let after : IsEnd c.args.self.now.line.now c.split_at.result.1.now = rw c.split_at.ensures.back (end_of_end c.args.self.now.line.now c.without_spaces-rest.result.now c.token_len.result (spaces_end c.args.self.now.line.now c.args.self.now.rest.now c.without_spaces-rest.result.now (c.args.self.now.within, c.args.self.now.stands) c.without_spaces-rest.ensures) c.token_len.ensures.boundary.0) in
    record { within = after.0; stands = after.1 }

pub returns-clause-steps : goal.returns-clause-steps
returns-clause-steps c =
    let line = c.args.self.now.line.now in
    let rest = c.without_spaces-rest.result.now in
    let n = c.token_len.result in
    let stands = (spaces_end c.args.self.now.line.now c.args.self.now.rest.now c.without_spaces-rest.result.now (c.args.self.now.within, c.args.self.now.stands) c.without_spaces-rest.ensures) in
    record {
      same_line = refl;
      next = record {
        gap = front is_space c.args.self.now.rest.now;
        spaces = front_inside is_space c.args.self.now.rest.now;
        parts = front_back is_space c.args.self.now.rest.now ∙ ap (λ s. front is_space c.args.self.now.rest.now ++ s) (sym c.without_spaces-rest.ensures ∙ rw (c.split_at.ensures.front, c.split_at.ensures.back) (sym (take-append-drop n rest)));
        cut = rw (c.split_at.ensures.front, c.split_at.ensures.back) c.token_len.ensures.token;
        stands = rw c.split_at.ensures.front (slice_at_end line rest n stands c.token_len.ensures.boundary.0);
        ends = refl;
        left = omega (arith, stands.0, c.split_at.ensures.front_len, c.split_at.ensures.back_len);
      };
    }

pub returns-clause-goes : goal.returns-clause-goes
returns-clause-goes c =
    let less : length c.split_at.result.1.now < length c.args.self.now.rest.now = omega (arith, c.split_at.ensures.back_len, c.token_len.ensures.some, ap length c.without_spaces-rest.ensures, back_within c.args.self.now.rest.now) in
    record { on = λ f. (search rules, search rules, less); keeps = search rules; rests = search rules }
