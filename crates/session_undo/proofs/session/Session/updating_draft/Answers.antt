use Rattle.session_undo.proofs.session.Session.updating_draft.Goals as goal

pub returns-in-Constrain-clause-refused : goal.returns-in-Constrain-clause-refused
returns-in-Constrain-clause-refused g c = rw c.in-Constrain.is c.constraint_draft.ensures.refused

pub returns-in-Vfl-clause-refused : goal.returns-in-Vfl-clause-refused
returns-in-Vfl-clause-refused g c = rw c.in-Vfl.is c.format_draft.ensures.refused

pub returns-in-Suggest-clause-refused : goal.returns-in-Suggest-clause-refused
returns-in-Suggest-clause-refused g c = rw c.in-Suggest.is c.suggestion_draft.ensures.refused

pub returns-in-Size-clause-refused : goal.returns-in-Size-clause-refused
returns-in-Size-clause-refused g c = rw c.in-Size.is c.size_draft.ensures.refused
