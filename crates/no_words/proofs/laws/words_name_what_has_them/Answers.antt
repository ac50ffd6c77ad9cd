use Rattle.no_words.proofs.Back.{binary_back, binary_only, cast_back, cast_only, letters, pred_back, pred_only}
use Rattle.no_words.proofs.laws.words_name_what_has_them.Goals as goal

pub returns-clause-binary : goal.returns-clause-binary
returns-clause-binary c = binary_back

pub returns-clause-cast : goal.returns-clause-cast
returns-clause-cast c = cast_back

pub returns-clause-pred : goal.returns-clause-pred
returns-clause-pred c = pred_back

pub returns-clause-only_binary : goal.returns-clause-only_binary
returns-clause-only_binary c = binary_only

pub returns-clause-only_cast : goal.returns-clause-only_cast
returns-clause-only_cast c = cast_only

pub returns-clause-only_pred : goal.returns-clause-only_pred
returns-clause-only_pred c = pred_only

pub returns-clause-letters : goal.returns-clause-letters
returns-clause-letters c = letters
