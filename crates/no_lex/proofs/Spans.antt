-- The tokens of a text are spans of it.
use Rattle.std.proofs.Common.{ℕ, List, length, Result, Ok, Err, IfOk}
use Rattle.no_lex.specs.declared.token.Token.{Token}
use Rattle.no_lex.specs.declared.fault.LexError.{LexError}
use Rattle.no_lex.specs.Tokens.{AreSpans, Lexes, Answers}
use Rattle.no_lex.proofs.Looking.{follow_spans}

pub answer_spans : (limit : ℕ) (text : List ℕ) (r : Result (List Token) LexError) → Answers r (Lexes limit text) → IfOk r (λ all. AreSpans 0 (length text) all)
answer_spans limit text (Ok ts) l = follow_spans text 0 l.1.0 ts l.1.1
answer_spans limit text (Err e) l = tt
