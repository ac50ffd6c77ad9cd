use Rattle.no_lex.proofs.Spans.{answer_spans}
use Rattle.no_lex.proofs.lexer.tokens.Goals as goal

pub returns-clause-spans : goal.returns-clause-spans
returns-clause-spans c = answer_spans c.args.limit c.args.text.now c.lex.result c.lex.ensures.lexes
