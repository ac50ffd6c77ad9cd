use Rattle.no_layout.proofs.Agreeing.{supplied_keeps, supplied_agrees, done_agrees, writes_agree}
use Rattle.no_layout.proofs.whole.held_pages_stand_for_the_whole.Goals as goal

pub returns-clause-keeps : goal.returns-clause-keeps
returns-clause-keeps c = supplied_keeps

pub returns-clause-supplies : goal.returns-clause-supplies
returns-clause-supplies c = supplied_agrees

pub returns-clause-reads : goal.returns-clause-reads
returns-clause-reads c = done_agrees

pub returns-clause-writes : goal.returns-clause-writes
returns-clause-writes c = writes_agree
