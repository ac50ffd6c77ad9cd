use Rattle.std.specs.BTreeSet.{contains}
use Rattle.std.specs.Ordering.{nat_cmp}
use Rattle.no_verify_types.specs.Typing.{all_differ, case_numbers}
use Rattle.no_verify_types.proofs.Differ.{case_again, case_more}
use Rattle.no_verify_types.proofs.switches.all_differ.Goals as goal

pub returns-then-not-branch : goal.returns-then-not-branch
returns-then-not-branch c =
    case_again c.args.cases.now c.loop-case.case-index (contains nat_cmp c.loop-case.seen) c.in_ok-insert.field-0 (all_differ (case_numbers c.args.cases.now)) c.loop-case-test.true c.in_ok-insert.ensures.added c.if-not-branch.true c.loop-case.invariant

pub loop-case-preserved : goal.loop-case-preserved
loop-case-preserved c =
    case_more c.args.cases.now c.loop-case.case-index (contains nat_cmp c.loop-case.seen) (contains nat_cmp c.insert.new.self) c.in_ok-insert.field-0 (all_differ (case_numbers c.args.cases.now)) c.loop-case-test.true c.in_ok-insert.ensures.updates.0 c.in_ok-insert.ensures.added c.if-not-branch.false c.loop-case.invariant
