-- Test 17 as the code makes it, and then the tests of what is lent.
use mathlib.Core.Path.{sym, ◌∙◌}
use borrow.Author.Rules.{rules}
use Rattle.format.specs.Refusals.{first_failing}
use Rattle.format.specs.Record.{record_tests}
use Rattle.format.specs.Session.{session_tests}
use Rattle.format.proofs.Passing.{head_kept}
use Rattle.format.proofs.Sessions.{session_holds}
use Rattle.records.proofs.test_session.Goals as goal

pub returns-then-s-ne0 : goal.returns-then-s-ne0
unfolding first_failing session_tests record_tests
returns-then-s-ne0 c = search rules

pub test_lent-requires : goal.test_lent-requires
test_lent-requires c =
    let (head, few, _) = (session_holds c.args.file c.args.s c.args.lists.now (sym c.session_ok.ensures ∙ c.if-not-session_ok.false)).1 in
    (head_kept _ _ head c.told-lists, few)

pub returns : goal.returns
unfolding first_failing session_tests record_tests
returns c = search rules
