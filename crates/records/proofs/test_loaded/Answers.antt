-- Test 17 as the code makes it, and then the tests of what is lent.
use mathlib.Core.Path.{sym, ◌∙◌}
use borrow.Author.Rules.{rules}
use Rattle.format.specs.Refusals.{first_failing}
use Rattle.format.specs.Record.{record_tests}
use Rattle.format.specs.Reads.{loaded_tests}
use Rattle.format.proofs.Passing.{head_kept}
use Rattle.format.proofs.LoadedRecords.{loaded_holds}
use Rattle.records.proofs.test_loaded.Goals as goal

pub returns-then-l-ne0 : goal.returns-then-l-ne0
unfolding first_failing loaded_tests record_tests
returns-then-l-ne0 c = search rules

pub test_lent-requires : goal.test_lent-requires
test_lent-requires c =
    let (head, few, _) = loaded_holds c.args.file c.args.l c.args.lists.now (sym c.loaded_ok.ensures ∙ c.if-not-loaded_ok.false) in
    (head_kept _ _ head c.told-lists, few)

pub returns : goal.returns
unfolding first_failing loaded_tests record_tests
returns c = search rules
