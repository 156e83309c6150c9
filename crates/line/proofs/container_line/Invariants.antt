-- Before each turn the totals of the tasks before this one stand behind what was there, each behind a space.
use Rattle.std.proofs.Common.{◌≡◌, ◌++◌, ◌+◌, ◌-◌, ◌*◌, ◌≤◌, length}
use Rattle.lists.specs.Below.{list_below}
use Rattle.format.specs.declared.head.File.TheVariants.{Single}
use Rattle.format.specs.Reads.{container_of}
use Rattle.format.specs.Line.{spaced}
use Rattle.line.proofs.Text.{totals}
use Rattle.line.proofs.container_line.Given as goal

abbrev pub invariant-loop-task : goal.invariant-loop-task
invariant-loop-task l = record {
  bytes : l.text.bytes ≡ l.initial.text.bytes ++ spaced (list_below (l.task - 1) (totals (container_of Single l.l l.lists l.image l.table)));
  in_range : l.task ≤ l.task-end + 1;
  upper_bound : length l.text.bytes ≤ length l.initial.text.bytes + 21 * (l.task - 1);
}
