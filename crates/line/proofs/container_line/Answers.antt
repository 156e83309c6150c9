-- The refusal, and after an accepted load n, maxchunks and the totals behind it.
use Rattle.std.proofs.Common.{refl, ◌≡◌, ◌∷◌, ◌++◌, ◌+◌, ◌-◌, ◌≤◌, List, ℕ, length, sym, ap, ap₂, ◌∙◌, arith, append_assoc, append-nil}
use Rattle.std.specs.Prelude.{Result, Ok, Err}
use Rattle.std.specs.Result.{result_unwrap_or}
use lib.IntN.{pos}
use lib.ListN.{replicate}
use Rattle.lists.specs.Below.{list_below, join_below}
use Rattle.format.specs.declared.head.File.TheVariants.{Single}
use Rattle.format.specs.declared.loaded.ByteCount.{ByteCount}
use Rattle.format.specs.declared.refusal.Refusal.{Refusal}
use Rattle.format.specs.Answers.{byte_count}
use Rattle.format.specs.Limits.{max_tasks}
use Rattle.format.specs.Reads.{Container, container_of, total_answer}
use Rattle.format.specs.Line.{cells, decimal, space, spaced, totals_of, container_line}
use Rattle.line.proofs.Text.{totals, totals_more}
use Rattle.line.proofs.Whole.{few_tasks, refused_line, accepted_line}
use Rattle.line.proofs.container_line.Goals as goal
use Rattle.line.proofs.container_line.Goals.{After-from-task-end}

pub returns-then-refusal-ne0-clause-bytes : goal.returns-then-refusal-ne0-clause-bytes
returns-then-refusal-ne0-clause-bytes c =
    let j = c.load-answer in
    c.push_number.ensures.bytes
    ∙ ap₂ (λ xs n. xs ++ decimal n) c.new-text.ensures c.from.ensures
    ∙ refused_line c.args.image.now j.result j.new.table j.ensures.value j.ensures.table_after c.if-refusal-ne0.true

-- the container whose totals are told, and how many tasks it has
abbrev told : After-from-task-end → Container
told s = container_of Single s.load-answer.result.loaded s.load-answer.result.lists s.args.image.now s.load-answer.new.table

few : (s : After-from-task-end) → s.load-answer.result.loaded.head.n ≤ max_tasks
few s = let j = s.load-answer in few_tasks s.args.image.now (replicate cells (pos 0)) j.result j.ensures.value s.if-refusal-ne0.false

-- the line is whole once the totals of all tasks stand behind the three numbers
whole : (s : After-from-task-end) (k : ℕ) {text : List ℕ} → text ≡ s.push_spaced-2.new.text.bytes ++ spaced (list_below k (totals (told s)))
    → k ≡ s.load-answer.result.loaded.head.n → text ≡ container_line s.args.image.now
unfolding totals_of
whole s k e all =
    let j = s.load-answer in
    let first = s.push_number.ensures.bytes ∙ ap₂ (λ xs n. xs ++ decimal n) s.new-text.ensures s.from.ensures in
    let second = s.push_spaced.ensures.bytes ∙ ap₂ (λ xs n. xs ++ (space ∷ decimal n)) first s.from-2.ensures in
    let third = s.push_spaced-2.ensures.bytes ∙ ap₂ (λ xs n. xs ++ (space ∷ decimal n)) second s.from-3.ensures in
    e
    ∙ ap₂ (λ xs (i : ℕ). xs ++ spaced (list_below i (totals (told s)))) third all
    ∙ accepted_line s.args.image.now j.result j.new.table j.ensures.value j.ensures.table_after s.if-refusal-ne0.false

bytes_of : (answer : Result ℕ Refusal) → result_unwrap_or answer 0 ≡ (byte_count answer).bytes
bytes_of (Ok n) = refl
bytes_of (Err refusal) = refl

-- one total more
one_more : (s : After-from-task-end) (task : ℕ) {text more : List ℕ} (answer : Result ℕ Refusal) {total : ℕ} → 1 ≤ task
    → text ≡ s.push_spaced-2.new.text.bytes ++ spaced (list_below (task - 1) (totals (told s)))
    → byte_count answer ≡ total_answer (told s) task → total ≡ result_unwrap_or answer 0 → more ≡ text ++ (space ∷ decimal total)
    → more ≡ s.push_spaced-2.new.text.bytes ++ spaced (list_below task (totals (told s)))
one_more s task answer some e is t m =
    m
    ∙ ap₂ (λ xs n. xs ++ (space ∷ decimal n)) e (t ∙ bytes_of answer ∙ ap (λ (b : ByteCount). b.bytes) is)
    ∙ append_assoc s.push_spaced-2.new.text.bytes _ _
    ∙ ap (λ xs. s.push_spaced-2.new.text.bytes ++ xs) (totals_more (told s) task some)

pub loop-task-init : goal.loop-task-init
unfolding join_below
loop-task-init c = record { bytes = sym (append-nil _); in_range = omega arith; upper_bound = omega arith }

pub push_spaced-requires-in-loop-task : goal.push_spaced-requires-in-loop-task
push_spaced-requires-in-loop-task c =
    let s : After-from-task-end = (goal.at.push_spaced-requires-in-loop-task c).After-from-task-end in
    omega (arith, few s, ap length c.new-text.ensures)

pub loop-task-preserved : goal.loop-task-preserved
loop-task-preserved c =
    let e : c.loop-task.task + 1 - 1 ≡ c.loop-task.task = omega arith in
    let s : After-from-task-end = (goal.at.loop-task-preserved c).After-from-task-end in
    record { in_range = omega arith; bytes = rw e (one_more s c.loop-task.task _ (omega arith) c.loop-task.invariant.bytes c.total.ensures c.unwrap_or-total.ensures c.push_spaced-in-loop-task.ensures.bytes); upper_bound = omega arith }

pub returns-else-refusal-ne0-clause-bytes : goal.returns-else-refusal-ne0-clause-bytes
returns-else-refusal-ne0-clause-bytes c =
    let s : After-from-task-end = (goal.at.returns-else-refusal-ne0-clause-bytes c).After-from-task-end in
    whole s (c.loop-task.task - 1) c.loop-task.invariant.bytes (omega arith)

pub returns-else-refusal-ne0-clause-upper_bound : goal.returns-else-refusal-ne0-clause-upper_bound
returns-else-refusal-ne0-clause-upper_bound c =
    let s : After-from-task-end = (goal.at.returns-else-refusal-ne0-clause-upper_bound c).After-from-task-end in
    omega (arith, few s, ap length c.new-text.ensures)

pub returns-else-refusal-ne0-2-clause-bytes : goal.returns-else-refusal-ne0-2-clause-bytes
returns-else-refusal-ne0-2-clause-bytes c =
    let s : After-from-task-end = (goal.at.returns-else-refusal-ne0-2-clause-bytes c).After-from-task-end in
    let all = one_more s c.loop-task.task _ (omega arith) c.loop-task.invariant.bytes c.total.ensures c.unwrap_or-total.ensures c.push_spaced-in-loop-task.ensures.bytes in
    whole s c.loop-task.task all (omega arith)

pub returns-else-refusal-ne0-2-clause-upper_bound :
    goal.returns-else-refusal-ne0-2-clause-upper_bound
returns-else-refusal-ne0-2-clause-upper_bound c =
    let s : After-from-task-end = (goal.at.returns-else-refusal-ne0-2-clause-upper_bound c).After-from-task-end in
    omega (arith, few s, ap length c.new-text.ensures)
