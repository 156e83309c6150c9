-- What a write stores by a decision that says where: a place in the image and a cell that are there, and what is left.
use mathlib.Core.Path.{◌≡◌}
use mathlib.Core.List.{[], ◌∷◌}
use Prim.Native.Nat.{ℕ, ◌+◌, ◌-◌, ◌*◌, ◌≤◌, ◌<◌}
use native.Mathlib.Nat.{mul-le-mul}
use native.Mathlib.Omega.{arith}
use lib.Dec.{eqb}
use lib.IntN.{pos}
use lib.ListN.{length, set}
use borrow.Author.Tests.{eqb-false, not-true}
use Rattle.lists.proofs.Below.{and_right}
use Rattle.lists.specs.Stores.{store, found}
use Rattle.format.specs.Limits.{max_tasks, max_blocks, max_size}
use Rattle.format.specs.Meta2.{value_index}
use Rattle.format.specs.Record.{all_lists, sizes_of, size_of, start_of}
use Rattle.format.specs.Session.{State, state_of, with_count}
use Rattle.format.specs.Write.{Request, Spot, capacity_of, spot, target, write_refusal, stored, write_found}
use Rattle.writing.specs.Writing.{ChunkThere, to, decision}
use Rattle.format.proofs.Passing.{passed_sound, holds_small, cell_listed, chunk_inside}
use Rattle.format.proofs.Storing.{found_stored}
use Rattle.format.proofs.Writable.{stores, spot_first}
use Rattle.writing.proofs.Decisions.{is_stored}

pub record Puts (st : State) (q : Request) (d : Spot) : Type 0 where
  pub there : ChunkThere st.session.head (sizes_of st.lists) q.task d.chunk d.from q.bytes st.image
  pub small : d.from + length q.bytes ≤ max_size
  pub row_small : (d.chunk - 1) * st.session.head.n ≤ max_blocks * max_tasks
  pub task_small : q.task ≤ max_tasks
  pub listed : value_index st.session.head.n (d.chunk - 1) (q.task - 1) < length st.table
  pub accepted : write_refusal st q ≡ 0
  pub leaves : (b : ℕ) → write_found st q b
      ≡ state_of st.file st.session (with_count st.lists (q.task - 1) d.chunk)
      (found b st.image (store (start_of st.session.head (size_of st.lists) q.task d.chunk + d.from) q.bytes ∷ []))
      (set st.table (value_index st.session.head.n (d.chunk - 1) (q.task - 1)) (pos (d.from + length q.bytes)))

pub puts : (st : State) (q : Request) (d : Spot) → length st.lists ≡ all_lists → to d ≡ decision st q → Puts st q d
unfolding stored target capacity_of
puts st q d long e =
    let (zero, takes, is) = is_stored st q d e in
    let some : 0 < length q.bytes = omega (arith, eqb-false (length q.bytes) 0 (not-true _ (and_right (eqb (write_refusal st q) 0) _ takes))) in
    let (p, first, last, chunk-last, fits) = stores st q some zero in
    let chunk-first = spot_first st q in
    let sound = passed_sound p long in
    let few : (spot st q).chunk - 1 ≤ max_blocks = omega (arith, p.few) in
    rw is (record {
      there = record {
        sound = sound;
        first_task = first;
        last_task = last;
        first_chunk = chunk-first;
        few = omega (arith, p.few);
        fits = fits;
        inside = chunk_inside p q.task first last (spot st q).chunk chunk-first chunk-last;
      };
      small = omega (arith, fits, holds_small p q.task first last);
      row_small = mul-le-mul few sound.tasks;
      task_small = omega (arith, sound.tasks);
      listed = cell_listed p q.task first last ((spot st q).chunk - 1) (omega arith);
      accepted = zero;
      leaves = λ b. found_stored st q b takes;
    })
