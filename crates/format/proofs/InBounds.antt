-- The limits of blocksize, tasks, ranks and sizes as facts where their rules hold, and back.
use mathlib.Core.Path.{◌≡◌, sym, ap, ◌∙◌}
use mathlib.Core.Bool.{true}
use Prim.Native.Nat.{ℕ, ◌<◌, zero-le}
use lib.IntN.{ℤ, pos}
use Rattle.endian.specs.Signed.{natural}
use Rattle.endian.proofs.Signed.{within_facts, within_holds}
use Rattle.format.specs.Limits.{max_tasks, max_size, max_rank, blocksize_rule, tasks_rule, ranks_rule, sizes_rule}
use Rattle.format.proofs.Power.{power_of_two_holds, power_within, blocksize_facts, blocksize_holds}
use Rattle.format.proofs.Rules.{ranks_within, ranks_differ, ranks_hold, sizes_within, sizes_hold}
use Rattle.format.proofs.Fields.{tasks_facts}
use Rattle.format.specs.Container.{InBounds}

module _ {b n : ℕ} {rank size : ℕ → ℕ} where
  pub in_bounds : blocksize_rule (pos b) ≡ true → tasks_rule (pos n) ≡ true → ranks_rule n (λ i. pos (rank i)) ≡ true
      → sizes_rule n (λ i. pos (size i)) ≡ true → InBounds b n rank size
  in_bounds block tasks ranks sizes =
      let f = blocksize_facts b block in
      record {
        blocksize_power = power_of_two_holds b f.2;
        blocksize_range = (f.0, f.1);
        tasks_range = tasks_facts n tasks;
        ranks_range = λ i l. (within_facts 0 max_rank (rank i) (ranks_within n (λ i. pos (rank i)) ranks i l)).1;
        ranks_differ = λ i j l h same. ranks_differ n (λ i. pos (rank i)) ranks i j l h (ap pos same);
        sizes_range = λ i l. within_facts 1 max_size (size i) (sizes_within n (λ i. pos (size i)) sizes i l);
      }

  -- back, for ranks and sizes wherever they are read from
  module _ (bounds : InBounds b n rank size) where
    pub block_kept : blocksize_rule (pos b) ≡ true
    block_kept =
        let (least, most) = bounds.blocksize_range in
        let (j, power) = bounds.blocksize_power in
        blocksize_holds b least most (power_within b j power most)

    pub tasks_kept : tasks_rule (pos n) ≡ true
    unfolding tasks_rule
    tasks_kept = within_holds 1 max_tasks n bounds.tasks_range.0 bounds.tasks_range.1

    pub ranks_kept : (f : ℕ → ℤ) → ((i : ℕ) → i < n → f i ≡ pos (rank i)) → ranks_rule n f ≡ true
    ranks_kept f are =
        ranks_hold n f
        (λ i l. rw (are i l) (within_holds 0 max_rank (rank i) zero-le (bounds.ranks_range i l)))
        (λ i j l h same.
        let e : pos (rank i) ≡ pos (rank j) = sym (are i l) ∙ same ∙ are j h in
        bounds.ranks_differ i j l h (ap natural e))

    pub sizes_kept : (f : ℕ → ℤ) → ((i : ℕ) → i < n → f i ≡ pos (size i)) → sizes_rule n f ≡ true
    sizes_kept f are =
        sizes_hold n f
        (λ i l.
        let (least, most) = bounds.sizes_range i l in
        rw (are i l) (within_holds 1 max_size (size i) least most))
