-- What it is that a write, and a list of writes, keeps a session following the tally; and what such a session's chunks and cells are like.
use mathlib.Core.Path.{◌≡◌, refl}
use mathlib.Core.Bool.{Bool, true, false}
use mathlib.Core.List.{List}
use mathlib.Core.Logic.{◌⊎◌}
use Prim.Native.Nat.{ℕ, ◌+◌, ◌*◌, ◌-◌, ◌≤◌, ◌<◌}
use native.Mathlib.Omega.{arith}
use lib.Dec.{eqb}
use lib.IntN.{ℤ, pos}
use lib.ListN.{length}
use borrow.Author.Tests.{eqb-true, eqb-false}
use Rattle.endian.specs.Signed.{within}
use Rattle.endian.proofs.Signed.{within_facts, within_holds}
use Rattle.format.specs.Limits.{blocksize_rule}
use Rattle.format.specs.Layout.{meta2_end}
use Rattle.format.proofs.Power.{blocksize_facts}
use Rattle.format.proofs.Chunks.{same_block, chunk_before_meta2}
use Rattle.format.specs.Meta2.{value_index}
use Rattle.format.specs.Record.{entry, cell, count_at, is_task, holds, start_of, end_at}
use Rattle.format.specs.declared.session.Session.{Session}
use Rattle.format.specs.Session.{State}
use Rattle.format.specs.Write.{Request, write_refusal, after_write, writes, refusals}
use Rattle.format.specs.Tally.{Tallies, count_by, outcome_in, answer_to, feed, feed_all, answers, fed_of, fed}
use Rattle.tally.specs.Simulates.{terms_in, CellIs, Simulates}
use Rattle.tally.proofs.Counts.{count_most}
use Rattle.tally.proofs.Places.{Layout, stored_in, image_after}

-- task i + 1 is one
pub named_task : (n i : ℕ) → i < n → is_task n (i + 1) ≡ true
named_task n i l = within_holds 1 n (i + 1) (omega arith) (omega arith)

-- the chunks lie apart, and before the end of META2
pub layout_of : (s : Session) (size : ℕ → ℕ) → blocksize_rule (pos s.head.blocksize) ≡ true
    → Layout s.head.blocksize (end_at s.head size s.planned) (terms_in s size)
unfolding holds start_of end_at meta2_end
layout_of s size e =
    let h = s.head in
    let f = blocksize_facts h.blocksize e in
    record {
      apart = λ r t k l i j rn tn k1 km l1 lm hi hj same.
          let (r1, rn) = within_facts 1 h.n r rn in
          let (t1, tn) = within_facts 1 h.n t tn in
          same_block h.blocksize h.n size (omega arith) r t k l i j r1 rn t1 tn k1 l1 hi hj same;
      inside = λ t k tn k1 km.
          let (t1, tn) = within_facts 1 h.n t tn in
          omega (arith, chunk_before_meta2 h.blocksize h.n size t k s.planned t1 tn k1 km);
    }

-- of the lists, all but the counts of the n tasks are the same
abbrev pub OthersSame : ℕ → List ℕ → List ℕ → Type 0
OthersSame n before after = (j : ℕ) → (j < count_at 0) ⊎ (count_at n ≤ j) → entry after j ≡ entry before j

-- one write does what the tally does
pub record StepSimulates (s : Session) (size : ℕ → ℕ) (b : Tallies) (st : State) (q : Request) : Type 0 where
  pub number_is : write_refusal st q ≡ answer_to (outcome_in (terms_in s size) b (fed_of q))
  pub image_is : (after_write st q).image ≡ stored_in (terms_in s size) b st.image q
  pub follows : Simulates s size (feed (terms_in s size) b (fed_of q)) (after_write st q)
  pub table_as_long : length (after_write st q).table ≡ length st.table
  pub other_cells : (j : ℕ) → s.head.n * s.planned ≤ j → cell (after_write st q).table j ≡ cell st.table j
  pub other_entries : OthersSame s.head.n st.lists (after_write st q).lists

-- so does a list of writes
pub record RunSimulates (s : Session) (size : ℕ → ℕ) (b : Tallies) (st : State) (qs : List Request) : Type 0 where
  pub numbers_are : refusals st qs ≡ answers (terms_in s size) b (fed qs)
  pub image_is : (writes st qs).image ≡ image_after (terms_in s size) b st.image qs
  pub follows : Simulates s size (feed_all (terms_in s size) b (fed qs)) (writes st qs)
  pub table_as_long : length (writes st qs).table ≡ length st.table
  pub other_cells : (j : ℕ) → s.head.n * s.planned ≤ j → cell (writes st qs).table j ≡ cell st.table j
  pub other_entries : OthersSame s.head.n st.lists (writes st qs).lists

-- a cell that is not the last of the write's task after it is as it was
abbrev pub CellsKept : Session → (ℕ → ℕ) → Tallies → State → Request → Type 0
CellsKept s size b st q =
    (i k : ℕ) → i < s.head.n → (q.task ≡ i + 1 → k + 1 ≡ (feed (terms_in s size) b (fed_of q) (i + 1)).u → ⊥)
    → cell (after_write st q).table (value_index s.head.n k i) ≡ cell st.table (value_index s.head.n k i)

-- a used chunk's cell passes META2's rule
cell_used : (c count w k : ℕ) (z : ℤ) → w ≤ c → CellIs c count w k z → k < count → within 0 c z ≡ true
cell_used c count w k z h q l = go (eqb (k + 1) count) refl
  where
    go : (v : Bool) → eqb (k + 1) count ≡ v → within 0 c z ≡ true
    go true e = rw (q.last (eqb-true _ _ e)) (within_holds 0 c w (omega arith) h)
    go false e =
        let y = q.used (omega (arith, eqb-false)) in
        rw y.1 (within_holds 0 c y.0 (omega arith) y.2)

pub used_fits : {s : Session} {size : ℕ → ℕ} {b : Tallies} {st : State} → Simulates s size b st → (i k : ℕ) → i < s.head.n
    → k < count_by s.head.format (b (i + 1)) → within 0 (holds s.head size i) (cell st.table (value_index s.head.n k i)) ≡ true
used_fits {s = s} {b = b} f i k l u =
    let z : i + 1 - 1 ≡ i = omega arith in
    let most = count_most s.head.format (b (i + 1)) f.some (f.reachable (i + 1)).1.most in
    cell_used _ _ (b (i + 1)).w k _ (rw z at (f.reachable (i + 1)).1.last) (f.cells_are i k l (omega arith)) u
