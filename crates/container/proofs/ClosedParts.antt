-- What closing leaves of a session, by what its opening was given: META1 and META2 in the image, and the counts and cells that META2 holds.
use mathlib.Core.Path.{◌≡◌, refl, sym, ap, ap₂, ◌∙◌, subst}
use mathlib.Core.Bool.{true}
use mathlib.Core.List.{List, ◌++◌}
use mathlib.Core.Logic.{inl, inr}
use Prim.Native.Nat.{ℕ, ◌+◌, ◌-◌, ◌≤◌, ◌<◌}
use native.Mathlib.Nat.{zero-add}
use native.Mathlib.Omega.{arith}
use lib.IntN.{ℤ}
use lib.ListN.{length, take, drop, get_or, length-append}
use lib.Seq.{length-take-le, take-add}
use Rattle.endian.specs.Signed.{natural}
use Rattle.lists.proofs.Below.{part_cong}
use Rattle.endian.proofs.Signed.{InRange, within_natural}
use Rattle.lists.proofs.Splice.{part_front}
use Rattle.format.specs.Limits.{max_size}
use Rattle.format.specs.Layout.{meta1_end, capacity, meta2_start, meta2_length, meta2_end}
use Rattle.format.proofs.Bounds.{sound_size}
use Rattle.format.proofs.Chunks.{meta1_before_data, capacity_small}
use Rattle.format.proofs.Power.{blocksize_facts}
use Rattle.format.specs.declared.head.Head.{Head}
use Rattle.format.specs.Meta1.{last_at, last_fields, meta1_front, meta1}
use Rattle.format.specs.Meta2.{value_index, unused, values_rule, least_count, meta2}
use Rattle.format.specs.Record.{entry, cell, size_of, count_of, is_big, holds, meta2_at, end_at, cells_agree}
use Rattle.format.proofs.Rules.{values_used, values_unused}
use Rattle.format.specs.Session.{State}
use Rattle.format.specs.Open.{Opening, tasks, open_head}
use Rattle.format.specs.Close.{maxchunks_used, close_refusal, close_answer, close_image}
use Rattle.format.proofs.Opening.{PlanHolds, plan_sound}
use Rattle.format.specs.Passed.{Passed}
use Rattle.format.proofs.Storing.{close_passed}
use Rattle.format.specs.Container.{meta2_said}
use Rattle.container.specs.Format.{CloseStores}
use Rattle.container.specs.WrittenBack.{contents_of}
use Rattle.container.proofs.Refusing.{close_number}
use Rattle.container.proofs.Stores.{close_stores_hold}

-- a session that stands where an opening began: it has the opening's head, passes its tests, and META1's front is in its image
pub record Closable (o : Opening) (st : State) : Type 0 where
  pub plan : PlanHolds o
  pub head_is : st.session.head ≡ open_head o
  pub sizes_are : size_of st.lists ≡ entry o.sizes
  pub passes : close_refusal st ≡ 0
  pub front : take (last_at (tasks o)) st.image ≡ meta1_front (open_head o) (entry o.ranks) (entry o.sizes) o.prefix

-- its closed image, and anything after it
abbrev pub closed_as : State → List ℕ → List ℕ
closed_as st tail = take (close_answer st).length (close_image st) ++ tail

-- where META2 starts and ends in it, and the cell of chunk k + 1 of task i + 1
abbrev pub start_in : Opening → State → ℕ
start_in o st = meta2_start o.plan.blocksize (tasks o) (entry o.sizes) (maxchunks_used st)

abbrev pub end_in : Opening → State → ℕ
end_in o st = meta2_end o.plan.blocksize (tasks o) (entry o.sizes) (maxchunks_used st)

abbrev pub value_in : Opening → State → ℕ → ℕ → ℤ
value_in o st k i = cell st.table (value_index (tasks o) k i)

module _ (o : Opening) (st : State) (c : Closable o st) where
  abbrev m : ℕ
  m = maxchunks_used st

  abbrev at : ℕ
  at = start_in o st

  abbrev end : ℕ
  end = end_in o st

  pub closing : Passed st.session.head st.lists m st.image st.table
  closing = close_passed st c.passes

  stores : CloseStores st m
  stores = close_stores_hold st (close_number st ∙ c.passes)

  -- ---- what closing stores, by what the opening was given

  -- what is said with the session's head and sizes is said with the opening's
  by_opening : (P : Head → (ℕ → ℕ) → Type 0) → P st.session.head (size_of st.lists) → P (open_head o) (entry o.sizes)
  by_opening P x =
      subst (λ (size : ℕ → ℕ). P (open_head o) size) c.sizes_are (subst (λ (h : Head). P h (size_of st.lists)) c.head_is x)

  start_is : meta2_at st.session.head (size_of st.lists) m ≡ at
  unfolding open_head meta2_at
  start_is = ap₂ (λ (h : Head) (size : ℕ → ℕ). meta2_at h size m) c.head_is c.sizes_are

  end_is : end_at st.session.head (size_of st.lists) m ≡ end
  unfolding open_head end_at
  end_is = ap₂ (λ (h : Head) (size : ℕ → ℕ). end_at h size m) c.head_is c.sizes_are

  tasks_are : st.session.head.n ≡ tasks o
  unfolding open_head
  tasks_are = ap (λ (h : Head). h.n) c.head_is

  pub closed_as_long : length (close_image st) ≡ length st.image
  closed_as_long = stores.as_long

  pub image_long : end ≤ length (close_image st)
  image_long = omega (arith, end_is, closing.image_long, stores.as_long)

  pub apart : meta1_end (tasks o) ≤ at
  unfolding meta2_start
  apart =
      let f = blocksize_facts o.plan.blocksize c.plan.block in
      omega (arith, meta1_before_data o.plan.blocksize (tasks o) (omega arith))

  pub end_after : end ≡ at + meta2_length (tasks o) m
  unfolding meta2_end
  end_after = refl

  fields_there : take 12 (drop (last_at (tasks o)) (close_image st)) ≡ last_fields (is_big (open_head o)) m at
  unfolding open_head meta2_at
  fields_there =
      by_opening (λ h size. take 12 (drop (last_at h.n) (close_image st)) ≡ last_fields (is_big h) m (meta2_at h size m)) stores.fields

  abbrev pub values : Head → List ℕ
  values h = meta2 (is_big h) h.n m (count_of st.lists) (cell st.table)

  pub second_there : take (meta2_length (tasks o) m) (drop at (close_image st)) ≡ values (open_head o)
  second_there =
      let size : end_at st.session.head (size_of st.lists) m - meta2_at st.session.head (size_of st.lists) m ≡ meta2_length (tasks o) m =
      omega (arith, end_is, start_is, end_after) in
      ap₂ (λ (k b : ℕ). take k (drop b (close_image st))) (sym size) (sym start_is)
      ∙ stores.second ∙ ap values c.head_is

  -- bytes that closing leaves: those before META1's last two fields, those between META1 and META2, and those after META2
  before_kept : (j : ℕ) → j < last_at (tasks o) → get_or (close_image st) j 0 ≡ get_or st.image j 0
  before_kept j l = stores.others j (inl (rw tasks_are l))

  pub between_kept : (j : ℕ) → meta1_end (tasks o) ≤ j → j < at → get_or (close_image st) j 0 ≡ get_or st.image j 0
  between_kept j l h = stores.others j (inr (inl (rw tasks_are l, rw start_is h)))

  pub after_kept : (j : ℕ) → end ≤ j → get_or (close_image st) j 0 ≡ get_or st.image j 0
  after_kept j l = stores.others j (inr (inr (rw end_is l)))

  -- META1 ends with these two fields
  fields_end : last_at (tasks o) + 12 ≡ meta1_end (tasks o)
  unfolding meta1_end
  fields_end = omega arith

  front_there : take (last_at (tasks o)) (close_image st) ≡ meta1_front (open_head o) (entry o.ranks) (entry o.sizes) o.prefix
  front_there =
      let n : ℕ = tasks o in
      let fits : last_at n ≤ length (close_image st) = omega (arith, fields_end, apart, end_after, image_long) in
      part_cong (last_at n) 0 (close_image st) st.image 0 (rw zero-add fits) (rw (zero-add, sym stores.as_long) fits)
      (λ j l. rw zero-add (before_kept j l))
      ∙ c.front

  pub first_there : take (meta1_end (tasks o)) (close_image st) ≡ meta1 (open_head o) (entry o.ranks) (entry o.sizes) o.prefix m at
  unfolding meta1
  first_there =
      ap (λ (k : ℕ). take k (close_image st)) (sym fields_end) ∙ take-add (last_at (tasks o)) 12 (close_image st) ∙ ap₂ ◌++◌ front_there fields_there

  pub length_said : (close_answer st).length ≡ end
  length_said = stores.length_is ∙ end_is

  -- ---- the cells, by what the opening was given

  agree : values_rule (tasks o) m (holds (open_head o) (entry o.sizes)) (count_of st.lists) (cell st.table) ≡ true
  unfolding cells_agree open_head
  agree =
      by_opening (λ h size. values_rule h.n m (holds h size) (count_of st.lists) (cell st.table) ≡ true) closing.agree

  pub closed_most : (i : ℕ) → i < tasks o → count_of st.lists i ≤ m
  closed_most i l = stores.most i (rw tasks_are l)

  pub closed_least : (i : ℕ) → i < tasks o → least_count o.plan.format ≤ count_of st.lists i
  unfolding open_head
  closed_least i l = rw (ap (λ (h : Head). h.format) c.head_is) at (closing.counts i (rw tasks_are l)).0

  pub closed_reached : (i : ℕ) × (i < tasks o) × (count_of st.lists i ≡ m)
  closed_reached = let (i, l, e) = stores.reached in (i, rw (sym tasks_are) l, e)

  pub in_range : (i k : ℕ) → i < tasks o → k < count_of st.lists i
      → InRange 0 (capacity o.plan.blocksize (entry o.sizes i)) (value_in o st k i)
  unfolding open_head holds
  in_range i k l u =
      within_natural 0 _ (value_in o st k i) (values_used (tasks o) m _ _ _ agree i k l (omega (arith, closed_most i l)) u)

  pub not_used : (i k : ℕ) → i < tasks o → count_of st.lists i ≤ k → k < m → value_in o st k i ≡ unused
  not_used i k l u h = values_unused (tasks o) m _ _ _ agree i k l h u

  pub used_small : (i k : ℕ) → i < tasks o → k < count_of st.lists i → natural (value_in o st k i) ≤ max_size
  used_small i k l u =
      let sound = plan_sound o c.plan in
      omega (arith, (in_range i k l u).2, capacity_small o.plan.blocksize (entry o.sizes i) sound.block (sound_size sound i l).1)

  -- ---- the image, whatever follows it

  module _ (tail : List ℕ) where
    pub same_part : (b k : ℕ) → b + k ≤ end → take k (drop b (closed_as st tail)) ≡ take k (drop b (close_image st))
    same_part b k l =
        part_front b k (close_answer st).length (close_image st) tail (omega (arith, length_said)) (omega (arith, length_said, image_long))

    pub closed_long : end ≤ length (closed_as st tail)
    closed_long =
        simp length-append
        (omega (arith, length_said, length-take-le (close_answer st).length (close_image st) (omega (arith, length_said, image_long))))

    pub closed_front : take (last_at (tasks o)) (closed_as st tail) ≡ meta1_front (open_head o) (entry o.ranks) (entry o.sizes) o.prefix
    closed_front = same_part 0 (last_at (tasks o)) (omega (arith, fields_end, apart, end_after)) ∙ front_there

    pub closed_fields : take 12 (drop (last_at (tasks o)) (closed_as st tail)) ≡ last_fields (is_big (open_head o)) m at
    closed_fields = same_part (last_at (tasks o)) 12 (omega (arith, fields_end, apart, end_after)) ∙ fields_there

    pub part_there : meta2_said (closed_as st tail) (contents_of o st) ≡ values (open_head o)
    part_there = same_part at (meta2_length (tasks o) m) (omega (arith, end_after)) ∙ second_there
