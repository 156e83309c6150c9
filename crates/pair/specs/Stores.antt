-- Demand 2 of a pair's opening and closing (W-204): which openings are accepted, and what an accepted opening and an accepted close leave in each file.
-- Tasks are counted from 0: i for task i + 1.
use Rattle.std.specs.Prelude.{◌≡◌, Bool, cond, List, ◌⊎◌, ℕ, ◌+◌, ◌*◌, ◌≤◌, ◌<◌, ℤ, length, get_or, take, drop}
use Rattle.lists.specs.Logic.{Exactly}
use Rattle.format.specs.Record.{entry, is_big}
use Rattle.format.specs.Session.{as_closed}
use Rattle.format.specs.Open.{Opening, tasks, open_answer, open_image, open_table}
use Rattle.format.specs.Close.{close_answer, close_image}
use Rattle.format.specs.Accepted.{bytes_for, GoodPlan}
use Rattle.pairs.specs.Open.{pair_needs, pair_opened, pair_images, pair_tables}
use Rattle.pairs.specs.Mapping.{mapping}
use Rattle.pairs.specs.Sessions.{Pair, tasks₀, tasks₁, ranks₀, ranks₁, size, pair_closed, pair_close_images}

-- ---- which openings are accepted

module _ (o o' : Opening) where
  -- task i + 1 of file 0 or of file 1 carries a rank
  abbrev pub Carries : ℕ → Bool → ℕ → Type 0
  Carries r second i = let x = cond second o' o in (i < tasks x) × (entry x.ranks i ≡ r)

  -- each file keeps a single file's rules, and "each rank from 0 up must come exactly once over both lists"
  pub record GoodPair : Type 0 where
    pub first : GoodPlan o
    pub second : GoodPlan o'
    pub comes : (r : ℕ) → r < tasks o + tasks o' → (second : Bool) × (i : ℕ) × Carries r second i
    pub once : (r : ℕ) → (second second' : Bool) → (i i' : ℕ) → Carries r second i → Carries r second' i' → (second ≡ second') × (i ≡ i')

  -- the bytes of file 0 that a pair needs, with the mapping's room, and those of file 1
  abbrev pub bytes₀ : ℕ
  bytes₀ = bytes_for o.plan.blocksize (tasks o) (entry o.sizes) o.plan.planned + (4 + 8 * (tasks o + tasks o'))

  abbrev pub bytes₁ : ℕ
  bytes₁ = bytes_for o'.plan.blocksize (tasks o') (entry o'.sizes) o'.plan.planned

  -- what is needed, whatever is lent
  pub record PairNeedsExactly : Type 0 where
    pub plans : Exactly ((pair_needs o o').refusal ≡ 0) GoodPair
    pub needed : GoodPair
        → ((pair_needs o o').image0 ≡ bytes₀)
        × ((pair_needs o o').cells0 ≡ tasks o * o.plan.planned)
        × ((pair_needs o o').image1 ≡ bytes₁)
        × ((pair_needs o o').cells1 ≡ tasks o' * o'.plan.planned)

  module _ (image : List ℕ) (table : List ℤ) (image' : List ℕ) (table' : List ℤ) where
    pub record GoodPairOpening : Type 0 where
      pub plans : GoodPair
      pub image_long : bytes₀ ≤ length image
      pub table_long : tasks o * o.plan.planned ≤ length table
      pub image_long' : bytes₁ ≤ length image'
      pub table_long' : tasks o' * o'.plan.planned ≤ length table'

    -- accepted exactly where its arguments keep the rules; and then each file is as its own opening leaves it
    pub record PairOpensExactly : Type 0 where
      pub opens : Exactly ((pair_opened o o' image table image' table').refusal ≡ 0) GoodPairOpening
      pub own_opens : GoodPairOpening → ((open_answer o image table).refusal ≡ 0) × ((open_answer o' image' table').refusal ≡ 0)
      pub own_answers_hold : GoodPairOpening
          → pair_opened o o' image table image' table'
          ≡ record {
            session0 = (open_answer o image table).session;
            lists0 = (open_answer o image table).lists;
            session1 = (open_answer o' image' table').session;
            lists1 = (open_answer o' image' table').lists;
            refusal = 0;
          }
      pub own_images : GoodPairOpening → pair_images o o' image table image' table' ≡ (open_image o image table, open_image o' image' table')
      pub own_tables : GoodPairOpening → pair_tables o o' image table image' table' ≡ (open_table o image table, open_table o' image' table')

-- ---- what an accepted close leaves, whatever sessions came in: of file 1 what its own close leaves, of file 0 that and the mapping after META2, "and
-- file 0's length ends with it"

module _ (p : Pair) where
  -- where META2 of file 0 ends, as its own close says
  abbrev pub own_length : ℕ
  own_length = (close_answer p.first).length

  pub record PairCloseStores : Type 0 where
    pub own_closes : ((close_answer p.first).refusal ≡ 0) × ((close_answer p.second).refusal ≡ 0)
    pub sessions : ((pair_closed p).session0 ≡ as_closed p.first.session) × ((pair_closed p).session1 ≡ as_closed p.second.session)
    pub length_0 : (pair_closed p).length0 ≡ own_length + (4 + 8 * size p)
    pub length_1 : (pair_closed p).length1 ≡ (close_answer p.second).length
    pub mapped : take (4 + 8 * size p) (drop own_length (pair_close_images p).0)
        ≡ mapping (tasks₀ p) (tasks₁ p) (ranks₀ p) (ranks₁ p) (is_big p.first.session.head)
    pub others : (j : ℕ) → (j < own_length) ⊎ (own_length + (4 + 8 * size p) ≤ j) → get_or (pair_close_images p).0 j 0 ≡ get_or (close_image p.first) j 0
    pub as_long : length (pair_close_images p).0 ≡ length p.first.image
    pub inside : (pair_closed p).length0 ≤ length p.first.image
    pub image_1 : (pair_close_images p).1 ≡ close_image p.second
