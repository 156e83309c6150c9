-- Opening a pair (W-204): its tests, and what an accepted and a refused opening leave. Each file has its own whole list of arguments; file 0's is
-- `o`, and file 1's is `o'`. The two openings are those of the files that they mean, `First` and `Second`.
use Rattle.std.specs.Prelude.{Bool, cond, not, ◌||◌, List, [], ◌∷◌, ◌++◌, ℕ, ◌+◌, ◌*◌, ltb, eqb, ℤ, length}
use Rattle.format.specs.Layout.{image_needed}
use Rattle.format.specs.Refusals.{Test, test, first_failing}
use Rattle.format.specs.Record.{entry, no_lists, too_short}
use Rattle.format.specs.Session.{no_session}
use Rattle.format.specs.Open.{Opening, tasks, plan_tests, open_session, open_lists, open_image, open_found, open_table}
use Rattle.pairs.specs.declared.PairNeeded.{PairNeeded}
use Rattle.pairs.specs.declared.PairOpened.{PairOpened}
use Rattle.pairs.specs.Ranks.{each_once}
use Rattle.pairs.specs.Mapping.{mapping_length}

-- the bytes that an opening needs of one file
abbrev pub needed : Opening → ℕ
needed o = image_needed o.plan.blocksize (tasks o) (entry o.sizes) o.plan.planned

module _ (o o' : Opening) where
  -- "The mapping's room counts in file 0's 18 of a session"
  abbrev pub mapping_room : ℕ
  mapping_room = mapping_length (tasks o) (tasks o')

  -- "Opening tests file 0 up to 20, then file 1 so; then each rank from 0 up must come exactly once over both lists, else 8"
  unfoldable pub pair_plan_tests : List Test
  pair_plan_tests =
      plan_tests o ++ (plan_tests o' ++ (test 8 (not (each_once (tasks o) (tasks o') (entry o.ranks) (entry o'.ranks))) ∷ []))

  -- what an opening is refused with whatever it is lent, or else the lengths below which it is refused with 18
  unfoldable pub pair_needs : PairNeeded
  pair_needs =
      cond (eqb (first_failing pair_plan_tests) 0)
      (record {
        refusal = 0;
        image0 = needed o + mapping_room;
        cells0 = tasks o * o.plan.planned;
        image1 = needed o';
        cells1 = tasks o' * o'.plan.planned;
      })
      (record { refusal = first_failing pair_plan_tests; image0 = 0; cells0 = 0; image1 = 0; cells1 = 0 })

  -- "then 18 for file 0, then file 1", by the lengths of what is lent
  unfoldable pub pair_open_refusal : ℕ → ℕ → ℕ → ℕ → ℕ
  pair_open_refusal image cells image' cells' =
      first_failing
      (pair_plan_tests
      ++ (test 18 (ltb image (needed o + mapping_room) || ltb cells (tasks o * o.plan.planned))
      ∷ test 18 (too_short o'.plan.blocksize (tasks o') (entry o'.sizes) o'.plan.planned image' cells')
      ∷ []))

  module _ (image : List ℕ) (table : List ℤ) (image' : List ℕ) (table' : List ℤ) where
    abbrev pub pair_refused : ℕ
    pair_refused = pair_open_refusal (length image) (length table) (length image') (length table')

    unfoldable pub pair_opens : Bool
    pair_opens = eqb pair_refused 0

    -- "A refused opening or load hands back a record of zeros marked closed", here two
    unfoldable pub pair_opened : PairOpened
    pair_opened =
        cond pair_opens
        (record { session0 = open_session o; lists0 = open_lists o; session1 = open_session o'; lists1 = open_lists o'; refusal = 0 })
        (record { session0 = no_session; lists0 = no_lists; session1 = no_session; lists1 = no_lists; refusal = pair_refused })

    -- what is left of each image and each table, within a budget of byte stores for each image (W-212) and with all of them
    unfoldable pub pair_found : ℕ → ℕ → List ℕ × List ℕ
    pair_found b b' = cond pair_opens (open_found o image table b, open_found o' image' table' b') (image, image')

    unfoldable pub pair_images : List ℕ × List ℕ
    pair_images = cond pair_opens (open_image o image table, open_image o' image' table') (image, image')

    unfoldable pub pair_tables : List ℤ × List ℤ
    pair_tables = cond pair_opens (open_table o image table, open_table o' image' table') (table, table')
