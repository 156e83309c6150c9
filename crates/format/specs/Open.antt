-- Opening a session (document 01, "A session"): its tests, and what an accepted and a refused opening leave.
use Rattle.std.specs.Prelude.{Bool, cond, not, ◌||◌, List, [], ◌∷◌, ◌++◌, ℕ, ◌-◌, ◌*◌, ltb, eqb, ℤ, pos, length, replicate}
use Rattle.lists.specs.Splice.{splice}
use Rattle.lists.specs.Stores.{Store, applied, found}
use Rattle.format.specs.Limits.{format_rule, blocksize_rule, tasks_rule, ranks_rule, sizes_rule, planned_rule}
use Rattle.format.specs.Layout.{meta2_end}
use Rattle.format.specs.declared.head.Head.{Head}
use Rattle.format.specs.declared.head.File.{File}
use Rattle.format.specs.declared.session.Session.{Session}
use Rattle.format.specs.declared.session.Needed.{Needed}
use Rattle.format.specs.declared.session.Opened.{Opened}
use Rattle.format.specs.declared.session.Plan.{Plan}
use Rattle.format.specs.Refusals.{Test, test, first_failing}
use Rattle.format.specs.Meta1.{prefix_length, opening_stores}
use Rattle.format.specs.Meta2.{unused, least_count}
use Rattle.format.specs.Record.{entry, lists_of, no_lists, is_order, files_of, file_of, too_short, head_of}
use Rattle.format.specs.Session.{State, state_of, session_of, no_session}

-- what opening is given beside the image and the table, with the file that the call means
pub record Opening : Type 0 where
  pub file : File
  pub plan : Plan
  pub ranks : List ℕ
  pub sizes : List ℕ
  pub prefix : List ℕ

abbrev pub opening_of : File → Plan → List ℕ → List ℕ → List ℕ → Opening
opening_of file plan ranks sizes prefix = record { file = file; plan = plan; ranks = ranks; sizes = sizes; prefix = prefix }

-- "2, 5, 6, 21", and 4 "right after 2" (W-209): of the order, the format, the blocksize, and how many ranks, sizes and bytes of the prefix there are
unfoldable pub shape_tests : ℕ → ℕ → ℕ → ℕ → ℕ → ℕ → List Test
shape_tests order format blocksize ranks sizes prefix =
    test 2 (not (is_order order))
    ∷ test 4 (not (format_rule (pos format)))
    ∷ test 5 (not (blocksize_rule (pos blocksize)))
    ∷ test 6 (not (tasks_rule (pos ranks)) || not (eqb ranks sizes))
    ∷ test 21 (ltb prefix_length prefix)
    ∷ []

-- "8, 9, 20": of the ranks, the sizes and K
unfoldable pub number_tests : List ℕ → List ℕ → ℕ → List Test
number_tests ranks sizes planned =
    test 8 (not (ranks_rule (length ranks) (λ i. pos (entry ranks i))))
    ∷ test 9 (not (sizes_rule (length ranks) (λ i. pos (entry sizes i))))
    ∷ test 20 (not (planned_rule (pos planned)))
    ∷ []

-- the cells of a session in which each of n tasks has begun so many chunks and written nothing: 0 in those of the chunks begun, "-1" in the others
unfoldable pub blank_cells : ℕ → ℕ → ℕ → List ℤ
blank_cells begun n planned = replicate (n * begun) (pos 0) ++ replicate (n * (planned - begun)) unused

module _ (o : Opening) where
  abbrev pub tasks : ℕ
  tasks = length o.ranks

  -- "2, 4, 5, 6, 21, 8, 9, 20": the tests of the plan
  unfoldable pub plan_tests : List Test
  plan_tests =
      shape_tests o.plan.order o.plan.format o.plan.blocksize tasks (length o.sizes) (length o.prefix)
      ++ number_tests o.ranks o.sizes o.plan.planned

  -- what an opening is refused with whatever it is lent, or else the lengths below which it is refused with 18
  unfoldable pub needs_answer : Needed
  needs_answer =
      cond (eqb (first_failing plan_tests) 0)
      (record { refusal = 0; image = meta2_end o.plan.blocksize tasks (entry o.sizes) o.plan.planned; cells = tasks * o.plan.planned })
      (record { refusal = first_failing plan_tests; image = 0; cells = 0 })

  -- then 18: "The image needs D + K·G + 8n(1+K) bytes", the table "at least n times K" cells
  unfoldable pub open_refusal : ℕ → ℕ → ℕ
  open_refusal imageLength cells =
      first_failing
      (plan_tests ++ (test 18 (too_short o.plan.blocksize tasks (entry o.sizes) o.plan.planned imageLength cells) ∷ []))

  unfoldable pub open_head : Head
  open_head =
      head_of o.plan.order o.plan.version o.plan.patch o.plan.format o.plan.blocksize tasks (files_of o.file) (file_of o.file)

  -- not marked closed
  unfoldable pub open_session : Session
  open_session = session_of open_head o.plan.planned 0

  -- each task with the least count: no chunk begun, and in version 4 one
  unfoldable pub open_lists : List ℕ
  open_lists = lists_of tasks (entry o.ranks) (entry o.sizes) (λ i. least_count o.plan.format)

  module _ (image : List ℕ) (table : List ℤ) where
    unfoldable pub opens : Bool
    opens = eqb (open_refusal (length image) (length table)) 0

    unfoldable pub open_answer : Opened
    open_answer =
        cond opens (record { session = open_session; lists = open_lists; refusal = 0 })
        (record { session = no_session; lists = no_lists; refusal = open_refusal (length image) (length table) })

    -- "Opening writes META1 and zeros up to D, and -1 in the first n·K cells. Nothing else changes."; "A fresh version 4 session has count 1 and cell
    -- 0 for each task" (W-209)
    unfoldable pub open_stores : List Store
    open_stores = cond opens (opening_stores open_head (entry o.ranks) (entry o.sizes) o.prefix) []

    unfoldable pub open_image : List ℕ
    open_image = applied image open_stores

    -- "with a budget of byte stores: what it leaves when that is spent is what is found" (W-212)
    unfoldable pub open_found : ℕ → List ℕ
    open_found budget = found budget image open_stores

    unfoldable pub open_table : List ℤ
    open_table = cond opens (splice table 0 (blank_cells (least_count o.plan.format) tasks o.plan.planned)) table

    -- the record, the image and the table as an opening hands them back
    abbrev pub opened : State
    opened = state_of o.file open_answer.session open_answer.lists open_image open_table
