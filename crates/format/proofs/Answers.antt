-- What a write is answered once 17, 18 and 19 pass, by the tests of its request.
use mathlib.Core.Path.{◌≡◌, ◌∙◌}
use mathlib.Core.Bool.{true, false, cond}
use Prim.Native.Nat.{◌≤◌, ◌<◌}
use native.Mathlib.Omega.{arith}
use lib.Dec.{ltb}
use lib.ListN.{length}
use borrow.Author.Tests.{lt-ltb, le-ltb, eq-eqb, ne_eqb}
use Rattle.format.specs.Refusals.{first_failing}
use Rattle.format.specs.Record.{is_task}
use Rattle.format.proofs.Refusals.{first_passes}
use Rattle.format.specs.Session.{State, session_tests}
use Rattle.format.specs.Write.{Request, capacity_of, spot, request_tests, write_refusal}
use Rattle.format.proofs.Sessions.{session_numbered}

module _ (st : State) (q : Request) (passes : first_failing (session_tests st) ≡ 0) where
  asked : write_refusal st q ≡ first_failing (request_tests st q)
  unfolding write_refusal
  asked = first_passes (session_tests st) (request_tests st q) (session_numbered st) passes

  pub answer_no_task : is_task st.session.head.n q.task ≡ false → write_refusal st q ≡ 14
  unfolding request_tests first_failing
  answer_no_task e = asked ∙ rw e

  module _ (task : is_task st.session.head.n q.task ≡ true) where
    pub answer_empty : length q.bytes ≡ 0 → write_refusal st q ≡ 0
    unfolding request_tests first_failing
    answer_empty e = asked ∙ rw (task, eq-eqb (length q.bytes) 0 e)

    pub answer_long : capacity_of st q < length q.bytes → write_refusal st q ≡ 15
    unfolding request_tests first_failing
    answer_long l = asked ∙ rw (task, ne_eqb (length q.bytes) 0 (λ z. omega arith), lt-ltb _ _ l)

    pub answer_chunk : 0 < length q.bytes → length q.bytes ≤ capacity_of st q
        → write_refusal st q ≡ cond (ltb st.session.planned (spot st q).chunk) 16 0
    unfolding request_tests first_failing
    answer_chunk some short = asked ∙ rw (task, ne_eqb (length q.bytes) 0 (λ z. omega arith), le-ltb _ _ short)
