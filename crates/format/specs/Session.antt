-- Document 01, "A session": the record of a session, its numbers and its lists, with its image and its table; when it is sound, what is tested of
-- it at every call, and how it is made and changed.
use Rattle.std.specs.Prelude.{Bool, ◌&&◌, List, ℕ, ℤ, pos, set}
use Rattle.lists.specs.Below.{all_below}
use Rattle.endian.specs.Signed.{within}
use Rattle.format.specs.Limits.{planned_rule}
use Rattle.format.specs.declared.head.Head.{Head}
use Rattle.format.specs.declared.head.File.{File}
use Rattle.format.specs.Refusals.{Test}
use Rattle.format.specs.Meta2.{least_count}
use Rattle.format.specs.Record.{count_of, count_at, suits, head_sound, record_tests, no_head}
use Rattle.format.specs.declared.session.Session.{Session}

-- with the file that its calls mean
pub record State : Type 0 where
  pub file : File
  pub session : Session
  pub lists : List ℕ
  pub image : List ℕ
  pub table : List ℤ

abbrev pub state_of : File → Session → List ℕ → List ℕ → List ℤ → State
state_of file session lists image table = record { file = file; session = session; lists = lists; image = image; table = table }

-- "A record is unsound if its fields break the rules above (a session's counts are at most K; ..)"; in version 4 they are at least 1; "17 also where
-- they do not suit the call" (W-204)
unfoldable pub session_sound : File → Session → List ℕ → Bool
session_sound f s lists =
    head_sound s.head lists
    && planned_rule (pos s.planned)
    && all_below s.head.n (λ i. within (least_count s.head.format) s.planned (pos (count_of lists i)))
    && suits f s.head

-- "17, 18, 19"
unfoldable pub session_tests : State → List Test
session_tests st =
    record_tests st.session.closed (session_sound st.file st.session st.lists) st.session.head st.lists st.session.planned st.image
    st.table

-- ---- the places where a session's record is made or changed

abbrev pub session_of : Head → ℕ → ℕ → Session
session_of head planned closed = record { head = head; planned = planned; closed = closed }

-- the numbers of "a record of zeros marked closed"
abbrev pub no_session : Session
no_session = session_of no_head 0 1

abbrev pub as_closed : Session → Session
as_closed s = session_of s.head s.planned 1

-- with another count of task i + 1
abbrev pub with_count : List ℕ → ℕ → ℕ → List ℕ
with_count lists i count = set lists (count_at i) count
