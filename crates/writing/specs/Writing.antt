-- A write as code decides and stores it: the decision, and the chunk that the bytes go to.
use Rattle.std.specs.Prelude.{cond, List, ℕ, ◌+◌, ◌-◌, ◌≤◌, leb, length, Option, Some, None, Result, Ok, Err}
use Rattle.format.specs.Limits.{max_blocks, Sound}
use Rattle.format.specs.declared.head.Head.{Head}
use Rattle.format.specs.declared.refusal.Refusal.{Refusal}
use Rattle.format.specs.Refusals.{number_of}
use Rattle.format.specs.Record.{entry, holds, start_of}
use Rattle.format.specs.Session.{State}
use Rattle.format.specs.Write
use Rattle.format.specs.Write.{Request, spot, takes_bytes, write_refusal}
use Rattle.writing.specs.declared.Spot.{Spot}

-- what is decided of a write: a refusal, and where its bytes go, if any are stored
pub record Decision : Type 0 where
  pub refusal : ℕ
  pub goes : Option Write.Spot

abbrev pub to : Write.Spot → Decision
to spot = record { refusal = 0; goes = Some spot }

abbrev pub nothing : ℕ → Decision
nothing refusal = record { refusal = refusal; goes = None }

-- "Else they go to the start of its next chunk, if its number is at most K"
unfoldable pub next_chunk : ℕ → ℕ → Decision
next_chunk planned begun = cond (leb (begun + 1) planned) (to (record { chunk = begun + 1; from = 0 })) (nothing 16)

module _ (st : State) (q : Request) where
  -- nothing is stored of a request that is refused or has no bytes
  unfoldable pub decision : Decision
  decision = record { refusal = write_refusal st q; goes = cond (takes_bytes st q) (Some (spot st q)) None }

-- the decision that code's answer is: of a request that has bytes, and of any
abbrev pub placed : Result Spot Refusal → Decision
placed (Ok spot) = to (record { chunk = spot.chunk; from = spot.from })
placed (Err refusal) = nothing (number_of refusal)

abbrev pub decided : Result (Option Spot) Refusal → Decision
decided (Ok (Some spot)) = placed (Ok spot)
decided (Ok None) = nothing 0
decided (Err refusal) = placed (Err refusal)

-- ---- what the store of the bytes asks for

-- the chunk is there, and has room for the bytes
pub record ChunkThere (h : Head) (sizes : List ℕ) (task chunk from : ℕ) (bytes image : List ℕ) : Type 0 where
  pub sound : Sound h.blocksize h.n sizes
  pub first_task : 1 ≤ task
  pub last_task : task ≤ h.n
  pub first_chunk : 1 ≤ chunk
  pub few : chunk ≤ max_blocks
  pub fits : from + length bytes ≤ holds h (entry sizes) (task - 1)
  pub inside : start_of h (entry sizes) task chunk + holds h (entry sizes) (task - 1) ≤ length image
