-- What C is handed for a pair's answers that code gives as results: the number of the refusal, 0 where there is none, beside what was asked for, or
-- zeros.
use Rattle.std.specs.Prelude.{Result, Ok, Err}
use Rattle.format.specs.declared.refusal.Refusal.{Refusal}
use Rattle.format.specs.declared.session.Session.{Session}
use Rattle.format.specs.Refusals.{number_of}
use Rattle.pairs.specs.declared.PairRoom.{PairRoom}
use Rattle.pairs.specs.declared.PairNeeded.{PairNeeded}
use Rattle.pairs.specs.declared.PairFinished.{PairFinished}
use Rattle.pairs.specs.declared.PairClosed.{PairClosed}
use Rattle.pairs.specs.declared.PairPlace.{PairPlace}
use Rattle.pairs.specs.declared.PairPart.{PairPart}

abbrev pub pair_needed_of : Result PairRoom Refusal → PairNeeded
pair_needed_of (Ok room) = record { refusal = 0; image0 = room.image0; cells0 = room.cells0; image1 = room.image1; cells1 = room.cells1 }
pair_needed_of (Err refusal) = record { refusal = number_of refusal; image0 = 0; cells0 = 0; image1 = 0; cells1 = 0 }

-- a refused close hands the sessions back as they were given
abbrev pub pair_closed_of : Session → Session → Result PairFinished Refusal → PairClosed
pair_closed_of s₀ s₁ (Ok done) =
    record { refusal = 0; session0 = done.session0; session1 = done.session1; length0 = done.length0; length1 = done.length1 }
pair_closed_of s₀ s₁ (Err refusal) = record { refusal = number_of refusal; session0 = s₀; session1 = s₁; length0 = 0; length1 = 0 }

abbrev pub pair_part_of : Result PairPlace Refusal → PairPart
pair_part_of (Ok place) = record { refusal = 0; file = place.file; start = place.start; length = place.length }
pair_part_of (Err refusal) = record { refusal = number_of refusal; file = 0; start = 0; length = 0 }
