-- What C is handed for the answers that code gives as results: the number of the refusal, 0 where there is none, beside what was asked for, or
-- zeros.
use Rattle.std.specs.Prelude.{ℕ, Result, Ok, Err}
use Rattle.format.specs.declared.refusal.Refusal.{Refusal}
use Rattle.format.specs.declared.loaded.Place.{Place}
use Rattle.format.specs.declared.loaded.Part.{Part}
use Rattle.format.specs.declared.loaded.ByteCount.{ByteCount}
use Rattle.format.specs.declared.session.Session.{Session}
use Rattle.format.specs.declared.session.Room.{Room}
use Rattle.format.specs.declared.session.Needed.{Needed}
use Rattle.format.specs.declared.session.Finished.{Finished}
use Rattle.format.specs.declared.session.Closed.{Closed}
use Rattle.format.specs.Refusals.{number_of}

abbrev pub part_of : Result Place Refusal → Part
part_of (Ok place) = record { refusal = 0; start = place.start; length = place.length }
part_of (Err refusal) = record { refusal = number_of refusal; start = 0; length = 0 }

abbrev pub byte_count : Result ℕ Refusal → ByteCount
byte_count (Ok bytes) = record { refusal = 0; bytes = bytes }
byte_count (Err refusal) = record { refusal = number_of refusal; bytes = 0 }

abbrev pub needed_of : Result Room Refusal → Needed
needed_of (Ok room) = record { refusal = 0; image = room.image; cells = room.cells }
needed_of (Err refusal) = record { refusal = number_of refusal; image = 0; cells = 0 }

-- a refused close hands the session back as it was given
abbrev pub closed_of : Session → Result Finished Refusal → Closed
closed_of given (Ok finished) = record { refusal = 0; session = finished.session; length = finished.length }
closed_of given (Err refusal) = record { refusal = number_of refusal; session = given; length = 0 }
