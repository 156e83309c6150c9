-- Each return by the tests that led there.
use borrow.Author.Tests.{lt-ltb, le-ltb}
use Rattle.format.specs.Refusals.{first_failing}
use Rattle.pair_opening.specs.Short.{short_of}
use Rattle.pair_opening.proofs.test_room.Goals as goal

pub returns-then-image0-room : goal.returns-then-image0-room
unfolding short_of first_failing
returns-then-image0-room c =
    let a = c.args in
    simp (lt-ltb a.image0 a.room.image0 c.if-image0-room.true)

pub returns-then-cells0-room : goal.returns-then-cells0-room
unfolding short_of first_failing
returns-then-cells0-room c =
    let a = c.args in
    simp (
      le-ltb a.image0 a.room.image0 c.if-image0-room.false,
      lt-ltb a.cells0 a.room.cells0 c.if-cells0-room.true,
    )

pub returns-then-image1-room : goal.returns-then-image1-room
unfolding short_of first_failing
returns-then-image1-room c =
    let a = c.args in
    simp (
      le-ltb a.image0 a.room.image0 c.if-image0-room.false,
      le-ltb a.cells0 a.room.cells0 c.if-cells0-room.false,
      lt-ltb a.image1 a.room.image1 c.if-image1-room.true,
    )

pub returns-then-cells1-room : goal.returns-then-cells1-room
unfolding short_of first_failing
returns-then-cells1-room c =
    let a = c.args in
    simp (
      le-ltb a.image0 a.room.image0 c.if-image0-room.false,
      le-ltb a.cells0 a.room.cells0 c.if-cells0-room.false,
      le-ltb a.image1 a.room.image1 c.if-image1-room.false,
      lt-ltb a.cells1 a.room.cells1 c.if-cells1-room.true,
    )

pub returns : goal.returns
unfolding short_of first_failing
returns c =
    let a = c.args in
    simp (
      le-ltb a.image0 a.room.image0 c.if-image0-room.false,
      le-ltb a.cells0 a.room.cells0 c.if-cells0-room.false,
      le-ltb a.image1 a.room.image1 c.if-image1-room.false,
      le-ltb a.cells1 a.room.cells1 c.if-cells1-room.false,
    )
