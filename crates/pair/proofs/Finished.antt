-- An opened pair, written to and closed: each file is as a single file's close finishes it, and in file 0 the mapping stands after META2.
use mathlib.Core.Path.{sym, subst, ◌∙◌}
use mathlib.Core.Bool.{true, false}
use mathlib.Core.List.{List}
use Prim.Native.Nat.{ℕ}
use lib.IntN.{ℤ}
use Rattle.format.specs.Session.{State}
use Rattle.format.specs.Open.{Opening}
use Rattle.format.specs.Write.{Request}
use Rattle.container.specs.Start.{opened_start, greatest_count}
use Rattle.container.specs.WrittenBack.{Finished}
use Rattle.container.proofs.Finished.{finished}
use Rattle.pairs.specs.Sessions.{pair_close_refusal}
use Rattle.pair_opening.proofs.Opened.{first_opens, second_opens}
use Rattle.pair.specs.Start.{opened_pair, pair_after}
use Rattle.pair.specs.Room.{in_file}
use Rattle.pair.specs.WrittenBack.{PairFinished}
use Rattle.pair.specs.Main.{PairOpens}
use Rattle.pair.proofs.Opens.{open_number_is}
use Rattle.pair.proofs.Starts.{pair_starts}
use Rattle.pair.proofs.Rooms.{after_is, pair_room}
use Rattle.pair.proofs.Closes.{pair_close_number, pair_close_stores}

pub pair_finished : (o o' : Opening) (image : List ℕ) (table : List ℤ) (image' : List ℕ) (table' : List ℤ)
    → PairOpens o o' image table image' table' → (qs : List Request) → PairFinished o o' image table image' table' qs
unfolding pair_close_refusal
pair_finished o o' image table image' table' (first, second, opens) qs =
    let s = opened_pair o o' image table image' table' in
    let is = pair_starts o o' image table image' table' first second opens in
    let passed = sym (open_number_is o o' image table image' table') ∙ opens in
    let own = in_file s false qs in
    let own' = in_file s true qs in
    record {
      first =
          subst (λ (st : State). Finished o image table own st (greatest_count (opened_start o image table) own)) (sym (after_is s is qs false))
          (finished o image table own (first_opens o o' _ _ _ _ passed));
      second =
          subst (λ (st : State). Finished o' image' table' own' st (greatest_count (opened_start o' image' table') own')) (sym (after_is s is qs true))
          (finished o' image' table' own' (second_opens o o' _ _ _ _ passed));
      stored = pair_close_stores (pair_after s qs) (pair_close_number (pair_after s qs) ∙ (pair_room s is qs).alive);
    }
