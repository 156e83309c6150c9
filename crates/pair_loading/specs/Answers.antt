-- What C is handed for what a pair's tests give as a Result: both records beside their lists, or what is broken beside two records of zeros marked
-- closed.
use Rattle.std.specs.Prelude.{List, ℕ, Result, Ok, Err}
use Rattle.format.specs.declared.fault.Broken.{Broken}
use Rattle.format.specs.declared.loaded.Loaded.{Loaded}
use Rattle.format.specs.Refusals.{no_fault, number_of}
use Rattle.format.specs.Record.{no_lists}
use Rattle.format.specs.Loaded.{no_loaded}
use Rattle.pairs.specs.declared.PairLoaded.{PairLoaded}
use Rattle.pair_loading.specs.declared.PairBroken.{PairBroken}

abbrev pub refused_pair : ℕ → Broken → PairLoaded
refused_pair file broken =
    record {
      loaded0 = no_loaded;
      lists0 = no_lists;
      loaded1 = no_loaded;
      lists1 = no_lists;
      refusal = number_of broken.refusal;
      file = file;
      fault = broken.fault;
    }

abbrev pub pair_loaded_of : Result (Loaded × Loaded) PairBroken → List ℕ → List ℕ → PairLoaded
pair_loaded_of (Ok both) lists0 lists1 =
    record { loaded0 = both.0; lists0 = lists0; loaded1 = both.1; lists1 = lists1; refusal = 0; file = 0; fault = no_fault }
pair_loaded_of (Err broken) lists0 lists1 = refused_pair broken.file broken.broken
