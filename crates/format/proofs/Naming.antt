-- Tests beside the fields that they judge, whatever the fields are: the first test that fails names the first field that breaks its rule.
use mathlib.Core.Path.{◌≡◌, refl, sym, ap, ◌∙◌}
use mathlib.Core.Bool.{Bool, true, false, false≢true}
use mathlib.Core.List.{List, [], ◌∷◌, ◌++◌}
use Prim.Native.Nat.{ℕ, zero, suc, ◌<◌}
use native.Mathlib.Omega.{arith}
use lib.IntN.{ℤ}
use Rattle.lists.specs.Below.{join_below}
use Rattle.lists.specs.Logic.{Not, Exactly}
use Rattle.format.specs.Refusals.{Test, first_failing, first_fault}
use Rattle.format.proofs.Refusals.{Passed}

-- what is said of each field: its refusal number, kind, task and chunk; where it stands, what it says, and its rule
pub record Naming (F : Type 0) : Type 1 where
  pub named : F → List ℕ
  pub place_of : F → ℕ
  pub says_of : F → ℤ
  pub Keeps : F → Type 0

module _ {F : Type 0} (w : Naming F) where
  -- a test judges a field; lists of both, side by side, each where the fields before it keep their rules
  pub record Fits (t : Test) (f : F) : Type 0 where
    pub names : t.number ∷ t.fault.field ∷ t.fault.task ∷ t.fault.chunk ∷ [] ≡ w.named f
    pub stands_at : t.fault.place ≡ w.place_of f
    pub says_so : t.fault.says ≡ w.says_of f
    pub exact : Exactly (t.fails ≡ false) (w.Keeps f)

  abbrev pub Pairs : List Test → List F → Type 0
  Pairs [] [] = Unit {0}
  Pairs [] (f ∷ fs) = ⊥
  Pairs (t ∷ ts) [] = ⊥
  Pairs (t ∷ ts) (f ∷ fs) = Fits t f × (w.Keeps f → Pairs ts fs)

  pub pairs_append : (ts us : List Test) (fs gs : List F) → Pairs ts fs → Pairs us gs → Pairs (ts ++ us) (fs ++ gs)
  pairs_append [] us [] gs p q = q
  pairs_append [] us (f ∷ fs) gs p q = absurd p
  pairs_append (t ∷ ts) us [] gs p q = absurd p
  pairs_append (t ∷ ts) us (f ∷ fs) gs p q = (p.0, λ keeps. pairs_append ts us fs gs (p.1 keeps) q)

  pub pairs_join : (ts : ℕ → List Test) (fs : ℕ → List F) (n : ℕ) → ((k : ℕ) → k < n → Pairs (ts k) (fs k)) → Pairs (join_below n ts) (join_below n fs)
  unfolding join_below
  pairs_join ts fs zero p = tt
  pairs_join ts fs (suc n) p =
      pairs_append (join_below n ts) (ts n) (join_below n fs) (fs n) (pairs_join ts fs n (λ k l. p k (omega arith))) (p n (omega arith))

  -- every field of a list keeps its rule
  abbrev pub AllKeep : List F → Type 0
  AllKeep [] = Unit {0}
  AllKeep (f ∷ fs) = w.Keeps f × AllKeep fs

  -- the first test that fails names the first field that breaks its rule
  pub record Found (ts : List Test) (fs : List F) : Type 0 where
    pub field : F
    pub earlier : List F
    pub later : List F
    pub in_order : fs ≡ earlier ++ (field ∷ later)
    pub names : first_failing ts ∷ (first_fault ts).field ∷ (first_fault ts).task ∷ (first_fault ts).chunk ∷ [] ≡ w.named field
    pub stands_at : (first_fault ts).place ≡ w.place_of field
    pub says_so : (first_fault ts).says ≡ w.says_of field
    pub breaks : Not (w.Keeps field)
    pub kept : AllKeep earlier

  pub find : (ts : List Test) (fs : List F) → Pairs ts fs → 0 < first_failing ts → Found ts fs
  unfolding first_failing first_fault
  find [] [] p l = absurd (omega arith)
  find [] (f ∷ fs) p l = absurd p
  find (t ∷ ts) [] p l = absurd p
  find (t ∷ ts) (f ∷ fs) p l = go t.fails refl (λ keeps. find ts fs (p.1 keeps))
    where
      go : (b : Bool) → t.fails ≡ b → (w.Keeps f → 0 < first_failing ts → Found ts fs) → Found (t ∷ ts) (f ∷ fs)
      go true e rest = record {
        field = f;
        earlier = [];
        later = fs;
        in_order = refl;
        names = rw e p.0.names;
        stands_at = rw e p.0.stands_at;
        says_so = rw e p.0.says_so;
        breaks = λ keeps. false≢true (sym (p.0.exact.1 keeps) ∙ e);
        kept = tt;
      }
      go false e rest =
          let keeps = p.0.exact.0 e in
          let r = rest keeps (rw e at l) in
          record {
            field = r.field;
            earlier = f ∷ r.earlier;
            later = r.later;
            in_order = ap (λ (gs : List F). f ∷ gs) r.in_order;
            names = rw e r.names;
            stands_at = rw e r.stands_at;
            says_so = rw e r.says_so;
            breaks = r.breaks;
            kept = (keeps, r.kept);
          }

  -- where all pass, every field keeps its rule
  pub all_kept : (ts : List Test) (fs : List F) → Pairs ts fs → Passed ts → AllKeep fs
  all_kept [] [] p h = tt
  all_kept [] (f ∷ fs) p h = absurd p
  all_kept (t ∷ ts) [] p h = absurd p
  all_kept (t ∷ ts) (f ∷ fs) p h = let keeps = p.0.exact.0 h.0 in (keeps, all_kept ts fs (p.1 keeps) h.1)
