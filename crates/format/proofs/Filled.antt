-- Laws of a record's list: n entries, then zeros, up to the most tasks.
use mathlib.Core.Path.{◌≡◌, refl, ap, sym, ◌∙◌, fun_ext}
use mathlib.Core.Bool.{Bool, true, false, cond}
use mathlib.Core.List.{List, [], ◌∷◌}
use Prim.Native.Nat.{ℕ, ◌<◌, ◌≤◌}
use native.Mathlib.Omega.{arith}
use borrow.Author.Tests.{lt-ltb, le-ltb, ltb-true, ltb-false}
use lib.Dec.{ltb}
use lib.ListN.{length, get_or, get_or-eq_default}
use Rattle.lists.proofs.Below.{length_list, get_or_list, join_cong}
use Rattle.format.specs.Limits.{max_tasks}
use Rattle.format.specs.Record.{entry, filled}

pub length_filled : (n : ℕ) (f : ℕ → ℕ) → length (filled n f) ≡ max_tasks
unfolding filled
length_filled n f = length_list (λ i. cond (ltb i n) (f i) 0) max_tasks

-- an entry, one of the first n, and one after them
entry_any : (n : ℕ) (f : ℕ → ℕ) (i : ℕ) → i < max_tasks → get_or (filled n f) i 0 ≡ cond (ltb i n) (f i) 0
unfolding filled
entry_any n f i l = get_or_list (λ j. cond (ltb j n) (f j) 0) max_tasks i 0 l

pub entry_filled : (n : ℕ) (f : ℕ → ℕ) (i : ℕ) → n ≤ max_tasks → i < n → get_or (filled n f) i 0 ≡ f i
entry_filled n f i h l = entry_any n f i (omega arith) ∙ simp (lt-ltb i n l)

pub entry_past : (n : ℕ) (f : ℕ → ℕ) (i : ℕ) → n ≤ i → i < max_tasks → get_or (filled n f) i 0 ≡ 0
entry_past n f i h l = entry_any n f i l ∙ simp (le-ltb i n h)

-- of a list of n entries: each entry is the list's, and past its end both have 0
pub filled_list : (n : ℕ) (xs : List ℕ) → length xs ≡ n → n ≤ max_tasks → entry (filled n (entry xs)) ≡ entry xs
filled_list n xs e few = fun_ext (λ i. go i (ltb i n) refl (ltb i max_tasks) refl)
  where
    past : (i : ℕ) → n ≤ i → 0 ≡ entry xs i
    past i l = sym (get_or-eq_default xs 0 (omega arith))

    go : (i : ℕ) (u : Bool) → ltb i n ≡ u → (v : Bool) → ltb i max_tasks ≡ v → entry (filled n (entry xs)) i ≡ entry xs i
    go i true d v f = entry_filled n (entry xs) i few (ltb-true _ _ d)
    go i false d true f = entry_past n (entry xs) i (ltb-false _ _ d) (ltb-true _ _ f) ∙ past i (ltb-false _ _ d)
    go i false d false f =
        let l : max_tasks ≤ i = ltb-false _ _ f in
        get_or-eq_default (filled n (entry xs)) 0 (omega (arith, length_filled n (entry xs))) ∙ past i (ltb-false _ _ d)

pub filled_cong : (n : ℕ) (f g : ℕ → ℕ) → ((i : ℕ) → i < n → f i ≡ g i) → filled n f ≡ filled n g
unfolding filled
filled_cong n f g h =
    join_cong (λ i. cond (ltb i n) (f i) 0 ∷ []) (λ i. cond (ltb i n) (g i) 0 ∷ []) max_tasks
    (λ i l. ap (λ (v : ℕ). v ∷ []) (pick i (ltb i n) refl))
  where
    pick : (i : ℕ) (b : Bool) → ltb i n ≡ b → cond b (f i) 0 ≡ cond b (g i) 0
    pick i true e = h i (ltb-true i n e)
    pick i false e = refl
