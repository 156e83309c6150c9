-- The whole line that a load's answer gives, and how many tasks an accepted container has at most.
use mathlib.Core.Path.{◌≡◌, sym, ap, ap₂, ◌∙◌}
use mathlib.Core.Bool.{Bool, cond}
use mathlib.Core.List.{List, [], ◌∷◌, ◌++◌, append_assoc, append-nil}
use Prim.Native.Nat.{ℕ, ◌≤◌, ◌<◌}
use lib.Dec.{eqb}
use lib.IntN.{ℤ, pos}
use lib.ListN.{length, replicate}
use borrow.Author.Tests.{lt-ltb, le-ltb, eq-eqb, ne_eqb}
use Rattle.format.specs.declared.head.File.TheVariants.{Single}
use Rattle.format.specs.Limits.{max_tasks}
use Rattle.format.specs.Judge.{tasks_in, head_in}
use Rattle.format.proofs.Refusals.{when_accepted}
use Rattle.format.specs.declared.loaded.LoadAnswer.{LoadAnswer}
use Rattle.format.specs.Load.{load_refusal, loaded_in, check_answer, load_answer, load_table}
use Rattle.format.specs.Reads.{container_of}
use Rattle.format.proofs.Accepting.{tasks_in_hold}
use Rattle.format.proofs.LoadTests.{load_holds}
use Rattle.container.proofs.Refusing.{load_number}
use Rattle.format.specs.Line.{decimal, space, spaced, cells, totals_of, longest, long, loaded, rest, container_line, line_of}

-- every input of more than the most bytes has the line `long`, every other its container's line
pub long_line : (input : List ℕ) → longest < length input → line_of input ≡ long
unfolding line_of
long_line input more = rw (lt-ltb longest (length input) more)

pub short_line : (input : List ℕ) → length input ≤ longest → line_of input ≡ container_line input
unfolding line_of
short_line input few = rw (le-ltb longest (length input) few)

-- an accepted container has no more than the most tasks
pub few_tasks : (image : List ℕ) (table : List ℤ) (answer : LoadAnswer) → answer ≡ load_answer Single image table → answer.refusal ≡ 0
    → answer.loaded.head.n ≤ max_tasks
unfolding load_answer check_answer loaded_in head_in tasks_in
few_tasks image table answer e none =
    let z : load_refusal Single image (length table) ≡ 0 = sym (load_number Single image table) ∙ ap (λ (a : LoadAnswer). a.refusal) (sym e) ∙ none in
    let n = ap (λ (a : LoadAnswer). a.loaded.head.n) (e ∙ when_accepted (load_refusal Single image (length table)) _ _ z) in
    rw n (tasks_in_hold (load_holds Single image (length table) z).first.front).2

module _ (image : List ℕ) where
  -- what the line says after the refusal
  abbrev told : LoadAnswer → List ℤ → List ℕ
  told answer table =
      answer.loaded.head.n
      ∷ answer.loaded.maxchunks
      ∷ totals_of (container_of Single answer.loaded answer.lists image table)

  module _ (answer : LoadAnswer) (table : List ℤ) (e : answer ≡ load_answer Single image (replicate cells (pos 0)))
      (t : table ≡ load_table Single image (replicate cells (pos 0))) where
    line_is : decimal answer.refusal ++ spaced (cond (eqb answer.refusal 0) (told answer table) []) ≡ container_line image
    unfolding container_line rest loaded
    line_is =
        ap₂ (λ (a : LoadAnswer) (s : List ℤ). decimal a.refusal ++ spaced (cond (eqb a.refusal 0) (told a s) [])) e t

    by_test : (b : Bool) → eqb answer.refusal 0 ≡ b → decimal answer.refusal ++ spaced (cond b (told answer table) []) ≡ container_line image
    by_test b f =
        ap (λ (b : Bool). decimal answer.refusal ++ spaced (cond b (told answer table) [])) (sym f) ∙ line_is

    pub refused_line : (answer.refusal ≡ 0 → ⊥) → decimal answer.refusal ≡ container_line image
    refused_line some = sym (append-nil (decimal answer.refusal)) ∙ by_test _ (ne_eqb answer.refusal 0 some)

    pub accepted_line : answer.refusal ≡ 0
        → ((decimal answer.refusal ++ (space ∷ decimal answer.loaded.head.n)) ++ (space ∷ decimal answer.loaded.maxchunks))
        ++ spaced (totals_of (container_of Single answer.loaded answer.lists image table))
        ≡ container_line image
    accepted_line none = simp append_assoc (by_test _ (eq-eqb answer.refusal 0 none))
