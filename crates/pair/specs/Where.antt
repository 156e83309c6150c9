-- W-205 of a pair (W-204): where a load of two files broke. File 0's fields are judged first, then file 1's, each as a single file's, then the mapping's;
-- a refused load names the first that breaks its rule, and the file that it stands in. Ranks are counted from 0, as the mapping's entries are.
use Rattle.std.specs.Prelude.{◌≡◌, cond, List, [], ◌∷◌, ◌++◌, ◌⊎◌, ℕ, suc, ◌+◌, ◌*◌, ◌≤◌, ◌<◌, eqb, ℤ, pos, length}
use Rattle.lists.specs.Below.{join_below}
use Rattle.lists.specs.Logic.{Not}
use Rattle.endian.specs.Signed.{natural}
use Rattle.format.specs.declared.head.File.TheVariants.{First, Second}
use Rattle.format.specs.declared.fault.Fault.{Fault}
use Rattle.format.specs.Refusals.{no_fault}
use Rattle.pairs.specs.Load.{pair_loaded}
use Rattle.container.specs.Where.{int, long, n, end, judged, Keeps, Every, Broken}

-- "in 25 mapping_size, then the fit, then the entries": mapping_size has to stand within the image before it is read
pub data MappingField : Type 0 where
  sizeFit size fit : MappingField
  file task rank : ℕ → MappingField

-- the refusal number of each; its kind; of which entry it is, counted from 1, and 0 where it is of none; and 0, as none is of a chunk
abbrev pub mapping_named : MappingField → List ℕ
mapping_named sizeFit = 25 ∷ 3 ∷ 0 ∷ 0 ∷ []
mapping_named size = 25 ∷ 16 ∷ 0 ∷ 0 ∷ []
mapping_named fit = 25 ∷ 3 ∷ 0 ∷ 0 ∷ []
mapping_named (file r) = 25 ∷ 17 ∷ suc r ∷ 0 ∷ []
mapping_named (task r) = 25 ∷ 18 ∷ suc r ∷ 0 ∷ []
mapping_named (rank r) = 25 ∷ 19 ∷ suc r ∷ 0 ∷ []

module _ (image image' : List ℕ) where
  -- "the sum of both files' tasks"
  abbrev pub ranks : ℕ
  ranks = n image + n image'

  -- where an entry stands, and its two numbers
  abbrev pub entry_at : ℕ → ℕ
  entry_at r = end image + 4 + 8 * r

  abbrev pub file_said : ℕ → ℤ
  file_said r = int image (entry_at r)

  abbrev pub task_said : ℕ → ℤ
  task_said r = int image (entry_at r + 4)

  -- of the file that an entry names, 0 or else 1: its image, and the rank that the named task carries there
  abbrev pub image_named : ℕ → List ℕ
  image_named r = cond (eqb (natural (file_said r)) 0) image image'

  abbrev pub rank_said : ℕ → ℕ
  rank_said r = natural (long (image_named r) (1076 + 8 * natural (task_said r)))

  -- where a field stands, in file 0: "for 3 and .. a mapping that does not fit, the image length", "for a mapping entry, its start"
  abbrev pub mapping_place : MappingField → ℕ
  mapping_place sizeFit = length image
  mapping_place size = end image
  mapping_place fit = length image
  mapping_place (file r) = entry_at r
  mapping_place (task r) = entry_at r
  mapping_place (rank r) = entry_at r

  -- what it says: the number that stands there, a length, or the rank that the task carries which the entry names
  abbrev pub mapping_says : MappingField → ℤ
  mapping_says sizeFit = pos (length image)
  mapping_says size = int image (end image)
  mapping_says fit = pos (length image)
  mapping_says (file r) = file_said r
  mapping_says (task r) = task_said r
  mapping_says (rank r) = pos (rank_said r)

  -- the order in which they are judged
  abbrev pub mapping_judged : List MappingField
  mapping_judged = (sizeFit ∷ size ∷ fit ∷ []) ++ join_below ranks (λ r. file r ∷ task r ∷ rank r ∷ [])

  -- the rule of each: "Each entry names an existing task that carries that rank"
  abbrev pub MappingKeeps : MappingField → Type 0
  MappingKeeps sizeFit = end image + 4 ≤ length image
  MappingKeeps size = int image (end image) ≡ pos ranks
  MappingKeeps fit = end image + (4 + 8 * ranks) ≤ length image
  MappingKeeps (file r) = (file_said r ≡ pos 0) ⊎ (file_said r ≡ pos 1)
  MappingKeeps (task r) = (i : ℕ) × (task_said r ≡ pos i) × (i < n (image_named r))
  MappingKeeps (rank r) = rank_said r ≡ r

  -- something holds of each field of a list
  abbrev pub EveryField : (MappingField → Type 0) → List MappingField → Type 0
  EveryField P [] = Unit {0}
  EveryField P (f ∷ fs) = P f × EveryField P fs

  -- a refusal of the mapping with what it names: one of its fields, which breaks its rule, and every field of it that is judged earlier keeps its own
  pub record MappingBroken (refusal : ℕ) (fault : Fault) : Type 0 where
    pub field : MappingField
    pub earlier : List MappingField
    pub later : List MappingField
    pub in_order : mapping_judged ≡ earlier ++ (field ∷ later)
    pub names : refusal ∷ fault.field ∷ fault.task ∷ fault.chunk ∷ [] ≡ mapping_named field
    pub stands_at : fault.place ≡ mapping_place field
    pub says_so : fault.says ≡ mapping_says field
    pub breaks : Not (MappingKeeps field)
    pub kept : EveryField MappingKeeps earlier

  module _ (table table' : List ℤ) where
    -- all fields of a file keep their rules
    abbrev pub Kept₀ : Type 0
    Kept₀ = Every (Keeps image First (length table)) (judged image)

    abbrev pub Kept₁ : Type 0
    Kept₁ = Every (Keeps image' Second (length table')) (judged image')

    -- "for a pair, and its file": a field of file 0; one of file 1, where all of file 0 keep theirs; or one of the mapping, where all of both do
    pub data PairBroken : Type 0 where
      in_first : (pair_loaded image image' table table').file ≡ 0
          → Broken First image (length table) (pair_loaded image image' table table').refusal (pair_loaded image image' table table').fault
          → PairBroken
      in_second_file : Kept₀ → (pair_loaded image image' table table').file ≡ 1
          → Broken Second image' (length table') (pair_loaded image image' table table').refusal (pair_loaded image image' table table').fault
          → PairBroken
      in_mapping : Kept₀ → Kept₁ → (pair_loaded image image' table table').file ≡ 0
          → MappingBroken (pair_loaded image image' table table').refusal (pair_loaded image image' table table').fault
          → PairBroken

    pub record PairSaysWhere : Type 0 where
      pub refused : 0 < (pair_loaded image image' table table').refusal → PairBroken
      pub accepted : (pair_loaded image image' table table').refusal ≡ 0
          → ((pair_loaded image image' table table').file ≡ 0)
          × ((pair_loaded image image' table table').fault ≡ no_fault)
          × Kept₀
          × Kept₁
          × EveryField MappingKeeps mapping_judged
