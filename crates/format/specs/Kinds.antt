-- Document 02, W-205: the kinds of fields that a load judges, each by its number.
use Rattle.std.specs.Prelude.{ℕ}

abbrev pub mark : ℕ
mark = 1

abbrev pub order : ℕ
order = 2

abbrev pub image : ℕ
image = 3

abbrev pub format : ℕ
format = 4

abbrev pub blocksize : ℕ
blocksize = 5

abbrev pub tasks : ℕ
tasks = 6

abbrev pub files : ℕ
files = 7

abbrev pub file_number : ℕ
file_number = 8

abbrev pub rank : ℕ
rank = 9

abbrev pub size : ℕ
size = 10

abbrev pub maxchunks : ℕ
maxchunks = 11

abbrev pub start : ℕ
start = 12

abbrev pub table : ℕ
table = 13

abbrev pub count : ℕ
count = 14

abbrev pub value : ℕ
value = 15

-- of the mapping of a pair (W-204): mapping_size, and of an entry the file that it names, the task, and the rank that this task carries
abbrev pub mapping_size : ℕ
mapping_size = 16

abbrev pub entry_file : ℕ
entry_file = 17

abbrev pub entry_task : ℕ
entry_task = 18

abbrev pub entry_rank : ℕ
entry_rank = 19
