-- The paper's numbers, orders, bytes and lines are those that the rules compute.
use mathlib.Core.Path.{◌≡◌, refl}
use mathlib.Core.Bool.{true}
use Prim.Native.Nat.{◌<◌}
use native.Mathlib.Omega.{arith}
use lib.ListN.{length}
use borrow.Author.Tests.{lt-ltb, ne_eqb}
use mathlib.Core.List.{flatten}
use Rattle.lists.specs.Below.{all_below, any_below, sum_below, greatest_below, join_below}
use Rattle.lists.specs.Splice.{splice}
use Rattle.lists.specs.Stores.{applied}
use Rattle.format.specs.Limits.{format_rule, tasks_rule, power_of_two, blocksize_rule, sizes_rule, planned_rule, maxchunks_rule, is_new, rank_rule, all_different, ranks_rule}
use Rattle.format.specs.Layout.{meta1_end, round_up, data_start, extended, capacity, extended_before, globalskip, chunk_start, meta2_start, meta2_length, meta2_end}
use Rattle.format.specs.Refusals.{first_failing, first_fault}
use Rattle.format.specs.Meta1.{last_fields, meta1_front, meta1, opening_bytes, opening_stores}
use Rattle.format.specs.Meta2.{value_rule, values_rule, least_count, counts_rule, meta2}
use Rattle.format.specs.Record.{filled, lists_of, holds, start_of, meta2_at, end_at, head_sound, too_short, cells_agree, record_tests, is_task}
use Rattle.format.specs.Loaded.{loaded_sound}
use Rattle.format.proofs.Answers.{answer_long}
use Rattle.format.specs.Session.{State, session_sound, session_tests}
use Rattle.format.specs.Open.{shape_tests, number_tests, plan_tests, needs_answer, open_refusal, opens, open_head, open_session, open_lists, blank_cells, open_answer, open_stores, open_image, open_table}
use Rattle.format.specs.Write.{Request, begun, in_last, capacity_of, spot, target, request_tests, write_refusal, stored, after_write}
use Rattle.format.specs.Close.{maxchunks_of, closing_stores, close_refusal, close_answer, close_stores, close_image}
use Rattle.format.specs.Judge.{magic_in, big_in, ordered_in, tasks_in, maxchunks_in, head_in, rank_in, size_in, meta2_in, start_tests, field_tests, fixed_tests, rank_tests, requested_tests, last_tests, rest_tests, meta1_tests, count_in, values_in, count_tests, greatest_test, value_test, value_tests, counts_tests, meta2_tests}
use Rattle.format.specs.Load.{meta2_bytes, loaded_in, lists_in, load_tests, load_refusal, load_fault, check_answer, load_answer, load_table}
use Rattle.format.specs.Reads.{loaded_tests, read_tests, chunks_used, written_in, chunk_bytes, chunk_refusal, chunk_part, chunk_place, part_answer, stream_of, total_of, total_answer, read_refusal, read_answer, read_output}
use Rattle.format.specs.About.{size_tests, chunk_size_answer, before_zero, whole_refusal, length_answer, prefix_answer}
use Rattle.format.specs.Tally.{Terms, Fed, Tally, count_by, outcome, answer_to, feed}
use Rattle.format.specs.Numbers.{Agrees, p_table, other_table}
use Rattle.format.specs.Orders.{order_table}
use Rattle.format.specs.Bytes.{byte_table}
use Rattle.format.specs.Line.{totals_of, loaded, rest, container_line, line_of}
use Rattle.format.specs.Lines.{line_table}
use Rattle.format.specs.Idle.{idle_table}

-- in three parts, since one declaration may take only so many steps
number_tables : Agrees p_table × Agrees other_table
unfolding all_below any_below sum_below greatest_below join_below flatten splice format_rule tasks_rule power_of_two blocksize_rule sizes_rule planned_rule
    maxchunks_rule is_new all_different rank_rule ranks_rule meta1_end round_up data_start extended capacity extended_before globalskip chunk_start
    meta2_start meta2_length meta2_end first_failing first_fault last_fields meta1_front meta1 opening_bytes value_rule values_rule least_count counts_rule meta2 filled lists_of head_sound
    session_sound loaded_sound too_short cells_agree record_tests shape_tests number_tests plan_tests holds start_of meta2_at end_at needs_answer open_refusal opens open_head open_session open_lists blank_cells
    open_answer opening_stores open_stores open_image open_table session_tests begun in_last capacity_of spot target request_tests stored maxchunks_of closing_stores close_stores
    applied write_refusal after_write close_refusal close_answer close_image magic_in big_in ordered_in tasks_in maxchunks_in head_in rank_in size_in meta2_in
    start_tests field_tests fixed_tests rank_tests requested_tests last_tests rest_tests meta1_tests count_in values_in count_tests greatest_test value_test value_tests counts_tests meta2_tests meta2_bytes loaded_in lists_in load_tests load_refusal load_fault check_answer load_answer load_table loaded_tests read_tests chunks_used written_in chunk_bytes
    chunk_refusal chunk_part chunk_place part_answer stream_of total_of total_answer read_refusal read_answer read_output size_tests chunk_size_answer before_zero whole_refusal length_answer prefix_answer outcome feed p_table other_table
number_tables = (
  (refl, (refl, (refl, (refl, (refl, (refl, (refl, (refl, (refl, (refl, (refl, (refl, (refl, tt))))))))))))),
  (refl, (refl, (refl, (refl, (refl, (refl, (refl, (refl, (refl, (refl, (refl, (refl, (refl, (refl, (refl, (refl, (refl, (refl, (refl, (refl, (refl, (refl, (refl, (refl, (refl, tt))))))))))))))))))))))))),
)

text_tables : Agrees order_table × Agrees byte_table × Agrees line_table
unfolding all_below any_below sum_below greatest_below join_below flatten splice format_rule tasks_rule power_of_two blocksize_rule sizes_rule planned_rule
    maxchunks_rule is_new all_different rank_rule ranks_rule meta1_end round_up data_start extended capacity extended_before globalskip chunk_start
    meta2_start meta2_length meta2_end first_failing first_fault last_fields meta1_front meta1 opening_bytes value_rule values_rule least_count counts_rule meta2 filled lists_of head_sound
    session_sound loaded_sound too_short cells_agree record_tests shape_tests number_tests plan_tests holds start_of meta2_at end_at open_refusal opens open_head open_session open_lists blank_cells
    open_answer opening_stores open_stores open_image open_table session_tests begun in_last capacity_of spot target request_tests stored maxchunks_of closing_stores close_stores
    applied write_refusal after_write close_refusal close_answer close_image magic_in big_in ordered_in tasks_in maxchunks_in head_in rank_in size_in meta2_in
    start_tests field_tests fixed_tests rank_tests requested_tests last_tests rest_tests meta1_tests count_in values_in count_tests greatest_test value_test value_tests counts_tests meta2_tests meta2_bytes loaded_in lists_in load_tests load_refusal load_fault check_answer load_answer load_table loaded_tests read_tests chunks_used written_in
    chunk_refusal total_of total_answer read_refusal order_table byte_table totals_of loaded rest container_line line_of line_table
text_tables = (
  (refl, (refl, (refl, (refl, (refl, (refl, (refl, (refl, (refl, (refl, (refl, (refl, (refl, (refl, (refl, (refl, tt)))))))))))))))),
  (refl, (refl, (refl, (refl, (refl, tt))))),
  (refl, (refl, (refl, (refl, (refl, (refl, tt)))))),
)

-- W-209's numbers
pub idle_table_holds : Agrees idle_table
unfolding all_below any_below sum_below greatest_below join_below flatten splice format_rule tasks_rule power_of_two blocksize_rule sizes_rule planned_rule
    maxchunks_rule is_new all_different rank_rule ranks_rule meta1_end round_up data_start extended capacity extended_before globalskip chunk_start
    meta2_start meta2_length meta2_end first_failing first_fault last_fields meta1_front meta1 opening_bytes value_rule values_rule least_count counts_rule meta2 filled lists_of head_sound
    session_sound loaded_sound too_short cells_agree record_tests shape_tests number_tests plan_tests holds start_of meta2_at end_at open_refusal opens open_head open_session open_lists blank_cells
    open_answer opening_stores open_stores open_image open_table session_tests begun in_last capacity_of spot target request_tests stored maxchunks_of closing_stores close_stores
    applied write_refusal after_write close_refusal close_answer close_image magic_in big_in ordered_in tasks_in maxchunks_in head_in rank_in size_in meta2_in
    start_tests field_tests fixed_tests rank_tests requested_tests last_tests rest_tests meta1_tests count_in values_in count_tests greatest_test value_test value_tests counts_tests meta2_tests meta2_bytes loaded_in lists_in load_tests load_refusal load_fault check_answer load_answer load_table loaded_tests read_tests chunks_used written_in
    total_of total_answer totals_of loaded rest container_line line_of count_by outcome feed idle_table
idle_table_holds = (refl, (refl, (refl, (refl, (refl, (refl, (refl, (refl, (refl, (refl, (refl, (refl, (refl, (refl, (refl, tt)))))))))))))))

-- P1 to P13, and the numbers without a P
pub p_table_holds : Agrees p_table
p_table_holds = number_tables.0

pub other_table_holds : Agrees other_table
other_table_holds = number_tables.1

-- the orders of tests, and what is stored, byte by byte
pub order_table_holds : Agrees order_table
order_table_holds = text_tables.0

pub byte_table_holds : Agrees byte_table
byte_table_holds = text_tables.1

-- the program's lines
pub line_table_holds : Agrees line_table
line_table_holds = text_tables.2

-- P13, "refused with 15 at any moment": whatever a session holds, once it passes 17, 18 and 19, and whatever the tally keeps
pub too_long : (st : State) (q : Request) → first_failing (session_tests st) ≡ 0 → is_task st.session.head.n q.task ≡ true
    → capacity_of st q < length q.bytes → write_refusal st q ≡ 15
too_long st q passes task long = answer_long st q passes task long

pub tally_too_long : (p : Terms) (a : Fed) (x : Tally) → p.named a.task ≡ true → p.c a.task < a.L
    → answer_to (outcome p a x) ≡ 15
unfolding outcome
tally_too_long p a x task long = simp (task, ne_eqb a.L 0 (λ e. omega arith), lt-ltb _ _ long)
