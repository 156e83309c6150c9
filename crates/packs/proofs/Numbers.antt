-- W-210's numbers are those that the rules compute.
use mathlib.Core.Path.{refl}
use mathlib.Core.List.{flatten}
use Rattle.format.specs.Limits.{format_rule, tasks_rule, power_of_two, blocksize_rule, sizes_rule, planned_rule, maxchunks_rule, is_new, all_different, ranks_rule, rank_rule}
use Rattle.format.specs.Layout.{meta1_end, round_up, data_start, extended, capacity, extended_before, globalskip, chunk_start, meta2_start, meta2_length, meta2_end}
use Rattle.format.specs.Refusals.{first_failing, first_fault}
use Rattle.format.specs.Meta1.{last_fields, meta1_front, meta1, opening_bytes, opening_stores}
use Rattle.format.specs.Meta2.{value_rule, values_rule, least_count, counts_rule, meta2}
use Rattle.format.specs.Record.{filled, lists_of, with_counts, file_in, holds, start_of, meta2_at, end_at, head_sound, too_short, cells_agree, record_tests}
use Rattle.format.specs.Session.{session_sound, session_tests}
use Rattle.format.specs.Open.{shape_tests, number_tests, blank_cells, plan_tests, needs_answer, open_refusal, open_head, open_session, open_lists, opens, open_answer, open_stores, open_image, open_found, open_table}
use Rattle.format.specs.Write.{begun, in_last, capacity_of, spot, target, request_tests, write_refusal, stored, after_write, write_stores, write_found}
use Rattle.format.specs.Close.{maxchunks_of, close_refusal, closing_stores, close_answer, close_stores, close_image, close_found}
use Rattle.format.specs.Loaded.{loaded_sound}
use Rattle.format.specs.Judge.{magic_in, big_in, ordered_in, tasks_in, maxchunks_in, head_in, rank_in, size_in, meta2_in, start_tests, field_tests, fixed_tests, rank_tests, requested_tests, last_tests, rest_tests, meta1_tests, count_in, values_in, count_tests, greatest_test, value_test, value_tests, counts_tests, meta2_tests}
use Rattle.format.specs.Load.{meta2_bytes, loaded_in, lists_in, load_tests, load_refusal, load_fault, check_answer, load_answer, load_table}
use Rattle.format.specs.Reads.{loaded_tests, read_tests, chunks_used, written_in, chunk_bytes, chunk_refusal, chunk_part, chunk_place, part_answer, stream_of, total_of, total_answer, read_refusal, read_answer, read_output}
use Rattle.lists.specs.Below.{all_below, any_below, first_not, sum_below, greatest_below, join_below}
use Rattle.lists.specs.Splice.{splice}
use Rattle.lists.specs.Stores.{applied, byte_stores, first_stores, found}
use Rattle.format.specs.Numbers.{Agrees}
use Rattle.packs.specs.Pack.{packed_length, packed_meta1, packed_chunk, packed_bytes, pack_tests, pack_needs, pack_refusal, pack_answer, packed_stores, pack_stores, pack_image, pack_found}
use Rattle.packs.specs.Numbers.{pack_table}

pub pack_table_holds : Agrees pack_table
unfolding format_rule tasks_rule power_of_two blocksize_rule sizes_rule planned_rule maxchunks_rule is_new all_different ranks_rule rank_rule meta1_end round_up
    data_start extended capacity extended_before globalskip chunk_start meta2_start meta2_length meta2_end first_failing first_fault last_fields meta1_front
    meta1 opening_bytes opening_stores value_rule values_rule least_count counts_rule meta2 filled lists_of with_counts file_in holds start_of meta2_at end_at
    head_sound too_short cells_agree record_tests session_sound session_tests shape_tests number_tests blank_cells plan_tests needs_answer open_refusal open_head
    open_session open_lists opens open_answer open_stores open_image open_found open_table begun in_last capacity_of spot target request_tests write_refusal
    stored after_write write_stores write_found maxchunks_of close_refusal closing_stores close_answer close_stores close_image close_found loaded_sound
    magic_in big_in ordered_in tasks_in maxchunks_in head_in rank_in size_in meta2_in start_tests field_tests fixed_tests rank_tests requested_tests last_tests
    rest_tests meta1_tests count_in values_in count_tests greatest_test value_test value_tests counts_tests meta2_tests meta2_bytes loaded_in lists_in load_tests
    load_refusal load_fault check_answer load_answer load_table loaded_tests read_tests chunks_used written_in chunk_bytes chunk_refusal chunk_part chunk_place
    part_answer stream_of total_of total_answer read_refusal read_answer read_output all_below any_below first_not sum_below greatest_below join_below splice
    applied byte_stores first_stores found flatten packed_length packed_meta1 packed_chunk packed_bytes pack_tests pack_needs pack_refusal pack_answer packed_stores
    pack_stores pack_image pack_found pack_table
pack_table_holds = (refl, (refl, (refl, (refl, (refl, tt)))))
