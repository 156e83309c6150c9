-- W-204's orders of tests are those that the rules compute.
use mathlib.Core.Path.{refl}
use mathlib.Core.List.{flatten}
use Rattle.lists.specs.Below.{all_below, any_below, first_not, sum_below, greatest_below, join_below}
use Rattle.lists.specs.Splice.{splice}
use Rattle.lists.specs.Stores.{applied, byte_stores, first_stores, found}
use Rattle.format.specs.Limits.{format_rule, tasks_rule, power_of_two, blocksize_rule, sizes_rule, planned_rule, maxchunks_rule, is_new, all_different, ranks_rule}
use Rattle.format.specs.Layout.{meta1_end, round_up, data_start, extended, capacity, extended_before, globalskip, chunk_start, meta2_start, meta2_length, meta2_end}
use Rattle.format.specs.Refusals.{first_failing}
use Rattle.format.specs.Meta1.{last_fields, meta1_front, meta1, opening_bytes, opening_stores}
use Rattle.format.specs.Meta2.{value_rule, values_rule, least_count, counts_rule, meta2}
use Rattle.format.specs.Record.{filled, lists_of, holds, start_of, meta2_at, end_at, head_sound, too_short, cells_agree, record_tests}
use Rattle.format.specs.Loaded.{loaded_sound}
use Rattle.format.specs.Session.{session_sound, session_tests}
use Rattle.format.specs.Open.{shape_tests, number_tests, plan_tests, open_refusal, opens, open_head, open_session, open_lists, blank_cells, open_stores, open_image, open_found, open_table}
use Rattle.format.specs.Write.{begun, in_last, capacity_of, spot, target, request_tests, write_refusal, stored, after_write, write_stores, write_found}
use Rattle.format.specs.Close.{maxchunks_of, closing_stores}
use Rattle.format.specs.Reads.{chunks_used, written_in, chunk_bytes, chunk_place, stream_of, total_of}
use Rattle.format.specs.Numbers.{Agrees}
use Rattle.pairs.specs.Ranks.{times, carrier, each_once, none_lacking, in_second, local_rank}
use Rattle.pairs.specs.Mapping.{mapping_length, mapping}
use Rattle.pairs.specs.Open.{pair_plan_tests, pair_needs, pair_open_refusal, pair_opens, pair_opened, pair_found, pair_images, pair_tables}
use Rattle.pairs.specs.Sessions.{pair_tests, pair_write_refusal, pair_after_write, pair_write_found, pair_close_refusal, pair_closed, mapping_store, second_stores, pair_close_found, pair_close_images}
use Rattle.pairs.specs.Sessions
use Rattle.pairs.specs.Reads.{loaded_pair_tests, pair_read_tests, pair_chunk_refusal, pair_chunk, pair_part, pair_total, pair_read_refusal, pair_read_answer, pair_read_output}
use Rattle.pairs.specs.Orders.{order_table, sound_table}

-- the orders
pub order_table_holds : Agrees order_table
unfolding all_below any_below sum_below format_rule tasks_rule power_of_two blocksize_rule sizes_rule planned_rule is_new all_different ranks_rule meta1_end round_up
    data_start extended capacity extended_before globalskip meta2_start meta2_length meta2_end first_failing too_short shape_tests number_tests plan_tests times
    each_once mapping_length pair_plan_tests pair_needs pair_open_refusal first_not chunk_start value_rule values_rule holds start_of meta2_at end_at head_sound
    cells_agree session_sound none_lacking carrier in_second local_rank pair_tests request_tests begun in_last capacity_of spot pair_write_refusal greatest_below
    join_below least_count filled lists_of pair_close_refusal pair_closed maxchunks_of maxchunks_rule counts_rule loaded_sound loaded_pair_tests chunks_used
    written_in chunk_bytes chunk_place stream_of total_of pair_read_tests pair_chunk_refusal pair_chunk pair_part pair_total pair_read_refusal pair_read_answer
    pair_read_output order_table
order_table_holds = (refl, (refl, (refl, (refl, (refl, (refl, (refl, (refl, (refl, (refl, (refl, (refl, (refl, (refl, (refl, (refl, tt))))))))))))))))

-- 17, and what refused calls leave
pub sound_table_holds : Agrees sound_table
unfolding all_below any_below sum_below format_rule tasks_rule power_of_two blocksize_rule sizes_rule planned_rule is_new all_different ranks_rule meta1_end round_up
    data_start extended capacity extended_before globalskip meta2_start meta2_length meta2_end first_failing too_short shape_tests number_tests plan_tests times
    each_once mapping_length pair_plan_tests pair_needs pair_open_refusal join_below flatten splice applied last_fields meta1_front meta1 opening_bytes
    opening_stores least_count filled lists_of open_refusal opens open_head open_session open_lists blank_cells open_stores open_image open_table pair_opens
    pair_opened pair_images pair_tables byte_stores first_stores found open_found pair_found first_not chunk_start value_rule values_rule holds start_of meta2_at
    end_at head_sound cells_agree session_sound none_lacking carrier in_second local_rank pair_tests request_tests begun in_last capacity_of spot
    pair_write_refusal record_tests session_tests target write_refusal stored after_write pair_after_write write_stores write_found pair_write_found greatest_below
    meta2 maxchunks_of closing_stores mapping pair_close_refusal pair_closed mapping_store Sessions.first_stores second_stores pair_close_found pair_close_images
    maxchunks_rule counts_rule loaded_sound loaded_pair_tests chunks_used written_in chunk_bytes chunk_place stream_of total_of pair_read_tests pair_chunk_refusal
    pair_chunk pair_part pair_total pair_read_refusal pair_read_answer pair_read_output sound_table
sound_table_holds = (refl, (refl, (refl, (refl, (refl, (refl, (refl, (refl, (refl, (refl, tt))))))))))
