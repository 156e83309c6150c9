-- W-212's numbers are those that the rules compute.
use mathlib.Core.Path.{refl}
use mathlib.Core.List.{flatten}
use Rattle.lists.specs.Below.{all_below, any_below, sum_below, greatest_below, join_below}
use Rattle.lists.specs.Splice.{splice}
use Rattle.lists.specs.Stores.{applied, byte_stores, first_stores, found}
use Rattle.format.specs.Limits.{format_rule, tasks_rule, power_of_two, blocksize_rule, sizes_rule, planned_rule, maxchunks_rule, is_new, rank_rule, all_different, ranks_rule}
use Rattle.format.specs.Layout.{meta1_end, round_up, data_start, extended, capacity, extended_before, globalskip, chunk_start, meta2_start, meta2_length, meta2_end}
use Rattle.format.specs.Refusals.{first_failing, first_fault}
use Rattle.format.specs.Meta1.{last_fields, meta1_front, meta1, opening_bytes, opening_stores}
use Rattle.format.specs.Meta2.{value_rule, values_rule, least_count, counts_rule, meta2}
use Rattle.format.specs.Record.{filled, lists_of, holds, start_of, meta2_at, end_at, head_sound, too_short, cells_agree, record_tests}
use Rattle.format.specs.Session.{session_sound, session_tests}
use Rattle.format.specs.Open.{shape_tests, number_tests, plan_tests, open_refusal, opens, open_head, open_session, open_lists, blank_cells, open_answer, open_stores, open_image, open_found, open_table}
use Rattle.format.specs.Write.{begun, in_last, capacity_of, spot, target, request_tests, write_refusal, stored, after_write, write_stores, write_found}
use Rattle.format.specs.Close.{maxchunks_of, closing_stores, close_refusal, close_answer, close_stores, close_image, close_found}
use Rattle.format.specs.Judge.{magic_in, big_in, ordered_in, tasks_in, maxchunks_in, head_in, size_in, meta2_in, start_tests, field_tests, fixed_tests, rank_tests, requested_tests, last_tests, rest_tests, meta1_tests, count_in, count_tests, greatest_test, value_test, value_tests, counts_tests, meta2_tests}
use Rattle.format.specs.Load.{meta2_bytes, load_tests, load_refusal, load_fault}
use Rattle.format.specs.Numbers.{Agrees}
use Rattle.format.specs.Moments.{moment_table}

pub moment_table_holds : Agrees moment_table
unfolding all_below any_below sum_below greatest_below join_below flatten splice format_rule tasks_rule power_of_two blocksize_rule sizes_rule planned_rule maxchunks_rule is_new all_different rank_rule ranks_rule meta1_end round_up data_start extended capacity extended_before globalskip chunk_start meta2_start meta2_length meta2_end first_failing last_fields meta1_front meta1 opening_bytes value_rule values_rule least_count counts_rule meta2 filled lists_of head_sound session_sound too_short cells_agree record_tests shape_tests number_tests plan_tests holds start_of meta2_at end_at open_refusal opens open_head open_session open_lists blank_cells open_answer opening_stores open_stores open_image open_table session_tests begun in_last capacity_of spot target request_tests stored maxchunks_of closing_stores close_stores applied write_refusal after_write close_refusal close_answer close_image magic_in big_in ordered_in tasks_in maxchunks_in head_in size_in meta2_in start_tests field_tests fixed_tests rank_tests requested_tests last_tests rest_tests meta1_tests count_in count_tests greatest_test value_test value_tests counts_tests meta2_tests meta2_bytes load_tests load_refusal load_fault first_fault byte_stores first_stores found open_found write_stores write_found close_found moment_table
moment_table_holds = (refl, (refl, (refl, (refl, (refl, (refl, (refl, (refl, (refl, (refl, (refl, (refl, (refl, (refl, (refl, (refl, (refl, (refl, (refl, (refl, (refl, (refl, tt))))))))))))))))))))))
