-- W-205's numbers are those that the rules compute.
use mathlib.Core.Path.{refl}
use mathlib.Core.List.{flatten}
use Rattle.lists.specs.Below.{all_below, any_below, sum_below, greatest_below, join_below}
use Rattle.lists.specs.Splice.{splice}
use Rattle.format.specs.Limits.{format_rule, tasks_rule, power_of_two, blocksize_rule, maxchunks_rule, is_new, rank_rule}
use Rattle.format.specs.Layout.{meta1_end, round_up, data_start, extended, capacity, extended_before, globalskip, meta2_start, meta2_length, meta2_end}
use Rattle.format.specs.Refusals.{first_failing, first_fault}
use Rattle.format.specs.Meta1.{last_fields, meta1_front, meta1}
use Rattle.format.specs.Meta2.{value_rule, least_count}
use Rattle.format.specs.Record.{holds, meta2_at, end_at}
use Rattle.format.specs.Judge.{magic_in, big_in, ordered_in, tasks_in, maxchunks_in, head_in, size_in, meta2_in, start_tests, field_tests, fixed_tests, rank_tests, requested_tests, last_tests, rest_tests, meta1_tests, count_in, count_tests, greatest_test, value_test, value_tests, counts_tests, meta2_tests}
use Rattle.format.specs.Load.{meta2_bytes, load_tests, load_refusal, load_fault}
use Rattle.format.specs.Numbers.{Agrees}
use Rattle.format.specs.Places.{place_table, late_table}

place_tables : Agrees place_table × Agrees late_table
unfolding all_below any_below sum_below greatest_below join_below flatten splice format_rule tasks_rule power_of_two blocksize_rule maxchunks_rule is_new rank_rule
    meta1_end round_up data_start extended capacity extended_before globalskip meta2_start meta2_length meta2_end first_failing first_fault last_fields meta1_front meta1
    value_rule least_count holds meta2_at end_at magic_in big_in ordered_in tasks_in maxchunks_in head_in size_in meta2_in start_tests field_tests
    fixed_tests rank_tests requested_tests last_tests rest_tests meta1_tests count_in count_tests greatest_test value_test value_tests counts_tests meta2_tests meta2_bytes
    load_tests load_refusal load_fault place_table late_table
place_tables = (
  (refl, (refl, (refl, (refl, (refl, (refl, (refl, (refl, (refl, (refl, (refl, (refl, (refl, (refl, (refl, (refl, (refl, (refl, (refl, (refl, (refl, (refl, tt)))))))))))))))))))))),
  (refl, (refl, (refl, (refl, (refl, (refl, (refl, (refl, (refl, (refl, (refl, (refl, (refl, (refl, (refl, (refl, (refl, (refl, (refl, (refl, (refl, (refl, (refl, (refl, (refl, (refl, (refl, (refl, (refl, (refl, (refl, (refl, (refl, (refl, (refl, (refl, (refl, (refl, (refl, (refl, (refl, (refl, (refl, (refl, (refl, (refl, (refl, (refl, tt)))))))))))))))))))))))))))))))))))))))))))))))),
)

-- 1 to 11
pub place_table_holds : Agrees place_table
place_table_holds = place_tables.0

-- 12, 18 and 13, and several faults at once
pub late_table_holds : Agrees late_table
late_table_holds = place_tables.1
